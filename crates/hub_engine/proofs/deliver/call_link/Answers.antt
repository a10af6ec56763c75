use Rattle.std.proofs.Common.{◌+◌, subst, sym, slice_get}
use Rattle.machine.specs.State.{State}
use Rattle.hub_objects.specs.Counted.{MayCount}
use Rattle.hub_engine.specs.Settlings.{most_hops}
use Rattle.hub_engine.proofs.Settlings.{settles_changed, settles_first, settles_said}
use Rattle.hub_engine.proofs.deliver.call_link.Goals as goal

pub settle-requires : goal.settle-requires
settle-requires c = settles_first c.say.new.self (settles_said (most_hops + 2) _ c.args.hub.now c.say.new.self c.in_ok-say-in-Mark.ensures c.requires.settles)

pub change-requires : goal.change-requires
change-requires c = subst (λ (s : State). MayCount 1 (slice_get s.objects c.in-Set.o)) (sym c.in_ok-say-in-Set.ensures) (c.requires.counts c.in-Set.o)

pub settle-requires-in-Set : goal.settle-requires-in-Set
settle-requires-in-Set c =
    let said = settles_said (most_hops + 2) _ c.args.hub.now c.say-in-Set.new.self c.in_ok-say-in-Set.ensures c.requires.settles in
    settles_first c.change.new.self (settles_changed (most_hops + 2) c.in-Set.o _ c.say-in-Set.new.self c.change.new.self c.change.ensures said)
