use Rattle.std.proofs.Common.{◌∙◌, ap, sym, subst, ◌++◌, ◌∷◌, [], List, slice_get, Some}
use Rattle.machine.specs.declared.state.JobState.{JobState}
use Rattle.machine.specs.State.{State}
use Rattle.hub_objects.specs.Counted.{MayCount}
use Rattle.hub_state.specs.HubParts.{state_of}
use Rattle.hub_state.proofs.Keeping.{hub_posted}
use Rattle.hub_state.proofs.UpToDate.{ascending}
use Rattle.hub_state.proofs.hub.Hub.post.Goals as goal

pub change-requires : goal.change-requires
change-requires c = subst (λ (s : State). MayCount 1 (slice_get s.objects c.args.o)) (sym c.self.view_is) c.requires.slot

pub invariant_of-self-2 : goal.invariant_of-self-2
invariant_of-self-2 c =
    let s = state_of c.self.inside in
    let posted = c.push_reserved.ensures.items ∙ ap (λ (js : List JobState). js ++ c.new.result ∷ []) c.reserve.ensures.items ∙ ap (λ (job : JobState). s.jobs ++ job ∷ []) c.new.ensures in
    record {
      kept =
          hub_posted c.args.g c.args.o c.args.job c.args.takes c.self.inside.held c.self.inside.touched c.touch.new.self s c.change.new.self c.push_reserved.new.self.items c.push_reserved-3.new.self.items
          c.push_reserved-2.new.self.items (ascending 0 _ _ c.items_stand_in_order.ensures.ascends) c.touch.ensures c.change.ensures posted c.self.invariant.kept;
      room = c.self.invariant.room;
    }
