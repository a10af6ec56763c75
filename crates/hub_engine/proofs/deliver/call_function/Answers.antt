use Rattle.std.proofs.Common.{◌+◌, sym, subst, false, arith}
use Rattle.machine.specs.State.{State}
use Rattle.body_values.specs.Functions.{IsFunction}
use Rattle.hub_engine.specs.Settlings.{most_hops}
use Rattle.hub_engine.proofs.Functions.{declared_made, declared_said}
use Rattle.hub_engine.proofs.Readily.{is_function_there}
use Rattle.hub_engine.proofs.Settlings.{settles_fewer, settles_made, settles_said}
use Rattle.hub_engine.proofs.deliver.call_function.Goals as goal

pub start_body-requires : goal.start_body-requires
start_body-requires c =
    let here : IsFunction c.args.hub.now.scenario c.args.function = is_function_there c.args.hub.now.scenario c.args.function c.requires.fits in
    record {
      declared = declared_made false 0 c.args.function _ c.say.new.self c.add_greenlet.new.self
          (declared_said _ c.args.hub.now c.say.new.self c.requires.declared c.in_ok-say.ensures)
          (subst (λ (x : State). IsFunction x.scenario c.args.function) (sym c.in_ok-say.ensures) here)
          c.in_ok-made.ensures.made;
      settles = settles_fewer (most_hops + 2) (most_hops + 1) c.add_greenlet.new.self (omega arith)
          (settles_made (most_hops + 2) false 0 c.args.function _ c.say.new.self c.add_greenlet.new.self c.in_ok-made.ensures.made
          (settles_said (most_hops + 2) _ c.args.hub.now c.say.new.self c.in_ok-say.ensures c.requires.settles));
    }
