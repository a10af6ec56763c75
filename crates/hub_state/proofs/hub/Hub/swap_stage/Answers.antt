use Rattle.std.proofs.Common.{◌≡◌, subst, sym}
use Rattle.std.specs.Prelude.{◌||◌, is_some}
use Rattle.machine.specs.Holds.{is_done, outcome_of_phase}
use Rattle.machine.specs.State.{State}
use Rattle.hub_state.specs.HubParts.{state_of}
use Rattle.hub_state.specs.Phases.{phase_of_stage}
use Rattle.hub_state.proofs.Keeping.{hub_comes}
use Rattle.hub_state.proofs.UpToDate.{ascending}
use Rattle.hub_state.proofs.hub.Hub.swap_stage.Goals as goal

pub invariant_of-self : goal.invariant_of-self
invariant_of-self c =
    let s = state_of c.self.inside in
    let ended = subst (λ (r : State). c.is_end-ended.result ≡ (is_done r c.args.g || is_some (outcome_of_phase (phase_of_stage c.args.stage.now)))) (sym c.self.view_is) c.is_end-ended.ensures in
    record {
      kept =
          hub_comes c.args.g (phase_of_stage c.args.stage.now) c.is_end-ended.result c.self.inside.held c.self.inside.touched c.touch_end.new.self s c.swap.new.self (ascending 0 _ _ c.items_stand_in_order.ensures.ascends) ended c.touch_end.ensures
          c.swap.ensures.set c.self.invariant.kept;
      room = c.self.invariant.room;
    }
