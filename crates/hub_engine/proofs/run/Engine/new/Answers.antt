use Rattle.std.proofs.Common.{refl, ap, sym, ◌∙◌, subst}
use Rattle.machine.specs.Run.{first_state}
use Rattle.hub_engine.specs.Ready.{IsPrepared}
use Rattle.hub_engine.proofs.run.Engine.new.Goals as goal

pub invariant_of-result : goal.invariant_of-result
invariant_of-result c =
    let may = c.may_run.ensures in
    record {
      prepared = subst IsPrepared (sym (c.in_ok-hub.ensures ∙ ap first_state c.in_ok-code.ensures.code))
          (record { may_run = record { well_formed = may.well_formed; main = may.main; countable = may.countable }; first = refl });
      few = c.in_ok-code.ensures.few;
    }
