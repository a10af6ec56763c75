use Rattle.std.proofs.Common.{ap, subst, sym, ◌∙◌}
use Rattle.machine.specs.Holds.{delivery_holds}
use Rattle.hub_state.specs.Over.{whole}
use Rattle.hub_state.specs.Waiters.{IsBefore}
use Rattle.hub_state.proofs.base.Base.delivery_holds.Goals as goal

pub returns-in-Wake : goal.returns-in-Wake
returns-in-Wake c = λ held ahead.
    c.wait_holds.ensures held (subst (IsBefore c.args.before (whole c.args.self.now held) c.args.since) c.in-Wake.is ahead)
    ∙ ap (delivery_holds (whole c.args.self.now held) c.args.since) (sym c.in-Wake.is)
