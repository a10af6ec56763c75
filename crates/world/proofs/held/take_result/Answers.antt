use Rattle.std.specs.Prelude.{None}
use Rattle.world_rules.specs.declared.question.Question.{Question}
use Rattle.world.proofs.LegalLogs.{logged_asked}
use Rattle.world.proofs.held.take_result.Goals as goal

pub returns-clause-logged : goal.returns-clause-logged
returns-clause-logged g c = λ h.
    logged_asked (g.W.World.meaning c.args.inner.now) (g.W.World.meaning c.ask.new.self) (g.W.World.stands_for c.args.inner.now) (g.W.World.stands_for c.ask.new.self)
    (Question.Wait None) c.in_ok-number.field-0 h c.in_ok-number.ensures.legal c.in_ok-number.ensures.stored c.in_ok-number.ensures.log
