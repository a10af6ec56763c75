use Rattle.std.proofs.Common.{refl}
use Rattle.wsgi_core.proofs.ProgressSteps.{one_err}
use Rattle.scgi_core.proofs.StepLaws.{closed_on, nothing_begins}
use Rattle.scgi_core.proofs.session.ScgiSessionTalk.feed.Goals as goal

pub returns-then-self-2-clause-fed : goal.returns-then-self-2-clause-fed
returns-then-self-2-clause-fed g c =
    λ port fed taken h. closed_on (g.A.Application.answer_of c.args.app.now) port fed c.args.piece.now _ taken c.args.self.now c.if-self-2.true h

pub returns-then-is_err-clause-cut : goal.returns-then-is_err-clause-cut
returns-then-is_err-clause-cut g c =
    one_err c.feed_open-fed.result _ _ c.feed_open-fed.ensures.err
    (λ same port fed taken h. nothing_begins (g.A.Application.answer_of c.args.app.now) port fed c.args.piece.now taken c.args.self.now _ c.if-self-2.false refl same h)
