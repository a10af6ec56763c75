use Rattle.std.proofs.Common.{sym, subst}
use Rattle.std.specs.Prelude.{◌++◌}
use Rattle.wsgi_core.specs.Applications.{App}
use Rattle.wsgi_core.specs.Standings.{IsFed}
use Rattle.stream_server.specs.Answering.{answering}
use Rattle.stream_server.specs.Services.{IsCutAt}
use Rattle.stream_server.proofs.answering.AnsweringServiceUnit.feed.Goals as goal

pub returns-in-Ok-clause-fed : goal.returns-in-Ok-clause-fed
returns-in-Ok-clause-fed g c = λ w apps conn same.
    subst (λ (a : App). IsFed g.T.Talk.is_at g.T.Talk.is_at a c.args.piece.now c.args.talk.now c.feed.new.self) (sym (same conn)) c.in-Ok.ensures.fed

pub returns-in-Err-clause-cut : goal.returns-in-Err-clause-cut
returns-in-Err-clause-cut g c = λ w apps conn same.
    subst (λ (a : App). IsCutAt (answering g.T.Talk.answers g.T.Talk.is_at g.T.Talk.due) a c.args.piece.now c.args.talk.now c.feed.new.self) (sym (same conn))
    (λ port fed taken at. g.T.Talk.begins (g.A.Application.answer_of c.args.self.now.app.now) port (fed ++ c.args.piece.now) taken c.feed.new.self (c.in-Err.ensures.cut port fed taken at))
