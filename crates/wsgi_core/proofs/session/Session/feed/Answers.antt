use Rattle.std.proofs.Common.{refl, sym, ap, ◌∙◌, ◌++◌, ℕ}
use Rattle.wsgi_core.specs.Session.{answers}
use Rattle.wsgi_core.proofs.ProgressSteps.{one_err, three_ok}
use Rattle.wsgi_core.proofs.session.Session.feed.Goals as goal

pub returns-then-is_err-clause-stopped : goal.returns-then-is_err-clause-stopped
returns-then-is_err-clause-stopped g c =
    let app = g.A.Application.answer_of c.args.app.now in
    one_err c.feed_open-fed.result _ _ c.feed_open-fed.ensures.due
    (λ due port fed taken h. let d = due fed taken h.stands in
    record { closing = refl; tail = d.0; due = ap (λ (n : ℕ). (answers app n (fed ++ c.args.piece.now)).bytes) (sym h.same_port) ∙ d.1 })

pub returns-else-is_err-clause-is_at : goal.returns-else-is_err-clause-is_at
returns-else-is_err-clause-is_at g c =
    three_ok c.feed_open-fed.result _ _ _ _ c.feed_open-fed.ensures.stands c.feed_open-fed.ensures.settled c.feed_open-fed.ensures.quiet
    (λ stands settled quiet port fed taken h. record {
      stands_at = record {
        same_port = c.feed_open-fed.ensures.same_port ∙ h.same_port;
        same_end = c.feed_open-fed.ensures.same_end ∙ h.same_end;
        stands = stands fed taken h.stands;
        settled = λ _. settled;
      };
      quiet = quiet;
    })
