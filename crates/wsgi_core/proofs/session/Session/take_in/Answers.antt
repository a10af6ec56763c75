use Rattle.std.proofs.Common.{refl, sym, ap, ◌∙◌, ◌++◌, ℕ}
use Rattle.wsgi_core.specs.Session.{answers}
use Rattle.wsgi_core.proofs.ProgressSteps.{one_err, three_ok}
use Rattle.wsgi_core.proofs.session.Session.take_in.Goals as goal

pub returns-then-is_err-clause-stopped : goal.returns-then-is_err-clause-stopped
returns-then-is_err-clause-stopped c =
    one_err c.take_open-taken_in.result _ _ c.take_open-taken_in.ensures.due
    (λ due app port fed taken h. let d = due app fed taken h.stands in
    record { closing = refl; tail = d.0; due = ap (λ (n : ℕ). (answers app n (fed ++ c.args.piece.now)).bytes) (sym h.same_port) ∙ d.1 })

pub returns-else-is_err-clause-stands_at : goal.returns-else-is_err-clause-stands_at
returns-else-is_err-clause-stands_at c =
    three_ok c.take_open-taken_in.result _ _ _ _ c.take_open-taken_in.ensures.stands c.take_open-taken_in.ensures.settled c.take_open-taken_in.ensures.settled
    (λ stands settled _ app port fed taken h. record {
      same_port = c.take_open-taken_in.ensures.same_port ∙ h.same_port;
      same_end = c.take_open-taken_in.ensures.same_end ∙ h.same_end;
      stands = stands app fed taken h.stands;
      settled = λ quiet. settled quiet app;
    })
