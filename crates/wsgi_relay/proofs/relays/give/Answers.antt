use Rattle.std.proofs.Common.{ap, sym, subst, ◌∙◌}
use Rattle.wsgi_relay.proofs.Talking.{at_ok}
use Rattle.wsgi_core.specs.Steps.{StandsAt, answered_of}
use Rattle.wsgi_core.specs.declared.session.Session.{Session}
use Rattle.wsgi_relay.proofs.relays.give.Goals as goal

pub returns-clause-gives : goal.returns-clause-gives
returns-clause-gives c =
    let e = c.freed.ensures in
    record {
      conn = e.conn;
      ended = e.ended;
      free = e.free;
      answered = ap (λ (s : Session). answered_of s) e.session ∙ at_ok c.answer.result c.if-is_err.ensures.value c.answer.ensures.counted;
      later = e.later;
      stands = λ app is port fed ended taken at. subst (λ (s : Session). StandsAt app port fed ended taken s) (sym e.session)
          (at_ok c.answer.result c.if-is_err.ensures.value c.answer.ensures.stands_at app port fed ended taken is at);
    }
