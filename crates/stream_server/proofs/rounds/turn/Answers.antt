use Rattle.std.proofs.Common.{◌≡◌, arith, sym, ◌∙◌, ap, Result, Err}
use Rattle.std.proofs.lemmas.Bool.Decides.{nat_tests}
use Rattle.std.proofs.lemmas.Result.{err_from_is_err_and}
use Rattle.stream_server.specs.declared.rounds.Round.{Round}
use Rattle.stream_server.specs.declared.rounds.RoundFault.{RoundFault}
use Rattle.stream_server.specs.Tables.{client_count}
use Rattle.stream_server.proofs.Faring.{fares_then, fares_well, no_fault}
use Rattle.stream_server.proofs.Rounding.{all_asked, none_listed, returned_fault, running_closed, running_left, some_listed}
use Rattle.stream_server.proofs.rounds.turn.Goals as goal
use Rattle.stream_server.proofs.rounds.turn.Goals.{then-accepted-limits+else-is_empty, else-accepted-limits}

handed_on : {A B : Type 0} (r : Result A RoundFault) (v f one : RoundFault) → r ≡ Err v → v ≡ f → ◌≡◌ {A = Result B RoundFault} (Err f) (Err one) → r ≡ Err one
handed_on r v f one is from e = let same : v ≡ one = cc in is ∙ ap (λ (x : RoundFault). Err x) same

pub returns-in_err-poll_service-clause-fares : goal.returns-in_err-poll_service-clause-fares
returns-in_err-poll_service-clause-fares g c =
    let p = err_from_is_err_and c.from_residual.result c.from_residual.ensures.1 in
    let kept = c.poll_service.ensures.keeps in
    fares_well _ _ _ _ kept.listens kept.faults (λ e. c.in_err-poll_service.ensures.no_listener (returned_fault c.from_residual.result _ _ RoundFault.Listener p.1 p.2 e))

pub returns-in_err-accepted-clause-fares : goal.returns-in_err-accepted-clause-fares
returns-in_err-accepted-clause-fares g c =
    let p = err_from_is_err_and c.from_residual-in_err-accepted.result c.from_residual-in_err-accepted.ensures.1 in
    let kept = c.poll_service.ensures.keeps in
    fares_then _ _ _ _ _ _ kept.listens kept.faults c.in_err-accepted.ensures.fares
    (λ e. returned_fault c.from_residual-in_err-accepted.result _ _ RoundFault.Listener p.1 p.2 e)
    (λ e. handed_on c.from_residual-in_err-accepted.result _ _ RoundFault.Listener p.1 p.2 e)

pub returns-in_err-wait_next-clause-fares : goal.returns-in_err-wait_next-clause-fares
returns-in_err-wait_next-clause-fares g c =
    let p = err_from_is_err_and c.from_residual-in_err-wait_next.result c.from_residual-in_err-wait_next.ensures.1 in
    let kept = c.poll_service.ensures.keeps in
    let accepted = c.in_ok-accepted.ensures.fares in
    fares_then _ _ _ _ _ _ (accepted.listens ∙ kept.listens) (accepted.unfailed (no_fault c.in_ok-accepted.accepted RoundFault.Listener) ∙ kept.faults) c.in_err-wait_next.ensures.fares
    (λ e. returned_fault c.from_residual-in_err-wait_next.result _ _ RoundFault.Listener p.1 p.2 e)
    (λ e. handed_on c.from_residual-in_err-wait_next.result _ _ RoundFault.Listener p.1 p.2 e)

pub returns-then-is_empty-clause-fares : goal.returns-then-is_empty-clause-fares
returns-then-is_empty-clause-fares g c =
    let kept = c.poll_service.ensures.keeps in
    let accepted = c.in_ok-accepted.ensures.fares in
    fares_well _ _ _ _ (accepted.listens ∙ kept.listens) (accepted.unfailed (no_fault c.in_ok-accepted.accepted RoundFault.Listener) ∙ kept.faults) (no_fault Round.Finished RoundFault.Listener)

pub returns-in_err-poll_service-clause-in_vain : goal.returns-in_err-poll_service-clause-in_vain
returns-in_err-poll_service-clause-in_vain g c = λ e.
    let p = err_from_is_err_and c.from_residual.result c.from_residual.ensures.1 in
    c.in_err-poll_service.ensures.in_vain (returned_fault c.from_residual.result _ _ RoundFault.Spent p.1 p.2 e)

pub returns-in_err-accepted-clause-in_vain : goal.returns-in_err-accepted-clause-in_vain
returns-in_err-accepted-clause-in_vain g c = λ e.
    let p = err_from_is_err_and c.from_residual-in_err-accepted.result c.from_residual-in_err-accepted.ensures.1 in
    c.in_err-accepted.ensures.in_vain (returned_fault c.from_residual-in_err-accepted.result _ _ RoundFault.Spent p.1 p.2 e)

pub returns-in_err-wait_next-clause-in_vain : goal.returns-in_err-wait_next-clause-in_vain
returns-in_err-wait_next-clause-in_vain g c = λ e.
    let p = err_from_is_err_and c.from_residual-in_err-wait_next.result c.from_residual-in_err-wait_next.ensures.1 in
    c.in_err-wait_next.ensures.in_vain (returned_fault c.from_residual-in_err-wait_next.result _ _ RoundFault.Spent p.1 p.2 e)

pub returns-then-is_empty-clause-left : goal.returns-then-is_empty-clause-left
returns-then-is_empty-clause-left g c = running_left g.V.Service.protocol g.met.V.Service.lawful c.args.serving.now.terms (g.V.Service.fits c.accept_clients.new.service c.accept_clients.new.world) (g.V.Service.tied c.accept_clients.new.service c.accept_clients.new.world) (g.N.Net.meaning c.accept_clients.new.net) c.accept_clients.new.table c.in_ok-accepted.ensures.running

pub returns-then-is_empty-clause-finished : goal.returns-then-is_empty-clause-finished
returns-then-is_empty-clause-finished g c = λ _. record {
  all = sym c.in_ok-accepted.ensures.accepted.number ∙ c.if-accepted-limits.true;
  closed = running_closed g.V.Service.protocol g.met.V.Service.lawful c.args.serving.now.terms (g.V.Service.fits c.accept_clients.new.service c.accept_clients.new.world) (g.V.Service.tied c.accept_clients.new.service c.accept_clients.new.world) (g.N.Net.meaning c.accept_clients.new.net) c.accept_clients.new.table (g.V.Service.one c.accept_clients.new.service c.accept_clients.new.world) (g.met.V.Service.fits_one c.accept_clients.new.service c.accept_clients.new.world)
      c.in_ok-accepted.ensures.running (none_listed c.is_empty.result (client_count c.accept_clients.new.table) c.is_empty.ensures c.if-is_empty.true);
}

pub wait_next-requires-clause-asked : goal.wait_next-requires-clause-asked
wait_next-requires-clause-asked g c =
    elim c.if-accepted-limits.branch [
      | then-accepted-limits+else-is_empty w ↦ λ none. absurd (some_listed w.is_empty.result (client_count c.accept_clients.new.table) w.is_empty.ensures w.if-is_empty.false none)
      | else-accepted-limits w ↦ λ none. all_asked g.V.Service.protocol g.met.V.Service.lawful c.args.serving.now.terms (g.V.Service.fits c.accept_clients.new.service c.accept_clients.new.world) (g.V.Service.tied c.accept_clients.new.service c.accept_clients.new.world) (g.N.Net.meaning c.accept_clients.new.net) c.accept_clients.new.table (g.V.Service.one c.accept_clients.new.service c.accept_clients.new.world) (g.met.V.Service.fits_one c.accept_clients.new.service c.accept_clients.new.world)
          c.in_ok-accepted.ensures.running c.in_ok-accepted.accepted c.in_ok-accepted.ensures.accepted c.requires.some_place (λ e. let f = w.if-accepted-limits.false in absurd (grind (arith, nat_tests))) none
    ]

pub returns-clause-left : goal.returns-clause-left
returns-clause-left g c = running_left g.V.Service.protocol g.met.V.Service.lawful c.args.serving.now.terms (g.V.Service.fits c.wait_next.new.service c.wait_next.new.world) (g.V.Service.tied c.wait_next.new.service c.wait_next.new.world) (g.N.Net.meaning c.close_idle.new.net) c.close_idle.new.table c.close_idle.ensures.running
