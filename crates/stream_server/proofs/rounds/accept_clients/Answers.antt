use Rattle.std.proofs.lemmas.Result.{err_from_is_err_and}
use Rattle.stream_server.specs.declared.rounds.RoundFault.{RoundFault}
use Rattle.stream_server.proofs.Rounding.{returned_fault}
use Rattle.stream_server.proofs.rounds.accept_clients.Goals as goal

pub returns-in_err-accept_client-clause-in_vain : goal.returns-in_err-accept_client-clause-in_vain
returns-in_err-accept_client-clause-in_vain g c = λ e.
    let p = err_from_is_err_and c.from_residual.result c.from_residual.ensures.1 in
    c.in_err-accept_client.ensures.in_vain (returned_fault c.from_residual.result _ _ RoundFault.Spent p.1 p.2 e)
