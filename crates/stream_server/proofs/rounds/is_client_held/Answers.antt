use Rattle.std.proofs.Common.{◌≡◌, true, false, Some, ◌∙◌}
use Rattle.stream_server.proofs.Rounding.{same_holds}
use Rattle.stream_server.proofs.rounds.is_client_held.Goals as goal

pub returns-in-None-clause-holds : goal.returns-in-None-clause-holds
returns-in-None-clause-holds g c = λ other row. absurd (c.in-None.ensures.here row.0 row.1)

never_held : {A : Type 0} → false ≡ true → A
never_held e = absurd (cc)

pub returns-in-None-clause-listed : goal.returns-in-None-clause-listed
returns-in-None-clause-listed g c = λ yes. never_held yes

pub returns-in-Some-clause-listed : goal.returns-in-Some-clause-listed
returns-in-Some-clause-listed g c = λ yes. (c.in-Some.client.now, c.in-Some.ensures.here)

pub returns-in-Some-clause-holds : goal.returns-in-Some-clause-holds
returns-in-Some-clause-holds g c = λ other row. c.is_held.ensures ∙ same_holds g.V.Service.protocol.holds c.in-Some.client.now other (c.in-Some.ensures.only (Some other) row)
