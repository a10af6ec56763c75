use Rattle.std.proofs.Common.{arith}
use Rattle.stream_server.proofs.rounds.until.Goals as goal

pub returns-clause-soon : goal.returns-clause-soon
returns-clause-soon g c = λ k client listed. let a = c.in-Some.ensures.least k client listed in let b = c.min.ensures in omega (arith, a, b)
