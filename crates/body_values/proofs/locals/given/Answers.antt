use Rattle.std.proofs.Common.{drop}
use Rattle.body_values.proofs.Parameters.{given_all}
use Rattle.body_values.proofs.locals.given.Goals as goal

pub returns-in-None : goal.returns-in-None
returns-in-None c =
    given_all c.args.numbers.now (drop c.loop-number.number-index c.args.numbers.now) c.args.arguments c.loop-number.left c.loop-number.locals c.loop-number.invariant c.in-None.ensures.0
