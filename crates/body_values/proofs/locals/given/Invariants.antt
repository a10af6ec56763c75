use Rattle.std.proofs.Common.{◌≡◌, ◌++◌, drop}
use Rattle.body_values.specs.Parameters.{given}
use Rattle.body_values.proofs.locals.given.Given as goal

abbrev pub invariant-loop-number : goal.invariant-loop-number
invariant-loop-number l = given l.numbers l.fn.arguments ≡ l.locals ++ given (drop l.number-index l.numbers) l.left
