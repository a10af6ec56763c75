use Rattle.std.proofs.Common.{◌≡◌, drop}
use Rattle.body_locals.specs.Locals.{value_of}
use Rattle.body_locals.proofs.locals.search.Given as goal

abbrev pub invariant-loop-bound : goal.invariant-loop-bound
invariant-loop-bound l = value_of l.number l.all ≡ value_of l.number (drop l.bound-index l.all)
