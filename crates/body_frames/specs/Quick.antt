-- What a request that is answered at once stands for.
use Rattle.std.specs.Prelude.{◌≡◌, List}
use Rattle.gv_values.specs.declared.value.Value.{Value}
use Rattle.machine.specs.declared.request.Request.{Request}
use Rattle.machine.specs.Deeds.{request_at}
use Rattle.body_names.specs.declared.expression.FlatExpression.{FlatExpression}
use Rattle.body_locals.specs.declared.locals.Bound.{Bound}
use Rattle.body_primitives.specs.Primitives.{Means}
use Rattle.body_frames.specs.declared.quick.Quick.{Quick}

-- the request
abbrev pub request_of : Quick → Request
request_of (Quick.PrintInteger z) = Request.Print (Value.Int z)
request_of (Quick.PrintTruth b) = Request.Print (Value.Bool b)
request_of (Quick.At o deed) = request_at o deed

-- it prints the value of the expression
abbrev pub Prints : Quick → FlatExpression → List Bound → Type 0
Prints q e locals = (v : Value) × (request_of q ≡ Request.Print v) × Means e locals v
