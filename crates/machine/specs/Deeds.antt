-- What is done at an object at once, as a request.
use Rattle.std.specs.Prelude.{ℕ}
use Rattle.machine.specs.declared.deed.Deed.{Deed}
use Rattle.machine.specs.declared.request.Request.{Request}

-- the request that this is done at the object
abbrev pub request_at : ℕ → Deed → Request
request_at o Deed.Set = Request.Set o
request_at o Deed.Clear = Request.Clear o
request_at o Deed.Release = Request.Release o
request_at o Deed.QueueDone = Request.QueueDone o
