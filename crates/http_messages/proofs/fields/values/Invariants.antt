use Rattle.std.proofs.Common.{◌≡◌, take}
use Rattle.http_messages.specs.Requests.{values}
use Rattle.http_messages.proofs.fields.values.Given as goal

abbrev pub invariant-loop-place : goal.invariant-loop-place
invariant-loop-place l = l.found ≡ values l.name (take l.place l.fields)
