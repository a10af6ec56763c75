-- A body of which no byte has come.
use Rattle.std.specs.Prelude.{[]}
use Rattle.http_messages.specs.declared.request.Framing.{Framing}
use Rattle.http_messages.specs.declared.request.Framing.TheVariants.{Sized, Chunked}
use Rattle.http_messages.specs.declared.request.AwaitedBody.{AwaitedBody}
use Rattle.http_messages.specs.declared.request.AwaitedBody.TheVariants.{Counted, InChunks}

-- a body before its first byte
abbrev pub awaited_by : Framing → AwaitedBody
awaited_by (Sized n) = Counted n
awaited_by Chunked = InChunks []
