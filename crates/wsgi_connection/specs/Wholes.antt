-- What is sent for all that was left of an input.
use Rattle.std.specs.Prelude.{◌≡◌, ℕ, true, false, List, Option}
use Rattle.gv_io.specs.Streams.{appended, AppendsPrefix}
use Rattle.wsgi_core.specs.Answer.{Sent}
use Rattle.wsgi_connection.specs.declared.connection.ConnectionEnd.{ConnectionEnd}
use Rattle.wsgi_connection.specs.declared.connection.ConnectionEnd.TheVariants.{Closed, TooLong, ReadFault, WriteFault, Memory}

-- out has all of it, and it closes or was too long; or out has a prefix
abbrev pub IsWhole : ConnectionEnd → Sent → Option (List ℕ) → Option (List ℕ) → Type 0
IsWhole Closed s out0 out1 = (out1 ≡ appended out0 s.bytes) × (s.closes ≡ true)
IsWhole TooLong s out0 out1 = (out1 ≡ appended out0 s.bytes) × (s.closes ≡ false)
IsWhole ReadFault s out0 out1 = AppendsPrefix out0 out1 s.bytes
IsWhole WriteFault s out0 out1 = AppendsPrefix out0 out1 s.bytes
IsWhole Memory s out0 out1 = AppendsPrefix out0 out1 s.bytes
