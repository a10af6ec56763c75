-- What a talk says, and what of it a connection was sent.
use Rattle.std.specs.Prelude.{◌≡◌, ℕ, ◌+◌, ◌<◌, ◌≤◌, Bool, true, false, List, ◌++◌, IfSome}
use Rattle.wsgi_core.specs.Answer.{Sent}
use Rattle.stream_net.specs.Net.{Connection}
use Rattle.stream_net.specs.declared.net.Quiet.TheVariants.{ByRead}
use Rattle.stream_server.specs.declared.client.TheConstants.{NEVER}
use Rattle.stream_server.specs.Serving.{Cause}

-- what a talk says: the bytes due for all that was read, whose end has come or not, and whether it closes
abbrev pub Speech : Type 0
Speech = List ℕ → Bool → Sent

-- of the bytes that were read and written, where they are told: what was written begins what is said to what was read
pub record BeginsSaid (said : Speech) (c : Connection) : Type 0 where
  pub fed : List ℕ
  pub taken : List ℕ
  pub reads : IfSome c.read (λ bytes. bytes ≡ fed)
  pub writes : IfSome c.written (λ bytes. bytes ≡ taken)
  pub tail : List ℕ
  pub begins : (said fed c.ended).bytes ≡ taken ++ tail

-- what holds of each connection at any time
pub record IsServed (said : Speech) (idle : ℕ) (c : Connection) : Type 0 where
  pub begun : BeginsSaid said c
  pub cause : c.closed ≡ true → Cause (said begun.fed c.ended) begun.taken idle c
  pub calm : c.closed ≡ false → c.quiet ≡ ByRead → begun.taken ≡ (said begun.fed c.ended).bytes

-- a deadline that can come is at least so long after the last byte
abbrev pub IsTimely : ℕ → Connection → ℕ → Type 0
IsTimely idle c deadline = deadline < NEVER → c.last + idle ≤ deadline
