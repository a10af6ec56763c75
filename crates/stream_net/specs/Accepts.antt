-- What an acceptance does to a net.
use Rattle.std.specs.Prelude.{◌≡◌, ℕ, ◌≤◌, max, Bool, true, false, [], ◌∷◌, ◌++◌, length}
use Rattle.gv_values.specs.Counts.{HasRisen}
use Rattle.stream_net.specs.declared.net.Accepted.{Accepted}
use Rattle.stream_net.specs.declared.net.Accepted.TheVariants.{New, WouldBlock, Failed, Memory}
use Rattle.stream_net.specs.Net.{Connection, NetMeaning, IsNew, live_count}

-- one more connection, of the next number
pub record Gains (v w : NetMeaning) (k : ℕ) : Type 0 where
  pub number : k ≡ length v.connections
  pub connection : Connection
  pub connections : w.connections ≡ v.connections ++ connection ∷ []
  pub is_new : IsNew connection w.moment
  pub most : w.most ≡ max v.most (live_count w.connections)
  pub moment : v.moment ≤ w.moment
  pub listens : w.listens ≡ v.listens
  pub faults : v.faults ≤ w.faults

-- nothing was accepted
pub record GainsNone (v w : NetMeaning) (blocked : Bool) : Type 0 where
  pub connections : w.connections ≡ v.connections
  pub most : w.most ≡ v.most
  pub moment : v.moment ≤ w.moment
  pub listens : w.listens ≡ v.listens
  pub faults : v.faults ≤ w.faults
  pub blocked_is : w.blocked ≡ blocked

abbrev pub Accepts : NetMeaning → NetMeaning → Accepted → Type 0
Accepts v w (New k) = Gains v w k
Accepts v w WouldBlock = GainsNone v w true
Accepts v w Failed = GainsNone v w false × HasRisen v.faults w.faults
Accepts v w Memory = GainsNone v w false
