-- What a service makes of its talks and clients.
use Rattle.std.specs.Prelude.{◌≡◌, ◌≢◌, ℕ, ◌+◌, ◌≤◌, Bool, true, false, List, ◌++◌, Option, Some, None}
use Rattle.wsgi_core.specs.Applications.{App}
use Rattle.stream_server.specs.declared.client.Client.{Client}
use Rattle.stream_server.specs.declared.client.TheConstants.{NEVER}
use Rattle.stream_server.specs.declared.service.Polled.{Polled}
use Rattle.stream_server.specs.declared.service.Polled.TheVariants.{Nobody, Released, Memory}
use Rattle.stream_server.specs.Protocols.{Apps, IsFront, Protocol}
use Rattle.stream_server.specs.Tables.{IsListed, Relists, SeenTable, client_count}

-- it ran out of memory at a piece
abbrev pub IsCutAt : {T : Type 0} → Protocol T → App → List ℕ → T → T → Type 0
IsCutAt P app piece old new =
    (port : ℕ) (fed taken : List ℕ) → P.at app port fed false taken old → IsFront (P.said app port (fed ++ piece) false).bytes taken (P.due new)

-- it was given the reply to the request that waited
abbrev pub IsGiven : {T : Type 0} → Protocol T → App → T → T → Type 0
IsGiven P app old new = (port : ℕ) (fed : List ℕ) (ended : Bool) (taken : List ℕ) → P.at app port fed ended taken old → P.at app port fed ended taken new

-- it ran out of memory at a reply
abbrev pub IsGivenCut : {T : Type 0} → Protocol T → App → T → T → Type 0
IsGivenCut P app old new =
    (port : ℕ) (fed : List ℕ) (ended : Bool) (taken : List ℕ) → P.at app port fed ended taken old → IsFront (P.said app port fed ended).bytes taken (P.due new)

-- it closes by what it says
abbrev pub Closes : {T : Type 0} → Protocol T → T → Type 0
Closes P talk = (app : App) (port : ℕ) (fed : List ℕ) (ended : Bool) (taken : List ℕ) → P.at app port fed ended taken talk → (P.said app port fed ended).closes ≡ true

-- the same client, held: its deadline never comes, and its talk keeps the one that it had
pub record IsHeldFrom {T : Type 0} (P : Protocol T) (old new : Client T) : Type 0 where
  pub conn : new.conn ≡ old.conn
  pub ended : new.ended ≡ old.ended
  pub never : new.deadline ≡ NEVER
  pub held : P.holds new.talk ≡ true
  pub kept : P.kept new.talk ≡ old.deadline
  pub stands : (app : App) → IsGiven P app old.talk new.talk

-- a client that was listed and held was taken out, and given the reply for which it was held
pub record IsReleased {T : Type 0} (P : Protocol T) (fits : Apps → Type 0) (old new : SeenTable T) (client : Client T) : Type 0 where
  pub was : Client T
  pub listed : IsListed old client.conn (Some was)
  pub relists : Relists old new client.conn None
  pub count : client_count new + 1 ≡ client_count old
  pub ended : client.ended ≡ was.ended
  pub held : P.holds was.talk ≡ true
  pub later : P.kept was.talk ≤ client.deadline
  pub free : P.holds client.talk ≡ false
  pub stands : (apps : Apps) → fits apps → IsGiven P (apps client.conn) was.talk client.talk

-- what a poll makes of the table
abbrev pub Polls : {T : Type 0} → Polled T → Protocol T → (Apps → Type 0) → SeenTable T → SeenTable T → Type 0
Polls Nobody P fits old new = new ≡ old
Polls (Released client) P fits old new = IsReleased P fits old new client
Polls Memory P fits old new = Unit {0}

-- the deadline of a client that a poll gives back is this one at the soonest
abbrev pub BeginsAgain : {T : Type 0} → Polled T → ℕ → Type 0
BeginsAgain Nobody deadline = Unit {0}
BeginsAgain (Released client) deadline = deadline ≤ client.deadline
BeginsAgain Memory deadline = Unit {0}

-- what ties the service to its table after a poll
abbrev pub TiesAfter : {T : Type 0} → Polled T → Type 0 → (Client T → Type 0) → Type 0
TiesAfter Nobody whole but = whole
TiesAfter (Released client) whole but = but client
TiesAfter Memory whole but = Unit {0}

-- under each number but this one stands what stood there
abbrev pub AreBeside : {T : Type 0} → SeenTable T → SeenTable T → ℕ → Type 0
AreBeside {T} old new k = (j : ℕ) (slot : Option (Client T)) → j ≢ k → IsListed new j slot → IsListed old j slot

-- where a client is listed under this number, its talk has such a rank at least
abbrev pub HasRankFrom : {T : Type 0} → (T → ℕ) → ℕ → SeenTable T → ℕ → Type 0
HasRankFrom {T} rank low table k = (client : Client T) → IsListed table k (Some client) → low ≤ rank client.talk

-- a client of this number may be listed again with such a rank
abbrev pub TiesFrom : {T : Type 0} → (SeenTable T → ℕ → ℕ → ℕ → Type 0) → ℕ → SeenTable T → ℕ → ℕ → Type 0
TiesFrom ties rank table accepted k = (low : ℕ) × (low ≤ rank) × ties table accepted k low
