-- What contracts see of a `ClientTable`.
use Rattle.std.specs.Prelude.{◌≡◌, ◌≢◌, ℕ, ◌+◌, List, length, Option, Some, None}
use Rattle.std.specs.List.{Contains}
use Rattle.slab.specs.Slab.{Slab, get, slab_len}
use Rattle.item_places.specs.declared.places.Slot.{Slot}
use Rattle.item_places.specs.Table.{Has}
use Rattle.stream_server.specs.declared.client.Client.{Client}
use Rattle.stream_server.specs.Members.{AreBelow}

-- the clients in a slab, the key of each by its number, the numbers that were admitted, and how many fit
pub record SeenTable (T : Type 0) : Type 0 where
  pub places : List Slot
  pub clients : Slab (Client T)
  pub members : List ℕ
  pub limit : ℕ

-- this client is listed under the number, or none is
abbrev pub IsListed : {T : Type 0} → SeenTable T → ℕ → Option (Client T) → Type 0
IsListed table k None = (key : ℕ) → Has table.places k key → ⊥
IsListed table k (Some client) = (key : ℕ) × Has table.places k key × (get table.clients key ≡ Some client)

-- no client is listed under the number
abbrev pub IsAbsent : {T : Type 0} → SeenTable T → ℕ → Type 0
IsAbsent {T} table k = (client : Client T) → IsListed table k (Some client) → ⊥

-- each deadline of those that are listed is such a number
abbrev pub EachDeadline : {T : Type 0} → (ℕ → Type 0) → SeenTable T → Type 0
EachDeadline {T} P table = (k : ℕ) (client : Client T) → IsListed table k (Some client) → P client.deadline

-- how many are listed
abbrev pub client_count : {T : Type 0} → SeenTable T → ℕ
client_count table = slab_len table.clients

-- these were admitted, and those listed stay
abbrev pub with_members : {T : Type 0} → List ℕ → SeenTable T → SeenTable T
with_members members table = record table { members = members }

-- this is listed under the number now, and under each other what was
pub record Relists {T : Type 0} (old new : SeenTable T) (k : ℕ) (slot : Option (Client T)) : Type 0 where
  pub here : IsListed new k slot
  pub only : (s : Option (Client T)) → IsListed new k s → s ≡ slot
  pub others : (j : ℕ) (s : Option (Client T)) → j ≢ k → IsListed new j s → IsListed old j s
  pub members : new.members ≡ old.members
  pub limit : new.limit ≡ old.limit

-- each that is listed was admitted, and no other; whoever comes next has a number above theirs
pub record AreAdmitted {T : Type 0} (table : SeenTable T) (next : ℕ) : Type 0 where
  pub count : length table.members ≡ client_count table
  pub each : (k : ℕ) (client : Client T) → IsListed table k (Some client) → Contains table.members k
  pub below : AreBelow next table.members

-- the same but for one that was admitted and isn't listed
pub record AreAdmittedBut {T : Type 0} (table : SeenTable T) (next k : ℕ) : Type 0 where
  pub count : length table.members ≡ client_count table + 1
  pub each : (j : ℕ) (client : Client T) → IsListed table j (Some client) → Contains table.members j
  pub here : Contains table.members k
  pub below : AreBelow next table.members
