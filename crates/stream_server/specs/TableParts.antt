-- What holds of the fields of a `ClientTable`.
use Rattle.std.specs.Prelude.{◌≡◌, ℕ, ◌+◌, ◌^◌, ◌<◌, ◌≤◌, List, length, Some}
use Rattle.std.specs.List.{All, Contains}
use Rattle.slab.specs.Slab.{Slab, get, slab_len}
use Rattle.item_places.specs.declared.places.Slot.{Slot}
use Rattle.item_places.specs.Table.{Has}
use Rattle.due_timers.specs.declared.heap.Timer.{Timer}
use Rattle.due_timers.specs.SeenTimers.{items_in}
use Rattle.stream_server.specs.declared.client.Client.{Client}
use Rattle.stream_server.specs.declared.table.ClientTable.TheInside.{Inside}

-- a client of that number stands under the key
pub record Stands {T : Type 0} (clients : Slab (Client T)) (k key : ℕ) : Type 0 where
  pub client : Client T
  pub is : get clients key ≡ Some client
  pub number : client.conn ≡ k

-- the timer is that of the client under its key, with its deadline, and the client is found there alone
pub record IsTied {T : Type 0} (places : List Slot) (clients : Slab (Client T)) (t : Timer) : Type 0 where
  pub client : Client T
  pub is : get clients t.item ≡ Some client
  pub placed : Has places client.conn t.item
  pub only : (key : ℕ) → Has places client.conn key → key ≡ t.item
  pub deadline : client.deadline ≡ t.deadline

-- the three agree, and there is room for so many
pub record IsSound {T : Type 0} (h : Inside T) : Type 0 where
  pub stands : (k key : ℕ) → Has h.places.slots k key → Stands h.clients k key
  pub timed : (k key : ℕ) → Has h.places.slots k key → Contains (items_in h.timers.timers) key
  pub tied : All (IsTied h.places.slots h.clients) h.timers.timers
  pub count : length h.timers.timers ≡ slab_len h.clients
  pub few : slab_len h.clients ≤ h.limit
  pub room : h.limit ≤ h.clients.capacity
  pub places_room : h.limit ≤ slab_len h.clients + h.places.spare
  pub timers_room : h.limit ≤ slab_len h.clients + h.timers.spare
  pub keys : h.clients.capacity ≤ h.timers.reach
  pub keys_fit : h.clients.capacity < 2 ^ 32
  pub held : (k key : ℕ) → Has h.places.slots k key → key < h.clients.capacity
