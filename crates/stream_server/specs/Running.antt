-- A server between two events, by its service and its table. `fits` is what the service knows of the applications as
-- which it answers its connections, and `ties` what ties it to its clients, of whom the last number is given.
use Rattle.std.specs.Prelude.{◌≡◌, ℕ, false, [], length, Option}
use Rattle.stream_net.specs.Net.{IsLive, NetMeaning, connection_at}
use Rattle.stream_server.specs.declared.client.Client.{Client}
use Rattle.stream_server.specs.declared.limits.Terms.{Terms}
use Rattle.stream_server.specs.Protocols.{Apps, Protocol, side_of}
use Rattle.stream_server.specs.Keeping.{IsLeft, IsServing, IsServingBut, IsWoken}
use Rattle.stream_server.specs.Steps.{IsGoing}
use Rattle.stream_server.specs.Tables.{AreAdmitted, AreAdmittedBut, IsListed, SeenTable, client_count}

pub record IsRunning {T : Type 0} (P : Protocol T) (fits : Apps → Type 0) (ties : SeenTable T → ℕ → Type 0) (terms : Terms) (m : NetMeaning) (table : SeenTable T) : Type 0 where
  pub serving : (apps : Apps) → fits apps → IsServing P apps terms.port terms.limits m (IsListed table) (client_count table) table.limit
  pub tied : ties table (length m.connections)
  pub admitted : AreAdmitted table (length m.connections)

-- the same but for one connection, whose client isn't listed
pub record IsRunningBut {T : Type 0} (P : Protocol T) (fits : Apps → Type 0) (ties : SeenTable T → ℕ → ℕ → Type 0) (terms : Terms) (m : NetMeaning) (table : SeenTable T) (k : ℕ) : Type 0 where
  pub serving : (apps : Apps) → fits apps → IsServingBut P apps terms.port terms.limits m (IsListed table) (client_count table) table.limit k
  pub tied : ties table (length m.connections) k
  pub admitted : AreAdmittedBut table (length m.connections) k

-- so it was before a wait that named this one
pub record WasRunning {T : Type 0} (P : Protocol T) (fits : Apps → Type 0) (ties : SeenTable T → ℕ → Type 0) (terms : Terms) (m : NetMeaning) (table : SeenTable T) (k : ℕ) : Type 0 where
  pub woken : (apps : Apps) → fits apps → IsWoken P apps terms.port terms.limits m (IsListed table) (client_count table) table.limit k
  pub tied : ties table (length m.connections)
  pub admitted : AreAdmitted table (length m.connections)

-- what holds of all connections whenever the server ends
abbrev pub LeftBy : {T : Type 0} → Protocol T → (Apps → Type 0) → Terms → NetMeaning → Type 0
LeftBy P fits terms m = (apps : Apps) → fits apps → IsLeft P apps terms.port terms.limits m

-- the connection of a client under way
abbrev pub IsUnderWay : {T : Type 0} → Protocol T → (Apps → Type 0) → Terms → NetMeaning → Client T → Type 0
IsUnderWay P fits terms m g = (apps : Apps) → fits apps → IsGoing (side_of P (apps g.conn) terms.port) terms.limits.idle (connection_at m.connections g.conn) g

-- the service has no more of something, and a live connection that isn't held, to which all that was due is written,
-- asks for that
pub record AsksInVain {T : Type 0} (P : Protocol T) (fits : Apps → Type 0) (wants : T → Type 0) (is_spent : Type 0) (terms : Terms) (m : NetMeaning) : Type 0 where
  pub spent : is_spent
  pub client : Client T
  pub live : IsLive m client.conn
  pub free : P.holds client.talk ≡ false
  pub going : IsUnderWay P fits terms m client
  pub wants_it : wants client.talk
  pub none_due : P.due client.talk ≡ []

-- a service and its world stay sound, fit no applications that they didn't fit before, and what lasts of the world is as
-- it was
pub record StaysSound {V W : Type 0} (is_sound : V → W → Type 0) (fits : V → W → Apps → Type 0) (lasting : W → ℕ × Option ℕ) (v : V) (w : W) (v' : V) (w' : W) : Type 0 where
  pub sound : is_sound v' w'
  pub knows : (apps : Apps) → fits v' w' apps → fits v w apps
  pub as_before : lasting w' ≡ lasting w
