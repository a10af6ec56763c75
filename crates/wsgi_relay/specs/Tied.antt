-- What ties the clients that wait for an application server to the streams on which it answers.
use Rattle.std.specs.Prelude.{◌≡◌, ◌≢◌, ◌⊎◌, ℕ, ◌+◌, ◌-◌, ◌^◌, ◌<◌, ◌≤◌, true, List, ◌++◌, length, slice_index_or, Option, Some, None}
use Rattle.relay_core.specs.Message.{scgi_message}
use Rattle.relay_core.specs.declared.reader.Far.{Far}
use Rattle.relay_core.specs.declared.reader.Far.TheVariants.{Late}
use Rattle.stream_net.specs.Net.{IsLive, connection_at}
use Rattle.stream_dial.specs.Dials.{DialMeaning, net_of}
use Rattle.stream_server.specs.Keeping.{Listing}
use Rattle.stream_server.specs.declared.client.Client.{Client}
use Rattle.stream_server.specs.Owning.{AreOwned, AreOwnedBut, OwnOnce}
use Rattle.wsgi_core.specs.Steps.{answered_of}
use Rattle.wsgi_relay.specs.Accounts.{IsAsked, asker_in}
use Rattle.wsgi_relay.specs.Exchanging.{HasShown, IsBegun, IsExchanging, OfSlot}
use Rattle.wsgi_relay.specs.Relaying.{Asked, Given, Givings, HasStream, IsSent, is_for_head, owner_of}
use Rattle.wsgi_relay.specs.Talks.{holds_for, next_of, request_of}
use Rattle.wsgi_relay.specs.declared.exchange.Exchange.{Exchange}
use Rattle.wsgi_relay.specs.declared.relay_talk.RelayTalk.{RelayTalk}

-- ---- the account

-- A request is kept for each stream that was opened. Each stream was sent of its message alone, and what was given to a
-- request came on one that was opened for it.
pub record IsKept (patience : ℕ) (m : DialMeaning) (asked : List Asked) (given : Givings) : Type 0 where
  pub count : length asked ≡ length m.streams
  pub timed : length m.opened ≡ length m.streams
  pub sent : (e : ℕ) → e < length m.streams → IsSent (asker_in asked e) (connection_at m.streams e)
  pub replies : (conn number : ℕ) (g : Given) → given conn number ≡ Some g → HasStream (asker_in asked) m patience conn number g

-- no two streams were opened for one request
abbrev pub HaveAskedOnce : List Asked → Type 0
HaveAskedOnce asked = OwnOnce (IsAsked asked) (owner_of (asker_in asked))

-- the same, and each request for which one was opened comes before the next one of its client
abbrev pub HaveAsked : List Asked → Listing RelayTalk → ℕ → Type 0
HaveAsked asked listed accepted = AreOwned next_of (IsAsked asked) (owner_of (asker_in asked)) listed accepted

-- the same, but that those of this connection come before that number
abbrev pub HaveAskedBut : List Asked → Listing RelayTalk → ℕ → ℕ → ℕ → Type 0
HaveAskedBut asked listed accepted one low = AreOwnedBut next_of (IsAsked asked) (owner_of (asker_in asked)) listed accepted one low

-- ---- the exchanges under way

-- the exchange in a slot, if there is one
abbrev pub exchange_in : List (Option Exchange) → ℕ → Option Exchange
exchange_in exchanges slot = slice_index_or exchanges slot None

-- the exchanges are the same but in this slot, where this one is, or none
pub record Puts (old new : List (Option Exchange)) (slot : ℕ) (x : Option Exchange) : Type 0 where
  pub here : exchange_in new slot ≡ x
  pub others : (other : ℕ) → other ≢ slot → exchange_in new other ≡ exchange_in old other

-- the client is held for this request
pub record Awaits (a : Asked) (g : Client RelayTalk) : Type 0 where
  pub held : holds_for g.talk ≡ true
  pub request : request_of g.talk ≡ Some (a.environ, a.body)
  pub number : a.number ≡ answered_of g.talk.session
  pub conn : a.conn ≡ g.conn

-- what is listed is such a client
abbrev pub IsFor : Asked → Option (Client RelayTalk) → Type 0
IsFor a None = ⊥
IsFor a (Some g) = Awaits a g

-- the exchange is that of this request, whose stream was opened at this moment
pub record IsOf (a : Asked) (opened patience : ℕ) (x : Exchange) : Type 0 where
  pub conn : a.conn ≡ x.conn
  pub message : x.head ++ a.body ≡ scgi_message a.environ a.body
  pub is_head : x.reader.is_head ≡ is_for_head a
  pub timely : x.until < 2 ^ 64 - 1 → opened + patience ≤ x.until

-- the exchange is that of this request, and nothing went over its stream yet
pub record IsMadeFor (a : Asked) (x : Exchange) : Type 0 where
  pub conn : a.conn ≡ x.conn
  pub is_head : x.reader.is_head ≡ is_for_head a
  pub begun : IsBegun x a.environ (length a.body)

-- The exchange goes over the stream in its slot, which was opened for just its request, and the client of that is held
-- for it.
pub record IsUnderWay (m : DialMeaning) (patience : ℕ) (asked : List Asked) (listed : Listing RelayTalk) (slot : ℕ) (x : Exchange) : Type 0 where
  pub number : ℕ
  pub is : m.slots slot ≡ Some number
  pub live : IsLive (net_of m.streams m.moment) number
  pub its : IsOf (asker_in asked number) (slice_index_or m.opened number 0) patience x
  pub exchanging : IsExchanging (connection_at m.streams number) x (asker_in asked number).body
  pub held : (row : Option (Client RelayTalk)) → listed x.conn row → IsFor (asker_in asked number) row

-- one stream more is there, of the next number, in this slot, in which none was open; the others are as they were
pub record HasOneMore (v w : DialMeaning) (slot : ℕ) : Type 0 where
  pub count : length w.streams ≡ length v.streams + 1
  pub streams : (e : ℕ) → e < length v.streams → connection_at w.streams e ≡ connection_at v.streams e
  pub timed : length w.opened ≡ length v.opened + 1
  pub opened : (e : ℕ) → e < length v.opened → slice_index_or w.opened e 0 ≡ slice_index_or v.opened e 0
  pub was_free : (number : ℕ) → v.slots slot ≡ Some number → (connection_at v.streams number).closed ≡ true
  pub number : w.slots slot ≡ Some (length v.streams)
  pub others : (other : ℕ) → other ≢ slot → w.slots other ≡ v.slots other

-- it was opened for this request, and the exchange goes over it
pub record OpensFor (v w : DialMeaning) (patience : ℕ) (a : Asked) (slot : ℕ) (x : Exchange) : Type 0 where
  pub more : HasOneMore v w slot
  pub live : IsLive (net_of w.streams w.moment) (length v.streams)
  pub its : IsOf a (slice_index_or w.opened (length v.streams) 0) patience x
  pub exchanging : IsExchanging (connection_at w.streams (length v.streams)) x a.body

-- and is put beside the others
pub record HandsOn (v w : DialMeaning) (patience : ℕ) (a : Asked) (old new : List (Option Exchange)) : Type 0 where
  pub slot : ℕ
  pub exchange : Exchange
  pub opens : OpensFor v w patience a slot exchange
  pub puts : Puts old new slot (Some exchange)

-- each exchange is under way, and no two go over one stream
pub record IsTied (m : DialMeaning) (patience : ℕ) (asked : List Asked) (exchanges : List (Option Exchange)) (listed : Listing RelayTalk) : Type 0 where
  pub each : (slot : ℕ) (x : Exchange) → exchange_in exchanges slot ≡ Some x → IsUnderWay m patience asked listed slot x
  pub apart : (s t : ℕ) (x y : Exchange) → exchange_in exchanges s ≡ Some x → exchange_in exchanges t ≡ Some y → m.slots s ≡ m.slots t → s ≡ t

-- the same, and none is for this connection
pub record IsTiedBut (m : DialMeaning) (patience : ℕ) (asked : List Asked) (exchanges : List (Option Exchange)) (listed : Listing RelayTalk) (one : ℕ) : Type 0 where
  pub tied : IsTied m patience asked exchanges listed
  pub others : (slot : ℕ) (x : Exchange) → exchange_in exchanges slot ≡ Some x → x.conn ≢ one

-- the time of the exchange is over
pub record IsLate (far : Far) (m : DialMeaning) (x : Exchange) : Type 0 where
  pub late : far ≡ Late
  pub comes : x.until < 2 ^ 64 - 1
  pub over : x.until ≤ m.moment

-- the exchange in this slot has come so far: its stream shows that, or its time is over
pub record IsOver (m : DialMeaning) (exchanges : List (Option Exchange)) (slot : ℕ) (far : Far) : Type 0 where
  pub exchange : Exchange
  pub here : exchange_in exchanges slot ≡ Some exchange
  pub come : OfSlot m slot (λ s. HasShown far s exchange) ⊎ IsLate far m exchange
