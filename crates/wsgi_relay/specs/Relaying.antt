-- What is promised of a server whose requests an application server answers.
use Rattle.std.specs.Prelude.{◌≡◌, ℕ, ◌+◌, ◌<◌, ◌≤◌, ◌==◌, ◌&&◌, Bool, true, false, if◌then◌else◌, List, [], length, slice_index_or, Option, Some, None, IfSome, codes}
use Rattle.std.specs.List.{list_all}
use Rattle.http_messages.specs.Environ.{Pair, pair_value}
use Rattle.wsgi_core.specs.Applications.{App}
use Rattle.wsgi_core.specs.Session.{session}
use Rattle.wsgi_core.specs.declared.reply.Reply.{Reply}
use Rattle.scgi_core.specs.Block.{is_value}
use Rattle.scgi_core.specs.Laws.{is_plain}
use Rattle.stream_net.specs.Net.{Connection, connection_at}
use Rattle.stream_dial.specs.Dials.{DialMeaning}
use Rattle.stream_server.specs.Owning.{OwnOnce, Owner}
use Rattle.stream_server.specs.Serving.{BeginsSo, Cause, IsClosedWell, WaitsToRead}
use Rattle.relay_core.specs.Faults.{refused_request}
use Rattle.relay_core.specs.Message.{scgi_message}
use Rattle.relay_core.specs.Replies.{relayed}
use Rattle.relay_core.specs.declared.reader.Far.{Far}
use Rattle.relay_core.specs.declared.reader.Far.TheVariants.{GoesOn, Ended, Broken, Late}

-- ---- requests, and what they were given

-- a request of a connection: which one it is there, and what it says
pub record Asked : Type 0 where
  pub conn : ℕ
  pub number : ℕ
  pub environ : List Pair
  pub body : List ℕ

-- for which request each stream was opened
abbrev pub Asker : Type 0
Asker = ℕ → Asked

abbrev pub owner_of : Asker → Owner
owner_of asker e = ((asker e).conn, (asker e).number)

abbrev pub is_for_head : Asked → Bool
is_for_head a = is_value (codes "HEAD") (pair_value (codes "REQUEST_METHOD") a.environ)

-- what a request says, and the reply that it was given
pub record Given : Type 0 where
  pub environ : List Pair
  pub body : List ℕ
  pub reply : Reply

-- what was given, by the connection and the number of the request there
abbrev pub Givings : Type 0
Givings = ℕ → ℕ → Option Given

abbrev pub asked_by : ℕ → ℕ → Given → Asked
asked_by conn number g = record { conn = conn; number = number; environ = g.environ; body = g.body }

-- The application of this connection answers each request that was given something just that, and each that can't be
-- handed on 400. Of all others nothing is known.
pub record Agrees (given : Givings) (conn : ℕ) (app : App) : Type 0 where
  pub given_is : (i : ℕ) (g : Given) → given conn i ≡ Some g → list_all is_plain g.environ ≡ true → app i g.environ g.body ≡ g.reply
  pub refused : (i : ℕ) (environ : List Pair) (body : List ℕ) → list_all is_plain environ ≡ false → app i environ body ≡ refused_request

-- ---- streams

-- how far a stream that was opened at this moment had come when it was closed, as it shows itself
abbrev pub CameTo : Far → ℕ → ℕ → Connection → Type 0
CameTo GoesOn opened patience s = Unit {0}
CameTo Ended opened patience s = s.ended ≡ true
CameTo Broken opened patience s = 0 < s.faults
CameTo Late opened patience s = opened + patience ≤ s.closed_at

-- what a stream was sent begins the message of its request, which has no NUL
pub record IsSent (a : Asked) (s : Connection) : Type 0 where
  pub plain : list_all is_plain a.environ ≡ true
  pub sent : IfSome s.written (λ out. BeginsSo (scgi_message a.environ a.body) out)

-- the reply to its request is what the bytes that came on it are read as, and it is closed
pub record IsAnswered (a : Asked) (reply : Reply) (opened patience : ℕ) (s : Connection) : Type 0 where
  pub closed : s.closed ≡ true
  pub far : Far
  pub came : CameTo far opened patience s
  pub got : List ℕ
  pub reads : IfSome s.read (λ bytes. bytes ≡ got)
  pub relays : relayed (is_for_head a) far got ≡ Some reply

-- a stream was opened for the request that was given this, and it is what was read there
pub record HasStream (asker : Asker) (v : DialMeaning) (patience conn number : ℕ) (g : Given) : Type 0 where
  pub stream : ℕ
  pub opened : stream < length v.streams
  pub asked : asker stream ≡ asked_by conn number g
  pub answered : IsAnswered (asked_by conn number g) g.reply (slice_index_or v.opened stream 0) patience (connection_at v.streams stream)

-- ---- the claim

-- What was written to a connection begins the session of this application. It is all of it where the connection was
-- closed without a fault and no write of it is waited for, and where it was left to wait for bytes.
pub record IsSpokenTo (app : App) (port idle : ℕ) (c : Connection) (bytes out : List ℕ) : Type 0 where
  pub own : BeginsSo (session app port bytes c.ended).bytes out
  pub whole : IsClosedWell c → out ≡ (session app port bytes c.ended).bytes
  pub answered : WaitsToRead c → out ≡ (session app port bytes c.ended).bytes
  pub cause : c.closed ≡ true → Cause (session app port bytes c.ended) out idle c

-- Each connection by itself: it was sent the session of each application that agrees with what was given there, whatever
-- that would answer else. So each request that was answered, but for those with a NUL, was given a reply, and has a
-- stream of its own, which was opened for just its environ and body. No request has two.
pub record HasRelayed (port idle patience : ℕ) (cs : List Connection) (v : DialMeaning) : Type 0 where
  pub asker : Asker
  pub given : Givings
  pub own : (k : ℕ) (app : App) (bytes out : List ℕ) → Agrees given k app → k < length cs → (connection_at cs k).read ≡ Some bytes → (connection_at cs k).written ≡ Some out
      → IsSpokenTo app port idle (connection_at cs k) bytes out
  pub once : OwnOnce (λ e. e < length v.streams) (owner_of asker)
  pub exchanges : (e : ℕ) → e < length v.streams → IsSent (asker e) (connection_at v.streams e)
  pub replies : (conn number : ℕ) (g : Given) → given conn number ≡ Some g → HasStream asker v patience conn number g
