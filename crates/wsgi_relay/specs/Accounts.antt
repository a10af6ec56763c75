-- For which requests streams were opened, and what these were given, as a server keeps it.
use Rattle.std.specs.Prelude.{◌≡◌, ◌⊎◌, ℕ, ◌==◌, ◌&&◌, ◌<◌, if◌then◌else◌, List, [], ◌∷◌, ◌++◌, length, slice_index_or, Option, Some, None}
use Rattle.http_messages.specs.Environ.{Pair}
use Rattle.stream_server.specs.Protocols.{Apps}
use Rattle.wsgi_core.specs.Steps.{answered_of, asked_of}
use Rattle.wsgi_core.specs.declared.reply.Reply.{Reply}
use Rattle.wsgi_core.specs.declared.session.Session.{Session}
use Rattle.wsgi_relay.specs.Relaying.{Agrees, Asked, Asker, Given, Givings}

-- the request that waits, where none does an empty one
abbrev pub or_empty : Option (List Pair × List ℕ) → List Pair × List ℕ
or_empty None = ([], [])
or_empty (Some request) = request

-- the request that waits at the session of this connection
abbrev pub asked_on : ℕ → Session → Asked
asked_on conn s = record { conn = conn; number = answered_of s; environ = (or_empty (asked_of s)).0; body = (or_empty (asked_of s)).1 }

-- and what it is given
abbrev pub given_on : Session → Reply → Given
given_on s reply = record { environ = (or_empty (asked_of s)).0; body = (or_empty (asked_of s)).1; reply = reply }

abbrev pub nobody : Asked
nobody = record { conn = 0; number = 0; environ = []; body = [] }

-- for which request the stream of this number was opened, by all requests for which one was, in order
abbrev pub asker_in : List Asked → Asker
asker_in asked e = slice_index_or asked e nobody

-- the stream of this number was opened
abbrev pub IsAsked : List Asked → ℕ → Type 0
IsAsked asked e = e < length asked

-- nobody asked more, or this request did
abbrev pub IsAskedMore : List Asked → List Asked → Asked → Type 0
IsAskedMore old new a = (new ≡ old) ⊎ (new ≡ old ++ a ∷ [])

-- what a request was given, by connections, numbers and what was given there, of which the first one counts
abbrev pub given_in : List ((ℕ × ℕ) × Given) → Givings
given_in [] conn number = None
given_in (entry ∷ rest) conn number = if entry.0.0 == conn && entry.0.1 == number then Some entry.1 else given_in rest conn number

-- the application of each connection agrees
abbrev pub AllAgree : Givings → Apps → Type 0
AllAgree given apps = (conn : ℕ) → Agrees given conn (apps conn)
