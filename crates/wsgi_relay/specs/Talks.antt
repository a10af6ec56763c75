-- A session that may wait for an application server, as one side of a connection.
use Rattle.std.specs.Prelude.{ℕ, ◌+◌, Bool, List, Option, Some, None, is_some}
use Rattle.http_messages.specs.Environ.{Pair}
use Rattle.stream_server.specs.Protocols.{Protocol}
use Rattle.wsgi_core.specs.Session.{session}
use Rattle.wsgi_core.specs.Standings.{Standing}
use Rattle.wsgi_core.specs.Steps.{StandsAt, answered_of, asked_of}
use Rattle.wsgi_relay.specs.declared.relay_talk.RelayTalk.{RelayTalk}

-- the session was fed these bytes, was told of their end or not, and those were taken from it
abbrev pub talk_stands : Standing RelayTalk
talk_stands app port fed ended taken t = StandsAt app port fed ended taken t.session

-- the request that waits for its reply
abbrev pub request_of : RelayTalk → Option (List Pair × List ℕ)
request_of t = asked_of t.session

abbrev pub holds_for : RelayTalk → Bool
holds_for t = is_some t.held

-- the deadline that it had before it was held
abbrev pub deadline_in : Option ℕ → ℕ
deadline_in None = 0
deadline_in (Some deadline) = deadline

abbrev pub relay_protocol : Protocol RelayTalk
relay_protocol = record {
  said = session;
  at = talk_stands;
  due = λ t. t.session.pending;
  asks = λ t. is_some (request_of t);
  holds = holds_for;
  kept = λ t. deadline_in t.held;
}

-- how many of its requests were answered
abbrev pub rank_of : RelayTalk → ℕ
rank_of t = answered_of t.session

abbrev pub next_behind : Option ℕ → ℕ → ℕ
next_behind None answered = answered
next_behind (Some deadline) answered = answered + 1

-- the number of its next request for which a stream may be opened: the one that is held has its stream
abbrev pub next_of : RelayTalk → ℕ
next_of t = next_behind t.held (rank_of t)
