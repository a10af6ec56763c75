-- A session that may wait for a job, as one side of a connection.
use Rattle.std.specs.Prelude.{ℕ, ◌+◌, Bool, List, Option, Some, None, is_some, option_map}
use Rattle.http_messages.specs.Environ.{Pair}
use Rattle.stream_server.specs.Protocols.{Protocol}
use Rattle.wsgi_core.specs.Session.{session}
use Rattle.wsgi_core.specs.Standings.{Standing}
use Rattle.wsgi_core.specs.Steps.{StandsAt, answered_of, asked_of}
use Rattle.wsgi_native.specs.declared.job_talk.HeldFor.{HeldFor}
use Rattle.wsgi_native.specs.declared.job_talk.JobTalk.{JobTalk}

-- the session was fed these bytes, was told of their end or not, and those were taken from it
abbrev pub talk_stands : Standing JobTalk
talk_stands app port fed ended taken t = StandsAt app port fed ended taken t.session

-- the request that waits for its reply
abbrev pub request_of : JobTalk → Option (List Pair × List ℕ)
request_of t = asked_of t.session

abbrev pub holds_for : JobTalk → Bool
holds_for t = is_some t.held

-- the number of the job whose result it waits for
abbrev pub held_number : JobTalk → Option ℕ
held_number t = option_map (λ (h : HeldFor). h.job) t.held

abbrev pub deadline_in : Option HeldFor → ℕ
deadline_in None = 0
deadline_in (Some h) = h.deadline

abbrev pub job_protocol : Protocol JobTalk
job_protocol = record {
  said = session;
  at = talk_stands;
  due = λ t. t.session.pending;
  asks = λ t. is_some (request_of t);
  holds = holds_for;
  kept = λ t. deadline_in t.held;
}

-- how many of its requests were answered
abbrev pub rank_of : JobTalk → ℕ
rank_of t = answered_of t.session

abbrev pub next_behind : Option HeldFor → ℕ → ℕ
next_behind None answered = answered
next_behind (Some h) answered = answered + 1

-- the number of its next request for which a job may be posted: the one that is held has its job
abbrev pub next_of : JobTalk → ℕ
next_of t = next_behind t.held (rank_of t)
