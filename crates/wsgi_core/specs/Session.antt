-- What a connection is sent, as a function of all that it gives.
use Rattle.std.specs.Prelude.{ℕ, zero, suc, ◌+◌, Bool, ◌||◌, List, length}
use Rattle.http_messages.specs.Cuts.{Cut, waits, refused, whole}
use Rattle.http_messages.specs.Requests.{request_at}
use Rattle.http_messages.specs.Body.{body_by}
use Rattle.wsgi_core.specs.Applications.{App, from}
use Rattle.wsgi_core.specs.Answer.{Sent, ◌⨾◌, nothing_sent, refusal, if_continues, answer}

-- what is sent for a reading, given what follows where it is whole
abbrev pub sent_on : {A : Type 0} → Cut A → (A → List ℕ → Sent) → Sent
sent_on waits goes_on = nothing_sent
sent_on (refused reason) goes_on = refusal reason
sent_on (whole a rest) goes_on = goes_on a rest

-- the first requests, so many at most
abbrev pub requests : ℕ → App → ℕ → List ℕ → Sent
requests zero app port bytes = nothing_sent
requests (suc more) app port bytes =
    sent_on (request_at port bytes) (λ request rest.
    if_continues request ⨾
    sent_on (body_by request.framing rest) (λ body rest.
    answer request (app 0 request.environ body) ⨾ requests more (from 1 app) port rest))

-- each request takes bytes, so their number bounds the requests
unfoldable pub answers : App → ℕ → List ℕ → Sent
answers app port bytes = requests (length bytes + 1) app port bytes

-- the bytes sent to a connection that gave these bytes, and whether it is closing
abbrev pub session : App → ℕ → List ℕ → Bool → Sent
session app port bytes ended = record {
  bytes = (answers app port bytes).bytes;
  closes = (answers app port bytes).closes || ended;
}
