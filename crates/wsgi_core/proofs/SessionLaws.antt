-- Sessions: what was sent stays sent, whatever bytes follow, and a session is its first request and the rest.
use Rattle.std.specs.Prelude.{◌||◌}
use Rattle.wsgi_core.specs.Laws.{NeverTakesBack}
use Rattle.wsgi_core.specs.Standings.{IsBefore}
use Rattle.std.proofs.lemmas.Bool.{or_left, or_right}
use Rattle.std.proofs.Common.{◌≡◌, ℕ, zero, suc, ◌+◌, ◌<◌, ◌≤◌, Bool, true, false, cond, List, [], ◌++◌, length, refl, sym, ap, ◌∙◌, subst, arith, append_assoc, append-nil, length-append}
use Rattle.http_messages.specs.Cuts.{Cut, waits, refused, whole}
use Rattle.http_messages.specs.declared.request.HttpRequest.{HttpRequest}
use Rattle.http_messages.specs.Requests.{request_at}
use Rattle.http_messages.specs.Body.{body_by}
use Rattle.wsgi_core.specs.Applications.{App, from}
use Rattle.wsgi_core.specs.Answer.{Sent, ◌⨾◌, nothing_sent, refusal, if_continues, answer}
use Rattle.wsgi_core.specs.Session.{sent_on, requests, answers}
use Rattle.http_messages.proofs.CutLaws.{Later, takes_at}
use Rattle.http_messages.proofs.RequestLaws.{request_at-later, request_at-takes}
use Rattle.http_messages.proofs.BodyLaws.{body_by-later, body_by-takes}

-- ---- what is sent

pub before-self : (a : Sent) → IsBefore a a
before-self a = record { tail = []; longer = sym (append-nil a.bytes); done = λ _. refl }

pub before-nothing : (b : Sent) → IsBefore nothing_sent b
before-nothing b = record { tail = b.bytes; longer = refl; done = λ e. absurd (cc) }

pub then-before : (a b c : Sent) → IsBefore b c → IsBefore (a ⨾ b) (a ⨾ c)
then-before a b c h = pick a.closes
  where
    pick : (t : Bool) → IsBefore (cond t a (record { bytes = a.bytes ++ b.bytes; closes = b.closes })) (cond t a (record { bytes = a.bytes ++ c.bytes; closes = c.closes }))
    pick true = before-self a
    pick false = record {
      tail = h.tail;
      longer = ap (λ (l : List ℕ). a.bytes ++ l) h.longer ∙ sym (append_assoc a.bytes b.bytes h.tail);
      done = λ e. let same = h.done e in λ i. record { bytes = a.bytes ++ (same i).bytes; closes = (same i).closes };
    }

pub sent_on-before : {A : Type 0} (more : List ℕ) (c d : Cut A) (f g : A → List ℕ → Sent) → Later more c d
    → ((a : A) (rest : List ℕ) → IsBefore (f a rest) (g a (rest ++ more))) → IsBefore (sent_on c f) (sent_on d g)
sent_on-before more waits d f g h step = before-nothing (sent_on d g)
sent_on-before more (refused reason) d f g h step =
    subst (λ (e : Cut _). IsBefore (refusal reason) (sent_on e g)) (sym h) (before-self (refusal reason))
sent_on-before more (whole a rest) d f g h step = subst (λ (e : Cut _). IsBefore (f a rest) (sent_on e g)) (sym h) (step a rest)

pub sent_on-same : {A : Type 0} (c : Cut A) (f g : A → List ℕ → Sent)
    → ((a : A) (rest : List ℕ) → c ≡ whole a rest → f a rest ≡ g a rest) → sent_on c f ≡ sent_on c g
sent_on-same waits f g h = refl
sent_on-same (refused reason) f g h = refl
sent_on-same (whole a rest) f g h = h a rest refl

-- from the body of a request on
abbrev pub from_body : (App → ℕ → List ℕ → Sent) → App → ℕ → HttpRequest → Cut (List ℕ) → Sent
from_body again app port request body = sent_on body (λ body rest. answer request (app 0 request.environ body) ⨾ again (from 1 app) port rest)

abbrev pub from_request : (App → ℕ → List ℕ → Sent) → App → ℕ → HttpRequest → List ℕ → Sent
from_request again app port request rest = if_continues request ⨾ from_body again app port request (body_by request.framing rest)

requests_before : (n : ℕ) (app : App) (port : ℕ) (bytes more : List ℕ) → IsBefore (requests n app port bytes) (requests n app port (bytes ++ more))
requests_before zero app port bytes more = before-self nothing_sent
requests_before (suc n) app port bytes more =
    sent_on-before more (request_at port bytes) (request_at port (bytes ++ more)) (from_request (requests n) app port) (from_request (requests n) app port)
    (request_at-later port bytes more)
    (λ q rest. then-before (if_continues q) _ _
    (sent_on-before more (body_by q.framing rest) (body_by q.framing (rest ++ more))
    (λ body rest. answer q (app 0 q.environ body) ⨾ requests n (from 1 app) port rest) (λ body rest. answer q (app 0 q.environ body) ⨾ requests n (from 1 app) port rest)
    (body_by-later q.framing rest more)
    (λ body rest. then-before (answer q (app 0 q.environ body)) _ _ (requests_before n (from 1 app) port rest more))))

from_request_same : (again other : App → ℕ → List ℕ → Sent) (app : App) (port : ℕ) (q : HttpRequest) (rest : List ℕ)
    → ((bytes : List ℕ) → length bytes ≤ length rest → again (from 1 app) port bytes ≡ other (from 1 app) port bytes)
    → from_request again app port q rest ≡ from_request other app port q rest
from_request_same again other app port q rest h =
    ap (λ (s : Sent). if_continues q ⨾ s)
    (sent_on-same (body_by q.framing rest) (λ body rest. answer q (app 0 q.environ body) ⨾ again (from 1 app) port rest) (λ body rest. answer q (app 0 q.environ body) ⨾ other (from 1 app) port rest)
    (λ body end e. ap (λ (s : Sent). answer q (app 0 q.environ body) ⨾ s)
    (h end (let t = takes_at 0 rest (body_by q.framing rest) body end (body_by-takes q.framing rest) e in omega arith))))

requests_same : (m n : ℕ) (app : App) (port : ℕ) (bytes : List ℕ) → length bytes < m → length bytes < n → requests m app port bytes ≡ requests n app port bytes
requests_same zero n app port bytes h k = absurd (omega arith)
requests_same (suc m) zero app port bytes h k = absurd (omega arith)
requests_same (suc m) (suc n) app port bytes h k =
    sent_on-same (request_at port bytes) (from_request (requests m) app port) (from_request (requests n) app port)
    (λ q rest e.
    let t = takes_at 1 bytes (request_at port bytes) q rest (request_at-takes port bytes) e in
    from_request_same (requests m) (requests n) app port q rest (λ end le. requests_same m n (from 1 app) port end (omega arith) (omega arith)))

-- the first request, and then the others
pub answers-step : (app : App) (port : ℕ) (bytes : List ℕ) → answers app port bytes ≡ sent_on (request_at port bytes) (from_request answers app port)
unfolding answers
answers-step app port bytes =
    ap (λ (n : ℕ). requests n app port bytes) (one_more (length bytes))
    ∙ sent_on-same (request_at port bytes) (from_request (requests (length bytes)) app port) (from_request (λ app port bytes. requests (length bytes + 1) app port bytes) app port)
    (λ q rest e.
    let t = takes_at 1 bytes (request_at port bytes) q rest (request_at-takes port bytes) e in
    from_request_same (requests (length bytes)) (λ app port bytes. requests (length bytes + 1) app port bytes) app port q rest
    (λ end le. requests_same (length bytes) (length end + 1) (from 1 app) port end (omega arith) (omega arith)))
  where
    one_more : (n : ℕ) → n + 1 ≡ suc n
    one_more n = omega arith

-- what was sent for the first bytes stays sent, and a session that closed says no more
pub answers-before : (app : App) (port : ℕ) (bytes more : List ℕ) → IsBefore (answers app port bytes) (answers app port (bytes ++ more))
unfolding answers
answers-before app port bytes more =
    let longer : length bytes < length (bytes ++ more) + 1 = rw length-append (omega arith) in
    subst (λ (s : Sent). IsBefore s (requests (length (bytes ++ more) + 1) app port (bytes ++ more)))
    (requests_same (length (bytes ++ more) + 1) (length bytes + 1) app port bytes longer (omega arith))
    (requests_before (length (bytes ++ more) + 1) app port bytes more)

pub session-before : (app : App) (port : ℕ) (bytes more : List ℕ) (ended : Bool) → NeverTakesBack app port bytes more ended
session-before app port bytes more ended =
    let b = answers-before app port bytes more in
    record {
      tail = b.tail;
      longer = b.longer;
      closed = closed (answers app port bytes).closes (answers app port (bytes ++ more)).closes ended (λ e. ap (λ (s : Sent). s.closes) (b.done e) ∙ e);
      done = λ e. ap (λ (s : Sent). s.bytes) (b.done (not_by_the_end (answers app port bytes).closes e));
    }
  where
    not_by_the_end : (p : Bool) → (p || false) ≡ true → p ≡ true
    not_by_the_end true e = refl
    not_by_the_end false e = absurd (cc)

    closed : (p q ended : Bool) → (p ≡ true → q ≡ true) → (p || ended) ≡ true → (q || ended) ≡ true
    closed true q true h e = or_right q true refl
    closed true q false h e = or_left q false (h refl)
    closed false q true h e = or_right q true refl
    closed false q false h e = absurd (cc)
