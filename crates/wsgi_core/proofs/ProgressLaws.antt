-- The steps of a session: each leaves what is to come as it was.
use Rattle.std.proofs.lemmas.List.{append_cancel_left, take-append-drop}
use Rattle.std.specs.Prelude.{Result, Ok, Err, OnErr}
use Rattle.std.proofs.Common.{◌≡◌, ℕ, ◌+◌, ◌<◌, ◌≤◌, Bool, true, false, List, [], ◌++◌, length, take, drop, refl, sym, ap, ◌∙◌, subst, arith, append_assoc, append-nil}
use Rattle.http_messages.specs.declared.refusal.Refusal.{Refusal}
use Rattle.http_messages.specs.declared.request.HttpRequest.{HttpRequest}
use Rattle.http_messages.specs.declared.request.AwaitedBody.{AwaitedBody}
use Rattle.http_messages.specs.Cuts.{Cut, waits, refused, whole}
use Rattle.http_messages.specs.Body.{body_left}
use Rattle.http_messages.specs.AwaitedBody.{awaited_by}
use Rattle.http_messages.specs.Readings.{ReadsAlike}
use Rattle.http_messages.specs.Requests.{request_at}
use Rattle.wsgi_core.specs.declared.session.SessionStage.{SessionStage}
use Rattle.wsgi_core.specs.declared.session.SessionStage.TheVariants.{AtHead, InBody, Asked}
use Rattle.wsgi_core.specs.declared.reply.Reply.{Reply}
use Rattle.wsgi_core.specs.Applications.{App, from}
use Rattle.wsgi_core.specs.Answer.{Sent, ◌⨾◌, nothing_sent, refusal, if_continues, answer}
use Rattle.wsgi_core.specs.Session.{sent_on, answers}
use Rattle.wsgi_core.specs.Progress.{Progress, sent_from, to_come, GoesOn, IsSettled, IsDue, Stands}
use Rattle.http_messages.proofs.BodySteps.{later_whole}
use Rattle.http_messages.proofs.CutLaws.{Later, takes_at}
use Rattle.http_messages.proofs.RequestLaws.{request_at-later, request_at-takes, body_left-later, body_left-takes, body_starts}
use Rattle.wsgi_core.proofs.SessionLaws.{from_request, from_body, answers-step}

abbrev sent : List ℕ → Bool → Sent
sent bytes closes = record { bytes = bytes; closes = closes }

pub then_assoc : (a b c : Sent) → (a ⨾ b) ⨾ c ≡ a ⨾ (b ⨾ c)
then_assoc a b c = pick a.bytes a.closes b.bytes b.closes c
  where
    pick : (x : List ℕ) (p : Bool) (y : List ℕ) (q : Bool) (c : Sent) → (sent x p ⨾ sent y q) ⨾ c ≡ sent x p ⨾ (sent y q ⨾ c)
    pick x true y q c = refl
    pick x false y true c = refl
    pick x false y false c = let e = append_assoc x y c.bytes in λ i. sent (e i) c.closes

later_refused : {A : Type 0} (more : List ℕ) (c d : Cut A) (reason : Refusal) → Later more c d → c ≡ refused reason → d ≡ refused reason
later_refused {A} more c d reason h e = let P : Cut A → Type 0 = λ x. Later more x d in subst P e h

-- ---- the requests that are still to come

pub from_start : (app : App) → from 0 app ≡ app
from_start app = let e : (i : ℕ) → 0 + i ≡ i = λ i. omega arith in λ k i. app (e i k)

pub from_next : (n : ℕ) (app : App) → from 1 (from n app) ≡ from (n + 1) app
from_next n app = let e : (i : ℕ) → n + (1 + i) ≡ n + 1 + i = λ i. omega arith in λ k i. app (e i k)

pub from_first : (n : ℕ) (app : App) → from n app 0 ≡ app n
from_first n app = let e : n + 0 ≡ n = omega arith in λ k. app (e k)

abbrev pub progress_at : ℕ → ℕ → SessionStage → List ℕ → List ℕ → Bool → Progress
progress_at port answered stage kept pending closing =
    record { port = port; answered = answered; stage = stage; kept = kept; pending = pending; closing = closing }

-- what is to come is the same where the progress is
pub same_progress : (app : App) (a b : Progress) → a ≡ b → GoesOn app a b
same_progress app a b e more = λ i. to_come app (e i) more

-- ---- at a head

module _ (app : App) (n port : ℕ) (kept pending : List ℕ) where
  head_step : (bytes : List ℕ) → sent_from (from n app) port AtHead bytes ≡ sent_on (request_at port bytes) (from_request answers (from n app) port)
  unfolding sent_from
  head_step bytes = answers-step (from n app) port bytes

  -- the bytes that are left say no more and no less
  pub head_alike : (left : List ℕ) → ReadsAlike (request_at port) (request_at port) kept left
      → GoesOn app (progress_at port n AtHead kept pending false) (progress_at port n AtHead left pending false)
  head_alike left alike more =
      ap (λ (s : Sent). sent pending false ⨾ s)
      (head_step (kept ++ more) ∙ ap (λ (c : Cut HttpRequest). sent_on c (from_request answers (from n app) port)) (alike more) ∙ sym (head_step (left ++ more)))

  pub head_waits : request_at port kept ≡ waits → IsSettled app (progress_at port n AtHead kept pending false)
  head_waits e =
      ap (λ (s : Sent). sent pending false ⨾ s)
      (head_step (kept ++ []) ∙ ap (λ (c : Cut HttpRequest). sent_on c (from_request answers (from n app) port)) (ap (request_at port) (append-nil kept) ∙ e))
      ∙ (let p = append-nil pending in λ i. sent (p i) false)

  pub head_refused : (reason : Refusal) (stage : SessionStage) (left : List ℕ) → request_at port kept ≡ refused reason
      → GoesOn app (progress_at port n AtHead kept pending false) (progress_at port n stage left (pending ++ (refusal reason).bytes) true)
  head_refused reason stage left e more =
      ap (λ (s : Sent). sent pending false ⨾ s)
      (head_step (kept ++ more) ∙ ap (λ (c : Cut HttpRequest). sent_on c (from_request answers (from n app) port))
      (later_refused more (request_at port kept) (request_at port (kept ++ more)) reason (request_at-later port kept more) e))

  pub head_whole : (request : HttpRequest) (left : List ℕ) → request_at port kept ≡ whole request left
      → GoesOn app (progress_at port n AtHead kept pending false) (progress_at port n (InBody request (awaited_by request.framing)) left (pending ++ (if_continues request).bytes) false)
  unfolding sent_from
  head_whole request left e more =
      ap (λ (s : Sent). sent pending false ⨾ s)
      (head_step (kept ++ more)
      ∙ ap (λ (c : Cut HttpRequest). sent_on c (from_request answers (from n app) port))
      (later_whole more (request_at port kept) (request_at port (kept ++ more)) request left (request_at-later port kept more) e)
      ∙ ap (λ (c : Cut (List ℕ)). if_continues request ⨾ from_body answers (from n app) port request c) (body_starts request.framing (left ++ more)))
      ∙ sym (then_assoc (sent pending false) (if_continues request) (from_body answers (from n app) port request (body_left (awaited_by request.framing) (left ++ more))))

pub head_shorter : (port : ℕ) (kept : List ℕ) (request : HttpRequest) (left : List ℕ) → request_at port kept ≡ whole request left → length left < length kept
head_shorter port kept request left e = let t = takes_at 1 kept (request_at port kept) request left (request_at-takes port kept) e in omega arith

pub body_shorter : (awaited : AwaitedBody) (kept body left : List ℕ) → body_left awaited kept ≡ whole body left → length left ≤ length kept
body_shorter awaited kept body left e = let t = takes_at 0 kept (body_left awaited kept) body left (body_left-takes awaited kept) e in omega arith

-- ---- in a body

module _ (app : App) (n port : ℕ) (kept pending : List ℕ) (request : HttpRequest) (awaited : AwaitedBody) where
  pub body_alike : (next : AwaitedBody) (left : List ℕ) → ReadsAlike (body_left awaited) (body_left next) kept left
      → GoesOn app (progress_at port n (InBody request awaited) kept pending false) (progress_at port n (InBody request next) left pending false)
  unfolding sent_from
  body_alike next left alike more = ap (λ (c : Cut (List ℕ)). sent pending false ⨾ from_body answers (from n app) port request c) (alike more)

  pub body_waits : body_left awaited kept ≡ waits → IsSettled app (progress_at port n (InBody request awaited) kept pending false)
  unfolding sent_from
  body_waits e =
      ap (λ (c : Cut (List ℕ)). sent pending false ⨾ from_body answers (from n app) port request c) (ap (body_left awaited) (append-nil kept) ∙ e)
      ∙ (let p = append-nil pending in λ i. sent (p i) false)

  pub body_refused : (reason : Refusal) (stage : SessionStage) (left : List ℕ) → body_left awaited kept ≡ refused reason
      → GoesOn app (progress_at port n (InBody request awaited) kept pending false) (progress_at port n stage left (pending ++ (refusal reason).bytes) true)
  unfolding sent_from
  body_refused reason stage left e more =
      ap (λ (c : Cut (List ℕ)). sent pending false ⨾ from_body answers (from n app) port request c)
      (later_refused more (body_left awaited kept) (body_left awaited (kept ++ more)) reason (body_left-later awaited kept more) e)

  pub body_whole : (body left : List ℕ) → body_left awaited kept ≡ whole body left
      → GoesOn app (progress_at port n (InBody request awaited) kept pending false) (progress_at port n (Asked request body) left pending false)
  unfolding sent_from
  body_whole body left e more =
      ap (λ (c : Cut (List ℕ)). sent pending false ⨾ from_body answers (from n app) port request c)
      (later_whole more (body_left awaited kept) (body_left awaited (kept ++ more)) body left (body_left-later awaited kept more) e)

-- ---- at a request that waits

pub asked_answered : (app : App) (n port : ℕ) (kept pending : List ℕ) (request : HttpRequest) (body : List ℕ) (reply : Reply) → reply ≡ app n request.environ body
    → GoesOn app (progress_at port n (Asked request body) kept pending false)
    (progress_at port (n + 1) AtHead kept (pending ++ (answer request reply).bytes) (answer request reply).closes)
unfolding sent_from
asked_answered app n port kept pending request body reply e more =
    let first : from n app 0 request.environ body ≡ reply = (λ i. from_first n app i request.environ body) ∙ sym e in
    (λ i. sent pending false ⨾ (answer request (first i) ⨾ answers (from_next n app i) port (kept ++ more)))
    ∙ sym (then_assoc (sent pending false) (answer request reply) (answers (from (n + 1) app) port (kept ++ more)))

-- ---- steps one after the other

-- a session that closes has said all
pub closed_settled : (app : App) (t : Progress) → t.closing ≡ true → IsSettled app t
closed_settled app t shut =
    (λ i. to_come app (progress_at t.port t.answered t.stage t.kept t.pending (shut i)) []) ∙ (λ i. sent t.pending (sym shut i))

-- what is pending begins what is to come
pub due_here : (app : App) (t : Progress) → IsDue app t t.pending
due_here app t more = pick t.pending t.closing (sent_from (from t.answered app) t.port t.stage (t.kept ++ more))
  where
    pick : (p : List ℕ) (c : Bool) (s : Sent) → (tail : List ℕ) × ((sent p c ⨾ s).bytes ≡ p ++ tail)
    pick p true s = ([], sym (append-nil p))
    pick p false s = (s.bytes, refl)

pub due-then : (app : App) (old mid : Progress) (pending : List ℕ) → GoesOn app old mid → IsDue app mid pending → IsDue app old pending
due-then app old mid pending h k more = let d = k more in (d.0, ap (λ (s : Sent). s.bytes) (h more) ∙ d.1)

pub due-same : (app : App) (old : Progress) (pending : List ℕ) → pending ≡ old.pending → IsDue app old pending
due-same app old pending e = subst (IsDue app old) (sym e) (due_here app old)

-- ---- what was fed and taken

-- more bytes are kept
pub stands_kept : (app : App) (fed taken piece : List ℕ) (old : Progress) (kept : List ℕ) → kept ≡ old.kept ++ piece → Stands app fed taken old
    → Stands app (fed ++ piece) taken (progress_at old.port old.answered old.stage kept old.pending old.closing)
stands_kept app fed taken piece old kept is h more =
    ap (λ (bytes : List ℕ). sent taken false ⨾ (sent old.pending old.closing ⨾ sent_from (from old.answered app) old.port old.stage bytes))
    (ap (λ (l : List ℕ). l ++ more) is ∙ append_assoc old.kept piece more)
    ∙ h (piece ++ more) ∙ ap (answers app old.port) (sym (append_assoc fed piece more))

-- and what is to come stays as it was
pub stands_on : (app : App) (fed taken : List ℕ) (old new : Progress) → GoesOn app old new → new.port ≡ old.port → Stands app fed taken old → Stands app fed taken new
stands_on app fed taken old new step port h more =
    ap (λ (s : Sent). sent taken false ⨾ s) (sym (step more)) ∙ h more ∙ (λ i. answers app (sym port i) (fed ++ more))

pub stands_begun : (app : App) (port answered : ℕ) (kept pending : List ℕ) → answered ≡ 0 → kept ≡ [] → pending ≡ []
    → Stands app [] [] (progress_at port answered AtHead kept pending false)
unfolding sent_from
stands_begun app port answered kept pending none k p more =
    let all = ap (λ (n : ℕ). from n app) none ∙ from_start app in
    λ i. sent [] false ⨾ (sent (p i) false ⨾ answers (all i) port (k i ++ more))

nothing_there : (port : ℕ) → request_at port [] ≡ waits
unfolding request_at
nothing_there port = refl

pub settled_begun : (app : App) (port answered : ℕ) (kept pending : List ℕ) → kept ≡ [] → IsSettled app (progress_at port answered AtHead kept pending false)
settled_begun app port answered kept pending k = head_waits app answered port kept pending (ap (request_at port) k ∙ nothing_there port)

-- what is due of the old session is due after what was taken
pub due_fed : (app : App) (fed taken : List ℕ) (old : Progress) (pending : List ℕ) → Stands app fed taken old → IsDue app old pending
    → (tail : List ℕ) × ((answers app old.port fed).bytes ≡ taken ++ pending ++ tail)
due_fed app fed taken old pending h due =
    let d = due [] in (
      d.0,
      ap (λ (s : Sent). s.bytes) (ap (answers app old.port) (sym (append-nil fed)) ∙ sym (h [])) ∙ ap (λ (l : List ℕ). taken ++ l) d.1
          ∙ sym (append_assoc taken pending d.0),
    )

said_none : (p : List ℕ) (s : Sent) → sent p false ⨾ s ≡ sent p false → (s.bytes ≡ []) × (s.closes ≡ false)
said_none p s e =
    (append_cancel_left p s.bytes [] (ap (λ (t : Sent). t.bytes) e ∙ sym (append-nil p)), ap (λ (t : Sent). t.closes) e)

module _ (app : App) (old : Progress) (n : ℕ) (pending : List ℕ) (is : pending ≡ drop n old.pending) where
  pub stands_took : (fed taken : List ℕ) → Stands app fed taken old → Stands app fed (taken ++ take n old.pending) (progress_at old.port old.answered old.stage old.kept pending old.closing)
  stands_took fed taken h more =
      (λ i. sent (taken ++ take n old.pending) false ⨾ (sent (is i) old.closing ⨾ sent_from (from old.answered app) old.port old.stage (old.kept ++ more)))
      ∙ moved old.closing (sent_from (from old.answered app) old.port old.stage (old.kept ++ more)) ∙ h more
    where
      joined : (taken ++ take n old.pending) ++ drop n old.pending ≡ taken ++ old.pending
      joined = append_assoc taken (take n old.pending) (drop n old.pending) ∙ ap (λ (l : List ℕ). taken ++ l) (take-append-drop n old.pending)

      moved : (c : Bool) (s : Sent) → sent (taken ++ take n old.pending) false ⨾ (sent (drop n old.pending) c ⨾ s) ≡ sent taken false ⨾ (sent old.pending c ⨾ s)
      moved true s = λ i. sent (joined i) true
      moved false s =
          let e : (taken ++ take n old.pending) ++ (drop n old.pending ++ s.bytes) ≡ taken ++ (old.pending ++ s.bytes) =
          sym (append_assoc (taken ++ take n old.pending) (drop n old.pending) s.bytes) ∙ ap (λ (l : List ℕ). l ++ s.bytes) joined ∙ append_assoc taken old.pending s.bytes in
          λ i. sent (e i) s.closes

  pub settled_took : IsSettled app old → IsSettled app (progress_at old.port old.answered old.stage old.kept pending old.closing)
  settled_took settled =
      (λ i. sent (is i) old.closing ⨾ sent_from (from old.answered app) old.port old.stage (old.kept ++ []))
      ∙ still old.closing (sent_from (from old.answered app) old.port old.stage (old.kept ++ [])) settled ∙ (λ i. sent (sym is i) old.closing)
    where
      still : (c : Bool) (s : Sent) → sent old.pending c ⨾ s ≡ sent old.pending c → sent (drop n old.pending) c ⨾ s ≡ sent (drop n old.pending) c
      still true s e = refl
      still false s e =
          let none = said_none old.pending s e in
          let b : drop n old.pending ++ s.bytes ≡ drop n old.pending = ap (λ (l : List ℕ). drop n old.pending ++ l) none.0 ∙ append-nil (drop n old.pending) in
          λ i. sent (b i) (none.1 i)

pub on_err : {T E : Type 0} (r : Result T E) (P : Type 0) → P → OnErr r P
on_err (Ok x) P p = tt
on_err (Err e) P p = p

-- nothing is sent for no bytes
pub answers-nothing : (app : App) (port : ℕ) → answers app port [] ≡ nothing_sent
unfolding sent_from
answers-nothing app port = (λ i. answers (sym (from_start app) i) port []) ∙ settled_begun app port 0 [] [] refl
