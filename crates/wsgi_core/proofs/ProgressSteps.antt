-- The steps of a session as the code meets them: what was read from the old progress, and how the new one differs.
use Rattle.std.specs.Prelude.{Result, Ok, Err, OnErr, OnOk, Option, Some, None, IsSome}
use Rattle.std.proofs.Common.{◌≡◌, ◌+◌, ℕ, Bool, true, false, List, ◌++◌, refl, sym, ap, ◌∙◌, subst}
use Rattle.http_messages.specs.declared.refusal.Refusal.{Refusal}
use Rattle.http_messages.specs.declared.request.HttpRequest.{HttpRequest}
use Rattle.http_messages.specs.declared.request.AwaitedBody.{AwaitedBody}
use Rattle.http_messages.specs.Environ.{Pair}
use Rattle.http_messages.specs.Cuts.{waits, refused, whole}
use Rattle.http_messages.specs.Body.{body_left}
use Rattle.http_messages.specs.AwaitedBody.{awaited_by}
use Rattle.http_messages.specs.Readings.{ReadsAlike}
use Rattle.http_messages.specs.Requests.{request_at}
use Rattle.wsgi_core.specs.declared.session.SessionStage.{SessionStage}
use Rattle.wsgi_core.specs.declared.session.SessionStage.TheVariants.{AtHead, InBody, Asked}
use Rattle.wsgi_core.specs.declared.reply.Reply.{Reply}
use Rattle.wsgi_core.specs.Applications.{App}
use Rattle.wsgi_core.specs.Answer.{refusal, if_continues, answer}
use Rattle.wsgi_core.specs.Steps.{asked_at, asked_if_open, IsReplyTo}
use Rattle.wsgi_core.specs.Progress.{Progress, GoesOn, IsSettled}
use Rattle.wsgi_core.proofs.ProgressLaws.{progress_at, same_progress, head_alike, head_waits, head_refused, head_whole, body_alike, body_waits, body_refused, body_whole, asked_answered}

-- ---- results: what holds where it is `Ok`, or where it is `Err`, gives what follows from it

pub one_ok : {T E : Type 0} (r : Result T E) (A P : Type 0) → OnOk r A → (A → P) → OnOk r P
one_ok (Ok x) A P a f = f a
one_ok (Err e) A P a f = tt

pub one_err : {T E : Type 0} (r : Result T E) (A P : Type 0) → OnErr r A → (A → P) → OnErr r P
one_err (Ok x) A P a f = tt
one_err (Err e) A P a f = f a

pub three_ok : {T E : Type 0} (r : Result T E) (A B C P : Type 0) → OnOk r A → OnOk r B → OnOk r C → (A → B → C → P) → OnOk r P
three_ok (Ok x) A B C P a b c f = f a b c
three_ok (Err e) A B C P a b c f = tt

-- ---- the request that waits

pub open_where_asked : (closing : Bool) (stage : SessionStage) → IsSome (asked_if_open closing stage) → closing ≡ false
open_where_asked true stage h = absurd (cc)
open_where_asked false stage h = refl

pub quiet_at_head : (closing : Bool) (stage : SessionStage) → stage ≡ AtHead → asked_if_open closing stage ≡ None
quiet_at_head true stage e = refl
quiet_at_head false stage e = ap asked_at e

pub asked_there : (closing : Bool) (stage : SessionStage) (request : HttpRequest) (body : List ℕ) → closing ≡ false → stage ≡ Asked request body
    → asked_if_open closing stage ≡ Some (request.environ, body)
asked_there closing stage request body e f = λ i. asked_if_open (e i) (f i)

pub reply_there : (app : App) (n : ℕ) (closing : Bool) (stage : SessionStage) (request : HttpRequest) (body : List ℕ) (reply : Reply) → closing ≡ false → stage ≡ Asked request body
    → IsReplyTo app n (asked_if_open closing stage) reply → reply ≡ app n request.environ body
reply_there app n closing stage request body reply e f h =
    let P : Option (List Pair × List ℕ) → Type 0 = λ asked. IsReplyTo app n asked reply in subst P (asked_there closing stage request body e f) h

-- what is left to do: nothing where no request waits
abbrev pub work_if : {A : Type 0} → Option A → ℕ → ℕ
work_if None n = 0
work_if (Some a) n = n + 1

-- ---- steps of a session

between : (app : App) (t a b new : Progress) → t ≡ a → GoesOn app a b → new ≡ b → GoesOn app t new
between app t a b new e h f more = same_progress app t a e more ∙ h more ∙ sym (same_progress app new b f more)

module _ (app : App) (t new : Progress) (is_open : t.closing ≡ false) where
  module _ (at_head : t.stage ≡ AtHead) where
    old_head : t ≡ progress_at t.port t.answered AtHead t.kept t.pending false
    old_head = λ i. progress_at t.port t.answered (at_head i) t.kept t.pending (is_open i)

    pub at_head-waits : new.port ≡ t.port → new.answered ≡ t.answered → new.stage ≡ AtHead → new.pending ≡ t.pending → new.closing ≡ false
        → ReadsAlike (request_at t.port) (request_at t.port) t.kept new.kept → GoesOn app t new
    at_head-waits p a s q c alike =
        between app t (progress_at t.port t.answered AtHead t.kept t.pending false) (progress_at t.port t.answered AtHead new.kept t.pending false) new old_head
        (head_alike app t.answered t.port t.kept t.pending new.kept alike) (λ i. progress_at (p i) (a i) (s i) new.kept (q i) (c i))

    pub at_head-refused : (reason : Refusal) → request_at t.port t.kept ≡ refused reason
        → new.port ≡ t.port → new.answered ≡ t.answered → new.pending ≡ t.pending ++ (refusal reason).bytes → new.closing ≡ true → GoesOn app t new
    at_head-refused reason e p a q c =
        between app t (progress_at t.port t.answered AtHead t.kept t.pending false) (progress_at t.port t.answered new.stage new.kept (t.pending ++ (refusal reason).bytes) true) new old_head
        (head_refused app t.answered t.port t.kept t.pending reason new.stage new.kept e) (λ i. progress_at (p i) (a i) new.stage new.kept (q i) (c i))

    pub at_head-whole : (request : HttpRequest) → request_at t.port t.kept ≡ whole request new.kept
        → new.port ≡ t.port → new.answered ≡ t.answered → new.stage ≡ InBody request (awaited_by request.framing) → new.pending ≡ t.pending ++ (if_continues request).bytes → new.closing ≡ false
        → GoesOn app t new
    at_head-whole request e p a s q c =
        between app t (progress_at t.port t.answered AtHead t.kept t.pending false)
        (progress_at t.port t.answered (InBody request (awaited_by request.framing)) new.kept (t.pending ++ (if_continues request).bytes) false) new old_head
        (head_whole app t.answered t.port t.kept t.pending request new.kept e) (λ i. progress_at (p i) (a i) (s i) new.kept (q i) (c i))

  module _ (request : HttpRequest) (awaited : AwaitedBody) (in_body : t.stage ≡ InBody request awaited) where
    old_body : t ≡ progress_at t.port t.answered (InBody request awaited) t.kept t.pending false
    old_body = λ i. progress_at t.port t.answered (in_body i) t.kept t.pending (is_open i)

    pub at_body-waits : (next : AwaitedBody) → ReadsAlike (body_left awaited) (body_left next) t.kept new.kept
        → new.port ≡ t.port → new.answered ≡ t.answered → new.stage ≡ InBody request next → new.pending ≡ t.pending → new.closing ≡ false → GoesOn app t new
    at_body-waits next alike p a s q c =
        between app t (progress_at t.port t.answered (InBody request awaited) t.kept t.pending false) (progress_at t.port t.answered (InBody request next) new.kept t.pending false) new old_body
        (body_alike app t.answered t.port t.kept t.pending request awaited next new.kept alike) (λ i. progress_at (p i) (a i) (s i) new.kept (q i) (c i))

    pub at_body-refused : (reason : Refusal) → body_left awaited t.kept ≡ refused reason
        → new.port ≡ t.port → new.answered ≡ t.answered → new.pending ≡ t.pending ++ (refusal reason).bytes → new.closing ≡ true → GoesOn app t new
    at_body-refused reason e p a q c =
        between app t (progress_at t.port t.answered (InBody request awaited) t.kept t.pending false) (progress_at t.port t.answered new.stage new.kept (t.pending ++ (refusal reason).bytes) true) new old_body
        (body_refused app t.answered t.port t.kept t.pending request awaited reason new.stage new.kept e) (λ i. progress_at (p i) (a i) new.stage new.kept (q i) (c i))

    pub at_body-whole : (body : List ℕ) → body_left awaited t.kept ≡ whole body new.kept
        → new.port ≡ t.port → new.answered ≡ t.answered → new.stage ≡ Asked request body → new.pending ≡ t.pending → new.closing ≡ false → GoesOn app t new
    at_body-whole body e p a s q c =
        between app t (progress_at t.port t.answered (InBody request awaited) t.kept t.pending false) (progress_at t.port t.answered (Asked request body) new.kept t.pending false) new old_body
        (body_whole app t.answered t.port t.kept t.pending request awaited body new.kept e) (λ i. progress_at (p i) (a i) (s i) new.kept (q i) (c i))

  pub at_asked : (request : HttpRequest) (body : List ℕ) (reply : Reply) → t.stage ≡ Asked request body → reply ≡ app t.answered request.environ body
      → new.port ≡ t.port → new.answered ≡ t.answered + 1 → new.stage ≡ AtHead → new.kept ≡ t.kept → new.pending ≡ t.pending ++ (answer request reply).bytes → new.closing ≡ (answer request reply).closes
      → GoesOn app t new
  at_asked request body reply waits_for e p a s k q c =
      between app t (progress_at t.port t.answered (Asked request body) t.kept t.pending false)
      (progress_at t.port (t.answered + 1) AtHead t.kept (t.pending ++ (answer request reply).bytes) (answer request reply).closes) new
      (λ i. progress_at t.port t.answered (waits_for i) t.kept t.pending (is_open i))
      (asked_answered app t.answered t.port t.kept t.pending request body reply e) (λ i. progress_at (p i) (a i) (s i) (k i) (q i) (c i))

pub settled_head : (app : App) (new : Progress) → new.stage ≡ AtHead → new.closing ≡ false → request_at new.port new.kept ≡ waits → IsSettled app new
settled_head app new s c e =
    let P : Progress → Type 0 = λ t. IsSettled app t in
    let is : new ≡ progress_at new.port new.answered AtHead new.kept new.pending false = λ i. progress_at new.port new.answered (s i) new.kept new.pending (c i) in
    subst P (sym is) (head_waits app new.answered new.port new.kept new.pending e)

pub settled_body : (app : App) (new : Progress) (request : HttpRequest) (left : AwaitedBody) → new.stage ≡ InBody request left → new.closing ≡ false
    → body_left left new.kept ≡ waits → IsSettled app new
settled_body app new request left s c e =
    let P : Progress → Type 0 = λ t. IsSettled app t in
    let is : new ≡ progress_at new.port new.answered (InBody request left) new.kept new.pending false = λ i. progress_at new.port new.answered (s i) new.kept new.pending (c i) in
    subst P (sym is) (body_waits app new.answered new.port new.kept new.pending request left e)
