-- Reading the request at the front.
use Rattle.std.proofs.Common.{◌≡◌, ℕ, zero, suc, Bool, true, false, ◌&&◌, cond, List, [], ◌∷◌, ◌++◌, take, drop, refl, sym, ap, ◌∙◌}
use Rattle.std.proofs.lemmas.Bool.{cond-true, cond-false}
use Rattle.std.specs.Prelude.{◌==◌, Result}
use Rattle.http_messages.specs.declared.refusal.Refusal.{Refusal}
use Rattle.http_messages.specs.declared.request.HttpRequest.{HttpRequest}
use Rattle.http_messages.specs.Cuts.{Cut, waits, refused, whole, and_then, or_refused, is_lf, empty_line, drop_empty_lines}
use Rattle.http_messages.specs.Head.{request_head}
use Rattle.http_messages.specs.Requests.{judged, head_at, request_here, request_at}
use Rattle.http_messages.specs.Readings.{ReadsAlike}
use Rattle.http_messages.proofs.JudgeLaws.{no_line}

drop_lf : (b : ℕ) (bytes : List ℕ) → is_lf b ≡ true → drop_empty_lines (b ∷ bytes) ≡ drop_empty_lines bytes
drop_lf b [] e = cond-true (is_lf b) [] (b ∷ []) e
drop_lf b (c ∷ bytes) e = cond-true (is_lf b) (drop_empty_lines (c ∷ bytes)) _ e

-- empty lines that are dropped now are dropped later
pub dropped-more : (bytes more : List ℕ) → drop_empty_lines (bytes ++ more) ≡ drop_empty_lines (drop_empty_lines bytes ++ more)
dropped-more [] more = refl
dropped-more (b ∷ []) more = pick (is_lf b) refl
  where
    pick : (t : Bool) → is_lf b ≡ t → drop_empty_lines (b ∷ more) ≡ drop_empty_lines (cond t [] (b ∷ []) ++ more)
    pick true e = drop_lf b more e
    pick false e = refl
dropped-more (b ∷ c ∷ bytes) more = pick (is_lf b) ((b == 13) && is_lf c) (dropped-more (c ∷ bytes) more) (dropped-more bytes more) refl refl
  where
    pick : (t u : Bool)
        → drop_empty_lines (c ∷ (bytes ++ more)) ≡ drop_empty_lines (drop_empty_lines (c ∷ bytes) ++ more)
        → drop_empty_lines (bytes ++ more) ≡ drop_empty_lines (drop_empty_lines bytes ++ more)
        → is_lf b ≡ t → ((b == 13) && is_lf c) ≡ u
        → drop_empty_lines (b ∷ c ∷ (bytes ++ more)) ≡ drop_empty_lines (cond t (drop_empty_lines (c ∷ bytes)) (cond u (drop_empty_lines bytes) (b ∷ c ∷ bytes)) ++ more)
    pick true u h k e f = cond-true (is_lf b) (drop_empty_lines (c ∷ (bytes ++ more))) _ e ∙ h
    pick false true h k e f =
        cond-false (is_lf b) (drop_empty_lines (c ∷ (bytes ++ more))) (cond ((b == 13) && is_lf c) (drop_empty_lines (bytes ++ more)) (b ∷ c ∷ (bytes ++ more))) e
        ∙ cond-true ((b == 13) && is_lf c) (drop_empty_lines (bytes ++ more)) (b ∷ c ∷ (bytes ++ more)) f ∙ k
    pick false false h k e f = refl

-- the part of bytes without an empty line at the front has none
pub no_line_in : (n : ℕ) (bytes : List ℕ) → ◌≡◌ {A = ℕ} (empty_line bytes) 0 → ◌≡◌ {A = ℕ} (empty_line (take n bytes)) 0
no_line_in zero bytes e = refl
no_line_in (suc n) [] e = refl
no_line_in (suc n) (b ∷ []) e = ap (λ (l : List ℕ). empty_line (b ∷ l)) (take_nil n) ∙ e
  where
    take_nil : (n : ℕ) → ◌≡◌ {A = List ℕ} (take n []) []
    take_nil zero = refl
    take_nil (suc n) = refl
no_line_in (suc zero) (b ∷ c ∷ bytes) e = pick (is_lf b) (cond ((b == 13) && is_lf c) 2 0) e
  where
    pick : (t : Bool) (k : ℕ) → ◌≡◌ {A = ℕ} (cond t 1 k) 0 → ◌≡◌ {A = ℕ} (cond t 1 0) 0
    pick true k e = e
    pick false k e = refl
no_line_in (suc (suc n)) (b ∷ c ∷ bytes) e = e

module _ (port : ℕ) (old mid : List ℕ) (is : mid ≡ drop_empty_lines old) (fresh : empty_line mid ≡ 0) where
  at_front : request_at port old ≡ request_here port mid
  unfolding request_at
  at_front = ap (request_here port) (sym is)

  at_front_again : request_at port mid ≡ request_here port mid
  unfolding request_at
  at_front_again = ap (request_here port) (no_line mid fresh)

  pub request_alike : ReadsAlike (request_at port) (request_at port) old mid
  unfolding request_at
  request_alike more = ap (request_here port) (dropped-more old more ∙ ap (λ (l : List ℕ). drop_empty_lines (l ++ more)) (sym is))

  by_head : (c : Cut (List ℕ)) → head_at mid ≡ c → request_here port mid ≡ and_then c (λ head rest. or_refused (judged port (request_head head)) rest)
  by_head c e = ap (λ (c : Cut (List ℕ)). and_then c (λ head rest. or_refused (judged port (request_head head)) rest)) e

  pub request_waits : head_at mid ≡ waits → (request_at port mid ≡ waits) × ReadsAlike (request_at port) (request_at port) old mid
  request_waits e = (at_front_again ∙ by_head waits e, request_alike)

  pub request_excluded : (reason : Refusal) → head_at mid ≡ refused reason → request_at port old ≡ refused reason
  request_excluded reason e = at_front ∙ by_head (refused reason) e

  pub request_judged : (n : ℕ) (r : Result HttpRequest Refusal) → head_at mid ≡ whole (take n mid) (drop n mid) → r ≡ judged port (request_head (take n mid))
      → request_at port old ≡ or_refused r (drop n mid)
  request_judged n r e j = at_front ∙ by_head (whole (take n mid) (drop n mid)) e ∙ ap (λ (r : Result HttpRequest Refusal). or_refused r (drop n mid)) (sym j)
