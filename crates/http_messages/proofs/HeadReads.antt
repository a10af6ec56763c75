-- What a parsed head is.
use Rattle.std.proofs.Common.{◌≡◌, ◌≢◌, ℕ, zero, suc, ◌<◌, ◌≤◌, List, [], ◌∷◌, ◌++◌, length, map, take, drop, refl, sym, ap, ◌∙◌, subst, arith, append-nil, Some, inl, inr}
use Rattle.std.proofs.lemmas.Bool.{cases_lt}
use Rattle.std.specs.Prelude.{Result, Ok, Err}
use Rattle.httparse.specs.declared.Error.{Error}
use Rattle.httparse.specs.declared.Status.{Status}
use Rattle.httparse.specs.declared.Status.TheVariants.{Complete, Partial}
use Rattle.httparse.specs.declared.spans.HeaderSpan.{HeaderSpan}
use Rattle.httparse.specs.declared.spans.RequestSpans.{RequestSpans}
use Rattle.httparse.specs.Grammar.{LineEnd, crlf, lf, print_blank, Field, RequestHead, print_request, ReadsRequest}
use Rattle.httparse.specs.Outcome.{IsCompleteAnd}
use Rattle.httparse.specs.Spans.{IsRequestAt, IsRequestWithin, IsRequestOf, FindsRequest, name_and_value, header_bytes}
use Rattle.httparse.proofs.GrammarLemmas.{print_request-append}
use Rattle.std.proofs.lemmas.List.{length-map}
use Rattle.http_messages.specs.Head.{request_head}
use Rattle.http_messages.proofs.HeadLaws.{request_head-sound, request_head-full}
use Rattle.http_messages.specs.Cuts.{empty_line}
use Rattle.http_messages.specs.declared.limits.TheConstants.{MOST_FIELDS}

length_take_le : {A : Type 0} (n : ℕ) (l : List A) → length (take n l) ≤ length l
length_take_le zero [] = omega arith
length_take_le zero (x ∷ l) = omega arith
length_take_le (suc n) [] = omega arith
length_take_le (suc n) (x ∷ l) = let h = length_take_le n l in omega arith

-- a head with an empty line before it begins with one
no_blank : (head : List ℕ) (h : RequestHead) → ReadsRequest head h [] → empty_line head ≡ 0 → h.blank ≡ []
no_blank head h x none = pick h.blank _ (ap empty_line (x.1 ∙ print_request-append h []))
  where
    pick : (blank : List LineEnd) (rest : List ℕ) → empty_line head ≡ empty_line (print_blank blank ++ rest) → blank ≡ []
    pick [] rest e = refl
    pick (crlf ∷ blank) rest e = absurd (let two : 0 ≡ 2 = sym none ∙ e in omega arith)
    pick (lf ∷ []) [] e = absurd (let one : 0 ≡ 1 = sym none ∙ e in omega arith)
    pick (lf ∷ []) (r ∷ rest) e = absurd (let one : 0 ≡ 1 = sym none ∙ e in omega arith)
    pick (lf ∷ crlf ∷ blank) rest e = absurd (let one : 0 ≡ 1 = sym none ∙ e in omega arith)
    pick (lf ∷ lf ∷ blank) rest e = absurd (let one : 0 ≡ 1 = sym none ∙ e in omega arith)

-- a head that was read to the end of the bytes is the head that they are
pub whole_head : (head : List ℕ) (headers : List HeaderSpan) (spans : RequestSpans) → IsRequestWithin head headers spans
    → IsRequestOf head headers spans → spans.len ≡ length head → length headers ≡ MOST_FIELDS → empty_line head ≡ 0
    → (h : RequestHead) × (request_head head ≡ Some h) × (length h.fields ≤ MOST_FIELDS) × IsRequestAt head headers spans h
whole_head head headers spans inside (h, at) end room none =
    let rest : drop spans.len head ≡ [] = ap (λ (n : ℕ). drop n head) end ∙ drop_all head in
    let reads : ReadsRequest head h [] = subst (λ (r : List ℕ). ReadsRequest head h r) rest at.reads in
    let count : length (map (header_bytes head) (take spans.headers headers)) ≡ length (map name_and_value h.fields) = ap length at.fields in
    let few : length h.fields ≤ MOST_FIELDS = count_fits h.fields count in
    (h, request_head-full head h reads (no_blank head h reads none), few, at)
  where
    count_fits : (fields : List Field) → length (map (header_bytes head) (take spans.headers headers)) ≡ length (map name_and_value fields) → length fields ≤ MOST_FIELDS
    count_fits fields e = let t = length_take_le spans.headers headers in omega (arith, simp (length-map) at e)

    drop_all : (l : List ℕ) → drop (length l) l ≡ []
    drop_all [] = refl
    drop_all (x ∷ l) = drop_all l

-- where the parser finds no head that ends with the bytes, they are none with so few fields
pub no_head : (head : List ℕ) (headers : List HeaderSpan) (room : ℕ) (r : Result (Status RequestSpans) Error)
    → FindsRequest head room headers r → room ≡ MOST_FIELDS → ((spans : RequestSpans) → r ≡ Ok (Complete spans) → spans.len ≢ length head)
    → (h : RequestHead) → request_head head ≡ Some h → MOST_FIELDS < length h.fields
no_head head headers room r finds limit not_whole h e = elim (cases_lt MOST_FIELDS (length h.fields)) [
  | inl over ↦ over
  | inr fits ↦ absurd (pick r not_whole (finds h [] (request_head-sound head h e) (omega arith)))
]
  where
    pick : (r : Result (Status RequestSpans) Error) → ((spans : RequestSpans) → r ≡ Ok (Complete spans) → spans.len ≢ length head)
        → IsCompleteAnd r (λ spans. IsRequestAt head headers spans h) → ⊥
    pick (Ok (Complete spans)) not_whole at =
        let all : length head ≡ length (print_request h) = ap length ((request_head-sound head h e).1 ∙ append-nil (print_request h)) in
        not_whole spans refl (at.len ∙ sym all)
    pick (Ok Partial) not_whole at = at
    pick (Err error) not_whole at = at
