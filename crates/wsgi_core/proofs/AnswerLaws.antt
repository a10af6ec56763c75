-- Pieces and headers, one more at a time.
use Rattle.std.proofs.Common.{◌≡◌, ℕ, zero, suc, ◌+◌, ◌-◌, ◌<◌, Bool, true, false, cond, List, [], ◌∷◌, ◌++◌, length, take, refl, sym, ap, ◌∙◌, arith, get_or, append_assoc, append-nil, length-append, min, inl, inr}
use Rattle.std.proofs.lemmas.List.{take_more, take_all}
use Rattle.std.proofs.lemmas.Bool.{cases_lt, cond-true, cond-false}
use Rattle.std.specs.List.{concat}
use Rattle.std.specs.Str.{str_eq_ignore_ascii_case}
use Rattle.http_messages.specs.Environ.{Pair}
use Rattle.http_messages.proofs.JudgeLaws.{values_more, values_same}
use Rattle.http_messages.specs.declared.request.HttpRequest.{HttpRequest}
use Rattle.wsgi_core.specs.declared.reply.Reply.{Reply}
use Rattle.wsgi_core.specs.declared.answer.Stated.{Stated}
use Rattle.wsgi_core.specs.declared.answer.Stated.TheVariants.{Nothing, Length, Wrong}
use Rattle.std.specs.Str.Parse.{digits_value}
use Rattle.http_messages.specs.Requests.{is_length, values}
use Rattle.wsgi_core.specs.Answer.{length_of, stated_by, is_faulty, server_error, sent_for, answer}
use Rattle.wsgi_core.specs.Stating.{stated_next}

concat-append : (xs : List (List ℕ)) (p : List ℕ) → concat (xs ++ p ∷ []) ≡ concat xs ++ p
concat-append [] p = append-nil p
concat-append (x ∷ xs) p = ap (λ (l : List ℕ). x ++ l) (concat-append xs p) ∙ sym (append_assoc x (concat xs) p)

-- one more piece
pub concat_more : (pieces : List (List ℕ)) (i : ℕ) (p : List ℕ) → i < length pieces → p ≡ get_or pieces i p
    → concat (take (i + 1) pieces) ≡ concat (take i pieces) ++ p
concat_more pieces i p inside is =
    ap concat (take_more pieces i p inside ∙ ap (λ (x : List ℕ). take i pieces ++ x ∷ []) (sym is)) ∙ concat-append (take i pieces) p

-- what stands in the first n bytes, and how many of n are still missing
pub counted_more : (n : ℕ) (before piece : List ℕ) → take n (before ++ piece) ≡ take n before ++ take (n - length before) piece
counted_more zero [] piece = refl
counted_more (suc n) [] piece =
    let all : suc n - 0 ≡ suc n = omega arith in ap (λ (k : ℕ). take k piece) (sym all)
counted_more zero (b ∷ before) piece =
    let none : 0 - suc (length before) ≡ 0 = omega arith in ap (λ (k : ℕ). take k piece) (sym none)
counted_more (suc n) (b ∷ before) piece =
    let less : suc n - suc (length before) ≡ n - length before = omega arith in
    ap (λ (l : List ℕ). b ∷ l) (counted_more n before piece ∙ ap (λ (k : ℕ). take n before ++ take k piece) (sym less))

take_within : (m n : ℕ) (piece : List ℕ) → n ≡ min m (length piece) → take n piece ≡ take m piece
take_within m n piece e = elim (cases_lt m (length piece)) [
  | inl less ↦ let same : n ≡ m = omega arith in ap (λ (k : ℕ). take k piece) same
  | inr more ↦ let all : n ≡ length piece = omega arith in
      ap (λ (k : ℕ). take k piece) all ∙ take_all (length piece) piece (omega arith) ∙ sym (take_all m piece more)
]

-- a loop over the pieces that sends the first n bytes
module _ (n : ℕ) (pieces : List (List ℕ)) (i : ℕ) (p : List ℕ) (inside : i < length pieces) (is : p ≡ get_or pieces i p) (left len : ℕ) (start out new : List ℕ)
    (sent : out ≡ start ++ take n (concat (take i pieces))) (rest : left ≡ n - length (concat (take i pieces))) (least : len ≡ min left (length p))
    (pushed : new ≡ out ++ take len p) where
  pub counted_sent : new ≡ start ++ take n (concat (take (i + 1) pieces))
  counted_sent =
      let before = concat (take i pieces) in
      pushed ∙ ap (λ (l : List ℕ). l ++ take len p) sent ∙ append_assoc start (take n before) (take len p)
      ∙ ap (λ (l : List ℕ). start ++ (take n before ++ l)) (take_within left len p least ∙ ap (λ (k : ℕ). take k p) rest)
      ∙ ap (λ (l : List ℕ). start ++ l) (sym (counted_more n before p))
      ∙ ap (λ (l : List ℕ). start ++ take n l) (sym (concat_more pieces i p inside is))

  pub counted_left : left - len ≡ n - length (concat (take (i + 1) pieces))
  counted_left =
      let longer : length (concat (take (i + 1) pieces)) ≡ length (concat (take i pieces)) + length p =
      ap length (concat_more pieces i p inside is) ∙ length-append (concat (take i pieces)) p in
      omega arith

-- ---- the length that headers state

next_of_one : (value other : List ℕ) → stated_by (value ∷ other ∷ []) ≡ stated_next (length_of value) other
next_of_one value other = pick (length_of value) (never value)
  where
    pick : (s : Stated) → (s ≡ Nothing → ⊥) → Wrong ≡ stated_next s other
    pick Nothing h = absurd (h refl)
    pick (Length n) h = refl
    pick Wrong h = refl

    never : (value : List ℕ) → length_of value ≡ Nothing → ⊥
    never value e = differ (is_length value) (digits_value 10 value) e
      where
        differ : (b : Bool) (n : ℕ) → cond b (Length n) Wrong ≡ Nothing → ⊥
        differ true n e = absurd (cc)
        differ false n e = absurd (cc)

stated-append : (vs : List (List ℕ)) (v : List ℕ) → stated_by (vs ++ v ∷ []) ≡ stated_next (stated_by vs) v
stated-append [] v = refl
stated-append (w ∷ []) v = next_of_one w v
stated-append (w ∷ x ∷ vs) v = refl

module _ (name : List ℕ) (headers : List Pair) (i : ℕ) (p : Pair) (inside : i < length headers) (is : p ≡ get_or headers i p) where
  one_more : take (i + 1) headers ≡ take i headers ++ p ∷ []
  one_more = take_more headers i p inside ∙ ap (λ (x : Pair). take i headers ++ x ∷ []) (sym is)

  stated_named : true ≡ str_eq_ignore_ascii_case p.0 name
      → stated_by (values name (take (i + 1) headers)) ≡ stated_next (stated_by (values name (take i headers))) p.1
  stated_named e =
      ap (λ (l : List Pair). stated_by (values name l)) one_more
      ∙ ap stated_by (values_more name (take i headers) p e) ∙ stated-append (values name (take i headers)) p.1

  stated_other : false ≡ str_eq_ignore_ascii_case p.0 name → stated_by (values name (take (i + 1) headers)) ≡ stated_by (values name (take i headers))
  stated_other e =
      ap (λ (l : List Pair). stated_by (values name l)) one_more ∙ ap stated_by (values_same name (take i headers) p e)

  pub stated_more : cond (str_eq_ignore_ascii_case p.0 name) (stated_next (stated_by (values name (take i headers))) p.1) (stated_by (values name (take i headers)))
      ≡ stated_by (values name (take (i + 1) headers))
  stated_more = pick (str_eq_ignore_ascii_case p.0 name) refl
    where
      pick : (b : Bool) → b ≡ str_eq_ignore_ascii_case p.0 name
          → cond b (stated_next (stated_by (values name (take i headers))) p.1) (stated_by (values name (take i headers))) ≡ stated_by (values name (take (i + 1) headers))
      pick true e = sym (stated_named e)
      pick false e = sym (stated_other e)

-- ---- which answer it is

pub answer_faulty : (q : HttpRequest) (reply : Reply) → is_faulty reply ≡ true → answer q reply ≡ server_error q
unfolding answer
answer_faulty q reply e = cond-true (is_faulty reply) (server_error q) (sent_for q reply) e

pub answer_sent : (q : HttpRequest) (reply : Reply) → is_faulty reply ≡ false → answer q reply ≡ sent_for q reply
unfolding answer
answer_sent q reply e = cond-false (is_faulty reply) (server_error q) (sent_for q reply) e

-- An answer of which HEAD is sent the head alone, and any other method the body behind it.
module _ (sent_to : Bool → List ℕ) (body : List ℕ) (all : sent_to true ++ body ≡ sent_to false) (is_head : Bool) (out head : List ℕ) (sent : head ≡ out ++ sent_to true) where
  pub head_alone : is_head ≡ true → head ≡ out ++ sent_to is_head
  head_alone e = sent ∙ ap (λ (b : Bool). out ++ sent_to b) (sym e)

  pub head_and_body : (new : List ℕ) → is_head ≡ false → new ≡ head ++ body → new ≡ out ++ sent_to is_head
  head_and_body new e pushed =
      pushed
      ∙ ap (λ (l : List ℕ). l ++ body) sent
      ∙ append_assoc out (sent_to true) body
      ∙ ap (λ (l : List ℕ). out ++ l) all
      ∙ ap (λ (b : Bool). out ++ sent_to b) (sym e)
