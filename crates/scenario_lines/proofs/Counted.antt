-- Parts that were read before, put in front of those that are still to be read.
use Rattle.std.proofs.Common.{◌≡◌, ℕ, zero, suc, ◌+◌, ◌-◌, ◌<◌, List, [], ◌∷◌, ◌++◌, Result, Ok, Err, refl, arith, ap, sym, ◌∙◌, append_assoc}
use Rattle.scenario_grammar.specs.declared.token.Token.{Token}
use Rattle.scenario_grammar.specs.Reading.{Reader, Reading, ◌>>=◌, count_at, to_the_end, nested_at, term_at}
use Rattle.scenario_lines.specs.declared.refusal.LineRefusal.{LineRefusal}
use Rattle.scenario_lines.specs.declared.refusal.LineRefusal.TheVariants as refusal
use Rattle.scenario_lines.specs.Parts.{IsLast, Refuses}
use Rattle.scenario_lines.specs.Reads.{Reads}
use Rattle.scenario_grammar.specs.declared.reason.TextReason.{TextReason}

abbrev pub with_front : {A : Type 0} → List A → Reading (List A) → Reading (List A)
with_front front r = r >>= λ x. Ok (front ++ x.0, x.1)

-- one more part behind those that were read
moved : {A : Type 0} (items : List A) (x : A) (r : Reading (List A)) → with_front (items ++ x ∷ []) r ≡ with_front items (r >>= λ y. Ok (x ∷ y.0, y.1))
moved items x (Ok y) = ap (λ z. let w : Reading (List _) = Ok (z, y.1) in w) (append_assoc items (x ∷ []) y.0)
moved items x (Err e) = refl

pub count_next : {A : Type 0} (part : Reader A) (n k : ℕ) (before items : List A) (ts us : List Token) (read : Result A LineRefusal) → k < n → Reads (part ts) read us → IsLast read before items
    → with_front items (count_at part (n - (k + 1)) us) ≡ with_front before (count_at part (n - k) ts)
count_next part n k before items ts us (Ok x) h e last =
    let more : n - k ≡ suc (n - (k + 1)) = omega (arith, h) in
    rw (last, more, e) (moved before x (count_at part (n - (k + 1)) us))
count_next part n k before items ts us (Err why) h e last = absurd last

pub nested_next : (depth : ℕ) (t : Token) (ts : List Token) → 0 < depth → nested_at depth (t ∷ ts) ≡ term_at (nested_at (depth - 1)) t ts
unfolding nested_at
nested_next zero t ts h = absurd (omega (arith, h))
nested_next (suc d) t ts h =
    let less : suc d - 1 ≡ d = omega arith in
    rw less refl

-- one more part, where the line has not ended
pub end_next : {A : Type 0} (part : Reader A) (n k : ℕ) (before items : List A) (ts us : List Token) (read : Result A LineRefusal) → k < n → (ts ≡ [] → ⊥) → Reads (part ts) read us → IsLast read before items
    → with_front items (to_the_end part (n - (k + 1)) us) ≡ with_front before (to_the_end part (n - k) ts)
end_next part n k before items [] us read h unended e last = absurd (unended refl)
end_next part n k before items (t ∷ ts) us (Ok x) h unended e last =
    let more : n - k ≡ suc (n - (k + 1)) = omega (arith, h) in
    rw (last, more, e) (moved before x (to_the_end part (n - (k + 1)) us))
end_next part n k before items (t ∷ ts) us (Err why) h unended e last = absurd last

-- what is refused is no reading of another
refused : {A : Type 0} (r : Reading A) (read : Result A LineRefusal) (why : TextReason) (us : List Token) → Reads r read us → Refuses read (refusal.Reason why) → r ≡ Err why
refused r read why us h e = rw e at h

-- a part that is refused refuses them all
pub count_refused : {A : Type 0} (part : Reader A) (n k : ℕ) (items : List A) (ts us : List Token) (read : Result A LineRefusal) (e : LineRefusal) (r : Reading (List A)) → k < n
    → Reads (part ts) read us → Refuses read e → with_front items (count_at part (n - k) ts) ≡ r → Reads r (Err e) us
count_refused part n k items ts us read refusal.Memory r h f g same = tt
count_refused part n k items ts us read (refusal.Reason why) r h f g same =
    let more : n - k ≡ suc (n - (k + 1)) = omega (arith, h) in
    sym same ∙ rw (more, refused (part ts) read why us f g) refl

-- the same of parts up to the line's end, which has not come
pub end_refused : {A : Type 0} (part : Reader A) (n k : ℕ) (items : List A) (ts us : List Token) (read : Result A LineRefusal) (e : LineRefusal) (r : Reading (List A)) → k < n → (ts ≡ [] → ⊥)
    → Reads (part ts) read us → Refuses read e → with_front items (to_the_end part (n - k) ts) ≡ r → Reads r (Err e) us
end_refused part n k items ts us read refusal.Memory r h unended f g same = tt
end_refused part n k items [] us read (refusal.Reason why) r h unended f g same = absurd (unended refl)
end_refused part n k items (t ∷ ts) us read (refusal.Reason why) r h unended f g same =
    let more : n - k ≡ suc (n - (k + 1)) = omega (arith, h) in
    sym same ∙ rw (more, refused (part (t ∷ ts)) read why us f g) refl
