-- What a write does to a sink that compares.
use Rattle.std.proofs.Common.{◌≡◌, ℕ, ◌+◌, ◌-◌, ◌<◌, ◌≤◌, List, [], ◌∷◌, ◌++◌, length, take, drop, get_or, Bool, true, false, is_some, Option, Some, None, refl, ap, sym, ◌∙◌, subst, append_assoc, arith}
use Rattle.std.proofs.lemmas.List.{append-nil, drop-drop, drop_more, length-drop, take-append-drop, take_more}
use Rattle.std.proofs.lemmas.Grind.{common_steps}
use Rattle.std.proofs.Math.Seq.{take-add, take-length}
use Rattle.gv_io.specs.Streams.{appended, AppendsPrefix, Extends}
use Rattle.gv_io.proofs.StreamLaws.{AppendsPrefix-nothing, AppendsPrefix-told, appended-told}
use Rattle.gv_values.specs.Texts.{Text}
use Rattle.trace_laws.specs.Comparing.{Comparing, Compares, IsCommon, IsNext, told_text}

-- a sink, by its parts
abbrev pub sink_of : Text → ℕ → Option ℕ → ℕ → Comparing
sink_of t m o f = record { trace = t; matched = m; other = o; faults = f }

-- the bytes of the trace up to a place, and so many after it
taken_on : (t bytes : Text) (m n : ℕ) → IsCommon (drop m t) bytes n → take (m + n) t ≡ take m t ++ take n bytes
taken_on t bytes m n c = take-add m n t ∙ ap (λ z. take m t ++ z) c.same

all_common : (t bytes : Text) (m n : ℕ) → n ≡ length bytes → IsCommon (drop m t) bytes n → take n bytes ≡ bytes
all_common t bytes m n e c = ap (λ k. take k bytes) e ∙ take-length bytes

-- ---- a write that fits

pub fits_told : (t bytes : Text) (m n f g : ℕ) (s : Comparing) (o : Option ℕ) → s ≡ sink_of t m o f → o ≡ None → n ≡ length bytes → IsCommon (drop m t) bytes n →
    Some (told_text (sink_of t (m + n) o g)) ≡ appended (Some (told_text s)) bytes
fits_told t bytes m n f g s o e none long c =
    subst (λ (u : Comparing). Some (told_text (sink_of t (m + n) o g)) ≡ appended (Some (told_text u)) bytes) (sym e)
    (subst (λ (p : Option ℕ). Some (told_text (sink_of t (m + n) p g)) ≡ appended (Some (told_text (sink_of t m p f))) bytes) (sym none) plain)
  where
    written : take (m + n) t ++ [] ≡ (take m t ++ []) ++ bytes
    written =
        append-nil (take (m + n) t) ∙ taken_on t bytes m n c ∙ ap (λ z. take m t ++ z) (all_common t bytes m n long c)
        ∙ ap (λ z. z ++ bytes) (sym (append-nil (take m t)))

    plain : Some (told_text (sink_of t (m + n) None g)) ≡ appended (Some (told_text (sink_of t m None f))) bytes
    plain =
        ap (λ z. Some (length t ∷ (t ++ z))) written ∙ ap (λ z. Some (length t ∷ z)) (sym (append_assoc t (take m t ++ []) bytes))
        ∙ sym (appended-told (length t ∷ (t ++ (take m t ++ []))) bytes)

pub fits_next : (t bytes : Text) (m n f : ℕ) (s : Comparing) (o : Option ℕ) → s ≡ sink_of t m o f → o ≡ None → n ≡ length bytes → IsCommon (drop m t) bytes n → IsNext s bytes
fits_next t bytes m n f s o e none long c =
    subst (λ (u : Comparing). IsNext u bytes) (sym e)
    (record {
      none = none;
      rest = drop n (drop m t);
      is = sym (take-append-drop n (drop m t)) ∙ ap (λ z. z ++ drop n (drop m t)) (c.same ∙ all_common t bytes m n long c);
    })

-- ---- a write that does not

-- what stands behind the common part
rest_of : (bytes : Text) (n byte : ℕ) → n < length bytes → byte ≡ get_or bytes n 0 → drop n bytes ≡ byte ∷ drop (n + 1) bytes
rest_of bytes n byte h e = drop_more bytes n 0 h ∙ ap (λ b. b ∷ drop (n + 1) bytes) (sym e)

pub differs_told : (t bytes : Text) (m n f g byte : ℕ) (s : Comparing) (o : Option ℕ) → s ≡ sink_of t m o f → o ≡ None → n < length bytes → byte ≡ get_or bytes n 0 →
    IsCommon (drop m t) bytes n → AppendsPrefix (Some (told_text s)) (Some (told_text (sink_of t (m + n) (Some byte) g))) bytes
differs_told t bytes m n f g byte s o e none h b c =
    subst (λ (u : Comparing). AppendsPrefix (Some (told_text u)) (Some (told_text (sink_of t (m + n) (Some byte) g))) bytes) (sym e)
    (subst (λ (p : Option ℕ). AppendsPrefix (Some (told_text (sink_of t m p f))) (Some (told_text (sink_of t (m + n) (Some byte) g))) bytes) (sym none)
    (AppendsPrefix-told (told_text (sink_of t m None f)) (told_text (sink_of t (m + n) (Some byte) g)) bytes (n + 1) plain))
  where
    written : take (m + n) t ++ byte ∷ [] ≡ (take m t ++ []) ++ take (n + 1) bytes
    written =
        ap (λ z. z ++ byte ∷ []) (taken_on t bytes m n c) ∙ append_assoc (take m t) (take n bytes) (byte ∷ [])
        ∙ ap (λ k. take m t ++ (take n bytes ++ k ∷ [])) b ∙ ap (λ z. take m t ++ z) (sym (take_more bytes n 0 h))
        ∙ ap (λ z. z ++ take (n + 1) bytes) (sym (append-nil (take m t)))

    plain : told_text (sink_of t (m + n) (Some byte) g) ≡ told_text (sink_of t m None f) ++ take (n + 1) bytes
    plain =
        ap (λ z. length t ∷ (t ++ z)) written ∙ ap (λ z. length t ∷ z) (sym (append_assoc t (take m t ++ []) (take (n + 1) bytes)))

drop_within : (k : ℕ) (xs ys : Text) → k ≤ length xs → drop k (xs ++ ys) ≡ drop k xs ++ ys
drop_within k xs ys h = grind (arith, common_steps)

pub differs_next : (t bytes : Text) (m n f : ℕ) (s : Comparing) (o : Option ℕ) → s ≡ sink_of t m o f → n < length bytes → IsCommon (drop m t) bytes n → ¬ IsNext s bytes
differs_next t bytes m n f s o e h c next = by (subst (λ (u : Comparing). IsNext u bytes) e next)
  where
    by : IsNext (sink_of t m o f) bytes → ⊥
    by x =
        let byte = get_or bytes n 0 in
        let back : drop n bytes ≡ byte ∷ drop (n + 1) bytes = rest_of bytes n byte h refl in
        let here : drop n (drop m t) ≡ byte ∷ (drop (n + 1) bytes ++ x.rest) =
        ap (drop n) x.is ∙ drop_within n bytes x.rest (let k : n ≤ length bytes = omega arith in k) ∙ ap (λ z. z ++ x.rest) back in
        c.ends byte (drop (n + 1) bytes) back (drop (n + 1) bytes ++ x.rest) here

pub differs_compares : (t bytes : Text) (m n f g byte : ℕ) (o : Option ℕ) → Compares (sink_of t m o f) → 0 < g → n < length bytes → byte ≡ get_or bytes n 0 → IsCommon (drop m t) bytes n →
    Compares (sink_of t (m + n) (Some byte) g)
differs_compares t bytes m n f g byte o i pos h b c = record {
  within = omega (arith, length-drop m t, i.within, c.in_trace);
  differs = λ d e more z.
      let same : byte ≡ d = cc e in
      c.ends byte (drop (n + 1) bytes) (rest_of bytes n byte h b) more (drop-drop n m t ∙ z ∙ ap (λ k. k ∷ more) (sym same));
  counted = λ d e. pos;
  told = λ p. (byte, refl);
}

-- ---- a write after one that did not

pub stuck_told : (t bytes : Text) (m f g : ℕ) (s : Comparing) (o : Option ℕ) → s ≡ sink_of t m o f → AppendsPrefix (Some (told_text s)) (Some (told_text (sink_of t m o g))) bytes
stuck_told t bytes m f g s o e =
    subst (λ (u : Comparing). AppendsPrefix (Some (told_text u)) (Some (told_text (sink_of t m o g))) bytes) (sym e)
    (AppendsPrefix-nothing (Some (told_text (sink_of t m o g))) bytes)

pub none_there : (o : Option ℕ) (r : Bool) → r ≡ is_some o → r ≡ false → o ≡ None
none_there None r e f = refl
none_there (Some b) r e f = absurd (let z : true ≡ false = sym e ∙ f in let w : ⊥ = cc z in w)

-- a slice from a place on
pub whole_from : (t : Text) (m : ℕ) → take (length t - m) (drop m t) ≡ drop m t
whole_from t m = ap (λ k. take k (drop m t)) (sym (length-drop m t)) ∙ take-length (drop m t)

pub from_place : (t : Text) (m : ℕ) (bytes : Text) (n : ℕ) → IsCommon (take (length t - m) (drop m t)) bytes n → IsCommon (drop m t) bytes n
from_place t m bytes n c = subst (λ z. IsCommon z bytes n) (whole_from t m) c

pub shorter : (bytes : Text) (n : ℕ) → n ≤ length bytes → (n ≡ length bytes → ⊥) → n < length bytes
shorter bytes n h k = omega (arith, h, k)

-- what was written is never taken back
pub whole_extends : (old new : Option (List ℕ)) (text : List ℕ) → new ≡ appended old text → Extends old new
whole_extends old new text e = record { more = text; is = e }

pub prefix_extends : (old new : Option (List ℕ)) (text : List ℕ) → AppendsPrefix old new text → Extends old new
prefix_extends old new text p = record { more = take p.count text; is = p.is }
