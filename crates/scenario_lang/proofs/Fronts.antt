-- What the front of a text says of its bytes.
use Rattle.std.proofs.Common.{◌≡◌, ℕ, zero, suc, ◌+◌, ◌<◌, ◌≤◌, Bool, true, false, ◌&&◌, ◌||◌, not, ◌==◌, if◌then◌else◌, List, [], ◌∷◌, ◌++◌, Option, Some, None, Result, position, slice_index, get_or, length, take, drop, refl, ap, sym, ◌∙◌, arith, add-one}
use Rattle.std.specs.List.{list_all}
use Rattle.std.specs.Option.{option_map}
use Rattle.std.proofs.lemmas.Bool.{and_from, eqb-true, not-false, not-true, or_from}
use Rattle.std.proofs.lemmas.List.{take-append-drop}
use Rattle.std.proofs.lemmas.List.Quantifiers.{position-Some}
use Rattle.std.proofs.Math.Seq.{drop-cons}
use Rattle.scenario_grammar.specs.Layout.{is_end, is_text_byte}
use Rattle.scenario_lines.specs.declared.layout.Front.{Front}
use Rattle.scenario_lines.specs.declared.layout.Front.TheVariants as front
use Rattle.scenario_lines.specs.Fronts.{front_of, is_printable}
use Rattle.scenario_grammar.specs.declared.place.Place.{Place}
use Rattle.scenario_grammar.specs.Building.{Building}
use Rattle.scenario_lang.specs.Lines.{after_line, outcome}
use Rattle.scenario_lang.proofs.Scan.{outcome_line, position_cons}

abbrev front_at : List ℕ → Option ℕ → Front
front_at bytes o = elim o [
  | None ↦ front.NotEnded
  | Some at ↦ if is_end (slice_index bytes at) then front.Line at else front.NotPrintable
]

line_if : (t : Bool) (at i : ℕ) → front.Line at ≡ (if t then front.Line i else front.NotPrintable) → (t ≡ true) × (i ≡ at)
line_if true at i e = (refl, cc)
line_if false at i e = cc

line_case : (bytes : List ℕ) (o : Option ℕ) (at : ℕ) → front.Line at ≡ front_at bytes o → (o ≡ Some at) × (is_end (slice_index bytes at) ≡ true)
line_case bytes None at e = cc
line_case bytes (Some i) at e = let h = line_if (is_end (slice_index bytes i)) at i e in (ap Some h.1, rw h.1 at h.0)

byte_if : (t : Bool) (i : ℕ) → front.NotPrintable ≡ (if t then front.Line i else front.NotPrintable) → t ≡ false
byte_if true i e = cc
byte_if false i e = refl

byte_case : (bytes : List ℕ) (o : Option ℕ) → front.NotPrintable ≡ front_at bytes o → (i : ℕ) × ((o ≡ Some i) × (is_end (slice_index bytes i) ≡ false))
byte_case bytes None e = cc
byte_case bytes (Some i) e = (i, (refl, byte_if (is_end (slice_index bytes i)) i e))

none_if : (t : Bool) (i : ℕ) → front.NotEnded ≡ (if t then front.Line i else front.NotPrintable) → ⊥
none_if true i e = cc
none_if false i e = cc

none_case : (bytes : List ℕ) (o : Option ℕ) → front.NotEnded ≡ front_at bytes o → o ≡ None
none_case bytes None e = refl
none_case bytes (Some i) e = absurd (none_if (is_end (slice_index bytes i)) i e)

all_before : (xs : List ℕ) (i : ℕ) → i ≤ length xs → ((k : ℕ) → k < i → is_printable (get_or xs k 0) ≡ true) → list_all is_printable (take i xs) ≡ true
all_before [] zero h f = refl
all_before [] (suc i) h f = absurd (omega (arith, h))
all_before (x ∷ xs) zero h f = refl
all_before (x ∷ xs) (suc i) h f = and_from _ _ (f zero (omega arith)) (all_before xs i (omega (arith, h)) (λ k l. f (suc k) (omega (arith, l))))

cut : (bytes : List ℕ) (i : ℕ) → i < length bytes → bytes ≡ take i bytes ++ get_or bytes i 0 ∷ drop (i + 1) bytes
cut bytes i h = sym (take-append-drop i bytes) ∙ ap (λ ys. take i bytes ++ ys) (rw (add-one, drop-cons bytes i 0) refl)

-- a line, and its LF
pub record IsLine (bytes : List ℕ) (at : ℕ) : Type 0 where
  pub within : at < length bytes
  pub printable : list_all is_printable (take at bytes) ≡ true
  pub cut : bytes ≡ take at bytes ++ 10 ∷ drop (at + 1) bytes

pub line_front : (bytes : List ℕ) (at : ℕ) → front.Line at ≡ front_of bytes → IsLine bytes at
line_front bytes at e =
    let c = line_case bytes (position (λ b. not (is_printable b)) bytes) at e in
    let p = position-Some (λ b. not (is_printable b)) bytes at 0 c.0 in
    let ten : get_or bytes at 0 ≡ 10 = eqb-true _ _ c.1 in
    record {
      within = p.0;
      printable = all_before bytes at (omega (arith, p.0)) (λ k l. not-false _ (p.2 k l));
      cut = cut bytes at p.0 ∙ ap (λ b. take at bytes ++ b ∷ drop (at + 1) bytes) ten;
    }

-- a byte that is not a text byte, before any LF
pub record IsBad (bytes : List ℕ) (at : ℕ) : Type 0 where
  pub printable : list_all is_printable (take at bytes) ≡ true
  pub cut : bytes ≡ take at bytes ++ get_or bytes at 0 ∷ drop (at + 1) bytes
  pub bad : is_text_byte (get_or bytes at 0) ≡ false

pub byte_front : (bytes : List ℕ) → front.NotPrintable ≡ front_of bytes → (at : ℕ) × IsBad bytes at
byte_front bytes e =
    let c = byte_case bytes (position (λ b. not (is_printable b)) bytes) e in
    let p = position-Some (λ b. not (is_printable b)) bytes c.0 0 c.1.0 in (
      c.0,
      record {
        printable = all_before bytes c.0 (omega (arith, p.0)) (λ k l. not-false _ (p.2 k l));
        cut = cut bytes c.0 p.0;
        bad = or_from _ _ c.1.1 (not-true _ p.1);
      },
    )

none_parts : (t : Bool) (o : Option ℕ) → (if t then Some 0 else option_map (λ i. suc i) o) ≡ None → (t ≡ false) × (o ≡ None)
none_parts true o e = cc
none_parts false None e = (refl, refl)
none_parts false (Some i) e = cc

all_printable : (bytes : List ℕ) → position (λ b. not (is_printable b)) bytes ≡ None → list_all is_printable bytes ≡ true
all_printable [] e = refl
all_printable (b ∷ bs) e =
    let n = none_parts (not (is_printable b)) (position (λ x. not (is_printable x)) bs) (sym (position_cons (λ x. not (is_printable x)) b bs) ∙ e) in
    and_from _ _ (not-false _ n.0) (all_printable bs n.1)

pub unended_front : (bytes : List ℕ) → front.NotEnded ≡ front_of bytes → list_all is_printable bytes ≡ true
unended_front bytes e = all_printable bytes (none_case bytes (position (λ b. not (is_printable b)) bytes) e)

-- one line more of a text
pub outcome_next : (n m : ℕ) (before after : Result Building Place) (bytes text more : List ℕ) (at : ℕ) → IsLine bytes at → 1 ≤ n → m ≡ n + 1 → after ≡ after_line n before text → text ≡ take at bytes → more ≡ drop (at + 1) bytes
    → outcome m after more ≡ outcome n before bytes
outcome_next n m before after bytes text more at f one next state front back =
    let made : after ≡ after_line n before (take at bytes) = state ∙ ap (after_line n before) front in
    let here : outcome m after more ≡ outcome (n + 1) (after_line n before (take at bytes)) (drop (at + 1) bytes) = λ i. outcome (next i) (made i) (back i) in
    here ∙ sym (outcome_line n before (take at bytes) (drop (at + 1) bytes) one f.printable) ∙ ap (outcome n before) (sym f.cut)
