-- Every refusal has one of the reasons of a text.
use Rattle.std.proofs.Common.{◌≡◌, ℕ, ◌+◌, Bool, true, false, not, if◌then◌else◌, nat_lt, List, [], ◌∷◌, length, Option, Some, None, Result, Ok, Err, refl, sym, ap, ◌∙◌}
use Rattle.std.specs.Prelude.{position, count_by}
use Rattle.scenario_tree.specs.declared.tree.Scenario.{Scenario}
use Rattle.scenario_grammar.specs.declared.building.OpenBlock.{OpenBlock}
use Rattle.scenario_grammar.specs.declared.place.Place.{Place}
use Rattle.scenario_grammar.specs.declared.reason.TextReason.{TextReason}
use Rattle.scenario_grammar.specs.declared.reason.TextReason.TheVariants as text
use Rattle.scenario_grammar.specs.Building.{Building}
use Rattle.scenario_grammar.specs.Layout.{Line, lines, is_end, is_text_byte, is_ended, may_be_long, most_bytes}
use Rattle.scenario_grammar.specs.Parsed.{nothing_yet, standing, read_line, read_lines, scenario, finished, reading}
use Rattle.scenario_grammar.specs.Place.{line_at, last_line, place_in_bytes, too_large}
use Rattle.scenario_grammar.specs.Reason.{text_number}
use Rattle.scenario_grammar.specs.ReasonNumbers.{is_text_reason}

-- the number of each is one of them
by_text : (r : TextReason) → is_text_reason (text_number r) ≡ true
by_text text.TooLarge = refl
by_text text.NotPrintable = refl
by_text text.NotEnded = refl
by_text text.BlankOutOfPlace = refl
by_text text.UnknownWord = refl
by_text text.TooShort = refl
by_text text.TooLong = refl
by_text text.MisspelledNumber = refl
by_text text.OutOfRange = refl
by_text text.NotAName = refl
by_text text.BlockWordOutOfPlace = refl
by_text text.NotClosed = refl
by_text text.LineOutOfPlace = refl
by_text text.NoMain = refl
by_text text.NestedTooDeep = refl
by_text text.LongTooLarge = refl

abbrev HasReason : Place → Type 0
HasReason p = is_text_reason p.reason ≡ true

this_place : {A : Type 0} (p q : Place) → HasReason p → (let x : Result A Place = Err p in x) ≡ Err q → HasReason q
this_place p q h e = let same : p ≡ q = cc in ap (λ x. is_text_reason x.reason) (sym same) ∙ h

lines_by : (x : Result Building TextReason) (n : ℕ) (ls : List Line) (p : Place) → ((c : Building) → read_lines c ls ≡ Err p → HasReason p)
    → (let y : Result Building Place = elim x [ Ok d ↦ read_lines d ls | Err r ↦ Err (record { line = n; reason = text_number r }) ] in y) ≡ Err p → HasReason p
lines_by (Ok d) n ls p below e = below d e
lines_by (Err q) n ls p below e = this_place {A = Building} (record { line = n; reason = text_number q }) p (by_text q) e

lines_so : (ls : List Line) (b : Building) (p : Place) → read_lines b ls ≡ Err p → HasReason p
unfolding read_lines
lines_so [] b p e = cc
lines_so (l ∷ ls) b p e = lines_by (read_line b l) l.number ls p (λ c f. lines_so ls c p f) e

closed_by : (m : Bool) (last : ℕ) (s : Scenario) (p : Place)
    → (let x : Result Scenario Place = elim (let o : Option Place = if m then None else Some (record { line = last; reason = 14 }) in o) [ Some p ↦ Err p | None ↦ Ok s ] in x) ≡ Err p → HasReason p
closed_by true last s p e = cc
closed_by false last s p e = this_place {A = Scenario} (record { line = last; reason = 14 }) p refl e

end_so : (bytes : List ℕ) (b : Building) (os : List OpenBlock) (p : Place) → finished bytes (record b { open_blocks = os }) ≡ Err p → HasReason p
end_so bytes b [] p e = closed_by (standing (record b { open_blocks = [] })).has_main (last_line bytes) (scenario b) p e
end_so bytes b (o ∷ os) p e = this_place {A = Scenario} (record { line = last_line bytes; reason = 12 }) p refl e

some_place : (p q : Place) → HasReason p → (let o : Option Place = Some p in o) ≡ Some q → HasReason q
some_place p q h e = let same : p ≡ q = cc in ap (λ x. is_text_reason x.reason) (sym same) ∙ h

bytes_by : (long : Bool) (found : Option ℕ) (ends : Bool) (r : TextReason) (a b : ℕ) (f : ℕ → ℕ) (p : Place)
    → (let x : Option Place = if long then Some (record { line = a; reason = text_number r }) else (elim found [ Some i ↦ Some (record { line = f i; reason = 2 }) | None ↦ if ends then None else Some (record { line = b; reason = 3 }) ]) in x) ≡ Some p
    → HasReason p
bytes_by true found ends r a b f p e = some_place (record { line = a; reason = text_number r }) p (by_text r) e
bytes_by false (Some i) ends r a b f p e = some_place (record { line = f i; reason = 2 }) p refl e
bytes_by false None true r a b f p e = cc
bytes_by false None false r a b f p e = some_place (record { line = b; reason = 3 }) p refl e

bytes_so : (bytes : List ℕ) (p : Place) → place_in_bytes bytes ≡ Some p → HasReason p
bytes_so bytes p e =
    bytes_by (nat_lt (most_bytes bytes) (length bytes)) (position (λ b. not (is_text_byte b)) bytes) (is_ended bytes) (too_large (may_be_long bytes)) (line_at (most_bytes bytes) bytes) (count_by is_end bytes + 1) (λ i. line_at i bytes) p e

text_by : (found : Option Place) (x : Result Building Place) (bytes : List ℕ) (p : Place) → ((q : Place) → found ≡ Some q → HasReason q) → ((q : Place) → x ≡ Err q → HasReason q)
    → (let y : Result Scenario Place = elim found [ Some p ↦ Err p | None ↦ elim x [ Ok b ↦ finished bytes b | Err p ↦ Err p ] ] in y) ≡ Err p → HasReason p
text_by (Some q) x bytes p h k e = this_place {A = Scenario} q p (h q refl) e
text_by None (Err q) bytes p h k e = this_place {A = Scenario} q p (k q refl) e
text_by None (Ok b) bytes p h k e = end_so bytes b b.open_blocks p e

-- A refused text is refused for one of the reasons of a text.
pub refused_so : (bytes : List ℕ) (p : Place) → reading bytes ≡ Err p → is_text_reason p.reason ≡ true
unfolding reading
refused_so bytes p e = text_by (place_in_bytes bytes) (read_lines nothing_yet (lines bytes)) bytes p (bytes_so bytes) (λ q f. lines_so (lines bytes) nothing_yet q f) e
