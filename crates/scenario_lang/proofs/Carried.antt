-- What a line carries.
use Rattle.std.proofs.Common.{◌≡◌, ℕ, Bool, true, false, not, ◌==◌, if◌then◌else◌, List, [], ◌∷◌, map, Option, Some, None, Result, Ok, Err, refl, sym, ap, ◌∙◌}
use Rattle.std.specs.List.{list_all, slice_split}
use Rattle.std.proofs.lemmas.Bool.{cond-false, cond-true, not-false, not-true}
use Rattle.scenario_grammar.specs.declared.token.Token.{Token}
use Rattle.scenario_grammar.specs.Building.{Building}
use Rattle.scenario_grammar.specs.Layout.{drop_blanks, is_blank, is_empty}
use Rattle.scenario_grammar.specs.Parsed.{read_line, read_words}
use Rattle.scenario_grammar.specs.declared.reason.TextReason.{TextReason}
use Rattle.scenario_grammar.specs.declared.reason.TextReason.TheVariants as reason
use Rattle.scenario_grammar.specs.Token.{token_in}
use Rattle.scenario_lines.specs.Fronts.{spaced_tokens}
use Rattle.scenario_lang.specs.Lines.{Takes, carried, carries, line_text}
use Rattle.scenario_lines.specs.declared.refusal.LineRefusal.{LineRefusal}
use Rattle.scenario_lang.specs.declared.builder.Builder.{Builder}

idle_carried : (b : Building) (n : ℕ) (d : List ℕ) → carries d ≡ false → carried b n d ≡ Ok b
idle_carried b n [] h = refl
idle_carried b n (c ∷ cs) h = cond-true _ _ _ (not-false _ h)

pub idle : (b : Building) (n : ℕ) (text d : List ℕ) → d ≡ drop_blanks text → carries d ≡ false → line_text b n text ≡ Ok b
unfolding line_text
idle b n text d e h = ap (carried b n) (sym e) ∙ idle_carried b n d h

busy_carried : (b : Building) (n : ℕ) (d : List ℕ) → carries d ≡ true → carried b n d ≡ read_line b (record { number = n; words = slice_split is_blank d })
busy_carried b n [] h = cc
busy_carried b n (c ∷ cs) h = cond-false _ _ _ (not-true _ h)

busy : (b : Building) (n : ℕ) (text d : List ℕ) → d ≡ drop_blanks text → carries d ≡ true → line_text b n text ≡ read_line b (record { number = n; words = slice_split is_blank d })
unfolding line_text
busy b n text d e h = ap (carried b n) (sym e) ∙ busy_carried b n d h

some_if : (t : Bool) (xs ys : List Token) (r s : Result Building TextReason) → Some xs ≡ (if t then Some ys else None) → (xs ≡ ys → r ≡ s) → (e : Result Building TextReason) → (if t then r else e) ≡ s
some_if true xs ys r s h f e = f cc
some_if false xs ys r s h f e = cc

none_if : (t : Bool) (ys : List Token) → (let o : Option (List Token) = None in o) ≡ (if t then Some ys else None) → t ≡ false
none_if true ys h = cc
none_if false ys h = refl

pub spaced_line : (b : Building) (n : ℕ) (text d : List ℕ) (ts : List Token) → d ≡ drop_blanks text → carries d ≡ true → Some ts ≡ spaced_tokens b.profile d → line_text b n text ≡ read_words b n ts
unfolding spaced_tokens
spaced_line b n text d ts e h s =
    busy b n text d e h
    ∙ some_if (list_all (λ word. not (is_empty word)) (slice_split is_blank d)) ts (map (token_in b.profile) (slice_split is_blank d)) (read_words b n (map (token_in b.profile) (slice_split is_blank d))) (read_words b n ts) s (λ q. ap (read_words b n) (sym q)) (Err reason.BlankOutOfPlace)

pub unspaced_line : (b : Building) (n : ℕ) (text d : List ℕ) → d ≡ drop_blanks text → carries d ≡ true → None ≡ spaced_tokens b.profile d → line_text b n text ≡ Err reason.BlankOutOfPlace
unfolding spaced_tokens
unspaced_line b n text d e h s =
    busy b n text d e h ∙ cond-false _ _ _ (none_if (list_all (λ word. not (is_empty word)) (slice_split is_blank d)) (map (token_in b.profile) (slice_split is_blank d)) s)

pub takes_at : (r s : Result Building TextReason) (result : Result (Unit {0}) LineRefusal) (new : Builder) → r ≡ s → Takes s result new → Takes r result new
takes_at r s result new e h = rw e h
