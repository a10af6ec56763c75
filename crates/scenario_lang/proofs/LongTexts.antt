-- What the first lines of a text say of its profile.
use Rattle.std.proofs.Common.{◌≡◌, ℕ, zero, suc, ◌+◌, ◌<◌, ◌≤◌, true, false, List, [], ◌∷◌, length, take, drop, position, Some, None, refl, sym, ap, ◌∙◌, arith}
use Rattle.std.specs.List.{slice_split}
use Rattle.std.proofs.lemmas.Bool.{cond-false, cond-true, not-false, not-true}
use Rattle.std.proofs.lemmas.List.Splits.{length-slice_split}
use Rattle.scenario_grammar.specs.Layout.{drop_blanks, first_said, is_end, said_first}
use Rattle.scenario_lines.proofs.Spaced.{split_at_position, split_unfound}
use Rattle.scenario_lang.specs.Lines.{carries}

-- a piece with another behind it is a line
piece_said : (line : List ℕ) (pieces : List (List ℕ)) → 0 < length pieces → first_said (line ∷ pieces) ≡ said_first (drop_blanks line) (first_said pieces)
piece_said line [] some = absurd (omega (arith, some))
piece_said line (p ∷ ps) some = refl

-- the first line, and those behind it
pub line_said : (text : List ℕ) (at : ℕ) → position is_end text ≡ Some at → first_said (slice_split is_end text) ≡ said_first (drop_blanks (take at text)) (first_said (slice_split is_end (drop (at + 1) text)))
line_said text at e =
    let rest = drop (at + 1) text in
    ap first_said (split_at_position is_end text at e) ∙ piece_said (take at text) (slice_split is_end rest) (omega (arith, length-slice_split is_end rest))

-- no line is ended
pub none_said : (text : List ℕ) → position is_end text ≡ None → first_said (slice_split is_end text) ≡ []
none_said text e = ap first_said (split_unfound is_end text e)

pub idle_said : (d rest : List ℕ) → carries d ≡ false → said_first d rest ≡ rest
idle_said [] rest h = refl
idle_said (c ∷ cs) rest h = cond-true _ _ _ (not-false _ h)

pub busy_said : (d rest : List ℕ) → carries d ≡ true → said_first d rest ≡ d
busy_said [] rest h = cc
busy_said (c ∷ cs) rest h = cond-false _ _ _ (not-true _ h)

-- the first line that carries something
pub said_here : (bytes rest line words : List ℕ) (at : ℕ) → first_said (slice_split is_end rest) ≡ first_said (slice_split is_end bytes) → position is_end rest ≡ Some at
    → line ≡ take at rest → words ≡ drop_blanks line → carries words ≡ true → first_said (slice_split is_end bytes) ≡ words
said_here bytes rest line words at same e l w h =
    let behind = first_said (slice_split is_end (drop (at + 1) rest)) in
    sym same ∙ line_said rest at e ∙ ap (λ x. said_first (drop_blanks x) behind) (sym l) ∙ ap (λ d. said_first d behind) (sym w) ∙ busy_said words behind h

-- a line that carries nothing
pub said_behind : (bytes rest line words more : List ℕ) (at : ℕ) → first_said (slice_split is_end rest) ≡ first_said (slice_split is_end bytes) → position is_end rest ≡ Some at
    → line ≡ take at rest → words ≡ drop_blanks line → carries words ≡ false → more ≡ drop (at + 1) rest → first_said (slice_split is_end more) ≡ first_said (slice_split is_end bytes)
said_behind bytes rest line words more at same e l w h m =
    let behind = first_said (slice_split is_end (drop (at + 1) rest)) in
    ap (λ x. first_said (slice_split is_end x)) m
    ∙ sym (line_said rest at e ∙ ap (λ x. said_first (drop_blanks x) behind) (sym l) ∙ ap (λ d. said_first d behind) (sym w) ∙ idle_said words behind h) ∙ same

-- as much as there is
pub taken_whole : (n : ℕ) (xs : List ℕ) → n ≤ length xs → n ≡ length (take n xs)
taken_whole zero xs h = refl
taken_whole (suc n) [] h = absurd (omega (arith, h))
taken_whole (suc n) (x ∷ xs) h = ap suc (taken_whole n xs (omega (arith, h)))
