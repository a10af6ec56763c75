use native.Mathlib.Omega.{arith}
use Rattle.std.proofs.Common.{◌≡◌, ℕ, List, [], ◌∷◌, ◌≤◌, length, get_or}
use Rattle.std.specs.List.{find}
use Rattle.scenario_grammar.specs.Keyword.{is_spelled, keyword_of}
use Rattle.scenario_grammar.specs.declared.keyword.Keyword.{Keyword}
use Rattle.scenario_keywords.proofs.keyword.find_keyword.Goals as goal

-- the words of the first byte serve for the word
by-first : (word : List ℕ) → 1 ≤ length word → (words : List Keyword) → ((rest : List ℕ) → find (is_spelled (get_or word 0 0 ∷ rest)) words ≡ keyword_of (get_or word 0 0 ∷ rest)) → find (is_spelled word) words ≡ keyword_of word
by-first [] some words each = absurd (omega (arith, some))
by-first (first ∷ rest) some words each = each rest

pub returns-in-len1-up : goal.returns-in-len1-up
returns-in-len1-up c = rw c.first_spelled.ensures (by-first c.args.word.now c.in-len1-up.len_at_least c.candidates.result.now c.candidates.ensures)
