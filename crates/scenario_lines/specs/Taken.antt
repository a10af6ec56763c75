-- Whether a fixed word stands at the front of the words that are left, and a number in its place.
use Rattle.std.specs.Prelude.{◌≡◌, Bool, true, false, ℕ, List, ◌∷◌, Option, Some}
use Rattle.scenario_grammar.specs.declared.keyword.Keyword.{Keyword}
use Rattle.scenario_grammar.specs.declared.token.Token.{Token}
use Rattle.scenario_grammar.specs.declared.token.Token.TheVariants as token
use Rattle.scenario_grammar.specs.Reading.{Reader, ◌<$>◌, number_at}

-- the word does not stand there
abbrev pub Lacks : Keyword → List Token → Type 0
Lacks word ts = (rest : List Token) → ts ≡ token.Fixed word ∷ rest → ⊥

-- the word was taken, or does not stand there
abbrev pub Takes : Keyword → List Token → Bool → List Token → Type 0
Takes word old true new = old ≡ token.Fixed word ∷ new
Takes word old false new = (new ≡ old) × Lacks word old

-- a number of this range, where `none` may stand too
abbrev pub some_number_at : ℕ → ℕ → Reader (Option ℕ)
some_number_at least greatest = Some <$> number_at least greatest
