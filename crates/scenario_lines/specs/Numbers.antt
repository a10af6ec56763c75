-- The tokens of integers.
use Rattle.std.specs.Prelude.{ℕ, ℤ, if◌then◌else◌, ◌==◌, List, [], ◌∷◌, Option, Some, None}
use Rattle.scenario_grammar.specs.declared.token.Token.{Token}
use Rattle.scenario_grammar.specs.declared.token.Token.TheVariants as token
use Rattle.scenario_grammar.specs.Token.{in_64_bits}

-- an integer in its one spelling
abbrev pub integer_token : ℤ → Token
integer_token z = if in_64_bits z then token.Number z else token.Oversized

-- what stands behind the `-` that a word begins with
abbrev pub minus_digits : List ℕ → Option (List ℕ)
minus_digits [] = None
minus_digits (b ∷ bs) = if b == 45 then Some bs else None
