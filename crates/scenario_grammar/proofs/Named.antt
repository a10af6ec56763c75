-- The profiles that a line may name.
use Rattle.std.proofs.Common.{◌≡◌, ◌==◌, ℕ, pos, ◌≤◌, false, ◌&&◌, nat_le, List, [], ◌∷◌, Some, arith}
use Rattle.std.proofs.lemmas.Bool.{leb-true, ne_eqb}
use Rattle.scenario_grammar.specs.declared.keyword.Keyword.TheVariants as k
use Rattle.scenario_grammar.specs.declared.phrase.Phrase.TheVariants as phrase
use Rattle.scenario_grammar.specs.declared.token.Token.{Token}
use Rattle.scenario_grammar.specs.declared.token.Token.TheVariants as token
use Rattle.scenario_grammar.specs.Phrase.{phrase_tokens}
use Rattle.scenario_grammar.specs.Token.{Written, number}
use Rattle.scenario_grammar.proofs.Atoms.{and_left, and_right, kept}
use Rattle.scenario_grammar.proofs.Words.{inner}

-- a profile that has a line, and the tokens of the line
pub record IsNamed (profile : ℕ) (ts : List Token) : Type 0 where
  pub least : 2 ≤ profile
  pub most : profile ≤ 3
  pub written : token.Fixed k.Profile ∷ token.Number (pos profile) ∷ [] ≡ ts

pub named_profile : (profile : ℕ) (ts : List Token) → phrase_tokens (phrase.Profile profile) ≡ Some ts → IsNamed profile ts
unfolding phrase_tokens
named_profile profile ts h =
    let i = inner k.Profile (number 2 3 profile) ts h in
    let tests = kept (nat_le 2 profile && nat_le profile 3) (Some (token.Number (pos profile) ∷ [])) i.0 i.1 in
    let words : (let w : Written Token = Some (token.Number (pos profile) ∷ []) in w) ≡ Some i.0 = tests.1 in
    let whole : token.Fixed k.Profile ∷ i.0 ≡ ts = i.2 in
    record {
      least = leb-true 2 profile (and_left (nat_le 2 profile) (nat_le profile 3) tests.0);
      most = leb-true profile 3 (and_right (nat_le 2 profile) (nat_le profile 3) tests.0);
      written = cc;
    }

-- it is not the first, which has none
pub later_profile : (profile : ℕ) (ts : List Token) → phrase_tokens (phrase.Profile profile) ≡ Some ts → (profile == 1) ≡ false
later_profile profile ts h = let named = named_profile profile ts h in let least = named.least in ne_eqb profile 1 (λ e. omega (arith, e, least))
