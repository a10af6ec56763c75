-- The roles of lines with and without `<-` as their second word.
use Rattle.std.proofs.Common.{◌≡◌, true, false, List, [], ◌∷◌, refl}
use Rattle.scenario_grammar.specs.declared.token.Token.{Token}
use Rattle.scenario_grammar.specs.declared.token.Token.TheVariants as token
use Rattle.scenario_grammar.specs.Place.{Gives, Role, outside, role_of}
use Rattle.scenario_grammar.specs.Reading.{is_given}
use Rattle.scenario_lang.specs.Roles.{role_unmarked}

pub given_role : (ts : List Token) → is_given ts ≡ true → role_of ts ≡ Gives (outside ts)
given_role [] h = cc
given_role (token.Fixed w ∷ ts) h = rw h refl
given_role (token.Name n ∷ ts) h = rw h refl
given_role (token.Number z ∷ ts) h = rw h refl
given_role (token.Oversized ∷ ts) h = rw h refl
given_role (token.Misspelled ∷ ts) h = rw h refl
given_role (token.Unknown ∷ ts) h = rw h refl

pub ungiven_role : (ts : List Token) → is_given ts ≡ false → role_of ts ≡ role_unmarked ts
ungiven_role [] h = refl
ungiven_role (token.Fixed w ∷ ts) h = rw h refl
ungiven_role (token.Name n ∷ ts) h = rw h refl
ungiven_role (token.Number z ∷ ts) h = rw h refl
ungiven_role (token.Oversized ∷ ts) h = rw h refl
ungiven_role (token.Misspelled ∷ ts) h = rw h refl
ungiven_role (token.Unknown ∷ ts) h = rw h refl
