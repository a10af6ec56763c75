-- Only the second word may be `<-`.
use Rattle.std.proofs.Common.{◌≡◌, Bool, true, false, List, ◌∷◌, refl, sym}
use Rattle.scenario_grammar.specs.declared.keyword.Keyword.TheVariants as k
use Rattle.scenario_grammar.specs.declared.token.Token.{Token}
use Rattle.scenario_grammar.specs.declared.token.Token.TheVariants as token
use Rattle.scenario_grammar.specs.Reading.{is_given}
use Rattle.scenario_lines.specs.Taken.{Lacks, Takes}

ungiven : (t : Token) (ts : List Token) → Lacks k.Arrow ts → is_given (t ∷ ts) ≡ false
ungiven t (token.Fixed k.Arrow ∷ ts) h = absurd (h ts refl)
ungiven t ts h = refl

pub is_arrow_second : (line mid new : List Token) (t : Token) (said : Bool) → line ≡ t ∷ mid → Takes k.Arrow mid said new → said ≡ is_given line
is_arrow_second line mid new t true e h = rw (e, h) refl
is_arrow_second line mid new t false e h = rw e (sym (ungiven t mid h.1))
