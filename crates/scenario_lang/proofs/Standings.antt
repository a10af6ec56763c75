-- The grammar's rule on the place of a line, by the little of what stands before it that the rule asks for.
use Rattle.std.proofs.Common.{◌≡◌, Bool, List, [], ◌∷◌, Option, length, nat_le, refl}
use Rattle.scenario_grammar.specs.declared.limits.TheConstants.{MOST_LEVELS}
use Rattle.scenario_grammar.specs.Place.{Open, Standing, misplaced}
use Rattle.scenario_grammar.specs.Place.{Profiles, Declares, Defines, States, Gives, Opens, Parts, Catches, Finishes, Ends, Unknown}
use Rattle.scenario_grammar.specs.Place as places
use Rattle.scenario_lang.specs.Roles.{innermost_of, misplaced_by}

of_blocks : (s : Standing) (os : List Open) → s.open_blocks ≡ os → (r : places.Role) →
    misplaced_by s.any_line s.begun (nat_le MOST_LEVELS (length s.open_blocks)) (innermost_of s.open_blocks) r ≡ misplaced s r
of_blocks s os e Profiles = refl
of_blocks s os e Declares = refl
of_blocks s [] e Defines = rw e refl
of_blocks s (o ∷ os) e Defines = rw e refl
of_blocks s [] e States = rw e refl
of_blocks s (o ∷ os) e States = rw e refl
of_blocks s [] e (Gives why) = rw e refl
of_blocks s (o ∷ os) e (Gives why) = rw e refl
of_blocks s [] e Opens = rw e refl
of_blocks s (o ∷ os) e Opens = rw e refl
of_blocks s [] e Parts = rw e refl
of_blocks s (o ∷ os) e Parts = rw e refl
of_blocks s [] e Catches = rw e refl
of_blocks s (o ∷ os) e Catches = rw e refl
of_blocks s [] e Finishes = rw e refl
of_blocks s (o ∷ os) e Finishes = rw e refl
of_blocks s [] e Ends = rw e refl
of_blocks s (o ∷ os) e Ends = rw e refl
of_blocks s os e Unknown = refl

pub misplaced_is : (s : Standing) (any begun full : Bool) (o : Option Open) (r : places.Role) → any ≡ s.any_line → begun ≡ s.begun → full ≡ nat_le MOST_LEVELS (length s.open_blocks)
    → o ≡ innermost_of s.open_blocks → misplaced_by any begun full o r ≡ misplaced s r
misplaced_is s any begun full o r a b f e = rw (a, b, f, e) (of_blocks s s.open_blocks refl r)
