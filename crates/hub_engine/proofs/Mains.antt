-- A scenario that defines a main has a function of its number.
use Rattle.std.proofs.Common.{◌≡◌, refl, ap, ◌∙◌, ℕ, suc, ◌+◌, ◌<◌, Bool, true, false, List, [], ◌∷◌, length, arith}
use Rattle.std.proofs.lemmas.Bool.Decides.{nat_tests}
use Rattle.std.specs.Prelude.{not, ◌&&◌, ◌||◌, nat_eq, nat_lt, if◌then◌else◌, codes}
use Rattle.std.specs.List.{list_any}
use Rattle.std.specs.Cmp.Lexicographic.{pointwise}
use Rattle.scenario_grammar.specs.Spells.{is_main}
use Rattle.scenario_tree.specs.declared.tree.Function.{Function}
use Rattle.scenario_tree.specs.declared.tree.Scenario.{Scenario}
use Rattle.machine.specs.Expressions.{function_number}
use Rattle.machine_well_formed.specs.Texts.{HasMain}

turned : (xs ys : List ℕ) → pointwise nat_eq xs ys ≡ pointwise nat_eq ys xs
turned [] [] = refl
turned [] (y ∷ ys) = refl
turned (x ∷ xs) [] = refl
turned (x ∷ xs) (y ∷ ys) = let same : nat_eq x y ≡ nat_eq y x = grind (arith, nat_tests) in ap (λ b. b && pointwise nat_eq xs ys) same ∙ ap (λ b. nat_eq y x && b) (turned xs ys)

otherwise : (b c : Bool) → b ≡ false → (b || c) ≡ true → c ≡ true
otherwise true c e h = absurd (cc e)
otherwise false c e h = h

never : (a b : Bool) → b ≡ false → (a && b) ≡ false
never true b h = h
never false b h = refl

numbered : (fs : List Function) → list_any is_main fs ≡ true → function_number (codes "main") fs < length fs
numbered [] h = absurd (cc h)
numbered (f ∷ fs) h = by (pointwise nat_eq (codes "main") f.name) refl (numbered fs)
  where
    by : (b : Bool) → pointwise nat_eq (codes "main") f.name ≡ b → (list_any is_main fs ≡ true → function_number (codes "main") fs < length fs) →
        (if b then 0 else function_number (codes "main") fs + 1) < suc (length fs)
    by true e rest = omega arith
    by false e rest =
        omega (arith, rest (otherwise (is_main f) (list_any is_main fs) (never (not f.is_raw) _ (turned f.name (codes "main") ∙ e)) h))

pub main_there : (c : Scenario) → list_any is_main c.functions ≡ true → HasMain c
main_there c h = by (function_number (codes "main") c.functions) (numbered c.functions h)
  where
    by : (n : ℕ) → n < length c.functions → nat_lt n (length c.functions) ≡ true
    by n l = grind (arith, nat_tests)
