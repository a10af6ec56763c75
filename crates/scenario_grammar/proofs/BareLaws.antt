-- The numbers of lines change nothing but the numbers in the tree.
use Rattle.std.proofs.Common.{◌≡◌, ◌==◌, ℕ, Bool, not, ◌||◌, List, [], ◌∷◌, ◌++◌, map, Option, Some, None, refl, sym, ap, ◌∙◌}
use Rattle.std.specs.List.{list_any}
use Rattle.gv_values.specs.declared.fault.Class.{Class}
use Rattle.gv_values.specs.declared.name.Name.{Name}
use Rattle.scenario_tree.specs.declared.tree.Action.{Action, Action-F, roll-Action, fold-Action}
use Rattle.scenario_tree.specs.declared.tree.Action.TheFolds.{fold-roll-Action, fold-roll-Except, fold_out-Statement}
use Rattle.scenario_tree.specs.declared.tree.Action.TheVariants as a
use Rattle.scenario_tree.specs.declared.tree.Action.TheViews as v
use Rattle.scenario_tree.specs.declared.tree.Expression.{Expression}
use Rattle.scenario_tree.specs.declared.tree.Except.{Except, fold-Except}
use Rattle.scenario_tree.specs.declared.tree.Command.{Command}
use Rattle.scenario_tree.specs.declared.tree.Declaration.{Declaration}
use Rattle.scenario_tree.specs.declared.tree.Function.{Function}
use Rattle.scenario_tree.specs.declared.tree.Giving.{Giving}
use Rattle.scenario_tree.specs.declared.tree.Statement.{Statement}
use Rattle.scenario_grammar.specs.declared.phrase.Phrase.{Phrase}
use Rattle.scenario_grammar.specs.declared.phrase.Phrase.TheVariants as phrase
use Rattle.scenario_grammar.specs.declared.building.OpenBlock.{OpenBlock}
use Rattle.scenario_grammar.specs.declared.building.Opening.{Opening}
use Rattle.scenario_grammar.specs.declared.building.Opening.TheVariants as opening
use Rattle.scenario_grammar.specs.Parsed.{standing, kind_of, opens_main, is_begun, has_objects}
use Rattle.scenario_grammar.specs.Place.{misplaced}
use Rattle.scenario_grammar.specs.Spells.{is_main}
use Rattle.scenario_grammar.proofs.Begun.{begun}
use Rattle.scenario_grammar.proofs.BlockLaws.{follow, follow_one}
use Rattle.scenario_grammar.proofs.Complete.{next}
use Rattle.scenario_grammar.proofs.PhraseLaws.{role}
use Rattle.scenario_grammar.specs.Bare.{except_at_0, statement_at_0, bare_statement, bare_declaration, bare_function}
use Rattle.scenario_grammar.specs.Building.{Building, at, caught, added, step}

pub bare_action : Action → Action
bare_action = fold-Action Action Except Statement roll-Action except_at_0 statement_at_0

pub bare_except : Except → Except
bare_except = fold-Except Action Except Statement roll-Action except_at_0 statement_at_0

statement_bare : (n : ℕ) (x : Action) → bare_statement (at n x) ≡ at 0 (bare_action x)
unfolding bare_statement bare_action
statement_bare n x = fold_out-Statement Action Except Statement roll-Action except_at_0 statement_at_0 (at n x)

command_bare : (c : Command) → bare_action (a.Command c) ≡ a.Command c
unfolding bare_action
command_bare c = ap bare_action (sym (v.rolls-Command c)) ∙ fold-roll-Action Action Except Statement roll-Action except_at_0 statement_at_0 (Action-F.Command c) ∙ v.rolls-Command c

giving_bare : (t : Option Name) (g : Giving) → bare_action (a.Giving t g) ≡ a.Giving t g
unfolding bare_action
giving_bare t g = ap bare_action (sym (v.rolls-Giving t g)) ∙ fold-roll-Action Action Except Statement roll-Action except_at_0 statement_at_0 (Action-F.Giving t g) ∙ v.rolls-Giving t g

if_bare : (e : Expression) (ss : List Statement) → bare_action (a.If e ss None) ≡ a.If e (map bare_statement ss) None
unfolding bare_action bare_statement
if_bare e ss = ap bare_action (sym (v.rolls-If e ss None)) ∙ fold-roll-Action Action Except Statement roll-Action except_at_0 statement_at_0 (Action-F.If e ss None) ∙ v.rolls-If e (map bare_statement ss) None

else_bare : (e : Expression) (ss other : List Statement) → bare_action (a.If e ss (Some other)) ≡ a.If e (map bare_statement ss) (Some (map bare_statement other))
unfolding bare_action bare_statement
else_bare e ss other =
    ap bare_action (sym (v.rolls-If e ss (Some other))) ∙ fold-roll-Action Action Except Statement roll-Action except_at_0 statement_at_0 (Action-F.If e ss (Some other))
    ∙ v.rolls-If e (map bare_statement ss) (Some (map bare_statement other))

while_bare : (e : Expression) (ss : List Statement) → bare_action (a.While e ss) ≡ a.While e (map bare_statement ss)
unfolding bare_action bare_statement
while_bare e ss = ap bare_action (sym (v.rolls-While e ss)) ∙ fold-roll-Action Action Except Statement roll-Action except_at_0 statement_at_0 (Action-F.While e ss) ∙ v.rolls-While e (map bare_statement ss)

timeout_bare : (t : Option ℕ) (silent : Bool) (ss : List Statement) → bare_action (a.Timeout t silent ss) ≡ a.Timeout t silent (map bare_statement ss)
unfolding bare_action bare_statement
timeout_bare t silent ss =
    ap bare_action (sym (v.rolls-Timeout t silent ss)) ∙ fold-roll-Action Action Except Statement roll-Action except_at_0 statement_at_0 (Action-F.Timeout t silent ss)
    ∙ v.rolls-Timeout t silent (map bare_statement ss)

except_bare : (body : List Statement) (es : List Except) → bare_action (a.Try body es None) ≡ a.Try (map bare_statement body) (map bare_except es) None
unfolding bare_action bare_statement bare_except
except_bare body es =
    ap bare_action (sym (v.rolls-Try body es None)) ∙ fold-roll-Action Action Except Statement roll-Action except_at_0 statement_at_0 (Action-F.Try body es None)
    ∙ v.rolls-Try (map bare_statement body) (map bare_except es) None

finally_bare : (body : List Statement) (es : List Except) (fin : List Statement) → bare_action (a.Try body es (Some fin)) ≡ a.Try (map bare_statement body) (map bare_except es) (Some (map bare_statement fin))
unfolding bare_action bare_statement bare_except
finally_bare body es fin =
    ap bare_action (sym (v.rolls-Try body es (Some fin))) ∙ fold-roll-Action Action Except Statement roll-Action except_at_0 statement_at_0 (Action-F.Try body es (Some fin))
    ∙ v.rolls-Try (map bare_statement body) (map bare_except es) (Some (map bare_statement fin))

caught_bare : (n : ℕ) (c : Class) (t : Option Name) (ss : List Statement) → bare_except (caught n c t ss) ≡ caught 0 c t (map bare_statement ss)
unfolding bare_statement bare_except
caught_bare n c t ss = fold-roll-Except Action Except Statement roll-Action except_at_0 statement_at_0 (record { line = n; class = c; name = t; body = ss })

-- the same of a tree that is begun
abbrev bare_opening : Opening → Opening
bare_opening (opening.Function is_raw n ps) = opening.Function is_raw n ps
bare_opening (opening.If e) = opening.If e
bare_opening (opening.Else e ss) = opening.Else e (map bare_statement ss)
bare_opening (opening.While e) = opening.While e
bare_opening opening.Try = opening.Try
bare_opening (opening.Except tried es n c t) = opening.Except (map bare_statement tried) (map bare_except es) 0 c t
bare_opening (opening.Finally tried es) = opening.Finally (map bare_statement tried) (map bare_except es)
bare_opening (opening.Timeout t silent) = opening.Timeout t silent

abbrev bare_open : OpenBlock → OpenBlock
bare_open o = record { line = 0; opening = bare_opening o.opening; statements = map bare_statement o.statements }

abbrev pub bare_building : Building → Building
bare_building b = record { profile = b.profile; objects = map bare_declaration b.objects; functions = map bare_function b.functions; open_blocks = map bare_open b.open_blocks }

map_more : {A B : Type 0} (f : A → B) (xs : List A) (x : A) (y : B) → f x ≡ y → map f (xs ++ x ∷ []) ≡ map f xs ++ y ∷ []
map_more f [] x y e = ap (λ z. z ∷ []) e
map_more f (w ∷ ws) x y e = ap (λ z. f w ∷ z) (map_more f ws x y e)

added_bare : (n : ℕ) (x y : Action) (profile : ℕ) (ds : List Declaration) (fs : List Function) (os : List OpenBlock) → bare_action x ≡ y
    → bare_building (added (at n x ∷ []) (begun profile ds fs os)) ≡ added (at 0 y ∷ []) (bare_building (begun profile ds fs os))
added_bare n x y profile ds fs [] e = refl
added_bare n x y profile ds fs (o ∷ os) e =
    let more = map_more bare_statement o.statements (at n x) (at 0 y) (statement_bare n x ∙ ap (at 0) e) in
    λ i. begun profile (map bare_declaration ds) (map bare_function fs) (record { line = 0; opening = bare_opening o.opening; statements = more i } ∷ map bare_open os)

abbrev Steps : Building → ℕ → Phrase → Type 0
Steps b n p = bare_building (step b n p) ≡ step (bare_building b) 0 p

else_steps : (profile : ℕ) (ds : List Declaration) (fs : List Function) (n m : ℕ) (op : Opening) (ss : List Statement) (os : List OpenBlock) → Steps (begun profile ds fs (record { line = m; opening = op; statements = ss } ∷ os)) n phrase.Else
else_steps profile ds fs n m (opening.Function is_raw name ps) ss os = refl
else_steps profile ds fs n m (opening.If x) ss os = refl
else_steps profile ds fs n m (opening.Else x ts) ss os = refl
else_steps profile ds fs n m (opening.While x) ss os = refl
else_steps profile ds fs n m opening.Try ss os = refl
else_steps profile ds fs n m (opening.Except tried es l c t) ss os = refl
else_steps profile ds fs n m (opening.Finally tried es) ss os = refl
else_steps profile ds fs n m (opening.Timeout t silent) ss os = refl

caught_more : (es : List Except) (l : ℕ) (c : Class) (t : Option Name) (ss : List Statement) → map bare_except (es ++ caught l c t ss ∷ []) ≡ map bare_except es ++ caught 0 c t (map bare_statement ss) ∷ []
caught_more es l c t ss = map_more bare_except es (caught l c t ss) (caught 0 c t (map bare_statement ss)) (caught_bare l c t ss)

except_steps : (profile : ℕ) (ds : List Declaration) (fs : List Function) (n m : ℕ) (op : Opening) (ss : List Statement) (os : List OpenBlock) (c : Class) (t : Option Name)
    → Steps (begun profile ds fs (record { line = m; opening = op; statements = ss } ∷ os)) n (phrase.Except c t)
except_steps profile ds fs n m (opening.Except tried es l d other) ss os c t =
    ap (λ x. begun profile (map bare_declaration ds) (map bare_function fs) (record { line = 0; opening = opening.Except (map bare_statement tried) x 0 c t; statements = [] } ∷ map bare_open os)) (caught_more es l d other ss)
except_steps profile ds fs n m (opening.Function is_raw name ps) ss os c t = refl
except_steps profile ds fs n m (opening.If x) ss os c t = refl
except_steps profile ds fs n m (opening.Else x ts) ss os c t = refl
except_steps profile ds fs n m (opening.While x) ss os c t = refl
except_steps profile ds fs n m opening.Try ss os c t = refl
except_steps profile ds fs n m (opening.Finally tried es) ss os c t = refl
except_steps profile ds fs n m (opening.Timeout x silent) ss os c t = refl

finally_steps : (profile : ℕ) (ds : List Declaration) (fs : List Function) (n m : ℕ) (op : Opening) (ss : List Statement) (os : List OpenBlock) → Steps (begun profile ds fs (record { line = m; opening = op; statements = ss } ∷ os)) n phrase.Finally
finally_steps profile ds fs n m (opening.Except tried es l d other) ss os =
    ap (λ x. begun profile (map bare_declaration ds) (map bare_function fs) (record { line = 0; opening = opening.Finally (map bare_statement tried) x; statements = [] } ∷ map bare_open os)) (caught_more es l d other ss)
finally_steps profile ds fs n m (opening.Function is_raw name ps) ss os = refl
finally_steps profile ds fs n m (opening.If x) ss os = refl
finally_steps profile ds fs n m (opening.Else x ts) ss os = refl
finally_steps profile ds fs n m (opening.While x) ss os = refl
finally_steps profile ds fs n m opening.Try ss os = refl
finally_steps profile ds fs n m (opening.Finally tried es) ss os = refl
finally_steps profile ds fs n m (opening.Timeout x silent) ss os = refl

end_steps : (profile : ℕ) (ds : List Declaration) (fs : List Function) (n m : ℕ) (op : Opening) (ss : List Statement) (os : List OpenBlock) → Steps (begun profile ds fs (record { line = m; opening = op; statements = ss } ∷ os)) n phrase.End
end_steps profile ds fs n m (opening.Function is_raw name ps) ss os =
    let f : Function = record { line = m; is_raw = is_raw; name = name; parameters = ps; body = ss } in
    ap (λ x. begun profile (map bare_declaration ds) x (map bare_open os)) (map_more bare_function fs f (bare_function f) refl)
end_steps profile ds fs n m (opening.If x) ss os = added_bare m (a.If x ss None) (a.If x (map bare_statement ss) None) profile ds fs os (if_bare x ss)
end_steps profile ds fs n m (opening.Else x ts) ss os = added_bare m (a.If x ts (Some ss)) (a.If x (map bare_statement ts) (Some (map bare_statement ss))) profile ds fs os (else_bare x ts ss)
end_steps profile ds fs n m (opening.While x) ss os = added_bare m (a.While x ss) (a.While x (map bare_statement ss)) profile ds fs os (while_bare x ss)
end_steps profile ds fs n m opening.Try ss os = refl
end_steps profile ds fs n m (opening.Except tried es l c t) ss os =
    added_bare m (a.Try tried (es ++ caught l c t ss ∷ []) None) (a.Try (map bare_statement tried) (map bare_except es ++ caught 0 c t (map bare_statement ss) ∷ []) None) profile ds fs os
    (except_bare tried (es ++ caught l c t ss ∷ []) ∙ ap (λ z. a.Try (map bare_statement tried) z None) (caught_more es l c t ss))
end_steps profile ds fs n m (opening.Finally tried es) ss os =
    added_bare m (a.Try tried es (Some ss)) (a.Try (map bare_statement tried) (map bare_except es) (Some (map bare_statement ss))) profile ds fs os (finally_bare tried es ss)
end_steps profile ds fs n m (opening.Timeout t silent) ss os = added_bare m (a.Timeout t silent ss) (a.Timeout t silent (map bare_statement ss)) profile ds fs os (timeout_bare t silent ss)

-- A line makes the same of a tree without numbers.
by_block : (b : Building) (n : ℕ) (p : Phrase) (os : List OpenBlock) → Steps (begun b.profile b.objects b.functions []) n p
    → ((o : OpenBlock) (rest : List OpenBlock) → Steps (begun b.profile b.objects b.functions (o ∷ rest)) n p) → Steps (begun b.profile b.objects b.functions os) n p
by_block b n p [] outside inside = outside
by_block b n p (o ∷ os) outside inside = inside o os

step_bare : (b : Building) (n : ℕ) (p : Phrase) → Steps b n p
step_bare b n (phrase.Profile profile) = refl
step_bare b n (phrase.Declaration name object) =
    let d : Declaration = record { line = n; name = name; object = object } in
    ap (λ x. begun b.profile x (map bare_function b.functions) (map bare_open b.open_blocks)) (map_more bare_declaration b.objects d (bare_declaration d) refl)
step_bare b n (phrase.Function is_raw name ps) = refl
step_bare b n (phrase.Command c) = added_bare n (a.Command c) (a.Command c) b.profile b.objects b.functions b.open_blocks (command_bare c)
step_bare b n (phrase.Giving t g) = added_bare n (a.Giving t g) (a.Giving t g) b.profile b.objects b.functions b.open_blocks (giving_bare t g)
step_bare b n (phrase.If x) = refl
step_bare b n (phrase.While x) = refl
step_bare b n phrase.Try = refl
step_bare b n (phrase.Timeout t silent) = refl
step_bare b n phrase.Else = by_block b n phrase.Else b.open_blocks refl (λ o os. else_steps b.profile b.objects b.functions n o.line o.opening o.statements os)
step_bare b n (phrase.Except c t) = by_block b n (phrase.Except c t) b.open_blocks refl (λ o os. except_steps b.profile b.objects b.functions n o.line o.opening o.statements os c t)
step_bare b n phrase.Finally = by_block b n phrase.Finally b.open_blocks refl (λ o os. finally_steps b.profile b.objects b.functions n o.line o.opening o.statements os)
step_bare b n phrase.End = by_block b n phrase.End b.open_blocks refl (λ o os. end_steps b.profile b.objects b.functions n o.line o.opening o.statements os)

kind_bare : (op : Opening) → kind_of (bare_opening op) ≡ kind_of op
kind_bare (opening.Function is_raw name ps) = refl
kind_bare (opening.If x) = refl
kind_bare (opening.Else x ts) = refl
kind_bare (opening.While x) = refl
kind_bare opening.Try = refl
kind_bare (opening.Except tried es l c t) = refl
kind_bare (opening.Finally tried es) = refl
kind_bare (opening.Timeout t silent) = refl

main_bare : (op : Opening) → opens_main (bare_opening op) ≡ opens_main op
main_bare (opening.Function is_raw name ps) = refl
main_bare (opening.If x) = refl
main_bare (opening.Else x ts) = refl
main_bare (opening.While x) = refl
main_bare opening.Try = refl
main_bare (opening.Except tried es l c t) = refl
main_bare (opening.Finally tried es) = refl
main_bare (opening.Timeout t silent) = refl

kinds_bare : (os : List OpenBlock) → map (λ (o : OpenBlock). kind_of o.opening) (map bare_open os) ≡ map (λ (o : OpenBlock). kind_of o.opening) os
kinds_bare [] = refl
kinds_bare (o ∷ os) = λ i. kind_bare o.opening i ∷ kinds_bare os i

mains_bare : (os : List OpenBlock) → list_any (λ (o : OpenBlock). opens_main o.opening) (map bare_open os) ≡ list_any (λ (o : OpenBlock). opens_main o.opening) os
mains_bare [] = refl
mains_bare (o ∷ os) = λ i. main_bare o.opening i || mains_bare os i

pub functions_bare : (fs : List Function) → list_any is_main (map bare_function fs) ≡ list_any is_main fs
functions_bare [] = refl
functions_bare (f ∷ fs) = ap (λ x. is_main f || x) (functions_bare fs)

begun_bare : (profile : ℕ) (ds : List Declaration) (fs : List Function) (os : List OpenBlock) → is_begun (bare_building (begun profile ds fs os)) ≡ is_begun (begun profile ds fs os)
begun_bare profile ds [] [] = refl
begun_bare profile ds [] (o ∷ os) = refl
begun_bare profile ds (f ∷ fs) os = refl

objects_bare : (ds : List Declaration) (fs : List Function) (os : List OpenBlock) (profile : ℕ) → has_objects (bare_building (begun profile ds fs os)) ≡ has_objects (begun profile ds fs os)
objects_bare [] fs os profile = refl
objects_bare (d ∷ ds) fs os profile = refl

standing_bare : (b : Building) → standing (bare_building b) ≡ standing b
standing_bare b = λ i. record {
  profile = b.profile;
  any_line = begun_bare b.profile b.objects b.functions b.open_blocks i || objects_bare b.objects b.functions b.open_blocks b.profile i || not (b.profile == 1);
  open_blocks = kinds_bare b.open_blocks i;
  begun = begun_bare b.profile b.objects b.functions b.open_blocks i;
  has_main = functions_bare b.functions i || mains_bare b.open_blocks i;
}

-- the same phrases on other lines
abbrev pub SamePhrases : List (ℕ × Phrase) → List (ℕ × Phrase) → Type 0
SamePhrases [] [] = Unit {0}
SamePhrases [] (m ∷ ms) = ⊥
SamePhrases (l ∷ ls) [] = ⊥
SamePhrases (l ∷ ls) (m ∷ ms) = (l.1 ≡ m.1) × SamePhrases ls ms

pub record Renumbered (b c : Building) (ms : List (ℕ × Phrase)) : Type 0 where
  pub made : Building
  pub follows : follow b ms ≡ Some made
  pub same : bare_building c ≡ bare_building made

some_same : (b c : Building) → (let r : Option Building = Some b in r) ≡ Some c → b ≡ c
some_same b c e = cc

-- Lines that say the same make the same but for the numbers.
pub renumbered : (ls ms : List (ℕ × Phrase)) (b d c : Building) → SamePhrases ls ms → bare_building b ≡ bare_building d → follow b ls ≡ Some c → Renumbered d c ms
unfolding follow
renumbered [] [] b d c s e f = record { made = d; follows = refl; same = ap bare_building (sym (some_same b c f)) ∙ e }
renumbered [] (m ∷ ms) b d c s e f = absurd s
renumbered (l ∷ ls) [] b d c s e f = absurd s
renumbered (l ∷ ls) (m ∷ ms) b d c s e f =
    let x = next b c l.0 l.1 ls f in
    let there : standing d ≡ standing b = sym (standing_bare d) ∙ ap standing (sym e) ∙ standing_bare b in
    let placed : misplaced (standing d) (role m.1) ≡ None = ap (λ s. misplaced s (role m.1)) there ∙ ap (λ p. misplaced (standing b) (role p)) (sym s.0) ∙ x.placed in
    let steps : bare_building (step b l.0 l.1) ≡ bare_building (step d m.0 m.1) = step_bare b l.0 l.1 ∙ ap (λ z. step z 0 l.1) e ∙ ap (λ p. step (bare_building d) 0 p) s.0 ∙ sym (step_bare d m.0 m.1) in
    let below = renumbered ls ms (step b l.0 l.1) (step d m.0 m.1) c s.1 steps x.after in
    record { made = below.made; follows = follow_one d m.0 m.1 ms placed ∙ below.follows; same = below.same }
