-- A scenario that has a text declares no object of which more is counted than fits a number with a sign, and none that
-- counts much.
use Rattle.std.proofs.Common.{◌≡◌, refl, ℕ, pos, zero, suc, ◌<◌, ◌≤◌, ◌^◌, Bool, true, false, List, [], ◌∷◌, map, Some, None, arith}
use Rattle.std.proofs.lemmas.Bool.{and_parts}
use Rattle.std.proofs.lemmas.Bool.Decides.{nat_tests}
use Rattle.std.proofs.lemmas.List.Folds.{list_all-append}
use Rattle.std.specs.Prelude.{IsSomeAnd, IsTrue, ◌&&◌, is_some, nat_le}
use Rattle.std.specs.List.{list_all}
use Rattle.gv_values.specs.declared.name.Name.{Name}
use Rattle.scenario_tree.specs.declared.tree.Declaration.{Declaration}
use Rattle.scenario_tree.specs.declared.tree.Object.{Object as Declared}
use Rattle.scenario_tree.specs.declared.tree.Scenario.{Scenario}
use Rattle.scenario_grammar.specs.declared.keyword.Keyword.{Keyword}
use Rattle.scenario_grammar.specs.declared.token.Token.{Token}
use Rattle.scenario_grammar.specs.declared.token.Token.TheVariants as token
use Rattle.scenario_grammar.specs.Blocks.{TreeLine, declaration_lines, function_lines, profile_lines, scenario_lines}
use Rattle.scenario_grammar.specs.Phrase.{object_tokens, phrase_tokens}
use Rattle.scenario_grammar.specs.Token.{Written, ◌⊕◌, ◌▹◌, each, name, number, only_if}
use Rattle.scenario_print.specs.Texts.{HasText, has_words}
use Rattle.machine.specs.Run.{first_state, object_of}
use Rattle.machine.specs.Counts.{object_count}
use Rattle.machine_rooms.specs.Counts.{AreCountable}
use Rattle.hub_objects.specs.Counted.{AreCounted, IsCounted}
use Rattle.scenario_grammar.specs.declared.limits.TheConstants.{MOST_UNITS}

abbrev AllWords : Written TreeLine → Type 0
AllWords w = IsSomeAnd w (λ tree_lines. IsTrue (list_all has_words tree_lines))

split : (a b : Written TreeLine) → AllWords (a ⊕ b) → AllWords a × AllWords b
split (Some xs) (Some ys) h = and_parts (list_all has_words xs) (list_all has_words ys) (rw (list_all-append has_words xs ys) at h)
split (Some xs) None h = absurd h
split None b h = absurd h

-- a number that is written is in its range
in_range : (w : Written Token) (least most x : ℕ) → is_some (w ⊕ number least most x) ≡ true → x ≤ most
in_range None least most x h = cc
in_range (Some ts) least most x h = by (nat_le least x && nat_le x most) refl h
  where
    by : (b : Bool) → (nat_le least x && nat_le x most) ≡ b → is_some (Some ts ⊕ only_if b (Some (token.Number (pos x) ∷ []))) ≡ true → x ≤ most
    by true q e = let r = and_parts (nat_le least x) (nat_le x most) q in let s = r.1 in grind (arith, nat_tests)
    by false q e = cc

-- what stands behind a fixed word is written too
behind : (k : Keyword) (w : Written Token) → is_some (k ▹ w) ≡ true → is_some w ≡ true
behind k None h = h
behind k (Some ts) h = refl

few : (x : ℕ) → x ≤ MOST_UNITS → x < 2 ^ 63
few x h = omega (arith, h)

sized : (d : Declared) (n : Name) → is_some (object_tokens d n) ≡ true → IsCounted (object_of d)
sized Declared.Event n h = (omega arith, omega arith)
sized Declared.Result n h = (omega arith, omega arith)
sized (Declared.Semaphore x) n h = (few x (in_range (name n) 0 MOST_UNITS x (behind _ _ h)), omega arith)
sized (Declared.BoundedSemaphore x) n h = (few x (in_range (name n) 0 MOST_UNITS x (behind _ _ h)), omega arith)
sized Declared.Lock n h = (omega arith, omega arith)
sized (Declared.Queue kind size) n h = (omega arith, omega arith)
sized Declared.Group n h = (omega arith, omega arith)
sized (Declared.Pool x) n h = (omega arith, omega arith)
sized (Declared.Native x) n h = (omega arith, omega arith)
sized Declared.Channel n h = (omega arith, omega arith)

written : (d : Declaration) → AllWords (declaration_lines d) → is_some (object_tokens d.object d.name) ≡ true
unfolding phrase_tokens
written d h = (and_parts (is_some (object_tokens d.object d.name)) true h).0

none-counted : AreCounted []
none-counted o = (omega arith, omega arith)

-- the first is counted, and those after it are
more : (d : Declaration) (ds : List Declaration) → IsCounted (object_of d.object) → AreCounted (map (λ x. object_of x.object) ds) → AreCounted (map (λ x. object_of x.object) (d ∷ ds))
more d ds here rest zero = here
more d ds here rest (suc o) = rest o

declared : (ds : List Declaration) → AllWords (each declaration_lines ds) → AreCounted (map (λ d. object_of d.object) ds)
declared [] h = none-counted
declared (d ∷ ds) h =
    let parts = split (declaration_lines d) (each declaration_lines ds) h in
    more d ds (sized d.object d.name (written d parts.0)) (declared ds parts.1)

-- a scenario that has a text has counts that fit
pub text_is_counted : (c : Scenario) → HasText c → AreCounted (first_state c).objects
unfolding scenario_lines
text_is_counted c h = declared c.objects (split (profile_lines c.profile) (each declaration_lines c.objects) (split (profile_lines c.profile ⊕ each declaration_lines c.objects) (each function_lines c.functions) h).0).1

-- ---- far below

far : (x : ℕ) → x ≤ MOST_UNITS → x < 2 ^ 62
far x h = omega (arith, h)

-- what is counted of an object as it is declared is far below what its type holds
light : (d : Declared) (n : Name) → is_some (object_tokens d n) ≡ true → object_count (Some (object_of d)) < 2 ^ 62
light Declared.Event n h = omega arith
light Declared.Result n h = omega arith
light (Declared.Semaphore x) n h = far x (in_range (name n) 0 MOST_UNITS x (behind _ _ h))
light (Declared.BoundedSemaphore x) n h = far x (in_range (name n) 0 MOST_UNITS x (behind _ _ h))
light Declared.Lock n h = omega arith
light (Declared.Queue kind size) n h = omega arith
light Declared.Group n h = omega arith
light (Declared.Pool x) n h = omega arith
light (Declared.Native x) n h = omega arith
light Declared.Channel n h = omega arith

none-countable : AreCountable []
none-countable o = omega arith

-- the first counts little, and so do those after it
more-countable : (d : Declaration) (ds : List Declaration) → object_count (Some (object_of d.object)) < 2 ^ 62 → AreCountable (map (λ x. object_of x.object) ds) →
    AreCountable (map (λ x. object_of x.object) (d ∷ ds))
more-countable d ds here rest zero = here
more-countable d ds here rest (suc o) = rest o

declared-countable : (ds : List Declaration) → AllWords (each declaration_lines ds) → AreCountable (map (λ d. object_of d.object) ds)
declared-countable [] h = none-countable
declared-countable (d ∷ ds) h =
    let parts = split (declaration_lines d) (each declaration_lines ds) h in
    more-countable d ds (light d.object d.name (written d parts.0)) (declared-countable ds parts.1)

-- the objects of a scenario that has a text count little as they are declared
pub text_is_countable : (c : Scenario) → HasText c → AreCountable (first_state c).objects
unfolding scenario_lines
text_is_countable c h = declared-countable c.objects (split (profile_lines c.profile) (each declaration_lines c.objects) (split (profile_lines c.profile ⊕ each declaration_lines c.objects) (each function_lines c.functions) h).0).1
