-- Whole scenarios.
use Rattle.std.proofs.Common.{◌≡◌, ℕ, ◌+◌, ◌<◌, ◌==◌, arith, Bool, ◌&&◌, true, false, List, [], ◌∷◌, ◌++◌, length, take, get_or, Option, Some, None, Result, Ok, Err, IsTrue, refl, sym, ap, subst, ◌∙◌}
use Rattle.std.specs.List.{list_all}
use Rattle.std.specs.Option.{IsSomeAnd, is_some}
use Rattle.std.proofs.lemmas.Bool.{ne_eqb}
use Rattle.std.proofs.lemmas.List.{append-nil}
use Rattle.scenario_tree.specs.declared.tree.Declaration.{Declaration}
use Rattle.scenario_tree.specs.declared.tree.Function.{Function}
use Rattle.scenario_tree.specs.declared.tree.Scenario.{Scenario}
use Rattle.scenario_tree.specs.declared.tree.Statement.{Statement}
use Rattle.scenario_grammar.specs.declared.keyword.Keyword.{Keyword}
use Rattle.scenario_grammar.specs.declared.phrase.Phrase.TheVariants as phrase
use Rattle.scenario_grammar.specs.Blocks.{TreeLine, block_within, declaration_lines, function_lines, profile_lines, scenario_lines}
use Rattle.scenario_grammar.specs.declared.limits.TheConstants.{MOST_LEVELS}
use Rattle.scenario_grammar.specs.Layout.{Line, lines}
use Rattle.scenario_grammar.specs.Phrase.{phrase_tokens}
use Rattle.scenario_grammar.specs.Printed.{printed, printed_if, printed_tree_lines}
use Rattle.scenario_grammar.specs.Spells.{AreTreeLines, Spells}
use Rattle.scenario_grammar.specs.Token.{Written, ◌⊕◌, each}
use Rattle.scenario_print.specs.TreeLines.{WroteTreeLine, WroteFixedLine, Laid, WroteBlock, WroteScenario}
use Rattle.scenario_print.specs.Texts.{has_words, HasText}
use Rattle.scenario_print.proofs.Each.{each_next}
use Rattle.scenario_print.proofs.TreeLineLemmas.{end_tree_line, laid, laid_back, laid_nothing, laid_line}
use Rattle.scenario_print.proofs.Words.{through}

some_said : {A : Type 0} (w : Option A) (x : A) → w ≡ Some x → is_some w ≡ true
some_said w x e = ap is_some e

both : (a b : Bool) → a ≡ true → b ≡ true → (a && b) ≡ true
both true b e f = f
both false b e f = cc

all_said : (p : ℕ) (ls : List Line) (rs : List TreeLine) → AreTreeLines p ls rs → IsTrue (list_all has_words rs)
all_said p [] [] h = refl
all_said p [] (r ∷ rs) h = absurd h
all_said p (l ∷ ls) [] h = absurd h
all_said p (l ∷ ls) (r ∷ rs) h = both (has_words r) (list_all has_words rs) (some_said (phrase_tokens r.says) _ h.0.0) (all_said p ls rs h.1)

-- a tree that a text spells has a text
pub spelt_has_text : (s : Scenario) (bytes : List ℕ) → Spells s bytes → HasText s
spelt_has_text s bytes h = by_lines (scenario_lines s) h.tree_lines
  where
    by_lines : (w : Written TreeLine) → IsSomeAnd w (AreTreeLines s.profile (lines bytes)) → IsSomeAnd w (λ tree_lines. IsTrue (list_all has_words tree_lines))
    by_lines (Some rs) a = all_said s.profile (lines bytes) rs a
    by_lines None a = a

pub whole_scenario : {T E : Type 0} {o l m n : List ℕ} {x y : T} {r : Result T E} (s : Scenario) (ds : List Declaration) (fs : List Function) → ds ≡ s.objects → fs ≡ s.functions
    → (let done : Result T E = Ok x in Laid o l done 0 0 (profile_lines s.profile)) → (let done : Result T E = Ok y in Laid l m done 0 0 (each declaration_lines ds)) → Laid m n r 0 0 (each function_lines fs) → WroteScenario o n r s
unfolding printed scenario_lines
whole_scenario {T} {E} {o = o} {n = n} {r = Ok y} s ds fs d e a f g = record { text = λ h. by_lines (scenario_lines s) whole.lines h; front = whole.front }
  where
    whole : (let done : Result T E = Ok y in Laid o n done 0 0 (scenario_lines s))
    whole = subst (λ z. (let done : Result T E = Ok y in Laid o n done 0 0 (profile_lines s.profile ⊕ each declaration_lines z ⊕ each function_lines s.functions))) d
        (subst (λ z. (let done : Result T E = Ok y in Laid o n done 0 0 (profile_lines s.profile ⊕ each declaration_lines ds ⊕ each function_lines z))) e (laid (laid a f) g))

    by_lines : (w : Written TreeLine) → ((rs : List TreeLine) → w ≡ Some rs → IsTrue (list_all has_words rs) → (rest : List TreeLine) → o ++ printed_tree_lines 0 (rs ++ rest) ≡ n ++ printed_tree_lines 0 rest)
        → IsSomeAnd w (λ tree_lines. IsTrue (list_all has_words tree_lines)) → n ≡ o ++ printed_if w
    by_lines (Some rs) p h = sym (append-nil n) ∙ sym (p rs refl h []) ∙ ap (λ z. o ++ printed_tree_lines 0 z) (append-nil rs)
    by_lines None p h = absurd h
whole_scenario {o = o} {l = l} {m = m} {n = n} {r = Err y} s ds fs d e a f g = record { text = tt; front = through n m o g.front (through m l o f.front a.front) }

-- a scenario of profile 1 has no line for it
pub first_profile : {T E : Type 0} (o : List ℕ) (r : Result T E) (p : ℕ) → p ≡ 1 → Laid o o r 0 0 (profile_lines p)
first_profile o r p e = rw e (laid_nothing o r 0)

-- any other has one
pub later_profile : {T E : Type 0} {o n : List ℕ} {r : Result T E} (p : ℕ) → (p ≡ 1 → ⊥) → WroteTreeLine o n r 0 (phrase.Profile p) → Laid o n r 0 0 (profile_lines p)
later_profile p e f = let other : (p == 1) ≡ false = ne_eqb p 1 e in rw other (laid_line None (phrase.Profile p) 0 f)

-- the tree_lines of one part more
pub next_lines : {A : Type 0} {T E : Type 0} {o m n : List ℕ} {x y : T} (f : A → Written TreeLine) (i : ℕ) (es : List A) (e : A) → i < length es → e ≡ get_or es i e
    → (let done : Result T E = Ok x in Laid o m done 0 0 (each f (take i es))) → (let done : Result T E = Ok y in Laid m n done 0 0 (f e)) → (let done : Result T E = Ok y in Laid o n done 0 0 (each f (take (i + 1) es)))
next_lines {A} {T} {E} {o = o} {n = n} {y = y} f i es e within at p q = subst (λ w. (let done : Result T E = Ok y in Laid o n done 0 0 w)) (sym (each_next f i es e within at)) (laid p q)

pub one_declaration : {T E : Type 0} {o n : List ℕ} {r : Result T E} (d : Declaration) → WroteTreeLine o n r 0 (phrase.Declaration d.name d.object) → Laid o n r 0 0 (declaration_lines d)
one_declaration d f = laid_line (Some d.line) (phrase.Declaration d.name d.object) 0 f

pub one_function : {T E : Type 0} {o m k n : List ℕ} {x y : T} {r : Result T E} (f : Function) (body : List Statement) → body ≡ f.body
    → (let done : Result T E = Ok x in WroteTreeLine o m done 0 (phrase.Function f.is_raw f.name f.parameters)) → (let done : Result T E = Ok y in WroteBlock m k done 1 body) → WroteFixedLine k n r 0 Keyword.End → Laid o n r 0 0 (function_lines f)
one_function {T} {E} {o = o} {m = m} {k = k} {n = n} {y = y} f body same p q h = laid (laid (laid_line (Some f.line) (phrase.Function f.is_raw f.name f.parameters) 0 p) inside) (laid_back None phrase.End 0 refl (end_tree_line h))
  where
    inside : (let done : Result T E = Ok y in Laid m k done 1 1 (block_within MOST_LEVELS f.body))
    inside = subst (λ z. (let done : Result T E = Ok y in Laid m k done 1 1 (block_within MOST_LEVELS z))) same (record { lines = q.lines MOST_LEVELS (omega arith); front = q.front })
