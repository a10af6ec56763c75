-- The lines that were followed are the tree_lines of what they made.
use Rattle.std.proofs.Common.{◌≡◌, ℕ, zero, suc, ◌+◌, ◌<◌, Bool, true, false, List, [], ◌∷◌, ◌++◌, length, map, Option, Some, None, refl, sym, ap, subst, ◌∙◌, append_assoc, append-nil, arith, nat_le, not, ◌==◌, if◌then◌else◌}
use Rattle.std.proofs.lemmas.List.{length-map}
use Rattle.std.proofs.lemmas.Bool.{leb-false}
use Rattle.gv_values.specs.declared.fault.Class.{Class}
use Rattle.gv_values.specs.declared.name.Name.{Name}
use Rattle.scenario_tree.specs.declared.tree.Action.{Action, out-Action}
use Rattle.scenario_tree.specs.declared.tree.Action.TheVariants as a
use Rattle.scenario_tree.specs.declared.tree.Action.TheViews as v
use Rattle.scenario_tree.specs.declared.tree.Declaration.{Declaration}
use Rattle.scenario_tree.specs.declared.tree.Except.{Except, out-roll-Except}
use Rattle.scenario_tree.specs.declared.tree.Function.{Function}
use Rattle.scenario_tree.specs.declared.tree.Statement.{Statement}
use Rattle.scenario_grammar.specs.declared.phrase.Phrase.{Phrase}
use Rattle.scenario_grammar.specs.declared.phrase.Phrase.TheVariants as phrase
use Rattle.scenario_grammar.specs.declared.building.OpenBlock.{OpenBlock}
use Rattle.scenario_grammar.specs.declared.building.Opening.{Opening}
use Rattle.scenario_grammar.specs.declared.building.Opening.TheVariants as opening
use Rattle.scenario_grammar.specs.declared.token.Token.{Token}
use Rattle.scenario_grammar.specs.Phrase.{phrase_tokens}
use Rattle.scenario_grammar.specs.Token.{Written, ◌⊕◌, each, only_if}
use Rattle.scenario_grammar.specs.Blocks.{TreeLine, line, mark, statement_lines, action_lines, block_within, except_lines, is_handled, profile_lines, declaration_lines, function_lines}
use Rattle.scenario_grammar.specs.Building.{Building, at, caught, opened, added, closed_by, step}
use Rattle.scenario_grammar.specs.Parsed.{standing, kind_of}
use Rattle.scenario_grammar.specs.Place.{Body, Profiles, Declares, Defines, States, Opens, Parts, Catches, Finishes, Ends, misplaced, in_a_body}
use Rattle.scenario_grammar.proofs.BlockLaws.{Said}
use Rattle.scenario_grammar.proofs.Named.{later_profile}
use Rattle.scenario_grammar.proofs.PhraseLaws.{role}
use Rattle.scenario_grammar.specs.declared.reason.TextReason.{TextReason}
use Rattle.scenario_grammar.specs.declared.reason.TextReason.TheVariants as reason
use Rattle.scenario_grammar.specs.declared.limits.TheConstants.{MOST_LEVELS}

plus_assoc : {A : Type 0} (x y z : Written A) → (x ⊕ y) ⊕ z ≡ x ⊕ (y ⊕ z)
plus_assoc None y z = refl
plus_assoc (Some x) None z = refl
plus_assoc (Some x) (Some y) None = refl
plus_assoc (Some x) (Some y) (Some z) = ap (λ w. let r : Written _ = Some w in r) (append_assoc x y z)

pub plus_none : {A : Type 0} (x : Written A) → x ⊕ Some [] ≡ x
plus_none None = refl
plus_none (Some x) = ap (λ w. let r : Written _ = Some w in r) (append-nil x)

none_plus : {A : Type 0} (x : Written A) → Some [] ⊕ x ≡ x
none_plus None = refl
none_plus (Some x) = refl

-- one more at the end
pub each_more : {A B : Type 0} (f : A → Written B) (xs : List A) (x : A) → each f (xs ++ x ∷ []) ≡ each f xs ⊕ f x
each_more f [] x = plus_none (f x) ∙ sym (none_plus (f x))
each_more f (y ∷ ys) x = ap (λ w. f y ⊕ w) (each_more f ys x) ∙ sym (plus_assoc (f y) (each f ys) (f x))

-- what opened a block, and what came of it before its statements, where blocks in it have so many levels
abbrev opening_lines : ℕ → ℕ → Opening → Written TreeLine
opening_lines d n (opening.Function is_raw m ps) = line n (phrase.Function is_raw m ps)
opening_lines d n (opening.If e) = line n (phrase.If e)
opening_lines d n (opening.Else e ss) = line n (phrase.If e) ⊕ block_within d ss ⊕ mark phrase.Else
opening_lines d n (opening.While e) = line n (phrase.While e)
opening_lines d n opening.Try = line n phrase.Try
opening_lines d n (opening.Except tried excepts m c target) = line n phrase.Try ⊕ block_within d tried ⊕ each (except_lines (block_within d)) excepts ⊕ line m (phrase.Except c target)
opening_lines d n (opening.Finally tried excepts) = line n phrase.Try ⊕ block_within d tried ⊕ each (except_lines (block_within d)) excepts ⊕ mark phrase.Finally
opening_lines d n (opening.Timeout after silent) = line n (phrase.Timeout after silent)

-- the open blocks, the innermost first, which has so many levels
unfoldable pub open_lines : ℕ → List OpenBlock → Written TreeLine
open_lines d [] = Some []
open_lines d (o ∷ os) = open_lines (suc d) os ⊕ opening_lines d o.line o.opening ⊕ block_within d o.statements

abbrev pub begun_lines : ℕ → Building → Written TreeLine
begun_lines d b = profile_lines b.profile ⊕ each declaration_lines b.objects ⊕ each function_lines b.functions ⊕ open_lines d b.open_blocks

-- The outermost block is a function's body, and no other is.
abbrev pub Stacked : List OpenBlock → Type 0
Stacked [] = Unit {0}
Stacked (o ∷ []) = kind_of o.opening ≡ Body
Stacked (o ∷ p ∷ os) = (kind_of o.opening ≡ Body → ⊥) × Stacked (p ∷ os)

-- what a tree that is begun keeps, with the tree_lines so far
pub record Kept (e : ℕ) (b : Building) (rs : List TreeLine) : Type 0 where
  pub levels : length b.open_blocks + e ≡ MOST_LEVELS
  pub stacked : Stacked b.open_blocks
  pub tree_lines : begun_lines (suc e) b ≡ Some rs

pub record Stepped (b : Building) (n : ℕ) (p : Phrase) (rs : List TreeLine) : Type 0 where
  pub left : ℕ
  pub tree_line : TreeLine
  pub said : Said (n, p) tree_line
  pub kept : Kept left (step b n p) (rs ++ tree_line ∷ [])

-- one more statement
statement_more : (e : ℕ) (ss : List Statement) (n : ℕ) (x : Action) → block_within (suc e) (ss ++ at n x ∷ []) ≡ block_within (suc e) ss ⊕ action_lines (block_within e) n (out-Action x)
unfolding block_within
statement_more e ss n x = each_more (statement_lines (block_within e)) ss (at n x)

no_statement : (e : ℕ) → block_within (suc e) [] ≡ Some []
unfolding block_within
no_statement e = refl

behind : (x p r s : Written TreeLine) → x ⊕ (p ⊕ (r ⊕ s)) ≡ (x ⊕ (p ⊕ r)) ⊕ s
behind x p r s = simp plus_assoc

added_lines : (profile : ℕ) (ds : List Declaration) (fs : List Function) (e : ℕ) (o : OpenBlock) (os : List OpenBlock) (n : ℕ) (x : Action)
    → begun_lines (suc e) (added (at n x ∷ []) (record { profile = profile; objects = ds; functions = fs; open_blocks = o ∷ os }))
    ≡ begun_lines (suc e) (record { profile = profile; objects = ds; functions = fs; open_blocks = o ∷ os }) ⊕ action_lines (block_within e) n (out-Action x)
unfolding open_lines
added_lines profile ds fs e o os n x =
    let before = profile_lines profile ⊕ each declaration_lines ds ⊕ each function_lines fs in
    let outer = open_lines (suc (suc e)) os ⊕ opening_lines (suc e) o.line o.opening in
    ap (λ w. before ⊕ (outer ⊕ w)) (statement_more e o.statements n x)
    ∙ behind before outer (block_within (suc e) o.statements) (action_lines (block_within e) n (out-Action x))

-- a tree_line more, where the new tree_lines are the old ones and that tree_line
tree_line_more : (x y : Written TreeLine) (r : TreeLine) (rs : List TreeLine) → y ≡ x ⊕ Some (r ∷ []) → x ≡ Some rs → y ≡ Some (rs ++ r ∷ [])
tree_line_more x y r rs e f = e ∙ ap (λ w. w ⊕ Some (r ∷ [])) f

same_stack : (o : OpenBlock) (ss : List Statement) (os : List OpenBlock) → Stacked (o ∷ os) → Stacked (record o { statements = ss } ∷ os)
same_stack o ss [] h = h
same_stack o ss (p ∷ os) h = h

command_lines : (c : _) (e n : ℕ) → action_lines (block_within e) n (out-Action (a.Command c)) ≡ line n (phrase.Command c)
command_lines c e n = ap (action_lines (block_within e) n) (v.outs-Command c)

giving_lines : (t : Option Name) (g : _) (e n : ℕ) → action_lines (block_within e) n (out-Action (a.Giving t g)) ≡ line n (phrase.Giving t g)
giving_lines t g e n = ap (action_lines (block_within e) n) (v.outs-Giving t g)

-- a block that is opened inside another
inside_lines : (profile : ℕ) (ds : List Declaration) (fs : List Function) (e : ℕ) (os : List OpenBlock) (n : ℕ) (o : Opening) (p : Phrase) → opening_lines (suc e) n o ≡ line n p
    → begun_lines (suc e) (opened n o (record { profile = profile; objects = ds; functions = fs; open_blocks = os })) ≡ begun_lines (suc (suc e)) (record { profile = profile; objects = ds; functions = fs; open_blocks = os }) ⊕ line n p
unfolding open_lines
inside_lines profile ds fs e os n o p same =
    let before = profile_lines profile ⊕ each declaration_lines ds ⊕ each function_lines fs in
    let outer = open_lines (suc (suc e)) os in
    ap (λ w. before ⊕ (outer ⊕ opening_lines (suc e) n o ⊕ w)) (no_statement e)
    ∙ ap (λ w. before ⊕ w) (plus_none (outer ⊕ opening_lines (suc e) n o))
    ∙ sym (plus_assoc before outer (opening_lines (suc e) n o))
    ∙ ap (λ w. before ⊕ outer ⊕ w) same

-- the innermost block goes on as another part, whose opening tree_lines are the tree_lines so far and one more
parted_lines : (profile : ℕ) (ds : List Declaration) (fs : List Function) (e : ℕ) (n : ℕ) (o q : Opening) (ss : List Statement) (os : List OpenBlock) (m : Written TreeLine)
    → opening_lines (suc e) n q ≡ opening_lines (suc e) n o ⊕ block_within (suc e) ss ⊕ m
    → begun_lines (suc e) (record { profile = profile; objects = ds; functions = fs; open_blocks = record { line = n; opening = q; statements = [] } ∷ os })
    ≡ begun_lines (suc e) (record { profile = profile; objects = ds; functions = fs; open_blocks = record { line = n; opening = o; statements = ss } ∷ os }) ⊕ m
unfolding open_lines
parted_lines profile ds fs e n o q ss os m same =
    let before = profile_lines profile ⊕ each declaration_lines ds ⊕ each function_lines fs in
    let outer = open_lines (suc (suc e)) os in
    ap (λ w. before ⊕ (outer ⊕ opening_lines (suc e) n q ⊕ w)) (no_statement e)
    ∙ ap (λ w. before ⊕ w) (plus_none (outer ⊕ opening_lines (suc e) n q))
    ∙ ap (λ w. before ⊕ (outer ⊕ w)) same
    ∙ gathered before outer (opening_lines (suc e) n o) (block_within (suc e) ss) m
  where
    gathered : (x p r s m : Written TreeLine) → x ⊕ (p ⊕ (r ⊕ s ⊕ m)) ≡ (x ⊕ (p ⊕ r ⊕ s)) ⊕ m
    gathered x p r s m = simp plus_assoc

-- What a block becomes where it ends has the tree_lines of the block and its end.
while_closed : (e n : ℕ) (x : _) (ss : List Statement) → action_lines (block_within e) n (out-Action (a.While x ss)) ≡ opening_lines e n (opening.While x) ⊕ block_within e ss ⊕ mark phrase.End
while_closed e n x ss = ap (action_lines (block_within e) n) (v.outs-While x ss)

timeout_closed : (e n : ℕ) (t : Option ℕ) (silent : Bool) (ss : List Statement)
    → action_lines (block_within e) n (out-Action (a.Timeout t silent ss)) ≡ opening_lines e n (opening.Timeout t silent) ⊕ block_within e ss ⊕ mark phrase.End
timeout_closed e n t silent ss = ap (action_lines (block_within e) n) (v.outs-Timeout t silent ss)

if_closed : (e n : ℕ) (x : _) (ss : List Statement) → action_lines (block_within e) n (out-Action (a.If x ss None)) ≡ opening_lines e n (opening.If x) ⊕ block_within e ss ⊕ mark phrase.End
if_closed e n x ss = ap (action_lines (block_within e) n) (v.outs-If x ss None) ∙ ap (λ w. w ⊕ mark phrase.End) (plus_none (line n (phrase.If x) ⊕ block_within e ss))

else_closed : (e n : ℕ) (x : _) (then_part ss : List Statement)
    → action_lines (block_within e) n (out-Action (a.If x then_part (Some ss))) ≡ opening_lines e n (opening.Else x then_part) ⊕ block_within e ss ⊕ mark phrase.End
else_closed e n x then_part ss =
    ap (action_lines (block_within e) n) (v.outs-If x then_part (Some ss))
    ∙ ap (λ w. w ⊕ mark phrase.End) (sym (plus_assoc (line n (phrase.If x) ⊕ block_within e then_part) (mark phrase.Else) (block_within e ss)))

handled_more : (es : List Except) (e : Except) (f : Option (List Statement)) → is_handled (es ++ e ∷ []) f ≡ true
handled_more [] e f = refl
handled_more (d ∷ es) e f = refl

handled_finally : (es : List Except) (ss : List Statement) → is_handled es (Some ss) ≡ true
handled_finally [] ss = refl
handled_finally (e ∷ es) ss = refl

only_true : (b : Bool) (w : Written TreeLine) → b ≡ true → only_if b w ≡ w
only_true true w h = refl
only_true false w h = cc

caught_lines : (e m : ℕ) (c : Class) (target : Option Name) (ss : List Statement) → except_lines (block_within e) (caught m c target ss) ≡ line m (phrase.Except c target) ⊕ block_within e ss
caught_lines e m c target ss = ap (λ x. line x.line (phrase.Except x.class x.name) ⊕ block_within e x.body) (out-roll-Except (record { line = m; class = c; name = target; body = ss }))

-- the excepts so far, and the one that is ended
caught_more : (e : ℕ) (es : List Except) (m : ℕ) (c : Class) (target : Option Name) (ss : List Statement)
    → each (except_lines (block_within e)) (es ++ caught m c target ss ∷ []) ≡ each (except_lines (block_within e)) es ⊕ (line m (phrase.Except c target) ⊕ block_within e ss)
caught_more e es m c target ss = each_more (except_lines (block_within e)) es (caught m c target ss) ∙ ap (λ w. each (except_lines (block_within e)) es ⊕ w) (caught_lines e m c target ss)

except_closed : (e n : ℕ) (tried : List Statement) (es : List Except) (m : ℕ) (c : Class) (target : Option Name) (ss : List Statement)
    → action_lines (block_within e) n (out-Action (a.Try tried (es ++ caught m c target ss ∷ []) None)) ≡ opening_lines e n (opening.Except tried es m c target) ⊕ block_within e ss ⊕ mark phrase.End
except_closed e n tried es m c target ss =
    let start = line n phrase.Try ⊕ block_within e tried in
    ap (action_lines (block_within e) n) (v.outs-Try tried (es ++ caught m c target ss ∷ []) None)
    ∙ only_true (is_handled (es ++ caught m c target ss ∷ []) None) (start ⊕ each (except_lines (block_within e)) (es ++ caught m c target ss ∷ []) ⊕ Some [] ⊕ mark phrase.End) (handled_more es (caught m c target ss) None)
    ∙ ap (λ w. start ⊕ w ⊕ Some [] ⊕ mark phrase.End) (caught_more e es m c target ss)
    ∙ regrouped start (each (except_lines (block_within e)) es) (line m (phrase.Except c target)) (block_within e ss) (mark phrase.End)
  where
    regrouped : (x y l s m : Written TreeLine) → x ⊕ (y ⊕ (l ⊕ s)) ⊕ Some [] ⊕ m ≡ x ⊕ y ⊕ l ⊕ s ⊕ m
    regrouped x y l s m = simp (plus_none, plus_assoc)

finally_closed : (e n : ℕ) (tried : List Statement) (es : List Except) (ss : List Statement)
    → action_lines (block_within e) n (out-Action (a.Try tried es (Some ss))) ≡ opening_lines e n (opening.Finally tried es) ⊕ block_within e ss ⊕ mark phrase.End
finally_closed e n tried es ss =
    let start = line n phrase.Try ⊕ block_within e tried ⊕ each (except_lines (block_within e)) es in
    ap (action_lines (block_within e) n) (v.outs-Try tried es (Some ss))
    ∙ only_true (is_handled es (Some ss)) (start ⊕ (mark phrase.Finally ⊕ block_within e ss) ⊕ mark phrase.End) (handled_finally es ss)
    ∙ ap (λ w. w ⊕ mark phrase.End) (sym (plus_assoc start (mark phrase.Finally) (block_within e ss)))

-- a block that ends inside another
closed_lines : (profile : ℕ) (ds : List Declaration) (fs : List Function) (e n : ℕ) (o : Opening) (ss : List Statement) (q : OpenBlock) (qs : List OpenBlock) (x : Action)
    → action_lines (block_within (suc e)) n (out-Action x) ≡ opening_lines (suc e) n o ⊕ block_within (suc e) ss ⊕ mark phrase.End
    → begun_lines (suc (suc e)) (added (at n x ∷ []) (record { profile = profile; objects = ds; functions = fs; open_blocks = q ∷ qs }))
    ≡ begun_lines (suc e) (record { profile = profile; objects = ds; functions = fs; open_blocks = record { line = n; opening = o; statements = ss } ∷ q ∷ qs }) ⊕ mark phrase.End
unfolding open_lines
closed_lines profile ds fs e n o ss q qs x same =
    let before = profile_lines profile ⊕ each declaration_lines ds ⊕ each function_lines fs in
    let outer = open_lines (suc (suc e)) (q ∷ qs) in
    added_lines profile ds fs (suc e) q qs n x
    ∙ ap (λ w. before ⊕ outer ⊕ w) same
    ∙ regrouped before outer (opening_lines (suc e) n o) (block_within (suc e) ss) (mark phrase.End)
  where
    regrouped : (x o r s m : Written TreeLine) → x ⊕ o ⊕ (r ⊕ s ⊕ m) ≡ (x ⊕ (o ⊕ r ⊕ s)) ⊕ m
    regrouped x o r s m = simp plus_assoc

function_closed : (profile : ℕ) (ds : List Declaration) (fs : List Function) (n : ℕ) (is_raw : Bool) (name : Name) (ps : List Name) (ss : List Statement)
    → begun_lines (suc MOST_LEVELS) (record { profile = profile; objects = ds; functions = fs ++ record { line = n; is_raw = is_raw; name = name; parameters = ps; body = ss } ∷ []; open_blocks = [] })
    ≡ begun_lines MOST_LEVELS (record { profile = profile; objects = ds; functions = fs; open_blocks = record { line = n; opening = opening.Function is_raw name ps; statements = ss } ∷ [] }) ⊕ mark phrase.End
unfolding open_lines
function_closed profile ds fs n is_raw name ps ss =
    let f : Function = record { line = n; is_raw = is_raw; name = name; parameters = ps; body = ss } in
    ap (λ w. profile_lines profile ⊕ each declaration_lines ds ⊕ w ⊕ Some []) (each_more function_lines fs f)
    ∙ regrouped (profile_lines profile ⊕ each declaration_lines ds) (each function_lines fs) (line n (phrase.Function is_raw name ps)) (block_within MOST_LEVELS ss) (mark phrase.End)
  where
    regrouped : (x y l s m : Written TreeLine) → x ⊕ (y ⊕ (l ⊕ s ⊕ m)) ⊕ Some [] ≡ (x ⊕ y ⊕ (Some [] ⊕ l ⊕ s)) ⊕ m
    regrouped x y l s m = simp (plus_none, none_plus, plus_assoc)

abbrev pub begun : ℕ → List Declaration → List Function → List OpenBlock → Building
begun profile ds fs os = record { profile = profile; objects = ds; functions = fs; open_blocks = os }

abbrev tree_line_at : ℕ → Phrase → TreeLine
tree_line_at n p = record { at = Some n; says = p }

abbrev tree_line_of : Phrase → TreeLine
tree_line_of p = record { at = None; says = p }

room_by : (b : Bool) (x : Option TextReason) → (let r : Option TextReason = if b then Some reason.NestedTooDeep else x in r) ≡ None → b ≡ false
room_by true x h = cc
room_by false x h = refl

room : (profile : ℕ) (ds : List Declaration) (fs : List Function) (os : List OpenBlock) → misplaced (standing (begun profile ds fs os)) Opens ≡ None → length os < MOST_LEVELS
room profile ds fs os h =
    let kinds = map (λ (o : OpenBlock). kind_of o.opening) os in
    let short = leb-false MOST_LEVELS (length kinds) (room_by (nat_le MOST_LEVELS (length kinds)) (in_a_body reason.LineOutOfPlace kinds) h) in
    omega (arith, short, length-map os (λ (o : OpenBlock). kind_of o.opening))

-- a statement of one line
states : (profile : ℕ) (ds : List Declaration) (fs : List Function) (os : List OpenBlock) (e n : ℕ) (p : Phrase) (x : Action) (rs : List TreeLine)
    → action_lines (block_within e) n (out-Action x) ≡ line n p → step (begun profile ds fs os) n p ≡ added (at n x ∷ []) (begun profile ds fs os)
    → Kept e (begun profile ds fs os) rs → misplaced (standing (begun profile ds fs os)) States ≡ None → Stepped (begun profile ds fs os) n p rs
states profile ds fs [] e n p x rs same steps k h = cc
states profile ds fs (o ∷ os) e n p x rs same steps k h = record {
  left = e;
  tree_line = tree_line_at n p;
  said = (refl, refl);
  kept = subst (λ b. Kept e b (rs ++ tree_line_at n p ∷ [])) (sym steps) (record {
    levels = k.levels;
    stacked = same_stack o (o.statements ++ at n x ∷ []) os k.stacked;
    tree_lines = tree_line_more (begun_lines (suc e) (begun profile ds fs (o ∷ os))) (begun_lines (suc e) (added (at n x ∷ []) (begun profile ds fs (o ∷ os)))) (tree_line_at n p) rs
        (added_lines profile ds fs e o os n x ∙ ap (λ w. begun_lines (suc e) (begun profile ds fs (o ∷ os)) ⊕ w) same) k.tree_lines;
  });
}

-- a line that opens a block in a block
opens : (profile : ℕ) (ds : List Declaration) (fs : List Function) (os : List OpenBlock) (e n : ℕ) (p : Phrase) (op : Opening) (rs : List TreeLine)
    → ((d : ℕ) → opening_lines d n op ≡ line n p) → step (begun profile ds fs os) n p ≡ opened n op (begun profile ds fs os) → (kind_of op ≡ Body → ⊥)
    → Kept e (begun profile ds fs os) rs → misplaced (standing (begun profile ds fs os)) Opens ≡ None → Stepped (begun profile ds fs os) n p rs
opens profile ds fs [] e n p op rs same steps other k h = absurd (in_a_block h)
  where
    in_a_block : misplaced (standing (begun profile ds fs [])) Opens ≡ None → ⊥
    in_a_block h = cc
opens profile ds fs (o ∷ os) zero n p op rs same steps other k h = absurd (omega (arith, room profile ds fs (o ∷ os) h, k.levels))
opens profile ds fs (o ∷ os) (suc e) n p op rs same steps other k h = record {
  left = e;
  tree_line = tree_line_at n p;
  said = (refl, refl);
  kept = subst (λ b. Kept e b (rs ++ tree_line_at n p ∷ [])) (sym steps) (record {
    levels = omega (arith, k.levels);
    stacked = (other, k.stacked);
    tree_lines = tree_line_more (begun_lines (suc (suc e)) (begun profile ds fs (o ∷ os))) (begun_lines (suc e) (opened n op (begun profile ds fs (o ∷ os)))) (tree_line_at n p) rs
        (inside_lines profile ds fs e (o ∷ os) n op p (same (suc e))) k.tree_lines;
  });
}

-- the innermost block goes on as another part
parts : (profile : ℕ) (ds : List Declaration) (fs : List Function) (e n : ℕ) (op other : Opening) (m : ℕ) (ss : List Statement) (os : List OpenBlock) (p : Phrase) (tree_line : TreeLine) (rs : List TreeLine)
    → opening_lines (suc e) m other ≡ opening_lines (suc e) m op ⊕ block_within (suc e) ss ⊕ Some (tree_line ∷ []) → Said (n, p) tree_line
    → step (begun profile ds fs (record { line = m; opening = op; statements = ss } ∷ os)) n p ≡ begun profile ds fs (record { line = m; opening = other; statements = [] } ∷ os)
    → (kind_of op ≡ Body → ⊥) → (kind_of other ≡ Body → ⊥)
    → Kept e (begun profile ds fs (record { line = m; opening = op; statements = ss } ∷ os)) rs → Stepped (begun profile ds fs (record { line = m; opening = op; statements = ss } ∷ os)) n p rs
parts profile ds fs e n op other m ss os p tree_line rs same said steps no_body no_other k = record {
  left = e;
  tree_line = tree_line;
  said = said;
  kept = subst (λ b. Kept e b (rs ++ tree_line ∷ [])) (sym steps) (record {
    levels = k.levels;
    stacked = restacked os k.stacked;
    tree_lines = tree_line_more (begun_lines (suc e) (begun profile ds fs (record { line = m; opening = op; statements = ss } ∷ os))) (begun_lines (suc e) (begun profile ds fs (record { line = m; opening = other; statements = [] } ∷ os))) tree_line rs
        (parted_lines profile ds fs e m op other ss os (Some (tree_line ∷ [])) same) k.tree_lines;
  });
}
  where
    restacked : (os : List OpenBlock) → Stacked (record { line = m; opening = op; statements = ss } ∷ os) → Stacked (record { line = m; opening = other; statements = [] } ∷ os)
    restacked [] h = absurd (no_body h)
    restacked (q ∷ qs) h = (no_other, h.1)

-- a block inside another ends
closes : (profile : ℕ) (ds : List Declaration) (fs : List Function) (e n m : ℕ) (op : Opening) (ss : List Statement) (os : List OpenBlock) (x : Action) (rs : List TreeLine)
    → action_lines (block_within (suc e)) m (out-Action x) ≡ opening_lines (suc e) m op ⊕ block_within (suc e) ss ⊕ mark phrase.End
    → ((os : List OpenBlock) → closed_by (begun profile ds fs (record { line = m; opening = op; statements = ss } ∷ os)) (record { line = m; opening = op; statements = ss }) op os ≡ added (at m x ∷ []) (begun profile ds fs os))
    → (kind_of op ≡ Body → ⊥)
    → Kept e (begun profile ds fs (record { line = m; opening = op; statements = ss } ∷ os)) rs → Stepped (begun profile ds fs (record { line = m; opening = op; statements = ss } ∷ os)) n phrase.End rs
closes profile ds fs e n m op ss [] x rs same steps no_body k = absurd (no_body k.stacked)
closes profile ds fs e n m op ss (q ∷ qs) x rs same steps no_body k = record {
  left = suc e;
  tree_line = tree_line_of phrase.End;
  said = (refl, tt);
  kept = subst (λ b. Kept (suc e) b (rs ++ tree_line_of phrase.End ∷ [])) (sym (steps (q ∷ qs))) (record {
    levels = omega (arith, k.levels);
    stacked = same_stack q (q.statements ++ at m x ∷ []) qs k.stacked.1;
    tree_lines = tree_line_more (begun_lines (suc e) (begun profile ds fs (record { line = m; opening = op; statements = ss } ∷ q ∷ qs))) (begun_lines (suc (suc e)) (added (at m x ∷ []) (begun profile ds fs (q ∷ qs)))) (tree_line_of phrase.End) rs
        (closed_lines profile ds fs e m op ss q qs x same) k.tree_lines;
  });
}

declares : (profile : ℕ) (ds : List Declaration) (fs : List Function) (os : List OpenBlock) (e n : ℕ) (name : Name) (object : _) (rs : List TreeLine)
    → Kept e (begun profile ds fs os) rs → misplaced (standing (begun profile ds fs os)) Declares ≡ None → Stepped (begun profile ds fs os) n (phrase.Declaration name object) rs
unfolding open_lines
declares profile ds [] [] e n name object rs k h =
    let p = phrase.Declaration name object in
    let d : Declaration = record { line = n; name = name; object = object } in
    let before = profile_lines profile in
    record {
      left = e;
      tree_line = tree_line_at n p;
      said = (refl, refl);
      kept = record {
        levels = k.levels;
        stacked = k.stacked;
        tree_lines = tree_line_more (begun_lines (suc e) (begun profile ds [] [])) (begun_lines (suc e) (begun profile (ds ++ d ∷ []) [] [])) (tree_line_at n p) rs
            (plus_none (before ⊕ each declaration_lines (ds ++ d ∷ []) ⊕ Some []) ∙ plus_none (before ⊕ each declaration_lines (ds ++ d ∷ [])) ∙ ap (λ w. before ⊕ w) (each_more declaration_lines ds d)
            ∙ sym (plus_assoc before (each declaration_lines ds) (line n p))
            ∙ ap (λ w. w ⊕ line n p) (sym (plus_none (before ⊕ each declaration_lines ds)) ∙ sym (plus_none (before ⊕ each declaration_lines ds ⊕ Some [])))) k.tree_lines;
      };
    }
declares profile ds [] (o ∷ os) e n name object rs k h = cc
declares profile ds (f ∷ fs) os e n name object rs k h = cc

-- the line of the profile, before any other
profiles : (profile : ℕ) (ds : List Declaration) (fs : List Function) (os : List OpenBlock) (e n named : ℕ) (ts : List Token) (rs : List TreeLine) → phrase_tokens (phrase.Profile named) ≡ Some ts
    → Kept e (begun profile ds fs os) rs → misplaced (standing (begun profile ds fs os)) Profiles ≡ None → Stepped (begun profile ds fs os) n (phrase.Profile named) rs
unfolding open_lines
profiles profile [] [] [] e n named ts rs w k h = by_first (profile == 1) k.tree_lines h
  where
    no_lines : (let w : Written TreeLine = Some [] in w) ≡ Some rs → (profile_lines named ⊕ Some [] ⊕ Some [] ⊕ Some []) ≡ Some (rs ++ tree_line_of (phrase.Profile named) ∷ [])
    no_lines e = let other : (named == 1) ≡ false = later_profile named ts w in rw other (ap (λ w. w ⊕ Some (tree_line_of (phrase.Profile named) ∷ [])) e)

    by_first : (first : Bool) → ((if first then Some [] else mark (phrase.Profile profile)) ⊕ Some [] ⊕ Some [] ⊕ Some []) ≡ Some rs
        → (let r : Option TextReason = if not first then Some reason.LineOutOfPlace else None in r) ≡ None → Stepped (begun profile [] [] []) n (phrase.Profile named) rs
    by_first true tree_lines h = record { left = e; tree_line = tree_line_of (phrase.Profile named); said = (refl, tt); kept = record { levels = k.levels; stacked = tt; tree_lines = no_lines tree_lines } }
    by_first false tree_lines h = cc
profiles profile (d ∷ ds) [] [] e n named ts rs w k h = cc
profiles profile ds [] (o ∷ os) e n named ts rs w k h = cc
profiles profile ds (f ∷ fs) os e n named ts rs w k h = cc

defines : (profile : ℕ) (ds : List Declaration) (fs : List Function) (os : List OpenBlock) (e n : ℕ) (is_raw : Bool) (name : Name) (ps : List Name) (rs : List TreeLine)
    → Kept e (begun profile ds fs os) rs → misplaced (standing (begun profile ds fs os)) Defines ≡ None → Stepped (begun profile ds fs os) n (phrase.Function is_raw name ps) rs
defines profile ds fs [] zero n is_raw name ps rs k h = absurd (omega (arith, k.levels))
defines profile ds fs [] (suc e) n is_raw name ps rs k h =
    let p = phrase.Function is_raw name ps in
    let op = opening.Function is_raw name ps in
    record {
      left = e;
      tree_line = tree_line_at n p;
      said = (refl, refl);
      kept = record {
        levels = omega (arith, k.levels);
        stacked = refl;
        tree_lines = tree_line_more (begun_lines (suc (suc e)) (begun profile ds fs [])) (begun_lines (suc e) (opened n op (begun profile ds fs []))) (tree_line_at n p) rs (inside_lines profile ds fs e [] n op p refl) k.tree_lines;
      };
    }
defines profile ds fs (o ∷ os) e n is_raw name ps rs k h = cc

-- `else` behind the first part of an `if`
parts_here : (profile : ℕ) (ds : List Declaration) (fs : List Function) (e n m : ℕ) (op : Opening) (ss : List Statement) (os : List OpenBlock) (rs : List TreeLine)
    → Kept e (begun profile ds fs (record { line = m; opening = op; statements = ss } ∷ os)) rs
    → misplaced (standing (begun profile ds fs (record { line = m; opening = op; statements = ss } ∷ os))) Parts ≡ None
    → Stepped (begun profile ds fs (record { line = m; opening = op; statements = ss } ∷ os)) n phrase.Else rs
parts_here profile ds fs e n m (opening.If x) ss os rs k h =
    parts profile ds fs e n (opening.If x) (opening.Else x ss) m ss os phrase.Else (tree_line_of phrase.Else) rs refl (refl, tt) refl (λ b. cc) (λ b. cc) k
parts_here profile ds fs e n m (opening.Function is_raw name ps) ss os rs k h = cc
parts_here profile ds fs e n m (opening.Else x then_part) ss os rs k h = cc
parts_here profile ds fs e n m (opening.While x) ss os rs k h = cc
parts_here profile ds fs e n m opening.Try ss os rs k h = cc
parts_here profile ds fs e n m (opening.Except tried es l c target) ss os rs k h = cc
parts_here profile ds fs e n m (opening.Finally tried es) ss os rs k h = cc
parts_here profile ds fs e n m (opening.Timeout t silent) ss os rs k h = cc

-- an except or a finally, behind the body of a try and behind an except
first_handler : (x y l : Written TreeLine) → x ⊕ y ⊕ Some [] ⊕ l ≡ x ⊕ y ⊕ l
first_handler x y l = ap (λ w. w ⊕ l) (plus_none (x ⊕ y))

next_handler : (e n : ℕ) (tried : List Statement) (es : List Except) (m : ℕ) (c : Class) (target : Option Name) (ss : List Statement) (l : Written TreeLine)
    → line n phrase.Try ⊕ block_within e tried ⊕ each (except_lines (block_within e)) (es ++ caught m c target ss ∷ []) ⊕ l
    ≡ opening_lines e n (opening.Except tried es m c target) ⊕ block_within e ss ⊕ l
next_handler e n tried es m c target ss l =
    let start = line n phrase.Try ⊕ block_within e tried in
    ap (λ w. start ⊕ w ⊕ l) (caught_more e es m c target ss) ∙ regrouped start (each (except_lines (block_within e)) es) (line m (phrase.Except c target)) (block_within e ss) l
  where
    regrouped : (x y p s l : Written TreeLine) → x ⊕ (y ⊕ (p ⊕ s)) ⊕ l ≡ x ⊕ y ⊕ p ⊕ s ⊕ l
    regrouped x y p s l = simp plus_assoc

catches_here : (profile : ℕ) (ds : List Declaration) (fs : List Function) (e n m : ℕ) (op : Opening) (ss : List Statement) (os : List OpenBlock) (c : Class) (target : Option Name) (rs : List TreeLine)
    → Kept e (begun profile ds fs (record { line = m; opening = op; statements = ss } ∷ os)) rs
    → misplaced (standing (begun profile ds fs (record { line = m; opening = op; statements = ss } ∷ os))) Catches ≡ None
    → Stepped (begun profile ds fs (record { line = m; opening = op; statements = ss } ∷ os)) n (phrase.Except c target) rs
catches_here profile ds fs e n m opening.Try ss os c target rs k h =
    parts profile ds fs e n opening.Try (opening.Except ss [] n c target) m ss os (phrase.Except c target) (tree_line_at n (phrase.Except c target)) rs
    (first_handler (line m phrase.Try) (block_within (suc e) ss) (line n (phrase.Except c target))) (refl, refl) refl (λ b. cc) (λ b. cc) k
catches_here profile ds fs e n m (opening.Except tried es l d other) ss os c target rs k h =
    parts profile ds fs e n (opening.Except tried es l d other) (opening.Except tried (es ++ caught l d other ss ∷ []) n c target) m ss os (phrase.Except c target) (tree_line_at n (phrase.Except c target)) rs
    (next_handler (suc e) m tried es l d other ss (line n (phrase.Except c target))) (refl, refl) refl (λ b. cc) (λ b. cc) k
catches_here profile ds fs e n m (opening.Function is_raw name ps) ss os c target rs k h = cc
catches_here profile ds fs e n m (opening.If x) ss os c target rs k h = cc
catches_here profile ds fs e n m (opening.Else x then_part) ss os c target rs k h = cc
catches_here profile ds fs e n m (opening.While x) ss os c target rs k h = cc
catches_here profile ds fs e n m (opening.Finally tried es) ss os c target rs k h = cc
catches_here profile ds fs e n m (opening.Timeout t silent) ss os c target rs k h = cc

finishes_here : (profile : ℕ) (ds : List Declaration) (fs : List Function) (e n m : ℕ) (op : Opening) (ss : List Statement) (os : List OpenBlock) (rs : List TreeLine)
    → Kept e (begun profile ds fs (record { line = m; opening = op; statements = ss } ∷ os)) rs
    → misplaced (standing (begun profile ds fs (record { line = m; opening = op; statements = ss } ∷ os))) Finishes ≡ None
    → Stepped (begun profile ds fs (record { line = m; opening = op; statements = ss } ∷ os)) n phrase.Finally rs
finishes_here profile ds fs e n m opening.Try ss os rs k h =
    parts profile ds fs e n opening.Try (opening.Finally ss []) m ss os phrase.Finally (tree_line_of phrase.Finally) rs
    (first_handler (line m phrase.Try) (block_within (suc e) ss) (mark phrase.Finally)) (refl, tt) refl (λ b. cc) (λ b. cc) k
finishes_here profile ds fs e n m (opening.Except tried es l d other) ss os rs k h =
    parts profile ds fs e n (opening.Except tried es l d other) (opening.Finally tried (es ++ caught l d other ss ∷ [])) m ss os phrase.Finally (tree_line_of phrase.Finally) rs
    (next_handler (suc e) m tried es l d other ss (mark phrase.Finally)) (refl, tt) refl (λ b. cc) (λ b. cc) k
finishes_here profile ds fs e n m (opening.Function is_raw name ps) ss os rs k h = cc
finishes_here profile ds fs e n m (opening.If x) ss os rs k h = cc
finishes_here profile ds fs e n m (opening.Else x then_part) ss os rs k h = cc
finishes_here profile ds fs e n m (opening.While x) ss os rs k h = cc
finishes_here profile ds fs e n m (opening.Finally tried es) ss os rs k h = cc
finishes_here profile ds fs e n m (opening.Timeout t silent) ss os rs k h = cc

function_ends : (profile : ℕ) (ds : List Declaration) (fs : List Function) (e n m : ℕ) (is_raw : Bool) (name : Name) (ps : List Name) (ss : List Statement) (rs : List TreeLine)
    → Kept e (begun profile ds fs (record { line = m; opening = opening.Function is_raw name ps; statements = ss } ∷ [])) rs
    → Stepped (begun profile ds fs (record { line = m; opening = opening.Function is_raw name ps; statements = ss } ∷ [])) n phrase.End rs
function_ends profile ds fs e n m is_raw name ps ss rs k =
    let top : e ≡ 31 = omega (arith, k.levels) in
    let b = begun profile ds fs (record { line = m; opening = opening.Function is_raw name ps; statements = ss } ∷ []) in
    let kept = subst (λ e. Kept e b rs) top k in
    record {
      left = MOST_LEVELS;
      tree_line = tree_line_of phrase.End;
      said = (refl, tt);
      kept = record { levels = refl; stacked = tt; tree_lines = tree_line_more (begun_lines MOST_LEVELS b) (begun_lines (suc MOST_LEVELS) (step b n phrase.End)) (tree_line_of phrase.End) rs (function_closed profile ds fs m is_raw name ps ss) kept.tree_lines };
    }

ends_here : (profile : ℕ) (ds : List Declaration) (fs : List Function) (e n m : ℕ) (op : Opening) (ss : List Statement) (os : List OpenBlock) (rs : List TreeLine)
    → Kept e (begun profile ds fs (record { line = m; opening = op; statements = ss } ∷ os)) rs
    → misplaced (standing (begun profile ds fs (record { line = m; opening = op; statements = ss } ∷ os))) Ends ≡ None
    → Stepped (begun profile ds fs (record { line = m; opening = op; statements = ss } ∷ os)) n phrase.End rs
ends_here profile ds fs e n m (opening.Function is_raw name ps) ss [] rs k h = function_ends profile ds fs e n m is_raw name ps ss rs k
ends_here profile ds fs e n m (opening.Function is_raw name ps) ss (q ∷ qs) rs k h = absurd (k.stacked.0 refl)
ends_here profile ds fs e n m (opening.If x) ss os rs k h = closes profile ds fs e n m (opening.If x) ss os (a.If x ss None) rs (if_closed (suc e) m x ss) (λ os. refl) (λ b. cc) k
ends_here profile ds fs e n m (opening.Else x then_part) ss os rs k h = closes profile ds fs e n m (opening.Else x then_part) ss os (a.If x then_part (Some ss)) rs (else_closed (suc e) m x then_part ss) (λ os. refl) (λ b. cc) k
ends_here profile ds fs e n m (opening.While x) ss os rs k h = closes profile ds fs e n m (opening.While x) ss os (a.While x ss) rs (while_closed (suc e) m x ss) (λ os. refl) (λ b. cc) k
ends_here profile ds fs e n m opening.Try ss os rs k h = cc
ends_here profile ds fs e n m (opening.Except tried es l d other) ss os rs k h =
    closes profile ds fs e n m (opening.Except tried es l d other) ss os (a.Try tried (es ++ caught l d other ss ∷ []) None) rs (except_closed (suc e) m tried es l d other ss) (λ os. refl) (λ b. cc) k
ends_here profile ds fs e n m (opening.Finally tried es) ss os rs k h =
    closes profile ds fs e n m (opening.Finally tried es) ss os (a.Try tried es (Some ss)) rs (finally_closed (suc e) m tried es ss) (λ os. refl) (λ b. cc) k
ends_here profile ds fs e n m (opening.Timeout t silent) ss os rs k h = closes profile ds fs e n m (opening.Timeout t silent) ss os (a.Timeout t silent ss) rs (timeout_closed (suc e) m t silent ss) (λ os. refl) (λ b. cc) k

-- one line more, in its place
pub steps : (b : Building) (e n : ℕ) (p : Phrase) (ts : List Token) (rs : List TreeLine) → phrase_tokens p ≡ Some ts → Kept e b rs → misplaced (standing b) (role p) ≡ None → Stepped b n p rs
steps b e n (phrase.Profile named) ts rs w k h = profiles b.profile b.objects b.functions b.open_blocks e n named ts rs w k h
steps b e n (phrase.Declaration name object) ts rs w k h = declares b.profile b.objects b.functions b.open_blocks e n name object rs k h
steps b e n (phrase.Function is_raw name ps) ts rs w k h = defines b.profile b.objects b.functions b.open_blocks e n is_raw name ps rs k h
steps b e n (phrase.Command c) ts rs w k h = states b.profile b.objects b.functions b.open_blocks e n (phrase.Command c) (a.Command c) rs (command_lines c e n) refl k h
steps b e n (phrase.Giving t g) ts rs w k h = states b.profile b.objects b.functions b.open_blocks e n (phrase.Giving t g) (a.Giving t g) rs (giving_lines t g e n) refl k h
steps b e n (phrase.If x) ts rs w k h = opens b.profile b.objects b.functions b.open_blocks e n (phrase.If x) (opening.If x) rs (λ d. refl) refl (λ b. cc) k h
steps b e n (phrase.While x) ts rs w k h = opens b.profile b.objects b.functions b.open_blocks e n (phrase.While x) (opening.While x) rs (λ d. refl) refl (λ b. cc) k h
steps b e n phrase.Try ts rs w k h = opens b.profile b.objects b.functions b.open_blocks e n phrase.Try opening.Try rs (λ d. refl) refl (λ b. cc) k h
steps b e n (phrase.Timeout t silent) ts rs w k h = opens b.profile b.objects b.functions b.open_blocks e n (phrase.Timeout t silent) (opening.Timeout t silent) rs (λ d. refl) refl (λ b. cc) k h
steps b e n phrase.Else ts rs w k h = in_block b.open_blocks k h
  where
    in_block : (os : List OpenBlock) → Kept e (begun b.profile b.objects b.functions os) rs → misplaced (standing (begun b.profile b.objects b.functions os)) Parts ≡ None → Stepped (begun b.profile b.objects b.functions os) n phrase.Else rs
    in_block [] k h = cc
    in_block (o ∷ os) k h = parts_here b.profile b.objects b.functions e n o.line o.opening o.statements os rs k h
steps b e n (phrase.Except c t) ts rs w k h = in_block b.open_blocks k h
  where
    in_block : (os : List OpenBlock) → Kept e (begun b.profile b.objects b.functions os) rs → misplaced (standing (begun b.profile b.objects b.functions os)) Catches ≡ None → Stepped (begun b.profile b.objects b.functions os) n (phrase.Except c t) rs
    in_block [] k h = cc
    in_block (o ∷ os) k h = catches_here b.profile b.objects b.functions e n o.line o.opening o.statements os c t rs k h
steps b e n phrase.Finally ts rs w k h = in_block b.open_blocks k h
  where
    in_block : (os : List OpenBlock) → Kept e (begun b.profile b.objects b.functions os) rs → misplaced (standing (begun b.profile b.objects b.functions os)) Finishes ≡ None → Stepped (begun b.profile b.objects b.functions os) n phrase.Finally rs
    in_block [] k h = cc
    in_block (o ∷ os) k h = finishes_here b.profile b.objects b.functions e n o.line o.opening o.statements os rs k h
steps b e n phrase.End ts rs w k h = in_block b.open_blocks k h
  where
    in_block : (os : List OpenBlock) → Kept e (begun b.profile b.objects b.functions os) rs → misplaced (standing (begun b.profile b.objects b.functions os)) Ends ≡ None → Stepped (begun b.profile b.objects b.functions os) n phrase.End rs
    in_block [] k h = cc
    in_block (o ∷ os) k h = ends_here b.profile b.objects b.functions e n o.line o.opening o.statements os rs k h
