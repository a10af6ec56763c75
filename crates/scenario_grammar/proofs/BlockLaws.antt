-- The lines of a tree, followed one after another from nothing, make the tree.
use Rattle.std.proofs.Common.{◌≡◌, ℕ, zero, suc, ◌+◌, ◌<◌, true, false, List, [], ◌∷◌, ◌++◌, length, map, Option, Some, None, IfSome, refl, sym, ap, subst, ◌∙◌, append_assoc, append-nil, arith}
use Rattle.std.proofs.lemmas.List.{length-map}
use Rattle.std.proofs.lemmas.Bool.{lt-leb}
use Rattle.gv_values.specs.declared.fault.Class.{Class}
use Rattle.scenario_tree.specs.declared.tree.Expression.{Expression}
use Rattle.scenario_tree.specs.declared.tree.Action.{Action, Action-F, out-Action, roll-Action, roll-out-Action}
use Rattle.scenario_tree.specs.declared.tree.Action.TheVariants as a
use Rattle.scenario_tree.specs.declared.tree.Action.TheViews as v
use Rattle.scenario_tree.specs.declared.tree.Except.{Except, out-Except, roll-out-Except}
use Rattle.scenario_tree.specs.declared.tree.Statement.{Statement}
use Rattle.scenario_grammar.specs.declared.phrase.Phrase.{Phrase}
use Rattle.scenario_grammar.specs.declared.phrase.Phrase.TheVariants as phrase
use Rattle.scenario_grammar.specs.declared.building.OpenBlock.{OpenBlock}
use Rattle.scenario_grammar.specs.declared.building.Opening.{Opening}
use Rattle.scenario_grammar.specs.declared.building.Opening.TheVariants as opening
use Rattle.scenario_grammar.specs.Token.{Written, ◌⊕◌, each}
use Rattle.scenario_grammar.specs.Blocks.{TreeLine, line, mark, statement_lines, action_lines, block_within, except_lines}
use Rattle.scenario_grammar.specs.Building.{Building, at, opened, added, changed, else_of, except_by, finally_by, caught, ended, step}
use Rattle.scenario_grammar.specs.Parsed.{standing, kind_of}
use Rattle.scenario_grammar.specs.Place.{Then, Catching, States, Opens, Parts, Catches, Finishes, Ends, misplaced, is_try, is_trying}
use Rattle.scenario_grammar.proofs.Parts.{both}
use Rattle.scenario_grammar.proofs.PhraseLaws.{role}
use Rattle.scenario_grammar.specs.declared.reason.TextReason.{TextReason}
use Rattle.scenario_grammar.specs.declared.limits.TheConstants.{MOST_LEVELS}

-- The lines in turn, each in its place: what they make, none where one is out of place.
unfoldable pub follow : Building → List (ℕ × Phrase) → Option Building
follow b [] = Some b
follow b (l ∷ ls) = elim (misplaced (standing b) (role l.1)) [ Some r ↦ None | None ↦ follow (step b l.0 l.1) ls ]

abbrev pub Said : ℕ × Phrase → TreeLine → Type 0
Said l r = (l.1 ≡ r.says) × IfSome r.at (λ n. l.0 ≡ n)

-- the lines say what the tree_lines say
abbrev pub AreSaid : List (ℕ × Phrase) → List TreeLine → Type 0
AreSaid [] [] = Unit {0}
AreSaid [] (r ∷ rs) = ⊥
AreSaid (l ∷ ls) [] = ⊥
AreSaid (l ∷ ls) (r ∷ rs) = Said l r × AreSaid ls rs

further : (m : Option TextReason) (x y : Option Building) (c d : Building) → (x ≡ Some c → y ≡ Some d) → (let r : Option Building = elim m [ Some r ↦ None | None ↦ x ] in r) ≡ Some c
    → (let r : Option Building = elim m [ Some r ↦ None | None ↦ y ] in r) ≡ Some d
further None x y c d more e = more e
further (Some r) x y c d more e = cc

placed : (m : Option TextReason) (x : Option Building) → m ≡ None → (let r : Option Building = elim m [ Some r ↦ None | None ↦ x ] in r) ≡ x
placed None x e = refl
placed (Some r) x e = cc

pub follow_one : (b : Building) (n : ℕ) (p : Phrase) (ls : List (ℕ × Phrase)) → misplaced (standing b) (role p) ≡ None → follow b ((n, p) ∷ ls) ≡ follow (step b n p) ls
unfolding follow
follow_one b n p ls h = placed (misplaced (standing b) (role p)) (follow (step b n p) ls) h

pub follow_then : (b c d : Building) (ls ms : List (ℕ × Phrase)) → follow b ls ≡ Some c → follow c ms ≡ Some d → follow b (ls ++ ms) ≡ Some d
unfolding follow
follow_then b c d [] ms e f = let same : b ≡ c = cc in rw same f
follow_then b c d (l ∷ ls) ms e f =
    further (misplaced (standing b) (role l.1)) (follow (step b l.0 l.1) ls) (follow (step b l.0 l.1) (ls ++ ms)) c d (λ g. follow_then (step b l.0 l.1) c d ls ms g f) e

record Split (ls : List (ℕ × Phrase)) (rs ss : List TreeLine) : Type 0 where
  first : List (ℕ × Phrase)
  second : List (ℕ × Phrase)
  whole : first ++ second ≡ ls
  said_first : AreSaid first rs
  said_second : AreSaid second ss

-- the lines of two parts are those of the one and then those of the other
split : (ls : List (ℕ × Phrase)) (rs ss : List TreeLine) → AreSaid ls (rs ++ ss) → Split ls rs ss
split ls [] ss s = record { first = []; second = ls; whole = refl; said_first = tt; said_second = s }
split [] (r ∷ rs) ss s = absurd s
split (l ∷ ls) (r ∷ rs) ss s =
    let below = split ls rs ss s.1 in
    record { first = l ∷ below.first; second = below.second; whole = ap (λ z. l ∷ z) below.whole; said_first = (s.0, below.said_first); said_second = below.said_second }

-- a part of a tree, written as these tree_lines, makes this of a tree that is begun
abbrev pub Makes : Written TreeLine → (Building → Type 0) → (Building → Building) → Type 0
Makes tree_lines Where change = (rs : List TreeLine) (ls : List (ℕ × Phrase)) (b : Building) → tree_lines ≡ Some rs → AreSaid ls rs → Where b → follow b ls ≡ Some (change b)

-- one part after another
pub then_makes : (r s : Written TreeLine) (P Q : Building → Type 0) (f g : Building → Building) → Makes r P f → Makes s Q g → ((b : Building) → P b → Q (f b)) → Makes (r ⊕ s) P (λ b. g (f b))
then_makes r s P Q f g first second meets rs ls b w said p =
    let parts = both r s rs w in
    let lines = split ls parts.0 parts.1 (subst (λ z. AreSaid ls z) (sym parts.4) said) in
    rw (sym lines.whole)
    (follow_then b (f b) (g (f b)) lines.first lines.second (first parts.0 lines.first b parts.2 lines.said_first p) (second parts.1 lines.second (f b) parts.3 lines.said_second (meets b p)))

record One (ls : List (ℕ × Phrase)) (r : TreeLine) : Type 0 where
  number : ℕ
  phrase : Phrase
  whole : ls ≡ (number, phrase) ∷ []
  said : phrase ≡ r.says
  at : IfSome r.at (λ n. number ≡ n)

one : (ls : List (ℕ × Phrase)) (r : TreeLine) → AreSaid ls (r ∷ []) → One ls r
one [] r s = absurd s
one (l ∷ []) r s = record { number = l.0; phrase = l.1; whole = refl; said = s.0.0; at = s.0.1 }
one (l ∷ m ∷ ls) r s = absurd s.1

the_tree_lines : (r : TreeLine) (rs : List TreeLine) → (let w : Written TreeLine = Some (r ∷ []) in w) ≡ Some rs → rs ≡ r ∷ []
the_tree_lines r rs w = cc

-- one line, in its place
pub line_makes : (n : ℕ) (p : Phrase) (P : Building → Type 0) → ((b : Building) → P b → misplaced (standing b) (role p) ≡ None) → Makes (line n p) P (λ b. step b n p)
unfolding follow
line_makes n p P placed rs ls b w said h =
    let r : TreeLine = record { at = Some n; says = p } in
    let o = one ls r (subst (λ z. AreSaid ls z) (the_tree_lines r rs w) said) in
    rw (o.whole, o.said, o.at) (follow_one b n p [] (placed b h))

pub mark_makes : (p : Phrase) (P : Building → Type 0) (change : Building → Building) → ((b : Building) → P b → misplaced (standing b) (role p) ≡ None) → ((b : Building) (n : ℕ) → step b n p ≡ change b) → Makes (mark p) P change
unfolding follow
mark_makes p P change placed same rs ls b w said h =
    let r : TreeLine = record { at = None; says = p } in
    let o = one ls r (subst (λ z. AreSaid ls z) (the_tree_lines r rs w) said) in
    rw (o.whole, o.said) (follow_one b o.number p [] (placed b h) ∙ ap (λ c. let x : Option Building = Some c in x) (same b o.number))

pub makes_as : (r : Written TreeLine) (P : Building → Type 0) (f g : Building → Building) → Makes r P f → ((b : Building) → P b → f b ≡ g b) → Makes r P g
makes_as r P f g makes same rs ls b w said h = makes rs ls b w said h ∙ ap (λ c. let x : Option Building = Some c in x) (same b h)

pub none_makes : (P : Building → Type 0) → Makes (Some []) P (λ b. b)
unfolding follow
none_makes P [] [] b w said h = refl
none_makes P [] (l ∷ ls) b w said h = absurd said
none_makes P (r ∷ rs) ls b w said h = cc

none_list : (os : List OpenBlock) → os ≡ elim os [ [] ↦ [] | o ∷ rest ↦ record o { statements = o.statements ++ [] } ∷ rest ]
none_list [] = refl
none_list (o ∷ os) = λ i. record o { statements = sym (append-nil o.statements) i } ∷ os

more_list : (s : Statement) (ss : List Statement) (os : List OpenBlock)
    → (added ss (added (s ∷ []) (record { profile = 1; objects = []; functions = []; open_blocks = os }))).open_blocks ≡ (added (s ∷ ss) (record { profile = 1; objects = []; functions = []; open_blocks = os })).open_blocks
more_list s ss [] = refl
more_list s ss (o ∷ os) = λ i. record o { statements = append_assoc o.statements (s ∷ []) ss i } ∷ os

-- The innermost block is of this kind, and may have so many levels, its own too.
pub record Inside (d : ℕ) (P : Opening → Type 0) (b : Building) : Type 0 where
  pub inner : OpenBlock
  pub outer : List OpenBlock
  pub is : b.open_blocks ≡ inner ∷ outer
  pub kind : P inner.opening
  pub levels : length outer + d ≡ MOST_LEVELS

abbrev pub Anyway : Opening → Type 0
Anyway o = Unit {0}

abbrev IsThen : Opening → Type 0
IsThen o = kind_of o ≡ Then

abbrev IsTry : Opening → Type 0
IsTry o = is_try (kind_of o) ≡ true

abbrev IsCatching : Opening → Type 0
IsCatching o = kind_of o ≡ Catching

-- an end may stand here
abbrev pub IsEnding : Opening → Type 0
IsEnding o = is_trying (kind_of o) ≡ false

states_here : (d : ℕ) (P : Opening → Type 0) (b : Building) → Inside d P b → misplaced (standing b) States ≡ None
states_here d P b h = rw h.is refl

opens_here : (d : ℕ) (P : Opening → Type 0) (b : Building) → Inside (suc (suc d)) P b → misplaced (standing b) Opens ≡ None
opens_here d P b h =
    let many : length (map (λ (o : OpenBlock). kind_of o.opening) b.open_blocks) < MOST_LEVELS = omega (arith, length-map b.open_blocks (λ (o : OpenBlock). kind_of o.opening), ap length h.is, h.levels) in
    let room = lt-leb MOST_LEVELS (length (map (λ (o : OpenBlock). kind_of o.opening) b.open_blocks)) many in
    rw (room, h.is) refl

ends_here : (d : ℕ) (b : Building) → Inside d IsEnding b → misplaced (standing b) Ends ≡ None
ends_here d b h = rw (h.is, h.kind) refl

parts_here : (d : ℕ) (b : Building) → Inside d IsThen b → misplaced (standing b) Parts ≡ None
parts_here d b h = rw (h.is, h.kind) refl

catches_here : (d : ℕ) (b : Building) → Inside d IsTry b → misplaced (standing b) Catches ≡ None
catches_here d b h = rw (h.is, h.kind) refl

finishes_here : (d : ℕ) (b : Building) → Inside d IsTry b → misplaced (standing b) Finishes ≡ None
finishes_here d b h = rw (h.is, h.kind) refl

-- one more block
within_one : (d : ℕ) (P Q : Opening → Type 0) (b c : Building) (o : OpenBlock) → Inside (suc d) Q b → c.open_blocks ≡ o ∷ b.open_blocks → P o.opening → Inside d P c
within_one d P Q b c o h e p = record { inner = o; outer = b.open_blocks; is = e; kind = p; levels = omega (arith, ap length h.is, h.levels) }

-- the innermost block becomes another
turned : (d : ℕ) (P Q : Opening → Type 0) (f : OpenBlock → OpenBlock) (b : Building) → ((o : OpenBlock) → P o.opening → Q (f o).opening) → Inside d P b → Inside d Q (changed f b)
turned d P Q f b turns h = record { inner = f h.inner; outer = h.outer; is = rw h.is refl; kind = turns h.inner h.kind; levels = h.levels }

filled : (d : ℕ) (P : Opening → Type 0) (ss : List Statement) (b : Building) → Inside d P b → Inside d P (added ss b)
filled d P ss b h = record { inner = record h.inner { statements = h.inner.statements ++ ss }; outer = h.outer; is = rw h.is refl; kind = h.kind; levels = h.levels }

as_try : (d : ℕ) (b : Building) → Inside d IsCatching b → Inside d IsTry b
as_try d b h = record { inner = h.inner; outer = h.outer; is = h.is; kind = rw h.kind refl; levels = h.levels }

as_ending : (d : ℕ) (b : Building) → Inside d IsCatching b → Inside d IsEnding b
as_ending d b h = record { inner = h.inner; outer = h.outer; is = h.is; kind = rw h.kind refl; levels = h.levels }

added_none : (d : ℕ) (b : Building) → Inside d Anyway b → b ≡ added [] b
added_none d b h = λ i. record { profile = b.profile; objects = b.objects; functions = b.functions; open_blocks = none_list b.open_blocks i }

added_more : (d : ℕ) (s : Statement) (ss : List Statement) (b : Building) → Inside d Anyway b → added ss (added (s ∷ []) b) ≡ added (s ∷ ss) b
added_more d s ss b h = λ i. record { profile = b.profile; objects = b.objects; functions = b.functions; open_blocks = more_list s ss b.open_blocks i }

abbrev pub BlockMakes : ℕ → Type 0
BlockMakes d = (ss : List Statement) → Makes (block_within d ss) (Inside d Anyway) (added ss)

-- a line that opens a block, and the block
opening_makes : (d : ℕ) → BlockMakes d → (n : ℕ) (p : Phrase) (o : Opening) (ss : List Statement) → ((b : Building) → step b n p ≡ opened n o b) → role p ≡ Opens
    → Makes (line n p ⊕ block_within d ss) (Inside (suc d) Anyway) (λ b. added ss (opened n o b))
unfolding block_within
opening_makes zero block n p o ss same opens rs ls b w said h = cc
opening_makes (suc d) block n p o ss same opens rs ls b w said h =
    then_makes (line n p) (block_within (suc d) ss) (Inside (suc (suc d)) Anyway) (Inside (suc d) Anyway) (λ b. opened n o b) (added ss)
    (makes_as (line n p) (Inside (suc (suc d)) Anyway) (λ b. step b n p) (λ b. opened n o b)
    (line_makes n p (Inside (suc (suc d)) Anyway) (λ b h. rw opens (opens_here d Anyway b h))) (λ b h. same b)) (block ss)
    (λ b h. within_one (suc d) Anyway Anyway b (opened n o b) (record { line = n; opening = o; statements = [] }) h refl tt) rs ls b w said h

pub end_makes : (d : ℕ) → Makes (mark phrase.End) (Inside d IsEnding) ended
end_makes d = mark_makes phrase.End (Inside d IsEnding) ended (ends_here d) (λ b m. refl)

-- a block of one part
block_makes_one : (d : ℕ) → BlockMakes d → (n : ℕ) (p : Phrase) (o : Opening) (ss : List Statement) → ((b : Building) → step b n p ≡ opened n o b) → role p ≡ Opens → IsEnding o
    → Makes (line n p ⊕ block_within d ss ⊕ mark phrase.End) (Inside (suc d) Anyway) (λ b. ended (added ss (opened n o b)))
block_makes_one d block n p o ss same opens ending =
    then_makes (line n p ⊕ block_within d ss) (mark phrase.End) (Inside (suc d) Anyway) (Inside d IsEnding) (λ b. added ss (opened n o b)) ended
    (opening_makes d block n p o ss same opens) (end_makes d)
    (λ b h. within_one d IsEnding Anyway b (added ss (opened n o b)) (record { line = n; opening = o; statements = ss }) h refl ending)

-- the excepts of a try, one after another
abbrev except_of : Except → OpenBlock → OpenBlock
except_of e o = let x = out-Except e in except_by x.line x.class x.name o o.opening

abbrev catch_all : List Except → Building → Building
catch_all [] b = b
catch_all (e ∷ es) b = catch_all es (added (out-Except e).body (changed (except_of e) b))

catches : (n : ℕ) (c : Class) (target : Option (List ℕ)) (block : OpenBlock) (o : Opening) → IsTry o → IsCatching (except_by n c target block o).opening
catches n c target block (opening.Function is_raw m ps) h = cc
catches n c target block (opening.If e) h = cc
catches n c target block (opening.Else e ss) h = cc
catches n c target block (opening.While e) h = cc
catches n c target block opening.Try h = refl
catches n c target block (opening.Except tried excepts m d other) h = refl
catches n c target block (opening.Finally tried excepts) h = cc
catches n c target block (opening.Timeout after silent) h = cc

except_turned : (d : ℕ) (e : Except) (b : Building) → Inside d IsTry b → Inside d IsCatching (added (out-Except e).body (changed (except_of e) b))
except_turned d e b h =
    let x = out-Except e in
    filled d IsCatching x.body (changed (except_of e) b) (turned d IsTry IsCatching (except_of e) b (λ o t. catches x.line x.class x.name o o.opening t) h)

except_makes : (d : ℕ) → BlockMakes d → (e : Except) → Makes (except_lines (block_within d) e) (Inside d IsTry) (λ b. added (out-Except e).body (changed (except_of e) b))
except_makes d block e =
    let x = out-Except e in
    then_makes (line x.line (phrase.Except x.class x.name)) (block_within d x.body) (Inside d IsTry) (Inside d Anyway) (changed (except_of e)) (added x.body)
    (line_makes x.line (phrase.Except x.class x.name) (Inside d IsTry) (catches_here d)) (block x.body)
    (λ b h. turned d IsTry Anyway (except_of e) b (λ o t. tt) h)

excepts_make : (d : ℕ) → BlockMakes d → (es : List Except) → Makes (each (except_lines (block_within d)) es) (Inside d IsTry) (catch_all es)
excepts_make d block [] = none_makes (Inside d IsTry)
excepts_make d block (e ∷ es) =
    then_makes (except_lines (block_within d) e) (each (except_lines (block_within d)) es) (Inside d IsTry) (Inside d IsTry) (λ b. added (out-Except e).body (changed (except_of e) b)) (catch_all es)
    (except_makes d block e) (excepts_make d block es) (λ b h. as_try d (added (out-Except e).body (changed (except_of e) b)) (except_turned d e b h))

still_catching : (d : ℕ) (es : List Except) (b : Building) → Inside d IsCatching b → Inside d IsCatching (catch_all es b)
still_catching d [] b h = h
still_catching d (e ∷ es) b h = still_catching d es (added (out-Except e).body (changed (except_of e) b)) (except_turned d e b (as_try d b h))

still_trying : (d : ℕ) (es : List Except) (b : Building) → Inside d IsTry b → Inside d IsTry (catch_all es b)
still_trying d [] b h = h
still_trying d (e ∷ es) b h = as_try d (catch_all (e ∷ es) b) (still_catching d es (added (out-Except e).body (changed (except_of e) b)) (except_turned d e b h))

abbrev catching : ℕ → List Statement → List Except → ℕ → Class → Option (List ℕ) → List Statement → Building → Building
catching n body done m c target ss b = record b { open_blocks = record { line = n; opening = opening.Except body done m c target; statements = ss } ∷ b.open_blocks }

listed : (done : List Except) (f e : Except) (es : List Except) → (done ++ f ∷ []) ++ e ∷ es ≡ done ++ f ∷ e ∷ es
listed done f e es = append_assoc done (f ∷ []) (e ∷ es)

caught_all : (n : ℕ) (body : List Statement) (es done : List Except) (m : ℕ) (c : Class) (target : Option (List ℕ)) (ss : List Statement) (b : Building)
    → ended (catch_all es (catching n body done m c target ss b)) ≡ added (at n (a.Try body (done ++ caught m c target ss ∷ es) None) ∷ []) b
caught_all n body [] done m c target ss b = refl
caught_all n body (e ∷ es) done m c target ss b =
    let x = out-Except e in
    caught_all n body es (done ++ caught m c target ss ∷ []) x.line x.class x.name x.body b
    ∙ ap (λ f. added (at n (a.Try body ((done ++ caught m c target ss ∷ []) ++ f ∷ es) None) ∷ []) b) (roll-out-Except e)
    ∙ ap (λ z. added (at n (a.Try body z None) ∷ []) b) (listed done (caught m c target ss) e es)

caught_finally : (n : ℕ) (body fin : List Statement) (es done : List Except) (m : ℕ) (c : Class) (target : Option (List ℕ)) (ss : List Statement) (b : Building)
    → ended (added fin (changed (λ o. finally_by o o.opening) (catch_all es (catching n body done m c target ss b)))) ≡ added (at n (a.Try body (done ++ caught m c target ss ∷ es) (Some fin)) ∷ []) b
caught_finally n body fin [] done m c target ss b = refl
caught_finally n body fin (e ∷ es) done m c target ss b =
    let x = out-Except e in
    caught_finally n body fin es (done ++ caught m c target ss ∷ []) x.line x.class x.name x.body b
    ∙ ap (λ f. added (at n (a.Try body ((done ++ caught m c target ss ∷ []) ++ f ∷ es) (Some fin)) ∷ []) b) (roll-out-Except e)
    ∙ ap (λ z. added (at n (a.Try body z (Some fin)) ∷ []) b) (listed done (caught m c target ss) e es)

abbrev finally_of : OpenBlock → OpenBlock
finally_of o = finally_by o o.opening

finishes : (block : OpenBlock) (o : Opening) → IsTry o → IsEnding (finally_by block o).opening
finishes block (opening.Function is_raw m ps) h = cc
finishes block (opening.If e) h = cc
finishes block (opening.Else e ss) h = cc
finishes block (opening.While e) h = cc
finishes block opening.Try h = refl
finishes block (opening.Except tried excepts m d other) h = refl
finishes block (opening.Finally tried excepts) h = cc
finishes block (opening.Timeout after silent) h = cc

abbrev tried_lines : ℕ → ℕ → List Statement → List Except → Written TreeLine
tried_lines d n body es = line n phrase.Try ⊕ block_within d body ⊕ each (except_lines (block_within d)) es

tried : (d n : ℕ) (body : List Statement) (b : Building) → Inside (suc d) Anyway b → Inside d IsTry (added body (opened n opening.Try b))
tried d n body b h = within_one d IsTry Anyway b (added body (opened n opening.Try b)) (record { line = n; opening = opening.Try; statements = body }) h refl refl

tried_makes : (d : ℕ) → BlockMakes d → (n : ℕ) (body : List Statement) (es : List Except) → Makes (tried_lines d n body es) (Inside (suc d) Anyway) (λ b. catch_all es (added body (opened n opening.Try b)))
tried_makes d block n body es =
    then_makes (line n phrase.Try ⊕ block_within d body) (each (except_lines (block_within d)) es) (Inside (suc d) Anyway) (Inside d IsTry) (λ b. added body (opened n opening.Try b)) (catch_all es)
    (opening_makes d block n phrase.Try opening.Try body (λ b. refl) refl) (excepts_make d block es) (tried d n body)

abbrev finally_done : ℕ → List Statement → List Except → List Statement → Building → Building
finally_done n body es fin b = added fin (changed finally_of (catch_all es (added body (opened n opening.Try b))))

finally_ending : (d n : ℕ) (body : List Statement) (es : List Except) (fin : List Statement) (b : Building) → Inside (suc d) Anyway b → Inside d IsEnding (finally_done n body es fin b)
finally_ending d n body es fin b h =
    let here = still_trying d es (added body (opened n opening.Try b)) (tried d n body b h) in
    filled d IsEnding fin (changed finally_of (catch_all es (added body (opened n opening.Try b)))) (turned d IsTry IsEnding finally_of (catch_all es (added body (opened n opening.Try b))) (λ o t. finishes o o.opening t) here)

finally_makes : (d : ℕ) → BlockMakes d → (n : ℕ) (body : List Statement) (es : List Except) (fin : List Statement)
    → Makes (tried_lines d n body es ⊕ (mark phrase.Finally ⊕ block_within d fin) ⊕ mark phrase.End) (Inside (suc d) Anyway) (λ b. ended (finally_done n body es fin b))
finally_makes d block n body es fin =
    then_makes (tried_lines d n body es ⊕ (mark phrase.Finally ⊕ block_within d fin)) (mark phrase.End) (Inside (suc d) Anyway) (Inside d IsEnding) (finally_done n body es fin) ended
    (then_makes (tried_lines d n body es) (mark phrase.Finally ⊕ block_within d fin) (Inside (suc d) Anyway) (Inside d IsTry) (λ b. catch_all es (added body (opened n opening.Try b))) (λ b. added fin (changed finally_of b))
    (tried_makes d block n body es)
    (then_makes (mark phrase.Finally) (block_within d fin) (Inside d IsTry) (Inside d Anyway) (changed finally_of) (added fin)
    (mark_makes phrase.Finally (Inside d IsTry) (changed finally_of) (finishes_here d) (λ b m. refl)) (block fin) (λ b h. turned d IsTry Anyway finally_of b (λ o t. tt) h))
    (λ b h. still_trying d es (added body (opened n opening.Try b)) (tried d n body b h)))
    (end_makes d) (finally_ending d n body es fin)

abbrev else_done : ℕ → Expression → List Statement → List Statement → Building → Building
else_done n e then_part else_part b = added else_part (changed else_of (added then_part (opened n (opening.If e) b)))

else_makes : (d : ℕ) → BlockMakes d → (n : ℕ) (e : Expression) (then_part else_part : List Statement)
    → Makes (line n (phrase.If e) ⊕ block_within d then_part ⊕ (mark phrase.Else ⊕ block_within d else_part) ⊕ mark phrase.End) (Inside (suc d) Anyway) (λ b. ended (else_done n e then_part else_part b))
else_makes d block n e then_part else_part =
    then_makes (line n (phrase.If e) ⊕ block_within d then_part ⊕ (mark phrase.Else ⊕ block_within d else_part)) (mark phrase.End) (Inside (suc d) Anyway) (Inside d IsEnding) (else_done n e then_part else_part) ended
    (then_makes (line n (phrase.If e) ⊕ block_within d then_part) (mark phrase.Else ⊕ block_within d else_part) (Inside (suc d) Anyway) (Inside d IsThen) (λ b. added then_part (opened n (opening.If e) b)) (λ b. added else_part (changed else_of b))
    (opening_makes d block n (phrase.If e) (opening.If e) then_part (λ b. refl) refl)
    (then_makes (mark phrase.Else) (block_within d else_part) (Inside d IsThen) (Inside d Anyway) (changed else_of) (added else_part)
    (mark_makes phrase.Else (Inside d IsThen) (changed else_of) (parts_here d) (λ b m. refl)) (block else_part) (λ b h. turned d IsThen Anyway else_of b (λ o t. tt) h))
    (λ b h. within_one d IsThen Anyway b (added then_part (opened n (opening.If e) b)) (record { line = n; opening = opening.If e; statements = then_part }) h refl refl))
    (end_makes d)
    (λ b h. within_one d IsEnding Anyway b (else_done n e then_part else_part b) (record { line = n; opening = opening.Else e then_part; statements = else_part }) h refl refl)

if_makes : (d : ℕ) → BlockMakes d → (n : ℕ) (e : Expression) (then_part : List Statement)
    → Makes (line n (phrase.If e) ⊕ block_within d then_part ⊕ Some [] ⊕ mark phrase.End) (Inside (suc d) Anyway) (λ b. ended (added then_part (opened n (opening.If e) b)))
if_makes d block n e then_part =
    then_makes (line n (phrase.If e) ⊕ block_within d then_part ⊕ Some []) (mark phrase.End) (Inside (suc d) Anyway) (Inside d IsEnding) (λ b. added then_part (opened n (opening.If e) b)) ended
    (then_makes (line n (phrase.If e) ⊕ block_within d then_part) (Some []) (Inside (suc d) Anyway) (λ b. Unit {0}) (λ b. added then_part (opened n (opening.If e) b)) (λ b. b)
    (opening_makes d block n (phrase.If e) (opening.If e) then_part (λ b. refl) refl) (none_makes (λ b. Unit {0})) (λ b h. tt))
    (end_makes d) (λ b h. within_one d IsEnding Anyway b (added then_part (opened n (opening.If e) b)) (record { line = n; opening = opening.If e; statements = then_part }) h refl refl)

caught_makes : (d : ℕ) → BlockMakes d → (n : ℕ) (body : List Statement) (e : Except) (es : List Except)
    → Makes (tried_lines d n body (e ∷ es) ⊕ Some [] ⊕ mark phrase.End) (Inside (suc d) Anyway) (λ b. ended (catch_all (e ∷ es) (added body (opened n opening.Try b))))
caught_makes d block n body e es =
    then_makes (tried_lines d n body (e ∷ es) ⊕ Some []) (mark phrase.End) (Inside (suc d) Anyway) (Inside d IsEnding) (λ b. catch_all (e ∷ es) (added body (opened n opening.Try b))) ended
    (then_makes (tried_lines d n body (e ∷ es)) (Some []) (Inside (suc d) Anyway) (λ b. Unit {0}) (λ b. catch_all (e ∷ es) (added body (opened n opening.Try b))) (λ b. b)
    (tried_makes d block n body (e ∷ es)) (none_makes (λ b. Unit {0})) (λ b h. tt))
    (end_makes d)
    (λ b h. let start = added body (opened n opening.Try b) in
    as_ending d (catch_all (e ∷ es) start) (still_catching d es (added (out-Except e).body (changed (except_of e) start)) (except_turned d e start (tried d n body b h))))

action_makes : (d : ℕ) → BlockMakes d → (n : ℕ) (x : Action-F Action Except Statement) → Makes (action_lines (block_within d) n x) (Inside (suc d) Anyway) (added (at n (roll-Action x) ∷ []))
action_makes d block n (Action-F.Command c) rs ls b w said h =
    makes_as (line n (phrase.Command c)) (Inside (suc d) Anyway) (λ b. step b n (phrase.Command c)) (added (at n (roll-Action (Action-F.Command c)) ∷ []))
    (line_makes n (phrase.Command c) (Inside (suc d) Anyway) (states_here (suc d) Anyway)) (λ b h. ap (λ x. added (at n x ∷ []) b) (sym (v.rolls-Command c))) rs ls b w said h
action_makes d block n (Action-F.Giving target g) rs ls b w said h =
    makes_as (line n (phrase.Giving target g)) (Inside (suc d) Anyway) (λ b. step b n (phrase.Giving target g)) (added (at n (roll-Action (Action-F.Giving target g)) ∷ []))
    (line_makes n (phrase.Giving target g) (Inside (suc d) Anyway) (states_here (suc d) Anyway)) (λ b h. ap (λ x. added (at n x ∷ []) b) (sym (v.rolls-Giving target g))) rs ls b w said h
action_makes d block n (Action-F.While e body) rs ls b w said h =
    makes_as (line n (phrase.While e) ⊕ block_within d body ⊕ mark phrase.End) (Inside (suc d) Anyway) (λ b. ended (added body (opened n (opening.While e) b))) (added (at n (roll-Action (Action-F.While e body)) ∷ []))
    (block_makes_one d block n (phrase.While e) (opening.While e) body (λ b. refl) refl refl)
    (λ b h. ap (λ x. added (at n x ∷ []) b) (sym (v.rolls-While e body))) rs ls b w said h
action_makes d block n (Action-F.Timeout after silent body) rs ls b w said h =
    makes_as (line n (phrase.Timeout after silent) ⊕ block_within d body ⊕ mark phrase.End) (Inside (suc d) Anyway) (λ b. ended (added body (opened n (opening.Timeout after silent) b))) (added (at n (roll-Action (Action-F.Timeout after silent body)) ∷ []))
    (block_makes_one d block n (phrase.Timeout after silent) (opening.Timeout after silent) body (λ b. refl) refl refl)
    (λ b h. ap (λ x. added (at n x ∷ []) b) (sym (v.rolls-Timeout after silent body))) rs ls b w said h
action_makes d block n (Action-F.If e then_part None) rs ls b w said h =
    makes_as (line n (phrase.If e) ⊕ block_within d then_part ⊕ Some [] ⊕ mark phrase.End) (Inside (suc d) Anyway) (λ b. ended (added then_part (opened n (opening.If e) b))) (added (at n (roll-Action (Action-F.If e then_part None)) ∷ []))
    (if_makes d block n e then_part) (λ b h. ap (λ x. added (at n x ∷ []) b) (sym (v.rolls-If e then_part None))) rs ls b w said h
action_makes d block n (Action-F.If e then_part (Some else_part)) rs ls b w said h =
    makes_as (line n (phrase.If e) ⊕ block_within d then_part ⊕ (mark phrase.Else ⊕ block_within d else_part) ⊕ mark phrase.End) (Inside (suc d) Anyway)
    (λ b. ended (else_done n e then_part else_part b)) (added (at n (roll-Action (Action-F.If e then_part (Some else_part))) ∷ []))
    (else_makes d block n e then_part else_part) (λ b h. ap (λ x. added (at n x ∷ []) b) (sym (v.rolls-If e then_part (Some else_part)))) rs ls b w said h
action_makes d block n (Action-F.Try body [] None) rs ls b w said h = cc
action_makes d block n (Action-F.Try body [] (Some fin)) rs ls b w said h =
    makes_as (tried_lines d n body [] ⊕ (mark phrase.Finally ⊕ block_within d fin) ⊕ mark phrase.End) (Inside (suc d) Anyway) (λ b. ended (finally_done n body [] fin b)) (added (at n (roll-Action (Action-F.Try body [] (Some fin))) ∷ []))
    (finally_makes d block n body [] fin) (λ b h. ap (λ x. added (at n x ∷ []) b) (sym (v.rolls-Try body [] (Some fin)))) rs ls b w said h
action_makes d block n (Action-F.Try body (e ∷ es) None) rs ls b w said h =
    makes_as (tried_lines d n body (e ∷ es) ⊕ Some [] ⊕ mark phrase.End) (Inside (suc d) Anyway) (λ b. ended (catch_all (e ∷ es) (added body (opened n opening.Try b)))) (added (at n (roll-Action (Action-F.Try body (e ∷ es) None)) ∷ []))
    (caught_makes d block n body e es)
    (λ b h. let x = out-Except e in
    caught_all n body es [] x.line x.class x.name x.body b ∙ ap (λ f. added (at n (a.Try body (f ∷ es) None) ∷ []) b) (roll-out-Except e)
    ∙ ap (λ y. added (at n y ∷ []) b) (sym (v.rolls-Try body (e ∷ es) None))) rs ls b w said h
action_makes d block n (Action-F.Try body (e ∷ es) (Some fin)) rs ls b w said h =
    makes_as (tried_lines d n body (e ∷ es) ⊕ (mark phrase.Finally ⊕ block_within d fin) ⊕ mark phrase.End) (Inside (suc d) Anyway)
    (λ b. ended (finally_done n body (e ∷ es) fin b)) (added (at n (roll-Action (Action-F.Try body (e ∷ es) (Some fin))) ∷ []))
    (finally_makes d block n body (e ∷ es) fin)
    (λ b h. let x = out-Except e in
    caught_finally n body fin es [] x.line x.class x.name x.body b ∙ ap (λ f. added (at n (a.Try body (f ∷ es) (Some fin)) ∷ []) b) (roll-out-Except e)
    ∙ ap (λ y. added (at n y ∷ []) b) (sym (v.rolls-Try body (e ∷ es) (Some fin)))) rs ls b w said h

each_makes : (d : ℕ) → BlockMakes d → (ss : List Statement) → Makes (each (statement_lines (block_within d)) ss) (Inside (suc d) Anyway) (added ss)
each_makes d block [] = makes_as (Some []) (Inside (suc d) Anyway) (λ b. b) (added []) (none_makes (Inside (suc d) Anyway)) (added_none (suc d))
each_makes d block (s ∷ ss) =
    makes_as (statement_lines (block_within d) s ⊕ each (statement_lines (block_within d)) ss) (Inside (suc d) Anyway) (λ b. added ss (added (s ∷ []) b)) (added (s ∷ ss))
    (then_makes (statement_lines (block_within d) s) (each (statement_lines (block_within d)) ss) (Inside (suc d) Anyway) (Inside (suc d) Anyway) (added (s ∷ [])) (added ss)
    (makes_as (statement_lines (block_within d) s) (Inside (suc d) Anyway) (added (at s.line (roll-Action (out-Action s.action)) ∷ [])) (added (s ∷ []))
    (action_makes d block s.line (out-Action s.action)) (λ b h. ap (λ x. added (at s.line x ∷ []) b) (roll-out-Action s.action)))
    (each_makes d block ss) (filled (suc d) Anyway (s ∷ [])))
    (added_more (suc d) s ss)

pub block_makes : (d : ℕ) → BlockMakes d
unfolding block_within
block_makes zero ss rs ls b w said h = cc
block_makes (suc d) ss rs ls b w said h = each_makes d (block_makes d) ss rs ls b w said h
