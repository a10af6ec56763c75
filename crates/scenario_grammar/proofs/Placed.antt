-- The place of a text is where its reading is refused.
use Rattle.std.proofs.Common.{◌≡◌, ◌==◌, ℕ, Bool, true, false, not, ◌||◌, if◌then◌else◌, List, [], ◌∷◌, ◌++◌, map, Option, Some, None, Result, Ok, Err, refl, sym, ap, subst, ◌∙◌}
use Rattle.std.specs.List.{list_any}
use Rattle.scenario_tree.specs.declared.tree.Declaration.{Declaration}
use Rattle.scenario_tree.specs.declared.tree.Function.{Function}
use Rattle.scenario_tree.specs.declared.tree.Scenario.{Scenario}
use Rattle.scenario_tree.specs.declared.tree.Statement.{Statement}
use Rattle.scenario_grammar.specs.declared.phrase.Phrase.{Phrase}
use Rattle.scenario_grammar.specs.declared.phrase.Phrase.TheVariants as phrase
use Rattle.scenario_grammar.specs.declared.building.OpenBlock.{OpenBlock}
use Rattle.scenario_grammar.specs.declared.building.Opening.{Opening}
use Rattle.scenario_grammar.specs.declared.building.Opening.TheVariants as opening
use Rattle.scenario_grammar.specs.declared.place.Place.{Place}
use Rattle.scenario_grammar.specs.declared.token.Token.{Token}
use Rattle.scenario_grammar.specs.Blocks.{TreeLine}
use Rattle.scenario_grammar.specs.Building.{Building, step}
use Rattle.scenario_grammar.specs.Layout.{Line, lines, is_spaced}
use Rattle.scenario_grammar.specs.Parsed.{nothing_yet, is_begun, has_objects, standing, read_words, read_line, read_lines, scenario, finished, reading, opens_main}
use Rattle.scenario_grammar.specs.Phrase.{phrase_tokens}
use Rattle.scenario_grammar.specs.Place.{Body, Standing, at_the_start, after, misplaced, role_of, judge, judge_line, judge_lines, at_the_end, last_line, place_in_bytes, place_in_lines, place}
use Rattle.scenario_grammar.specs.Reading.{phrase_of, ◌>>=◌}
use Rattle.scenario_grammar.specs.Spells.{is_main}
use Rattle.scenario_grammar.specs.Token.{token_in}
use Rattle.scenario_grammar.proofs.Begun.{begun, Kept, Stacked, steps}
use Rattle.scenario_grammar.proofs.Named.{later_profile}
use Rattle.scenario_grammar.proofs.PhraseLaws.{role, phrase_read, phrase_said, tokens_proper}
use Rattle.scenario_grammar.proofs.Sound.{line_read, nothing_kept}
use Rattle.scenario_grammar.specs.declared.reason.TextReason.{TextReason}
use Rattle.scenario_grammar.specs.declared.reason.TextReason.TheVariants as reason
use Rattle.scenario_grammar.specs.Reason.{text_number}
use Rattle.scenario_grammar.specs.declared.limits.TheConstants.{MOST_LEVELS}

-- the standing after a phrase is that of what the phrase makes
abbrev Follows : Building → ℕ → Phrase → Type 0
Follows b n p = after (standing b) p ≡ standing (step b n p)

or_false : (x y : Bool) → ((x || false) || y) ≡ (x || (y || false))
or_false true y = refl
or_false false true = refl
or_false false false = refl

any_more : (fs : List Function) (f : Function) → (list_any is_main (fs ++ f ∷ []) || false) ≡ (list_any is_main fs || (is_main f || false))
any_more [] f = or_twice (is_main f)
  where
    or_twice : (x : Bool) → ((x || false) || false) ≡ (x || false)
    or_twice true = refl
    or_twice false = refl
any_more (g ∷ fs) f = or_first (is_main g) (list_any is_main (fs ++ f ∷ [])) (list_any is_main fs || (is_main f || false)) (list_any is_main fs) (is_main f || false) (any_more fs f) refl
  where
    or_first : (x y z u v : Bool) → (y || false) ≡ z → z ≡ (u || v) → ((x || y) || false) ≡ ((x || u) || v)
    or_first true y z u v e f = refl
    or_first false y z u v e f = e ∙ f

defines_follow : (profile : ℕ) (ds : List Declaration) (fs : List Function) (os : List OpenBlock) (n : ℕ) (is_raw : Bool) (name : List ℕ) (ps : List (List ℕ))
    → misplaced (standing (begun profile ds fs os)) (role (phrase.Function is_raw name ps)) ≡ None → Follows (begun profile ds fs os) n (phrase.Function is_raw name ps)
defines_follow profile ds [] [] n is_raw name ps h = λ i. record { profile = profile; any_line = true; open_blocks = Body ∷ []; begun = true; has_main = or_false false (opens_main (opening.Function is_raw name ps)) i }
defines_follow profile ds (f ∷ fs) [] n is_raw name ps h = λ i. record { profile = profile; any_line = true; open_blocks = Body ∷ []; begun = true; has_main = or_false (list_any is_main (f ∷ fs)) (opens_main (opening.Function is_raw name ps)) i }
defines_follow profile ds fs (o ∷ os) n is_raw name ps h = cc

function_ends : (profile : ℕ) (ds : List Declaration) (fs : List Function) (n m : ℕ) (is_raw : Bool) (name : List ℕ) (ps : List (List ℕ)) (ss : List Statement)
    → Follows (begun profile ds fs (record { line = m; opening = opening.Function is_raw name ps; statements = ss } ∷ [])) n phrase.End
function_ends profile ds [] n m is_raw name ps ss =
    let more = sym (any_more [] (record { line = m; is_raw = is_raw; name = name; parameters = ps; body = ss })) in
    λ i. record { profile = profile; any_line = true; open_blocks = []; begun = true; has_main = more i }
function_ends profile ds (f ∷ fs) n m is_raw name ps ss =
    let more = sym (any_more (f ∷ fs) (record { line = m; is_raw = is_raw; name = name; parameters = ps; body = ss })) in
    λ i. record { profile = profile; any_line = true; open_blocks = []; begun = true; has_main = more i }

ends_follow : (profile : ℕ) (ds : List Declaration) (fs : List Function) (n m : ℕ) (op : Opening) (ss : List Statement) (os : List OpenBlock) → Stacked (record { line = m; opening = op; statements = ss } ∷ os)
    → misplaced (standing (begun profile ds fs (record { line = m; opening = op; statements = ss } ∷ os))) (role phrase.End) ≡ None → Follows (begun profile ds fs (record { line = m; opening = op; statements = ss } ∷ os)) n phrase.End
ends_follow profile ds fs n m (opening.Function is_raw name ps) ss (q ∷ qs) k h = absurd (k.0 refl)
ends_follow profile ds fs n m (opening.Function is_raw name ps) ss [] k h = function_ends profile ds fs n m is_raw name ps ss
ends_follow profile ds fs n m opening.Try ss os k h = cc
ends_follow profile ds fs n m (opening.If x) ss [] k h = cc
ends_follow profile ds fs n m (opening.Else x ts) ss [] k h = cc
ends_follow profile ds fs n m (opening.While x) ss [] k h = cc
ends_follow profile ds fs n m (opening.Except tried es l c t) ss [] k h = cc
ends_follow profile ds fs n m (opening.Finally tried es) ss [] k h = cc
ends_follow profile ds fs n m (opening.Timeout t silent) ss [] k h = cc
ends_follow profile ds fs n m (opening.If x) ss (q ∷ qs) k h = refl
ends_follow profile ds fs n m (opening.Else x ts) ss (q ∷ qs) k h = refl
ends_follow profile ds fs n m (opening.While x) ss (q ∷ qs) k h = refl
ends_follow profile ds fs n m (opening.Except tried es l c t) ss (q ∷ qs) k h = refl
ends_follow profile ds fs n m (opening.Finally tried es) ss (q ∷ qs) k h = refl
ends_follow profile ds fs n m (opening.Timeout t silent) ss (q ∷ qs) k h = refl

else_follows : (profile : ℕ) (ds : List Declaration) (fs : List Function) (n m : ℕ) (op : Opening) (ss : List Statement) (os : List OpenBlock)
    → misplaced (standing (begun profile ds fs (record { line = m; opening = op; statements = ss } ∷ os))) (role phrase.Else) ≡ None → Follows (begun profile ds fs (record { line = m; opening = op; statements = ss } ∷ os)) n phrase.Else
else_follows profile ds fs n m (opening.If x) ss os h = refl
else_follows profile ds fs n m (opening.Function is_raw name ps) ss os h = cc
else_follows profile ds fs n m (opening.Else x ts) ss os h = cc
else_follows profile ds fs n m (opening.While x) ss os h = cc
else_follows profile ds fs n m opening.Try ss os h = cc
else_follows profile ds fs n m (opening.Except tried es l c t) ss os h = cc
else_follows profile ds fs n m (opening.Finally tried es) ss os h = cc
else_follows profile ds fs n m (opening.Timeout t silent) ss os h = cc

except_follows : (profile : ℕ) (ds : List Declaration) (fs : List Function) (n m : ℕ) (op : Opening) (ss : List Statement) (os : List OpenBlock) (c : _) (t : _)
    → misplaced (standing (begun profile ds fs (record { line = m; opening = op; statements = ss } ∷ os))) (role (phrase.Except c t)) ≡ None → Follows (begun profile ds fs (record { line = m; opening = op; statements = ss } ∷ os)) n (phrase.Except c t)
except_follows profile ds fs n m opening.Try ss os c t h = refl
except_follows profile ds fs n m (opening.Except tried es l d other) ss os c t h = refl
except_follows profile ds fs n m (opening.Function is_raw name ps) ss os c t h = cc
except_follows profile ds fs n m (opening.If x) ss os c t h = cc
except_follows profile ds fs n m (opening.Else x ts) ss os c t h = cc
except_follows profile ds fs n m (opening.While x) ss os c t h = cc
except_follows profile ds fs n m (opening.Finally tried es) ss os c t h = cc
except_follows profile ds fs n m (opening.Timeout x silent) ss os c t h = cc

finally_follows : (profile : ℕ) (ds : List Declaration) (fs : List Function) (n m : ℕ) (op : Opening) (ss : List Statement) (os : List OpenBlock)
    → misplaced (standing (begun profile ds fs (record { line = m; opening = op; statements = ss } ∷ os))) (role phrase.Finally) ≡ None → Follows (begun profile ds fs (record { line = m; opening = op; statements = ss } ∷ os)) n phrase.Finally
finally_follows profile ds fs n m opening.Try ss os h = refl
finally_follows profile ds fs n m (opening.Except tried es l d other) ss os h = refl
finally_follows profile ds fs n m (opening.Function is_raw name ps) ss os h = cc
finally_follows profile ds fs n m (opening.If x) ss os h = cc
finally_follows profile ds fs n m (opening.Else x ts) ss os h = cc
finally_follows profile ds fs n m (opening.While x) ss os h = cc
finally_follows profile ds fs n m (opening.Finally tried es) ss os h = cc
finally_follows profile ds fs n m (opening.Timeout x silent) ss os h = cc

-- A phrase that asks for an open block, by the case that one is open.
in_a_block : (b : Building) (n : ℕ) (p : Phrase) (os : List OpenBlock) → b.open_blocks ≡ os → (misplaced (standing (begun b.profile b.objects b.functions [])) (role p) ≡ None → ⊥)
    → ((o : OpenBlock) (rest : List OpenBlock) → Stacked (o ∷ rest) → misplaced (standing (begun b.profile b.objects b.functions (o ∷ rest))) (role p) ≡ None → Follows (begun b.profile b.objects b.functions (o ∷ rest)) n p)
    → Stacked os → misplaced (standing (begun b.profile b.objects b.functions os)) (role p) ≡ None → Follows (begun b.profile b.objects b.functions os) n p
in_a_block b n p [] same outside inside k h = absurd (outside h)
in_a_block b n p (o ∷ os) same outside inside k h = inside o os k h

or_true : (x : Bool) → (x || true) ≡ true
or_true true = refl
or_true false = refl

declared_line : (x : Bool) (d : Declaration) (ds : List Declaration) (y : Bool) → (x || (let c : Bool = elim (ds ++ d ∷ []) [ [] ↦ false | e ∷ es ↦ true ] in c) || y) ≡ true
declared_line true d ds y = refl
declared_line false d [] y = refl
declared_line false d (e ∷ es) y = refl

follows : (b : Building) (n : ℕ) (p : Phrase) (ts : List Token) → phrase_tokens p ≡ Some ts → Stacked b.open_blocks → misplaced (standing b) (role p) ≡ None → Follows b n p
follows b n (phrase.Profile profile) ts w k h =
    let other : (profile == 1) ≡ false = later_profile profile ts w in
    let some : (is_begun b || has_objects b || not (profile == 1)) ≡ true = rw other (or_true (is_begun b || has_objects b)) in
    λ i. record (standing b) { profile = profile; any_line = sym some i }
follows b n (phrase.Declaration name object) ts w k h = λ i. record (standing b) { any_line = sym (declared_line (is_begun b) (record { line = n; name = name; object = object }) b.objects (not (b.profile == 1))) i }
follows b n (phrase.Function is_raw name ps) ts w k h = defines_follow b.profile b.objects b.functions b.open_blocks n is_raw name ps h
follows b n (phrase.Command c) ts w k h = in_a_block b n (phrase.Command c) b.open_blocks refl (λ e. cc) (λ o os k h. refl) k h
follows b n (phrase.Giving t g) ts w k h = in_a_block b n (phrase.Giving t g) b.open_blocks refl (λ e. cc) (λ o os k h. refl) k h
follows b n (phrase.If x) ts w k h = in_a_block b n (phrase.If x) b.open_blocks refl (λ e. cc) (λ o os k h. refl) k h
follows b n (phrase.While x) ts w k h = in_a_block b n (phrase.While x) b.open_blocks refl (λ e. cc) (λ o os k h. refl) k h
follows b n phrase.Try ts w k h = in_a_block b n phrase.Try b.open_blocks refl (λ e. cc) (λ o os k h. refl) k h
follows b n (phrase.Timeout t s) ts w k h = in_a_block b n (phrase.Timeout t s) b.open_blocks refl (λ e. cc) (λ o os k h. refl) k h
follows b n phrase.Else ts w k h = in_a_block b n phrase.Else b.open_blocks refl (λ e. cc) (λ o os k h. else_follows b.profile b.objects b.functions n o.line o.opening o.statements os h) k h
follows b n (phrase.Except c t) ts w k h = in_a_block b n (phrase.Except c t) b.open_blocks refl (λ e. cc) (λ o os k h. except_follows b.profile b.objects b.functions n o.line o.opening o.statements os c t h) k h
follows b n phrase.Finally ts w k h = in_a_block b n phrase.Finally b.open_blocks refl (λ e. cc) (λ o os k h. finally_follows b.profile b.objects b.functions n o.line o.opening o.statements os h) k h
follows b n phrase.End ts w k h = in_a_block b n phrase.End b.open_blocks refl (λ e. cc) (λ o os k h. ends_follow b.profile b.objects b.functions n o.line o.opening o.statements os k h) k h

-- where a reading ends, as a standing
abbrev stands : {E : Type 0} → Result Building E → Result Standing E
stands (Ok b) = Ok (standing b)
stands (Err e) = Err e

judged_by : (m : Option TextReason) (q : Result Phrase TextReason) (b : Building) (n : ℕ) → ((p : Phrase) → m ≡ None → q ≡ Ok p → Follows b n p)
    → (let r : Result Standing TextReason = elim m [ Some r ↦ Err r | None ↦ q >>= λ p. Ok (after (standing b) p) ] in r) ≡ stands (let r : Result Building TextReason = elim m [ Some r ↦ Err r | None ↦ q >>= λ p. Ok (step b n p) ] in r)
judged_by (Some r) q b n follow = refl
judged_by None (Err r) b n follow = refl
judged_by None (Ok p) b n follow = ap (λ s. let r : Result Standing TextReason = Ok s in r) (follow p refl refl)

judged : (b : Building) (l : Line) → Stacked b.open_blocks → judge_line (standing b) l ≡ stands (read_line b l)
judged b l k = by_space (is_spaced l)
  where
    words : List Token
    words = map (token_in b.profile) l.words

    follow : (p : Phrase) → misplaced (standing b) (role_of (map (token_in b.profile) l.words)) ≡ None → phrase_of (map (token_in b.profile) l.words) ≡ Ok p → Follows b l.number p
    follow p placed read =
        let says = phrase_said (map (token_in b.profile) l.words) p (tokens_proper b.profile l.words) read in
        let r = phrase_read p (map (token_in b.profile) l.words) says in
        follows b l.number p (map (token_in b.profile) l.words) says k (sym (r.place (standing b)) ∙ placed)

    by_space : (s : Bool) → (let r : Result Standing TextReason = if s then judge (standing b) (map (token_in b.profile) l.words) else Err reason.BlankOutOfPlace in r) ≡ stands (let r : Result Building TextReason = if s then read_words b l.number (map (token_in b.profile) l.words) else Err reason.BlankOutOfPlace in r)
    by_space true = judged_by (misplaced (standing b) (role_of (map (token_in b.profile) l.words))) (phrase_of (map (token_in b.profile) l.words)) b l.number follow
    by_space false = refl

lines_by : (j : Result Standing TextReason) (r : Result Building TextReason) (n : ℕ) (ls : List Line) → j ≡ stands r → ((c : Building) → r ≡ Ok c → judge_lines (standing c) ls ≡ stands (read_lines c ls))
    → (let x : Result Standing Place = elim j [ Ok t ↦ judge_lines t ls | Err r ↦ Err (record { line = n; reason = text_number r }) ] in x)
    ≡ stands (let x : Result Building Place = elim r [ Ok d ↦ read_lines d ls | Err r ↦ Err (record { line = n; reason = text_number r }) ] in x)
lines_by j (Ok c) n ls e below = rw e (below c refl)
lines_by j (Err r) n ls e below = rw e refl

lines_judged : (ls : List Line) (b : Building) (e : ℕ) (rs : List TreeLine) → Kept e b rs → judge_lines (standing b) ls ≡ stands (read_lines b ls)
unfolding judge_lines read_lines
lines_judged [] b e rs k = refl
lines_judged (l ∷ ls) b e rs k =
    lines_by (judge_line (standing b) l) (read_line b l) l.number ls (judged b l k.stacked)
    (λ c r. let one = line_read b c l r in
    let s = steps b e l.number one.phrase (map (token_in b.profile) l.words) rs one.says k one.placed in
    lines_judged ls c s.left (rs ++ s.tree_line ∷ []) (subst (λ d. Kept s.left d (rs ++ s.tree_line ∷ [])) (sym one.made) s.kept))

-- where a reading is refused
abbrev refusal : Result Scenario Place → Option Place
refusal (Ok s) = None
refusal (Err p) = Some p

end_by : (p : Option Place) (s : Scenario) → p ≡ refusal (let r : Result Scenario Place = elim p [ Some p ↦ Err p | None ↦ Ok s ] in r)
end_by None s = refl
end_by (Some p) s = refl

text_by : (j : Result Standing Place) (r : Result Building Place) (bytes : List ℕ) → j ≡ stands r
    → (let x : Option Place = elim j [ Ok s ↦ at_the_end (last_line bytes) s | Err p ↦ Some p ] in x) ≡ refusal (let x : Result Scenario Place = elim r [ Ok b ↦ finished bytes b | Err p ↦ Err p ] in x)
text_by j (Ok b) bytes e = rw e (end_by (at_the_end (last_line bytes) (standing b)) (scenario b))
text_by j (Err p) bytes e = rw e refl

place_by : (found x : Option Place) (r : Result Scenario Place) → x ≡ refusal r → (let y : Option Place = elim found [ Some p ↦ Some p | None ↦ x ] in y) ≡ refusal (let y : Result Scenario Place = elim found [ Some p ↦ Err p | None ↦ r ] in y)
place_by None x r e = e
place_by (Some p) x r e = refl

placed : (bytes : List ℕ) → place bytes ≡ refusal (reading bytes)
unfolding place reading
placed bytes =
    place_by (place_in_bytes bytes) (place_in_lines bytes) (elim (read_lines nothing_yet (lines bytes)) [ Ok b ↦ finished bytes b | Err p ↦ Err p ])
    (text_by (judge_lines at_the_start (lines bytes)) (read_lines nothing_yet (lines bytes)) bytes (lines_judged (lines bytes) nothing_yet MOST_LEVELS [] nothing_kept))

pub refused_there : (bytes : List ℕ) (p : Place) → reading bytes ≡ Err p → place bytes ≡ Some p
refused_there bytes p e = placed bytes ∙ ap refusal e

pub accepted : (bytes : List ℕ) (s : Scenario) → reading bytes ≡ Ok s → place bytes ≡ None
accepted bytes s e = placed bytes ∙ ap refusal e

read_where_no_place : (bytes : List ℕ) (r : Result Scenario Place) → reading bytes ≡ r → place bytes ≡ None → (s : Scenario) × (reading bytes ≡ Ok s)
read_where_no_place bytes (Ok s) e none = (s, e)
read_where_no_place bytes (Err p) e none = absurd (some_is_none p (sym (refused_there bytes p e) ∙ none))
  where
    some_is_none : (p : Place) → (let x : Option Place = Some p in x) ≡ None → ⊥
    some_is_none p e = cc

pub read_there : (bytes : List ℕ) → place bytes ≡ None → (s : Scenario) × (reading bytes ≡ Ok s)
read_there bytes none = read_where_no_place bytes (reading bytes) refl none
