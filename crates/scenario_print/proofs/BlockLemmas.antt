-- Statements and blocks, line by line.
use Rattle.std.proofs.Common.{◌≡◌, ℕ, zero, suc, ◌+◌, ◌≤◌, ◌<◌, arith, Bool, List, [], length, take, get_or, Option, Some, None, Result, Ok, Err, refl, sym, ap, subst, ◌∙◌, true, false}
use Rattle.std.specs.Result.{IsErr}
use Rattle.gv_values.specs.Fronts.{BeginsWith}
use Rattle.scenario_tree.specs.declared.tree.Action.{Action, Action-F, out-Action}
use Rattle.gv_values.specs.declared.name.Name.{Name}
use Rattle.scenario_tree.specs.declared.tree.Action.TheVariants as a
use Rattle.scenario_tree.specs.declared.tree.Action.TheViews as v
use Rattle.scenario_tree.specs.declared.tree.Command.{Command}
use Rattle.scenario_tree.specs.declared.tree.Giving.{Giving}
use Rattle.scenario_tree.specs.declared.tree.Except.{Except, out-Except}
use Rattle.scenario_tree.specs.declared.tree.Expression.{Expression}
use Rattle.scenario_tree.specs.declared.tree.Statement.{Statement}
use Rattle.scenario_grammar.specs.declared.keyword.Keyword.{Keyword}
use Rattle.scenario_grammar.specs.declared.phrase.Phrase.TheVariants as phrase
use Rattle.scenario_grammar.specs.Blocks.{TreeLine, action_lines, block_within, except_lines, is_handled, mark, statement_lines}
use Rattle.scenario_grammar.specs.declared.limits.TheConstants.{MOST_LEVELS}
use Rattle.scenario_grammar.specs.Token.{Written, each, only_if}
use Rattle.scenario_print.specs.TreeLines.{Deeper, WroteTreeLine, WroteFixedLine, Laid, WroteBlock, WroteStatement, WroteExcepts}
use Rattle.scenario_print.proofs.Each.{each_next}
use Rattle.scenario_print.proofs.TreeLineLemmas.{laid, laid_back, laid_none, laid_nothing, laid_line, else_tree_line, end_tree_line, finally_tree_line, try_tree_line}
use Rattle.scenario_print.proofs.Words.{through}

-- where no memory was found
pub broken_block : {T E : Type 0} {o n : List ℕ} {r : Result T E} {level : ℕ} {ss : List Statement} → IsErr r → BeginsWith n o → WroteBlock o n r level ss
broken_block {r = Ok x} is front = cc
broken_block {r = Err e} is front = record { lines = λ levels fits. tt; front = front }

pub broken_statement : {T E : Type 0} {o n : List ℕ} {r : Result T E} {level : ℕ} {s : Statement} → IsErr r → BeginsWith n o → WroteStatement o n r level s
broken_statement {r = Ok x} is front = cc
broken_statement {r = Err e} is front = record { lines = λ levels fits. tt; front = front }

pub broken_excepts : {T E : Type 0} {o n : List ℕ} {r : Result T E} {level : ℕ} {es : List Except} → IsErr r → BeginsWith n o → WroteExcepts o n r level es
broken_excepts {r = Ok x} is front = cc
broken_excepts {r = Err e} is front = record { lines = λ levels fits. tt; front = front }

-- a block of a statement that has so many levels below it
pub inner : {T E : Type 0} {o n : List ℕ} {r : Result T E} {d : ℕ} {fs es : List Statement} (level levels : ℕ) → Deeper level d → level + suc levels ≤ suc MOST_LEVELS → fs ≡ es → WroteBlock o n r d fs → Laid o n r (level + 1) (level + 1) (block_within levels es)
inner {o = o} {n = n} {r = r} {d = d} {fs = fs} level levels deeper fits is f =
    let small : level ≤ MOST_LEVELS = omega (arith, fits) in
    let same = deeper small in
    let rest : level + 1 + levels ≤ suc MOST_LEVELS = omega (arith, fits) in
    let below : d + levels ≤ suc MOST_LEVELS = subst (λ z. z + levels ≤ suc MOST_LEVELS) (sym same) rest in
    subst (λ z. Laid o n r (level + 1) (level + 1) (block_within levels z)) is
    (subst (λ z. Laid o n r z z (block_within levels fs)) same (record { lines = f.lines levels below; front = f.front }))

statement : {T E : Type 0} {o n : List ℕ} {r : Result T E} (level : ℕ) (s : Statement) (x : Action) {y : Action-F Action Except Statement} → s.action ≡ x → out-Action x ≡ y → BeginsWith n o
    → ((levels : ℕ) → level + suc levels ≤ suc MOST_LEVELS → Laid o n r level level (action_lines (block_within levels) s.line y)) → WroteStatement o n r level s
statement {o = o} {n = n} {r = r} level s x is view front f = record {
  lines = λ levels fits. (subst (λ z. Laid o n r level level (action_lines (block_within levels) s.line z)) (sym (ap out-Action is ∙ view)) (f levels fits)).lines;
  front = front;
}

pub command_statement : {T E : Type 0} {o n : List ℕ} {r : Result T E} (level : ℕ) (s : Statement) (c : Command) → s.action ≡ a.Command c → WroteTreeLine o n r level (phrase.Command c) → WroteStatement o n r level s
command_statement level s c is f = statement level s (a.Command c) is (v.outs-Command c) f.front (λ levels fits. laid_line (Some s.line) (phrase.Command c) level f)

pub giving_statement : {T E : Type 0} {o n : List ℕ} {r : Result T E} (level : ℕ) (s : Statement) (target : Option Name) (g : Giving) → s.action ≡ a.Giving target g → WroteTreeLine o n r level (phrase.Giving target g) → WroteStatement o n r level s
giving_statement level s target g is f = statement level s (a.Giving target g) is (v.outs-Giving target g) f.front (λ levels fits. laid_line (Some s.line) (phrase.Giving target g) level f)

the_end : {T E : Type 0} {o n : List ℕ} {r : Result T E} (level : ℕ) → WroteFixedLine o n r level Keyword.End → Laid o n r (level + 1) level (mark phrase.End)
the_end level f = laid_back None phrase.End level refl (end_tree_line f)

pub while_statement : {T E : Type 0} {o m k n : List ℕ} {x z : T} {r : Result T E} {d : ℕ} (level : ℕ) (s : Statement) (e : Expression) (body fs : List Statement) → s.action ≡ a.While e body → Deeper level d → fs ≡ body
    → (let done : Result T E = Ok x in WroteTreeLine o m done level (phrase.While e)) → (let done : Result T E = Ok z in WroteBlock m k done d fs) → WroteFixedLine k n r level Keyword.End → WroteStatement o n r level s
while_statement {o = o} {m = m} {k = k} {n = n} level s e body fs is deeper same f g h =
    statement level s (a.While e body) is (v.outs-While e body) (through n m o (through n k m h.front g.front) f.front)
    (λ levels fits. laid (laid (laid_line (Some s.line) (phrase.While e) level f) (inner level levels deeper fits same g)) (the_end level h))

pub timeout_statement : {T E : Type 0} {o m k n : List ℕ} {x z : T} {r : Result T E} {d : ℕ} (level : ℕ) (s : Statement) (after : Option ℕ) (silent : Bool) (body fs : List Statement) → s.action ≡ a.Timeout after silent body → Deeper level d → fs ≡ body
    → (let done : Result T E = Ok x in WroteTreeLine o m done level (phrase.Timeout after silent)) → (let done : Result T E = Ok z in WroteBlock m k done d fs) → WroteFixedLine k n r level Keyword.End → WroteStatement o n r level s
timeout_statement {o = o} {m = m} {k = k} {n = n} level s after silent body fs is deeper same f g h =
    statement level s (a.Timeout after silent body) is (v.outs-Timeout after silent body) (through n m o (through n k m h.front g.front) f.front)
    (λ levels fits. laid (laid (laid_line (Some s.line) (phrase.Timeout after silent) level f) (inner level levels deeper fits same g)) (the_end level h))

pub if_statement : {T E : Type 0} {o m k n : List ℕ} {x y : T} {r : Result T E} {d : ℕ} (level : ℕ) (s : Statement) (e : Expression) (body fs : List Statement) (part : Option (List Statement)) → s.action ≡ a.If e body part → part ≡ None → Deeper level d → fs ≡ body
    → (let done : Result T E = Ok x in WroteTreeLine o m done level (phrase.If e)) → (let done : Result T E = Ok y in WroteBlock m k done d fs) → WroteFixedLine k n r level Keyword.End → WroteStatement o n r level s
if_statement {o = o} {m = m} {k = k} {n = n} {y = y} level s e body fs part is none deeper same f g h =
    statement level s (a.If e body None) (is ∙ ap (λ z. a.If e body z) none) (v.outs-If e body None) (through n m o (through n k m h.front g.front) f.front)
    (λ levels fits. laid (laid (laid (laid_line (Some s.line) (phrase.If e) level f) (inner level levels deeper fits same g)) (laid_nothing k (Ok y) (level + 1))) (the_end level h))

pub if_else_statement : {T E : Type 0} {o m k l j n : List ℕ} {x y z w : T} {r : Result T E} {d : ℕ} (level : ℕ) (s : Statement) (e : Expression) (body fs other gs : List Statement) (part : Option (List Statement)) → s.action ≡ a.If e body part → part ≡ Some other → Deeper level d → fs ≡ body → gs ≡ other
    → (let done : Result T E = Ok x in WroteTreeLine o m done level (phrase.If e)) → (let done : Result T E = Ok y in WroteBlock m k done d fs) → (let done : Result T E = Ok z in WroteFixedLine k l done level Keyword.Else)
    → (let done : Result T E = Ok w in WroteBlock l j done d gs) → WroteFixedLine j n r level Keyword.End → WroteStatement o n r level s
if_else_statement {o = o} {m = m} {k = k} {l = l} {j = j} {n = n} level s e body fs other gs part is some deeper same also f g p q h =
    statement level s (a.If e body (Some other)) (is ∙ ap (λ z. a.If e body z) some) (v.outs-If e body (Some other)) (through n m o (through n k m (through n l k (through n j l h.front q.front) p.front) g.front) f.front)
    (λ levels fits. laid (laid (laid (laid_line (Some s.line) (phrase.If e) level f) (inner level levels deeper fits same g)) (laid (laid_back None phrase.Else level refl (else_tree_line p)) (inner level levels deeper fits also q))) (the_end level h))

to_excepts : {T E : Type 0} {o n : List ℕ} {r : Result T E} {fs es : List Except} (level levels : ℕ) → level + suc levels ≤ suc MOST_LEVELS → fs ≡ es → WroteExcepts o n r level fs → Laid o n r (level + 1) (level + 1) (each (except_lines (block_within levels)) es)
to_excepts {o = o} {n = n} {r = r} level levels fits same f = subst (λ z. Laid o n r (level + 1) (level + 1) (each (except_lines (block_within levels)) z)) same (record { lines = f.lines levels fits; front = f.front })

handled : {T E : Type 0} {o n : List ℕ} (r : Result T E) (a b : ℕ) (t : Bool) (w : Written TreeLine) → Laid o n r a b w → Laid o n r a b (only_if t w)
handled r a b true w f = f
handled r a b false w f = laid_none r a b f.front

pub try_statement : {T E : Type 0} {o m k l n : List ℕ} {x y z : T} {r : Result T E} {d : ℕ} (level : ℕ) (s : Statement) (body fs : List Statement) (es hs : List Except) (part : Option (List Statement)) → s.action ≡ a.Try body es part → part ≡ None → Deeper level d → fs ≡ body → hs ≡ es
    → (let done : Result T E = Ok x in WroteFixedLine o m done level Keyword.Try) → (let done : Result T E = Ok y in WroteBlock m k done d fs) → (let done : Result T E = Ok z in WroteExcepts k l done level hs) → WroteFixedLine l n r level Keyword.End → WroteStatement o n r level s
try_statement {o = o} {m = m} {k = k} {l = l} {n = n} {z = z} {r = r} level s body fs es hs part is none deeper same also f g q h =
    statement level s (a.Try body es None) (is ∙ ap (λ z. a.Try body es z) none) (v.outs-Try body es None) (through n m o (through n k m (through n l k h.front q.front) g.front) f.front)
    (λ levels fits. handled r level level (is_handled es None) _
    (laid (laid (laid (laid (laid_line (Some s.line) phrase.Try level (try_tree_line f)) (inner level levels deeper fits same g)) (to_excepts level levels fits also q)) (laid_nothing l (Ok z) (level + 1))) (the_end level h)))

pub try_finally_statement : {T E : Type 0} {o m k l j i n : List ℕ} {x y z w u : T} {r : Result T E} {d : ℕ} (level : ℕ) (s : Statement) (body fs : List Statement) (es hs : List Except) (other gs : List Statement) (part : Option (List Statement)) → s.action ≡ a.Try body es part → part ≡ Some other → Deeper level d → fs ≡ body → hs ≡ es → gs ≡ other
    → (let done : Result T E = Ok x in WroteFixedLine o m done level Keyword.Try) → (let done : Result T E = Ok y in WroteBlock m k done d fs) → (let done : Result T E = Ok z in WroteExcepts k l done level hs)
    → (let done : Result T E = Ok w in WroteFixedLine l j done level Keyword.Finally) → (let done : Result T E = Ok u in WroteBlock j i done d gs) → WroteFixedLine i n r level Keyword.End → WroteStatement o n r level s
try_finally_statement {o = o} {m = m} {k = k} {l = l} {j = j} {i = i} {n = n} {r = r} level s body fs es hs other gs part is some deeper same also more f g q p b h =
    statement level s (a.Try body es (Some other)) (is ∙ ap (λ z. a.Try body es z) some) (v.outs-Try body es (Some other))
    (through n m o (through n k m (through n l k (through n j l (through n i j h.front b.front) p.front) q.front) g.front) f.front)
    (λ levels fits. handled r level level (is_handled es (Some other)) _
    (laid
    (laid (laid (laid (laid_line (Some s.line) phrase.Try level (try_tree_line f)) (inner level levels deeper fits same g)) (to_excepts level levels fits also q))
    (laid (laid_back None phrase.Finally level refl (finally_tree_line p)) (inner level levels deeper fits more b)))
    (the_end level h)))

pub no_statements : {T E : Type 0} (o : List ℕ) (r : Result T E) (level : ℕ) → WroteBlock o o r level []
unfolding block_within
no_statements {T} {E} o r level = record { lines = λ levels fits. (by_levels levels).lines; front = (laid_nothing o r level).front }
  where
    by_levels : (levels : ℕ) → Laid o o r level level (block_within levels [])
    by_levels zero = laid_none r level level (laid_nothing o r level).front
    by_levels (suc levels) = laid_nothing o r level

-- one statement more
pub next_statement : {T E : Type 0} {o m n : List ℕ} {x y : T} (level i : ℕ) (ss : List Statement) (s : Statement) → i < length ss → s ≡ get_or ss i s
    → (let done : Result T E = Ok x in WroteBlock o m done level (take i ss)) → (let done : Result T E = Ok y in WroteStatement m n done level s) → (let done : Result T E = Ok y in WroteBlock o n done level (take (i + 1) ss))
unfolding block_within
next_statement {T} {E} {o = o} {m = m} {n = n} {x = x} {y = y} level i ss s within at f g = record { lines = λ levels fits. (by_levels levels fits).lines; front = through n m o g.front f.front }
  where
    by_levels : (levels : ℕ) → level + levels ≤ suc MOST_LEVELS → (let done : Result T E = Ok y in Laid o n done level level (block_within levels (take (i + 1) ss)))
    by_levels zero fits = laid_none _ level level (through n m o g.front f.front)
    by_levels (suc levels) fits =
        subst (λ w. (let done : Result T E = Ok y in Laid o n done level level w)) (sym (each_next (statement_lines (block_within levels)) i ss s within at))
        (laid (let h : (let done : Result T E = Ok x in Laid o m done level level (block_within (suc levels) (take i ss))) = record { lines = f.lines (suc levels) fits; front = f.front } in h)
        (let h : (let done : Result T E = Ok y in Laid m n done level level (statement_lines (block_within levels) s)) = record { lines = g.lines levels fits; front = g.front } in h))

-- one except more
pub next_except : {T E : Type 0} {o m k n : List ℕ} {x y z : T} {d : ℕ} (level i : ℕ) (es : List Except) (e : Except) (fs : List Statement) → i < length es → e ≡ get_or es i e → Deeper level d → fs ≡ (out-Except e).body
    → (let done : Result T E = Ok x in WroteExcepts o m done level (take i es)) → (let done : Result T E = Ok y in WroteTreeLine m k done level (phrase.Except (out-Except e).class (out-Except e).name))
    → (let done : Result T E = Ok z in WroteBlock k n done d fs) → (let done : Result T E = Ok z in WroteExcepts o n done level (take (i + 1) es))
next_except {T} {E} {o = o} {m = m} {k = k} {n = n} {x = x} {y = y} {z = z} level i es e fs within at deeper same f g h = record {
  lines = λ levels fits. (by_levels levels fits).lines;
  front = through n m o (through n k m h.front g.front) f.front;
}
  where
    by_levels : (levels : ℕ) → level + suc levels ≤ suc MOST_LEVELS → (let done : Result T E = Ok z in Laid o n done (level + 1) (level + 1) (each (except_lines (block_within levels)) (take (i + 1) es)))
    by_levels levels fits =
        subst (λ w. (let done : Result T E = Ok z in Laid o n done (level + 1) (level + 1) w)) (sym (each_next (except_lines (block_within levels)) i es e within at))
        (laid (to_excepts level levels fits refl f) (laid (laid_back (Some (out-Except e).line) (phrase.Except (out-Except e).class (out-Except e).name) level refl g) (inner level levels deeper fits same h)))
