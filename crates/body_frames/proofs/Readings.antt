-- What is read at a place of the code.
use Rattle.std.proofs.Common.{◌≡◌, ap, subst, ◌∙◌, ℕ, suc, ◌+◌, true, false, List, ◌∷◌, Some, None, arith}
use Rattle.std.specs.Prelude.{map}
use Rattle.scenario_tree.specs.declared.tree.Action.{out-Action}
use Rattle.scenario_tree.specs.declared.tree.Action.TheVariants as A
use Rattle.scenario_tree.specs.declared.tree.Statement.{Statement}
use Rattle.machine.specs.declared.state.Todo.{Todo}
use Rattle.machine.specs.Expressions.{Around}
use Rattle.machine.specs.BodyMoves.{action_move, body_move}
use Rattle.body_names.specs.Expressions.{expression_of}
use Rattle.body_names.specs.Statements.{command_of, giving_of}
use Rattle.body_blocks.specs.Trees.{Coded, IsAhead, action_of, block_at, except_of, name_if, statement_of}
use Rattle.body_blocks.specs.declared.statement.FlatAction.{FlatAction}
use Rattle.body_blocks.specs.declared.statement.FlatStatement.{FlatStatement}
use Rattle.body_blocks.specs.Few.{HasFew, HasFewParts}
use Rattle.body_values.proofs.Few.{head-few, rest-few}
use Rattle.body_entries.specs.Entries.{Form, begins, form_of, optional_block, rest}

-- one level of a flat statement is that of its tree
pub out_form : (t : Coded) (a : FlatAction) → out-Action (action_of t a) ≡ form_of t a
out_form t (FlatAction.Command c) = A.outs-Command (command_of t.names c)
out_form t (FlatAction.Giving x g) = A.outs-Giving (name_if t x) (giving_of t.names g)
out_form t (FlatAction.If e y n) = A.outs-If (expression_of t.names e) (block_at y t) (optional_block t n)
out_form t (FlatAction.While e b) = A.outs-While (expression_of t.names e.value) (block_at b t)
out_form t (FlatAction.Try b h) = A.outs-Try (block_at b t) (map (except_of t) h.value.excepts) (optional_block t h.value.finally)
out_form t (FlatAction.Timeout ms silent b) = A.outs-Timeout ms silent (block_at b t)

pub begins_there : (t : Coded) (b p : ℕ) (s : FlatStatement) → IsAhead t b p (Some s) → begins (rest t b p) ≡ true
begins_there t b p s h = ap begins h

pub begins_not : (t : Coded) (b p : ℕ) → IsAhead t b p None → begins (rest t b p) ≡ false
begins_not t b p h = ap begins h

-- the move of the statement at the head
pub move_there : (t : Coded) (b p : ℕ) (s : FlatStatement) (todo : List Todo) (a : Around) → IsAhead t b p (Some s) →
    body_move (Todo.Statements (rest t b p) ∷ todo) a ≡ action_move (form_of t s.action) a (Todo.Statements (rest t b (suc p)) ∷ todo)
move_there t b p s todo a h =
    ap (λ (ss : List Statement). body_move (Todo.Statements ss ∷ todo) a) h
    ∙ ap (λ (form : Form). action_move form a (Todo.Statements (rest t b (suc p)) ∷ todo)) (out_form t s.action)

-- ---- at a move

pub few_there : (t : Coded) (b p : ℕ) (s : FlatStatement) → IsAhead t b p (Some s) → HasFew (rest t b p) → HasFewParts (form_of t s.action)
few_there t b p s h few = subst HasFewParts (out_form t s.action) (head-few (statement_of t s) (rest t b (suc p)) (subst HasFew h few))

-- so it is with what is behind it
pub few_behind : (t : Coded) (b p : ℕ) (s : FlatStatement) → IsAhead t b p (Some s) → HasFew (rest t b p) → HasFew (rest t b (p + 1))
few_behind t b p s h few =
    let next : suc p ≡ p + 1 = omega arith in
    subst (λ (q : ℕ). HasFew (rest t b q)) next (rest-few (statement_of t s) (rest t b (suc p)) (subst HasFew h few))
