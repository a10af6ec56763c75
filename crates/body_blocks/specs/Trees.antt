-- What the blocks of some code stand for: the blocks of the tree, each with those inside it, where these are the names.
use Rattle.std.specs.Prelude.{ℕ, suc, ◌≡◌, ⊤, List, [], ◌∷◌, ◌++◌, map, drop, Option, Some, None, unwrap_or, slice_get, option_map}
use Rattle.gv_values.specs.declared.name.Name.{Name}
use Rattle.scenario_tree.specs.declared.tree.Action.{Action}
use Rattle.scenario_tree.specs.declared.tree.Action.TheVariants as A
use Rattle.scenario_tree.specs.declared.tree.Except.{Except, roll-Except}
use Rattle.scenario_tree.specs.declared.tree.Statement.{Statement}
use Rattle.body_names.specs.declared.expression.LocalSlot.{LocalSlot}
use Rattle.body_names.specs.Expressions.{expression_of}
use Rattle.body_names.specs.Naming.{name_of}
use Rattle.body_names.specs.Statements.{command_of, giving_of}
use Rattle.body_blocks.specs.declared.statement.FlatAction.{FlatAction}
use Rattle.body_blocks.specs.declared.statement.FlatExcept.{FlatExcept}
use Rattle.body_blocks.specs.declared.statement.FlatStatement.{FlatStatement}

-- the names and the blocks of some code
pub record Coded : Type 0 where
  pub names : List Name
  pub blocks : List (List Statement)

-- the names, and no block
abbrev pub start : List Name → Coded
start names = record { names = names; blocks = [] }

-- the one, with the names and the blocks of the other behind its own
abbrev pub joined : Coded → Coded → Coded
joined c d = record { names = c.names ++ d.names; blocks = c.blocks ++ d.blocks }

-- the block of this number; of a number that there is not, one without statements
abbrev pub block_at : ℕ → Coded → List Statement
block_at n c = unwrap_or (slice_get c.blocks n) []

-- the name of a local that may be missing
abbrev pub name_if : Coded → Option LocalSlot → Option Name
name_if c x = option_map (λ slot. name_of c.names slot.number) x

-- an except, where these are the names and the blocks
abbrev pub except_of : Coded → FlatExcept → Except
except_of c e = roll-Except (record { line = e.line; class = e.class; name = name_if c e.name; body = block_at e.body c })

-- what stands on a line
abbrev pub action_of : Coded → FlatAction → Action
action_of c (FlatAction.Command x) = A.Command (command_of c.names x)
action_of c (FlatAction.Giving x g) = A.Giving (name_if c x) (giving_of c.names g)
action_of c (FlatAction.If e y n) = A.If (expression_of c.names e) (block_at y c) (option_map (λ i. block_at i c) n)
action_of c (FlatAction.While e b) = A.While (expression_of c.names e.value) (block_at b c)
action_of c (FlatAction.Try b h) = A.Try (block_at b c) (map (except_of c) h.value.excepts) (option_map (λ i. block_at i c) h.value.finally)
action_of c (FlatAction.Timeout ms silent b) = A.Timeout ms silent (block_at b c)

-- a statement
abbrev pub statement_of : Coded → FlatStatement → Statement
statement_of c s = record { line = s.line; action = action_of c s.action }

-- the code with one block more, which has its own inside it from those before it
abbrev pub with_block : Coded → List FlatStatement → Coded
with_block c b = record { names = c.names; blocks = c.blocks ++ map (statement_of c) b ∷ [] }

-- so with these, one after another
unfoldable pub trees : Coded → List (List FlatStatement) → Coded
trees c [] = c
trees c (b ∷ bs) = trees (with_block c b) bs

-- the statements stand for these, whatever names and blocks are made after them
abbrev pub Stands : Coded → List FlatStatement → List Statement → Type 0
Stands c b ss = (more : Coded) → map (statement_of (joined c more)) b ≡ ss

-- each block stands for what it does among those before it
unfoldable pub EachStands : Coded → List (List FlatStatement) → Type 0
EachStands c [] = ⊤
EachStands c (b ∷ bs) = Stands c b (map (statement_of c) b) × EachStands (with_block c b) bs

-- there are more names and blocks than before, and no other change
abbrev pub Grows : Coded → Coded → Type 0
Grows old new = (more : Coded) × (new ≡ joined old more)

-- there are more names
abbrev pub with_names : Coded → List Name → Coded
with_names c more = record { names = c.names ++ more; blocks = c.blocks }

-- what stands at this place of the block, and is nothing past its end
abbrev pub IsAhead : Coded → ℕ → ℕ → Option FlatStatement → Type 0
IsAhead c b p None = drop p (block_at b c) ≡ []
IsAhead c b p (Some s) = drop p (block_at b c) ≡ statement_of c s ∷ drop (suc p) (block_at b c)
