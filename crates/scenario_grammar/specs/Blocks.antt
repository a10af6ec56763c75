-- The lines of blocks, functions and scenarios.
use Rattle.std.specs.Prelude.{ℕ, zero, suc, Bool, true, false, ◌==◌, if◌then◌else◌, List, [], ◌∷◌, Option, Some, None}
use Rattle.scenario_tree.specs.declared.tree.Action.{Action, Action-F, out-Action}
use Rattle.scenario_tree.specs.declared.tree.Declaration.{Declaration}
use Rattle.scenario_tree.specs.declared.tree.Except.{Except, out-Except}
use Rattle.scenario_tree.specs.declared.tree.Function.{Function}
use Rattle.scenario_tree.specs.declared.tree.Scenario.{Scenario}
use Rattle.scenario_tree.specs.declared.tree.Statement.{Statement}
use Rattle.scenario_grammar.specs.declared.phrase.Phrase.{Phrase}
use Rattle.scenario_grammar.specs.declared.phrase.Phrase.TheVariants as phrase
use Rattle.scenario_grammar.specs.Token.{Written, ◌⊕◌, each, perhaps, only_if}
use Rattle.scenario_grammar.specs.declared.limits.TheConstants.{MOST_LEVELS}

-- A line of a tree: its number where the tree keeps it, and what it says.
pub record TreeLine : Type 0 where
  pub at : Option ℕ
  pub says : Phrase

-- a line whose number the tree keeps
abbrev pub line : ℕ → Phrase → Written TreeLine
line n p = Some (record { at = Some n; says = p } ∷ [])

-- a line that only parts or closes a block: the tree keeps no number of it
abbrev pub mark : Phrase → Written TreeLine
mark p = Some (record { at = None; says = p } ∷ [])

-- the lines of a block
abbrev pub BlockLines : Type 0
BlockLines = List Statement → Written TreeLine

-- an except: its line and its block
abbrev pub except_lines : BlockLines → Except → Written TreeLine
except_lines block e =
    let x = out-Except e in
    line x.line (phrase.Except x.class x.name) ⊕ block x.body

-- an `else` or a `finally` with its block, where there is one
abbrev pub part_lines : BlockLines → Phrase → Option (List Statement) → Written TreeLine
part_lines block opened = perhaps (λ body. mark opened ⊕ block body)

-- an except or a finally
abbrev pub is_handled : List Except → Option (List Statement) → Bool
is_handled [] None = false
is_handled [] (Some body) = true
is_handled (e ∷ es) finally = true

-- one statement that stands on line n
abbrev pub action_lines : BlockLines → ℕ → Action-F Action Except Statement → Written TreeLine
action_lines block n (Action-F.Command c) = line n (phrase.Command c)
action_lines block n (Action-F.Giving target g) = line n (phrase.Giving target g)
action_lines block n (Action-F.If e then_part else_part) = line n (phrase.If e) ⊕ block then_part ⊕ part_lines block phrase.Else else_part ⊕ mark phrase.End
action_lines block n (Action-F.While e body) = line n (phrase.While e) ⊕ block body ⊕ mark phrase.End
action_lines block n (Action-F.Try body excepts finally) =
    only_if (is_handled excepts finally)
    (line n phrase.Try ⊕ block body ⊕ each (except_lines block) excepts ⊕ part_lines block phrase.Finally finally ⊕ mark phrase.End)
action_lines block n (Action-F.Timeout after silent body) = line n (phrase.Timeout after silent) ⊕ block body ⊕ mark phrase.End

-- one statement
abbrev pub statement_lines : BlockLines → Statement → Written TreeLine
statement_lines block s = action_lines block s.line (out-Action s.action)

-- a block in which at most so many levels are open, its own too
unfoldable pub block_within : ℕ → List Statement → Written TreeLine
block_within zero statements = None
block_within (suc levels) statements = each (statement_lines (block_within levels)) statements

-- a declaration is one line
abbrev pub declaration_lines : Declaration → Written TreeLine
declaration_lines d = line d.line (phrase.Declaration d.name d.object)

-- a function: its head, its body, and `end`
abbrev pub function_lines : Function → Written TreeLine
function_lines f = line f.line (phrase.Function f.is_raw f.name f.parameters) ⊕ block_within MOST_LEVELS f.body ⊕ mark phrase.End

-- The line of the profile, as `profile 3`. A tree of profile 1 has none, and that of a profile that is neither 2 nor 3
-- has no words.
abbrev pub profile_lines : ℕ → Written TreeLine
profile_lines profile = if profile == 1 then Some [] else mark (phrase.Profile profile)

-- all lines of a tree: its profile, the declarations, then the functions
unfoldable pub scenario_lines : Scenario → Written TreeLine
scenario_lines s = profile_lines s.profile ⊕ each declaration_lines s.objects ⊕ each function_lines s.functions
