-- The tree that the lines so far begin.
use Rattle.std.specs.Prelude.{ℕ, List, [], ◌∷◌, ◌++◌, Option, Some, None}
use Rattle.scenario_tree.specs.declared.tree.Action.{Action}
use Rattle.scenario_tree.specs.declared.tree.Action.TheVariants as a
use Rattle.gv_values.specs.declared.fault.Class.{Class}
use Rattle.scenario_tree.specs.declared.tree.Declaration.{Declaration}
use Rattle.scenario_tree.specs.declared.tree.Except.{Except, roll-Except}
use Rattle.scenario_tree.specs.declared.tree.Function.{Function}
use Rattle.scenario_tree.specs.declared.tree.Statement.{Statement}
use Rattle.scenario_grammar.specs.declared.phrase.Phrase.{Phrase}
use Rattle.scenario_grammar.specs.declared.phrase.Phrase.TheVariants as phrase
use Rattle.scenario_grammar.specs.declared.building.OpenBlock.{OpenBlock}
use Rattle.scenario_grammar.specs.declared.building.Opening.{Opening}
use Rattle.scenario_grammar.specs.declared.building.Opening.TheVariants as opening

-- the profile, the objects and functions so far, and the open blocks, the innermost first
pub record Building : Type 0 where
  pub profile : ℕ
  pub objects : List Declaration
  pub functions : List Function
  pub open_blocks : List OpenBlock

-- a statement that stands on line n
abbrev pub at : ℕ → Action → Statement
at n action = record { line = n; action = action }

-- an except that stands on line n
abbrev pub caught : ℕ → Class → Option (List ℕ) → List Statement → Except
caught n c target body = roll-Except (record { line = n; class = c; name = target; body = body })

-- a block that opens on line n
abbrev pub opened : ℕ → Opening → Building → Building
opened n o b = record b { open_blocks = record { line = n; opening = o; statements = [] } ∷ b.open_blocks }

-- more statements in the innermost block
abbrev pub added : List Statement → Building → Building
added ss b = record b { open_blocks = elim b.open_blocks [ [] ↦ [] | o ∷ os ↦ record o { statements = o.statements ++ ss } ∷ os ] }

-- the innermost block goes on as another part
abbrev pub parted : Opening → OpenBlock → OpenBlock
parted o block = record { line = block.line; opening = o; statements = [] }

-- an `if` goes on as its `else`
abbrev pub else_of : OpenBlock → OpenBlock
else_of block = elim block.opening [ opening.If e ↦ parted (opening.Else e block.statements) block | _ ↦ block ]

-- a try, or its last except, goes on as an except on line n
abbrev pub except_by : ℕ → Class → Option (List ℕ) → OpenBlock → Opening → OpenBlock
except_by n c target block opening.Try = parted (opening.Except block.statements [] n c target) block
except_by n c target block (opening.Except tried excepts m d other) = parted (opening.Except tried (excepts ++ caught m d other block.statements ∷ []) n c target) block
except_by n c target block _ = block

-- a try, or its last except, goes on as the finally
abbrev pub finally_by : OpenBlock → Opening → OpenBlock
finally_by block opening.Try = parted (opening.Finally block.statements []) block
finally_by block (opening.Except tried excepts m d other) = parted (opening.Finally tried (excepts ++ caught m d other block.statements ∷ [])) block
finally_by block _ = block

-- the innermost block becomes another
abbrev pub changed : (OpenBlock → OpenBlock) → Building → Building
changed f b = record b { open_blocks = elim b.open_blocks [ [] ↦ [] | o ∷ os ↦ f o ∷ os ] }

-- what an open block becomes where it ends, with the blocks round it
abbrev pub closed_by : Building → OpenBlock → Opening → List OpenBlock → Building
closed_by b o (opening.Function is_raw n parameters) os = record b { functions = b.functions ++ record { line = o.line; is_raw = is_raw; name = n; parameters = parameters; body = o.statements } ∷ []; open_blocks = os }
closed_by b o (opening.If e) os = added (at o.line (a.If e o.statements None) ∷ []) (record b { open_blocks = os })
closed_by b o (opening.Else e then_part) os = added (at o.line (a.If e then_part (Some o.statements)) ∷ []) (record b { open_blocks = os })
closed_by b o (opening.While e) os = added (at o.line (a.While e o.statements) ∷ []) (record b { open_blocks = os })
closed_by b o opening.Try os = b
closed_by b o (opening.Except tried excepts m d other) os = added (at o.line (a.Try tried (excepts ++ caught m d other o.statements ∷ []) None) ∷ []) (record b { open_blocks = os })
closed_by b o (opening.Finally tried excepts) os = added (at o.line (a.Try tried excepts (Some o.statements)) ∷ []) (record b { open_blocks = os })
closed_by b o (opening.Timeout after silent) os = added (at o.line (a.Timeout after silent o.statements) ∷ []) (record b { open_blocks = os })

-- the innermost block ends
abbrev pub ended : Building → Building
ended b = elim b.open_blocks [ [] ↦ b | o ∷ os ↦ closed_by b o o.opening os ]

-- one more line
abbrev pub step : Building → ℕ → Phrase → Building
step b n (phrase.Profile profile) = record b { profile = profile }
step b n (phrase.Declaration name object) = record b { objects = b.objects ++ record { line = n; name = name; object = object } ∷ [] }
step b n (phrase.Function is_raw name parameters) = opened n (opening.Function is_raw name parameters) b
step b n (phrase.Command c) = added (at n (a.Command c) ∷ []) b
step b n (phrase.Giving target g) = added (at n (a.Giving target g) ∷ []) b
step b n (phrase.If e) = opened n (opening.If e) b
step b n phrase.Else = changed else_of b
step b n (phrase.While e) = opened n (opening.While e) b
step b n phrase.Try = opened n opening.Try b
step b n (phrase.Except c target) = changed (λ o. except_by n c target o o.opening) b
step b n phrase.Finally = changed (λ o. finally_by o o.opening) b
step b n (phrase.Timeout after silent) = opened n (opening.Timeout after silent) b
step b n phrase.End = ended b
