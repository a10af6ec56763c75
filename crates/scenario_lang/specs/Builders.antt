-- What a builder holds, as the tree that the lines so far begin.
use Rattle.std.specs.Prelude.{List, [], ◌∷◌, ◌++◌, reverse}
use Rattle.scenario_tree.specs.declared.tree.Statement.{Statement}
use Rattle.scenario_grammar.specs.declared.building.OpenBlock.{OpenBlock}
use Rattle.scenario_grammar.specs.Building.{Building}
use Rattle.scenario_lang.specs.declared.builder.Builder.{Builder}

-- the innermost first
abbrev pub open_of : Builder → List OpenBlock
open_of b = reverse b.blocks.items

-- what the lines so far begin
abbrev pub building : Builder → Building
building b = record { profile = b.profile; objects = b.objects; functions = b.functions; open_blocks = open_of b }

-- with these open blocks
abbrev pub with_open : List OpenBlock → Building → Building
with_open os b = record b { open_blocks = os }

-- the block with one more statement
abbrev pub with_one_more : OpenBlock → Statement → OpenBlock
with_one_more block statement = record block { statements = block.statements ++ statement ∷ [] }
