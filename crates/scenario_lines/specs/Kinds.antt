-- The kinds of lines, by what begins them.
use Rattle.scenario_grammar.specs.declared.keyword.Keyword.{Keyword}
use Rattle.scenario_keywords.specs.declared.role.WordRole.{WordRole}
use Rattle.scenario_keywords.specs.declared.role.WordRole.TheVariants as role
use Rattle.scenario_keywords.specs.Roles.{role_of_word}
use Rattle.scenario_lines.specs.declared.kind.LineKind.{LineKind}
use Rattle.scenario_lines.specs.declared.kind.LineKind.TheVariants as kind

-- what a line of this role is read as
abbrev pub kind_of : WordRole → LineKind
kind_of role.Declares = kind.Declaration
kind_of role.Profiles = kind.Block
kind_of role.Defines = kind.Block
kind_of role.Opens = kind.Block
kind_of role.Parts = kind.Block
kind_of role.Catches = kind.Block
kind_of role.Finishes = kind.Block
kind_of role.Ends = kind.Block
kind_of role.Commands = kind.Command
kind_of role.CommandsObject = kind.ObjectCommand
kind_of role.Gives = kind.Other
kind_of role.Nothing = kind.Other

-- what the line of this word is read as
abbrev pub kind_by : Keyword → LineKind
kind_by word = kind_of (role_of_word word)
