-- What each fixed word begins.
use Rattle.std.specs.Prelude.{Bool, true, false, if◌then◌else◌}
use Rattle.scenario_grammar.specs.declared.keyword.Keyword.{Keyword}
use Rattle.scenario_grammar.specs.declared.keyword.Keyword.TheVariants as k
use Rattle.scenario_grammar.specs.Place as places
use Rattle.scenario_grammar.specs.Reading.{gives}
use Rattle.scenario_keywords.specs.declared.role.WordRole.{WordRole}
use Rattle.scenario_keywords.specs.declared.role.WordRole.TheVariants as role

-- a statement that gives no value names its object first
abbrev pub names_object : Keyword → Bool
names_object k.Set = true
names_object k.Clear = true
names_object k.ResultSet = true
names_object k.ResultFail = true
names_object k.Release = true
names_object k.QueuePut = true
names_object k.QueueDone = true
names_object k.QueueShut = true
names_object k.GroupJoin = true
names_object k.GroupKill = true
names_object k.ChannelPut = true
names_object _ = false

-- of a statement
abbrev pub statement_role : Keyword → WordRole
statement_role word = if gives word then role.Gives else if names_object word then role.CommandsObject else role.Commands

-- as the first word of a line, or as the first behind `<-`: what the grammar makes of it
abbrev pub role_of_word : Keyword → WordRole
role_of_word word = elim (places.role_by word) [
  | places.Profiles ↦ role.Profiles
  | places.Declares ↦ role.Declares
  | places.Defines ↦ role.Defines
  | places.Opens ↦ role.Opens
  | places.Parts ↦ role.Parts
  | places.Catches ↦ role.Catches
  | places.Finishes ↦ role.Finishes
  | places.Ends ↦ role.Ends
  | places.States ↦ statement_role word
  | places.Unknown ↦ role.Nothing
  | places.Gives why ↦ role.Nothing
]

-- what the word makes of its line, as the grammar names it
abbrev pub grammar_role : WordRole → places.Role
grammar_role role.Profiles = places.Profiles
grammar_role role.Declares = places.Declares
grammar_role role.Defines = places.Defines
grammar_role role.Opens = places.Opens
grammar_role role.Parts = places.Parts
grammar_role role.Catches = places.Catches
grammar_role role.Finishes = places.Finishes
grammar_role role.Ends = places.Ends
grammar_role role.Commands = places.States
grammar_role role.CommandsObject = places.States
grammar_role role.Gives = places.States
grammar_role role.Nothing = places.Unknown

-- whether it begins a statement that gives a value
abbrev pub gives_value : WordRole → Bool
gives_value role.Gives = true
gives_value _ = false
