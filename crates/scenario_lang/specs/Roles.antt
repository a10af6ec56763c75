-- The roles of lines, as the grammar names them.
use Rattle.std.specs.Prelude.{Bool, if◌then◌else◌, List, [], ◌∷◌, Option, Some, None}
use Rattle.scenario_grammar.specs.declared.token.Token.{Token}
use Rattle.scenario_grammar.specs.declared.token.Token.TheVariants as token
use Rattle.scenario_grammar.specs.declared.reason.TextReason.{TextReason}
use Rattle.scenario_grammar.specs.declared.reason.TextReason.TheVariants as reason
use Rattle.scenario_grammar.specs.Place.{Open, Body, Then, Otherwise, Loop, Trying, Catching, Ending, Timing, is_then, is_try, is_trying, role_by}
use Rattle.scenario_grammar.specs.Place.{Profiles, Declares, Defines, States, Gives, Opens, Parts, Catches, Finishes, Ends, Unknown}
use Rattle.scenario_grammar.specs.Place as places
use Rattle.scenario_keywords.specs.Roles.{grammar_role}
use Rattle.scenario_lang.specs.declared.role.Role.{Role}
use Rattle.scenario_lang.specs.declared.role.Role.TheVariants as r
use Rattle.scenario_lang.specs.declared.kind.Kind.{Kind}
use Rattle.scenario_lang.specs.declared.kind.Kind.TheVariants as kind

-- the role of a line, as the grammar names it
abbrev pub as_role : Role → places.Role
as_role (r.Begins word) = grammar_role word
as_role (r.Gives why) = Gives why

-- what has come of a block, as the grammar names it
abbrev pub as_open : Kind → Open
as_open kind.Body = Body
as_open kind.Then = Then
as_open kind.Otherwise = Otherwise
as_open kind.Loop = Loop
as_open kind.Trying = Trying
as_open kind.Catching = Catching
as_open kind.Ending = Ending
as_open kind.Timing = Timing

-- the first of the open blocks
abbrev pub innermost_of : List Open → Option Open
innermost_of [] = None
innermost_of (o ∷ os) = Some o

-- inside a function, or else for this reason
abbrev pub in_a_body_by : TextReason → Option Open → Option TextReason
in_a_body_by why None = Some why
in_a_body_by why (Some o) = None

-- no longer where something else has come before
abbrev pub out_of_place_if : Bool → Option TextReason
out_of_place_if late = if late then Some reason.LineOutOfPlace else None

-- the grammar's rule, by the little of what stands before a line that it asks for
abbrev pub misplaced_by : Bool → Bool → Bool → Option Open → places.Role → Option TextReason
misplaced_by any begun full o Profiles = out_of_place_if any
misplaced_by any begun full o Declares = out_of_place_if begun
misplaced_by any begun full o Defines = elim o [ None ↦ None | Some p ↦ Some reason.LineOutOfPlace ]
misplaced_by any begun full o States = in_a_body_by reason.LineOutOfPlace o
misplaced_by any begun full o (Gives why) = in_a_body_by why o
misplaced_by any begun full o Opens = if full then Some reason.NestedTooDeep else in_a_body_by reason.LineOutOfPlace o
misplaced_by any begun full o Parts = elim o [ None ↦ Some reason.BlockWordOutOfPlace | Some p ↦ if is_then p then None else Some reason.BlockWordOutOfPlace ]
misplaced_by any begun full o Catches = elim o [ None ↦ Some reason.BlockWordOutOfPlace | Some p ↦ if is_try p then None else Some reason.BlockWordOutOfPlace ]
misplaced_by any begun full o Finishes = elim o [ None ↦ Some reason.BlockWordOutOfPlace | Some p ↦ if is_try p then None else Some reason.BlockWordOutOfPlace ]
misplaced_by any begun full o Ends = elim o [ None ↦ Some reason.BlockWordOutOfPlace | Some p ↦ if is_trying p then Some reason.BlockWordOutOfPlace else None ]
misplaced_by any begun full o Unknown = None

-- the role of a line whose second word is not `<-`
abbrev pub role_unmarked : List Token → places.Role
role_unmarked [] = Unknown
role_unmarked (token.Fixed word ∷ ts) = role_by word
role_unmarked (t ∷ ts) = Unknown
