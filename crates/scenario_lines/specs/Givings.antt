-- The statements that give a value, by what follows their word.
use Rattle.std.specs.Prelude.{◌≡◌, ℕ, List, Option, Result, Ok, Err}
use Rattle.gv_values.specs.declared.name.Name.{Name}
use Rattle.scenario_grammar.specs.Reading.{Reader, ◌<$>◌, ◌<*>◌, all_at, expression_at, name_at, raw_link_at, timed_at, wait_at}
use Rattle.scenario_grammar.specs.declared.token.Token.{Token}
use Rattle.scenario_lines.specs.declared.giving.Awaiting.{Awaiting}
use Rattle.scenario_lines.specs.declared.giving.Awaiting.TheVariants as awaiting
use Rattle.scenario_lines.specs.declared.giving.Call.{Call}
use Rattle.scenario_lines.specs.declared.giving.Call.TheVariants as call
use Rattle.scenario_lines.specs.declared.giving.RawTarget.{RawTarget}
use Rattle.scenario_lines.specs.declared.giving.RawTarget.TheVariants as target
use Rattle.scenario_lines.specs.declared.giving.Taking.{Taking}
use Rattle.scenario_lines.specs.declared.giving.Taking.TheVariants as taking
use Rattle.scenario_lines.specs.declared.refusal.LineRefusal.{LineRefusal}
use Rattle.scenario_lines.specs.declared.refusal.LineRefusal.TheVariants as refusal
use Rattle.scenario_tree.specs.declared.tree.Expression.{Expression}
use Rattle.scenario_tree.specs.declared.tree.Giving.{Giving}
use Rattle.scenario_tree.specs.declared.tree.Giving.TheVariants as giving
use Rattle.scenario_tree.specs.declared.tree.LinkEnd.{LinkEnd}
use Rattle.scenario_tree.specs.declared.tree.Wait.{Wait}

-- a function, and its arguments
abbrev pub called : Call → Name → List Expression → Giving
called call.Spawn = giving.Spawn
called call.New = giving.New

-- such a call, behind its word
abbrev pub called_at : Call → Reader Giving
called_at by = called by <$> name_at <*> all_at expression_at

-- an object, and how long what it gives is waited for
abbrev pub taken : Taking → Name → Wait → Giving
taken taking.Result = giving.ResultGet
taken taking.Unit = giving.Acquire
taken taking.Item = giving.QueueGet
taken taking.Peek = giving.QueuePeek

-- the same behind its word
abbrev pub taken_at : Taking → Reader Giving
taken_at what = taken what <$> name_at <*> wait_at

-- an object, and how long it is waited for
abbrev pub awaited : Awaiting → Name → Option ℕ → Giving
awaited awaiting.Event = giving.WaitEvent
awaited awaiting.Result = giving.ResultWait
awaited awaiting.Queue = giving.QueueJoin

-- the same behind its word
abbrev pub awaited_at : Awaiting → Reader Giving
awaited_at what = awaited what <$> name_at <*> timed_at

-- the greenlet of a link to this end, and the function that it calls
abbrev pub link_at : LinkEnd → Reader Giving
link_at end = (λ a b. giving.Link end a b) <$> expression_at <*> name_at

-- a raw link of this greenlet that calls so
abbrev pub raw_link : Expression → RawTarget → Giving
raw_link x (target.Mark n) = giving.LinkMark x n
raw_link x (target.Event n) = giving.LinkSet x n

-- what a raw link calls was read, whichever greenlet it is of, or is refused
abbrev pub ReadsRawTarget : List Token → Result RawTarget LineRefusal → List Token → Type 0
ReadsRawTarget old (Ok called) new = (x : Expression) → raw_link_at x old ≡ Ok (raw_link x called, new)
ReadsRawTarget old (Err refusal.Memory) new = Unit {0}
ReadsRawTarget old (Err (refusal.Reason r)) new = (x : Expression) → raw_link_at x old ≡ Err r
