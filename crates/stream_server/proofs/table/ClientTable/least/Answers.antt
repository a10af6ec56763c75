use Rattle.std.proofs.Common.{ℕ, Option, Some, None, IfSome, ◌≤◌, subst, sym}
use Rattle.std.specs.List.{All}
use Rattle.due_timers.specs.declared.heap.Timer.{Timer}
use Rattle.stream_server.specs.TableParts.{IsSound}
use Rattle.stream_server.specs.Tables.{EachDeadline, SeenTable}
use Rattle.stream_server.specs.declared.table.ClientTable.TheInside.{Inside}
use Rattle.stream_server.proofs.Tabling.{listed_deadline}
use Rattle.stream_server.proofs.table.ClientTable.least.Goals as goal

-- the table as contracts see it
abbrev seen_inside : {T : Type 0} → Inside T → SeenTable T
seen_inside h = record { places = h.places.slots; clients = h.clients; members = h.members; limit = h.limit }

least_of : {T : Type 0} (h : Inside T) (o : Option ℕ) → IsSound h → IfSome o (λ deadline. All (λ (t : Timer). deadline ≤ t.deadline) h.timers.timers)
    → IfSome o (λ deadline. EachDeadline (λ other. deadline ≤ other) (seen_inside h))
least_of h None sound each = each
least_of h (Some deadline) sound each = λ k client listed. listed_deadline (λ n. deadline ≤ n) h k client sound each listed

pub returns-clause-least : goal.returns-clause-least
returns-clause-least g c =
    subst (λ (s : SeenTable g.row.T.Denot). IfSome c.least.result (λ deadline. EachDeadline (λ other. deadline ≤ other) s)) c.self.view_is
    (least_of c.self.inside c.least.result c.self.invariant c.least.ensures.least)
