-- Worked traces whose lines are changed, and the laws that each change breaks: by computation.
use Rattle.std.proofs.Common.{◌≡◌, refl, ℕ, ◌+◌, List, [], ◌∷◌, ◌++◌, map, Bool, codes, pos}
use Rattle.std.specs.Prelude.{Some, None, take, drop, if◌then◌else◌}
use Rattle.gv_values.specs.declared.fault.FaultKind.{FaultKind}
use Rattle.gv_values.specs.declared.job.Answer.{Answer}
use Rattle.gv_values.specs.declared.job.Job.{Job}
use Rattle.gv_values.specs.declared.job.JobOutcome.{JobOutcome}
use Rattle.gv_values.specs.declared.value.Outcome.{Outcome}
use Rattle.gv_values.specs.declared.value.Value.{Value}
use Rattle.gv_values.specs.declared.value.Whom.{Whom}
use Rattle.trace_text.specs.declared.line.Awaited.{Awaited}
use Rattle.trace_text.specs.declared.line.Blocked.{Blocked}
use Rattle.trace_text.specs.declared.line.Line.{Line}
use Rattle.trace_text.specs.declared.line.LinkCall.{LinkCall}
use Rattle.trace_text.specs.declared.line.Resumed.{Resumed}
use Rattle.trace_text.specs.declared.line.StopCause.{StopCause}
use Rattle.machine.specs.TraceLaws.{each_line, ends_once, jobs_done_once, links_after_end, moments_rise, nothing_after_end, throws_at_parked}
use Rattle.world_rules.specs.Evaluate.{collatz, eval}

data Law : Type 0 where
  EndsOnce NothingAfterEnd ThrowsAtParked LinksAfterEnd MomentsRise JobsDoneOnce : Law

abbrev unless : Bool → Law → List Law
unless so law = if so then [] else (law ∷ [])

-- the laws that the lines break
abbrev broken : List Line → List Law
broken lines =
    unless (each_line ends_once [] lines) Law.EndsOnce ++ unless (each_line nothing_after_end [] lines) Law.NothingAfterEnd
    ++ unless (each_line throws_at_parked [] lines) Law.ThrowsAtParked ++ unless (each_line links_after_end [] lines) Law.LinksAfterEnd
    ++ unless (each_line moments_rise [] lines) Law.MomentsRise ++ unless (each_line jobs_done_once [] lines) Law.JobsDoneOnce

-- ---- lines

abbrev none : Outcome
none = Outcome.Value Value.Nothing

abbrev ends : ℕ → Outcome → Line
ends g o = Line.End g o

abbrev parks : ℕ → Awaited → Line
parks g w = Line.Park g w None

abbrev wakes : ℕ → Line
wakes g = Line.Resume g Resumed.Wake

abbrev killed : ℕ → Line
killed g = Line.Throw g FaultKind.GreenletExit

abbrev nothing : ℕ → ℕ → Line
nothing k at = Line.Turn k (Answer.Nothing at)

abbrev done : ℕ → ℕ → JobOutcome → ℕ → Line
done k j o at = Line.Turn k (Answer.Done j o at)

-- ---- changes

-- the line of this number is said twice
abbrev twice : ℕ → List Line → List Line
twice n lines = take (n + 1) lines ++ drop n lines

-- it is left out
abbrev lines_without : ℕ → List Line → List Line
lines_without n lines = take n lines ++ drop (n + 1) lines

-- another stands before it
abbrev before : ℕ → Line → List Line → List Line
before n line lines = take n lines ++ line ∷ drop n lines

-- another stands in its place
abbrev instead : ℕ → Line → List Line → List Line
instead n line lines = take n lines ++ line ∷ drop (n + 1) lines

-- ---- the worked traces

-- links on a greenlet that has ended
abbrev linked : List Line
linked =
    Line.Start 0 (codes "main") ∷ parks 0 (Awaited.Join (Whom.Greenlet 1)) ∷ Line.Start 1 (codes "w") ∷ ends 1 (Outcome.Value (Value.Int (pos 4))) ∷ nothing 1 0 ∷ wakes 0
    ∷ Line.Park 0 Awaited.Sleep (Some 0) ∷ nothing 2 0 ∷ Line.Link 1 1 (LinkCall.Greenlet 2) ∷ Line.Start 2 (codes "f") ∷ Line.Print 2 (Value.Int (pos 4)) ∷ ends 2 none
    ∷ Line.Link 3 1 (LinkCall.Mark 8) ∷ wakes 0 ∷ ends 0 none ∷ Line.Stop (StopCause.Value Value.Nothing) 3 8 ∷ []

-- two jobs, of which the second ends first
abbrev posted : List Line
posted =
    Line.Start 0 (codes "main") ∷ Line.Job 1 0 (Job.Sum (pos 3)) ∷ Line.Job 2 0 (Job.Echo (pos 4)) ∷ parks 0 (Awaited.Get (Whom.Job 1)) ∷ Line.Block Blocked.Jobs
    ∷ done 1 2 (JobOutcome.Int (pos 4)) 7 ∷ Line.Block Blocked.Jobs ∷ done 2 1 (JobOutcome.Int (pos 6)) 9 ∷ wakes 0 ∷ Line.Print 0 (Value.Int (pos 6)) ∷ ends 0 none
    ∷ Line.Stop (StopCause.Value Value.Nothing) 3 4 ∷ []

-- a waiter that is killed
abbrev thrown : List Line
thrown =
    Line.Start 0 (codes "main") ∷ Line.Park 0 Awaited.Sleep (Some 0) ∷ Line.Start 1 (codes "w") ∷ parks 1 (Awaited.Acquire (codes "s")) ∷ wakes 0 ∷ nothing 1 0 ∷ killed 1
    ∷ ends 1 (Outcome.Value (Value.Fault FaultKind.GreenletExit)) ∷ ends 0 none ∷ Line.Stop (StopCause.Value Value.Nothing) 2 5 ∷ []

-- ---- the table

record Row : Type 0 where
  lines : List Line
  breaks : List Law

abbrev row : List Line → List Law → Row
row lines breaks = record { lines = lines; breaks = breaks }

abbrev rows : List Row
rows =
    row linked []
    -- a greenlet ends twice
    ∷ row (twice 3 linked) (Law.EndsOnce ∷ Law.NothingAfterEnd ∷ [])
    ∷ row (twice 11 linked) (Law.EndsOnce ∷ Law.NothingAfterEnd ∷ [])
    ∷ row (before 15 (ends 1 none) linked) (Law.EndsOnce ∷ Law.NothingAfterEnd ∷ [])
    -- a line of a greenlet that has ended
    ∷ row (before 4 (Line.Print 1 Value.Nothing) linked) (Law.NothingAfterEnd ∷ [])
    ∷ row (before 12 (Line.Job 1 2 (Job.Sum (pos 3))) linked) (Law.NothingAfterEnd ∷ [])
    ∷ row (before 8 (wakes 1) thrown) (Law.NothingAfterEnd ∷ [])
    ∷ row (before 8 (Line.Into 1 none) thrown) (Law.NothingAfterEnd ∷ [])
    ∷ row (before 9 (Line.Start 1 (codes "w")) thrown) (Law.NothingAfterEnd ∷ [])
    -- no law asks that a greenlet ends
    ∷ row (lines_without 11 linked) []
    ∷ row (lines_without 7 thrown) []
    -- a link before its greenlet's end, or called twice
    ∷ row (lines_without 3 linked) (Law.LinksAfterEnd ∷ [])
    ∷ row (twice 8 linked) (Law.LinksAfterEnd ∷ [])
    ∷ row (twice 12 linked) (Law.LinksAfterEnd ∷ [])
    ∷ row (before 3 (Line.Link 2 1 (LinkCall.Mark 8)) linked) (Law.LinksAfterEnd ∷ [])
    ∷ row (instead 12 (Line.Link 1 1 (LinkCall.Mark 8)) linked) (Law.LinksAfterEnd ∷ [])
    ∷ row (instead 12 (Line.Link 3 0 (LinkCall.Mark 8)) linked) (Law.LinksAfterEnd ∷ [])
    -- a throw at a greenlet that has not parked; one that has no line may be killed
    ∷ row thrown []
    ∷ row (lines_without 3 thrown) (Law.ThrowsAtParked ∷ [])
    ∷ row (twice 6 thrown) (Law.ThrowsAtParked ∷ [])
    ∷ row (before 6 (Line.Resume 1 Resumed.Late) thrown) (Law.ThrowsAtParked ∷ [])
    ∷ row (before 5 (killed 0) thrown) (Law.ThrowsAtParked ∷ [])
    ∷ row (before 10 (killed 2) linked) (Law.ThrowsAtParked ∷ [])
    ∷ row (before 8 (killed 1) thrown) (Law.NothingAfterEnd ∷ Law.ThrowsAtParked ∷ [])
    ∷ row (before 7 (killed 0) linked) []
    ∷ row (before 5 (killed 7) thrown) []
    -- a moment that falls
    ∷ row (instead 4 (nothing 1 5) linked) (Law.MomentsRise ∷ [])
    ∷ row (instead 7 (done 2 1 (JobOutcome.Int (pos 6)) 6) posted) (Law.MomentsRise ∷ [])
    ∷ row (instead 7 (Line.Turn 2 (Answer.Elapsed 3)) posted) (Law.MomentsRise ∷ [])
    ∷ row (instead 7 (Line.Turn 2 (Answer.Elapsed 9)) posted) []
    -- a job that was not posted, is done twice, or comes to another outcome
    ∷ row posted []
    ∷ row (lines_without 2 posted) (Law.JobsDoneOnce ∷ [])
    ∷ row (twice 2 posted) (Law.JobsDoneOnce ∷ [])
    ∷ row (twice 7 posted) (Law.JobsDoneOnce ∷ [])
    ∷ row (before 1 (done 0 1 (JobOutcome.Int (pos 6)) 0) posted) (Law.JobsDoneOnce ∷ [])
    ∷ row (instead 5 (done 1 3 (JobOutcome.Int (pos 4)) 7) posted) (Law.JobsDoneOnce ∷ [])
    ∷ row (instead 7 (done 2 1 (JobOutcome.Int (pos 7)) 9) posted) (Law.JobsDoneOnce ∷ [])
    ∷ row (instead 5 (done 1 2 (JobOutcome.Fault (FaultKind.Error (pos 4))) 7) posted) (Law.JobsDoneOnce ∷ [])
    ∷ row (lines_without 5 posted) []
    ∷ []

each_breaks_its_law : map (λ (r : Row). broken r.lines) rows ≡ map (λ (r : Row). r.breaks) rows
unfolding collatz eval
each_breaks_its_law = refl
