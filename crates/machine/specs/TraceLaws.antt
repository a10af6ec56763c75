-- The laws of a trace, on a list of lines alone. This project's own, after gevent API reference, `gevent.Greenlet`: a
-- greenlet ends once, and each link is called once, after the end.
use Rattle.std.specs.Prelude.{ℕ, ◌==◌, Bool, true, false, not, ◌&&◌, List, [], ◌∷◌, Option, Some, None, nat_le, count_by, find}
use Rattle.std.specs.List.{list_any}
use Rattle.gv_values.specs.declared.job.JobOutcome.{JobOutcome}
use Rattle.std.specs.Ordering.{int_eq}
use Rattle.trace_text.specs.declared.line.Line.{Line}
use Rattle.gv_values.specs.declared.job.Answer.{Answer}
use Rattle.gv_values.specs.Fault.{fault_eq}
use Rattle.world_rules.specs.Legal.{moment_of}
use Rattle.world_rules.specs.Evaluate.{eval}

-- each line passes the test, which has the earlier lines too, the latest first
abbrev pub each_line : (List Line → Line → Bool) → List Line → List Line → Bool
each_line test before [] = true
each_line test before (line ∷ lines) = test before line && each_line test (line ∷ before) lines

-- the greenlet whose line it is: the one that it names first; a link line is of none
abbrev pub greenlet_of : Line → Option ℕ
greenlet_of (Line.Start g name) = Some g
greenlet_of (Line.Print g v) = Some g
greenlet_of (Line.Park g w until) = Some g
greenlet_of (Line.Resume g by) = Some g
greenlet_of (Line.Throw g f) = Some g
greenlet_of (Line.Into g o) = Some g
greenlet_of (Line.End g o) = Some g
greenlet_of (Line.Job j g job) = Some g
greenlet_of line = None

-- it is this number
abbrev pub is_some_number : ℕ → Option ℕ → Bool
is_some_number g (Some h) = g == h
is_some_number g None = false

-- it is a line of the greenlet
abbrev pub is_of : ℕ → Line → Bool
is_of g line = is_some_number g (greenlet_of line)

-- it is the end line of the greenlet
abbrev pub is_end_of : ℕ → Line → Bool
is_end_of g (Line.End h o) = g == h
is_end_of g line = false

-- it is the line of this link
abbrev pub is_link_line : ℕ → Line → Bool
is_link_line k (Line.Link n g call) = k == n
is_link_line k line = false

-- at most one end line is of each greenlet
abbrev pub ends_once : List Line → Line → Bool
ends_once before (Line.End g o) = not (list_any (is_end_of g) before)
ends_once before line = true

-- the greenlet, if there is one, has no end line
abbrev pub none_ended : List Line → Option ℕ → Bool
none_ended before None = true
none_ended before (Some g) = not (list_any (is_end_of g) before)

-- no line of a greenlet follows its end line
abbrev pub nothing_after_end : List Line → Line → Bool
nothing_after_end before line = none_ended before (greenlet_of line)

-- it is a park line, or there is none
abbrev pub is_park : Option Line → Bool
is_park None = true
is_park (Some (Line.Park g w until)) = true
is_park (Some line) = false

-- before each throw line, the last line of its greenlet is a park line, or there is none
abbrev pub throws_at_parked : List Line → Line → Bool
throws_at_parked before (Line.Throw g f) = is_park (find (is_of g) before)
throws_at_parked before line = true

-- the greenlet has ended, and no link line has this number yet
abbrev pub link_once : List Line → ℕ → ℕ → Bool
link_once before k g = list_any (is_end_of g) before && not (list_any (is_link_line k) before)

-- each link line follows the end line of the greenlet whose link it is, and no two have the same number
abbrev pub links_after_end : List Line → Line → Bool
links_after_end before (Line.Link k g call) = link_once before k g
links_after_end before line = true

-- the moment of the latest turn line
abbrev pub last_moment_of : List Line → ℕ
last_moment_of [] = 0
last_moment_of (Line.Turn k answer ∷ before) = moment_of answer
last_moment_of (line ∷ before) = last_moment_of before

-- the moments of turn lines never fall
abbrev pub moments_rise : List Line → Line → Bool
moments_rise before (Line.Turn k answer) = nat_le (last_moment_of before) (moment_of answer)
moments_rise before line = true

-- it is the line of this job
abbrev pub is_job_line : ℕ → Line → Bool
is_job_line j (Line.Job i g job) = j == i
is_job_line j line = false

-- it is the turn line in which this job is done
abbrev pub is_done_line : ℕ → Line → Bool
is_done_line j (Line.Turn k (Answer.Done i o at)) = j == i
is_done_line j line = false

-- the same kind with the same content
abbrev pub outcome_eq : JobOutcome → JobOutcome → Bool
outcome_eq (JobOutcome.Int a) (JobOutcome.Int b) = int_eq a b
outcome_eq (JobOutcome.Fault a) (JobOutcome.Fault b) = fault_eq a b
outcome_eq a b = false

-- the line is that of a job that comes to this
abbrev pub gives_outcome : JobOutcome → Option Line → Bool
gives_outcome o (Some (Line.Job i g job)) = outcome_eq o (eval job)
gives_outcome o line = false

-- of each job that is done there is one earlier job line, no other done line, and the outcome is that of the job
abbrev pub jobs_done_once : List Line → Line → Bool
jobs_done_once before (Line.Turn k (Answer.Done j o at)) =
    (count_by (is_job_line j) before == 1) && not (list_any (is_done_line j) before) && gives_outcome o (find (is_job_line j) before)
jobs_done_once before line = true

-- the lines meet all six laws
abbrev pub meets_laws : List Line → Bool
meets_laws lines =
    each_line ends_once [] lines && each_line nothing_after_end [] lines && each_line throws_at_parked [] lines
    && each_line links_after_end [] lines && each_line moments_rise [] lines && each_line jobs_done_once [] lines
