-- How the lines of a trace are read.
use Rattle.std.specs.Prelude.{ℕ, ℤ, if◌then◌else◌, Option, Some, None, codes}
use Rattle.gv_values.specs.declared.value.Whom.{Whom}
use Rattle.gv_values.specs.declared.job.Answer.{Answer}
use Rattle.gv_values.specs.declared.job.Job.{Job}
use Rattle.gv_values.specs.declared.job.JobOutcome.{JobOutcome}
use Rattle.gv_values.specs.Texts.{Text}
use Rattle.trace_text.specs.declared.line.Awaited.{Awaited}
use Rattle.trace_text.specs.declared.line.Blocked.{Blocked}
use Rattle.trace_text.specs.declared.line.Line.{Line}
use Rattle.trace_text.specs.declared.line.LinkCall.{LinkCall}
use Rattle.trace_text.specs.declared.line.Resumed.{Resumed}
use Rattle.trace_text.specs.declared.line.StopCause.{StopCause}
use Rattle.trace_reader.specs.Fronts.{Front, and_then, after, or_else, strip, number_front, small_front, greenlet_front, job_front, int_front, name_front}
use Rattle.trace_reader.specs.ValueFronts.{is, as_kind, fault_front, starts_numeral, value_front, outcome_front}

unfoldable pub whom_front : Text → Front Whom
whom_front text =
    or_else (strip (codes "g") text) (λ rest. and_then (small_front rest) (as_kind (λ g. Whom.Greenlet g)))
    (after (strip (codes "j") text) (λ rest. and_then (small_front rest) (as_kind (λ j. Whom.Job j))))

abbrev pub of_whom : (Whom → Awaited) → Text → Front Awaited
of_whom kind rest = and_then (whom_front rest) (as_kind kind)

abbrev pub of_name : (Text → Awaited) → Text → Front Awaited
of_name kind rest = and_then (name_front rest) (as_kind kind)

-- a wait on channels
unfoldable pub channel_front : Text → Front Awaited
channel_front text =
    or_else (strip (codes "cput ") text) (of_name (λ n. Awaited.ChannelPut n))
    (after (strip (codes "cget ") text) (of_name (λ n. Awaited.ChannelGet n)))

-- a wait on groups and pools, or on these
unfoldable pub grouped_front : Text → Front Awaited
grouped_front text =
    or_else (strip (codes "gspawn ") text) (of_name (λ n. Awaited.GroupSpawn n))
    (or_else (strip (codes "gjoin ") text) (of_name (λ n. Awaited.GroupJoin n))
    (or_else (strip (codes "gkill ") text) (of_name (λ n. Awaited.GroupKill n))
    (or_else (strip (codes "map ") text) (of_name (λ n. Awaited.Map n))
    (or_else (strip (codes "nspawn ") text) (of_name (λ n. Awaited.NativeSpawn n))
    (channel_front text)))))

-- a wait on queues, or on these
unfoldable pub queued_front : Text → Front Awaited
queued_front text =
    or_else (strip (codes "qput ") text) (of_name (λ n. Awaited.QueuePut n))
    (or_else (strip (codes "qget ") text) (of_name (λ n. Awaited.QueueGet n))
    (or_else (strip (codes "qpeek ") text) (of_name (λ n. Awaited.QueuePeek n))
    (or_else (strip (codes "qjoin ") text) (of_name (λ n. Awaited.QueueJoin n))
    (grouped_front text))))

-- a wait on events, results and locks, or on these
unfoldable pub named_front : Text → Front Awaited
named_front text =
    or_else (strip (codes "wait ") text) (of_name (λ n. Awaited.Wait n))
    (or_else (strip (codes "rget ") text) (of_name (λ n. Awaited.ResultGet n))
    (or_else (strip (codes "rwait ") text) (of_name (λ n. Awaited.ResultWait n))
    (or_else (strip (codes "acquire ") text) (of_name (λ n. Awaited.Acquire n))
    (queued_front text))))

-- a wait on several greenlets, or on what has a name
unfoldable pub joined_front : Text → Front Awaited
joined_front text =
    or_else (strip (codes "joinall") text) (is Awaited.JoinAll)
    (or_else (strip (codes "killall") text) (is Awaited.KillAll)
    (named_front text))

unfoldable pub awaited_front : Text → Front Awaited
awaited_front text =
    or_else (strip (codes "sleep") text) (is Awaited.Sleep)
    (or_else (strip (codes "join ") text) (of_whom (λ w. Awaited.Join w))
    (or_else (strip (codes "get ") text) (of_whom (λ w. Awaited.Get w))
    (or_else (strip (codes "kill ") text) (of_whom (λ w. Awaited.Kill w))
    (joined_front text))))

unfoldable pub until_front : Text → Front (Option ℕ)
until_front text = or_else (strip (codes " until ") text) (λ rest. and_then (number_front rest) (as_kind (λ t. Some t))) (Some (None, text))

unfoldable pub link_call_front : Text → Front LinkCall
link_call_front text =
    or_else (strip (codes "mark ") text) (λ rest. and_then (small_front rest) (as_kind (λ n. LinkCall.Mark n)))
    (or_else (strip (codes "set ") text) (λ rest. and_then (name_front rest) (as_kind (λ n. LinkCall.Set n)))
    (and_then (greenlet_front text) (as_kind (λ g. LinkCall.Greenlet g))))

abbrev pub of_int : (ℤ → Job) → Text → Front Job
of_int kind rest = and_then (int_front rest) (as_kind kind)

unfoldable pub job_call_front : Text → Front Job
job_call_front text =
    or_else (strip (codes "sum ") text) (of_int (λ z. Job.Sum z))
    (or_else (strip (codes "collatz ") text) (of_int (λ z. Job.Collatz z))
    (or_else (strip (codes "fail ") text) (of_int (λ z. Job.Fail z))
    (after (strip (codes "echo ") text) (of_int (λ z. Job.Echo z)))))

unfoldable pub blocked_front : Text → Front Blocked
blocked_front text =
    if starts_numeral text then and_then (number_front text) (as_kind (λ t. Blocked.Until t))
    else or_else (strip (codes "jobs") text) (is Blocked.Jobs) (after (strip (codes "none") text) (is Blocked.Nothing))

unfoldable pub job_outcome_front : Text → Front JobOutcome
job_outcome_front text =
    or_else (strip (codes "value ") text) (λ rest. and_then (int_front rest) (as_kind (λ z. JobOutcome.Int z)))
    (after (strip (codes "fault ") text) (λ rest. and_then (fault_front rest) (as_kind (λ f. JobOutcome.Fault f))))

unfoldable pub done_front : Text → Front Answer
done_front text =
    and_then (job_front text) (λ j rest. after (strip (codes " ") rest) (λ rest.
    and_then (number_front rest) (λ at rest. after (strip (codes " ") rest) (λ rest.
    and_then (job_outcome_front rest) (λ o rest. Some (Answer.Done j o at, rest))))))

unfoldable pub answer_front : Text → Front Answer
answer_front text =
    or_else (strip (codes "nothing ") text) (λ rest. and_then (number_front rest) (as_kind (λ at. Answer.Nothing at)))
    (or_else (strip (codes "elapsed ") text) (λ rest. and_then (number_front rest) (as_kind (λ at. Answer.Elapsed at)))
    (after (strip (codes "done ") text) done_front))

-- what there is no more of
unfoldable pub limit_front : Text → Front StopCause
limit_front text =
    or_else (strip (codes "no-turns") text) (is StopCause.NoTurns)
    (or_else (strip (codes "no-moves") text) (is StopCause.NoMoves)
    (or_else (strip (codes "no-greenlets") text) (is StopCause.NoGreenlets)
    (or_else (strip (codes "no-links") text) (is StopCause.NoLinks)
    (after (strip (codes "no-kills") text) (is StopCause.NoKills)))))

unfoldable pub cause_front : Text → Front StopCause
cause_front text =
    or_else (strip (codes "value ") text) (λ rest. and_then (value_front rest) (as_kind (λ v. StopCause.Value v)))
    (or_else (strip (codes "fault ") text) (λ rest. and_then (fault_front rest) (as_kind (λ f. StopCause.Fault f)))
    (limit_front text))

-- a greenlet and a blank, and what comes next of it
abbrev pub of_greenlet : {B : Type 0} → (ℕ → Text → Front B) → Text → Front B
of_greenlet next text = and_then (greenlet_front text) (λ g rest. after (strip (codes " ") rest) (next g))

unfoldable pub start_front : ℕ → Text → Front Line
start_front g text = and_then (name_front text) (as_kind (λ n. Line.Start g n))

unfoldable pub print_front : ℕ → Text → Front Line
print_front g text = and_then (value_front text) (as_kind (λ v. Line.Print g v))

unfoldable pub park_front : ℕ → Text → Front Line
park_front g text = and_then (awaited_front text) (λ a rest. and_then (until_front rest) (as_kind (λ u. Line.Park g a u)))

unfoldable pub throw_front : ℕ → Text → Front Line
throw_front g text = and_then (fault_front text) (as_kind (λ f. Line.Throw g f))

unfoldable pub into_front : ℕ → Text → Front Line
into_front g text = and_then (outcome_front text) (as_kind (λ o. Line.Into g o))

unfoldable pub end_front : ℕ → Text → Front Line
end_front g text = and_then (outcome_front text) (as_kind (λ o. Line.End g o))

unfoldable pub link_front : Text → Front Line
link_front text =
    and_then (small_front text)
    (λ k rest. after (strip (codes " ") rest) (of_greenlet (λ g rest. and_then (link_call_front rest) (as_kind (λ c. Line.Link k g c)))))

unfoldable pub job_line_front : Text → Front Line
job_line_front text =
    and_then (job_front text)
    (λ j rest. after (strip (codes " ") rest) (of_greenlet (λ g rest. and_then (job_call_front rest) (as_kind (λ c. Line.Job j g c)))))

unfoldable pub turn_front : Text → Front Line
turn_front text =
    and_then (number_front text) (λ k rest. after (strip (codes " ") rest) (λ rest. and_then (answer_front rest) (as_kind (λ a. Line.Turn k a))))

unfoldable pub stop_front : Text → Front Line
stop_front text =
    and_then (cause_front text) (λ c rest. after (strip (codes " turns ") rest) (λ rest.
    and_then (number_front rest) (λ t rest. after (strip (codes " moves ") rest) (λ rest.
    and_then (number_front rest) (λ m rest. Some (Line.Stop c t m, rest))))))

-- a greenlet that goes on or ends
unfoldable pub resumed_line_front : Text → Front Line
resumed_line_front text =
    or_else (strip (codes "late ") text) (λ rest. and_then (greenlet_front rest) (as_kind (λ g. Line.Resume g Resumed.Late)))
    (or_else (strip (codes "throw ") text) (of_greenlet throw_front)
    (or_else (strip (codes "into ") text) (of_greenlet into_front)
    (after (strip (codes "end ") text) (of_greenlet end_front))))

-- the lines of a greenlet
unfoldable pub greenlet_line_front : Text → Front Line
greenlet_line_front text =
    or_else (strip (codes "start ") text) (of_greenlet start_front)
    (or_else (strip (codes "print ") text) (of_greenlet print_front)
    (or_else (strip (codes "park ") text) (of_greenlet park_front)
    (or_else (strip (codes "wake ") text) (λ rest. and_then (greenlet_front rest) (as_kind (λ g. Line.Resume g Resumed.Wake)))
    (resumed_line_front text))))

unfoldable pub line_front : Text → Front Line
line_front text =
    or_else (strip (codes "link ") text) link_front
    (or_else (strip (codes "job ") text) job_line_front
    (or_else (strip (codes "block ") text) (λ rest. and_then (blocked_front rest) (as_kind (λ b. Line.Block b)))
    (or_else (strip (codes "turn ") text) turn_front
    (or_else (strip (codes "stop ") text) stop_front
    (greenlet_line_front text)))))
