-- The texts of the lines of a trace, and the answers that its turn lines name. This project's own format.
use Rattle.std.specs.Prelude.{ℕ, List, [], ◌∷◌, ◌++◌, Option, Some, None, codes}
use Rattle.gv_values.specs.declared.job.Answer.{Answer}
use Rattle.gv_values.specs.declared.job.Job.{Job}
use Rattle.gv_values.specs.declared.job.JobOutcome.{JobOutcome}
use Rattle.gv_values.specs.Texts.{Text, decimal, int_text, fault_text, value_text, outcome_text, greenlet_text, job_text, whom_text}
use Rattle.trace_text.specs.declared.line.Awaited.{Awaited}
use Rattle.trace_text.specs.declared.line.Blocked.{Blocked}
use Rattle.trace_text.specs.declared.line.Line.{Line}
use Rattle.trace_text.specs.declared.line.LinkCall.{LinkCall}
use Rattle.trace_text.specs.declared.line.Resumed.{Resumed}
use Rattle.trace_text.specs.declared.line.StopCause.{StopCause}

-- two texts with a blank between
abbrev pub and : Text → Text → Text
and a b = a ++ codes " " ++ b

-- the word of the statement, and what it waits on
abbrev pub awaited_text : Awaited → Text
awaited_text Awaited.Sleep = codes "sleep"
awaited_text (Awaited.Join whom) = and (codes "join") (whom_text whom)
awaited_text (Awaited.Get whom) = and (codes "get") (whom_text whom)
awaited_text (Awaited.Kill whom) = and (codes "kill") (whom_text whom)
awaited_text Awaited.JoinAll = codes "joinall"
awaited_text Awaited.KillAll = codes "killall"
awaited_text (Awaited.Wait name) = and (codes "wait") name
awaited_text (Awaited.ResultGet name) = and (codes "rget") name
awaited_text (Awaited.ResultWait name) = and (codes "rwait") name
awaited_text (Awaited.Acquire name) = and (codes "acquire") name
awaited_text (Awaited.QueuePut name) = and (codes "qput") name
awaited_text (Awaited.QueueGet name) = and (codes "qget") name
awaited_text (Awaited.QueuePeek name) = and (codes "qpeek") name
awaited_text (Awaited.QueueJoin name) = and (codes "qjoin") name
awaited_text (Awaited.GroupSpawn name) = and (codes "gspawn") name
awaited_text (Awaited.GroupJoin name) = and (codes "gjoin") name
awaited_text (Awaited.GroupKill name) = and (codes "gkill") name
awaited_text (Awaited.Map name) = and (codes "map") name
awaited_text (Awaited.NativeSpawn name) = and (codes "nspawn") name
awaited_text (Awaited.ChannelPut name) = and (codes "cput") name
awaited_text (Awaited.ChannelGet name) = and (codes "cget") name

-- the deadline, where there is one
abbrev pub until_text : Option ℕ → Text
until_text None = []
until_text (Some moment) = codes " until " ++ decimal moment

abbrev pub resumed_text : Resumed → Text
resumed_text Resumed.Wake = codes "wake"
resumed_text Resumed.Late = codes "late"

-- the new greenlet, the mark, or the event
abbrev pub link_call_text : LinkCall → Text
link_call_text (LinkCall.Greenlet g) = greenlet_text g
link_call_text (LinkCall.Mark n) = codes "mark " ++ decimal n
link_call_text (LinkCall.Set name) = codes "set " ++ name

-- the job's word and its integer
abbrev pub job_call_text : Job → Text
job_call_text (Job.Sum z) = codes "sum " ++ int_text z
job_call_text (Job.Collatz z) = codes "collatz " ++ int_text z
job_call_text (Job.Fail z) = codes "fail " ++ int_text z
job_call_text (Job.Echo z) = codes "echo " ++ int_text z

abbrev pub blocked_text : Blocked → Text
blocked_text (Blocked.Until moment) = decimal moment
blocked_text Blocked.Jobs = codes "jobs"
blocked_text Blocked.Nothing = codes "none"

abbrev pub job_outcome_text : JobOutcome → Text
job_outcome_text (JobOutcome.Int z) = codes "value " ++ int_text z
job_outcome_text (JobOutcome.Fault f) = codes "fault " ++ fault_text f

-- what was answered, with its moment
abbrev pub answer_text : Answer → Text
answer_text (Answer.Nothing at) = codes "nothing " ++ decimal at
answer_text (Answer.Elapsed at) = codes "elapsed " ++ decimal at
answer_text (Answer.Done number outcome at) = and (and (and (codes "done") (job_text number)) (decimal at)) (job_outcome_text outcome)

-- the end of main, or what there is no more of
abbrev pub cause_text : StopCause → Text
cause_text (StopCause.Value v) = codes "value " ++ value_text v
cause_text (StopCause.Fault f) = codes "fault " ++ fault_text f
cause_text StopCause.NoTurns = codes "no-turns"
cause_text StopCause.NoMoves = codes "no-moves"
cause_text StopCause.NoGreenlets = codes "no-greenlets"
cause_text StopCause.NoLinks = codes "no-links"
cause_text StopCause.NoKills = codes "no-kills"

-- the line, without its LF
abbrev pub line_text : Line → Text
line_text (Line.Start g function) = and (and (codes "start") (greenlet_text g)) function
line_text (Line.Print g v) = and (and (codes "print") (greenlet_text g)) (value_text v)
line_text (Line.Park g awaited until) = and (and (codes "park") (greenlet_text g)) (awaited_text awaited) ++ until_text until
line_text (Line.Resume g by) = and (resumed_text by) (greenlet_text g)
line_text (Line.Throw g f) = and (and (codes "throw") (greenlet_text g)) (fault_text f)
line_text (Line.Into g o) = and (and (codes "into") (greenlet_text g)) (outcome_text o)
line_text (Line.End g o) = and (and (codes "end") (greenlet_text g)) (outcome_text o)
line_text (Line.Link number g call) = and (and (and (codes "link") (decimal number)) (greenlet_text g)) (link_call_text call)
line_text (Line.Job number g job) = and (and (and (codes "job") (job_text number)) (greenlet_text g)) (job_call_text job)
line_text (Line.Block blocked) = and (codes "block") (blocked_text blocked)
line_text (Line.Turn number answer) = and (and (codes "turn") (decimal number)) (answer_text answer)
line_text (Line.Stop cause turns moves) = and (and (and (and (and (codes "stop") (cause_text cause)) (codes "turns")) (decimal turns)) (codes "moves")) (decimal moves)

-- the lines one after another, each with LF
abbrev pub text_of : List Line → Text
text_of [] = []
text_of (line ∷ lines) = line_text line ++ 10 ∷ text_of lines

-- the answers that the turn lines name, in order
abbrev pub answers_told : List Line → List Answer
answers_told [] = []
answers_told (Line.Turn number answer ∷ lines) = answer ∷ answers_told lines
answers_told (line ∷ lines) = answers_told lines
