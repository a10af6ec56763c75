-- The lines that there are: numbers fit their types, names are names, and lists have at most `MOST_ELEMENTS` scalars.
use Rattle.std.specs.Prelude.{ℕ, ◌^◌, ◌<◌, ◌≤◌, IsTrue, ℤ, pos, negsuc, List, [], ◌∷◌, length, Option, Some, None}
use Rattle.gv_values.specs.declared.fault.FaultKind.{FaultKind}
use Rattle.gv_values.specs.declared.scalar.Scalar.{Scalar}
use Rattle.gv_values.specs.declared.value.Value.{Value}
use Rattle.gv_values.specs.declared.value.Outcome.{Outcome}
use Rattle.gv_values.specs.declared.value.Whom.{Whom}
use Rattle.gv_values.specs.declared.job.Answer.{Answer}
use Rattle.gv_values.specs.declared.job.Job.{Job}
use Rattle.gv_values.specs.declared.job.JobOutcome.{JobOutcome}
use Rattle.gv_values.specs.Name.{is_name}
use Rattle.gv_values.specs.Texts.{Text}
use Rattle.trace_text.specs.declared.line.Awaited.{Awaited}
use Rattle.trace_text.specs.declared.line.Blocked.{Blocked}
use Rattle.trace_text.specs.declared.line.Line.{Line}
use Rattle.trace_text.specs.declared.line.LinkCall.{LinkCall}
use Rattle.trace_text.specs.declared.line.StopCause.{StopCause}
use Rattle.gv_values.specs.declared.limits.TheConstants.{MOST_ELEMENTS}

-- an integer of 64 bits
abbrev pub IntFits : ℤ → Type 0
IntFits (pos n) = n < 2 ^ 63
IntFits (negsuc n) = n < 2 ^ 63

abbrev pub FaultFits : FaultKind → Type 0
FaultFits (FaultKind.Timeout n) = n < 2 ^ 32
FaultFits (FaultKind.Error z) = IntFits z
FaultFits f = Unit {0}

abbrev pub ScalarFits : Scalar → Type 0
ScalarFits (Scalar.Int z) = IntFits z
ScalarFits (Scalar.Fault f) = FaultFits f
ScalarFits (Scalar.Greenlet g) = g < 2 ^ 32
ScalarFits (Scalar.Job j) = j < 2 ^ 32
ScalarFits s = Unit {0}

abbrev pub ScalarsFit : List Scalar → Type 0
ScalarsFit [] = Unit {0}
ScalarsFit (s ∷ ss) = ScalarFits s × ScalarsFit ss

abbrev pub ValueFits : Value → Type 0
ValueFits (Value.Int z) = IntFits z
ValueFits (Value.Fault f) = FaultFits f
ValueFits (Value.Greenlet g) = g < 2 ^ 32
ValueFits (Value.Job j) = j < 2 ^ 32
ValueFits (Value.List ss) = (length ss ≤ MOST_ELEMENTS) × ScalarsFit ss
ValueFits v = Unit {0}

abbrev pub OutcomeFits : Outcome → Type 0
OutcomeFits (Outcome.Value v) = ValueFits v
OutcomeFits (Outcome.Fault f) = FaultFits f

abbrev pub WhomFits : Whom → Type 0
WhomFits (Whom.Greenlet g) = g < 2 ^ 32
WhomFits (Whom.Job j) = j < 2 ^ 32

abbrev pub NameFits : Text → Type 0
NameFits name = IsTrue (is_name name)

abbrev pub AwaitedFits : Awaited → Type 0
AwaitedFits Awaited.Sleep = Unit {0}
AwaitedFits (Awaited.Join w) = WhomFits w
AwaitedFits (Awaited.Get w) = WhomFits w
AwaitedFits (Awaited.Kill w) = WhomFits w
AwaitedFits Awaited.JoinAll = Unit {0}
AwaitedFits Awaited.KillAll = Unit {0}
AwaitedFits (Awaited.Wait n) = NameFits n
AwaitedFits (Awaited.ResultGet n) = NameFits n
AwaitedFits (Awaited.ResultWait n) = NameFits n
AwaitedFits (Awaited.Acquire n) = NameFits n
AwaitedFits (Awaited.QueuePut n) = NameFits n
AwaitedFits (Awaited.QueueGet n) = NameFits n
AwaitedFits (Awaited.QueuePeek n) = NameFits n
AwaitedFits (Awaited.QueueJoin n) = NameFits n
AwaitedFits (Awaited.GroupSpawn n) = NameFits n
AwaitedFits (Awaited.GroupJoin n) = NameFits n
AwaitedFits (Awaited.GroupKill n) = NameFits n
AwaitedFits (Awaited.Map n) = NameFits n
AwaitedFits (Awaited.NativeSpawn n) = NameFits n
AwaitedFits (Awaited.ChannelPut n) = NameFits n
AwaitedFits (Awaited.ChannelGet n) = NameFits n

abbrev pub UntilFits : Option ℕ → Type 0
UntilFits None = Unit {0}
UntilFits (Some t) = t < 2 ^ 64

abbrev pub LinkCallFits : LinkCall → Type 0
LinkCallFits (LinkCall.Greenlet g) = g < 2 ^ 32
LinkCallFits (LinkCall.Mark n) = n < 2 ^ 32
LinkCallFits (LinkCall.Set name) = NameFits name

abbrev pub JobFits : Job → Type 0
JobFits (Job.Sum z) = IntFits z
JobFits (Job.Collatz z) = IntFits z
JobFits (Job.Fail z) = IntFits z
JobFits (Job.Echo z) = IntFits z

abbrev pub BlockedFits : Blocked → Type 0
BlockedFits (Blocked.Until t) = t < 2 ^ 64
BlockedFits b = Unit {0}

abbrev pub JobOutcomeFits : JobOutcome → Type 0
JobOutcomeFits (JobOutcome.Int z) = IntFits z
JobOutcomeFits (JobOutcome.Fault f) = FaultFits f

abbrev pub AnswerFits : Answer → Type 0
AnswerFits (Answer.Nothing at) = at < 2 ^ 64
AnswerFits (Answer.Elapsed at) = at < 2 ^ 64
AnswerFits (Answer.Done j o at) = (j < 2 ^ 32) × JobOutcomeFits o × (at < 2 ^ 64)

abbrev pub CauseFits : StopCause → Type 0
CauseFits (StopCause.Value v) = ValueFits v
CauseFits (StopCause.Fault f) = FaultFits f
CauseFits c = Unit {0}

-- the line is one that the type `Line` has
abbrev pub LineFits : Line → Type 0
LineFits (Line.Start g name) = (g < 2 ^ 32) × NameFits name
LineFits (Line.Print g v) = (g < 2 ^ 32) × ValueFits v
LineFits (Line.Park g a u) = (g < 2 ^ 32) × AwaitedFits a × UntilFits u
LineFits (Line.Resume g by) = g < 2 ^ 32
LineFits (Line.Throw g f) = (g < 2 ^ 32) × FaultFits f
LineFits (Line.Into g o) = (g < 2 ^ 32) × OutcomeFits o
LineFits (Line.End g o) = (g < 2 ^ 32) × OutcomeFits o
LineFits (Line.Link k g c) = (k < 2 ^ 32) × (g < 2 ^ 32) × LinkCallFits c
LineFits (Line.Job j g job) = (j < 2 ^ 32) × (g < 2 ^ 32) × JobFits job
LineFits (Line.Block b) = BlockedFits b
LineFits (Line.Turn k a) = (k < 2 ^ 64) × AnswerFits a
LineFits (Line.Stop c t m) = CauseFits c × (t < 2 ^ 64) × (m < 2 ^ 64)

-- each of the lines is one that the type has
abbrev pub LinesFit : List Line → Type 0
LinesFit [] = Unit {0}
LinesFit (line ∷ lines) = LineFits line × LinesFit lines
