-- What is kept of the lines of a trace to see whether the next one keeps the laws.
use Rattle.std.specs.Prelude.{◌≡◌, ◌||◌, ◌&&◌, ℕ, Bool, true, false, not, List, [], ◌∷◌, ◌++◌, Option, Some, None, if◌then◌else◌, nat_lt, nat_eq, unwrap_or, is_some, count_by, find, Result, Ok, Err}
use Rattle.std.specs.HashMap.{get}
use Rattle.std.specs.HashSet as set
use Rattle.std.specs.List.{list_any}
use Rattle.gv_values.specs.declared.job.Answer.{Answer}
use Rattle.gv_values.specs.declared.job.JobOutcome.{JobOutcome}
use Rattle.world_rules.specs.Evaluate.{eval}
use Rattle.world_rules.specs.Legal.{moment_of}
use Rattle.trace_text.specs.declared.line.Line.{Line}
use Rattle.machine.specs.TraceLaws.{greenlet_of, is_done_line, is_end_of, is_job_line, is_link_line, is_of, last_moment_of, outcome_eq}
use Rattle.trace_laws.specs.declared.laws.JobNote.{JobNote}
use Rattle.trace_laws.specs.declared.laws.LawRefusal.{LawRefusal}
use Rattle.trace_laws.specs.declared.laws.Laws.{Laws}
use Rattle.trace_laws.specs.declared.laws.GreenletStage.{GreenletStage}
use Rattle.trace_laws.specs.Lawful.{broken_law}

-- ---- what is kept

-- these lines, the latest first, and the others before them
abbrev pub backwards : List Line → List Line → List Line
backwards before [] = before
backwards before (line ∷ lines) = backwards (line ∷ before) lines

-- how a line leaves its greenlet
abbrev pub stage_of : Line → GreenletStage
stage_of (Line.Park g awaited until) = GreenletStage.Parked
stage_of (Line.End g outcome) = GreenletStage.Ended
stage_of line = GreenletStage.Moving

-- how a greenlet is left by its last line
abbrev pub stage_by : Option Line → GreenletStage
stage_by None = GreenletStage.Unseen
stage_by (Some line) = stage_of line

abbrev pub is_stage_ended : GreenletStage → Bool
is_stage_ended GreenletStage.Ended = true
is_stage_ended stage = false

abbrev pub is_moving : GreenletStage → Bool
is_moving GreenletStage.Moving = true
is_moving stage = false

-- what is kept of a job, of which this is the last job line; there were more before it, and its done line has come
abbrev pub note_of : Option Line → Bool → Bool → Option JobNote
note_of (Some (Line.Job j g job)) again done = Some (record { job = job; again = again; done = done })
note_of line again done = None

-- the stage that is kept of a greenlet
abbrev pub kept_stage : Laws → ℕ → GreenletStage
kept_stage laws g = unwrap_or (get nat_eq laws.greenlets g) GreenletStage.Unseen

-- What is kept is that of lines that break no law: it stands for them.
pub record StandsFor (laws : Laws) (lines : List Line) : Type 0 where
  pub unbroken : laws.broken ≡ None
  pub lawful : broken_law lines ≡ None
  pub stages : (g : ℕ) → kept_stage laws g ≡ stage_by (find (is_of g) (backwards [] lines))
  pub ends : (g : ℕ) → is_stage_ended (kept_stage laws g) ≡ list_any (is_end_of g) (backwards [] lines)
  pub links : (k : ℕ) → set.contains nat_eq laws.links k ≡ list_any (is_link_line k) (backwards [] lines)
  pub moment : laws.moment ≡ last_moment_of (backwards [] lines)
  pub undone : (j : ℕ) → find (is_job_line j) (backwards [] lines) ≡ None → list_any (is_done_line j) (backwards [] lines) ≡ false
  pub jobs : (j : ℕ) → get nat_eq laws.jobs j
      ≡ note_of (find (is_job_line j) (backwards [] lines)) (nat_lt 1 (count_by (is_job_line j) (backwards [] lines))) (list_any (is_done_line j) (backwards [] lines))

-- ---- what a line changes

-- the stage of the greenlet after a line of this one, which leaves that one so
abbrev pub stage_if : Option ℕ → ℕ → GreenletStage → GreenletStage → GreenletStage
stage_if None g left stage = stage
stage_if (Some h) g left stage = if nat_eq h g then left else stage

abbrev pub link_after : Line → ℕ → Bool → Bool
link_after (Line.Link i g call) k has = if nat_eq i k then true else has
link_after line k has = has

-- its done line has come
abbrev pub was_done : Option JobNote → Bool
was_done None = false
was_done (Some note) = note.done

abbrev pub as_done : Option JobNote → Option JobNote
as_done None = None
as_done (Some note) = Some (record { job = note.job; again = note.again; done = true })

abbrev pub note_after : Line → ℕ → Option JobNote → Option JobNote
note_after (Line.Job i g job) j note = if nat_eq i j then Some (record { job = job; again = is_some note; done = was_done note }) else note
note_after (Line.Turn k (Answer.Done i outcome at)) j note = if nat_eq i j then as_done note else note
note_after line j note = note

abbrev pub moment_after : Line → ℕ → ℕ
moment_after (Line.Turn k answer) moment = moment_of answer
moment_after line moment = moment

-- what is kept after the line
pub record KeepsMore (old new : Laws) (line : Line) : Type 0 where
  pub stages : (g : ℕ) → kept_stage new g ≡ stage_if (greenlet_of line) g (stage_of line) (kept_stage old g)
  pub links : (k : ℕ) → set.contains nat_eq new.links k ≡ link_after line k (set.contains nat_eq old.links k)
  pub jobs : (j : ℕ) → get nat_eq new.jobs j ≡ note_after line j (get nat_eq old.jobs j)
  pub moment : new.moment ≡ moment_after line old.moment
  pub broken : new.broken ≡ old.broken

-- the same is kept
pub record KeepsSame (old new : Laws) : Type 0 where
  pub stages : (g : ℕ) → kept_stage new g ≡ kept_stage old g
  pub links : (k : ℕ) → set.contains nat_eq new.links k ≡ set.contains nat_eq old.links k
  pub jobs : (j : ℕ) → get nat_eq new.jobs j ≡ get nat_eq old.jobs j
  pub moment : new.moment ≡ old.moment
  pub broken : new.broken ≡ old.broken

-- of what is kept only that of this greenlet changed
pub record ChangesStage (old new : Laws) (g : ℕ) (stage : GreenletStage) : Type 0 where
  pub stages : (h : ℕ) → get nat_eq new.greenlets h ≡ (if nat_eq g h then Some stage else get nat_eq old.greenlets h)
  pub links : new.links ≡ old.links
  pub jobs : new.jobs ≡ old.jobs
  pub moment : new.moment ≡ old.moment
  pub broken : new.broken ≡ old.broken

-- of what is kept only that of this job changed
pub record ChangesNote (old new : Laws) (j : ℕ) (note : JobNote) : Type 0 where
  pub notes : (i : ℕ) → get nat_eq new.jobs i ≡ (if nat_eq j i then Some note else get nat_eq old.jobs i)
  pub greenlets : new.greenlets ≡ old.greenlets
  pub links : new.links ≡ old.links
  pub moment : new.moment ≡ old.moment
  pub broken : new.broken ≡ old.broken

-- the done line of this job has come
pub record EndsJob (old new : Laws) (j : ℕ) : Type 0 where
  pub notes : (i : ℕ) → get nat_eq new.jobs i ≡ (if nat_eq j i then as_done (get nat_eq old.jobs i) else get nat_eq old.jobs i)
  pub greenlets : new.greenlets ≡ old.greenlets
  pub links : new.links ≡ old.links
  pub moment : new.moment ≡ old.moment
  pub broken : new.broken ≡ old.broken

-- ---- the next line

-- the number where the test fails
abbrev pub breaks_if : ℕ → Bool → Option ℕ
breaks_if n true = Some n
breaks_if n false = None

-- the first of two
abbrev pub or_other : Option ℕ → Option ℕ → Option ℕ
or_other (Some n) other = Some n
or_other None other = other

-- the job that is kept so comes to this outcome, once
abbrev pub is_due : JobOutcome → Option JobNote → Bool
is_due outcome None = false
is_due outcome (Some note) = not note.again && not note.done && outcome_eq outcome (eval note.job)

-- the answer breaks the law on jobs
abbrev pub kept_answer : Laws → Answer → Option ℕ
kept_answer laws (Answer.Done j outcome at) = breaks_if 6 (not (is_due outcome (get nat_eq laws.jobs j)))
kept_answer laws answer = None

-- a line of the greenlet, if it is one's, comes after its end
abbrev pub kept_after : Laws → Option ℕ → Option ℕ
kept_after laws None = None
kept_after laws (Some g) = breaks_if 2 (is_stage_ended (kept_stage laws g))

-- the law that this line breaks, by what is kept of those before it
abbrev pub kept_break : Laws → Line → Option ℕ
kept_break laws (Line.End g outcome) = breaks_if 1 (is_stage_ended (kept_stage laws g))
kept_break laws (Line.Throw g fault) = or_other (breaks_if 2 (is_stage_ended (kept_stage laws g))) (breaks_if 3 (is_moving (kept_stage laws g)))
kept_break laws (Line.Link k g call) = breaks_if 4 (not (is_stage_ended (kept_stage laws g)) || set.contains nat_eq laws.links k)
kept_break laws (Line.Turn k answer) = or_other (breaks_if 5 (nat_lt (moment_of answer) laws.moment)) (kept_answer laws answer)
kept_break laws line = kept_after laws (greenlet_of line)

-- the line was counted, where the lines with it break no law, or memory ran out; or this law is the least that they break
abbrev pub IsJudgedBy : Option ℕ → Laws → List Line → Line → Result (Unit {0}) LawRefusal → Type 0
IsJudgedBy None new lines line (Ok u) = StandsFor new (lines ++ line ∷ [])
IsJudgedBy None new lines line (Err LawRefusal.Memory) = StandsFor new lines
IsJudgedBy None new lines line (Err (LawRefusal.Broken n)) = ⊥
IsJudgedBy (Some law) new lines line result = result ≡ Err (LawRefusal.Broken law)

abbrev pub IsJudgedNext : Laws → List Line → Line → Result (Unit {0}) LawRefusal → Type 0
IsJudgedNext new lines line result = IsJudgedBy (broken_law (lines ++ line ∷ [])) new lines line result

-- where a law is broken, that is kept
abbrev pub BreaksOn : Laws → LawRefusal → Type 0
BreaksOn laws (LawRefusal.Broken n) = laws.broken ≡ Some n
BreaksOn laws LawRefusal.Memory = laws.broken ≡ None
