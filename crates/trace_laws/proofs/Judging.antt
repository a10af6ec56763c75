-- A trace is judged in one way alone.
use Rattle.std.proofs.Common.{◌≡◌, ◌≢◌, refl, ap, sym, ◌∙◌, subst, ℕ, ◌+◌, List, [], ◌∷◌, ◌++◌, length, append_assoc}
use Rattle.std.proofs.lemmas.List.{append-nil}
use Rattle.std.specs.Prelude.{Result, Ok, Err}
use Rattle.gv_values.specs.declared.job.Answer.{Answer}
use Rattle.gv_values.specs.Texts.{Text}
use Rattle.world_rules.specs.declared.question.LogEntry.{LogEntry}
use Rattle.world_rules.specs.declared.question.PostedJob.{PostedJob}
use Rattle.world_rules.specs.declared.question.Question.{Question}
use Rattle.world_rules.specs.Legal.{AreLegal, IsLegal, posted, posts_of, answers_of as answers_in}
use Rattle.trace_text.specs.declared.line.Line.{Line}
use Rattle.trace_text.specs.declared.line.StopCause.{StopCause}
use Rattle.trace_text.specs.Line.{answers_told, text_of}
use Rattle.machine.specs.Run.{End, Ran}
use Rattle.machine_turns.specs.Logs.{TakesFirst}
use Rattle.trace_laws.specs.Traces.{BeginsWithLine}
use Rattle.trace_laws.specs.Check.{AreFirst, AreWhole, IsCause, IsVerified, IsWrong, NameLegal, Runs, named_run}
use Rattle.trace_laws.specs.Answers.{IsJudged, IsSameAnswer}
use Rattle.trace_laws.specs.declared.refusal.Cause.{Cause}
use Rattle.trace_laws.specs.declared.refusal.TraceRefusal.{TraceRefusal}
use Rattle.trace_laws.proofs.Answering.{AsksNext, Continues}
use Rattle.trace_laws.proofs.Lines.{Compared, answer_of, answers_last, compared, none_begins, same_back, same_line, same_turn}

-- what is so of a run under each list of answers: it stops, or goes on with the turn line of the next; its turn lines
-- have the answers of its log, which are the first that it was given
pub record TakesInTurn (whole : Runs) : Type 0 where
  pub goes : (answers : List Answer) → Continues (whole answers).end answers (whole answers) (λ more. whole (answers ++ more))
  pub told : (answers : List Answer) → answers_told (whole answers).lines ≡ answers_in (whole answers).log
  pub takes : (answers : List Answer) → TakesFirst answers (whole answers).log

-- ---- legal logs

pub legal_front : (posts : List PostedJob) (answers : List Answer) (log more : List LogEntry) → AreLegal posts answers (log ++ more) → AreLegal posts answers log
legal_front posts answers [] more h = tt
legal_front posts answers (LogEntry.Post n j t ∷ log) more h = legal_front (posts ++ posted n j ∷ []) answers log more h
legal_front posts answers (LogEntry.Asked q a ∷ log) more h = (h.0, legal_front posts (answers ++ a ∷ []) log more h.1)

-- the answer behind a part of the log is legal
pub legal_next : (posts : List PostedJob) (answers : List Answer) (log : List LogEntry) (q : Question) (a : Answer) (later : List LogEntry) →
    AreLegal posts answers (log ++ LogEntry.Asked q a ∷ later) → IsLegal (posts ++ posts_of log) (answers ++ answers_in log) q a
legal_next posts answers [] q a later h = subst (λ ps. IsLegal ps (answers ++ []) q a) (sym (append-nil posts)) (subst (λ z. IsLegal posts z q a) (sym (append-nil answers)) h.0)
legal_next posts answers (LogEntry.Post n j t ∷ log) q a later h =
    subst (λ ps. IsLegal ps (answers ++ answers_in log) q a) (append_assoc posts (posted n j ∷ []) (posts_of log)) (legal_next (posts ++ posted n j ∷ []) answers log q a later h)
legal_next posts answers (LogEntry.Asked p b ∷ log) q a later h =
    subst (λ z. IsLegal (posts ++ posts_of log) z q a) (append_assoc answers (b ∷ []) (answers_in log)) (legal_next posts (answers ++ b ∷ []) log q a later h.1)

-- ---- one line more

-- the run under the answers of the lines and one more: it is the same where the line names no answer, or where the run
-- has stopped; else the line is a turn line, and the run asks
pub data Onward (whole : Runs) (xs : List Line) (l : Line) : Type 0 where
  Silent : answer_of l ≡ [] → named_run whole (xs ++ l ∷ []) ≡ named_run whole xs → Onward whole xs l
  Stopped : (named_run whole xs).end ≢ End.Asking → named_run whole (xs ++ l ∷ []) ≡ named_run whole xs → Onward whole xs l
  Asked : (k : ℕ) (b : Answer) → l ≡ Line.Turn k b → (named_run whole xs).end ≡ End.Asking → AsksNext (answers_told xs) (named_run whole xs) (λ more. whole (answers_told xs ++ more)) →
      named_run whole (xs ++ l ∷ []) ≡ whole (answers_told xs ++ b ∷ []) → Onward whole xs l

-- a line names an answer or none
data Names (l : Line) : Type 0 where
  One : (k : ℕ) (b : Answer) → l ≡ Line.Turn k b → Names l
  None : answer_of l ≡ [] → Names l

names : (l : Line) → Names l
names (Line.Turn k b) = Names.One k b refl
names l = Names.None refl

stopped_is_not : (end : End) (cause : StopCause) → end ≡ End.Stopped cause → end ≢ End.Asking
stopped_is_not end cause e f = let z : End.Stopped cause ≡ End.Asking = sym e ∙ f in absurd (let w : ⊥ = cc z in w)

pub onward : (whole : Runs) → TakesInTurn whole → (xs : List Line) (l : Line) → Onward whole xs l
onward whole t xs l = by (names l)
  where
    more_is : named_run whole (xs ++ l ∷ []) ≡ whole (answers_told xs ++ answer_of l)
    more_is = ap whole (answers_last xs l)

    asked : (k : ℕ) (b : Answer) → l ≡ Line.Turn k b → (end : End) → (named_run whole xs).end ≡ end →
        Continues end (answers_told xs) (named_run whole xs) (λ more. whole (answers_told xs ++ more)) → Onward whole xs l
    asked k b e (End.Stopped cause) f h =
        Onward.Stopped (stopped_is_not (named_run whole xs).end cause f) (more_is ∙ h (answer_of l))
    asked k b e End.Asking f h = Onward.Asked k b e f h (more_is ∙ ap (λ (z : Line). whole (answers_told xs ++ answer_of z)) e)

    by : Names l → Onward whole xs l
    by (Names.One k b e) = asked k b e (named_run whole xs).end refl (t.goes (answers_told xs))
    by (Names.None e) = Onward.Silent e (more_is ∙ ap (λ (z : List Answer). whole (answers_told xs ++ z)) e ∙ ap whole (append-nil (answers_told xs)))

-- the run that stopped is the same under more answers
pub stays : (whole : Runs) → TakesInTurn whole → (answers more : List Answer) → (whole answers).end ≢ End.Asking → whole (answers ++ more) ≡ whole answers
stays whole t answers more n = by (whole answers).end n (t.goes answers)
  where
    by : (end : End) → end ≢ End.Asking → Continues end answers (whole answers) (λ later. whole (answers ++ later)) → whole (answers ++ more) ≡ whole answers
    by (End.Stopped cause) n h = h more
    by End.Asking n h = absurd (n refl)

-- where the lines and one more are the first of the run, and the run under the answers of the lines asks, the lines are
-- all its lines, and the line has the number of its turn
pub lines_before : (whole : Runs) → TakesInTurn whole → (xs : List Line) (l : Line) (k : ℕ) (b : Answer) → l ≡ Line.Turn k b →
    (h : AsksNext (answers_told xs) (named_run whole xs) (λ more. whole (answers_told xs ++ more))) (rest : List Line) →
    (whole (answers_told xs ++ b ∷ [])).lines ≡ (xs ++ l ∷ []) ++ rest → ((named_run whole xs).lines ≡ xs) × (h.number ≡ k)
lines_before whole t xs l k b e h rest f =
    let a = h.next b [] in
    let here : (named_run whole xs).lines ++ Line.Turn h.number b ∷ a.lines ≡ xs ++ Line.Turn k b ∷ rest =
    sym a.lines_are ∙ f ∙ append_assoc xs (l ∷ []) rest ∙ ap (λ (z : Line). xs ++ z ∷ rest) e in
    let s = same_turn (named_run whole xs).lines xs a.lines rest h.number k b b here (t.told (answers_told xs) ∙ h.taken) in
    (s.0, s.1)

-- the lines are the first of the run, and their answers legal where those of one line more are
pub record AreClosed (whole : Runs) (xs : List Line) (l : Line) : Type 0 where
  pub first : AreFirst whole xs
  pub legal : NameLegal whole (xs ++ l ∷ []) → NameLegal whole xs

pub closed : (whole : Runs) → TakesInTurn whole → (xs : List Line) (l : Line) → AreFirst whole (xs ++ l ∷ []) → AreClosed whole xs l
closed whole t xs l g = by (onward whole t xs l)
  where
    same : named_run whole (xs ++ l ∷ []) ≡ named_run whole xs → AreClosed whole xs l
    same e = record {
      first = record { rest = l ∷ g.rest; is = ap (λ (r : Ran). r.lines) (sym e) ∙ g.is ∙ append_assoc xs (l ∷ []) g.rest };
      legal = λ h. subst (λ (r : Ran). AreLegal [] [] r.log) e h;
    }

    by : Onward whole xs l → AreClosed whole xs l
    by (Onward.Silent n e) = same e
    by (Onward.Stopped n e) = same e
    by (Onward.Asked k b e end h f) =
        let s = lines_before whole t xs l k b e h g.rest (ap (λ (r : Ran). r.lines) (sym f) ∙ g.is) in
        record {
          first = record { rest = []; is = s.0 ∙ sym (append-nil xs) };
          legal = λ m. legal_front [] [] (named_run whole xs).log (LogEntry.Asked h.question b ∷ (h.next b []).later)
              (subst (λ log. AreLegal [] [] log) (h.next b []).log_is (subst (λ (r : Ran). AreLegal [] [] r.log) f m));
        }

-- the first lines of such lines are so too
pub record AreTold (whole : Runs) (lines : List Line) : Type 0 where
  pub first : AreFirst whole lines
  pub legal : NameLegal whole lines

pub told_front : (whole : Runs) → TakesInTurn whole → (xs ys : List Line) → AreTold whole (xs ++ ys) → AreTold whole xs
told_front whole t xs [] h = subst (AreTold whole) (append-nil xs) h
told_front whole t xs (y ∷ ys) h =
    let one = told_front whole t (xs ++ y ∷ []) ys (subst (AreTold whole) (sym (append_assoc xs (y ∷ []) ys)) h) in
    let c = closed whole t xs y one.first in
    record { first = c.first; legal = c.legal one.legal }

-- ---- the end

pub not_longer : {A : Type 0} (xs : List A) (x : A) (ys : List A) → xs ≡ xs ++ x ∷ ys → ⊥
not_longer xs x ys e = let f : [] ≡ x ∷ ys = same_back xs [] (x ∷ ys) (append-nil xs ∙ e) in absurd (let z : ⊥ = cc f in z)

-- no line follows those of a run that has stopped
pub nothing_follows : (whole : Runs) → TakesInTurn whole → (xs : List Line) (l : Line) → AreWhole whole xs → AreFirst whole (xs ++ l ∷ []) → ⊥
nothing_follows whole t xs l w g = by (onward whole t xs l)
  where
    same : named_run whole (xs ++ l ∷ []) ≡ named_run whole xs → ⊥
    same e = not_longer xs l g.rest (sym w.lines_are ∙ ap (λ (r : Ran). r.lines) (sym e) ∙ g.is ∙ append_assoc xs (l ∷ []) g.rest)

    by : Onward whole xs l → ⊥
    by (Onward.Silent n e) = same e
    by (Onward.Stopped n e) = same e
    by (Onward.Asked k b e end h f) = w.stops end

-- ---- one judgement

-- where there is a cause, the next line is not one of the run under legal answers
pub no_cause : (whole : Runs) → TakesInTurn whole → (before : List Line) (rest : Text) (cause : Cause) (l : Line) → IsCause whole before rest cause → BeginsWithLine rest l →
    AreTold whole (before ++ l ∷ []) → ⊥
no_cause whole t before rest Cause.TooShort l c b h = none_begins l (subst (λ r. BeginsWithLine r l) c.0 b)
no_cause whole t before rest Cause.PastEnd l c b h = nothing_follows whole t before l c.1 h.first
no_cause whole t before rest Cause.NotALine l c b h = c.2 l b
no_cause whole t before rest Cause.NotLegal l c b h =
    c.1.illegal (subst (λ (z : Line). NameLegal whole (before ++ z ∷ [])) (same_line rest l c.1.line b c.1.begins).0 h.legal)
no_cause whole t before rest Cause.OtherLine l c b h =
    c.1.other (subst (λ (z : Line). AreFirst whole (before ++ z ∷ [])) (same_line rest l c.1.line b c.1.begins).0 h.first)

-- a cause that the rest is not empty, or that it begins with a line
rest_there : (whole : Runs) (before : List Line) (rest : Text) (cause : Cause) → IsCause whole before rest cause → rest ≡ [] → cause ≡ Cause.TooShort
rest_there whole before rest Cause.TooShort c e = refl
rest_there whole before rest Cause.PastEnd c e = absurd (c.0 e)
rest_there whole before rest Cause.NotALine c e = absurd (c.0 e)
rest_there whole before rest Cause.NotLegal c e = absurd (none_begins c.1.line (subst (λ r. BeginsWithLine r c.1.line) e c.1.begins))
rest_there whole before rest Cause.OtherLine c e = absurd (none_begins c.1.line (subst (λ r. BeginsWithLine r c.1.line) e c.1.begins))

-- the cause that the run has stopped
stopped_there : (whole : Runs) (before : List Line) (rest : Text) (cause : Cause) → IsCause whole before rest cause → AreWhole whole before → cause ≡ Cause.PastEnd
stopped_there whole before rest Cause.TooShort c w = absurd (c.1 w)
stopped_there whole before rest Cause.PastEnd c w = refl
stopped_there whole before rest Cause.NotALine c w = absurd (c.1 w)
stopped_there whole before rest Cause.NotLegal c w = absurd (c.0 w)
stopped_there whole before rest Cause.OtherLine c w = absurd (c.0 w)

same_cause : (whole : Runs) (before : List Line) (rest : Text) (cause other : Cause) → IsCause whole before rest cause → IsCause whole before rest other → cause ≡ other
same_cause whole before rest Cause.TooShort other c d = sym (rest_there whole before rest other d c.0)
same_cause whole before rest Cause.PastEnd other c d = sym (stopped_there whole before rest other d c.1)
same_cause whole before rest cause Cause.TooShort c d = rest_there whole before rest cause c d.0
same_cause whole before rest cause Cause.PastEnd c d = stopped_there whole before rest cause c d.1
same_cause whole before rest Cause.NotALine Cause.NotALine c d = refl
same_cause whole before rest Cause.NotALine Cause.NotLegal c d = absurd (c.2 d.1.line d.1.begins)
same_cause whole before rest Cause.NotALine Cause.OtherLine c d = absurd (c.2 d.1.line d.1.begins)
same_cause whole before rest Cause.NotLegal Cause.NotALine c d = absurd (d.2 c.1.line c.1.begins)
same_cause whole before rest Cause.NotLegal Cause.NotLegal c d = refl
same_cause whole before rest Cause.NotLegal Cause.OtherLine c d =
    absurd (d.1.other (subst (λ (z : Line). AreFirst whole (before ++ z ∷ [])) (same_line rest c.1.line d.1.line c.1.begins d.1.begins).0 c.1.first))
same_cause whole before rest Cause.OtherLine Cause.NotALine c d = absurd (d.2 c.1.line c.1.begins)
same_cause whole before rest Cause.OtherLine Cause.NotLegal c d =
    absurd (c.1.other (subst (λ (z : Line). AreFirst whole (before ++ z ∷ [])) (same_line rest d.1.line c.1.line d.1.begins c.1.begins).0 d.1.first))
same_cause whole before rest Cause.OtherLine Cause.OtherLine c d = refl

-- the lines that go on from others are told, so the line behind these is
told_next : (whole : Runs) → TakesInTurn whole → (before lines : List Line) (l : Line) (more : List Line) → lines ≡ before ++ l ∷ more → AreTold whole lines → AreTold whole (before ++ l ∷ [])
told_next whole t before lines l more e h =
    told_front whole t (before ++ l ∷ []) more (subst (AreTold whole) (e ∙ sym (append_assoc before (l ∷ []) more)) h)

told_wrong : (whole : Runs) (trace : Text) (line : ℕ) (cause : Cause) (w : IsWrong whole trace line cause) → AreTold whole w.before
told_wrong whole trace line cause w = record { first = w.first; legal = w.legal }

told_verified : (whole : Runs) (trace : Text) (count : ℕ) (v : IsVerified whole trace count) → AreTold whole v.lines
told_verified whole trace count v = record { first = record { rest = []; is = v.are_whole.lines_are ∙ sym (append-nil v.lines) }; legal = v.legal }

-- a trace is not both
pub not_both : (whole : Runs) → TakesInTurn whole → (trace : Text) (count line : ℕ) (cause : Cause) → IsVerified whole trace count → IsWrong whole trace line cause → ⊥
not_both whole t trace count line cause v w =
    by (compared w.before w.rest v.lines [] w.fit v.fit (sym w.text ∙ v.text ∙ sym (append-nil (text_of v.lines))))
  where
    short : cause ≡ Cause.TooShort → w.before ≡ v.lines → ⊥
    short e f = (subst (IsCause whole w.before w.rest) e w.cause_is).1 (subst (AreWhole whole) (sym f) v.are_whole)

    by : Compared w.before w.rest v.lines [] → ⊥
    by (Compared.Same e f) = short (rest_there whole w.before w.rest cause w.cause_is f) e
    by (Compared.Longer l more e b) =
        no_cause whole t w.before w.rest cause l w.cause_is b (told_next whole t w.before v.lines l more e (told_verified whole trace count v))
    by (Compared.Shorter l more e b) = none_begins l b

pub same_count : (whole : Runs) (trace : Text) (count other : ℕ) → IsVerified whole trace count → IsVerified whole trace other → count ≡ other
same_count whole trace count other v w =
    by (compared v.lines [] w.lines [] v.fit w.fit (append-nil (text_of v.lines) ∙ sym v.text ∙ w.text ∙ sym (append-nil (text_of w.lines))))
  where
    by : Compared v.lines [] w.lines [] → count ≡ other
    by (Compared.Same e f) = v.count_is ∙ ap (length {A = Line}) e ∙ sym w.count_is
    by (Compared.Longer l more e b) = absurd (none_begins l b)
    by (Compared.Shorter l more e b) = absurd (none_begins l b)

pub same_wrong : (whole : Runs) → TakesInTurn whole → (trace : Text) (line other : ℕ) (cause reason : Cause) → IsWrong whole trace line cause → IsWrong whole trace other reason →
    (line ≡ other) × (cause ≡ reason)
same_wrong whole t trace line other cause reason v w = by (compared v.before v.rest w.before w.rest v.fit w.fit (sym v.text ∙ w.text))
  where
    by : Compared v.before v.rest w.before w.rest → (line ≡ other) × (cause ≡ reason)
    by (Compared.Same e f) = (
      v.line_is ∙ ap (λ (ls : List Line). length ls + 1) e ∙ sym w.line_is,
      same_cause whole w.before w.rest cause reason (subst (λ ls. IsCause whole ls w.rest cause) e (subst (λ r. IsCause whole v.before r cause) f v.cause_is)) w.cause_is,
    )
    by (Compared.Longer l more e b) =
        absurd (no_cause whole t v.before v.rest cause l v.cause_is b (told_next whole t v.before w.before l more e (told_wrong whole trace other reason w)))
    by (Compared.Shorter l more e b) =
        absurd (no_cause whole t w.before w.rest reason l w.cause_is b (told_next whole t w.before v.before l more e (told_wrong whole trace line cause v)))

pub same_answer : (whole : Runs) → TakesInTurn whole → (trace : Text) (answer other : Result ℕ TraceRefusal) → IsJudged whole trace answer → IsJudged whole trace other → IsSameAnswer answer other
same_answer whole t trace (Ok n) (Ok m) v w = ap (λ k. Ok k) (same_count whole trace n m v w)
same_answer whole t trace (Ok n) (Err (TraceRefusal.Wrong line cause)) v w = absurd (not_both whole t trace n line cause v w)
same_answer whole t trace (Ok n) (Err TraceRefusal.Memory) v w = tt
same_answer whole t trace (Err (TraceRefusal.Wrong line cause)) (Ok n) v w = absurd (not_both whole t trace n line cause w v)
same_answer whole t trace (Err (TraceRefusal.Wrong line cause)) (Err (TraceRefusal.Wrong other reason)) v w =
    let s = same_wrong whole t trace line other cause reason v w in
    ap (λ n. Err (TraceRefusal.Wrong n cause)) s.0 ∙ ap (λ c. Err (TraceRefusal.Wrong other c)) s.1
same_answer whole t trace (Err (TraceRefusal.Wrong line cause)) (Err TraceRefusal.Memory) v w = tt
same_answer whole t trace (Err TraceRefusal.Memory) other v w = tt
