-- What a run that is over, or broke off, leaves outside of the hub, where nothing had been done with the world.
use Rattle.std.proofs.Common.{◌≡◌, refl, ap, sym, ◌∙◌, subst, ℕ, List, [], ◌∷◌, ◌++◌, length, length-append, Option, Some, arith}
use Rattle.std.proofs.lemmas.List.{append-nil}
use Rattle.trace_text.specs.Line.{text_of}
use Rattle.trace_text.specs.declared.line.StopCause.{StopCause}
use Rattle.gv_io.specs.Streams.{appended, AppendsPrefix}
use Rattle.gv_values.specs.declared.job.Answer.{Answer}
use Rattle.world_rules.specs.declared.question.LogEntry.{LogEntry}
use Rattle.world_rules.specs.declared.question.PostedJob.{PostedJob}
use Rattle.world_rules.specs.Legal.{AreLegal, answers_of, posted, posts_of}
use Rattle.machine.specs.Run.{Ran as Whole, run}
use Rattle.machine.specs.State.{State}
use Rattle.scenario_tree.specs.declared.tree.Scenario.{Scenario}
use Rattle.std.specs.Prelude.{Result, Ok, Err}
use Rattle.hub_engine.specs.declared.broken.Broken.{Broken}
use Rattle.hub_engine.specs.declared.run.EngineEnd.{EngineEnd}
use Rattle.hub_engine.specs.declared.run.Ran.{Ran}
use Rattle.hub_engine.specs.Ends.{CountsOf, HasLogged, HasNumbersAt, IsPartLogged, RanTo, end_of, end_of_run}
use Rattle.hub_engine.specs.Run.{WroteAhead}
use Rattle.hub_engine.specs.Outside.{Outside, WritesPart}
use Rattle.hub_engine.specs.Written.{HasBroken, HasEnded, Runs, RunsTo, ended_as, finished, preceded}
use Rattle.hub_engine.proofs.Giving.{answers_of_append}
use Rattle.world.proofs.LegalLogs.{legal_append}
use Rattle.hub_engine.proofs.Texts.{text_of_append}
use Rattle.hub_engine.proofs.Trying.{part-prefix, tried-whole}
use Rattle.machine_turns.proofs.Taking.{run-takes}

-- ---- the run is over

answers_are : (v w : Outside) (whole : Runs) (end : EngineEnd) (s : State) → v.means.answers ≡ [] → (r : HasEnded v w whole end s) → w.means.answers ≡ answers_of r.running.entries
answers_are v w whole end s e r = r.running.given.done.answers ∙ ap (λ z. z ++ answers_of r.running.entries) e

whole_is : (v w : Outside) (whole : Runs) (end : EngineEnd) (s : State) → v.means.answers ≡ [] → (r : HasEnded v w whole end s) →
    whole w.means.answers ≡ preceded r.running.lines r.running.entries r.running.blocked (finished r.cause r.last)
whole_is v w whole end s e r = ap whole (answers_are v w whole end s e r ∙ sym (append-nil (answers_of r.running.entries))) ∙ r.running.is []

-- an end of a run is neither a fault of writing nor want of memory
ran_so : (c : StopCause) (r : Whole) (old new : Option (List ℕ)) → new ≡ appended old (text_of r.lines) → Some (end_of c) ≡ end_of_run r.end → RanTo (end_of c) r old new
ran_so (StopCause.Value v) r old new e f = (e, f)
ran_so (StopCause.Fault k) r old new e f = (e, f)
ran_so StopCause.NoTurns r old new e f = (e, f)
ran_so StopCause.NoMoves r old new e f = (e, f)
ran_so StopCause.NoGreenlets r old new e f = (e, f)
ran_so StopCause.NoLinks r old new e f = (e, f)
ran_so StopCause.NoKills r old new e f = (e, f)

ended_written : (v w : Outside) (whole : Runs) (end : EngineEnd) (s : State) → v.means.answers ≡ [] → HasEnded v w whole end s → RanTo end (whole w.means.answers) v.written w.written
ended_written v w whole end s e r =
    let is = whole_is v w whole end s e r in
    let q = whole w.means.answers in
    let lines : q.lines ≡ r.running.lines = ap (λ (x : Whole). x.lines) is ∙ append-nil r.running.lines in
    subst (λ (x : EngineEnd). RanTo x q v.written w.written) (sym r.is_end)
    (ran_so r.cause q v.written w.written (r.running.given.text ∙ ap (λ ls. appended v.written (text_of ls)) (sym lines)) (sym (ap (λ (x : Whole). end_of_run x.end) is)))

logged_so : (c : StopCause) (log : List LogEntry) (answers : List Answer) (stands : List LogEntry → Type 0) → stands log → answers_of log ≡ answers → HasLogged (end_of c) log answers stands
logged_so (StopCause.Value v) log answers stands e f = (e, f)
logged_so (StopCause.Fault k) log answers stands e f = (e, f)
logged_so StopCause.NoTurns log answers stands e f = (e, f)
logged_so StopCause.NoMoves log answers stands e f = (e, f)
logged_so StopCause.NoGreenlets log answers stands e f = (e, f)
logged_so StopCause.NoLinks log answers stands e f = (e, f)
logged_so StopCause.NoKills log answers stands e f = (e, f)

ended_log : (v w : Outside) (whole : Runs) (end : EngineEnd) (s : State) → v.means.answers ≡ [] → (r : HasEnded v w whole end s) → (whole w.means.answers).log ≡ r.running.entries
ended_log v w whole end s e r = ap (λ (x : Whole). x.log) (whole_is v w whole end s e r) ∙ append-nil r.running.entries

ended_logged : (v w : Outside) (whole : Runs) (end : EngineEnd) (s : State) → v.means.answers ≡ [] → v.stands [] → HasEnded v w whole end s →
    HasLogged end (whole w.means.answers).log w.means.answers w.stands
ended_logged v w whole end s e h r =
    let log = ended_log v w whole end s e r in
    subst (λ (x : EngineEnd). HasLogged x (whole w.means.answers).log w.means.answers w.stands) (sym r.is_end)
    (logged_so r.cause (whole w.means.answers).log w.means.answers w.stands (subst w.stands (sym log) (r.running.given.done.log [] h))
    (ap answers_of log ∙ sym (answers_are v w whole end s e r)))

ended_legal : (v w : Outside) (whole : Runs) (end : EngineEnd) (s : State) → v.means.posts ≡ [] → v.means.answers ≡ [] → HasEnded v w whole end s → AreLegal [] [] (whole w.means.answers).log
ended_legal v w whole end s f e r =
    subst (AreLegal [] []) (sym (ended_log v w whole end s e r))
    (subst (λ ps. AreLegal ps [] r.running.entries) f (subst (λ z. AreLegal v.means.posts z r.running.entries) e r.running.given.done.legal))

ended_ahead : (v w : Outside) (whole : Runs) (end : EngineEnd) (s : State) → v.means.answers ≡ [] → HasEnded v w whole end s → WroteAhead whole w.means.answers v.written w.written
ended_ahead v w whole end s e r before last z =
    let own = r.running.ahead before last (sym (answers_are v w whole end s e r) ∙ z) in
    (text_of own.0, r.running.given.text ∙ ap (λ ls. appended v.written (text_of ls)) own.1 ∙ ap (appended v.written) (text_of_append (whole before).lines own.0))

ended_out : (v w : Outside) (whole : Runs) (end : EngineEnd) (s : State) → v.means.answers ≡ [] → HasEnded v w whole end s → WroteAhead whole w.means.answers v.written w.out
ended_out v w whole end s e r before last z = r.running.out_ahead before last (sym (answers_are v w whole end s e r) ∙ z)

numbered_so : (c : StopCause) (came : Ran) (s : State) → CountsOf came s → HasNumbersAt (end_of c) came s
numbered_so (StopCause.Value v) came s h = h
numbered_so (StopCause.Fault k) came s h = h
numbered_so StopCause.NoTurns came s h = h
numbered_so StopCause.NoMoves came s h = h
numbered_so StopCause.NoGreenlets came s h = h
numbered_so StopCause.NoLinks came s h = h
numbered_so StopCause.NoKills came s h = h

-- the numbers are those of a state like the last
ended_numbers : (v w : Outside) (whole : Runs) (end : EngineEnd) (s : State) (came : Ran) → v.means.answers ≡ [] → HasEnded v w whole end s → CountsOf came s →
    HasNumbersAt end came (whole w.means.answers).state
ended_numbers v w whole end s came e r h =
    let last : (whole w.means.answers).state ≡ r.last = ap (λ (x : Whole). x.state) (whole_is v w whole end s e r) in
    subst (λ (x : State). HasNumbersAt end came x) (sym last)
    (subst (λ (x : EngineEnd). HasNumbersAt x came r.last) (sym r.is_end)
    (numbered_so r.cause came r.last (record {
      greenlets = h.greenlets ∙ sym r.like.greenlets;
      turns = h.turns ∙ sym r.like.turns;
      moves = h.moves ∙ sym r.like.moves;
      moment = h.moment ∙ sym r.like.moment;
    })))

-- ---- the run broke off

broken_answers : (v w : Outside) (whole : Runs) → v.means.answers ≡ [] → (b : HasBroken v w whole) → w.means.answers ≡ answers_of b.entries
broken_answers v w whole e b = b.done.answers ∙ ap (λ z. z ++ answers_of b.entries) e

broken_written : (v w : Outside) (whole : Runs) → v.means.answers ≡ [] → HasBroken v w whole → AppendsPrefix v.written w.written (text_of (whole w.means.answers).lines)
broken_written v w whole e b = subst (λ z. AppendsPrefix v.written w.written (text_of (whole z).lines)) (sym (broken_answers v w whole e b)) (part-prefix v.written w.written (whole (answers_of b.entries)).lines b.text)

broken_log : (v w : Outside) (whole : Runs) → v.means.answers ≡ [] → (b : HasBroken v w whole) → (whole w.means.answers).log ≡ b.entries ++ b.later
broken_log v w whole e b = ap (λ z. (whole z).log) (broken_answers v w whole e b) ∙ b.is

broken_logged : (v w : Outside) (whole : Runs) → v.means.answers ≡ [] → v.stands [] → HasBroken v w whole → IsPartLogged (whole w.means.answers).log w.means.answers w.stands
broken_logged v w whole e h b = record {
  part = b.entries;
  later = b.later;
  is = broken_log v w whole e b;
  all = sym (broken_answers v w whole e b);
  stood = b.done.log [] h;
}

broken_ahead : (v w : Outside) (whole : Runs) → v.means.answers ≡ [] → HasBroken v w whole → WroteAhead whole w.means.answers v.written w.written
broken_ahead v w whole e b before last z = b.ahead before last (sym (broken_answers v w whole e b) ∙ z)

broken_out : (v w : Outside) (whole : Runs) → v.means.answers ≡ [] → HasBroken v w whole → WroteAhead whole w.means.answers v.written w.out
broken_out v w whole e b before last z = b.out_ahead before last (sym (broken_answers v w whole e b) ∙ z)

-- a log without answers is legal
no_answers : (posts : List PostedJob) (answers : List Answer) (log : List LogEntry) → answers_of log ≡ [] → AreLegal posts answers log
no_answers posts answers [] e = tt
no_answers posts answers (LogEntry.Post n j t ∷ log) e = no_answers (posts ++ posted n j ∷ []) answers log e
no_answers posts answers (LogEntry.Asked q a ∷ log) e = absurd (cc e)

nothing_more : {A : Type 0} (xs ys zs : List A) → xs ≡ (xs ++ ys) ++ zs → ys ≡ []
nothing_more xs [] zs e = refl
nothing_more xs (y ∷ ys) zs e = absurd (omega (arith, ap length e, length-append (xs ++ y ∷ ys) zs, length-append xs (y ∷ ys)))

broken_legal : (v w : Outside) (c : Scenario) (turns moves : ℕ) → v.means.posts ≡ [] → v.means.answers ≡ [] → HasBroken v w (run c turns moves) → AreLegal [] [] (run c turns moves w.means.answers).log
broken_legal v w c turns moves f e b =
    let whole = run c turns moves in
    let taken = run-takes c turns moves (answers_of b.entries) in
    let none : answers_of b.later ≡ [] =
    nothing_more (answers_of b.entries) (answers_of b.later) taken.left (taken.are ∙ ap (λ z. z ++ taken.left) (ap answers_of b.is ∙ answers_of_append b.entries b.later)) in
    let first : AreLegal [] [] b.entries = subst (λ ps. AreLegal ps [] b.entries) f (subst (λ z. AreLegal v.means.posts z b.entries) e b.done.legal) in
    subst (AreLegal [] []) (sym (broken_log v w whole e b)) (legal_append [] [] b.entries b.later first (no_answers (posts_of b.entries) (answers_of b.entries) b.later none))

-- ---- both

pub ran_written : (v w : Outside) (whole : Runs) (r : Result EngineEnd Broken) (s : State) → v.means.answers ≡ [] → RunsTo r v w whole s → RanTo (ended_as r) (whole w.means.answers) v.written w.written
ran_written v w whole (Ok end) s e h = ended_written v w whole end s e h
ran_written v w whole (Err Broken.Memory) s e h = broken_written v w whole e h
ran_written v w whole (Err Broken.Write) s e h = broken_written v w whole e h

-- which lines were tried
ended_tried : (v w : Outside) (whole : Runs) (end : EngineEnd) (s : State) → v.means.answers ≡ [] → HasEnded v w whole end s → WritesPart v.written w.written (whole w.means.answers).lines
ended_tried v w whole end s e r =
    subst (WritesPart v.written w.written) (sym (ap (λ (x : Whole). x.lines) (whole_is v w whole end s e r)))
    (tried-whole v.written w.written r.running.lines [] r.running.given.text r.running.given.fit)

broken_tried : (v w : Outside) (whole : Runs) → v.means.answers ≡ [] → HasBroken v w whole → WritesPart v.written w.written (whole w.means.answers).lines
broken_tried v w whole e b = subst (λ z. WritesPart v.written w.written (whole z).lines) (sym (broken_answers v w whole e b)) b.text

pub ran_tried : (v w : Outside) (whole : Runs) (r : Result EngineEnd Broken) (s : State) → v.means.answers ≡ [] → RunsTo r v w whole s → WritesPart v.written w.written (whole w.means.answers).lines
ran_tried v w whole (Ok end) s e h = ended_tried v w whole end s e h
ran_tried v w whole (Err b) s e h = broken_tried v w whole e h

pub ran_ahead : (v w : Outside) (whole : Runs) (r : Result EngineEnd Broken) (s : State) → v.means.answers ≡ [] → RunsTo r v w whole s → WroteAhead whole w.means.answers v.written w.written
ran_ahead v w whole (Ok end) s e h = ended_ahead v w whole end s e h
ran_ahead v w whole (Err b) s e h = broken_ahead v w whole e h

pub ran_out : (v w : Outside) (whole : Runs) (r : Result EngineEnd Broken) (s : State) → v.means.answers ≡ [] → RunsTo r v w whole s → WroteAhead whole w.means.answers v.written w.out
ran_out v w whole (Ok end) s e h = ended_out v w whole end s e h
ran_out v w whole (Err b) s e h = broken_out v w whole e h

pub ran_logged : (v w : Outside) (whole : Runs) (r : Result EngineEnd Broken) (s : State) → v.means.answers ≡ [] → v.stands [] → RunsTo r v w whole s →
    HasLogged (ended_as r) (whole w.means.answers).log w.means.answers w.stands
ran_logged v w whole (Ok end) s e z h = ended_logged v w whole end s e z h
ran_logged v w whole (Err Broken.Memory) s e z h = broken_logged v w whole e z h
ran_logged v w whole (Err Broken.Write) s e z h = broken_logged v w whole e z h

pub ran_legal : (v w : Outside) (c : Scenario) (turns moves : ℕ) (r : Result EngineEnd Broken) (s : State) → v.means.posts ≡ [] → v.means.answers ≡ [] → RunsTo r v w (run c turns moves) s →
    AreLegal [] [] (run c turns moves w.means.answers).log
ran_legal v w c turns moves (Ok end) s f e h = ended_legal v w (run c turns moves) end s f e h
ran_legal v w c turns moves (Err b) s f e h = broken_legal v w c turns moves f e h

pub ran_numbers : (v w : Outside) (whole : Runs) (r : Result EngineEnd Broken) (s : State) (came : Ran) → v.means.answers ≡ [] → RunsTo r v w whole s → CountsOf came s →
    HasNumbersAt (ended_as r) came (whole w.means.answers).state
ran_numbers v w whole (Ok end) s came e h k = ended_numbers v w whole end s came e h k
ran_numbers v w whole (Err Broken.Memory) s came e h k = tt
ran_numbers v w whole (Err Broken.Write) s came e h k = tt
