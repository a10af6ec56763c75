-- The lines of a run tell its posts and its answers: each step that posts a job says its job line, and no other does.
use Rattle.std.proofs.Common.{◌≡◌, refl, ap, ap₂, ◌∙◌, sym, subst, ℕ, zero, suc, ◌+◌, ◌-◌, Bool, true, false, List, [], ◌∷◌, ◌++◌, length, map, append-nil}
use Rattle.std.proofs.lemmas.List.{map-append}
use Rattle.std.proofs.lemmas.List.Concat.{flat_map-append}
use Rattle.std.specs.Prelude.{Option, Some, None, if◌then◌else◌}
use Rattle.gv_values.specs.declared.fault.FaultKind.{FaultKind}
use Rattle.gv_values.specs.declared.job.Answer.{Answer}
use Rattle.gv_values.specs.declared.job.JobOutcome.{JobOutcome}
use Rattle.world_rules.specs.declared.question.Question.{Question}
use Rattle.world_rules.specs.Legal.{answers_of, moment_of, posted, posts_of}
use Rattle.world_rules.specs.declared.question.LogEntry.{LogEntry}
use Rattle.world_rules.specs.declared.question.PostedJob.{PostedJob}
use Rattle.world_rules.specs.Script.{scripted, without_done}
use Rattle.scenario_tree.specs.declared.tree.Scenario.{Scenario}
use Rattle.trace_text.specs.declared.line.Blocked.{Blocked}
use Rattle.trace_text.specs.declared.line.Line.{Line}
use Rattle.trace_text.specs.declared.line.StopCause.{StopCause}
use Rattle.machine.specs.declared.items.Item.{Item}
use Rattle.machine.specs.declared.state.JobState.{JobState}
use Rattle.machine.specs.declared.state.Post.{Post}
use Rattle.machine.specs.State.{State, say}
use Rattle.machine.specs.Questions.{any_numbered, arrives, block_line, job_done, question, take_answer}
use Rattle.machine.specs.Deliveries.{deliver, interrupts}
use Rattle.machine.specs.Holds.{job_at}
use Rattle.machine.specs.Landing.{Next, given, lands, starts}
use Rattle.machine.specs.Moves.{does, move}
use Rattle.machine.specs.Run.{GoingOn, Passed, Ran, Source, after_answer, after_delivery, after_exit, after_question, after_start, after_turn, asks, deliveries, delivers_one, first_state, least_below, loop_exit, run_from, run_turns, runs, silent, stopped, turn, with_posts, logged}
use Rattle.machine.specs.Waits.{comes, nothing}
use Rattle.machine.proofs.Scripts.{answers_of-posts}
use Rattle.trace_text.specs.Line.{answers_told}
use Rattle.machine_told.specs.Told.{post_told, posts_told}
use Rattle.std.proofs.lemmas.Bool.{true≢false}
use Rattle.machine_turns.proofs.Steps.{Core, Keeps, Stands, deliver-keeps, interrupts-keeps, is_step, lands-keeps, move-keeps, starts-keeps}

-- ---- lines of a step

-- the step that says the line posts nothing and takes no answer
abbrev is_plain : Line → Bool
is_plain (Line.Job j g job) = false
is_plain (Line.Turn n a) = false
is_plain line = true

abbrev posted_as : Post → PostedJob
posted_as post = posted post.number post.job

answers-append : (xs ys : List Line) → answers_told (xs ++ ys) ≡ answers_told xs ++ answers_told ys
answers-append [] ys = refl
answers-append (Line.Turn n a ∷ xs) ys = ap (λ more. a ∷ more) (answers-append xs ys)
answers-append (Line.Start g f ∷ xs) ys = answers-append xs ys
answers-append (Line.Print g v ∷ xs) ys = answers-append xs ys
answers-append (Line.Park g w until ∷ xs) ys = answers-append xs ys
answers-append (Line.Resume g by ∷ xs) ys = answers-append xs ys
answers-append (Line.Throw g f ∷ xs) ys = answers-append xs ys
answers-append (Line.Into g o ∷ xs) ys = answers-append xs ys
answers-append (Line.End g o ∷ xs) ys = answers-append xs ys
answers-append (Line.Link k g call ∷ xs) ys = answers-append xs ys
answers-append (Line.Job j g job ∷ xs) ys = answers-append xs ys
answers-append (Line.Block x ∷ xs) ys = answers-append xs ys
answers-append (Line.Stop cause turns moves ∷ xs) ys = answers-append xs ys

-- the lines tell these posts, and no answer
record TellsPosts (lines : List Line) (posts : List Post) : Type 0 where
  posts_are : posts_told lines ≡ map posted_as posts
  no_answer : answers_told lines ≡ []

plain-tells : (line : Line) → is_plain line ≡ true → TellsPosts (line ∷ []) []
plain-tells (Line.Start g f) e = record { posts_are = refl; no_answer = refl }
plain-tells (Line.Print g v) e = record { posts_are = refl; no_answer = refl }
plain-tells (Line.Park g w until) e = record { posts_are = refl; no_answer = refl }
plain-tells (Line.Resume g by) e = record { posts_are = refl; no_answer = refl }
plain-tells (Line.Throw g f) e = record { posts_are = refl; no_answer = refl }
plain-tells (Line.Into g o) e = record { posts_are = refl; no_answer = refl }
plain-tells (Line.End g o) e = record { posts_are = refl; no_answer = refl }
plain-tells (Line.Link k g call) e = record { posts_are = refl; no_answer = refl }
plain-tells (Line.Job j g job) e = absurd (cc e)
plain-tells (Line.Block x) e = record { posts_are = refl; no_answer = refl }
plain-tells (Line.Turn n a) e = absurd (cc e)
plain-tells (Line.Stop cause turns moves) e = record { posts_are = refl; no_answer = refl }

both : (xs ys : List Line) (ps qs : List Post) → TellsPosts xs ps → TellsPosts ys qs → TellsPosts (xs ++ ys) (ps ++ qs)
both xs ys ps qs x y =
    record {
      posts_are = flat_map-append post_told xs ys ∙ ap₂ (λ a b. a ++ b) x.posts_are y.posts_are ∙ sym (map-append posted_as ps qs);
      no_answer = answers-append xs ys ∙ ap₂ (λ a b. a ++ b) x.no_answer y.no_answer;
    }

more : {posts : List Post} (lines : List Line) (line : Line) → is_plain line ≡ true → TellsPosts lines posts → TellsPosts (lines ++ line ∷ []) posts
more {posts} lines line e h =
    let P : List Post → Type 0 = λ ps. TellsPosts (lines ++ line ∷ []) ps in subst P (append-nil posts) (both lines (line ∷ []) posts [] h (plain-tells line e))

-- a job line comes with its post
more_posts : (lines : List Line) (posts : List Post) (g : ℕ) (post : Post) → TellsPosts lines posts → TellsPosts (lines ++ Line.Job post.number g post.job ∷ []) (posts ++ post ∷ [])
more_posts lines posts g post h = both lines (Line.Job post.number g post.job ∷ []) posts (post ∷ []) h (record { posts_are = refl; no_answer = refl })

-- the step under way has said what it posted
abbrev Own : State → Type 0
Own s = TellsPosts s.lines s.posts

-- the line of a step tells no post and no answer
step_tells : (line : Line) → is_step line ≡ true → is_plain line ≡ true
step_tells (Line.Job j g job) e = absurd (true≢false (sym e))
step_tells (Line.Turn n a) e = absurd (true≢false (sym e))
step_tells line e = refl

-- each step says what it posts
own-kept : Keeps Own
own-kept =
    record {
      says = λ line s e h. more s.lines line (step_tells line e) h;
      adds = λ d s h. h;
      drops = λ test s h. h;
      settles = λ s h. h;
      posts = λ g o job takes s h. more_posts s.lines s.posts g (record { number = length s.jobs + 1; job = job; takes = takes }) h;
      alike = λ s t e h. subst (λ (c : Core). TellsPosts c.lines c.posts) (sym e) h;
    }

-- ---- parts of a run

-- what stands where a part of the run was given out
record IsSilent (s : State) : Type 0 where
  no_line : s.lines ≡ []
  no_post : s.posts ≡ []

abbrev IsSilentAt : Next → Type 0
IsSilentAt (Next.Going g s) = IsSilent s
IsSilentAt (Next.Resting s) = IsSilent s
IsSilentAt (Next.Over cause s) = IsSilent s

nothing-told : TellsPosts [] []
nothing-told = record { posts_are = refl; no_answer = refl }

silent-own : (s : State) → IsSilent s → Own s
silent-own s i = rw (i.no_line, i.no_post) nothing-told

was-silent : (s : State) → IsSilent (silent s)
was-silent s = record { no_line = refl; no_post = refl }

record TellsPart (p : Passed) : Type 0 where
  tells : TellsPosts p.lines p.posts
  ends : IsSilentAt p.next

runs-told : (n : ℕ) (next : Next) → Stands Own next → TellsPart (runs n next)
unfolding Stands
runs-told zero (Next.Going g s) h = record { tells = h; ends = was-silent s }
runs-told zero (Next.Resting s) h = record { tells = h; ends = was-silent s }
runs-told zero (Next.Over cause s) h = record { tells = h; ends = was-silent s }
runs-told (suc n) (Next.Resting s) h = record { tells = h; ends = was-silent s }
runs-told (suc n) (Next.Over cause s) h = record { tells = h; ends = was-silent s }
runs-told (suc n) (Next.Going g s) h =
    let q = runs n (move g (silent s)) in
    let rest = runs-told n (move g (silent s)) (move-keeps Own own-kept g (silent s) nothing-told) in
    record { tells = both s.lines q.lines s.posts q.posts h rest.tells; ends = rest.ends }

deliveries-told : (n budget mark : ℕ) (s : State) → IsSilent s → TellsPart (deliveries n budget mark s)
deliveries-told zero budget mark s e = record { tells = nothing-told; ends = e }
deliveries-told (suc n) budget mark s e = by (least_below mark s.items) (deliveries n budget mark) (λ t f. deliveries-told n budget mark t f)
  where
    on : (go : State → Passed) → ((t : State) → IsSilent t → TellsPart (go t)) → (p : Passed) (next : Next) → p.next ≡ next → TellsPosts p.lines p.posts → IsSilentAt next →
        TellsPart (after_delivery go p next)
    on go rest p (Next.Going g t) same l i = record { tells = l; ends = subst IsSilentAt (sym same) i }
    on go rest p (Next.Over cause t) same l i = record { tells = l; ends = subst IsSilentAt (sym same) i }
    on go rest p (Next.Resting t) same l i = let q = rest t i in record { tells = both p.lines (go t).lines p.posts (go t).posts l q.tells; ends = q.ends }

    by : (o : Option Item) → (go : State → Passed) → ((t : State) → IsSilent t → TellsPart (go t)) → TellsPart (delivers_one go budget o s)
    by None go rest = record { tells = nothing-told; ends = e }
    by (Some i) go rest =
        let p = runs-told (budget - s.moves) (deliver i s) (deliver-keeps Own own-kept i s (silent-own s e)) in
        on go rest (runs (budget - s.moves) (deliver i s)) (runs (budget - s.moves) (deliver i s)).next refl p.tells p.ends

turn-told : (budget : ℕ) (s : State) → IsSilent s → TellsPart (turn budget s)
turn-told budget s e = deliveries-told (length s.items) budget s.next_ready (record s { turns = s.turns + 1 }) (record { no_line = e.no_line; no_post = e.no_post })

block-own : (s : State) → Own s → Own (block_line s)
block-own s h = by (any_numbered s.items) _
  where
    by : (b : Bool) (x : Blocked) → Own (if b then s else say (Line.Block x) s)
    by true x = h
    by false x = more s.lines (Line.Block x) refl h

exit-told : (budget : ℕ) (s : State) → IsSilent s → TellsPart (loop_exit budget (block_line s))
exit-told budget s e =
    let t = block_line s in
    runs-told (budget - t.moves) (interrupts 0 FaultKind.LoopExit t) (interrupts-keeps Own own-kept 0 FaultKind.LoopExit t (block-own s (silent-own s e)))

-- ---- runs

-- the lines tell the posts and the answers of the log
record TellsLog (lines : List Line) (log : List LogEntry) : Type 0 where
  posts_are : posts_told lines ≡ posts_of log
  answers_are : answers_told lines ≡ answers_of log

posts-logged : (posts : List Post) (log : List LogEntry) → posts_of (map logged posts ++ log) ≡ map posted_as posts ++ posts_of log
posts-logged [] log = refl
posts-logged (post ∷ posts) log = ap (λ ps. posted_as post ∷ ps) (posts-logged posts log)

-- what comes first tells its posts
after-part : (xs ys : List Line) (posts : List Post) (log : List LogEntry) → TellsPosts xs posts → TellsLog ys log → TellsLog (xs ++ ys) (map logged posts ++ log)
after-part xs ys posts log x y =
    record {
      posts_are = flat_map-append post_told xs ys ∙ ap₂ (λ a b. a ++ b) x.posts_are y.posts_are ∙ sym (posts-logged posts log);
      answers_are = answers-append xs ys ∙ ap₂ (λ a b. a ++ b) x.no_answer y.answers_are ∙ sym (answers_of-posts posts log);
    }

abbrev RunTells : Ran → Type 0
RunTells r = TellsLog r.lines r.log

stopped-tells : (cause : StopCause) (s : State) → RunTells (stopped cause s)
stopped-tells cause s = record { posts_are = refl; answers_are = refl }

abbrev GoesOnTelling : GoingOn → Type 0
GoesOnTelling go = (source : Source) (s : State) → IsSilent s → RunTells (go source s)

after-exit-told : (go : GoingOn) → GoesOnTelling go → (source : Source) (next : Next) → IsSilentAt next → RunTells (after_exit go source next)
after-exit-told go f source (Next.Over cause s) e = stopped-tells cause s
after-exit-told go f source (Next.Resting s) e = f source s e
after-exit-told go f source (Next.Going g s) e = stopped-tells StopCause.NoMoves s

arrives-said : (j : ℕ) (o : JobOutcome) (job : Option JobState) (s : State) → ((arrives j o job s).lines ≡ s.lines) × ((arrives j o job s).posts ≡ s.posts)
arrives-said j o None s = (refl, refl)
arrives-said j o (Some job) s = (refl, refl)

done-said : (a : Answer) (s : State) → (job_done a s).lines ≡ s.lines
done-said (Answer.Done j o t) s = (arrives-said j o (job_at j s.jobs) s).0
done-said (Answer.Elapsed t) s = refl
done-said (Answer.Nothing t) s = refl

-- an answer is told by its turn line alone
answer-line : (a : Answer) (s : State) → s.lines ≡ [] → (take_answer a s).lines ≡ Line.Turn s.turns a ∷ []
unfolding take_answer
answer-line a s e = ap (λ ls. ls ++ Line.Turn s.turns a ∷ []) (done-said a (record s { moment = moment_of a }) ∙ e)

answer-told : (go : GoingOn) → GoesOnTelling go → (source : Source) (q : Question) (a : Answer) (s : State) → IsSilent s → RunTells (after_answer go source q a s)
answer-told go f source q a s e =
    let t = take_answer a s in
    let rest = f source (silent t) (was-silent t) in
    let line = answer-line a s e.no_line in
    record {
      posts_are = flat_map-append post_told t.lines (go source (silent t)).lines ∙ ap (λ ls. posts_told ls ++ posts_told (go source (silent t)).lines) line ∙ rest.posts_are;
      answers_are = answers-append t.lines (go source (silent t)).lines ∙ ap (λ ls. answers_told ls ++ answers_told (go source (silent t)).lines) line ∙ ap (λ more. a ∷ more) rest.answers_are;
    }

asks-told : (go : GoingOn) → GoesOnTelling go → (q : Question) (source : Source) (s : State) → IsSilent s → RunTells (asks go q source s)
asks-told go f q (Source.Given []) s e = record { posts_are = refl; answers_are = refl }
asks-told go f q (Source.Given (a ∷ answers)) s e = answer-told go f (Source.Given answers) q a s e
asks-told go f q (Source.Scripted tick jobs) s e =
    let a = scripted tick jobs s.moment q in answer-told go f (Source.Scripted tick (without_done a jobs)) q a s e

-- the block line tells nothing
block-tells : (s : State) → IsSilent s → TellsPosts (block_line s).lines []
block-tells s e = by (any_numbered s.items) _
  where
    by : (b : Bool) (x : Blocked) → TellsPosts (if b then s else say (Line.Block x) s).lines []
    by true x = rw e.no_line nothing-told
    by false x = more s.lines (Line.Block x) refl (rw e.no_line nothing-told)

question-told : (go : GoingOn) → GoesOnTelling go → (budget : ℕ) (q : Option Question) (source : Source) (s : State) → IsSilent s → RunTells (after_question go budget q source s)
question-told go f budget None source s e =
    let p = loop_exit budget (block_line s) in
    let part = exit-told budget s e in
    let next = with_posts s.moment p.posts source in
    after-part p.lines (after_exit go next p.next).lines p.posts (after_exit go next p.next).log part.tells (after-exit-told go f next p.next part.ends)
question-told go f budget (Some q) source s e =
    let t = block_line s in
    let r = asks go q source (silent t) in
    after-part t.lines r.lines [] r.log (block-tells s e) (asks-told go f q source (silent t) (was-silent t))

after-turn-told : (go : GoingOn) → GoesOnTelling go → (budget : ℕ) (source : Source) (next : Next) → IsSilentAt next → RunTells (after_turn go budget source next)
after-turn-told go f budget source (Next.Over cause s) e = stopped-tells cause s
after-turn-told go f budget source (Next.Resting s) e = question-told go f budget (question s) source s e
after-turn-told go f budget source (Next.Going g s) e = stopped-tells StopCause.NoMoves s

run_turns-told : (n budget : ℕ) → GoesOnTelling (run_turns n budget)
run_turns-told zero budget source s e = stopped-tells StopCause.NoTurns s
run_turns-told (suc n) budget source s e =
    let p = turn budget s in
    let part = turn-told budget s e in
    let next = with_posts s.moment p.posts source in
    let r = after_turn (run_turns n budget) budget next p.next in
    after-part p.lines r.lines p.posts r.log part.tells (after-turn-told (run_turns n budget) (run_turns-told n budget) budget next p.next part.ends)

start-told : (source : Source) (turns moves : ℕ) (next : Next) → IsSilentAt next → RunTells (after_start source turns moves next)
start-told source turns moves (Next.Over cause s) e = stopped-tells cause s
start-told source turns moves (Next.Resting s) e = run_turns-told turns moves source s e
start-told source turns moves (Next.Going g s) e = stopped-tells StopCause.NoMoves s

run-tells : (source : Source) (turns moves : ℕ) (c : Scenario) → RunTells (run_from source turns moves c)
run-tells source turns moves c =
    let p = runs moves (starts lands 0 [] (first_state c)) in
    let part = runs-told moves (starts lands 0 [] (first_state c)) (starts-keeps Own own-kept lands 0 [] (first_state c) (lands-keeps Own own-kept) nothing-told) in
    let next = with_posts 0 p.posts source in
    after-part p.lines (after_start next turns moves p.next).lines p.posts (after_start next turns moves p.next).log part.tells (start-told next turns moves p.next part.ends)

pub run-posts-told : (source : Source) (turns moves : ℕ) (c : Scenario) → posts_told (run_from source turns moves c).lines ≡ posts_of (run_from source turns moves c).log
run-posts-told source turns moves c = (run-tells source turns moves c).posts_are

pub run-answers-told : (source : Source) (turns moves : ℕ) (c : Scenario) → answers_told (run_from source turns moves c).lines ≡ answers_of (run_from source turns moves c).log
run-answers-told source turns moves c = (run-tells source turns moves c).answers_are
