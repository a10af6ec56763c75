-- Each question of a run may be asked, as long as the answers before it are legal.
use Rattle.std.proofs.Common.{◌≡◌, refl, ap, ◌∙◌, sym, subst, ℕ, zero, suc, ◌-◌, Bool, true, false, List, [], ◌∷◌, ◌++◌, append_assoc, length, map, ◌+◌}
use Rattle.std.proofs.lemmas.List.{append-nil, map-append}
use Rattle.std.specs.Prelude.{Option, Some, None, if◌then◌else◌}
use Rattle.gv_values.specs.declared.job.Answer.{Answer}
use Rattle.world_rules.specs.declared.question.LogEntry.{LogEntry}
use Rattle.world_rules.specs.declared.question.PostedJob.{PostedJob}
use Rattle.world_rules.specs.declared.question.Question.{Question}
use Rattle.world_rules.specs.Legal.{AreLegal, posted as posted_job}
use Rattle.world_rules.specs.Script.{scripted, without_done as without_answered}
use Rattle.scenario_tree.specs.declared.tree.Scenario.{Scenario}
use Rattle.trace_text.specs.declared.line.Line.{Line}
use Rattle.machine.specs.declared.items.Item.{Item}
use Rattle.machine.specs.declared.state.Post.{Post}
use Rattle.machine.specs.State.{State, say}
use Rattle.machine.specs.Questions.{any_numbered, block_line, question, take_answer}
use Rattle.machine.specs.Deliveries.{deliver, interrupts}
use Rattle.machine.specs.Landing.{Next, starts, lands}
use Rattle.machine.specs.Moves.{move}
use Rattle.machine.specs.Run.{End, GoingOn, Passed, Ran, Source, after_answer, after_delivery, after_exit, after_question, after_start, after_turn, asks, deliveries, delivers_one, first_state, given_out, least_below, logged, loop_exit, rests, run_from, run_turns, runs, runs_on, silent, turn, with_posts}
use Rattle.machine.proofs.Answered.{posts-answered}
use Rattle.machine_turns.specs.Logs.{AnswersLegally, AsksLegally, KnowsJobs, StandsKnowing, posts_of_step}
use Rattle.machine_turns.proofs.Knowing.{answers-know, delivers-know, exits-know, may-ask, moves-know, starts-know}

-- ---- what a part of the run gives out

-- all posts were given out, and the state knows its jobs
record Rests (posts : List PostedJob) (answers : List Answer) (s : State) : Type 0 where
  none : s.posts ≡ []
  knows : KnowsJobs posts answers s

-- so where the hub stands
RestsAt : List PostedJob → List Answer → Next → Type 0
RestsAt posts answers (Next.Going g s) = Rests posts answers s
RestsAt posts answers (Next.Resting s) = Rests posts answers s
RestsAt posts answers (Next.Over cause s) = Rests posts answers s

-- so it stands after this part, whose posts were given out
GivesOut : List PostedJob → List Answer → Passed → Type 0
GivesOut posts answers p = RestsAt (posts ++ posts_of_step p.posts) answers p.next

silent-knows : (posts : List PostedJob) (answers : List Answer) (s : State) → KnowsJobs posts answers s → Rests (posts ++ posts_of_step s.posts) answers (silent s)
silent-knows posts answers s k = record {
  none = refl;
  knows = record { posts_are = append-nil (posts ++ posts_of_step s.posts) ∙ k.posts_are; arrived = k.arrived; no_other = k.no_other };
}

-- two parts, one after the other
two-parts : (posts : List PostedJob) (answers : List Answer) (a b : List Post) (x : Next) → RestsAt ((posts ++ posts_of_step a) ++ posts_of_step b) answers x →
    RestsAt (posts ++ posts_of_step (a ++ b)) answers x
two-parts posts answers a b x r =
    let e : (posts ++ posts_of_step a) ++ posts_of_step b ≡ posts ++ posts_of_step (a ++ b) =
    append_assoc posts (posts_of_step a) (posts_of_step b) ∙ ap (λ ps. posts ++ ps) (sym (map-append (λ (p : Post). posted_job p.number p.job) a b)) in
    subst (λ ps. RestsAt ps answers x) e r

runs-give : (posts : List PostedJob) (answers : List Answer) (n : ℕ) (x : Next) → StandsKnowing posts answers x → GivesOut posts answers (runs n x)
unfolding RestsAt GivesOut
runs-give posts answers zero (Next.Going g s) k = silent-knows posts answers s k
runs-give posts answers zero (Next.Resting s) k = silent-knows posts answers s k
runs-give posts answers zero (Next.Over cause s) k = silent-knows posts answers s k
runs-give posts answers (suc n) (Next.Going g s) k =
    let here = posts ++ posts_of_step s.posts in
    let p = runs n (move g (silent s)) in
    two-parts posts answers s.posts p.posts p.next (runs-give here answers n (move g (silent s)) (moves-know here answers g (silent s) (silent-knows posts answers s k).knows))
runs-give posts answers (suc n) (Next.Resting s) k = silent-knows posts answers s k
runs-give posts answers (suc n) (Next.Over cause s) k = silent-knows posts answers s k

rests-give : (posts : List PostedJob) (answers : List Answer) (s : State) → Rests posts answers s → GivesOut posts answers (rests s)
unfolding RestsAt GivesOut
rests-give posts answers s r = subst (λ ps. Rests ps answers s) (sym (append-nil posts)) r

deliveries-give : (n budget mark : ℕ) (posts : List PostedJob) (answers : List Answer) (s : State) → Rests posts answers s → GivesOut posts answers (deliveries n budget mark s)
unfolding RestsAt GivesOut
deliveries-give zero budget mark posts answers s r = rests-give posts answers s r
deliveries-give (suc n) budget mark posts answers s r = by (least_below mark s.items) (deliveries-give n budget mark)
  where
    Goes : Type 0
    Goes = (others : List PostedJob) (before : List Answer) (t : State) → Rests others before t → GivesOut others before (deliveries n budget mark t)

    over : (p : Passed) (x : Next) → p.next ≡ x → GivesOut posts answers p → Goes → GivesOut posts answers (after_delivery (deliveries n budget mark) p x)
    over p (Next.Resting t) e g go =
        let q = deliveries n budget mark t in
        two-parts posts answers p.posts q.posts q.next (go (posts ++ posts_of_step p.posts) answers t (subst (RestsAt (posts ++ posts_of_step p.posts) answers) e g))
    over p (Next.Going h t) e g go = g
    over p (Next.Over cause t) e g go = g

    by : (o : Option Item) → Goes → GivesOut posts answers (delivers_one (deliveries n budget mark) budget o s)
    by None go = rests-give posts answers s r
    by (Some i) go =
        let p = runs_on budget s (deliver i s) in
        over p p.next refl (runs-give posts answers (budget - s.moves) (deliver i s) (delivers-know posts answers i s r.knows)) go

turn-gives : (budget : ℕ) (posts : List PostedJob) (answers : List Answer) (s : State) → Rests posts answers s → GivesOut posts answers (turn budget s)
turn-gives budget posts answers s r =
    let t = record s { turns = s.turns + 1 } in
    deliveries-give (length s.items) budget s.next_ready posts answers t
    (record { none = r.none; knows = record { posts_are = r.knows.posts_are; arrived = r.knows.arrived; no_other = r.knows.no_other } })

-- ---- the log

-- what comes asks as it may, after these posts and answers
AsksAs : List PostedJob → List Answer → Ran → Type 0
AsksAs posts answers r = AsksLegally posts answers r.log r.end r.state

posts-first : (posts : List PostedJob) (answers : List Answer) (more : List Post) (log : List LogEntry) (end : End) (s : State) →
    AsksLegally (posts ++ posts_of_step more) answers log end s → AsksLegally posts answers (map logged more ++ log) end s
posts-first posts answers [] log end s a = subst (λ ps. AsksLegally ps answers log end s) (append-nil posts) a
posts-first posts answers (p ∷ more) log end s a =
    posts-first (posts ++ posted_job p.number p.job ∷ []) answers more log end s
    (subst (λ ps. AsksLegally ps answers log end s) (sym (append_assoc posts (posted_job p.number p.job ∷ []) (posts_of_step more))) a)

given-asks : (posts : List PostedJob) (answers : List Answer) (p : Passed) (r : Ran) → AsksAs (posts ++ posts_of_step p.posts) answers r → AsksAs posts answers (given_out p r)
unfolding AsksAs
given-asks posts answers p r a = posts-first posts answers p.posts r.log r.end r.state a

-- it goes on so
GoesOn : GoingOn → Type 0
GoesOn go = (posts : List PostedJob) (answers : List Answer) (source : Source) (s : State) → Rests posts answers s → AsksAs posts answers (go source s)

exit-asks : (go : GoingOn) → GoesOn go → (posts : List PostedJob) (answers : List Answer) (source : Source) (x : Next) → RestsAt posts answers x → AsksAs posts answers (after_exit go source x)
unfolding GoesOn RestsAt AsksAs
exit-asks go h posts answers source (Next.Over cause s) r = tt
exit-asks go h posts answers source (Next.Resting s) r = h posts answers source s r
exit-asks go h posts answers source (Next.Going g s) r = tt

answer-asks : (go : GoingOn) → GoesOn go → (posts : List PostedJob) (answers : List Answer) (source : Source) (q : Question) (a : Answer) (s : State) → question s ≡ Some q → Rests posts answers s →
    AsksAs posts answers (after_answer go source q a s)
unfolding GoesOn AsksAs take_answer
answer-asks go h posts answers source q a s e r = (
  may-ask posts answers q s r.none r.knows e,
  λ legal.
      let t = take_answer a s in
      let k = answers-know posts answers q a s r.none legal r.knows in
      h posts (answers ++ a ∷ []) source (silent t)
      (record { none = refl; knows = record { posts_are = ap (λ ps. posts ++ posts_of_step ps) (sym (posts-answered a s ∙ r.none)) ∙ k.posts_are; arrived = k.arrived; no_other = k.no_other } }),
)

asks-as : (go : GoingOn) → GoesOn go → (posts : List PostedJob) (answers : List Answer) (q : Question) (source : Source) (s : State) → question s ≡ Some q → Rests posts answers s →
    AsksAs posts answers (asks go q source s)
unfolding AsksAs
asks-as go h posts answers q (Source.Given []) s e r = (q, e, may-ask posts answers q s r.none r.knows e)
asks-as go h posts answers q (Source.Given (a ∷ given)) s e r = answer-asks go h posts answers (Source.Given given) q a s e r
asks-as go h posts answers q (Source.Scripted tick jobs) s e r =
    let a = scripted tick jobs s.moment q in
    answer-asks go h posts answers (Source.Scripted tick (without_answered a jobs)) q a s e r

-- a block line changes nothing of it
block-rests : (posts : List PostedJob) (answers : List Answer) (s : State) → Rests posts answers s → Rests posts answers (block_line s)
block-rests posts answers s r = by (any_numbered s.items) _
  where
    by : (b : Bool) (line : Line) → Rests posts answers (if b then s else say line s)
    by true line = r
    by false line = record { none = r.none; knows = record { posts_are = r.knows.posts_are; arrived = r.knows.arrived; no_other = r.knows.no_other } }

block-question : (s : State) → question (silent (block_line s)) ≡ question s
block-question s = by (any_numbered s.items) _
  where
    by : (b : Bool) (line : Line) → question (silent (if b then s else say line s)) ≡ question s
    by true line = refl
    by false line = refl

question-asks : (go : GoingOn) (budget : ℕ) → GoesOn go → (posts : List PostedJob) (answers : List Answer) (o : Option Question) (source : Source) (s : State) → question s ≡ o → Rests posts answers s →
    AsksAs posts answers (after_question go budget o source s)
unfolding RestsAt GivesOut interrupts AsksAs
question-asks go budget h posts answers None source s e r =
    let p = loop_exit budget (block_line s) in
    given-asks posts answers p (after_exit go (with_posts s.moment p.posts source) p.next)
    (exit-asks go h (posts ++ posts_of_step p.posts) answers (with_posts s.moment p.posts source) p.next
    (runs-give posts answers (budget - (block_line s).moves) _ (exits-know posts answers (block_line s) (block-rests posts answers s r).knows)))
question-asks go budget h posts answers (Some q) source s e r =
    let b = block-rests posts answers s r in
    asks-as go h posts answers q source (silent (block_line s)) (block-question s ∙ e)
    (record { none = refl; knows = record { posts_are = ap (λ ps. posts ++ posts_of_step ps) (sym b.none) ∙ b.knows.posts_are; arrived = b.knows.arrived; no_other = b.knows.no_other } })

turn-asks : (go : GoingOn) (budget : ℕ) → GoesOn go → (posts : List PostedJob) (answers : List Answer) (source : Source) (x : Next) → RestsAt posts answers x → AsksAs posts answers (after_turn go budget source x)
unfolding RestsAt AsksAs
turn-asks go budget h posts answers source (Next.Over cause s) r = tt
turn-asks go budget h posts answers source (Next.Resting s) r = question-asks go budget h posts answers (question s) source s refl r
turn-asks go budget h posts answers source (Next.Going g s) r = tt

run_turns-asks : (n budget : ℕ) → GoesOn (run_turns n budget)
unfolding GoesOn RestsAt GivesOut AsksAs
run_turns-asks zero budget posts answers source s r = tt
run_turns-asks (suc n) budget posts answers source s r =
    let p = turn budget s in
    let from = with_posts s.moment p.posts source in
    given-asks posts answers p (after_turn (run_turns n budget) budget from p.next)
    (turn-asks (run_turns n budget) budget (run_turns-asks n budget) (posts ++ posts_of_step p.posts) answers from p.next (turn-gives budget posts answers s r))

start-asks : (posts : List PostedJob) (source : Source) (turns moves : ℕ) (x : Next) → RestsAt posts [] x → AsksAs posts [] (after_start source turns moves x)
unfolding GoesOn RestsAt AsksAs
start-asks posts source turns moves (Next.Over cause s) r = tt
start-asks posts source turns moves (Next.Resting s) r = run_turns-asks turns moves posts [] source s r
start-asks posts source turns moves (Next.Going g s) r = tt

pub run-asks : (source : Source) (turns moves : ℕ) (c : Scenario) → AsksLegally [] [] (run_from source turns moves c).log (run_from source turns moves c).end (run_from source turns moves c).state
unfolding RestsAt GivesOut AsksAs
run-asks source turns moves c =
    let p = runs moves (starts lands 0 [] (first_state c)) in
    let from = with_posts 0 p.posts source in
    given-asks [] [] p (after_start from turns moves p.next)
    (start-asks ([] ++ posts_of_step p.posts) from turns moves p.next (runs-give [] [] moves (starts lands 0 [] (first_state c)) (starts-know c)))

-- what may be asked and is answered legally makes a legal log
made-legal : (posts : List PostedJob) (answers : List Answer) (log : List LogEntry) (end : End) (s : State) → AsksLegally posts answers log end s → AnswersLegally posts answers log →
    AreLegal posts answers log
made-legal posts answers [] end s asks legal = tt
made-legal posts answers (LogEntry.Post number job takes ∷ log) end s asks legal = made-legal (posts ++ posted_job number job ∷ []) answers log end s asks legal
made-legal posts answers (LogEntry.Asked q a ∷ log) end s asks legal =
    let this = legal.0 asks.0 in (this, made-legal posts (answers ++ a ∷ []) log end s (asks.1 this) legal.1)

pub logs-legal : (source : Source) (turns moves : ℕ) (c : Scenario) → AnswersLegally [] [] (run_from source turns moves c).log → AreLegal [] [] (run_from source turns moves c).log
logs-legal source turns moves c legal =
    let r = run_from source turns moves c in
    made-legal [] [] r.log r.end r.state (run-asks source turns moves c) legal
