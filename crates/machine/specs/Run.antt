-- Turns, and the whole run under given answers or under the rule of a script. This project's own.
use Rattle.std.specs.Prelude.{ℕ, zero, suc, ◌+◌, ◌-◌, false, List, [], ◌∷◌, ◌++◌, map, length, Option, Some, None, if◌then◌else◌, nat_lt, codes, ◌≡◌}
use Rattle.gv_values.specs.declared.fault.FaultKind.{FaultKind}
use Rattle.gv_values.specs.declared.job.Answer.{Answer}
use Rattle.world_rules.specs.declared.question.DueJob.{DueJob}
use Rattle.world_rules.specs.declared.question.LogEntry.{LogEntry}
use Rattle.world_rules.specs.declared.question.Question.{Question}
use Rattle.world_rules.specs.Script.{due_at, due_job, scripted, without_done}
use Rattle.scenario_tree.specs.declared.tree.Object.{Object as Declared}
use Rattle.scenario_tree.specs.declared.tree.Scenario.{Scenario}
use Rattle.trace_text.specs.declared.line.Line.{Line}
use Rattle.trace_text.specs.declared.line.StopCause.{StopCause}
use Rattle.machine.specs.declared.items.Item.{Item}
use Rattle.machine.specs.declared.state.Object.{Object}
use Rattle.machine.specs.declared.state.Post.{Post}
use Rattle.machine.specs.State.{State}
use Rattle.machine.specs.Expressions.{function_number}
use Rattle.machine.specs.Landing.{Next, starts, lands}
use Rattle.machine.specs.Greenlets.{add_greenlet}
use Rattle.machine.specs.Moves.{move}
use Rattle.machine.specs.Deliveries.{deliver, interrupts}
use Rattle.machine.specs.Questions.{question, block_line, take_answer}

-- what a part of the run gave out, and what came; the state has the lines and posts of the step under way
pub record Passed : Type 0 where
  pub lines : List Line
  pub posts : List Post
  pub next : Next

-- the state after its lines and posts are given out
abbrev pub silent : State → State
silent s = record s { lines = []; posts = [] }

-- the part of the run ends here, and gives out the step under way
abbrev pub passed : State → (State → Next) → Passed
passed s next = record { lines = s.lines; posts = s.posts; next = next (silent s) }

-- nothing more is given out
abbrev pub rests : State → Passed
rests s = record { lines = []; posts = []; next = Next.Resting s }

-- the step under way is given out, and then what follows
abbrev pub said : State → Passed → Passed
said s p = record { lines = s.lines ++ p.lines; posts = s.posts ++ p.posts; next = p.next }

-- the second part follows the first
abbrev pub followed_by : Passed → Passed → Passed
followed_by p q = record { lines = p.lines ++ q.lines; posts = p.posts ++ q.posts; next = q.next }

-- the greenlet that is under way moves until it parks or ends, at most n moves
abbrev pub runs : ℕ → Next → Passed
runs zero (Next.Going g s) = passed s (Next.Over StopCause.NoMoves)
runs (suc n) (Next.Going g s) = said s (runs n (move g (silent s)))
runs n (Next.Resting s) = passed s Next.Resting
runs n (Next.Over cause s) = passed s (Next.Over cause)

-- with the moves that are left of this budget
abbrev pub runs_on : ℕ → State → Next → Passed
runs_on budget s next = runs (budget - s.moves) next

-- of two items, of which the first has the number n, the one with the lower number
abbrev pub nearer : Item → ℕ → Option Item → Option Item
nearer i n None = Some i
nearer i n (Some j) = elim j.ready [ None ↦ Some i | Some m ↦ if nat_lt m n then Some j else Some i ]

-- the item counts where it has a number below the mark
abbrev pub with_this : Item → ℕ → Option ℕ → Option Item → Option Item
with_this i mark None rest = rest
with_this i mark (Some n) rest = if nat_lt n mark then nearer i n rest else rest

-- the item with the least number below the mark
abbrev pub least_below : ℕ → List Item → Option Item
least_below mark [] = None
least_below mark (i ∷ items) = with_this i mark i.ready (least_below mark items)

-- after a delivery the turn goes on, unless the run is over
abbrev pub after_delivery : (State → Passed) → Passed → Next → Passed
after_delivery go p (Next.Resting s) = followed_by p (go s)
after_delivery go p next = p

-- the item is delivered, and its greenlet runs until it parks or ends
abbrev pub delivers_one : (State → Passed) → ℕ → Option Item → State → Passed
delivers_one go budget None s = rests s
delivers_one go budget (Some i) s = let p = runs_on budget s (deliver i s) in after_delivery go p p.next

-- The items with a number below the mark are delivered, the least first, at most n of them.
abbrev pub deliveries : ℕ → ℕ → ℕ → State → Passed
deliveries zero budget mark s = rests s
deliveries (suc n) budget mark s = delivers_one (deliveries n budget mark) budget (least_below mark s.items) s

-- a turn begins: its mark is the next ready number, and what has a number by then is delivered
abbrev pub turn : ℕ → State → Passed
turn budget s = deliveries (length s.items) budget s.next_ready (record s { turns = s.turns + 1 })

-- LoopExit is thrown into main, which runs until it parks or ends
abbrev pub loop_exit : ℕ → State → Passed
loop_exit budget s = runs_on budget s (interrupts 0 FaultKind.LoopExit s)

-- answers that are listed, or the rule of a script
pub data Source : Type 0 where
  -- these answers, in order
  Given : List Answer → Source
  -- the rule of a script with this tick, which has these jobs still to answer
  Scripted : ℕ → List DueJob → Source

-- the jobs as they are due where they are posted at this moment
abbrev pub due_jobs : ℕ → List Post → List DueJob
due_jobs moment posts = map (λ post. due_job post.number post.job (due_at moment post.takes)) posts

-- the source after these posts at this moment
abbrev pub with_posts : ℕ → List Post → Source → Source
with_posts moment posts (Source.Given answers) = Source.Given answers
with_posts moment posts (Source.Scripted tick jobs) = Source.Scripted tick (jobs ++ due_jobs moment posts)

-- how a run ends: it stops, or a question finds the list of answers used up
pub data End : Type 0 where
  Stopped : StopCause → End
  Asking : End

-- what a run gives
pub record Ran : Type 0 where
  pub lines : List Line
  -- its posts, and its questions with their answers, in order
  pub log : List LogEntry
  -- the states at its block lines, in order
  pub blocked : List State
  pub end : End
  pub state : State

-- the post as an entry of the log
abbrev pub logged : Post → LogEntry
logged post = LogEntry.Post post.number post.job post.takes

-- these lines come first
abbrev pub first_lines : List Line → Ran → Ran
first_lines lines r = record r { lines = lines ++ r.lines }

-- what this part of the run gave out comes first
abbrev pub given_out : Passed → Ran → Ran
given_out p r = record r { lines = p.lines ++ r.lines; log = map logged p.posts ++ r.log }

-- the question and its answer come first
abbrev pub asked_first : Question → Answer → Ran → Ran
asked_first q answer r = record r { log = LogEntry.Asked q answer ∷ r.log }

-- these states come first
abbrev pub first_blocked : List State → Ran → Ran
first_blocked states r = record r { blocked = states ++ r.blocked }

-- the state at the block line before the question; Poll has none
abbrev pub blocked_at : Question → State → List State
blocked_at Question.Poll s = []
blocked_at (Question.Wait until) s = s ∷ []

-- the stop line comes last
abbrev pub stopped : StopCause → State → Ran
stopped cause s = record { lines = Line.Stop cause s.turns s.moves ∷ []; log = []; blocked = []; end = End.Stopped cause; state = s }

-- how the run goes on, where the next turn begins
abbrev pub GoingOn : Type 0
GoingOn = Source → State → Ran

-- no part of a run leaves a greenlet at a move but for want of moves
abbrev pub after_exit : GoingOn → Source → Next → Ran
after_exit go source (Next.Over cause s) = stopped cause s
after_exit go source (Next.Resting s) = go source s
after_exit go source (Next.Going g s) = stopped StopCause.NoMoves s

-- the run goes on with the answer
abbrev pub after_answer : GoingOn → Source → Question → Answer → State → Ran
after_answer go source q answer s =
    let t = take_answer answer s in
    asked_first q answer (first_lines t.lines (go source (silent t)))

-- the question is answered by the next answer of the list, or by the rule
abbrev pub asks : GoingOn → Question → Source → State → Ran
asks go q (Source.Given []) s = record { lines = []; log = []; blocked = []; end = End.Asking; state = s }
asks go q (Source.Given (a ∷ answers)) s = after_answer go (Source.Given answers) q a s
asks go q (Source.Scripted tick jobs) s =
    let a = scripted tick jobs s.moment q in
    after_answer go (Source.Scripted tick (without_done a jobs)) q a s

-- the turn asks its question, if it has one, and else throws LoopExit; the block line is given out before
abbrev pub after_question : GoingOn → ℕ → Option Question → Source → State → Ran
after_question go budget None source s =
    let p = loop_exit budget (block_line s) in
    first_blocked (s ∷ []) (given_out p (after_exit go (with_posts s.moment p.posts source) p.next))
after_question go budget (Some q) source s =
    let t = block_line s in
    first_blocked (blocked_at q s) (first_lines t.lines (asks go q source (silent t)))

-- after the deliveries of a turn: its question, unless the run is over
abbrev pub after_turn : GoingOn → ℕ → Source → Next → Ran
after_turn go budget source (Next.Over cause s) = stopped cause s
after_turn go budget source (Next.Resting s) = after_question go budget (question s) source s
after_turn go budget source (Next.Going g s) = stopped StopCause.NoMoves s

-- The run goes on at the beginning of a turn, for at most n turns.
abbrev pub run_turns : ℕ → ℕ → GoingOn
run_turns zero budget source s = stopped StopCause.NoTurns s
run_turns (suc n) budget source s =
    let p = turn budget s in
    given_out p (after_turn (run_turns n budget) budget (with_posts s.moment p.posts source) p.next)

-- the object as it is declared
abbrev pub object_of : Declared → Object
object_of Declared.Event = Object.Event false 0
object_of Declared.Result = Object.Result None
object_of (Declared.Semaphore n) = Object.Semaphore n None
object_of (Declared.BoundedSemaphore n) = Object.Semaphore n (Some n)
object_of Declared.Lock = Object.Lock None 0
object_of (Declared.Queue kind size) = Object.Queue kind size [] 0 false
object_of Declared.Group = Object.Crew None []
object_of (Declared.Pool n) = Object.Crew (Some n) []
object_of (Declared.Native n) = Object.Native n 0
object_of Declared.Channel = Object.Channel []

-- nothing is made but main, which is New
abbrev pub first_state : Scenario → State
first_state c =
    add_greenlet false 0 (function_number (codes "main") c.functions) []
    (record {
      scenario = c;
      moment = 0;
      next_ready = 0;
      next_since = 0;
      turns = 0;
      moves = 0;
      timeouts = 0;
      links = 0;
      objects = map (λ d. object_of d.object) c.objects;
      greenlets = [];
      jobs = [];
      items = [];
      lines = [];
      posts = [];
    })

-- main starts and runs until it parks or ends; then come the turns
abbrev pub after_start : Source → ℕ → ℕ → Next → Ran
after_start source turns moves (Next.Over cause s) = stopped cause s
after_start source turns moves (Next.Resting s) = run_turns turns moves source s
after_start source turns moves (Next.Going g s) = stopped StopCause.NoMoves s

-- the run within so many turns and moves, with the answers of this source
abbrev pub run_from : Source → ℕ → ℕ → Scenario → Ran
run_from source turns moves c =
    let p = runs moves (starts lands 0 [] (first_state c)) in
    given_out p (after_start (with_posts 0 p.posts source) turns moves p.next)

-- the run within so many turns and moves under the answers of the list
abbrev pub run : Scenario → ℕ → ℕ → List Answer → Ran
run c turns moves answers = run_from (Source.Given answers) turns moves c

-- the run under the rule of a script with this tick
abbrev pub script_run : Scenario → ℕ → ℕ → ℕ → Ran
script_run c turns moves tick = run_from (Source.Scripted tick []) turns moves c

-- the lines begin with the others
pub record GoOnFrom (lines front : List Line) : Type 0 where
  pub rest : List Line
  pub is : lines ≡ front ++ rest
