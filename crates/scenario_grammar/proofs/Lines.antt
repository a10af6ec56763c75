-- Each line, by its first word: what is read was written so, and what was written is read.
use Rattle.std.proofs.Common.{◌≡◌, ℕ, Bool, true, false, List, [], ◌∷◌, ◌++◌, Option, Some, None, Ok, Err, is_ok, refl, sym, ap, subst, ◌∙◌, append_assoc, append-nil}
use Rattle.gv_values.specs.declared.name.Name.{Name}
use Rattle.gv_values.specs.declared.fault.Class.{Class}
use Rattle.scenario_tree.specs.declared.tree.Expression.{Expression}
use Rattle.scenario_tree.specs.declared.tree.Command.TheVariants as command
use Rattle.scenario_tree.specs.declared.tree.Giving.{Giving}
use Rattle.scenario_tree.specs.declared.tree.Giving.TheVariants as giving
use Rattle.gv_values.specs.declared.job.JobKind.{JobKind}
use Rattle.scenario_tree.specs.declared.tree.LinkEnd.TheVariants as link
use Rattle.scenario_tree.specs.declared.tree.Object.TheVariants as object
use Rattle.scenario_tree.specs.declared.tree.QueueKind.{QueueKind}
use Rattle.scenario_tree.specs.declared.tree.Wait.{Wait}
use Rattle.scenario_grammar.specs.declared.keyword.Keyword.{Keyword}
use Rattle.scenario_grammar.specs.declared.keyword.Keyword.TheVariants as k
use Rattle.scenario_grammar.specs.declared.token.Token.{Token}
use Rattle.scenario_grammar.specs.declared.token.Token.TheVariants as token
use Rattle.scenario_grammar.specs.declared.phrase.Phrase.{Phrase}
use Rattle.scenario_grammar.specs.declared.phrase.Phrase.TheVariants as phrase
use Rattle.scenario_grammar.specs.Token.{Written, ◌⊕◌, ◌▹◌, each, fixed, name, number, perhaps}
use Rattle.scenario_grammar.specs.Expressions.{expression}
use Rattle.scenario_grammar.specs.Phrase.{phrase_tokens, giving_tokens, timeout_tokens, ms, timed_tokens, wait_tokens, marked, with_fault, flag, count_tokens, takes_tokens, size_tokens, job_keyword, queue_keyword, class_keyword}
use Rattle.scenario_grammar.specs.Reading.{Reading, ◌<$>◌, pure, name_at, number_at, expression_at, nested_at, all_at, raw_link_at, gives, giving_by, phrase_by}
use Rattle.scenario_grammar.specs.Place.{role_by, States}
use Rattle.scenario_grammar.proofs.Parts.{AreProper, Anything, both, bind_ok, map_sound, map_full, pure_sound}
use Rattle.scenario_grammar.proofs.Words.{Faithful, made, joined, next, ending, Ends, inner, names, numbers, times, expressions, timed_parts, takes_parts, under_parts, with_parts, with_at_the_end, count_parts, wait_parts, before_wait, before_time, before_now, now_parts, silent_parts, immediate_parts, after_tokens, after_parts, size_parts, jobs, queues, classes, binding_parts, all_parts}
use Rattle.scenario_grammar.specs.declared.reason.TextReason.TheVariants as reason
use Rattle.scenario_grammar.specs.declared.limits.TheConstants.{MOST_MARK, MOST_POOL_PLACES, MOST_SLOTS, MOST_UNITS}

-- what stands behind the first word of a line, and is read as the whole of it
pub record Line {E : Type 0} (word : Keyword) (make : E → Phrase) (writes : E → Written Token) : Type 0 where
  pub same : (p : E) → phrase_tokens (make p) ≡ (word ▹ writes p)
  pub reads : Faithful make writes Ends (phrase_by word)

-- the same of a statement that gives a value
pub record Gives {E : Type 0} (word : Keyword) (make : E → Giving) (writes : E → Written Token) : Type 0 where
  pub same : (p : E) → giving_tokens (make p) ≡ (word ▹ writes p)
  pub reads : Faithful make writes Ends (giving_by word)

no_expression : expression_at [] ≡ Err reason.TooShort
unfolding nested_at
no_expression = refl

no_name : name_at [] ≡ Err reason.TooShort
unfolding name_at
no_name = refl

arguments : Faithful (λ xs. xs) (each expression) Ends (all_at expression_at)
arguments = all_parts expressions reason.TooShort no_expression

parameters : Faithful (λ xs. xs) (each name) Ends (all_at name_at)
parameters = all_parts names reason.TooShort no_name

pub event_line : Line {E = Name} k.Event (λ p. phrase.Declaration p object.Event) (λ p. name p)
unfolding phrase_tokens
event_line = record { same = λ p. refl; reads = ending (made (λ n. phrase.Declaration n object.Event) names) }

pub result_line : Line {E = Name} k.Result (λ p. phrase.Declaration p object.Result) (λ p. name p)
unfolding phrase_tokens
result_line = record { same = λ p. refl; reads = ending (made (λ n. phrase.Declaration n object.Result) names) }

pub sem_line : Line {E = Name × ℕ} k.Sem (λ p. phrase.Declaration p.0 (object.Semaphore p.1)) (λ p. name p.0 ⊕ number 0 MOST_UNITS p.1)
unfolding phrase_tokens
sem_line = record { same = λ p. refl; reads = ending (next (made (λ n x. phrase.Declaration n (object.Semaphore x)) names) (numbers 0 MOST_UNITS)) }

pub bounded_sem_line : Line {E = Name × ℕ} k.BoundedSem (λ p. phrase.Declaration p.0 (object.BoundedSemaphore p.1)) (λ p. name p.0 ⊕ number 0 MOST_UNITS p.1)
unfolding phrase_tokens
bounded_sem_line = record { same = λ p. refl; reads = ending (next (made (λ n x. phrase.Declaration n (object.BoundedSemaphore x)) names) (numbers 0 MOST_UNITS)) }

pub lock_line : Line {E = Name} k.Lock (λ p. phrase.Declaration p object.Lock) (λ p. name p)
unfolding phrase_tokens
lock_line = record { same = λ p. refl; reads = ending (made (λ n. phrase.Declaration n object.Lock) names) }

pub queue_line : Line {E = (Name × QueueKind) × Option ℕ} k.Queue (λ p. phrase.Declaration p.0.0 (object.Queue p.0.1 p.1)) (λ p. name p.0.0 ⊕ fixed (queue_keyword p.0.1) ⊕ size_tokens p.1)
unfolding phrase_tokens
queue_line = record { same = λ p. refl; reads = ending (next (next (made (λ n kind size. phrase.Declaration n (object.Queue kind size)) names) queues) size_parts) }

pub group_line : Line {E = Name} k.Group (λ p. phrase.Declaration p object.Group) (λ p. name p)
unfolding phrase_tokens
group_line = record { same = λ p. refl; reads = ending (made (λ n. phrase.Declaration n object.Group) names) }

pub pool_line : Line {E = Name × ℕ} k.Pool (λ p. phrase.Declaration p.0 (object.Pool p.1)) (λ p. name p.0 ⊕ number 1 MOST_POOL_PLACES p.1)
unfolding phrase_tokens
pool_line = record { same = λ p. refl; reads = ending (next (made (λ n x. phrase.Declaration n (object.Pool x)) names) (numbers 1 MOST_POOL_PLACES)) }

pub native_line : Line {E = Name × ℕ} k.Native (λ p. phrase.Declaration p.0 (object.Native p.1)) (λ p. name p.0 ⊕ number 1 MOST_SLOTS p.1)
unfolding phrase_tokens
native_line = record { same = λ p. refl; reads = ending (next (made (λ n x. phrase.Declaration n (object.Native x)) names) (numbers 1 MOST_SLOTS)) }

pub channel_line : Line {E = Name} k.Channel (λ p. phrase.Declaration p object.Channel) (λ p. name p)
unfolding phrase_tokens
channel_line = record { same = λ p. refl; reads = ending (made (λ n. phrase.Declaration n object.Channel) names) }

pub profile_line : Line {E = ℕ} k.Profile (λ n. phrase.Profile n) (λ n. number 2 3 n)
unfolding phrase_tokens
profile_line = record { same = λ p. refl; reads = ending (made (λ n. phrase.Profile n) (numbers 2 3)) }

pub function_line : Line {E = Name × List Name} k.Function (λ p. phrase.Function false p.0 p.1) (λ p. name p.0 ⊕ each name p.1)
unfolding phrase_tokens
function_line = record { same = λ p. refl; reads = next (made (λ a b. phrase.Function false a b) names) parameters }

pub raw_function_line : Line {E = Name × Name} k.RawFunction (λ p. phrase.Function true p.0 (p.1 ∷ [])) (λ p. name p.0 ⊕ name p.1)
unfolding phrase_tokens
raw_function_line = record { same = λ p. refl; reads = ending (next (made (λ n p. phrase.Function true n (p ∷ [])) names) names) }

pub print_line : Line {E = Expression} k.Print (λ p. phrase.Command (command.Print p)) (λ p. expression p)
unfolding phrase_tokens
print_line = record { same = λ p. refl; reads = ending (made (λ a. phrase.Command (command.Print a)) expressions) }

pub let_line : Line {E = Name × Expression} k.Let (λ p. phrase.Command (command.Let p.0 p.1)) (λ p. name p.0 ⊕ expression p.1)
unfolding phrase_tokens
let_line = record { same = λ p. refl; reads = ending (next (made (λ a b. phrase.Command (command.Let a b)) names) expressions) }

pub return_line : Line {E = Expression} k.Return (λ p. phrase.Command (command.Return p)) (λ p. expression p)
unfolding phrase_tokens
return_line = record { same = λ p. refl; reads = ending (made (λ a. phrase.Command (command.Return a)) expressions) }

pub raise_line : Line {E = Expression} k.Raise (λ p. phrase.Command (command.Raise p)) (λ p. expression p)
unfolding phrase_tokens
raise_line = record { same = λ p. refl; reads = ending (made (λ a. phrase.Command (command.Raise a)) expressions) }

pub start_line : Line {E = Expression} k.Start (λ p. phrase.Command (command.Start p)) (λ p. expression p)
unfolding phrase_tokens
start_line = record { same = λ p. refl; reads = ending (made (λ a. phrase.Command (command.Start a)) expressions) }

pub sleep_line : Line {E = ℕ} k.Sleep (λ p. phrase.Command (command.Sleep p)) (λ p. ms p)
unfolding phrase_tokens
sleep_line = record { same = λ p. refl; reads = ending (made (λ a. phrase.Command (command.Sleep a)) times) }

pub join_line : Line {E = Expression × Option ℕ} k.Join (λ p. phrase.Command (command.Join p.0 p.1)) (λ p. expression p.0 ⊕ timed_tokens p.1)
unfolding phrase_tokens
join_line = record { same = λ p. refl; reads = next (made (λ a b. phrase.Command (command.Join a b)) expressions) timed_parts }

pub kill_line : Line {E = (Expression × Option Expression) × Wait} k.Kill (λ p. phrase.Command (command.Kill p.0.0 p.0.1 p.1)) (λ p. expression p.0.0 ⊕ with_fault p.0.1 ⊕ wait_tokens p.1)
unfolding phrase_tokens
kill_line = record { same = λ p. refl; reads = joined (next (made (λ a b c. phrase.Command (command.Kill a b c)) expressions) with_parts) wait_parts before_wait }

pub kill_all_line : Line {E = (Expression × Option Expression) × Wait} k.KillAll (λ p. phrase.Command (command.KillAll p.0.0 p.0.1 p.1)) (λ p. expression p.0.0 ⊕ with_fault p.0.1 ⊕ wait_tokens p.1)
unfolding phrase_tokens
kill_all_line = record { same = λ p. refl; reads = joined (next (made (λ a b c. phrase.Command (command.KillAll a b c)) expressions) with_parts) wait_parts before_wait }

pub unlink_line : Line {E = Expression} k.Unlink (λ p. phrase.Command (command.Unlink p)) (λ p. expression p)
unfolding phrase_tokens
unlink_line = record { same = λ p. refl; reads = ending (made (λ a. phrase.Command (command.Unlink a)) expressions) }

pub set_line : Line {E = Name} k.Set (λ p. phrase.Command (command.Set p)) (λ p. name p)
unfolding phrase_tokens
set_line = record { same = λ p. refl; reads = ending (made (λ a. phrase.Command (command.Set a)) names) }

pub clear_line : Line {E = Name} k.Clear (λ p. phrase.Command (command.Clear p)) (λ p. name p)
unfolding phrase_tokens
clear_line = record { same = λ p. refl; reads = ending (made (λ a. phrase.Command (command.Clear a)) names) }

pub result_set_line : Line {E = Name × Expression} k.ResultSet (λ p. phrase.Command (command.ResultSet p.0 p.1)) (λ p. name p.0 ⊕ expression p.1)
unfolding phrase_tokens
result_set_line = record { same = λ p. refl; reads = ending (next (made (λ a b. phrase.Command (command.ResultSet a b)) names) expressions) }

pub result_fail_line : Line {E = Name × Expression} k.ResultFail (λ p. phrase.Command (command.ResultFail p.0 p.1)) (λ p. name p.0 ⊕ expression p.1)
unfolding phrase_tokens
result_fail_line = record { same = λ p. refl; reads = ending (next (made (λ a b. phrase.Command (command.ResultFail a b)) names) expressions) }

pub release_line : Line {E = Name} k.Release (λ p. phrase.Command (command.Release p)) (λ p. name p)
unfolding phrase_tokens
release_line = record { same = λ p. refl; reads = ending (made (λ a. phrase.Command (command.Release a)) names) }

pub queue_put_line : Line {E = (Name × Expression) × Wait} k.QueuePut (λ p. phrase.Command (command.QueuePut p.0.0 p.0.1 p.1)) (λ p. name p.0.0 ⊕ expression p.0.1 ⊕ wait_tokens p.1)
unfolding phrase_tokens
queue_put_line = record { same = λ p. refl; reads = next (next (made (λ a b c. phrase.Command (command.QueuePut a b c)) names) expressions) wait_parts }

pub queue_done_line : Line {E = Name} k.QueueDone (λ p. phrase.Command (command.QueueDone p)) (λ p. name p)
unfolding phrase_tokens
queue_done_line = record { same = λ p. refl; reads = ending (made (λ a. phrase.Command (command.QueueDone a)) names) }

pub group_join_line : Line {E = Name × Option ℕ} k.GroupJoin (λ p. phrase.Command (command.GroupJoin p.0 p.1)) (λ p. name p.0 ⊕ timed_tokens p.1)
unfolding phrase_tokens
group_join_line = record { same = λ p. refl; reads = next (made (λ a b. phrase.Command (command.GroupJoin a b)) names) timed_parts }

pub group_kill_line : Line {E = (Name × Option Expression) × Bool} k.GroupKill (λ p. phrase.Command (command.GroupKill p.0.0 p.0.1 p.1)) (λ p. name p.0.0 ⊕ with_fault p.0.1 ⊕ flag k.Now p.1)
unfolding phrase_tokens
group_kill_line = record { same = λ p. refl; reads = joined (next (made (λ a b c. phrase.Command (command.GroupKill a b c)) names) with_parts) now_parts before_now }

pub set_parent_line : Line {E = Expression × Expression} k.SetParent (λ p. phrase.Command (command.SetParent p.0 p.1)) (λ p. expression p.0 ⊕ expression p.1)
unfolding phrase_tokens
set_parent_line = record { same = λ p. refl; reads = ending (next (made (λ a b. phrase.Command (command.SetParent a b)) expressions) expressions) }

pub channel_put_line : Line {E = Name × Expression} k.ChannelPut (λ p. phrase.Command (command.ChannelPut p.0 p.1)) (λ p. name p.0 ⊕ expression p.1)
unfolding phrase_tokens
channel_put_line = record { same = λ p. refl; reads = ending (next (made (λ a b. phrase.Command (command.ChannelPut a b)) names) expressions) }

pub queue_shut_line : Line {E = Name × Bool} k.QueueShut (λ p. phrase.Command (command.QueueShut p.0 p.1)) (λ p. name p.0 ⊕ flag k.Immediate p.1)
unfolding phrase_tokens
queue_shut_line = record { same = λ p. refl; reads = next (made (λ a b. phrase.Command (command.QueueShut a b)) names) immediate_parts }

pub if_line : Line {E = Expression} k.If (λ p. phrase.If p) (λ p. expression p)
unfolding phrase_tokens
if_line = record { same = λ p. refl; reads = ending (made (λ a. phrase.If a) expressions) }

pub while_line : Line {E = Expression} k.While (λ p. phrase.While p) (λ p. expression p)
unfolding phrase_tokens
while_line = record { same = λ p. refl; reads = ending (made (λ a. phrase.While a) expressions) }

pub except_line : Line {E = Class × Option Name} k.Except (λ p. phrase.Except p.0 p.1) (λ p. fixed (class_keyword p.0) ⊕ perhaps name p.1)
unfolding phrase_tokens
except_line = record { same = λ p. refl; reads = next (made (λ a b. phrase.Except a b) classes) binding_parts }

timeout_same : (after : Option ℕ) (silent : Bool) → timeout_tokens after silent ≡ (k.Timeout ▹ (after_tokens after ⊕ flag k.Silent silent))
timeout_same None silent = refl
timeout_same (Some n) silent = refl

pub timeout_line : Line {E = Option ℕ × Bool} k.Timeout (λ p. phrase.Timeout p.0 p.1) (λ p. after_tokens p.0 ⊕ flag k.Silent p.1)
unfolding phrase_tokens
timeout_line = record { same = λ p. timeout_same p.0 p.1; reads = next (made (λ a b. phrase.Timeout a b) after_parts) silent_parts }

-- a line of one word
bare_line : (word : Keyword) (p : Phrase) → phrase_tokens p ≡ fixed word → Faithful {E = Unit {0}} (λ _. p) (λ _. Some []) Ends (pure p)
bare_line word p same = record { sound = pure_sound p; full = λ q front rest w h. rw (sym (ends front w)) refl }
  where
    ends : (front : List Token) → (let w : Written Token = Some [] in w) ≡ Some front → [] ≡ front
    ends front w = cc

pub else_line : Line {E = Unit {0}} k.Else (λ _. phrase.Else) (λ _. Some [])
unfolding phrase_tokens
else_line = record { same = λ p. refl; reads = bare_line k.Else phrase.Else refl }

pub try_line : Line {E = Unit {0}} k.Try (λ _. phrase.Try) (λ _. Some [])
unfolding phrase_tokens
try_line = record { same = λ p. refl; reads = bare_line k.Try phrase.Try refl }

pub finally_line : Line {E = Unit {0}} k.Finally (λ _. phrase.Finally) (λ _. Some [])
unfolding phrase_tokens
finally_line = record { same = λ p. refl; reads = bare_line k.Finally phrase.Finally refl }

pub end_line : Line {E = Unit {0}} k.End (λ _. phrase.End) (λ _. Some [])
unfolding phrase_tokens
end_line = record { same = λ p. refl; reads = bare_line k.End phrase.End refl }

pub spawn_gives : Gives {E = Name × List Expression} k.Spawn (λ p. giving.Spawn p.0 p.1) (λ p. name p.0 ⊕ each expression p.1)
spawn_gives = record { same = λ p. refl; reads = next (made (λ a b. giving.Spawn a b) names) arguments }

pub spawn_later_gives : Gives {E = (ℕ × Name) × List Expression} k.SpawnLater (λ p. giving.SpawnLater p.0.0 p.0.1 p.1) (λ p. ms p.0.0 ⊕ name p.0.1 ⊕ each expression p.1)
spawn_later_gives = record { same = λ p. refl; reads = next (next (made (λ a b c. giving.SpawnLater a b c) times) names) arguments }

pub new_gives : Gives {E = Name × List Expression} k.New (λ p. giving.New p.0 p.1) (λ p. name p.0 ⊕ each expression p.1)
new_gives = record { same = λ p. refl; reads = next (made (λ a b. giving.New a b) names) arguments }

pub get_gives : Gives {E = Expression × Wait} k.Get (λ p. giving.Get p.0 p.1) (λ p. expression p.0 ⊕ wait_tokens p.1)
get_gives = record { same = λ p. refl; reads = next (made (λ a b. giving.Get a b) expressions) wait_parts }

pub join_all_gives : Gives {E = (Expression × Option ℕ) × Option ℕ} k.JoinAll (λ p. giving.JoinAll p.0.0 p.0.1 p.1) (λ p. expression p.0.0 ⊕ count_tokens p.0.1 ⊕ timed_tokens p.1)
join_all_gives = record { same = λ p. refl; reads = joined (next (made (λ a b c. giving.JoinAll a b c) expressions) count_parts) timed_parts before_time }

pub link_gives : Gives {E = Expression × Name} k.Link (λ p. giving.Link link.Any p.0 p.1) (λ p. expression p.0 ⊕ name p.1)
link_gives = record { same = λ p. refl; reads = ending (next (made (λ a b. giving.Link link.Any a b) expressions) names) }

pub link_value_gives : Gives {E = Expression × Name} k.LinkValue (λ p. giving.Link link.Value p.0 p.1) (λ p. expression p.0 ⊕ name p.1)
link_value_gives = record { same = λ p. refl; reads = ending (next (made (λ a b. giving.Link link.Value a b) expressions) names) }

pub link_fault_gives : Gives {E = Expression × Name} k.LinkFault (λ p. giving.Link link.Fault p.0 p.1) (λ p. expression p.0 ⊕ name p.1)
link_fault_gives = record { same = λ p. refl; reads = ending (next (made (λ a b. giving.Link link.Fault a b) expressions) names) }

pub wait_gives : Gives {E = Name × Option ℕ} k.Wait (λ p. giving.WaitEvent p.0 p.1) (λ p. name p.0 ⊕ timed_tokens p.1)
wait_gives = record { same = λ p. refl; reads = next (made (λ a b. giving.WaitEvent a b) names) timed_parts }

pub result_get_gives : Gives {E = Name × Wait} k.ResultGet (λ p. giving.ResultGet p.0 p.1) (λ p. name p.0 ⊕ wait_tokens p.1)
result_get_gives = record { same = λ p. refl; reads = next (made (λ a b. giving.ResultGet a b) names) wait_parts }

pub result_wait_gives : Gives {E = Name × Option ℕ} k.ResultWait (λ p. giving.ResultWait p.0 p.1) (λ p. name p.0 ⊕ timed_tokens p.1)
result_wait_gives = record { same = λ p. refl; reads = next (made (λ a b. giving.ResultWait a b) names) timed_parts }

pub acquire_gives : Gives {E = Name × Wait} k.Acquire (λ p. giving.Acquire p.0 p.1) (λ p. name p.0 ⊕ wait_tokens p.1)
acquire_gives = record { same = λ p. refl; reads = next (made (λ a b. giving.Acquire a b) names) wait_parts }

pub queue_get_gives : Gives {E = Name × Wait} k.QueueGet (λ p. giving.QueueGet p.0 p.1) (λ p. name p.0 ⊕ wait_tokens p.1)
queue_get_gives = record { same = λ p. refl; reads = next (made (λ a b. giving.QueueGet a b) names) wait_parts }

pub queue_peek_gives : Gives {E = Name × Wait} k.QueuePeek (λ p. giving.QueuePeek p.0 p.1) (λ p. name p.0 ⊕ wait_tokens p.1)
queue_peek_gives = record { same = λ p. refl; reads = next (made (λ a b. giving.QueuePeek a b) names) wait_parts }

pub queue_join_gives : Gives {E = Name × Option ℕ} k.QueueJoin (λ p. giving.QueueJoin p.0 p.1) (λ p. name p.0 ⊕ timed_tokens p.1)
queue_join_gives = record { same = λ p. refl; reads = next (made (λ a b. giving.QueueJoin a b) names) timed_parts }

pub group_spawn_gives : Gives {E = (Name × Name) × List Expression} k.GroupSpawn (λ p. giving.GroupSpawn p.0.0 p.0.1 p.1) (λ p. name p.0.0 ⊕ name p.0.1 ⊕ each expression p.1)
group_spawn_gives = record { same = λ p. refl; reads = next (next (made (λ a b c. giving.GroupSpawn a b c) names) names) arguments }

pub map_gives : Gives {E = (Name × Name) × Expression} k.Map (λ p. giving.Map p.0.0 p.0.1 p.1) (λ p. name p.0.0 ⊕ name p.0.1 ⊕ expression p.1)
map_gives = record { same = λ p. refl; reads = ending (next (next (made (λ a b c. giving.Map a b c) names) names) expressions) }

pub native_spawn_gives : Gives {E = ((Name × JobKind) × Expression) × Option ℕ} k.NativeSpawn (λ p. giving.NativeSpawn p.0.0.0 p.0.0.1 p.0.1 p.1) (λ p. name p.0.0.0 ⊕ fixed (job_keyword p.0.0.1) ⊕ expression p.0.1 ⊕ takes_tokens p.1)
native_spawn_gives = record { same = λ p. refl; reads = next (next (next (made (λ a b c d. giving.NativeSpawn a b c d) names) jobs) expressions) takes_parts }

pub raw_gives : Gives {E = Name × Option Expression} k.Raw (λ p. giving.Raw p.0 p.1) (λ p. name p.0 ⊕ marked k.Under p.1)
raw_gives = record { same = λ p. refl; reads = next (made (λ a b. giving.Raw a b) names) under_parts }

pub switch_gives : Gives {E = Expression × Expression} k.Switch (λ p. giving.Switch p.0 p.1) (λ p. expression p.0 ⊕ expression p.1)
switch_gives = record { same = λ p. refl; reads = ending (next (made (λ a b. giving.Switch a b) expressions) expressions) }

pub throw_gives : Gives {E = Expression × Option Expression} k.Throw (λ p. giving.Throw p.0 p.1) (λ p. expression p.0 ⊕ with_fault p.1)
throw_gives = record { same = λ p. refl; reads = next (made (λ a b. giving.Throw a b) expressions) with_at_the_end }

pub channel_get_gives : Gives {E = Name} k.ChannelGet (λ p. giving.ChannelGet p) (λ p. name p)
channel_get_gives = record { same = λ p. refl; reads = ending (made (λ a. giving.ChannelGet a) names) }

-- `mark` and a number, or `set` and a name, behind the greenlet
abbrev marked_tokens : Expression → ℕ → Written Token
marked_tokens x n = expression x ⊕ fixed k.Mark ⊕ number 0 MOST_MARK n

abbrev set_tokens : Expression → Name → Written Token
set_tokens x n = expression x ⊕ fixed k.Set ⊕ name n

-- three parts were written
three : (x z : Written Token) (word : Keyword) (front : List Token) → (x ⊕ fixed word ⊕ z) ≡ Some front
    → (a : List Token) × (b : List Token) × (x ≡ Some a) × (z ≡ Some b) × (a ++ (token.Fixed word ∷ b) ≡ front)
three x z word front e =
    let outer = both (x ⊕ fixed word) z front e in
    let parts = both x (fixed word) outer.0 outer.2 in
    let one : token.Fixed word ∷ [] ≡ parts.1 = cc (parts.3) in
    (parts.0, outer.1, parts.2, outer.3, sym (append_assoc parts.0 (token.Fixed word ∷ []) outer.1) ∙ ap (λ z. (parts.0 ++ z) ++ outer.1) one ∙ ap (λ z. z ++ outer.1) parts.4 ∙ outer.4)

pub link_mark_full : (x : Expression) (n : ℕ) (front rest : List Token) → marked_tokens x n ≡ Some front → giving_by k.RawLink (front ++ rest) ≡ Ok (giving.LinkMark x n, rest)
link_mark_full x n front rest w =
    let p = three (expression x) (number 0 MOST_MARK n) k.Mark front w in
    rw (sym p.4, append_assoc p.0 (token.Fixed k.Mark ∷ p.1) rest, expressions.full x p.0 (token.Fixed k.Mark ∷ (p.1 ++ rest)) p.2 tt)
    (map_full (λ a. giving.LinkMark x a) (λ a. a) (number 0 MOST_MARK) Anything (number_at 0 MOST_MARK) (numbers 0 MOST_MARK).full n p.1 rest p.3 tt)

pub link_set_full : (x : Expression) (n : Name) (front rest : List Token) → set_tokens x n ≡ Some front → giving_by k.RawLink (front ++ rest) ≡ Ok (giving.LinkSet x n, rest)
link_set_full x n front rest w =
    let p = three (expression x) (name n) k.Set front w in
    rw (sym p.4, append_assoc p.0 (token.Fixed k.Set ∷ p.1) rest, expressions.full x p.0 (token.Fixed k.Set ∷ (p.1 ++ rest)) p.2 tt)
    (map_full (λ a. giving.LinkSet x a) (λ a. a) name Anything name_at names.full n p.1 rest p.3 tt)

-- what stands behind a statement's word was written as the rest of it
pub record GivingSaid (word : Keyword) (ts : List Token) (made : Giving) (rest : List Token) : Type 0 where
  pub front : List Token
  pub written : giving_tokens made ≡ Some (token.Fixed word ∷ front)
  pub whole : ts ≡ front ++ rest

-- of use where there is a case for each word: `cc` in each would be dear
not_read : (r : Reading Giving) (x : Giving × List Token) → is_ok r ≡ false → r ≡ Ok x → ⊥
not_read r x refused e = cc (refused, ap is_ok e)

raw_link_said : (x : Expression) (a ts rest : List Token) (made : Giving) → expression x ≡ Some a → AreProper ts → raw_link_at x ts ≡ Ok (made, rest) → GivingSaid k.RawLink (a ++ ts) made rest
raw_link_said x a (token.Fixed k.Mark ∷ ts) rest made w h e =
    let b = map_sound (λ a. giving.LinkMark x a) (λ a. a) (number 0 MOST_MARK) (number_at 0 MOST_MARK) (numbers 0 MOST_MARK).sound ts rest made h e in
    record {
      front = (a ++ token.Fixed k.Mark ∷ []) ++ b.front;
      written = ap giving_tokens (sym b.made_of) ∙ (rw (w, b.written) refl);
      whole = ap (λ z. a ++ (token.Fixed k.Mark ∷ z)) b.whole ∙ sym (append_assoc a (token.Fixed k.Mark ∷ []) (b.front ++ rest)) ∙ sym (append_assoc (a ++ token.Fixed k.Mark ∷ []) b.front rest);
    }
raw_link_said x a (token.Fixed k.Set ∷ ts) rest made w h e =
    let b = map_sound (λ a. giving.LinkSet x a) (λ a. a) name name_at names.sound ts rest made h e in
    record {
      front = (a ++ token.Fixed k.Set ∷ []) ++ b.front;
      written = ap giving_tokens (sym b.made_of) ∙ (rw (w, b.written) refl);
      whole = ap (λ z. a ++ (token.Fixed k.Set ∷ z)) b.whole ∙ sym (append_assoc a (token.Fixed k.Set ∷ []) (b.front ++ rest)) ∙ sym (append_assoc (a ++ token.Fixed k.Set ∷ []) b.front rest);
    }
raw_link_said x a ts rest made w h e = absurd (not_read (raw_link_at x ts) (made, rest) refl e)

said_by : {E : Type 0} {word : Keyword} {make : E → Giving} {writes : E → Written Token} → Gives word make writes
    → (ts rest : List Token) (made : Giving) → AreProper ts → giving_by word ts ≡ Ok (made, rest) → GivingSaid word ts made rest
said_by {word = word} g ts rest made h e =
    let b = g.reads.sound ts rest made h e in
    record { front = b.front; written = ap giving_tokens (sym b.made_of) ∙ g.same b.parts ∙ ap (λ w. word ▹ w) b.written; whole = b.whole }

-- what is read as a statement that gives a value was written so
pub giving_said : (word : Keyword) (ts rest : List Token) (made : Giving) → AreProper ts → giving_by word ts ≡ Ok (made, rest) → GivingSaid word ts made rest
giving_said k.Spawn ts rest made h e = said_by spawn_gives ts rest made h e
giving_said k.SpawnLater ts rest made h e = said_by spawn_later_gives ts rest made h e
giving_said k.New ts rest made h e = said_by new_gives ts rest made h e
giving_said k.Get ts rest made h e = said_by get_gives ts rest made h e
giving_said k.JoinAll ts rest made h e = said_by join_all_gives ts rest made h e
giving_said k.Link ts rest made h e = said_by link_gives ts rest made h e
giving_said k.LinkValue ts rest made h e = said_by link_value_gives ts rest made h e
giving_said k.LinkFault ts rest made h e = said_by link_fault_gives ts rest made h e
giving_said k.RawLink ts rest made h e =
    let first = bind_ok (expression_at ts) (λ x. raw_link_at x.0 x.1) (made, rest) e in
    let b = expressions.sound ts first.0.1 first.0.0 h first.1 in
    let s = raw_link_said first.0.0 b.front first.0.1 rest made (ap expression (sym b.made_of) ∙ b.written) b.proper first.2 in
    record { front = s.front; written = s.written; whole = b.whole ∙ s.whole }
giving_said k.Wait ts rest made h e = said_by wait_gives ts rest made h e
giving_said k.ResultGet ts rest made h e = said_by result_get_gives ts rest made h e
giving_said k.ResultWait ts rest made h e = said_by result_wait_gives ts rest made h e
giving_said k.Acquire ts rest made h e = said_by acquire_gives ts rest made h e
giving_said k.QueueGet ts rest made h e = said_by queue_get_gives ts rest made h e
giving_said k.QueuePeek ts rest made h e = said_by queue_peek_gives ts rest made h e
giving_said k.QueueJoin ts rest made h e = said_by queue_join_gives ts rest made h e
giving_said k.GroupSpawn ts rest made h e = said_by group_spawn_gives ts rest made h e
giving_said k.Map ts rest made h e = said_by map_gives ts rest made h e
giving_said k.NativeSpawn ts rest made h e = said_by native_spawn_gives ts rest made h e
giving_said k.Raw ts rest made h e = said_by raw_gives ts rest made h e
giving_said k.Switch ts rest made h e = said_by switch_gives ts rest made h e
giving_said k.Throw ts rest made h e = said_by throw_gives ts rest made h e
giving_said k.ChannelGet ts rest made h e = said_by channel_get_gives ts rest made h e
giving_said word ts rest made h e = absurd (not_read (giving_by word ts) (made, rest) refl e)

-- a statement that gives a value, read whole behind its word
pub record GivingRead (g : Giving) (ts : List Token) : Type 0 where
  pub word : Keyword
  pub front : List Token
  pub whole : ts ≡ token.Fixed word ∷ front
  pub read : giving_by word front ≡ Ok (g, [])
  pub plain : (us : List Token) → phrase_by word us ≡ (phrase.Giving None <$> giving_by word) us
  pub gives : gives word ≡ true
  pub role : role_by word ≡ States

read_by : {E : Type 0} {word : Keyword} {make : E → Giving} {writes : E → Written Token} → Gives word make writes → (q : E) (ts : List Token)
    → ((us : List Token) → phrase_by word us ≡ (phrase.Giving None <$> giving_by word) us) → gives word ≡ true → role_by word ≡ States → giving_tokens (make q) ≡ Some ts → GivingRead (make q) ts
read_by {word = word} {make = make} {writes = writes} g q ts plain gives role w =
    let i = inner word (writes q) ts (sym (g.same q) ∙ w) in
    record { word = word; front = i.0; whole = sym i.2; read = subst (λ z. giving_by word z ≡ Ok (make q, [])) (append-nil i.0) (g.reads.full q i.0 [] i.1 refl); plain = plain; gives = gives; role = role }

pub giving_read : (g : Giving) (ts : List Token) → giving_tokens g ≡ Some ts → GivingRead g ts
giving_read (giving.Spawn a b) ts w = read_by spawn_gives (a, b) ts (λ us. refl) refl refl w
giving_read (giving.SpawnLater a b c) ts w = read_by spawn_later_gives ((a, b), c) ts (λ us. refl) refl refl w
giving_read (giving.New a b) ts w = read_by new_gives (a, b) ts (λ us. refl) refl refl w
giving_read (giving.Get a b) ts w = read_by get_gives (a, b) ts (λ us. refl) refl refl w
giving_read (giving.JoinAll a b c) ts w = read_by join_all_gives ((a, b), c) ts (λ us. refl) refl refl w
giving_read (giving.Link link.Any a b) ts w = read_by link_gives (a, b) ts (λ us. refl) refl refl w
giving_read (giving.Link link.Value a b) ts w = read_by link_value_gives (a, b) ts (λ us. refl) refl refl w
giving_read (giving.Link link.Fault a b) ts w = read_by link_fault_gives (a, b) ts (λ us. refl) refl refl w
giving_read (giving.LinkMark a b) ts w =
    let i = inner k.RawLink (marked_tokens a b) ts w in
    record { word = k.RawLink; front = i.0; whole = sym i.2; read = subst (λ z. giving_by k.RawLink z ≡ Ok (giving.LinkMark a b, [])) (append-nil i.0) (link_mark_full a b i.0 [] i.1); plain = λ us. refl; gives = refl; role = refl }
giving_read (giving.LinkSet a b) ts w =
    let i = inner k.RawLink (set_tokens a b) ts w in
    record { word = k.RawLink; front = i.0; whole = sym i.2; read = subst (λ z. giving_by k.RawLink z ≡ Ok (giving.LinkSet a b, [])) (append-nil i.0) (link_set_full a b i.0 [] i.1); plain = λ us. refl; gives = refl; role = refl }
giving_read (giving.WaitEvent a b) ts w = read_by wait_gives (a, b) ts (λ us. refl) refl refl w
giving_read (giving.ResultGet a b) ts w = read_by result_get_gives (a, b) ts (λ us. refl) refl refl w
giving_read (giving.ResultWait a b) ts w = read_by result_wait_gives (a, b) ts (λ us. refl) refl refl w
giving_read (giving.Acquire a b) ts w = read_by acquire_gives (a, b) ts (λ us. refl) refl refl w
giving_read (giving.QueueGet a b) ts w = read_by queue_get_gives (a, b) ts (λ us. refl) refl refl w
giving_read (giving.QueuePeek a b) ts w = read_by queue_peek_gives (a, b) ts (λ us. refl) refl refl w
giving_read (giving.QueueJoin a b) ts w = read_by queue_join_gives (a, b) ts (λ us. refl) refl refl w
giving_read (giving.GroupSpawn a b c) ts w = read_by group_spawn_gives ((a, b), c) ts (λ us. refl) refl refl w
giving_read (giving.Map a b c) ts w = read_by map_gives ((a, b), c) ts (λ us. refl) refl refl w
giving_read (giving.NativeSpawn a b c d) ts w = read_by native_spawn_gives (((a, b), c), d) ts (λ us. refl) refl refl w
giving_read (giving.Raw a b) ts w = read_by raw_gives (a, b) ts (λ us. refl) refl refl w
giving_read (giving.Switch a b) ts w = read_by switch_gives (a, b) ts (λ us. refl) refl refl w
giving_read (giving.Throw a b) ts w = read_by throw_gives (a, b) ts (λ us. refl) refl refl w
giving_read (giving.ChannelGet a) ts w = read_by channel_get_gives a ts (λ us. refl) refl refl w
