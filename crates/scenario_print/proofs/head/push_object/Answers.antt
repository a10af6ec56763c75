use Rattle.scenario_print.proofs.Words.{broken_line, further, in_range, line, through}
use Rattle.scenario_print.proofs.head.push_object.Goals as goal
use Rattle.scenario_grammar.specs.declared.limits.TheConstants.{MOST_POOL_PLACES, MOST_SLOTS, MOST_UNITS}

pub returns-in-Event : goal.returns-in-Event
returns-in-Event c = rw c.in-Event.is (line c.start_name.ensures)

pub returns-in-Result : goal.returns-in-Result
returns-in-Result c = rw c.in-Result.is (line c.start_name-in-Result.ensures)

pub returns-in_ok-start_name-in-Semaphore : goal.returns-in_ok-start_name-in-Semaphore
returns-in_ok-start_name-in-Semaphore c = rw c.in-Semaphore.is (line (further c.in_ok-start_name-in-Semaphore.ensures (in_range 0 MOST_UNITS c.push_number.ensures)))

pub returns-in_ok-start_name-in-BoundedSemaphore : goal.returns-in_ok-start_name-in-BoundedSemaphore
returns-in_ok-start_name-in-BoundedSemaphore c = rw c.in-BoundedSemaphore.is (line (further c.in_ok-start_name-in-BoundedSemaphore.ensures (in_range 0 MOST_UNITS c.push_number-in-BoundedSemaphore.ensures)))

pub returns-in-Lock : goal.returns-in-Lock
returns-in-Lock c = rw c.in-Lock.is (line c.start_name-in-Lock.ensures)

pub returns-in_ok-push_fixed-in-Queue : goal.returns-in_ok-push_fixed-in-Queue
returns-in_ok-push_fixed-in-Queue c = rw (c.in-Queue.is, ← c.queue_word.ensures) (line (further (further c.in_ok-start_name-in-Queue.ensures c.in_ok-push_fixed-in-Queue.ensures) c.push_size.ensures))

pub returns-in-Group : goal.returns-in-Group
returns-in-Group c = rw c.in-Group.is (line c.start_name-in-Group.ensures)

pub returns-in_ok-start_name-in-Pool : goal.returns-in_ok-start_name-in-Pool
returns-in_ok-start_name-in-Pool c = rw c.in-Pool.is (line (further c.in_ok-start_name-in-Pool.ensures (in_range 1 MOST_POOL_PLACES c.push_number-in-Pool.ensures)))

pub returns-in_ok-start_name-in-Native : goal.returns-in_ok-start_name-in-Native
returns-in_ok-start_name-in-Native c = rw c.in-Native.is (line (further c.in_ok-start_name-in-Native.ensures (in_range 1 MOST_SLOTS c.push_number-in-Native.ensures)))

pub returns-in-Channel : goal.returns-in-Channel
returns-in-Channel c = rw c.in-Channel.is (line c.start_name-in-Channel.ensures)

pub returns-in_err-start_name-in-Semaphore : goal.returns-in_err-start_name-in-Semaphore
returns-in_err-start_name-in-Semaphore c = broken_line c.from_residual.ensures.0 c.in_err-start_name-in-Semaphore.ensures.front

pub returns-in_err-start_name-in-BoundedSemaphore : goal.returns-in_err-start_name-in-BoundedSemaphore
returns-in_err-start_name-in-BoundedSemaphore c = broken_line c.from_residual-in_err-start_name-in-BoundedSemaphore.ensures.0 c.in_err-start_name-in-BoundedSemaphore.ensures.front

pub returns-in_err-start_name-in-Queue : goal.returns-in_err-start_name-in-Queue
returns-in_err-start_name-in-Queue c = broken_line c.from_residual-in_err-start_name-in-Queue.ensures.0 c.in_err-start_name-in-Queue.ensures.front

pub returns-in_err-push_fixed-in-Queue : goal.returns-in_err-push_fixed-in-Queue
returns-in_err-push_fixed-in-Queue c =
    broken_line c.from_residual-in_err-push_fixed-in-Queue.ensures.0 (through _ _ _ c.in_err-push_fixed-in-Queue.ensures.front c.in_ok-start_name-in-Queue.ensures.front)

pub returns-in_err-start_name-in-Pool : goal.returns-in_err-start_name-in-Pool
returns-in_err-start_name-in-Pool c = broken_line c.from_residual-in_err-start_name-in-Pool.ensures.0 c.in_err-start_name-in-Pool.ensures.front

pub returns-in_err-start_name-in-Native : goal.returns-in_err-start_name-in-Native
returns-in_err-start_name-in-Native c = broken_line c.from_residual-in_err-start_name-in-Native.ensures.0 c.in_err-start_name-in-Native.ensures.front
