use Rattle.trace_reader.proofs.Faults.{timeout_next, loop_exit_next, call_fault_next}
use Rattle.trace_reader.proofs.values.read_fault.Goals as goal

pub returns-then-takes-2-clause-reads : goal.returns-then-takes-2-clause-reads
returns-then-takes-2-clause-reads c =
    rw (timeout_next c.args.cursor.now c.takes.new.self c.takes-else-takes.new.self c.if-takes.ensures.0 c.if-takes.ensures.1 c.if-takes-2.ensures)
    c.read_timeout.ensures.reads

pub returns-then-takes-3-clause-reads : goal.returns-then-takes-3-clause-reads
returns-then-takes-3-clause-reads c =
    loop_exit_next c.args.cursor.now c.takes.new.self c.takes-else-takes.new.self c.takes-else-takes-2.new.self c.if-takes.ensures.0 c.if-takes.ensures.1
    c.if-takes-2.ensures.0 c.if-takes-2.ensures.1 c.if-takes-3.ensures

pub returns-else-takes-3-clause-reads : goal.returns-else-takes-3-clause-reads
returns-else-takes-3-clause-reads c =
    rw (call_fault_next c.args.cursor.now c.takes.new.self c.takes-else-takes.new.self c.takes-else-takes-2.new.self c.if-takes.ensures.0 c.if-takes.ensures.1
    c.if-takes-2.ensures.0 c.if-takes-2.ensures.1 c.if-takes-3.ensures.0 c.if-takes-3.ensures.1)
    c.read_call_fault.ensures.reads
