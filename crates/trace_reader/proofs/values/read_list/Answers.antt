use Rattle.trace_reader.specs.ValueFronts.{list_front}
use Rattle.trace_reader.proofs.Lists.{closed_here}
use Rattle.trace_reader.proofs.values.read_list.Goals as goal

pub returns-then-takes-2-clause-reads : goal.returns-then-takes-2-clause-reads
returns-then-takes-2-clause-reads c =
    rw c.in-Ok.ensures.ok
    (closed_here c.loop.list c.loop.counter c.loop.cursor (list_front c.args.cursor.now) c.in_ok-scalar.scalar c.read_scalar.new.cursor c.takes-in-loop.new.self
    c.loop-test.true c.loop.invariant.0 c.in_ok-scalar.ensures.reads c.if-takes-2.ensures)
