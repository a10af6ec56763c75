use Rattle.std.proofs.Common.{sym, ◌∙◌}
use Rattle.stream_net.proofs.MemoryLemmas.{counted_read, failed_read}
use Rattle.stream_net.proofs.memory_endpoint.read_endpoint.Goals as goal

pub returns-then-fails_now-clause-after : goal.returns-then-fails_now-clause-after
returns-then-fails_now-clause-after c =
    failed_read c.args.endpoint.now c.fails_now.new.endpoint c.note_read.new.self _ c.args.moment c.args.buf.now c.fails_now.ensures.same c.note_read.ensures.after

pub returns-clause-ends : goal.returns-clause-ends
returns-clause-ends c =
    counted_read c.find-end.result c.args.endpoint.now c.fails_now.new.endpoint _ c.args.moment c.fails_now.ensures.same (sym c.fails_now.ensures.fails ∙ c.if-fails_now.false) c.find-end.ensures.ends
