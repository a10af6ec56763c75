use Rattle.std.proofs.Common.{sym, ◌∙◌}
use Rattle.stream_net.proofs.MemoryLemmas.{counted_write, failed_write}
use Rattle.stream_net.proofs.memory_endpoint.write_endpoint.Goals as goal

pub returns-then-fails_now-clause-after : goal.returns-then-fails_now-clause-after
returns-then-fails_now-clause-after c =
    failed_write c.args.endpoint.now c.fails_now.new.endpoint c.note_write.new.self _ c.args.moment c.args.bytes.now c.fails_now.ensures.same c.note_write.ensures.after

pub returns-clause-ends : goal.returns-clause-ends
returns-clause-ends c =
    counted_write c.put-end.result c.args.endpoint.now c.fails_now.new.endpoint _ _ c.fails_now.ensures.same (sym c.fails_now.ensures.fails ∙ c.if-fails_now.false) c.put-end.ensures.ends
