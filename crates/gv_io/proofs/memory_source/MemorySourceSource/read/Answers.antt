use Rattle.std.proofs.Common.{arith, sym, ap, ◌≡◌, ◌≤◌, take, drop, length}
use Rattle.std.proofs.lemmas.Grind.{common_steps}
use Rattle.gv_io.proofs.StreamLaws.{prepended-copied}
use Rattle.gv_io.proofs.memory_source.MemorySourceSource.read.Goals as goal

pub returns-clause-next : goal.returns-clause-next
returns-clause-next c =
    let at : c.args.self.now.left ≡ drop c.self.inside.place c.self.inside.bytes.items = ap (λ s. s.left) (sym c.self.view_is) in
    let copied : c.copy_from_slice.new.self ≡ take c.min-count.result c.args.self.now.left =
    grind (arith, common_steps, at, c.copy_from_slice.ensures.after, c.deref-2.ensures.value) in
    let fits : c.min-count.result ≤ length c.args.self.now.left =
    grind (arith, common_steps, at, c.min-count.ensures, c.deref-2.ensures.value) in
    prepended-copied c.args.self.now.left c.copy_from_slice.new.self _ c.self.inside.bytes.items c.self.inside.place c.min-count.result at copied fits
