use Rattle.std.proofs.Common.{arith}
use Rattle.number_set.proofs.Marking.{few}
use Rattle.number_set.proofs.set.NumberSet.reserve.Goals as goal

pub overflow_sub-n : goal.overflow_sub-n
overflow_sub-n c =
    let f = few c.self.inside.is_in.items c.self.inside.list.items c.self.invariant.marked in
    let l = c.len.ensures in
    let m = c.len-then-len-n.ensures in
    let t = c.if-len-n.true in
    omega (arith, f, l, m, t)
