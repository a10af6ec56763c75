use Rattle.std.proofs.Common.{◌≡◌, length, vec_capacity}
use Rattle.number_set.specs.SetParts.{AreMarked}
use Rattle.number_set.proofs.set.unmark.Given as goal

abbrev pub invariant-loop-number : goal.invariant-loop-number
invariant-loop-number l =
    record {
      marked : AreMarked l.is_in.items l.list.items;
      room : length l.is_in.items ≡ length l.fn.is_in.items;
      capacity : vec_capacity l.list ≡ vec_capacity l.fn.list;
    }

abbrev pub decreases-loop-number : goal.decreases-loop-number
decreases-loop-number l = length l.list.items
