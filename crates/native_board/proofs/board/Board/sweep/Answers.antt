use Rattle.std.proofs.Common.{arith, refl, sym, ap, ◌≡◌, ◌+◌, ◌-◌, ◌≤◌, ◌∙◌, ◌++◌, option_to_list, append_assoc, append-nil}
use Rattle.std.specs.Prelude.{vec_len, vec_capacity}
use Rattle.native_board.proofs.Sweeping.{sweeps_next}
use Rattle.native_board.proofs.board.Board.sweep.Goals.{in-Some, in_default}
use Rattle.native_board.proofs.board.Board.sweep.Goals as goal

pub loop-at-preserved : goal.loop-at-preserved
loop-at-preserved c = let i = c.loop-at.invariant in
    let n = sweeps_next _ _ _ _ _ i.1 c.sweep_next.ensures.swept in
    let added : c.match-sweep_next.out.items ≡ c.loop-at.out.items ++ option_to_list c.sweep_next.result = elim c.match-sweep_next.branch [
      | in-Some w ↦ rw w.in-Some.is (ap (λ v. v.items) w.out-is ∙ w.push_reserved.ensures.items)
      | in_default w ↦ rw w.in_default.is (ap (λ v. v.items) w.out-is ∙ sym (append-nil _))
    ] in
    let room : vec_len c.match-sweep_next.out + (c.len-at-end.result - (c.loop-at.at + 1)) ≤ vec_capacity c.match-sweep_next.out = elim c.match-sweep_next.branch [
      | in-Some w ↦ rw w.out-is (let before = i.4 in let len = w.push_reserved.ensures.len in let kept = w.push_reserved.ensures.capacity in let more = c.loop-at-test.true in omega arith)
      | in_default w ↦ rw w.out-is (let before = i.4 in omega arith)
    ] in
    let kept : vec_capacity c.match-sweep_next.out ≡ vec_capacity c.loop-at.out = elim c.match-sweep_next.branch [
      | in-Some w ↦ rw w.out-is w.push_reserved.ensures.capacity
      | in_default w ↦ rw w.out-is refl
    ] in
    (c.sweep_next.ensures.board ∙ i.0, n.0, added ∙ (ap (λ l. l ++ option_to_list c.sweep_next.result) i.2 ∙ (append_assoc c.args.out.now.items _ _ ∙ ap (λ l. c.args.out.now.items ++ l) (sym n.1))), i.3, room, kept ∙ i.5)
