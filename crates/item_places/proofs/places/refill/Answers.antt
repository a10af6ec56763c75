use Rattle.std.proofs.Common.{◌∙◌, arith}
use Rattle.item_places.specs.Table.{slot_at}
use Rattle.item_places.proofs.TableLemmas.{refill_fresh, refill_held, refill_other, refill_done, not_held}
use Rattle.item_places.proofs.places.refill.Goals as goal
use Rattle.item_places.proofs.places.refill.Goals.{in-Held, in_default}

pub put-free-requires-clause-absent : goal.put-free-requires-clause-absent
put-free-requires-clause-absent c = refill_fresh c.args.from.now c.loop-at.to c.args.homes c.loop-at.at c.loop-at.free c.loop-at.invariant.0 c.in-Held.item c.in-Held.place c.requires.once c.in-Held.is

pub loop-at-preserved : goal.loop-at-preserved
loop-at-preserved c =
    let here = c.loop-at.invariant.0 in
    let lt = c.loop-at-test.true in
    elim c.match-from-at.branch [
      | in-Held w ↦ rw (w.to-is, w.free-is) (refill_held c.args.from.now c.loop-at.to c.args.homes c.loop-at.at c.loop-at.free here w.put-free.new.slots w.put-free.result w.in-Held.item w.in-Held.place lt w.in-Held.is w.put-free.ensures.table w.put-free.ensures.gains w.put-free.ensures.count w.put-free.ensures.left w.put-free.auto.slots, w.put-free.auto.slots ∙ c.loop-at.invariant.1)
      | in_default w ↦ rw (w.to-is, w.free-is) (refill_other c.args.from.now c.loop-at.to c.args.homes c.loop-at.at c.loop-at.free here lt (not_held (slot_at c.args.from.now c.loop-at.at) (λ q k h. w.in_default.not-Held q k h)), c.loop-at.invariant.1)
    ]

pub returns-clause-same : goal.returns-clause-same
returns-clause-same c = refill_done c.args.from.now c.loop-at.to c.args.homes c.loop-at.at c.loop-at.free c.loop-at.invariant.0 (omega arith)
