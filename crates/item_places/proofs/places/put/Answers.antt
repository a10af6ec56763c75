use Rattle.std.proofs.Common.{ℕ, ◌≤◌, ◌<◌, ◌≡◌, true, subst, arith}
use Rattle.item_places.specs.Table.{home, is_held, slot_at}
use Rattle.item_places.proofs.TableLemmas.{empty_after, table_put, not_empty, empty_counts}
use Rattle.item_places.proofs.places.put.Goals as goal
use Rattle.item_places.proofs.places.put.Goals.{in-Empty, in_default}

pub free_slot-at-requires : goal.free_slot-at-requires
free_slot-at-requires c = empty_after c.args.slots.now c.home.result (let n = c.requires.table.free_is in let h = c.home.ensures in let some = c.requires.some_home in omega arith)

pub returns-clause-table : goal.returns-clause-table
returns-clause-table c =
    let at = c.free_slot-at.result in
    let past : home c.args.item c.args.homes ≤ at = subst (λ x. x ≤ at) c.home.ensures c.free_slot-at.ensures.past in
    let before = subst (λ (x : ℕ). (j : ℕ) → x ≤ j → j < at → is_held (slot_at c.args.slots.now j) ≡ true) c.home.ensures c.free_slot-at.ensures.before in
    elim c.match-slots-at.branch [
      | in-Empty w ↦
          let n = empty_counts (slot_at c.args.slots.now c.free_slot-at.result) w.in-Empty.is in
          table_put c.args.slots.now c.args.homes c.args.free c.free_slot-at.result c.args.item c.args.place c.match-slots-at.left c.requires.table c.free_slot-at.ensures.within past (omega arith) (omega arith) before c.requires.absent
      | in_default w ↦
          let n = not_empty (slot_at c.args.slots.now c.free_slot-at.result) w.in_default.not-Empty in
          table_put c.args.slots.now c.args.homes c.args.free c.free_slot-at.result c.args.item c.args.place c.match-slots-at.left c.requires.table c.free_slot-at.ensures.within past (omega arith) (omega arith) before c.requires.absent
    ]
