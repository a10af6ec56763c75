use Rattle.hub_items.specs.declared.waits.WaitKind.{WaitKind}
use Rattle.hub_state.specs.Over.{whole}
use Rattle.hub_state.proofs.Columns.{along_none, by_line, line_more}
use Rattle.hub_state.proofs.Rooms.{may_line, may_others}
use Rattle.hub_state.proofs.looks.look_at_object.Goals as goal

pub look_at_line-requires-clause-may : goal.look_at_line-requires-clause-may
look_at_line-requires-clause-may c = may_line WaitKind.Acquire _ _ _ _ _ c.requires.may (along_none _ _ _ _)

pub look_at_line-requires-2-clause-may : goal.look_at_line-requires-2-clause-may
look_at_line-requires-2-clause-may c =
    let l1 = line_more WaitKind.Acquire _ _ _ _ _ _ (along_none _ _ _ _) c.look_at_line.ensures in
    may_line WaitKind.Lock _ _ _ _ _ c.requires.may l1

pub look_at_line-requires-3-clause-may : goal.look_at_line-requires-3-clause-may
look_at_line-requires-3-clause-may c =
    let l1 = line_more WaitKind.Acquire _ _ _ _ _ _ (along_none _ _ _ _) c.look_at_line.ensures in
    let l2 = line_more WaitKind.Lock _ _ _ _ _ _ l1 c.look_at_line-2.ensures in
    may_line WaitKind.Put _ _ _ _ _ c.requires.may l2

pub look_at_line-requires-4-clause-may : goal.look_at_line-requires-4-clause-may
look_at_line-requires-4-clause-may c =
    let l1 = line_more WaitKind.Acquire _ _ _ _ _ _ (along_none _ _ _ _) c.look_at_line.ensures in
    let l2 = line_more WaitKind.Lock _ _ _ _ _ _ l1 c.look_at_line-2.ensures in
    let l3 = line_more WaitKind.Put _ _ _ _ _ _ l2 c.look_at_line-3.ensures in
    may_line WaitKind.Take _ _ _ _ _ c.requires.may l3

pub look_at_line-requires-5-clause-may : goal.look_at_line-requires-5-clause-may
look_at_line-requires-5-clause-may c =
    let l1 = line_more WaitKind.Acquire _ _ _ _ _ _ (along_none _ _ _ _) c.look_at_line.ensures in
    let l2 = line_more WaitKind.Lock _ _ _ _ _ _ l1 c.look_at_line-2.ensures in
    let l3 = line_more WaitKind.Put _ _ _ _ _ _ l2 c.look_at_line-3.ensures in
    let l4 = line_more WaitKind.Take _ _ _ _ _ _ l3 c.look_at_line-4.ensures in
    may_line WaitKind.Place _ _ _ _ _ c.requires.may l4

pub look_at_line-requires-6-clause-may : goal.look_at_line-requires-6-clause-may
look_at_line-requires-6-clause-may c =
    let l1 = line_more WaitKind.Acquire _ _ _ _ _ _ (along_none _ _ _ _) c.look_at_line.ensures in
    let l2 = line_more WaitKind.Lock _ _ _ _ _ _ l1 c.look_at_line-2.ensures in
    let l3 = line_more WaitKind.Put _ _ _ _ _ _ l2 c.look_at_line-3.ensures in
    let l4 = line_more WaitKind.Take _ _ _ _ _ _ l3 c.look_at_line-4.ensures in
    let l5 = line_more WaitKind.Place _ _ _ _ _ _ l4 c.look_at_line-5.ensures in
    may_line WaitKind.Slot _ _ _ _ _ c.requires.may l5

pub look_at_line-requires-7-clause-may : goal.look_at_line-requires-7-clause-may
look_at_line-requires-7-clause-may c =
    let l1 = line_more WaitKind.Acquire _ _ _ _ _ _ (along_none _ _ _ _) c.look_at_line.ensures in
    let l2 = line_more WaitKind.Lock _ _ _ _ _ _ l1 c.look_at_line-2.ensures in
    let l3 = line_more WaitKind.Put _ _ _ _ _ _ l2 c.look_at_line-3.ensures in
    let l4 = line_more WaitKind.Take _ _ _ _ _ _ l3 c.look_at_line-4.ensures in
    let l5 = line_more WaitKind.Place _ _ _ _ _ _ l4 c.look_at_line-5.ensures in
    let l6 = line_more WaitKind.Slot _ _ _ _ _ _ l5 c.look_at_line-6.ensures in
    may_line WaitKind.TakeOffer _ _ _ _ _ c.requires.may l6

pub look_at_others-requires : goal.look_at_others-requires
look_at_others-requires c =
    let l1 = line_more WaitKind.Acquire _ _ _ _ _ _ (along_none _ _ _ _) c.look_at_line.ensures in
    let l2 = line_more WaitKind.Lock _ _ _ _ _ _ l1 c.look_at_line-2.ensures in
    let l3 = line_more WaitKind.Put _ _ _ _ _ _ l2 c.look_at_line-3.ensures in
    let l4 = line_more WaitKind.Take _ _ _ _ _ _ l3 c.look_at_line-4.ensures in
    let l5 = line_more WaitKind.Place _ _ _ _ _ _ l4 c.look_at_line-5.ensures in
    let l6 = line_more WaitKind.Slot _ _ _ _ _ _ l5 c.look_at_line-6.ensures in
    let l7 = line_more WaitKind.TakeOffer _ _ _ _ _ _ l6 c.look_at_line-7.ensures in
    may_others _ _ _ _ _ c.requires.may l7

pub returns : goal.returns
returns c =
    by_line c.args.o (whole c.args.base.now c.args.held.now) c.args.held.now.entries c.args.found.now c.look_at_line.new.found c.look_at_line-2.new.found c.look_at_line-3.new.found c.look_at_line-4.new.found c.look_at_line-5.new.found
    c.look_at_line-6.new.found c.look_at_line-7.new.found c.look_at_others.new.found
    (record {
      acquire = c.look_at_line.ensures;
      lock = c.look_at_line-2.ensures;
      put = c.look_at_line-3.ensures;
      take = c.look_at_line-4.ensures;
      place = c.look_at_line-5.ensures;
      slot = c.look_at_line-6.ensures;
      take_offer = c.look_at_line-7.ensures;
      others = c.look_at_others.ensures;
    })
