-- A turn delivers every item that has a number below its mark.
use Rattle.std.proofs.Common.{◌≡◌, refl, sym, subst, ℕ, zero, suc, ◌+◌, ◌-◌, true, length, arith}
use Rattle.std.specs.Prelude.{Option, Some, None}
use Rattle.machine.specs.declared.items.Item.{Item}
use Rattle.machine.specs.State.{State}
use Rattle.machine.specs.Landing.{Next}
use Rattle.machine.specs.Moves.{move}
use Rattle.machine.specs.Deliveries.{deliver, without_item}
use Rattle.machine.specs.Soundness.{ascend}
use Rattle.machine.specs.Run.{Passed, runs, runs_on, silent, least_below, after_delivery, delivers_one, deliveries, turn}
use Rattle.machine_turns.specs.Turns.{LeavesNone}
use Rattle.machine_turns.proofs.Under.{Under, IsLowAt, least-found, low-none, low-length, under-kept, takes-under}
use Rattle.machine_turns.proofs.Steps.{Stands, move-keeps, delivers-keeps}

silent-under : (mark n : ℕ) (s : State) → Under mark n s → Under mark n (silent s)
silent-under mark n s u = record { ascends = u.ascends; few = u.few; ready = u.ready }

runs-under : (mark n m : ℕ) (x : Next) → Stands (Under mark n) x → Stands (Under mark n) (runs m x).next
unfolding Stands
runs-under mark n zero (Next.Going g s) u = silent-under mark n s u
runs-under mark n zero (Next.Resting s) u = silent-under mark n s u
runs-under mark n zero (Next.Over cause s) u = silent-under mark n s u
runs-under mark n (suc m) (Next.Going g s) u = runs-under mark n m (move g (silent s)) (move-keeps (Under mark n) (under-kept mark n) g (silent s) (silent-under mark n s u))
runs-under mark n (suc m) (Next.Resting s) u = silent-under mark n s u
runs-under mark n (suc m) (Next.Over cause s) u = silent-under mark n s u

deliver-under : (mark n : ℕ) (i : Item) (s : State) → Under mark n (without_item i s) → Stands (Under mark n) (deliver i s)
unfolding deliver
deliver-under mark n i s u = delivers-keeps (Under mark n) (under-kept mark n) i.since i.delivery (without_item i s) u

leaves : (n budget mark : ℕ) (s : State) → Under mark n s → LeavesNone mark (deliveries n budget mark s).next
unfolding Stands
leaves zero budget mark s u = low-none mark s.items u.few
leaves (suc n) budget mark s u = by (least_below mark s.items) refl (leaves n budget mark)
  where
    over : (p : Passed) (x : Next) → Stands (Under mark n) x → ((t : State) → Under mark n t → LeavesNone mark (deliveries n budget mark t).next) → p.next ≡ x →
        LeavesNone mark (after_delivery (deliveries n budget mark) p x).next
    over p (Next.Resting t) v go e = go t v
    over p (Next.Going g t) v go e = subst (LeavesNone mark) (sym e) tt
    over p (Next.Over cause t) v go e = subst (LeavesNone mark) (sym e) tt

    one : (i : Item) → (at : ℕ) × IsLowAt mark at s.items i → ((t : State) → Under mark n t → LeavesNone mark (deliveries n budget mark t).next) →
        LeavesNone mark (delivers_one (deliveries n budget mark) budget (Some i) s).next
    one i w go =
        let p = runs_on budget s (deliver i s) in
        over p p.next (runs-under mark n (budget - s.moves) (deliver i s) (deliver-under mark n i s (takes-under mark n w.0 i s w.1 u))) go refl

    by : (o : Option Item) → least_below mark s.items ≡ o → ((t : State) → Under mark n t → LeavesNone mark (deliveries n budget mark t).next) →
        LeavesNone mark (delivers_one (deliveries n budget mark) budget o s).next
    by None e go = e
    by (Some i) e go = one i (least-found mark s.items i e) go

pub turn-leaves : (budget : ℕ) (s : State) → ascend 0 s.next_since s.items ≡ true → LeavesNone s.next_ready (turn budget s).next
turn-leaves budget s a =
    let t = record s { turns = s.turns + 1 } in
    leaves (length s.items) budget s.next_ready t (record { ascends = a; few = low-length s.next_ready s.items; ready = omega arith })
