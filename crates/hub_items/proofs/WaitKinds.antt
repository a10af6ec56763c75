-- A wait stands in a line where it is of its kind at its object.
use Rattle.std.proofs.Common.{◌≡◌, refl, ℕ}
use Rattle.machine.specs.declared.items.Delivery.{Delivery}
use Rattle.machine.specs.declared.items.Waiting.{Waiting}
use Rattle.machine.specs.Holds.{wakes}
use Rattle.hub_items.specs.declared.waits.WaitKind.{WaitKind}
use Rattle.hub_items.specs.Lines.{is_line, waiting_line, line_of_delivery}
use Rattle.hub_items.specs.WaitKinds.{test_of}

stands : (kind : WaitKind) (o : ℕ) (w : Waiting) → test_of kind o w ≡ is_line kind o (waiting_line w)
stands WaitKind.Acquire o (Waiting.Acquire p) = refl
stands WaitKind.Lock o (Waiting.Lock p) = refl
stands WaitKind.Put o (Waiting.Put p v) = refl
stands WaitKind.Take o (Waiting.Take p) = refl
stands WaitKind.Place o (Waiting.Place p f vs) = refl
stands WaitKind.Place o (Waiting.MapPlace p f xs made) = refl
stands WaitKind.Slot o (Waiting.Slot p job takes) = refl
stands WaitKind.TakeOffer o (Waiting.TakeOffer p) = refl
stands kind o w = refl

pub wakes_line : (kind : WaitKind) (o : ℕ) (d : Delivery) → wakes (test_of kind o) d ≡ is_line kind o (line_of_delivery d)
wakes_line kind o (Delivery.Wake g w) = stands kind o w
wakes_line kind o d = refl
