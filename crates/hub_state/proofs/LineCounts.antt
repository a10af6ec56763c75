-- Who waits for no object waits behind nobody.
use Rattle.std.proofs.Common.{◌≡◌, refl, ℕ, Bool, true}
use Rattle.machine.specs.declared.items.Waiting.{Waiting}
use Rattle.machine_settling.specs.Classes.{class_of_wait}
use Rattle.machine_settling.specs.Lasting.{is_off_objects}
use Rattle.hub_items.specs.Lines.{IsAhead}

pub none_ahead : (objects : ℕ) (count : (Waiting → Bool) → ℕ) (w : Waiting) → is_off_objects (class_of_wait w) ≡ true → IsAhead 0 objects count w
none_ahead objects count (Waiting.Acquire p) e = absurd (cc)
none_ahead objects count (Waiting.Lock p) e = absurd (cc)
none_ahead objects count (Waiting.Put p v) e = absurd (cc)
none_ahead objects count (Waiting.Take p) e = absurd (cc)
none_ahead objects count (Waiting.Peek p) e = absurd (cc)
none_ahead objects count (Waiting.Place p f vs) e = absurd (cc)
none_ahead objects count (Waiting.MapPlace p f xs made) e = absurd (cc)
none_ahead objects count (Waiting.Slot p job takes) e = absurd (cc)
none_ahead objects count (Waiting.TakeOffer p) e = absurd (cc)
none_ahead objects count w e = refl
