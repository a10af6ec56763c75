-- The lines of waits. Each wait that is served in order of parking stands in the line of its kind at its object.
use Rattle.std.specs.Prelude.{◌≡◌, ◌==◌, ◌&&◌, ℕ, ◌<◌, Bool, false, Option, Some, None}
use Rattle.machine.specs.declared.items.Delivery.{Delivery}
use Rattle.machine.specs.declared.items.Waiting.{Waiting}
use Rattle.hub_items.specs.declared.waits.WaitKind.{WaitKind}
use Rattle.hub_items.specs.WaitKinds.{test_of, same_kind}

-- the line that the wait stands in: its kind and the number of its object
abbrev pub waiting_line : Waiting → Option (WaitKind × ℕ)
waiting_line (Waiting.Acquire o) = Some (WaitKind.Acquire, o)
waiting_line (Waiting.Lock o) = Some (WaitKind.Lock, o)
waiting_line (Waiting.Put o v) = Some (WaitKind.Put, o)
waiting_line (Waiting.Take o) = Some (WaitKind.Take, o)
waiting_line (Waiting.Place o f vs) = Some (WaitKind.Place, o)
waiting_line (Waiting.MapPlace o f xs made) = Some (WaitKind.Place, o)
waiting_line (Waiting.Slot o job takes) = Some (WaitKind.Slot, o)
waiting_line (Waiting.TakeOffer o) = Some (WaitKind.TakeOffer, o)
waiting_line w = None

-- the line that the waiter of a Wake stands in
abbrev pub line_of_delivery : Delivery → Option (WaitKind × ℕ)
line_of_delivery (Delivery.Wake g w) = waiting_line w
line_of_delivery d = None

-- the line that the wait's condition looks at; who peeks waits behind those who take, and in no line
abbrev pub line_ahead : Waiting → Option (WaitKind × ℕ)
line_ahead (Waiting.Peek o) = Some (WaitKind.Take, o)
line_ahead w = waiting_line w

-- the line is that of this kind at this object
abbrev pub is_line : WaitKind → ℕ → Option (WaitKind × ℕ) → Bool
is_line kind o None = false
is_line kind o (Some line) = same_kind kind line.0 && o == line.1

-- so many stand in the line by this count, where its object is one of so many objects; in no line stands nobody
abbrev pub IsLengthOf : ℕ → ℕ → ((Waiting → Bool) → ℕ) → Option (WaitKind × ℕ) → Type 0
IsLengthOf before objects count None = before ≡ 0
IsLengthOf before objects count (Some line) = line.1 < objects → before ≡ count (test_of line.0 line.1)

-- so many are ahead of the wait, in the line that its condition looks at
abbrev pub IsAhead : ℕ → ℕ → ((Waiting → Bool) → ℕ) → Waiting → Type 0
IsAhead before objects count w = IsLengthOf before objects count (line_ahead w)
