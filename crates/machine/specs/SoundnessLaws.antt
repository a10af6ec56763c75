-- Steps that keep a state sound. This project's own.
use Rattle.std.specs.Prelude.{◌≡◌, Bool, true}
use Rattle.machine.specs.declared.items.Delivery.{Delivery}
use Rattle.machine.specs.State.{State}
use Rattle.machine.specs.Items.{add_item, drop_items}
use Rattle.machine.specs.Settle.{settle}
use Rattle.machine.specs.Soundness.{claim_of, is_meant, is_sound, is_unclaimed}

-- a settling changes nothing of it
abbrev pub SettlesSoundly : Type 0
SettlesSoundly = (s : State) → is_sound (settle s) ≡ is_sound s

-- items may go
abbrev pub DropsSoundly : Type 0
DropsSoundly = (test : Delivery → Bool) (s : State) → is_sound s ≡ true → is_sound (drop_items test s) ≡ true

-- an item may come that says what no other says, and that there is
abbrev pub AddsSoundly : Type 0
AddsSoundly = (d : Delivery) (s : State) → is_unclaimed (claim_of d) s.items ≡ true → is_meant s d ≡ true → is_sound s ≡ true → is_sound (add_item d s) ≡ true
