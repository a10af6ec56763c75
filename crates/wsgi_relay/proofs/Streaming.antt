-- What a call on one dialled stream changes, and what passes through it.
use Rattle.std.proofs.Common.{◌≡◌, ◌≢◌, ℕ, ◌<◌, List, length, Option, Some, refl, sym, ap, ◌∙◌, subst, slice_set}
use Rattle.std.proofs.Math.Nat.{le_refl, le_trans}
use Rattle.std.proofs.lemmas.List.{get_or-set_same, get_or-set_other, length-set, set-get_or, set-set}
use Rattle.gv_values.specs.Counts.{HasRisen}
use Rattle.stream_net.specs.declared.net.ReadEnd.{ReadEnd}
use Rattle.stream_net.specs.declared.net.ReadEnd.TheVariants as R
use Rattle.stream_net.specs.declared.net.WriteEnd.{WriteEnd}
use Rattle.stream_net.specs.declared.net.WriteEnd.TheVariants as W
use Rattle.stream_net.specs.Net.{Changes, Connection, IsLive, connection_at, absent_connection}
use Rattle.stream_net.specs.Reads.{after_read}
use Rattle.stream_net.specs.Writes.{after_write}
use Rattle.stream_dial.specs.Dials.{DialMeaning, IsOpen, OpensNone, ReadsIn, WritesIn, net_of}
use Rattle.wsgi_relay.specs.Exchanging.{GoesOnIn, OfSlot}

-- ---- one number

-- an open slot has one stream
pub one_number : (v : DialMeaning) (slot : ℕ) (o : IsOpen v slot) (number : ℕ) → v.slots slot ≡ Some number → o.number ≡ number
one_number v slot o number at = let same : Some o.number ≡ Some number = sym o.is ∙ at in cc

pub live_at : (v : DialMeaning) (slot : ℕ) → IsOpen v slot → (number : ℕ) → v.slots slot ≡ Some number → IsLive (net_of v.streams v.moment) number
live_at v slot o number at = subst (λ (k : ℕ). IsLive (net_of v.streams v.moment) k) (one_number v slot o number at) o.live

-- the slots are the same before
pub slot_before : (v w : DialMeaning) (slot number : ℕ) → OpensNone v w → w.slots slot ≡ Some number → v.slots slot ≡ Some number
slot_before v w slot number none at = ap (λ (slots : ℕ → Option ℕ). slots slot) (sym none.slots) ∙ at

-- ---- what goes on

pub goes_on_none : (v : DialMeaning) (slot : ℕ) → GoesOnIn v v slot
goes_on_none v slot = record {
  streams = λ number at. sym (set-get_or v.streams number absent_connection);
  same_closed = λ number at. refl;
  none = record { opened = refl; slots = refl; towards = refl };
  moment = le_refl v.moment;
}

pub goes_on_twice : (u v w : DialMeaning) (slot : ℕ) → GoesOnIn u v slot → GoesOnIn v w slot → GoesOnIn u w slot
goes_on_twice u v w slot h g = record {
  streams = λ number at.
      let d = connection_at w.streams number in
      g.streams number (later number at) ∙ ap (λ (cs : List Connection). slice_set cs number d) (h.streams number at) ∙ set-set u.streams number (connection_at v.streams number) d;
  same_closed = λ number at. g.same_closed number (later number at) ∙ h.same_closed number at;
  none = record { opened = g.none.opened ∙ h.none.opened; slots = g.none.slots ∙ h.none.slots; towards = g.none.towards ∙ h.none.towards };
  moment = le_trans h.moment g.moment;
}
  where
    later : (number : ℕ) → u.slots slot ≡ Some number → v.slots slot ≡ Some number
    later number at = ap (λ (slots : ℕ → Option ℕ). slots slot) h.none.slots ∙ at

module _ (v w : DialMeaning) (slot : ℕ) (h : GoesOnIn v w slot) (number : ℕ) (at : v.slots slot ≡ Some number) where
  pub streams_as_many : length w.streams ≡ length v.streams
  streams_as_many = ap (λ (cs : List Connection). length cs) (h.streams number at) ∙ length-set v.streams number (connection_at w.streams number)

  -- the others are as they were
  pub others_same : (other : ℕ) → other ≢ number → connection_at w.streams other ≡ connection_at v.streams other
  others_same other apart =
      ap (λ (cs : List Connection). connection_at cs other) (h.streams number at) ∙ get_or-set_other v.streams number other (connection_at w.streams number) absent_connection apart

  pub others_keep : (P : Connection → Type 0) (other : ℕ) → other ≢ number → P (connection_at v.streams other) → P (connection_at w.streams other)
  others_keep P other apart p = subst P (sym (others_same other apart)) p

  -- and it is open
  pub live_still : IsLive (net_of v.streams v.moment) number → IsLive (net_of w.streams w.moment) number
  live_still live = record {
    accepted = subst (λ (n : ℕ). number < n) (sym streams_as_many) live.accepted;
    still_open = h.same_closed number at ∙ live.still_open;
  }

pub open_still : (v w : DialMeaning) (slot : ℕ) → GoesOnIn v w slot → IsOpen v slot → IsOpen w slot
open_still v w slot h o = record {
  number = o.number;
  is = ap (λ (slots : ℕ → Option ℕ). slots slot) h.none.slots ∙ o.is;
  live = live_still v w slot h o.number o.is o.live;
}

-- ---- reads and writes

read_closed : (end : ReadEnd) (bytes : List ℕ) (moment faults : ℕ) (c : Connection) → (after_read end bytes moment faults c).closed ≡ c.closed
read_closed (R.Got n) bytes moment faults c = refl
read_closed R.End bytes moment faults c = refl
read_closed R.WouldBlock bytes moment faults c = refl
read_closed R.Failed bytes moment faults c = refl

write_closed : (end : WriteEnd) (bytes : List ℕ) (moment faults : ℕ) (c : Connection) → (after_write end bytes moment faults c).closed ≡ c.closed
write_closed (W.Took n) bytes moment faults c = refl
write_closed W.WouldBlock bytes moment faults c = refl
write_closed W.Failed bytes moment faults c = refl
write_closed W.Memory bytes moment faults c = refl

module _ (v w : DialMeaning) (slot : ℕ) (o : IsOpen v slot) where
  changed_at : (number : ℕ) (change : Connection → Connection) → v.slots slot ≡ Some number → Changes (net_of v.streams v.moment) (net_of w.streams w.moment) number change
      → connection_at w.streams number ≡ change (connection_at v.streams number)
  changed_at number change at h =
      ap (λ (cs : List Connection). connection_at cs number) h.connections
      ∙ get_or-set_same v.streams number (change (connection_at v.streams number)) absent_connection (live_at v slot o number at).accepted

  changed_streams : (number : ℕ) (change : Connection → Connection) → v.slots slot ≡ Some number → Changes (net_of v.streams v.moment) (net_of w.streams w.moment) number change
      → w.streams ≡ slice_set v.streams number (connection_at w.streams number)
  changed_streams number change at h = h.connections ∙ ap (λ (c : Connection). slice_set v.streams number c) (sym (changed_at number change at h))

  module _ (end : WriteEnd) (bytes : List ℕ) (h : WritesIn v w slot end bytes) where
    wrote : (number : ℕ) (at : v.slots slot ≡ Some number) → connection_at w.streams number ≡ after_write end bytes w.moment (h.writes number at).faults (connection_at v.streams number)
    wrote number at = let r = h.writes number at in changed_at number (after_write end bytes w.moment r.faults) at r.changes

    pub write_goes_on : GoesOnIn v w slot
    write_goes_on = record {
      streams = λ number at. let r = h.writes number at in changed_streams number (after_write end bytes w.moment r.faults) at r.changes;
      same_closed = λ number at.
          ap (λ (c : Connection). c.closed) (wrote number at) ∙ write_closed end bytes w.moment (h.writes number at).faults (connection_at v.streams number);
      none = h.none;
      moment = (h.writes o.number o.is).changes.rest.moment;
    }

    pub of_written : (P Q : Connection → Type 0)
        → ((s : Connection) (faults : ℕ) → (end ≡ WriteEnd.Failed → HasRisen s.faults faults) → (end ≢ WriteEnd.Failed → faults ≡ s.faults) → P s → Q (after_write end bytes w.moment faults s))
        → OfSlot v slot P → OfSlot w slot Q
    of_written P Q step p number at =
        let before = slot_before v w slot number h.none at in
        let r = h.writes number before in
        subst Q (sym (wrote number before)) (step (connection_at v.streams number) r.faults r.failed r.unfailed (p number before))

  module _ (end : ReadEnd) (bytes : List ℕ) (h : ReadsIn v w slot end bytes) where
    was_read : (number : ℕ) (at : v.slots slot ≡ Some number) → connection_at w.streams number ≡ after_read end bytes w.moment (h.reads number at).faults (connection_at v.streams number)
    was_read number at = let r = h.reads number at in changed_at number (after_read end bytes w.moment r.faults) at r.changes

    pub read_goes_on : GoesOnIn v w slot
    read_goes_on = record {
      streams = λ number at. let r = h.reads number at in changed_streams number (after_read end bytes w.moment r.faults) at r.changes;
      same_closed = λ number at.
          ap (λ (c : Connection). c.closed) (was_read number at) ∙ read_closed end bytes w.moment (h.reads number at).faults (connection_at v.streams number);
      none = h.none;
      moment = (h.reads o.number o.is).changes.rest.moment;
    }

    pub of_read : (P Q : Connection → Type 0)
        → ((s : Connection) (faults : ℕ) → (end ≡ ReadEnd.Failed → HasRisen s.faults faults) → (end ≢ ReadEnd.Failed → faults ≡ s.faults) → P s → Q (after_read end bytes w.moment faults s))
        → OfSlot v slot P → OfSlot w slot Q
    of_read P Q step p number at =
        let before = slot_before v w slot number h.none at in
        let r = h.reads number before in
        subst Q (sym (was_read number before)) (step (connection_at v.streams number) r.faults r.failed r.unfailed (p number before))
