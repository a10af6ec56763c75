-- Which streams are open after a call.
use Rattle.std.proofs.Common.{◌≡◌, ℕ, ◌+◌, ◌<◌, false, List, [], ◌∷◌, ◌++◌, length, Option, sym, ap, ◌∙◌, subst, arith}
use Rattle.std.proofs.lemmas.List.{length-append, length-set, get_or-append-add, get_or-set_same}
use Rattle.stream_net.specs.declared.net.ReadEnd.{ReadEnd}
use Rattle.stream_net.specs.declared.net.ReadEnd.TheVariants as R
use Rattle.stream_net.specs.declared.net.WriteEnd.{WriteEnd}
use Rattle.stream_net.specs.declared.net.WriteEnd.TheVariants as W
use Rattle.stream_net.specs.Net.{Changes, Connection, connection_at, absent_connection}
use Rattle.stream_net.specs.Reads.{after_read}
use Rattle.stream_net.specs.Writes.{after_write}
use Rattle.stream_dial.specs.Dials.{DialMeaning, IsOpen, Opens, OpensNone, ReadsIn, StaysDialled, WritesIn, net_of}

-- the last of one more
last_at : (cs : List Connection) (c : Connection) → connection_at (cs ++ c ∷ []) (length cs) ≡ c
last_at cs c = ap (λ (n : ℕ). connection_at (cs ++ c ∷ []) n) (omega arith) ∙ get_or-append-add cs (c ∷ []) 0 absent_connection

pub open_new : (v w : DialMeaning) (slot : ℕ) → Opens v w slot → IsOpen w slot
open_new v w slot opens =
    let more : length (v.streams ++ opens.stream ∷ []) ≡ length v.streams + 1 = length-append v.streams (opens.stream ∷ []) in
    record {
      number = length v.streams;
      is = opens.number;
      live = record {
        accepted = subst (λ (cs : List Connection). length v.streams < length cs) (sym opens.streams) (omega (arith, more));
        still_open = ap (λ (cs : List Connection). (connection_at cs (length v.streams)).closed) opens.streams ∙ ap (λ (c : Connection). c.closed) (last_at v.streams opens.stream) ∙ opens.is_new.still_open;
      };
    }

-- the stream was changed, and is as open as before
open_changed : (v w : DialMeaning) (slot : ℕ) (change : Connection → Connection) (o : IsOpen v slot) → OpensNone v w → Changes (net_of v.streams v.moment) (net_of w.streams w.moment) o.number change
    → (change (connection_at v.streams o.number)).closed ≡ false → IsOpen w slot
open_changed v w slot change o none changes still =
    let set_at : connection_at w.streams o.number ≡ change (connection_at v.streams o.number) =
    ap (λ (cs : List Connection). connection_at cs o.number) changes.connections ∙ get_or-set_same v.streams o.number (change (connection_at v.streams o.number)) absent_connection o.live.accepted in
    record {
      number = o.number;
      is = ap (λ (slots : ℕ → Option ℕ). slots slot) none.slots ∙ o.is;
      live = record {
        accepted = subst (λ (cs : List Connection). o.number < length cs) (sym changes.connections) (subst (λ (n : ℕ). o.number < n) (sym (length-set v.streams o.number (change (connection_at v.streams o.number)))) o.live.accepted);
        still_open = ap (λ (c : Connection). c.closed) set_at ∙ still;
      };
    }

read_open : (end : ReadEnd) (bytes : List ℕ) (moment faults : ℕ) (c : Connection) → c.closed ≡ false → (after_read end bytes moment faults c).closed ≡ false
read_open (R.Got n) bytes moment faults c e = e
read_open R.End bytes moment faults c e = e
read_open R.WouldBlock bytes moment faults c e = e
read_open R.Failed bytes moment faults c e = e

written_open : (end : WriteEnd) (bytes : List ℕ) (moment faults : ℕ) (c : Connection) → c.closed ≡ false → (after_write end bytes moment faults c).closed ≡ false
written_open (W.Took n) bytes moment faults c e = e
written_open W.WouldBlock bytes moment faults c e = e
written_open W.Failed bytes moment faults c e = e
written_open W.Memory bytes moment faults c e = e

pub open_read : (v w : DialMeaning) (slot : ℕ) (end : ReadEnd) (bytes : List ℕ) → IsOpen v slot → ReadsIn v w slot end bytes → IsOpen w slot
open_read v w slot end bytes o reads =
    let r = reads.reads o.number o.is in
    open_changed v w slot (after_read end bytes w.moment r.faults) o reads.none r.changes (read_open end bytes w.moment r.faults (connection_at v.streams o.number) o.live.still_open)

pub open_written : (v w : DialMeaning) (slot : ℕ) (end : WriteEnd) (bytes : List ℕ) → IsOpen v slot → WritesIn v w slot end bytes → IsOpen w slot
open_written v w slot end bytes o writes =
    let r = writes.writes o.number o.is in
    open_changed v w slot (after_write end bytes w.moment r.faults) o writes.none r.changes (written_open end bytes w.moment r.faults (connection_at v.streams o.number) o.live.still_open)

pub open_kept : (v w : DialMeaning) (slot : ℕ) → IsOpen v slot → StaysDialled v w → IsOpen w slot
open_kept v w slot o stays = record {
  number = o.number;
  is = ap (λ (slots : ℕ → Option ℕ). slots slot) stays.none.slots ∙ o.is;
  live = record {
    accepted = subst (λ (cs : List Connection). o.number < length cs) (sym stays.streams) o.live.accepted;
    still_open = ap (λ (cs : List Connection). (connection_at cs o.number).closed) stays.streams ∙ o.live.still_open;
  };
}
