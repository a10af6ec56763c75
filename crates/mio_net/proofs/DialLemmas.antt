-- Dialled streams of the system, one deed at a time.
use Rattle.std.proofs.Common.{◌≡◌, ◌≢◌, ◌⊎◌, inl, inr, ℕ, ◌+◌, ◌<◌, ◌≤◌, ◌==◌, true, false, List, [], ◌∷◌, ◌++◌, length, set, Option, Some, None, refl, sym, ap, ◌∙◌, subst, arith}
use Rattle.std.proofs.lemmas.Bool.{cases_eq}
use Rattle.std.proofs.lemmas.Bool.Decides.{eqb_tells}
use Rattle.std.proofs.lemmas.List.{length-append, length-set, get_or_append_left, get_or-set_same, get_or-set_other}
use Rattle.slab.specs.Slab.{Slab, Updates, get}
use Rattle.stream_net.specs.declared.net.ReadEnd.{ReadEnd}
use Rattle.stream_net.specs.declared.net.ReadEnd.TheVariants as R
use Rattle.stream_net.specs.declared.net.WriteEnd.{WriteEnd}
use Rattle.stream_net.specs.declared.net.WriteEnd.TheVariants as W
use Rattle.gv_values.specs.Counts.{HasRisen}
use Rattle.stream_net.specs.Net.{Changes, Connection, connection_at, absent_connection, closed_at}
use Rattle.stream_net.specs.Reads.{after_read}
use Rattle.stream_net.specs.Writes.{after_write}
use Rattle.stream_dial.specs.Dials.{ClosesIn, Opens, ReadsIn, WritesIn, net_of}
use Rattle.mio_net.specs.declared.annals.Deed.TheVariants.{Opened, WasClosed}
use Rattle.mio_net.specs.Annals.{DialNotes, changed_in, faults_read, faults_written, new_stream, noted, number_in, read_noted, write_noted}
use Rattle.mio_net.specs.Dialled.{AreKept, meaning_in}
use Rattle.mio_net.proofs.EndpointLemmas.{read_closed, write_closed}

-- ---- which stream is in a slot

pub taken_here : (slots : List (ℕ × ℕ)) (slot number : ℕ) → number_in ((slot, number) ∷ slots) slot ≡ Some number
taken_here slots slot number = by (eqb_tells slot slot)
  where
    by : ((slot == slot ≡ true) × (slot ≡ slot)) ⊎ ((slot == slot ≡ false) × (slot ≢ slot)) → number_in ((slot, number) ∷ slots) slot ≡ Some number
    by (inl same) = rw same.0 refl
    by (inr apart) = absurd (apart.1 refl)

pub taken_elsewhere : (slots : List (ℕ × ℕ)) (slot number other : ℕ) → other ≢ slot → number_in ((slot, number) ∷ slots) other ≡ number_in slots other
taken_elsewhere slots slot number other differ = by (eqb_tells slot other)
  where
    by : ((slot == other ≡ true) × (slot ≡ other)) ⊎ ((slot == other ≡ false) × (slot ≢ other)) → number_in ((slot, number) ∷ slots) other ≡ number_in slots other
    by (inl same) = absurd (differ (sym same.1))
    by (inr apart) = rw apart.0 refl

-- ---- one stream is changed

module _ (streams after : List Connection) (was : Option ℕ) (number moment now : ℕ) (change : Connection → Connection) (is : was ≡ Some number) (rises : moment ≤ now) (changed : after ≡ changed_in was change streams) where
  one_changed : Changes (net_of streams moment) (net_of after now) number change
  one_changed = record {
    connections = changed ∙ ap (λ (o : Option ℕ). changed_in o change streams) is;
    rest = record { most = refl; moment = rises; listens = refl; faults = refl; blocked = refl };
  }

read_faults : (end : ReadEnd) (faults : ℕ) → faults ≤ faults_read end faults
read_faults (R.Got n) faults = omega arith
read_faults R.End faults = omega arith
read_faults R.WouldBlock faults = omega arith
read_faults R.Failed faults = omega arith

read_failed : (end : ReadEnd) (faults : ℕ) → end ≡ R.Failed → HasRisen faults (faults_read end faults)
read_failed (R.Got n) faults e = absurd (cc)
read_failed R.End faults e = absurd (cc)
read_failed R.WouldBlock faults e = absurd (cc)
read_failed R.Failed faults e = inl (omega arith)

read_unfailed : (end : ReadEnd) (faults : ℕ) → end ≢ R.Failed → faults_read end faults ≡ faults
read_unfailed (R.Got n) faults e = refl
read_unfailed R.End faults e = refl
read_unfailed R.WouldBlock faults e = refl
read_unfailed R.Failed faults e = absurd (e refl)

written_faults : (end : WriteEnd) (faults : ℕ) → faults ≤ faults_written end faults
written_faults (W.Took n) faults = omega arith
written_faults W.WouldBlock faults = omega arith
written_faults W.Failed faults = omega arith
written_faults W.Memory faults = omega arith

written_failed : (end : WriteEnd) (faults : ℕ) → end ≡ W.Failed → HasRisen faults (faults_written end faults)
written_failed (W.Took n) faults e = absurd (cc)
written_failed W.WouldBlock faults e = absurd (cc)
written_failed W.Failed faults e = inl (omega arith)
written_failed W.Memory faults e = absurd (cc)

written_unfailed : (end : WriteEnd) (faults : ℕ) → end ≢ W.Failed → faults_written end faults ≡ faults
written_unfailed (W.Took n) faults e = refl
written_unfailed W.WouldBlock faults e = refl
written_unfailed W.Failed faults e = absurd (e refl)
written_unfailed W.Memory faults e = refl

-- what was changed by a function of the stream was changed by its value there
set_by : (streams : List Connection) (k : ℕ) (change other : Connection → Connection) → change (connection_at streams k) ≡ other (connection_at streams k) → set streams k (change (connection_at streams k)) ≡ set streams k (other (connection_at streams k))
set_by streams k change other e = ap (λ (c : Connection). set streams k c) e

module _ (n : DialNotes) (towards : Option ℕ) (slot moment now : ℕ) (rises : moment ≤ now) where
  pub one_read : (end : ReadEnd) (bytes : List ℕ) (after : DialNotes) → after ≡ read_noted slot end bytes now n → ReadsIn (meaning_in n towards moment) (meaning_in after towards now) slot end bytes
  one_read end bytes after e = record {
    reads = λ number is.
        let faults = (connection_at n.streams number).faults in
        record {
          faults = faults_read end faults;
          changes = one_changed n.streams after.streams (Some number) number moment now (after_read end bytes now (faults_read end faults)) refl rises
              (ap (λ (m : DialNotes). m.streams) e ∙ ap (λ (o : Option ℕ). changed_in o (λ c. after_read end bytes now (faults_read end c.faults) c) n.streams) is);
          never_falls = read_faults end faults;
          failed = read_failed end faults;
          unfailed = read_unfailed end faults;
        };
    none = record { opened = ap (λ (m : DialNotes). m.opened) e; slots = ap (λ (m : DialNotes). number_in m.slots) e; towards = refl };
  }

  pub one_written : (end : WriteEnd) (bytes : List ℕ) (after : DialNotes) → after ≡ write_noted slot end bytes now n → WritesIn (meaning_in n towards moment) (meaning_in after towards now) slot end bytes
  one_written end bytes after e = record {
    writes = λ number is.
        let faults = (connection_at n.streams number).faults in
        record {
          faults = faults_written end faults;
          changes = one_changed n.streams after.streams (Some number) number moment now (after_write end bytes now (faults_written end faults)) refl rises
              (ap (λ (m : DialNotes). m.streams) e ∙ ap (λ (o : Option ℕ). changed_in o (λ c. after_write end bytes now (faults_written end c.faults) c) n.streams) is);
          never_falls = written_faults end faults;
          failed = written_failed end faults;
          unfailed = written_unfailed end faults;
        };
    none = record { opened = ap (λ (m : DialNotes). m.opened) e; slots = ap (λ (m : DialNotes). number_in m.slots) e; towards = refl };
  }

  pub one_closed : (after : DialNotes) → after ≡ noted (WasClosed slot now) n → ClosesIn (meaning_in n towards moment) (meaning_in after towards now) slot
  one_closed after e = record {
    closes = λ number is. one_changed n.streams after.streams (Some number) number moment now (closed_at now) refl rises
        (ap (λ (m : DialNotes). m.streams) e ∙ ap (λ (o : Option ℕ). changed_in o (closed_at now) n.streams) is);
    none = record { opened = ap (λ (m : DialNotes). m.opened) e; slots = ap (λ (m : DialNotes). number_in m.slots) e; towards = refl };
  }

  pub one_opened : (after : DialNotes) → after ≡ noted (Opened slot now) n → ((number : ℕ) → number_in n.slots slot ≡ Some number → (connection_at n.streams number).closed ≡ true)
      → Opens (meaning_in n towards moment) (meaning_in after towards now) slot
  one_opened after e free = record {
    was_free = free;
    stream = new_stream now;
    streams = ap (λ (m : DialNotes). m.streams) e;
    is_new = record { none_read = refl; none_written = refl; goes_on = refl; still_open = refl; faultless = refl; last_is = refl; awake = refl; free = refl };
    opened = ap (λ (m : DialNotes). m.opened) e;
    number = ap (λ (m : DialNotes). number_in m.slots slot) e ∙ taken_here n.slots slot (length n.streams);
    others = λ other differ. ap (λ (m : DialNotes). number_in m.slots other) e ∙ taken_elsewhere n.slots slot (length n.streams) other differ;
    towards = refl;
    moment = rises;
  }

-- ---- what is kept

-- where a stream is changed but not opened again, what was closed is closed
changed_closed : (was : Option ℕ) (change : Connection → Connection) (streams : List Connection) (number : ℕ) → number < length streams → ((c : Connection) → c.closed ≡ true → (change c).closed ≡ true)
    → (connection_at streams number).closed ≡ true → (connection_at (changed_in was change streams) number).closed ≡ true
changed_closed None change streams number within keeps e = e
changed_closed (Some k) change streams number within keeps e = by (cases_eq number k)
  where
    by : (number ≡ k) ⊎ (number ≢ k) → (connection_at (set streams k (change (connection_at streams k))) number).closed ≡ true
    by (inl same) =
        rw (sym same) (ap (λ (c : Connection). c.closed) (get_or-set_same streams number (change (connection_at streams number)) absent_connection within) ∙ keeps (connection_at streams number) e)
    by (inr apart) = ap (λ (c : Connection). c.closed) (get_or-set_other streams k number (change (connection_at streams k)) absent_connection apart) ∙ e

changed_length : (was : Option ℕ) (change : Connection → Connection) (streams : List Connection) → length (changed_in was change streams) ≡ length streams
changed_length None change streams = refl
changed_length (Some k) change streams = length-set streams k (change (connection_at streams k))

-- room was made
pub kept_room : {T : Type 0} (n : DialNotes) (kept more : Slab T) → AreKept n kept → more ≡ record kept { capacity = more.capacity } → AreKept n more
kept_room {T} n kept more was e = record {
  within = was.within;
  free = λ s number is absent. was.free s number is (ap (λ (x : Slab T). get x s) (sym e) ∙ absent);
}

module _ {T : Type 0} (n : DialNotes) (kept : Slab T) (was : AreKept n kept) (slot now : ℕ) where
  still_kept : (change : Connection → Connection) → ((c : Connection) → c.closed ≡ true → (change c).closed ≡ true) → AreKept (record n { streams = changed_in (number_in n.slots slot) change n.streams }) kept
  still_kept change keeps = record {
    within = λ s number e. subst (λ (count : ℕ). number < count) (sym (changed_length (number_in n.slots slot) change n.streams)) (was.within s number e);
    free = λ s number e absent. changed_closed (number_in n.slots slot) change n.streams number (was.within s number e) keeps (was.free s number e absent);
  }

  pub kept_read : (end : ReadEnd) (bytes : List ℕ) → AreKept (read_noted slot end bytes now n) kept
  kept_read end bytes = still_kept (λ c. after_read end bytes now (faults_read end c.faults) c) (λ c e. read_closed end bytes now (faults_read end c.faults) c ∙ e)

  pub kept_written : (end : WriteEnd) (bytes : List ℕ) → AreKept (write_noted slot end bytes now n) kept
  kept_written end bytes = still_kept (λ c. after_write end bytes now (faults_written end c.faults) c) (λ c e. write_closed end bytes now (faults_written end c.faults) c ∙ e)

  -- the stream in the slot is closed, and only there nothing is kept any more
  pub kept_closed : (less : Slab T) → ((other : ℕ) → other ≢ slot → get less other ≡ get kept other) → AreKept (noted (WasClosed slot now) n) less
  kept_closed less others =
      record {
        within = λ s number e. subst (λ (count : ℕ). number < count) (sym (changed_length (number_in n.slots slot) (closed_at now) n.streams)) (was.within s number e);
        free = λ s number e absent. by s number e absent (cases_eq s slot);
      }
    where
      here : (number : ℕ) (o : Option ℕ) → o ≡ Some number → number < length n.streams → (connection_at (changed_in o (closed_at now) n.streams) number).closed ≡ true
      here number None e within = absurd (cc)
      here number (Some k) e within =
          let same : k ≡ number = cc in
          rw same (ap (λ (c : Connection). c.closed) (get_or-set_same n.streams number (closed_at now (connection_at n.streams number)) absent_connection within))

      by : (s number : ℕ) → number_in n.slots s ≡ Some number → get less s ≡ None → (s ≡ slot) ⊎ (s ≢ slot) → (connection_at (changed_in (number_in n.slots slot) (closed_at now) n.streams) number).closed ≡ true
      by s number e absent (inl same) = here number (number_in n.slots slot) (ap (λ (t : ℕ). number_in n.slots t) (sym same) ∙ e) (was.within s number e)
      by s number e absent (inr apart) = changed_closed (number_in n.slots slot) (closed_at now) n.streams number (was.within s number e) (λ c _. refl) (was.free s number e (sym (others s apart) ∙ absent))

  -- one more was opened, and is kept in the slot
  pub kept_opened : (more : Slab T) (x : T) → Updates kept more slot (Some x) → AreKept (noted (Opened slot now) n) more
  kept_opened more x updates = record { within = within; free = λ s number e absent. by s number e absent (cases_eq s slot) }
    where
      long : length (n.streams ++ new_stream now ∷ []) ≡ length n.streams + 1
      long = length-append n.streams (new_stream now ∷ [])

      within : (s number : ℕ) → number_in ((slot, length n.streams) ∷ n.slots) s ≡ Some number → number < length (n.streams ++ new_stream now ∷ [])
      within s number e = at (cases_eq s slot)
        where
          at : (s ≡ slot) ⊎ (s ≢ slot) → number < length (n.streams ++ new_stream now ∷ [])
          at (inl same) =
              let is : Some (length n.streams) ≡ Some number = sym (taken_here n.slots slot (length n.streams)) ∙ ap (λ (t : ℕ). number_in ((slot, length n.streams) ∷ n.slots) t) (sym same) ∙ e in
              let count : length n.streams ≡ number = cc in let more = long in omega (arith, count, more)
          at (inr apart) = let below = was.within s number (sym (taken_elsewhere n.slots slot (length n.streams) s apart) ∙ e) in let more = long in omega (arith, below, more)

      by : (s number : ℕ) → number_in ((slot, length n.streams) ∷ n.slots) s ≡ Some number → get more s ≡ None → (s ≡ slot) ⊎ (s ≢ slot) → (connection_at (n.streams ++ new_stream now ∷ []) number).closed ≡ true
      by s number e absent (inl same) =
          let there : get more s ≡ Some x = ap (λ (t : ℕ). get more t) same ∙ updates.changed in absurd (cc)
      by s number e absent (inr apart) =
          let was_in = sym (taken_elsewhere n.slots slot (length n.streams) s apart) ∙ e in
          ap (λ (c : Connection). c.closed) (get_or_append_left n.streams (new_stream now ∷ []) absent_connection number (was.within s number was_in))
          ∙ was.free s number was_in (sym (updates.others s apart) ∙ absent)
