-- Streams in memory, one at a time.
use Rattle.std.proofs.Common.{◌≡◌, ◌≢◌, ◌⊎◌, inl, inr, ℕ, ◌+◌, ◌<◌, ◌≤◌, true, false, List, [], ◌∷◌, ◌++◌, length, map, take, get_or, set, Option, Some, None, IfSome, IfNone, slice_get, refl, sym, ap, ◌∙◌, subst, arith}
use Rattle.std.proofs.lemmas.Bool.{cases_lt}
use Rattle.std.proofs.lemmas.List.{length-append, length-set, get_or-set_same, get_or-set_other, get_or-append-add, get_or_append_left}
use Rattle.std.proofs.Math.Seq.{map-set_same}
use Rattle.std.proofs.lemmas.Option.{slice_get-get_or, slice_get_within, slice_get_past}
use Rattle.gv_values.specs.Counts.{HasRisen}
use Rattle.gv_io.specs.Streams.{appended}
use Rattle.stream_net.specs.declared.memory_endpoint.MemoryEndpoint.{MemoryEndpoint}
use Rattle.stream_net.specs.declared.net.ReadEnd.{ReadEnd}
use Rattle.stream_net.specs.declared.net.WriteEnd.{WriteEnd}
use Rattle.stream_net.specs.MemoryEndpoints.{scripted_meaning}
use Rattle.stream_net.specs.declared.net.Quiet.TheVariants.{Awake}
use Rattle.stream_net.specs.Net.{Changes, Connection, closed_at, connection_at}
use Rattle.stream_net.specs.Reads.{Reads, after_read}
use Rattle.stream_net.specs.Writes.{Writes, after_write}
use Rattle.stream_net.proofs.MemoryLemmas.{one_changed, one_read, one_written}
use Rattle.stream_dial.specs.Dials.{ClosesIn, DialMeaning, IsOpen, ReadsIn, StaysDialled, WritesIn, net_of}
use Rattle.stream_dial.specs.MemoryDials.{meaning_by}

-- what stands in a slot
pub slot_has : (slots : List ℕ) (slot number : ℕ) → slice_get slots slot ≡ Some number → (d : ℕ) → get_or slots slot d ≡ number
slot_has slots slot number e d =
    let is : Some (get_or slots slot d) ≡ Some number = sym (slice_get-get_or slots slot d (slice_get_within slots slot number e)) ∙ e in cc

module _ (slots : List ℕ) (slot number : ℕ) where
  -- a slot was given to another
  pub set_here : slot < length slots → slice_get (set slots slot number) slot ≡ Some number
  set_here within =
      slice_get-get_or (set slots slot number) slot 0 (subst (λ (n : ℕ). slot < n) (sym (length-set slots slot number)) within) ∙ ap Some (get_or-set_same slots slot number 0 within)

  pub set_others : (other : ℕ) → other ≢ slot → slice_get (set slots slot number) other ≡ slice_get slots other
  set_others other apart = by (cases_lt other (length slots))
    where
      by : (other < length slots) ⊎ (length slots ≤ other) → slice_get (set slots slot number) other ≡ slice_get slots other
      by (inl within) =
          slice_get-get_or (set slots slot number) other 0 (subst (λ (n : ℕ). other < n) (sym (length-set slots slot number)) within)
          ∙ ap Some (get_or-set_other slots slot other number 0 apart) ∙ sym (slice_get-get_or slots other 0 within)
      by (inr past) =
          slice_get_past (set slots slot number) other (subst (λ (n : ℕ). n ≤ other) (sym (length-set slots slot number)) past) ∙ sym (slice_get_past slots other past)

module _ (slots : List ℕ) (number : ℕ) where
  -- there is a slot more
  pub push_here : slice_get (slots ++ number ∷ []) (length slots) ≡ Some number
  push_here =
      slice_get-get_or (slots ++ number ∷ []) (length slots) 0 (let n = length-append slots (number ∷ []) in omega (arith, n))
      ∙ ap Some (ap (λ (n : ℕ). get_or (slots ++ number ∷ []) n 0) (omega arith) ∙ get_or-append-add slots (number ∷ []) 0 0)

  pub push_others : (other : ℕ) → other ≢ length slots → slice_get (slots ++ number ∷ []) other ≡ slice_get slots other
  push_others other apart = by (cases_lt other (length slots))
    where
      long : length (slots ++ number ∷ []) ≡ length slots + 1
      long = length-append slots (number ∷ [])

      by : (other < length slots) ⊎ (length slots ≤ other) → slice_get (slots ++ number ∷ []) other ≡ slice_get slots other
      by (inl within) =
          slice_get-get_or (slots ++ number ∷ []) other 0 (let n = long in omega (arith, n, within))
          ∙ ap Some (get_or_append_left slots (number ∷ []) 0 other within) ∙ sym (slice_get-get_or slots other 0 within)
      by (inr past) =
          slice_get_past (slots ++ number ∷ []) other (let n = long in omega (arith, n, past, apart)) ∙ sym (slice_get_past slots other past)

-- a slot that was taken had no open stream, or is new
pub was_free : (slots : List ℕ) (streams : List Connection) (free : Option ℕ) (taken : ℕ) → IfSome free (λ slot. (k : ℕ) → slice_get slots slot ≡ Some k → (connection_at streams k).closed ≡ true)
    → IfSome free (λ slot. taken ≡ slot) → IfNone free (taken ≡ length slots) → (k : ℕ) → slice_get slots taken ≡ Some k → (connection_at streams k).closed ≡ true
was_free slots streams None taken closed old new k e = let within = slice_get_within slots taken k e in absurd (omega (arith, within, new))
was_free slots streams (Some slot) taken closed old new k e = closed k (ap (λ (s : ℕ). slice_get slots s) (sym old) ∙ e)

module _ (endpoints : List MemoryEndpoint) (opened slots : List ℕ) (towards : Option ℕ) (slot number moment : ℕ) (old new : MemoryEndpoint) (here : number ≡ get_or slots slot number) (is : old ≡ get_or endpoints number old) where
  abbrev after : DialMeaning
  after = meaning_by (set endpoints number new) opened slots towards moment

  abbrev before : DialMeaning
  before = meaning_by endpoints opened slots towards moment

  same : (k : ℕ) → slice_get slots slot ≡ Some k → number ≡ k
  same k e = here ∙ slot_has slots slot k e number

  within : IsOpen before slot → number < length (map scripted_meaning endpoints)
  within o = subst (λ (k : ℕ). k < length (map scripted_meaning endpoints)) (sym (same o.number o.is)) o.live.accepted

  pub reads_in : IsOpen before slot → (end : ReadEnd) (bytes : List ℕ) → scripted_meaning new ≡ after_read end bytes moment new.account.faults (scripted_meaning old) → old.account.faults ≤ new.account.faults
      → (end ≡ ReadEnd.Failed → HasRisen old.account.faults new.account.faults) → (end ≢ ReadEnd.Failed → new.account.faults ≡ old.account.faults) → ReadsIn before after slot end bytes
  reads_in o end bytes e rises failed unfailed = record {
    reads = λ k at. subst (λ (i : ℕ). Reads (net_of before.streams moment) (net_of after.streams moment) i end bytes) (same k at)
        (one_read endpoints number old new 0 moment None 0 false (within o) is end bytes e rises failed unfailed);
    none = record { opened = refl; slots = refl; towards = refl };
  }

  pub writes_in : IsOpen before slot → (end : WriteEnd) (bytes : List ℕ) → scripted_meaning new ≡ after_write end bytes moment new.account.faults (scripted_meaning old) → old.account.faults ≤ new.account.faults
      → (end ≡ WriteEnd.Failed → HasRisen old.account.faults new.account.faults) → (end ≢ WriteEnd.Failed → new.account.faults ≡ old.account.faults) → WritesIn before after slot end bytes
  writes_in o end bytes e rises failed unfailed = record {
    writes = λ k at. subst (λ (i : ℕ). Writes (net_of before.streams moment) (net_of after.streams moment) i end bytes) (same k at)
        (one_written endpoints number old new 0 moment None 0 false (within o) is end bytes e rises failed unfailed);
    none = record { opened = refl; slots = refl; towards = refl };
  }

  pub closes_in : IsOpen before slot → scripted_meaning new ≡ closed_at moment (scripted_meaning old) → ClosesIn before after slot
  closes_in o e = record {
    closes = λ k at. subst (λ (i : ℕ). Changes (net_of before.streams moment) (net_of after.streams moment) i (closed_at moment)) (same k at)
        (one_changed endpoints number old new 0 moment None 0 false (within o) is (closed_at moment) e);
    none = record { opened = refl; slots = refl; towards = refl };
  }

  pub stays_in : scripted_meaning new ≡ scripted_meaning old → StaysDialled before after
  stays_in e = record {
    streams = map-set_same scripted_meaning endpoints number new old (e ∙ ap scripted_meaning is);
    none = record { opened = refl; slots = refl; towards = refl };
    moment = omega arith;
  }

-- a write of the front of two pieces is one of both
pub fronts_written : (end : WriteEnd) (piece both : List ℕ) (moment faults : ℕ) (c : Connection) → ((n : ℕ) → end ≡ WriteEnd.Took n → n ≤ length piece) → ((n : ℕ) → n ≤ length piece → take n piece ≡ take n both)
    → after_write end piece moment faults c ≡ after_write end both moment faults c
fronts_written (WriteEnd.Took n) piece both moment faults c fits front = ap (λ (bytes : List ℕ). record c { written = appended c.written bytes; last = moment; quiet = Awake; faults = faults }) (front n (fits n refl))
fronts_written WriteEnd.WouldBlock piece both moment faults c fits front = refl
fronts_written WriteEnd.Failed piece both moment faults c fits front = refl
fronts_written WriteEnd.Memory piece both moment faults c fits front = refl
