-- A net over the system, one connection at a time.
use Rattle.std.proofs.Common.{◌≡◌, ◌≢◌, ℕ, ◌+◌, ◌<◌, ◌≤◌, max, Bool, true, false, List, [], ◌∷◌, ◌++◌, length, map, get_or, set, Option, refl, sym, ap, ◌∙◌, subst, arith, slice_set}
use Rattle.gv_values.specs.Counts.{HasRisen}
use Rattle.std.proofs.lemmas.List.{length-map, get_or-map, map-append}
use Rattle.stream_net.specs.Accounts.{account_meaning}
use Rattle.stream_net.specs.declared.account.Account.{Account}
use Rattle.stream_net.specs.Net.{Connection, Changes, connection_at, absent_connection, live_count, IsNew}
use Rattle.stream_net.specs.declared.net.Ports.{Ports}
use Rattle.stream_net.specs.declared.net.ReadEnd.{ReadEnd}
use Rattle.stream_net.specs.declared.net.ReadEnd.TheVariants as R
use Rattle.stream_net.specs.declared.net.WriteEnd.{WriteEnd}
use Rattle.stream_net.specs.declared.net.WriteEnd.TheVariants as W
use Rattle.stream_net.specs.Reads.{Reads, after_read}
use Rattle.stream_net.specs.Writes.{Writes, after_write}
use Rattle.stream_net.specs.Waits.{woken, woken_if}
use Rattle.stream_net.specs.Accepts.{Gains}
use Rattle.stream_net.proofs.MemoryLemmas.{map_set}
use Rattle.stream_net.proofs.Lists.{live_kept, live_closed, live_more_one}
use Rattle.mio_net.specs.declared.endpoint.Endpoint.{Endpoint}
use Rattle.mio_net.specs.Endpoints.{endpoint_meaning, meaning_by}

-- what an account means beside the bytes that were noted
pub with_bytes : (a : Account) (read noted written sent : Option (List ℕ)) (c : Connection) → read ≡ noted → written ≡ sent → account_meaning a noted sent ≡ c → account_meaning a read written ≡ c
with_bytes a read noted written sent c came went is = ap (λ (r : Option (List ℕ)). account_meaning a r written) came ∙ ap (λ (w : Option (List ℕ)). account_meaning a noted w) went ∙ is

module _ (endpoints : List Endpoint) (k : ℕ) (old new : Endpoint) (within : k < length (map endpoint_meaning endpoints)) (is : old ≡ get_or endpoints k old) where
  in_endpoints : k < length endpoints
  in_endpoints = subst (λ (n : ℕ). k < n) (length-map endpoints endpoint_meaning) within

  pub at_old : connection_at (map endpoint_meaning endpoints) k ≡ endpoint_meaning old
  at_old = get_or-map endpoint_meaning endpoints k old absent_connection in_endpoints ∙ ap endpoint_meaning (sym is)

  -- how many are live, where it stays as open as it was
  pub kept_count : new.account.closed ≡ old.account.closed → live_count (map endpoint_meaning (slice_set endpoints k new)) ≡ live_count (map endpoint_meaning endpoints)
  kept_count same =
      ap (λ (cs : List Connection). live_count cs) (map_set endpoint_meaning endpoints k new)
      ∙ live_kept (map endpoint_meaning endpoints) k (endpoint_meaning new) within (same ∙ ap (λ (c : Connection). c.closed) (sym at_old))

  pub closed_count : old.account.closed ≡ false → new.account.closed ≡ true → live_count (map endpoint_meaning (slice_set endpoints k new)) + 1 ≡ live_count (map endpoint_meaning endpoints)
  closed_count was now =
      ap (λ (cs : List Connection). live_count cs + 1) (map_set endpoint_meaning endpoints k new)
      ∙ live_closed (map endpoint_meaning endpoints) k (endpoint_meaning new) within (ap (λ (c : Connection). c.closed) at_old ∙ was) now

  module _ (most moment now : ℕ) (listens : Option Ports) (faults : ℕ) (blocked : Bool) (rises : moment ≤ now) where
    pub one_changed : (change : Connection → Connection) → endpoint_meaning new ≡ change (endpoint_meaning old)
        → Changes (meaning_by endpoints most moment listens faults blocked) (meaning_by (slice_set endpoints k new) most now listens faults blocked) k change
    one_changed change e = record {
      connections = map_set endpoint_meaning endpoints k new ∙ ap (λ (c : Connection). set (map endpoint_meaning endpoints) k c) (e ∙ ap change (sym at_old));
      rest = record { most = refl; moment = rises; listens = refl; faults = refl; blocked = refl };
    }

    pub one_read : (end : ReadEnd) (bytes : List ℕ) → endpoint_meaning new ≡ after_read end bytes now new.account.faults (endpoint_meaning old) → old.account.faults ≤ new.account.faults
        → (end ≡ ReadEnd.Failed → HasRisen old.account.faults new.account.faults) → (end ≢ ReadEnd.Failed → new.account.faults ≡ old.account.faults)
        → Reads (meaning_by endpoints most moment listens faults blocked) (meaning_by (slice_set endpoints k new) most now listens faults blocked) k end bytes
    one_read end bytes e rises failed unfailed = record {
      faults = new.account.faults;
      changes = one_changed (after_read end bytes now new.account.faults) e;
      never_falls = subst (λ (c : Connection). c.faults ≤ new.account.faults) (sym at_old) rises;
      failed = λ f. subst (λ (c : Connection). HasRisen c.faults new.account.faults) (sym at_old) (failed f);
      unfailed = λ f. unfailed f ∙ ap (λ (c : Connection). c.faults) (sym at_old);
    }

    pub one_written : (end : WriteEnd) (bytes : List ℕ) → endpoint_meaning new ≡ after_write end bytes now new.account.faults (endpoint_meaning old) → old.account.faults ≤ new.account.faults
        → (end ≡ WriteEnd.Failed → HasRisen old.account.faults new.account.faults) → (end ≢ WriteEnd.Failed → new.account.faults ≡ old.account.faults)
        → Writes (meaning_by endpoints most moment listens faults blocked) (meaning_by (slice_set endpoints k new) most now listens faults blocked) k end bytes
    one_written end bytes e rises failed unfailed = record {
      faults = new.account.faults;
      changes = one_changed (after_write end bytes now new.account.faults) e;
      never_falls = subst (λ (c : Connection). c.faults ≤ new.account.faults) (sym at_old) rises;
      failed = λ f. subst (λ (c : Connection). HasRisen c.faults new.account.faults) (sym at_old) (failed f);
      unfailed = λ f. unfailed f ∙ ap (λ (c : Connection). c.faults) (sym at_old);
    }

-- a read and a write leave it as open as it was
pub read_closed : (end : ReadEnd) (bytes : List ℕ) (moment faults : ℕ) (c : Connection) → (after_read end bytes moment faults c).closed ≡ c.closed
read_closed (R.Got n) bytes moment faults c = refl
read_closed R.End bytes moment faults c = refl
read_closed R.WouldBlock bytes moment faults c = refl
read_closed R.Failed bytes moment faults c = refl

pub write_closed : (end : WriteEnd) (bytes : List ℕ) (moment faults : ℕ) (c : Connection) → (after_write end bytes moment faults c).closed ≡ c.closed
write_closed (W.Took n) bytes moment faults c = refl
write_closed W.WouldBlock bytes moment faults c = refl
write_closed W.Failed bytes moment faults c = refl
write_closed W.Memory bytes moment faults c = refl

pub named_one : (endpoints : List Endpoint) (k : ℕ) (old new : Endpoint) → k < length endpoints → endpoint_meaning new ≡ woken_if (get_or endpoints k old).account.closed (endpoint_meaning (get_or endpoints k old))
    → map endpoint_meaning (slice_set endpoints k new) ≡ woken k (map endpoint_meaning endpoints)
named_one endpoints k old new within e =
    let at : connection_at (map endpoint_meaning endpoints) k ≡ endpoint_meaning (get_or endpoints k old) = get_or-map endpoint_meaning endpoints k old absent_connection within in
    map_set endpoint_meaning endpoints k new ∙ ap (λ (c : Connection). set (map endpoint_meaning endpoints) k c) (e ∙ ap (λ (c : Connection). woken_if c.closed c) (sym at))

pub one_more_live : (endpoints : List Endpoint) (p : Endpoint) → p.account.closed ≡ false → live_count (map endpoint_meaning (endpoints ++ p ∷ [])) ≡ live_count (map endpoint_meaning endpoints) + 1
one_more_live endpoints p still = ap (λ (cs : List Connection). live_count cs) (map-append endpoint_meaning endpoints (p ∷ [])) ∙ live_more_one (map endpoint_meaning endpoints) (endpoint_meaning p) still

pub one_gained : (endpoints after : List Endpoint) (p : Endpoint) (live most most' moment now number : ℕ) (listens : Option Ports) (faults : ℕ) (blocked : Bool) → live ≡ live_count (map endpoint_meaning endpoints) → IsNew (endpoint_meaning p) now → moment ≤ now
    → after ≡ endpoints ++ p ∷ [] → most' ≡ max most (live + 1) → number ≡ length endpoints
    → Gains (meaning_by endpoints most moment listens faults blocked) (meaning_by after most' now listens faults false) number
one_gained endpoints after p live most most' moment now number listens faults blocked is new rises grows largest count = record {
  number = count ∙ sym (length-map endpoints endpoint_meaning);
  connection = endpoint_meaning p;
  connections = ap (map endpoint_meaning) grows ∙ map-append endpoint_meaning endpoints (p ∷ []);
  is_new = new;
  most = largest ∙ ap (λ (n : ℕ). max most (n + 1)) is ∙ ap (λ (n : ℕ). max most n) (sym (one_more_live endpoints p new.still_open)) ∙ ap (λ (xs : List Endpoint). max most (live_count (map endpoint_meaning xs))) (sym grows);
  moment = rises;
  listens = refl;
  faults = omega arith;
}
