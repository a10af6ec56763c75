-- A net in memory, one connection at a time.
use Rattle.std.proofs.Common.{◌≡◌, ◌≢◌, ℕ, zero, suc, ◌+◌, ◌-◌, ◌<◌, ◌≤◌, Bool, false, List, [], ◌∷◌, ◌++◌, length, take, drop, map, get_or, set, Option, Some, option_map, slice_get, refl, sym, ap, ◌∙◌, subst, arith, slice_set, append_assoc, take-add, min, length-drop, length-take-le}
use Rattle.gv_values.specs.Counts.{HasRisen}
use Rattle.std.proofs.lemmas.List.{length-map, get_or-map, take_all, take-append-le}
use Rattle.std.proofs.lemmas.Option.{slice_get-get_or}
use Rattle.stream_net.specs.declared.account.Account.{Account}
use Rattle.stream_net.specs.declared.memory_endpoint.MemoryEndpoint.{MemoryEndpoint}
use Rattle.stream_net.specs.declared.net.ReadEnd.{ReadEnd}
use Rattle.stream_net.specs.declared.net.WriteEnd.{WriteEnd}
use Rattle.stream_net.specs.declared.script.Piece.{Piece}
use Rattle.stream_net.specs.Accounts.{account_meaning, read_after}
use Rattle.stream_net.specs.MemoryEndpoints.{joined, bytes_at, is_failing, read_of, scripted_meaning, no_piece}
use Rattle.stream_net.specs.MemoryNets.{meaning_by}
use Rattle.stream_net.specs.Net.{Connection, Changes, Ports, IsNotReady, connection_at, absent_connection}
use Rattle.stream_net.specs.Reads.{Reads, after_read}
use Rattle.stream_net.specs.Rules.{EndsRead, EndsWrite, Rewrites}
use Rattle.stream_net.specs.Writes.{Writes, after_write}
use Rattle.stream_net.specs.Taken.{written_after}
use Rattle.stream_net.specs.Waits.{woken, woken_if, IsInTime}
use Rattle.stream_net.specs.declared.net.Ready.{Ready}
use Rattle.stream_net.specs.declared.net.Ready.TheVariants.{Incoming, Readable, Writable, Elapsed}

pub map_set : {A B : Type 0} (f : A → B) (xs : List A) (k : ℕ) (y : A) → map f (set xs k y) ≡ set (map f xs) k (f y)
map_set f [] k y = refl
map_set f (x ∷ xs) zero y = refl
map_set f (x ∷ xs) (suc k) y = ap (λ (zs : List _). f x ∷ zs) (map_set f xs k y)

pub endpoint_at : (endpoints : List MemoryEndpoint) (k : ℕ) (l : MemoryEndpoint) → k < length endpoints → l ≡ get_or endpoints k l → connection_at (map scripted_meaning endpoints) k ≡ scripted_meaning l
endpoint_at endpoints k l within is = get_or-map scripted_meaning endpoints k l absent_connection within ∙ ap scripted_meaning (sym is)

module _ (endpoints : List MemoryEndpoint) (k : ℕ) (old new : MemoryEndpoint) (most moment : ℕ) (listens : Option Ports) (faults : ℕ) (blocked : Bool)
    (within : k < length (map scripted_meaning endpoints)) (is : old ≡ get_or endpoints k old) where
  in_endpoints : k < length endpoints
  in_endpoints = subst (λ (n : ℕ). k < n) (length-map endpoints scripted_meaning) within

  pub one_changed : (change : Connection → Connection) → scripted_meaning new ≡ change (scripted_meaning old)
      → Changes (meaning_by endpoints most moment listens faults blocked) (meaning_by (slice_set endpoints k new) most moment listens faults blocked) k change
  one_changed change e = record {
    connections = map_set scripted_meaning endpoints k new ∙ ap (λ (c : Connection). set (map scripted_meaning endpoints) k c) (e ∙ ap change (sym (endpoint_at endpoints k old in_endpoints is)));
    rest = record { most = refl; moment = omega arith; listens = refl; faults = refl; blocked = refl };
  }

  at_old : connection_at (map scripted_meaning endpoints) k ≡ scripted_meaning old
  at_old = endpoint_at endpoints k old in_endpoints is

  pub one_read : (end : ReadEnd) (bytes : List ℕ) → scripted_meaning new ≡ after_read end bytes moment new.account.faults (scripted_meaning old) → old.account.faults ≤ new.account.faults
      → (end ≡ ReadEnd.Failed → HasRisen old.account.faults new.account.faults) → (end ≢ ReadEnd.Failed → new.account.faults ≡ old.account.faults)
      → Reads (meaning_by endpoints most moment listens faults blocked) (meaning_by (slice_set endpoints k new) most moment listens faults blocked) k end bytes
  one_read end bytes e rises failed unfailed = record {
    faults = new.account.faults;
    changes = one_changed (after_read end bytes moment new.account.faults) e;
    never_falls = subst (λ (c : Connection). c.faults ≤ new.account.faults) (sym at_old) rises;
    failed = λ f. subst (λ (c : Connection). HasRisen c.faults new.account.faults) (sym at_old) (failed f);
    unfailed = λ f. unfailed f ∙ ap (λ (c : Connection). c.faults) (sym at_old);
  }

  pub one_written : (end : WriteEnd) (bytes : List ℕ) → scripted_meaning new ≡ after_write end bytes moment new.account.faults (scripted_meaning old) → old.account.faults ≤ new.account.faults
      → (end ≡ WriteEnd.Failed → HasRisen old.account.faults new.account.faults) → (end ≢ WriteEnd.Failed → new.account.faults ≡ old.account.faults)
      → Writes (meaning_by endpoints most moment listens faults blocked) (meaning_by (slice_set endpoints k new) most moment listens faults blocked) k end bytes
  one_written end bytes e rises failed unfailed = record {
    faults = new.account.faults;
    changes = one_changed (after_write end bytes moment new.account.faults) e;
    never_falls = subst (λ (c : Connection). c.faults ≤ new.account.faults) (sym at_old) rises;
    failed = λ f. subst (λ (c : Connection). HasRisen c.faults new.account.faults) (sym at_old) (failed f);
    unfailed = λ f. unfailed f ∙ ap (λ (c : Connection). c.faults) (sym at_old);
  }

-- a read or write that failed: the call was counted, and nothing else is changed but what is kept
pub failed_write : (l m : MemoryEndpoint) (a : Account) (calls moment : ℕ) (bytes : List ℕ) → m ≡ record l { calls = calls }
    → ((read written : Option (List ℕ)) (bytes : List ℕ) → account_meaning a read (written_after WriteEnd.Failed bytes written) ≡ after_write WriteEnd.Failed bytes moment a.faults (account_meaning m.account read written))
    → scripted_meaning (record m { account = a }) ≡ after_write WriteEnd.Failed bytes moment a.faults (scripted_meaning l)
failed_write l m a calls moment bytes e h = h (Some (read_of m.script.pieces m.place m.offset)) (Some m.written.items) bytes ∙ ap (λ (x : MemoryEndpoint). after_write WriteEnd.Failed bytes moment a.faults (scripted_meaning x)) e

pub told_one : (endpoints : List MemoryEndpoint) (k : ℕ) (old new : MemoryEndpoint) → k < length endpoints → scripted_meaning new ≡ woken_if (get_or endpoints k old).account.closed (scripted_meaning (get_or endpoints k old))
    → map scripted_meaning (slice_set endpoints k new) ≡ woken k (map scripted_meaning endpoints)
told_one endpoints k old new within e =
    let at : connection_at (map scripted_meaning endpoints) k ≡ scripted_meaning (get_or endpoints k old) = get_or-map scripted_meaning endpoints k old absent_connection within in
    map_set scripted_meaning endpoints k new ∙ ap (λ (c : Connection). set (map scripted_meaning endpoints) k c) (e ∙ ap (λ (c : Connection). woken_if c.closed c) (sym at))

-- bytes of a piece were given
pub given_more : (pieces : List Piece) (place offset count : ℕ) (before given behind : List ℕ) → read_of pieces place offset ≡ before → given ≡ take count (drop offset (bytes_at pieces place)) → length given ≡ count
    → read_of pieces place (offset + count) ≡ before ++ take count (given ++ behind)
given_more pieces place offset count before given behind was is long =
    ap (λ (z : List ℕ). joined (take place pieces) ++ z) (take-add offset count (bytes_at pieces place))
    ∙ sym (append_assoc (joined (take place pieces)) (take offset (bytes_at pieces place)) (take count (drop offset (bytes_at pieces place))))
    ∙ ap (λ (z : List ℕ). read_of pieces place offset ++ z) (sym is)
    ∙ ap (λ (z : List ℕ). z ++ given) was
    ∙ ap (λ (z : List ℕ). before ++ z) (sym (take-append-le count given behind (omega (arith, long)) ∙ take_all count given (omega (arith, long))))

-- what was changed through a slice of all
pub took : (old new : List MemoryEndpoint) (n : ℕ) → n ≡ length old → length new ≡ length old → take n (new ++ drop (length new) old) ≡ new
took old new n e f = take-append-le n new (drop (length new) old) (omega (arith, e, f)) ∙ take_all n new (omega (arith, e, f))

pub in_time : (ready : Ready) (until : Option ℕ) (moment : ℕ) → ready ≢ Elapsed → IsInTime ready until moment
in_time Incoming until moment h = tt
in_time (Readable k) until moment h = tt
in_time (Writable k) until moment h = tt
in_time Elapsed until moment h = absurd (h refl)

pub any_item : {A : Type 0} (xs : List A) (k : ℕ) (d e : A) → k < length xs → get_or xs k d ≡ get_or xs k e
any_item [] k d e lt = absurd (omega (arith, lt))
any_item (x ∷ xs) zero d e lt = refl
any_item (x ∷ xs) (suc k) d e lt = any_item xs k d e (omega (arith, lt))

pub given_from : (pieces qs rs : List Piece) (place offset count room : ℕ) (p : Piece) (bytes given before behind : List ℕ) → read_of pieces place offset ≡ before
    → given ≡ take (offset + count - offset) (drop offset bytes) → count ≡ min (length bytes - offset) room → bytes ≡ (get_or qs place p).bytes → qs ≡ pieces → place < length rs → rs ≡ pieces
    → read_of pieces place (offset + count) ≡ before ++ take count (given ++ behind)
given_from pieces qs rs place offset count room p bytes given before behind was is least e same within also =
    let n : offset + count - offset ≡ count = omega arith in
    let inside : place < length pieces = subst (λ (xs : List Piece). place < length xs) also within in
    let all : bytes ≡ bytes_at pieces place = e ∙ ap (λ (xs : List Piece). (get_or xs place p).bytes) same ∙ ap (λ (q : Piece). q.bytes) (any_item pieces place p no_piece inside) in
    let cut : given ≡ take count (drop offset bytes) = is ∙ ap (λ (k : ℕ). take k (drop offset bytes)) n in
    let d = length-drop offset bytes in
    let fits : count ≤ length (drop offset bytes) = omega (arith, least, d) in
    let long : length given ≡ count = ap (λ (xs : List ℕ). length xs) cut ∙ length-take-le count (drop offset bytes) fits in
    given_more pieces place offset count before given behind was (cut ∙ ap (λ (xs : List ℕ). take count (drop offset xs)) all) long

pub failed_read : (l m : MemoryEndpoint) (a : Account) (calls moment : ℕ) (bytes : List ℕ) → m ≡ record l { calls = calls }
    → ((read written : Option (List ℕ)) (bytes : List ℕ) → account_meaning a (read_after ReadEnd.Failed bytes read) written ≡ after_read ReadEnd.Failed bytes moment a.faults (account_meaning m.account read written))
    → scripted_meaning (record m { account = a }) ≡ after_read ReadEnd.Failed bytes moment a.faults (scripted_meaning l)
failed_read l m a calls moment bytes e h = h (Some (read_of m.script.pieces m.place m.offset)) (Some m.written.items) bytes ∙ ap (λ (x : MemoryEndpoint). after_read ReadEnd.Failed bytes moment a.faults (scripted_meaning x)) e

-- one connection is another now
pub rewritten_at : (endpoints : List MemoryEndpoint) (k : ℕ) (d new : MemoryEndpoint) (Becomes : MemoryEndpoint → MemoryEndpoint → Type 0) → k < length endpoints → Becomes (get_or endpoints k d) new → Rewrites endpoints (slice_set endpoints k new) k Becomes
rewritten_at endpoints k d new Becomes within h = record { endpoint = new; endpoints = refl; becomes = λ e. subst (λ (l : MemoryEndpoint). Becomes l new) (any_item endpoints k d e within) h }

pub rewritten : (endpoints : List MemoryEndpoint) (k : ℕ) (old new : MemoryEndpoint) (Becomes : MemoryEndpoint → MemoryEndpoint → Type 0) → k < length (map scripted_meaning endpoints) → old ≡ get_or endpoints k old → Becomes old new → Rewrites endpoints (slice_set endpoints k new) k Becomes
rewritten endpoints k old new Becomes within is h =
    rewritten_at endpoints k old new Becomes (subst (λ (n : ℕ). k < n) (length-map endpoints scripted_meaning) within) (subst (λ (l : MemoryEndpoint). Becomes l new) is h)

-- what holds of the connection holds of it whatever stands for none
pub at_endpoint : (P : MemoryEndpoint → Type 0) (endpoints : List MemoryEndpoint) (k : ℕ) (old : MemoryEndpoint) → k < length (map scripted_meaning endpoints) → old ≡ get_or endpoints k old → P old → (d : MemoryEndpoint) → P (get_or endpoints k d)
at_endpoint P endpoints k old within is h d =
    subst P (is ∙ any_item endpoints k old d (subst (λ (n : ℕ). k < n) (length-map endpoints scripted_meaning) within)) h

-- a test that fails at a connection tells that it is not ready
pub is_not_ready : (test : MemoryEndpoint → Bool) (endpoints : List MemoryEndpoint) (k : ℕ) (l : MemoryEndpoint) → k < length (map scripted_meaning endpoints) → l ≡ get_or endpoints k l → test l ≡ false → IsNotReady (option_map test (slice_get endpoints k))
is_not_ready test endpoints k l within is fails =
    let inside : k < length endpoints = subst (λ (n : ℕ). k < n) (length-map endpoints scripted_meaning) within in
    subst (λ (o : Option MemoryEndpoint). IsNotReady (option_map test o)) (sym (slice_get-get_or endpoints k l inside ∙ ap Some (sym is))) fails

-- a read or a write that was counted before it was made
pub counted_read : (end : ReadEnd) (l m : MemoryEndpoint) (calls moment : ℕ) → m ≡ record l { calls = calls } → is_failing l ≡ false → EndsRead end false m moment → EndsRead end (is_failing l) l moment
counted_read (ReadEnd.Got n) l m calls moment e fails h = let g = subst (λ (x : MemoryEndpoint). EndsRead (ReadEnd.Got n) false x moment) e h in (fails, g.1)
counted_read ReadEnd.End l m calls moment e fails h = let g = subst (λ (x : MemoryEndpoint). EndsRead ReadEnd.End false x moment) e h in (fails, g.1, g.2)
counted_read ReadEnd.WouldBlock l m calls moment e fails h = let g = subst (λ (x : MemoryEndpoint). EndsRead ReadEnd.WouldBlock false x moment) e h in (fails, g.1, g.2)
counted_read ReadEnd.Failed l m calls moment e fails h = let g = subst (λ (x : MemoryEndpoint). EndsRead ReadEnd.Failed false x moment) e h in absurd (cc)

pub counted_write : (end : WriteEnd) (l m : MemoryEndpoint) (calls count : ℕ) → m ≡ record l { calls = calls } → is_failing l ≡ false → EndsWrite end false m count → EndsWrite end (is_failing l) l count
counted_write (WriteEnd.Took n) l m calls count e fails h = let g = subst (λ (x : MemoryEndpoint). EndsWrite (WriteEnd.Took n) false x count) e h in (fails, g.1)
counted_write WriteEnd.WouldBlock l m calls count e fails h = let g = subst (λ (x : MemoryEndpoint). EndsWrite WriteEnd.WouldBlock false x count) e h in (fails, g.1)
counted_write WriteEnd.Failed l m calls count e fails h = let g = subst (λ (x : MemoryEndpoint). EndsWrite WriteEnd.Failed false x count) e h in absurd (cc)
counted_write WriteEnd.Memory l m calls count e fails h = let g = subst (λ (x : MemoryEndpoint). EndsWrite WriteEnd.Memory false x count) e h in (fails, g.1)
