-- A server from event to event.
use Rattle.std.proofs.Common.{◌≡◌, ◌≢◌, ◌⊎◌, inl, inr, ℕ, ◌+◌, ◌<◌, ◌≤◌, min, Bool, true, false, List, [], ◌∷◌, ◌++◌, length, Option, Some, None, IsSome, refl, sym, ap, ◌∙◌, subst, arith, slice_set, append-nil, append_assoc, length-append}
use Rattle.std.specs.List.{All}
use Rattle.std.proofs.lemmas.List.{length-set, set-get_or, get_or_append_left}
use Rattle.std.proofs.lemmas.Bool.{cases_lt}
use Rattle.std.proofs.lemmas.List.Elements.{All-nil}
use Rattle.std.proofs.Math.Seq.{get_or-append_seam}
use Rattle.stream_net.specs.Net.{Connection, NetMeaning, Changes, IsAtRest, IsFresh, IsLive, connection_at, absent_connection, live_count, closed_at, held_as}
use Rattle.stream_net.specs.declared.net.Quiet.{Quiet}
use Rattle.stream_net.specs.declared.net.Quiet.TheVariants.{Awake, ByRead, ByWrite}
use Rattle.stream_net.specs.Accepts.{Gains, GainsNone}
use Rattle.stream_net.specs.Waits.{TimePasses, named, woken, woken_if}
use Rattle.stream_net.specs.declared.net.Ready.{Ready}
use Rattle.stream_net.specs.declared.net.Ready.TheVariants.{Incoming, Readable, Writable, Elapsed}
use Rattle.stream_server.specs.declared.client.Client.{Client}
use Rattle.stream_server.specs.declared.client.TheConstants.{NEVER}
use Rattle.stream_server.specs.declared.limits.Limits.{Limits}
use Rattle.stream_server.specs.Speeches.{BeginsSaid, IsServed, IsTimely}
use Rattle.stream_server.specs.Serving.{Cause, Closing, Ended, Failing, Idle, Rests, RestsBy}
use Rattle.stream_server.specs.Protocols.{Apps, IsLawful, Protocol, Side, side_of}
use Rattle.stream_server.specs.Steps.{AtARead, AtAWrite, Closes, Fails, Free, HasEnded, Held, IsCalm, IsCut, IsDone, IsGoing, IsOpen, IsOver, IsResting, OnlyAt}
use Rattle.stream_server.specs.Keeping.{EachServed, IsHeldAt, IsKept, IsLeft, IsServing, IsServingBut, IsStill, IsWoken, Keeps, Listing}
use Rattle.wsgi_core.specs.Applications.{App}
use Rattle.stream_net.proofs.Lists.{none_open, everywhere, all_from, at_all, at_other, at_same, set_over, live_kept, live_closed, live_more_one}
use Rattle.stream_server.proofs.Stepping.{changed_at, still_live, timely_after}

not_both : (q : Quiet) → q ≡ Awake → q ≡ ByRead → ⊥
not_both q e f = absurd (cc)

not_awake_write : (q : Quiet) → q ≡ ByWrite → q ≡ Awake → ⊥
not_awake_write q e f = absurd (cc)

never : {A : Type 0} (b : Bool) → b ≡ false → b ≡ true → A
never b f t = absurd (cc)

-- an acceptance adds one
pub gains_length : (v w : NetMeaning) (k : ℕ) → Gains v w k → length w.connections ≡ length v.connections + 1
gains_length v w k x = ap (λ (cs : List Connection). length cs) x.connections ∙ length-append v.connections (x.connection ∷ [])

-- a wait changes nothing of one that is awake
woken_awake : (b : Bool) (c : Connection) → c.quiet ≡ Awake → woken_if b c ≡ c
woken_awake true c e = refl
woken_awake false c e = ap (λ (q : Quiet). record c { quiet = q }) (sym e)

-- a wait takes no connection away
pub named_length : (ready : Ready) (cs : List Connection) → length (named ready cs) ≡ length cs
named_length Incoming cs = refl
named_length (Readable k) cs = length-set cs k (woken_if (connection_at cs k).closed (connection_at cs k))
named_length (Writable k) cs = length-set cs k (woken_if (connection_at cs k).closed (connection_at cs k))
named_length Elapsed cs = refl

pub new_here : (v w : NetMeaning) (k : ℕ) → (x : Gains v w k) → connection_at w.connections k ≡ x.connection
new_here v w k x =
    ap (λ (cs : List Connection). connection_at cs k) x.connections
    ∙ ap (λ (n : ℕ). connection_at (v.connections ++ x.connection ∷ []) n) x.number
    ∙ get_or-append_seam v.connections x.connection [] absent_connection

pub new_live : (v w : NetMeaning) (k : ℕ) → Gains v w k → IsLive w k
new_live v w k x =
    let long : length w.connections ≡ length v.connections + 1 = ap (λ (cs : List Connection). length cs) x.connections ∙ length-append v.connections (x.connection ∷ []) in
    record { accepted = omega (arith, long, x.number); still_open = ap (λ (d : Connection). d.closed) (new_here v w k x) ∙ x.is_new.still_open }

pub keeps_more : (u v w : NetMeaning) (k : ℕ) (change : Connection → Connection) → Keeps u v → Changes v w k change → Keeps u w
keeps_more u v w k change h x = record {
  accepted = ap (λ (cs : List Connection). length cs) x.connections ∙ length-set v.connections k (change (connection_at v.connections k)) ∙ h.accepted;
  listens = x.rest.listens ∙ h.listens;
  faults = x.rest.faults ∙ h.faults;
  blocked = x.rest.blocked ∙ h.blocked;
}

-- one that is still is at rest, and where no talk is held it waits by a read or by a write
pub still_rests : {T : Type 0} (holds : T → Bool) (c : Connection) → IsStill holds c → IsAtRest c
still_rests holds c h still loose = by (h still)
  where
    by : (c.quiet ≢ Awake) ⊎ IsHeldAt holds c → c.quiet ≢ Awake
    by (inl rests) = rests
    by (inr is) = absurd (never c.held loose is.held)

pub still_waits : {T : Type 0} (holds : T → Bool) → ((t : T) → holds t ≡ false) → (c : Connection) → IsStill holds c → Rests c
still_waits holds none c h still = by (h still)
  where
    by : (c.quiet ≢ Awake) ⊎ IsHeldAt holds c → c.quiet ≢ Awake
    by (inl rests) = rests
    by (inr is) = absurd (never (holds is.talk) (none is.talk) is.is_held)

-- ---- one connection

module _ {T : Type 0} (S : Side T) (limits : Limits) (law : IsLawful S) where
  -- what it was sent begins what is said to it
  pub begins : (c : Connection) (g : Client T) → IsOpen S limits.idle c g → BeginsSaid S.said c
  begins c g h =
      let b = law.begun h.fed c.ended h.taken g.talk h.is_at in
      record { fed = h.fed; taken = h.taken; reads = h.reads; writes = h.writes; tail = S.due g.talk ++ b.0; begins = b.1 ∙ append_assoc h.taken (S.due g.talk) b.0 }

  pub served_cut : (c : Connection) → IsCut S.said c → IsServed S.said limits.idle c
  served_cut c h = record { begun = h.begun; cause = λ closed. never c.closed h.still_open closed; calm = λ _ rests. absurd (not_both c.quiet h.awake rests) }

  -- all was taken where nothing is pending and no request waits
  pub all_taken : (c : Connection) (g : Client T) (h : IsOpen S limits.idle c g) → S.due g.talk ≡ [] → S.asks g.talk ≡ false → h.taken ≡ (S.said h.fed c.ended).bytes
  all_taken c g h none quiet = sym (append-nil h.taken) ∙ ap (λ (z : List ℕ). h.taken ++ z) (sym none) ∙ law.all_said h.fed c.ended h.taken g.talk h.is_at quiet

  -- an open one, which rests by a read only while nothing is pending and no request waits
  pub served_open : (c : Connection) (g : Client T) → IsOpen S limits.idle c g → (c.quiet ≡ ByRead → (S.due g.talk ≡ []) × (S.asks g.talk ≡ false)) → IsServed S.said limits.idle c
  served_open c g h none =
      let b = law.begun h.fed c.ended h.taken g.talk h.is_at in
      record {
        begun = record { fed = h.fed; taken = h.taken; reads = h.reads; writes = h.writes; tail = S.due g.talk ++ b.0; begins = b.1 ∙ append_assoc h.taken (S.due g.talk) b.0 };
        cause = λ closed. never c.closed h.still_open closed;
        calm = λ _ rests. let n = none rests in all_taken c g h n.0 n.1;
      }

  calm_none : (c : Connection) (g : Client T) → IsCalm S limits.idle c g → c.quiet ≡ ByRead → (S.due g.talk ≡ []) × (S.asks g.talk ≡ false)
  calm_none c g (Free free (AtAWrite e)) f = absurd (cc)
  calm_none c g (Free free (AtARead e none quiet)) f = (none, quiet)
  calm_none c g (Held held e never_ timely) f = absurd (not_both c.quiet e f)

  pub rests_calm : (c : Connection) (g : Client T) → IsOpen S limits.idle c g → IsCalm S limits.idle c g → IsStill S.holds c
  rests_calm c g h (Free free (AtAWrite e)) still = inl (λ a. not_awake_write c.quiet e a)
  rests_calm c g h (Free free (AtARead e none quiet)) still = inl (λ a. not_both c.quiet a e)
  rests_calm c g h (Held held e never_ timely) still = inr record { held = h.held ∙ held; talk = g.talk; is_held = held }

  -- one that goes on is served
  pub served_going : (c : Connection) (g : Client T) → IsGoing S limits.idle c g → IsServed S.said limits.idle c
  served_going c g h = served_open c g h.is_open (λ rests. absurd (not_both c.quiet h.awake rests))

  -- closed at its end
  pub served_over : (c : Connection) (g : Client T) (moment : ℕ) → IsOver S limits.idle c g → IsServed S.said limits.idle (closed_at moment c)
  served_over c g moment h =
      let b = law.begun o.fed c.ended o.taken g.talk o.is_at in
      record { begun = record { fed = o.fed; taken = o.taken; reads = o.reads; writes = o.writes; tail = S.due g.talk ++ b.0; begins = b.1 ∙ append_assoc o.taken (S.due g.talk) b.0 }; cause = λ _. by h.why; calm = λ still _. never true still refl }
    where
      o : IsOpen S limits.idle c g
      o = h.is_open

      by : IsDone S o.fed c g → Cause (S.said o.fed c.ended) o.taken limits.idle (closed_at moment c)
      by (Closes x none quiet) = Closing x (all_taken c g o none quiet)
      by (HasEnded x none quiet) = Ended x (all_taken c g o none quiet)
      by (Fails x) = Failing x

  -- closed after its idle time
  pub served_idle : (c : Connection) (g : Client T) (moment : ℕ) → (o : IsOpen S limits.idle c g) → IsResting S c g → c.last + limits.idle ≤ moment → IsServed S.said limits.idle (closed_at moment c)
  served_idle c g moment o calm long =
      let b = law.begun o.fed c.ended o.taken g.talk o.is_at in
      record { begun = record { fed = o.fed; taken = o.taken; reads = o.reads; writes = o.writes; tail = S.due g.talk ++ b.0; begins = b.1 ∙ append_assoc o.taken (S.due g.talk) b.0 }; cause = λ _. Idle long (by calm); calm = λ still _. never true still refl }
    where
      P : Quiet → Type 0
      P q = RestsBy q (o.taken ≡ (S.said o.fed c.ended).bytes)

      by : IsResting S c g → P c.quiet
      by (AtAWrite e) = subst P (sym e) tt
      by (AtARead e none quiet) = subst P (sym e) (all_taken c g o none quiet)

  kept_timely : (c : Connection) (g : Client T) → IsCalm S limits.idle c g → S.holds g.talk ≡ true → IsTimely limits.idle c (S.kept g.talk)
  kept_timely c g (Free free rests) held = never (S.holds g.talk) free held
  kept_timely c g (Held held' e never_ timely) held = timely

  held_awake : (c : Connection) (g : Client T) → IsCalm S limits.idle c g → S.holds g.talk ≡ true → c.quiet ≡ Awake
  held_awake c g (Free free rests) held = never (S.holds g.talk) free held
  held_awake c g (Held held' e never_ timely) held = e

  -- one that is held is served
  pub served_calm : (c : Connection) (g : Client T) → IsOpen S limits.idle c g → IsCalm S limits.idle c g → IsServed S.said limits.idle c
  served_calm c g h calm = served_open c g h (calm_none c g calm)

  open_woken : (c : Connection) (g : Client T) → IsOpen S limits.idle c g → IsOpen S limits.idle (woken_if c.closed c) g
  open_woken c g h = subst (λ (b : Bool). IsOpen S limits.idle (woken_if b c) g) (sym h.still_open) record {
    fed = h.fed;
    taken = h.taken;
    reads = h.reads;
    writes = h.writes;
    still_open = h.still_open;
    held = h.held;
    same_end = h.same_end;
    timely = h.timely;
    is_at = h.is_at;
  }

  -- one whose deadline has come isn't held
  pub due_rests : (c : Connection) (g : Client T) (moment : ℕ) → IsCalm S limits.idle c g → g.deadline ≤ moment → moment < NEVER → (S.holds g.talk ≡ false) × IsResting S c g
  due_rests c g moment (Free free rests) has_come short = (free, rests)
  due_rests c g moment (Held held e never_ timely) has_come short = absurd (omega (arith, never_, has_come, short))

  pub new_going : (v w : NetMeaning) (k : ℕ) (talk : T) (moment deadline : ℕ) → (x : Gains v w k) → S.at [] false [] talk → S.holds talk ≡ false → moment ≡ w.moment → deadline ≡ min (moment + limits.idle) NEVER
      → IsGoing S limits.idle (connection_at w.connections k) record { conn = k; talk = talk; ended = false; deadline = deadline }
  new_going v w k talk moment deadline x begins free now last =
      let client : Client T = record { conn = k; talk = talk; ended = false; deadline = deadline } in
      let e : deadline ≡ min (x.connection.last + limits.idle) NEVER = last ∙ ap (λ (m : ℕ). min (m + limits.idle) NEVER) (now ∙ sym x.is_new.last_is) in
      subst (λ (d : Connection). IsGoing S limits.idle d client) (sym (new_here v w k x)) record {
        is_open = record {
          fed = [];
          taken = [];
          reads = x.is_new.none_read;
          writes = x.is_new.none_written;
          still_open = x.is_new.still_open;
          held = x.is_new.free ∙ sym free;
          same_end = sym x.is_new.goes_on;
          timely = timely_after x.connection.last limits.idle deadline e;
          is_at = subst (λ (b : Bool). S.at [] b [] talk) (sym x.is_new.goes_on) begins;
        };
        awake = x.is_new.awake;
      }

-- ---- all connections, each with the application that answers it

module _ {T : Type 0} (P : Protocol T) (law : (app : App) (port : ℕ) → IsLawful (side_of P app port)) (port : ℕ) (limits : Limits) (apps : Apps) where
  -- the side of a connection
  abbrev S : ℕ → Side T
  S k = side_of P (apps k) port

  lawful_at : (k : ℕ) → IsLawful (S k)
  lawful_at k = law (apps k) port

  -- ---- all but one

  -- what goes over that one is nothing to the others
  pub but_after : (v w : NetMeaning) (listed : Listing T) (count room k : ℕ) → IsServingBut P apps port limits v listed count room k → k < length v.connections → OnlyAt v w k
      → IsServingBut P apps port limits w listed count room k
  but_after v w listed count room k h within only = record {
    served = λ j other in'. subst (IsServed (S j).said limits.idle) (sym (elsewhere j other)) (h.served j other (omega (arith, long, in')));
    resting = λ j other in'. subst (IsStill P.holds) (sym (elsewhere j other)) (h.resting j other (omega (arith, long, in')));
    kept = λ j slot other row. kept_at j slot other (h.kept j slot other row);
    only = h.only;
    live = ap (λ (cs : List Connection). live_count cs) only.connections ∙ live_kept v.connections k (connection_at w.connections k) within only.same_closed ∙ h.live;
    few = h.few;
    most = subst (λ (n : ℕ). n ≤ limits.pool) (sym only.rest.most) h.most;
    listens = subst IsSome (sym only.rest.listens) h.listens;
    room_is = h.room_is;
    within = omega (arith, long, h.within);
  }
    where
      long : length w.connections ≡ length v.connections
      long = ap (λ (cs : List Connection). length cs) only.connections ∙ length-set v.connections k (connection_at w.connections k)

      elsewhere : (j : ℕ) → j ≢ k → connection_at w.connections j ≡ connection_at v.connections j
      elsewhere j other = ap (λ (cs : List Connection). connection_at cs j) only.connections ∙ at_other v.connections k j (connection_at w.connections k) other

      kept_at : (j : ℕ) (slot : Option (Client T)) → j ≢ k → IsKept (S j) limits.idle v.connections j slot → IsKept (S j) limits.idle w.connections j slot
      kept_at j None other f = λ in'. ap (λ (c : Connection). c.closed) (elsewhere j other) ∙ f (omega (arith, long, in'))
      kept_at j (Some g) other f = (omega (arith, long, f.0), subst (λ c. IsOpen (S j) limits.idle c g) (sym (elsewhere j other)) f.1, subst (λ c. IsCalm (S j) limits.idle c g) (sym (elsewhere j other)) f.2)

  -- its client is listed
  pub but_listed : (v : NetMeaning) (listed now : Listing T) (count room k : ℕ) (g : Client T) → IsServingBut P apps port limits v listed count room k → k < length v.connections
      → IsOpen (S k) limits.idle (connection_at v.connections k) g → IsCalm (S k) limits.idle (connection_at v.connections k) g
      → ((s : Option (Client T)) → now k s → s ≡ Some g) → ((j : ℕ) (s : Option (Client T)) → j ≢ k → now j s → listed j s)
      → IsServing P apps port limits v now (count + 1) room
  but_listed v listed now count room k g h within is_open calm here others = record {
    served = everywhere k (λ j. j < length v.connections → IsServed (S j).said limits.idle (connection_at v.connections j)) (λ _. served_calm (S k) limits (lawful_at k) (connection_at v.connections k) g is_open calm) h.served;
    resting = all_from (IsStill P.holds) v.connections (everywhere k (λ j. j < length v.connections → IsStill P.holds (connection_at v.connections j)) (λ _. rests_calm (S k) limits (lawful_at k) (connection_at v.connections k) g is_open calm) h.resting);
    kept = everywhere k (λ j. (slot : Option (Client T)) → now j slot → IsKept (S j) limits.idle v.connections j slot)
        (λ slot row. subst (IsKept (S k) limits.idle v.connections k) (sym (here slot row)) (within, is_open, calm))
        (λ j other slot row. h.kept j slot other (others j slot other row));
    live = h.live;
    few = h.few;
    most = h.most;
    listens = h.listens;
    room_is = h.room_is;
    within = h.within;
  }

  -- it is closed
  pub but_closed : (v w : NetMeaning) (listed : Listing T) (count room k : ℕ) → IsServingBut P apps port limits v listed count room k → IsLive v k
      → Changes v w k (closed_at w.moment) → IsServed (S k).said limits.idle (closed_at w.moment (connection_at v.connections k))
      → IsServing P apps port limits w listed count room
  but_closed v w listed count room k h live closes served = record {
    served = everywhere k (λ j. j < length w.connections → IsServed (S j).said limits.idle (connection_at w.connections j))
        (λ _. subst (IsServed (S k).said limits.idle) (sym here) served)
        (λ j other in'. subst (IsServed (S j).said limits.idle) (sym (elsewhere j other)) (h.served j other (omega (arith, long, in'))));
    resting = all_from (IsStill P.holds) w.connections (everywhere k (λ j. j < length w.connections → IsStill P.holds (connection_at w.connections j))
        (λ _. subst (IsStill P.holds) (sym here) (λ still. never true still refl))
        (λ j other in'. subst (IsStill P.holds) (sym (elsewhere j other)) (h.resting j other (omega (arith, long, in')))));
    kept = everywhere k (λ j. (slot : Option (Client T)) → listed j slot → IsKept (S j) limits.idle w.connections j slot)
        (λ slot row. subst (IsKept (S k) limits.idle w.connections k) (sym (h.only slot row)) (λ _. ap (λ (c : Connection). c.closed) here))
        (λ j other slot row. kept_at j slot other (h.kept j slot other row));
    live = omega (arith, h.live, ap (λ (cs : List Connection). live_count cs) closes.connections, live_closed v.connections k (closed_at w.moment (connection_at v.connections k)) live.accepted live.still_open refl);
    few = omega (arith, h.few);
    most = subst (λ (n : ℕ). n ≤ limits.pool) (sym closes.rest.most) h.most;
    listens = subst IsSome (sym closes.rest.listens) h.listens;
    room_is = h.room_is;
    within = omega (arith, long, h.within);
  }
    where
      long : length w.connections ≡ length v.connections
      long = ap (λ (cs : List Connection). length cs) closes.connections ∙ length-set v.connections k (closed_at w.moment (connection_at v.connections k))

      here : connection_at w.connections k ≡ closed_at w.moment (connection_at v.connections k)
      here = changed_at v w k (closed_at w.moment) closes live.accepted

      elsewhere : (j : ℕ) → j ≢ k → connection_at w.connections j ≡ connection_at v.connections j
      elsewhere j other = ap (λ (cs : List Connection). connection_at cs j) closes.connections ∙ at_other v.connections k j (closed_at w.moment (connection_at v.connections k)) other

      kept_at : (j : ℕ) (slot : Option (Client T)) → j ≢ k → IsKept (S j) limits.idle v.connections j slot → IsKept (S j) limits.idle w.connections j slot
      kept_at j None other f = λ in'. ap (λ (c : Connection). c.closed) (elsewhere j other) ∙ f (omega (arith, long, in'))
      kept_at j (Some g) other f = (omega (arith, long, f.0), subst (λ c. IsOpen (S j) limits.idle c g) (sym (elsewhere j other)) f.1, subst (λ c. IsCalm (S j) limits.idle c g) (sym (elsewhere j other)) f.2)

  -- memory ran out at it
  pub but_cut : (v : NetMeaning) (listed : Listing T) (count room k : ℕ) → IsServingBut P apps port limits v listed count room k
      → IsServed (S k).said limits.idle (connection_at v.connections k) → IsLeft P apps port limits v
  but_cut v listed count room k h served = record {
    served = everywhere k (λ j. j < length v.connections → IsServed (S j).said limits.idle (connection_at v.connections j)) (λ _. served) h.served;
    rest = record { one = k; others = h.resting };
    most = h.most;
    within = h.within;
  }

  pub serving_left : (v : NetMeaning) (listed : Listing T) (count room : ℕ) → IsServing P apps port limits v listed count room → IsLeft P apps port limits v
  serving_left v listed count room h = record {
    served = h.served;
    rest = record { one = length v.connections; others = λ j _ in'. at_all (IsStill P.holds) v.connections h.resting j in' };
    most = h.most;
    within = h.within;
  }

  -- ---- a client that isn't listed

  pub client_waits : (v w : NetMeaning) (listed now : Listing T) (count total room room' k j : ℕ) (g : Client T) → IsServingBut P apps port limits v listed count room k → IsLive v k → OnlyAt v w k
      → (IsOpen (S k) limits.idle (connection_at w.connections k) g × IsCalm (S k) limits.idle (connection_at w.connections k) g) → j ≡ k → total ≡ count + 1 → room' ≡ room
      → ((s : Option (Client T)) → now j s → s ≡ Some g) → ((i : ℕ) (s : Option (Client T)) → i ≢ j → now i s → listed i s)
      → IsServing P apps port limits w now total room'
  client_waits v w listed now count total room room' k j g h live only rests same counts limit here others =
      let long : length w.connections ≡ length v.connections = ap (λ (cs : List Connection). length cs) only.connections ∙ length-set v.connections k (connection_at w.connections k) in
      let at_w = but_after v w listed count room k h live.accepted only in
      let done = but_listed w listed now count room k g at_w (omega (arith, long, live.accepted)) rests.0 rests.1
      (subst (λ (n : ℕ). (s : Option (Client T)) → now n s → s ≡ Some g) same here)
      (subst (λ (n : ℕ). (i : ℕ) (s : Option (Client T)) → i ≢ n → now i s → listed i s) same others) in
      subst (λ (n : ℕ). IsServing P apps port limits w now total n) (sym limit) (subst (λ (n : ℕ). IsServing P apps port limits w now n room) (sym counts) done)

  pub client_over : (u v w : NetMeaning) (listed : Listing T) (count room k : ℕ) (g : Client T) → IsServingBut P apps port limits u listed count room k → IsLive u k → OnlyAt u v k
      → IsOver (S k) limits.idle (connection_at v.connections k) g → Changes v w k (closed_at w.moment)
      → IsServing P apps port limits w listed count room
  client_over u v w listed count room k g h live only over closes =
      but_closed v w listed count room k (but_after u v listed count room k h live.accepted only) (still_live u v k only live) closes (served_over (S k) limits (lawful_at k) (connection_at v.connections k) g w.moment over)

  pub client_cut : (v w : NetMeaning) (listed : Listing T) (count room k : ℕ) → IsServingBut P apps port limits v listed count room k → IsLive v k → OnlyAt v w k
      → IsCut (S k).said (connection_at w.connections k) → IsLeft P apps port limits w
  client_cut v w listed count room k h live only cut =
      but_cut w listed count room k (but_after v w listed count room k h live.accepted only) (served_cut (S k) limits (lawful_at k) (connection_at w.connections k) cut)

  -- ---- a client is taken out

  pub but_taken : (v : NetMeaning) (listed now : Listing T) (count left room room' k : ℕ) → IsServing P apps port limits v listed count room → left + 1 ≡ count → room' ≡ room
      → ((s : Option (Client T)) → now k s → s ≡ None) → ((j : ℕ) (s : Option (Client T)) → j ≢ k → now j s → listed j s)
      → IsServingBut P apps port limits v now left room' k
  but_taken v listed now count left room room' k h counts limit only others = record {
    served = λ j _ in'. h.served j in';
    resting = λ j _ in'. at_all (IsStill P.holds) v.connections h.resting j in';
    kept = λ j slot other row. h.kept j slot (others j slot other row);
    only = only;
    live = h.live ∙ sym counts;
    few = omega (arith, h.few, counts);
    most = h.most;
    listens = h.listens;
    room_is = limit ∙ h.room_is;
    within = h.within;
  }

  -- ---- held and released

  -- its connection is held for a job
  pub client_held : (u v w : NetMeaning) (listed now : Listing T) (count total room room' k : ℕ) (g h : Client T) → IsServingBut P apps port limits u listed count room k → IsLive u k → OnlyAt u v k
      → IsGoing (S k) limits.idle (connection_at v.connections k) g → Changes v w k (held_as true) → h.ended ≡ g.ended → h.deadline ≡ NEVER → P.holds h.talk ≡ true → P.kept h.talk ≡ g.deadline
      → ((fed : List ℕ) (ended : Bool) (taken : List ℕ) → (S k).at fed ended taken g.talk → (S k).at fed ended taken h.talk) → total ≡ count + 1 → room' ≡ room
      → ((s : Option (Client T)) → now k s → s ≡ Some h) → ((i : ℕ) (s : Option (Client T)) → i ≢ k → now i s → listed i s)
      → IsServing P apps port limits w now total room'
  client_held u v w listed now count total room room' k g h but live only going holds ended deadline held kept same counts limit here others =
      let o = going.is_open in
      let c = connection_at v.connections k in
      let long_v : length v.connections ≡ length u.connections = ap (λ (cs : List Connection). length cs) only.connections ∙ length-set u.connections k (connection_at v.connections k) in
      let within_v : k < length v.connections = omega (arith, long_v, live.accepted) in
      let at_k : connection_at w.connections k ≡ held_as true c = changed_at v w k (held_as true) holds within_v in
      let only_w : OnlyAt v w k = record {
        connections = holds.connections ∙ ap (λ (d : Connection). slice_set v.connections k d) (sym at_k);
        same_closed = ap (λ (d : Connection). d.closed) at_k;
        rest = holds.rest;
      } in
      let long_w : length w.connections ≡ length v.connections = ap (λ (cs : List Connection). length cs) only_w.connections ∙ length-set v.connections k (connection_at w.connections k) in
      let is_open : IsOpen (S k) limits.idle (held_as true c) h = record {
        fed = o.fed;
        taken = o.taken;
        reads = o.reads;
        writes = o.writes;
        still_open = o.still_open;
        held = sym held;
        same_end = ended ∙ o.same_end;
        timely = λ short. absurd (omega (arith, short, deadline));
        is_at = same o.fed c.ended o.taken o.is_at;
      } in
      let calm : IsCalm (S k) limits.idle (held_as true c) h = Held held going.awake deadline (λ short. let e = o.timely (omega (arith, kept, short)) in omega (arith, e, kept)) in
      let but_w = but_after v w listed count room k (but_after u v listed count room k but live.accepted only) within_v only_w in
      let done = but_listed w listed now count room k h but_w (omega (arith, long_w, within_v)) (subst (λ (d : Connection). IsOpen (S k) limits.idle d h) (sym at_k) is_open) (subst (λ (d : Connection). IsCalm (S k) limits.idle d h) (sym at_k) calm) here others in
      subst (λ (n : ℕ). IsServing P apps port limits w now total n) (sym limit) (subst (λ (n : ℕ). IsServing P apps port limits w now n room) (sym counts) done)

  -- it is released, and goes on
  pub client_released : (v w : NetMeaning) (listed : Listing T) (count room k : ℕ) (g h : Client T) → IsServingBut P apps port limits v listed count room k → IsLive v k
      → IsOpen (S k) limits.idle (connection_at v.connections k) g → IsCalm (S k) limits.idle (connection_at v.connections k) g → Changes v w k (held_as false)
      → h.ended ≡ g.ended → P.holds g.talk ≡ true → P.kept g.talk ≤ h.deadline → P.holds h.talk ≡ false
      → ((fed : List ℕ) (ended : Bool) (taken : List ℕ) → (S k).at fed ended taken g.talk → (S k).at fed ended taken h.talk)
      → IsServingBut P apps port limits w listed count room k × IsLive w k × IsGoing (S k) limits.idle (connection_at w.connections k) h
  client_released v w listed count room k g h but live o calm frees ended held later free same =
      let c = connection_at v.connections k in
      let at_k : connection_at w.connections k ≡ held_as false c = changed_at v w k (held_as false) frees live.accepted in
      let only_w : OnlyAt v w k = record {
        connections = frees.connections ∙ ap (λ (d : Connection). slice_set v.connections k d) (sym at_k);
        same_closed = ap (λ (d : Connection). d.closed) at_k;
        rest = frees.rest;
      } in
      let going : IsGoing (S k) limits.idle (held_as false c) h = record {
        is_open = record {
          fed = o.fed;
          taken = o.taken;
          reads = o.reads;
          writes = o.writes;
          still_open = o.still_open;
          held = sym free;
          same_end = ended ∙ o.same_end;
          timely = λ short. let e = kept_timely (S k) limits (lawful_at k) c g calm held (omega (arith, later, short)) in omega (arith, e, later);
          is_at = same o.fed c.ended o.taken o.is_at;
        };
        awake = refl;
      } in
      (but_after v w listed count room k but live.accepted only_w, still_live v w k only_w live, subst (λ (d : Connection). IsGoing (S k) limits.idle d h) (sym at_k) going)

  -- ---- a wait

  serving_kept : (v w : NetMeaning) (listed : Listing T) (count room : ℕ) → IsServing P apps port limits v listed count room → w.connections ≡ v.connections → w.most ≡ v.most → w.listens ≡ v.listens
      → IsServing P apps port limits w listed count room
  serving_kept v w listed count room h same most listens = record {
    served = subst (EachServed P apps port limits.idle) (sym same) h.served;
    resting = subst (All (IsStill P.holds)) (sym same) h.resting;
    kept = λ k slot row. subst (λ (cs : List Connection). IsKept (S k) limits.idle cs k slot) (sym same) (h.kept k slot row);
    live = ap (λ (cs : List Connection). live_count cs) same ∙ h.live;
    few = h.few;
    most = subst (λ (n : ℕ). n ≤ limits.pool) (sym most) h.most;
    listens = subst IsSome (sym listens) h.listens;
    room_is = h.room_is;
    within = subst (λ (cs : List Connection). length cs ≤ limits.conns) (sym same) h.within;
  }

  pub serving_after : (v w : NetMeaning) (listed : Listing T) (count room : ℕ) → IsServing P apps port limits v listed count room → TimePasses v w → w.connections ≡ v.connections
      → IsServing P apps port limits w listed count room
  serving_after v w listed count room h passes same = serving_kept v w listed count room h same passes.most passes.listens

  -- nobody was found under the name: it is of no live connection
  pub unknown_named : (w : NetMeaning) (listed : Listing T) (count room k : ℕ) → IsWoken P apps port limits w listed count room k → listed k None
      → IsServing P apps port limits w listed count room
  unknown_named w listed count room k r row = serving_after v w listed count room r.serving r.passes (r.named ∙ by (cases_lt k (length v.connections)))
    where
      v : NetMeaning
      v = r.before

      by : (k < length v.connections) ⊎ (length v.connections ≤ k) → woken k v.connections ≡ v.connections
      by (inr past) = set_over v.connections k (woken_if (connection_at v.connections k).closed (connection_at v.connections k)) past
      by (inl in') =
          let closed : (connection_at v.connections k).closed ≡ true = r.serving.kept k None row in' in
          ap (λ (b : Bool). slice_set v.connections k (woken_if b (connection_at v.connections k))) closed ∙ set-get_or v.connections k absent_connection

  -- the client that was named is held
  pub held_named : (w : NetMeaning) (listed : Listing T) (count room k : ℕ) (g : Client T) → IsWoken P apps port limits w listed count room k → listed k (Some g) → P.holds g.talk ≡ true
      → IsServing P apps port limits w listed count room
  held_named w listed count room k g r row held =
      let v = r.before in
      let c = connection_at v.connections k in
      let awake : c.quiet ≡ Awake = held_awake (S k) limits (lawful_at k) c g (r.serving.kept k (Some g) row).2 held in
      serving_after v w listed count room r.serving r.passes
      (r.named ∙ ap (λ (d : Connection). slice_set v.connections k d) (woken_awake c.closed c awake) ∙ set-get_or v.connections k absent_connection)

  -- its client was found
  pub known_named : (w : NetMeaning) (listed now : Listing T) (count left room room' k : ℕ) (g : Client T) → IsWoken P apps port limits w listed count room k → listed k (Some g)
      → left + 1 ≡ count → room' ≡ room → ((s : Option (Client T)) → now k s → s ≡ None) → ((j : ℕ) (s : Option (Client T)) → j ≢ k → now j s → listed j s)
      → IsServingBut P apps port limits w now left room' k × IsLive w k × IsGoing (S k) limits.idle (connection_at w.connections k) g
  known_named w listed now count left room room' k g r row counts limit only others = (all, live, record { is_open = is_open; awake = awake })
    where
      v : NetMeaning
      v = r.before

      was : IsKept (S k) limits.idle v.connections k (Some g)
      was = r.serving.kept k (Some g) row

      c : Connection
      c = connection_at v.connections k

      here : connection_at w.connections k ≡ woken_if c.closed c
      here = ap (λ (cs : List Connection). connection_at cs k) r.named ∙ at_same v.connections k (woken_if c.closed c) was.0

      is_open : IsOpen (S k) limits.idle (connection_at w.connections k) g
      is_open = subst (λ (d : Connection). IsOpen (S k) limits.idle d g) (sym here) (open_woken (S k) limits (lawful_at k) c g was.1)

      awake : (connection_at w.connections k).quiet ≡ Awake
      awake = ap (λ (d : Connection). d.quiet) here ∙ ap (λ (b : Bool). (woken_if b c).quiet) was.1.still_open

      long : length w.connections ≡ length v.connections
      long = ap (λ (cs : List Connection). length cs) r.named ∙ length-set v.connections k (woken_if c.closed c)

      live : IsLive w k
      live = record { accepted = omega (arith, long, was.0); still_open = is_open.still_open }

      elsewhere : (j : ℕ) → j ≢ k → connection_at w.connections j ≡ connection_at v.connections j
      elsewhere j other = ap (λ (cs : List Connection). connection_at cs j) r.named ∙ at_other v.connections k j (woken_if c.closed c) other

      kept_at : (j : ℕ) (slot : Option (Client T)) → j ≢ k → IsKept (S j) limits.idle v.connections j slot → IsKept (S j) limits.idle w.connections j slot
      kept_at j None other f = λ in'. ap (λ (d : Connection). d.closed) (elsewhere j other) ∙ f (omega (arith, long, in'))
      kept_at j (Some x) other f = (omega (arith, long, f.0), subst (λ d. IsOpen (S j) limits.idle d x) (sym (elsewhere j other)) f.1, subst (λ d. IsCalm (S j) limits.idle d x) (sym (elsewhere j other)) f.2)

      but : IsServingBut P apps port limits v now left room' k
      but = but_taken v listed now count left room room' k r.serving counts limit only others

      same_closed : (woken_if c.closed c).closed ≡ c.closed
      same_closed = ap (λ (d : Connection). d.closed) (sym here) ∙ (is_open.still_open ∙ sym was.1.still_open)

      all : IsServingBut P apps port limits w now left room' k
      all = record {
        served = λ j other in'. subst (IsServed (S j).said limits.idle) (sym (elsewhere j other)) (but.served j other (omega (arith, long, in')));
        resting = λ j other in'. subst (IsStill P.holds) (sym (elsewhere j other)) (but.resting j other (omega (arith, long, in')));
        kept = λ j slot other row. kept_at j slot other (but.kept j slot other row);
        only = but.only;
        live = ap (λ (cs : List Connection). live_count cs) r.named ∙ live_kept v.connections k (woken_if c.closed c) was.0 same_closed ∙ but.live;
        few = but.few;
        most = subst (λ (n : ℕ). n ≤ limits.pool) (sym r.passes.most) but.most;
        listens = subst IsSome (sym r.passes.listens) but.listens;
        room_is = but.room_is;
        within = omega (arith, long, but.within);
      }

  -- ---- a new connection

  pub new_but : (v w : NetMeaning) (listed : Listing T) (count room k : ℕ) → IsServing P apps port limits v listed count room → Gains v w k → count < room → length v.connections < limits.conns
      → IsServingBut P apps port limits w listed count room k
  new_but v w listed count room k h x place more = record {
    served = λ j other in'. subst (IsServed (S j).said limits.idle) (sym (elsewhere j (before j other in'))) (h.served j (before j other in'));
    resting = λ j other in'. subst (IsStill P.holds) (sym (elsewhere j (before j other in'))) (at_all (IsStill P.holds) v.connections h.resting j (before j other in'));
    kept = λ j slot other row. kept_at j slot other (h.kept j slot row);
    only = λ slot row. nobody_at slot (h.kept k slot row);
    live = lives;
    few = omega (arith, place, h.room_is);
    most = omega (arith, x.most, h.most, lives, place, h.room_is);
    listens = subst IsSome (sym x.listens) h.listens;
    room_is = h.room_is;
    within = omega (arith, long, more);
  }
    where
      long : length w.connections ≡ length v.connections + 1
      long = ap (λ (cs : List Connection). length cs) x.connections ∙ length-append v.connections (x.connection ∷ [])

      lives : live_count w.connections ≡ count + 1
      lives = ap (λ (cs : List Connection). live_count cs) x.connections ∙ live_more_one v.connections x.connection x.is_new.still_open ∙ ap (λ (n : ℕ). n + 1) h.live

      before : (j : ℕ) → j ≢ k → j < length w.connections → j < length v.connections
      before j other in' = by (cases_lt j (length v.connections))
        where
          by : (j < length v.connections) ⊎ (length v.connections ≤ j) → j < length v.connections
          by (inl y) = y
          by (inr y) = let e : j ≡ length v.connections = omega (arith, y, in', long) in absurd (other (e ∙ sym x.number))

      elsewhere : (j : ℕ) → j < length v.connections → connection_at w.connections j ≡ connection_at v.connections j
      elsewhere j in' = ap (λ (cs : List Connection). connection_at cs j) x.connections ∙ get_or_append_left v.connections (x.connection ∷ []) absent_connection j in'

      kept_at : (j : ℕ) (slot : Option (Client T)) → j ≢ k → IsKept (S j) limits.idle v.connections j slot → IsKept (S j) limits.idle w.connections j slot
      kept_at j None other f = λ in'. ap (λ (d : Connection). d.closed) (elsewhere j (before j other in')) ∙ f (before j other in')
      kept_at j (Some g) other f = (omega (arith, long, f.0), subst (λ d. IsOpen (S j) limits.idle d g) (sym (elsewhere j f.0)) f.1, subst (λ d. IsCalm (S j) limits.idle d g) (sym (elsewhere j f.0)) f.2)

      nobody_at : (slot : Option (Client T)) → IsKept (S k) limits.idle v.connections k slot → slot ≡ None
      nobody_at None f = refl
      nobody_at (Some g) f = let y = f.0 in absurd (omega (arith, y, x.number))

  -- there was no memory to admit it
  pub new_left : (v w : NetMeaning) (listed : Listing T) (count room k : ℕ) (g : Client T) → IsServing P apps port limits v listed count room → Gains v w k → count < room → length v.connections < limits.conns
      → IsGoing (S k) limits.idle (connection_at w.connections k) g → IsLeft P apps port limits w
  new_left v w listed count room k g h x place more going =
      but_cut w listed count room k (new_but v w listed count room k h x place more) (served_going (S k) limits (lawful_at k) (connection_at w.connections k) g going)

  pub none_new : (v w : NetMeaning) (listed : Listing T) (count room : ℕ) (blocked : Bool) → IsServing P apps port limits v listed count room → GainsNone v w blocked
      → IsServing P apps port limits w listed count room
  none_new v w listed count room blocked h x = serving_kept v w listed count room h x.connections x.most x.listens

  -- ---- idle connections

  pub idle_closed : (v w : NetMeaning) (listed now : Listing T) (count left room room' k moment : ℕ) (g : Client T) → IsServing P apps port limits v listed count room → listed k (Some g)
      → left + 1 ≡ count → room' ≡ room → ((s : Option (Client T)) → now k s → s ≡ None) → ((j : ℕ) (s : Option (Client T)) → j ≢ k → now j s → listed j s)
      → Changes v w k (closed_at w.moment) → g.deadline ≤ moment → moment < NEVER → moment ≤ v.moment
      → IsServing P apps port limits w now left room'
  idle_closed v w listed now count left room room' k moment g h row counts limit only others closes has_come short past =
      let was = h.kept k (Some g) row in
      let c = connection_at v.connections k in
      let long : c.last + limits.idle ≤ g.deadline = was.1.timely (omega (arith, has_come, short)) in
      let rises = closes.rest.moment in
      but_closed v w now left room' k (but_taken v listed now count left room room' k h counts limit only others) record { accepted = was.0; still_open = was.1.still_open } closes
      (served_idle (S k) limits (lawful_at k) c g w.moment was.1 (due_rests (S k) limits (lawful_at k) c g moment was.2 has_come short).1 (omega (arith, long, has_come, past, rises)))

  -- ---- the end

  pub all_closed : (v : NetMeaning) (listed : Listing T) (count room : ℕ) → IsServing P apps port limits v listed count room → count ≡ 0 → All (λ (c : Connection). c.closed ≡ true) v.connections
  all_closed v listed count room h none = all_from (λ c. c.closed ≡ true) v.connections (λ j in'. none_open v.connections j in' (h.live ∙ none))

  pub nothing_yet : (v : NetMeaning) (listed : Listing T) (count room : ℕ) → IsFresh v → IsSome v.listens → count ≡ 0 → room ≡ limits.pool → ((k : ℕ) (g : Client T) → listed k (Some g) → ⊥)
      → IsServing P apps port limits v listed count room
  nothing_yet v listed count room fresh listens none limit nobody' = record {
    served = λ k in'. absurd (omega (arith, in', ap (λ (cs : List Connection). length cs) fresh.none));
    resting = subst (All (IsStill P.holds)) (sym fresh.none) (All-nil (IsStill P.holds));
    kept = λ k slot row. by k slot row;
    live = ap (λ (cs : List Connection). live_count cs) fresh.none ∙ sym none;
    few = omega (arith, none);
    most = omega (arith, fresh.none_live);
    listens = listens;
    room_is = limit;
    within = subst (λ (cs : List Connection). length cs ≤ limits.conns) (sym fresh.none) (omega arith);
  }
    where
      by : (k : ℕ) (slot : Option (Client T)) → listed k slot → IsKept (S k) limits.idle v.connections k slot
      by k None row = λ in'. absurd (omega (arith, in', ap (λ (cs : List Connection). length cs) fresh.none))
      by k (Some g) row = absurd (nobody' k g row)

  pub known_at : (w : NetMeaning) (listed now : Listing T) (count left room room' k j : ℕ) (g : Client T) → IsWoken P apps port limits w listed count room k → j ≡ k → listed k (Some g)
      → left + 1 ≡ count → room' ≡ room → ((s : Option (Client T)) → now k s → s ≡ None) → ((i : ℕ) (s : Option (Client T)) → i ≢ k → now i s → listed i s)
      → IsServingBut P apps port limits w now left room' j × IsLive w j × IsGoing (S j) limits.idle (connection_at w.connections j) g
  known_at w listed now count left room room' k j g r same row counts limit only others =
      subst (λ (n : ℕ). IsServingBut P apps port limits w now left room' n × IsLive w n × IsGoing (S n) limits.idle (connection_at w.connections n) g) (sym same)
      (known_named w listed now count left room room' k g r row counts limit only others)
