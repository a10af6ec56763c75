-- What keeps a state sound.
use Rattle.std.proofs.Common.{◌≡◌, refl, ap, ◌∙◌, sym, subst, ℕ, ◌+◌, ◌≤◌, Bool, true, false, List, length, length-append, map, arith}
use Rattle.std.proofs.lemmas.Bool.{and_from, not-true}
use Rattle.std.specs.Prelude.{not, ◌==◌, ◌&&◌, Some, nat_le}
use Rattle.std.specs.List.{list_all}
use Rattle.gv_values.specs.declared.value.Value.{Value}
use Rattle.gv_values.specs.declared.value.Outcome.{Outcome}
use Rattle.trace_text.specs.declared.line.Line.{Line}
use Rattle.machine.specs.declared.items.Delivery.{Delivery}
use Rattle.machine.specs.declared.state.Frame.{Frame}
use Rattle.machine.specs.declared.state.Greenlet.{Greenlet}
use Rattle.machine.specs.declared.state.Object.{Object}
use Rattle.machine.specs.declared.state.Phase.{Phase}
use Rattle.machine.specs.State.{State, say}
use Rattle.machine.specs.Holds.{holds}
use Rattle.machine.specs.Soundness.{phase_of, Claim, ascend, are_single, claim_of, is_live, is_meant, is_sound, is_unclaimed, is_unstarted, same_claim}
use Rattle.machine.specs.Items.{add_item, drop_items, goes_at_end, is_wait_of}
use Rattle.machine.specs.Greenlets.{with_phase, greenlet, add_greenlet}
use Rattle.machine.specs.Ends.{ended}
use Rattle.machine.specs.Objects.{without_member, with_object}
use Rattle.machine.specs.Hosts.{host_within, host_of}
use Rattle.machine.specs.Settle.{settle}
use Rattle.machine.proofs.Soundness.{list_all-settled, sound-settle, sound-drop_items, sound-add_item}
use Rattle.machine_soundness.specs.Going.{is_plain, is_for_plain, has_plain_members, has_no_wait, IsKept, IsGoing}
use Rattle.machine.proofs.Halves.{left, right}
use Rattle.machine_soundness.proofs.Lists.{all-imply, all-imply2, all-end, all-filter, all-set, all-map, length-set, unequal, equal, above}
use Rattle.machine_soundness.proofs.Greenlets.{at, plain-raw, plain-set, raw-set, parent-set, phase-other, live-set, host-same, host-more, plain-more, unstarted-more, live-more, host-append, unstarted-not-live}

-- ---- the parts of soundness

pub ascends : (s : State) → is_sound s ≡ true → ascend 0 s.next_since s.items ≡ true
ascends s h = left _ (are_single s.items) (left _ (list_all (λ i. is_meant s i.delivery) s.items) h)

pub singles : (s : State) → is_sound s ≡ true → are_single s.items ≡ true
singles s h = right (ascend 0 s.next_since s.items) _ (left _ (list_all (λ i. is_meant s i.delivery) s.items) h)

pub meants : (s : State) → is_sound s ≡ true → list_all (λ i. is_meant s i.delivery) s.items ≡ true
meants s h = right (ascend 0 s.next_since s.items && are_single s.items) _ h

pub sound-of : (s : State) → ascend 0 s.next_since s.items ≡ true → are_single s.items ≡ true → list_all (λ i. is_meant s i.delivery) s.items ≡ true → is_sound s ≡ true
sound-of s a b c = and_from _ _ (and_from _ _ a b) c

-- ---- lines, and numbers that are drawn

pub kept-say : (line : Line) (s : State) → IsKept s → IsKept (say line s)
kept-say line s h = record { sound = h.sound; owners = h.owners; members = h.members; main = h.main }

pub kept-timeout : (s : State) → IsKept s → IsKept (record s { timeouts = s.timeouts + 1 })
kept-timeout s h =
    record {
      sound = sound-of (record s { timeouts = s.timeouts + 1 }) (ascends s h.sound) (singles s h.sound) (all-imply _ _ s.items (λ i. more i.delivery) (meants s h.sound));
      owners = h.owners;
      members = h.members;
      main = h.main;
    }
  where
    more : (d : Delivery) → is_meant s d ≡ true → is_meant (record s { timeouts = s.timeouts + 1 }) d ≡ true
    more (Delivery.Timeout g n deadline) k = and_from _ _ (left _ (nat_le n s.timeouts) k) (above n s.timeouts (right (is_live (phase_of g s.greenlets)) _ k))
    more d k = k

pub kept-link : (s : State) → IsKept s → IsKept (record s { links = s.links + 1 })
kept-link s h =
    record {
      sound = sound-of (record s { links = s.links + 1 }) (ascends s h.sound) (singles s h.sound) (all-imply _ _ s.items (λ i. more i.delivery) (meants s h.sound));
      owners = h.owners;
      members = h.members;
      main = h.main;
    }
  where
    more : (d : Delivery) → is_meant s d ≡ true → is_meant (record s { links = s.links + 1 }) d ≡ true
    more (Delivery.Link n g kind f) k = above n s.links k
    more d k = k

-- ---- items

-- what is said of all deliveries is not changed by a settling
pub all-settle : (test : Delivery → Bool) (s : State) → list_all (λ i. test i.delivery) (settle s).items ≡ list_all (λ i. test i.delivery) s.items
all-settle test s = list_all-settled test (map (holds s) s.items) s.next_ready s.items

pub kept-settle : (s : State) → IsKept s → IsKept (settle s)
kept-settle s h = record { sound = sound-settle s ∙ h.sound; owners = all-settle (is_for_plain s.greenlets) s ∙ h.owners; members = h.members; main = h.main }

pub kept-drop : (test : Delivery → Bool) (s : State) → IsKept s → IsKept (drop_items test s)
kept-drop test s h =
    record { sound = sound-drop_items test s h.sound; owners = all-filter _ _ _ s.items (λ i k p. p) h.owners; members = h.members; main = h.main }

pub kept-add : (d : Delivery) (s : State) → is_unclaimed (claim_of d) s.items ≡ true → is_meant s d ≡ true → is_for_plain s.greenlets d ≡ true → IsKept s → IsKept (add_item d s)
kept-add d s u m p h =
    record { sound = sound-add_item d s u m h.sound; owners = all-end _ s.items _ h.owners p; members = h.members; main = h.main }

-- ---- objects

pub kept-objects : (objects : List Object) (s : State) → list_all (has_plain_members s.greenlets) objects ≡ true → IsKept s → IsKept (record s { objects = objects })
kept-objects objects s e h = record { sound = h.sound; owners = h.owners; members = e; main = h.main }

pub kept-object : (o : ℕ) (x : Object) (s : State) → has_plain_members s.greenlets x ≡ true → IsKept s → IsKept (with_object o x s)
kept-object o x s e h = kept-objects _ s (all-set (has_plain_members s.greenlets) s.objects o x e h.members) h

-- ---- greenlets

for-plain-still : (gs fs : List Greenlet) → ((g : ℕ) → is_plain gs g ≡ true → is_plain fs g ≡ true) → (d : Delivery) → is_for_plain gs d ≡ true → is_for_plain fs d ≡ true
for-plain-still gs fs f (Delivery.Start g deadline) h = f g h
for-plain-still gs fs f (Delivery.Wake g w) h = f g h
for-plain-still gs fs f (Delivery.Late g deadline n) h = f g h
for-plain-still gs fs f (Delivery.Timeout g n deadline) h = f g h
for-plain-still gs fs f (Delivery.Kill g kind) h = f g h
for-plain-still gs fs f (Delivery.Link k g kind x) h = h

members-still : (gs fs : List Greenlet) → ((g : ℕ) → is_plain gs g ≡ true → is_plain fs g ≡ true) → (x : Object) → has_plain_members gs x ≡ true → has_plain_members fs x ≡ true
members-still gs fs f (Object.Crew size members) h = all-imply (is_plain gs) (is_plain fs) members f h
members-still gs fs f x h = h

pub kept-greenlets : (fs : List Greenlet) (s : State) → ((g : ℕ) → is_plain s.greenlets g ≡ true → is_plain fs g ≡ true) →
    list_all (λ i. is_meant (record s { greenlets = fs }) i.delivery) s.items ≡ true → IsKept s → IsKept (record s { greenlets = fs })
kept-greenlets fs s f m h =
    record {
      sound = sound-of (record s { greenlets = fs }) (ascends s h.sound) (singles s h.sound) m;
      owners = all-imply _ _ s.items (λ i. for-plain-still s.greenlets fs f i.delivery) h.owners;
      members = all-imply _ _ s.objects (members-still s.greenlets fs f) h.members;
      main = f 0 h.main;
    }

-- one more
pub kept-made : (raw : Bool) (parent f : ℕ) (args : List Value) (s : State) → IsKept s → IsKept (add_greenlet raw parent f args s)
kept-made raw parent f args s h = kept-greenlets (add_greenlet raw parent f args s).greenlets s (plain-more s.greenlets _) (all-imply _ _ s.items (λ i. still i.delivery) (meants s h.sound)) h
  where
    still : (d : Delivery) → is_meant s d ≡ true → is_meant (add_greenlet raw parent f args s) d ≡ true
    still (Delivery.Start g deadline) k = unstarted-more s.greenlets _ g k
    still (Delivery.Wake g w) k = live-more s.greenlets _ g k
    still (Delivery.Late g deadline n) k = live-more s.greenlets _ g k
    still (Delivery.Timeout g n deadline) k = and_from _ _ (live-more s.greenlets _ g (left _ (nat_le n s.timeouts) k)) (right (is_live (phase_of g s.greenlets)) _ k)
    still (Delivery.Kill g kind) k = live-more s.greenlets _ g k
    still (Delivery.Link n g kind x) k = k

-- a change of the phase alone
pub plain-phased : (g : ℕ) (p : Phase) (s : State) (h : ℕ) → is_plain (with_phase g p s).greenlets h ≡ is_plain s.greenlets h
plain-phased g p s h = plain-set s.greenlets g h (record (greenlet g s) { phase = p }) refl

-- one that has no start item comes to be live
pub kept-live : (g : ℕ) (frame : Frame) (s : State) → is_unclaimed (Some (Claim.StartOf g)) s.items ≡ true → IsKept s → IsKept (with_phase g (Phase.Live frame) s)
kept-live g frame s u h =
    kept-greenlets (with_phase g (Phase.Live frame) s).greenlets s (λ k e. plain-phased g (Phase.Live frame) s k ∙ e)
    (all-imply2 _ _ _ s.items (λ i. still i.delivery) (meants s h.sound) u) h
  where
    lives : (k : ℕ) → is_live (phase_of k s.greenlets) ≡ true → is_live (phase_of k (with_phase g (Phase.Live frame) s).greenlets) ≡ true
    lives k e = live-set s.greenlets g k (record (greenlet g s) { phase = Phase.Live frame }) refl e

    still : (d : Delivery) → is_meant s d ≡ true → not (same_claim (Some (Claim.StartOf g)) (claim_of d)) ≡ true → is_meant (with_phase g (Phase.Live frame) s) d ≡ true
    still (Delivery.Start k deadline) e n =
        ap is_unstarted (phase-other s.greenlets g k (record (greenlet g s) { phase = Phase.Live frame }) (unequal g k (not-true (g == k) n))) ∙ e
    still (Delivery.Wake k w) e n = lives k e
    still (Delivery.Late k deadline m) e n = lives k e
    still (Delivery.Timeout k m deadline) e n = and_from _ _ (lives k (left _ (nat_le m s.timeouts) e)) (right (is_live (phase_of k s.greenlets)) _ e)
    still (Delivery.Kill k kind) e n = lives k e
    still (Delivery.Link m k kind x) e n = e

members-without : (gs : List Greenlet) (g : ℕ) (x : Object) → has_plain_members gs x ≡ true → has_plain_members gs (without_member g x) ≡ true
members-without gs g (Object.Crew size members) h = all-filter _ (is_plain gs) (is_plain gs) members (λ m k e. e) h
members-without gs g x h = h

-- one ends
pub kept-ended : (g : ℕ) (o : Outcome) (s : State) → IsKept s → IsKept (ended g o s)
kept-ended g o s h =
    let d = drop_items (goes_at_end g o) (say (Line.End g o) s) in
    let fs = (with_phase g (Phase.Done o) s).greenlets in
    let gone : IsKept (record d { greenlets = fs }) =
    kept-greenlets fs d (λ k e. plain-phased g (Phase.Done o) s k ∙ e) (all-filter _ _ _ s.items (λ i. still i.delivery) (meants s h.sound)) (kept-drop (goes_at_end g o) _ (kept-say (Line.End g o) s h)) in
    kept-settle _ (kept-objects (map (without_member g) s.objects) _ (all-map (without_member g) _ _ s.objects (members-without fs g) gone.members) gone)
  where
    other : (k : ℕ) → not (g == k) ≡ true → phase_of k (with_phase g (Phase.Done o) s).greenlets ≡ phase_of k s.greenlets
    other k e = phase-other s.greenlets g k (record (greenlet g s) { phase = Phase.Done o }) (unequal g k (not-true (g == k) e))

    still : (d : Delivery) → not (goes_at_end g o d) ≡ true → is_meant s d ≡ true → is_meant (with_phase g (Phase.Done o) s) d ≡ true
    still (Delivery.Start k deadline) e m = ap is_unstarted (other k e) ∙ m
    still (Delivery.Wake k w) e m = ap is_live (other k e) ∙ m
    still (Delivery.Late k deadline n) e m = ap is_live (other k e) ∙ m
    still (Delivery.Timeout k n deadline) e m = and_from _ _ (ap is_live (other k e) ∙ left _ (nat_le n s.timeouts) m) (right (is_live (phase_of k s.greenlets)) _ m)
    still (Delivery.Kill k kind) e m = ap is_live (other k e) ∙ m
    still (Delivery.Link n k kind x) e m = m

-- ---- a host that is live and waits for nothing

pub record IsHost (h : ℕ) (s : State) : Type 0 where
  pub plain : is_plain s.greenlets h ≡ true
  pub live : is_live (phase_of h s.greenlets) ≡ true
  pub free : has_no_wait h s.items ≡ true

pub host-say : (line : Line) (h : ℕ) (s : State) → IsHost h s → IsHost h (say line s)
host-say line h s m = record { plain = m.plain; live = m.live; free = m.free }

pub host-settle : (h : ℕ) (s : State) → IsHost h s → IsHost h (settle s)
host-settle h s m = record { plain = m.plain; live = m.live; free = all-settle (λ d. not (is_wait_of h d)) s ∙ m.free }

pub host-drop : (test : Delivery → Bool) (h : ℕ) (s : State) → IsHost h s → IsHost h (drop_items test s)
host-drop test h s m = record { plain = m.plain; live = m.live; free = all-filter _ _ _ s.items (λ i k p. p) m.free }

pub host-add : (d : Delivery) (h : ℕ) (s : State) → not (is_wait_of h d) ≡ true → IsHost h s → IsHost h (add_item d s)
host-add d h s e m = record { plain = m.plain; live = m.live; free = all-end _ s.items _ m.free e }

pub host-made : (raw : Bool) (parent f : ℕ) (args : List Value) (h : ℕ) (s : State) → IsHost h s → IsHost h (add_greenlet raw parent f args s)
host-made raw parent f args h s m = record { plain = plain-more s.greenlets _ h m.plain; live = live-more s.greenlets _ h m.live; free = m.free }

pub host-live : (g : ℕ) (frame : Frame) (h : ℕ) (s : State) → IsHost h s → IsHost h (with_phase g (Phase.Live frame) s)
host-live g frame h s m =
    record {
      plain = plain-phased g (Phase.Live frame) s h ∙ m.plain;
      live = live-set s.greenlets g h (record (greenlet g s) { phase = Phase.Live frame }) refl m.live;
      free = m.free;
    }

pub host-ended : (g : ℕ) (o : Outcome) (h : ℕ) (s : State) → (g ≡ h → ⊥) → IsHost h s → IsHost h (ended g o s)
host-ended g o h s e m =
    let d = drop_items (goes_at_end g o) (say (Line.End g o) s) in
    let t = record d { greenlets = (with_phase g (Phase.Done o) s).greenlets; objects = map (without_member g) s.objects } in
    host-settle h t (record {
      plain = plain-phased g (Phase.Done o) s h ∙ m.plain;
      live = ap is_live (phase-other s.greenlets g h (record (greenlet g s) { phase = Phase.Done o }) e) ∙ m.live;
      free = all-filter _ _ _ s.items (λ i k p. p) m.free;
    })

-- ---- whose host it is

-- the greenlets are the same but for their phases
pub host_of-phased : (n g : ℕ) (p : Phase) (s : State) (k : ℕ) → host_within n (with_phase g p s).greenlets k ≡ host_within n s.greenlets k
host_of-phased n g p s k =
    host-same n s.greenlets _ k (λ h. raw-set s.greenlets g h (record (greenlet g s) { phase = p }) refl) (λ h. parent-set s.greenlets g h (record (greenlet g s) { phase = p }) refl)

pub length-phased : (g : ℕ) (p : Phase) (s : State) → length (with_phase g p s).greenlets ≡ length s.greenlets
length-phased g p s = length-set s.greenlets g _

pub host_of-made : (raw : Bool) (parent f : ℕ) (args : List Value) (s : State) (k h : ℕ) → host_of s k ≡ h → is_plain s.greenlets h ≡ true →
    host_of (add_greenlet raw parent f args s) k ≡ h
host_of-made raw parent f args s k h e p =
    let fs = (add_greenlet raw parent f args s).greenlets in
    let there : is_plain s.greenlets (host_within (length s.greenlets) s.greenlets k) ≡ true = rw (ap (is_plain s.greenlets) e) p in
    let same : host_within (length s.greenlets) fs k ≡ host_within (length s.greenlets) s.greenlets k = host-append (length s.greenlets) s.greenlets _ k there in
    let plain : (at fs (host_within (length s.greenlets) fs k)).raw ≡ false =
    ap (λ z. (at fs z).raw) (same ∙ e) ∙ plain-raw fs h (plain-more s.greenlets _ h p) in
    let longer : length s.greenlets ≤ length fs = simp length-append (omega arith) in
    host-more (length s.greenlets) (length fs) fs k longer plain ∙ same ∙ e

-- ---- a greenlet that moves, with its host

pub record Moves (g h : ℕ) (s : State) : Type 0 where
  pub kept : IsKept s
  pub live : is_live (phase_of g s.greenlets) ≡ true
  pub same : host_of s g ≡ h
  pub host : IsHost h s

pub going : (g h : ℕ) (s : State) → Moves g h s → IsGoing g s
going g h s m =
    record {
      live = m.live;
      host = subst (λ k. is_plain s.greenlets k ≡ true) (sym m.same) m.host.plain;
      host_live = subst (λ k. is_live (phase_of k s.greenlets) ≡ true) (sym m.same) m.host.live;
      free = subst (λ k. has_no_wait k s.items ≡ true) (sym m.same) m.host.free;
    }

pub moving : (g : ℕ) (s : State) → IsKept s → IsGoing g s → Moves g (host_of s g) s
moving g s h i = record { kept = h; live = i.live; same = refl; host = record { plain = i.host; live = i.host_live; free = i.free } }

pub moves-say : (line : Line) (g h : ℕ) (s : State) → Moves g h s → Moves g h (say line s)
moves-say line g h s m = record { kept = kept-say line s m.kept; live = m.live; same = m.same; host = host-say line h s m.host }

pub moves-settle : (g h : ℕ) (s : State) → Moves g h s → Moves g h (settle s)
moves-settle g h s m = record { kept = kept-settle s m.kept; live = m.live; same = m.same; host = host-settle h s m.host }

pub moves-drop : (test : Delivery → Bool) (g h : ℕ) (s : State) → Moves g h s → Moves g h (drop_items test s)
moves-drop test g h s m = record { kept = kept-drop test s m.kept; live = m.live; same = m.same; host = host-drop test h s m.host }

pub moves-add : (d : Delivery) (g h : ℕ) (s : State) → is_unclaimed (claim_of d) s.items ≡ true → is_meant s d ≡ true → is_for_plain s.greenlets d ≡ true →
    not (is_wait_of h d) ≡ true → Moves g h s → Moves g h (add_item d s)
moves-add d g h s u e p n m = record { kept = kept-add d s u e p m.kept; live = m.live; same = m.same; host = host-add d h s n m.host }

pub moves-object : (o : ℕ) (x : Object) (g h : ℕ) (s : State) → has_plain_members s.greenlets x ≡ true → Moves g h s → Moves g h (with_object o x s)
moves-object o x g h s e m =
    record { kept = kept-object o x s e m.kept; live = m.live; same = m.same; host = record { plain = m.host.plain; live = m.host.live; free = m.host.free } }

pub moves-timeout : (g h : ℕ) (s : State) → Moves g h s → Moves g h (record s { timeouts = s.timeouts + 1 })
moves-timeout g h s m =
    record { kept = kept-timeout s m.kept; live = m.live; same = m.same; host = record { plain = m.host.plain; live = m.host.live; free = m.host.free } }

pub moves-link : (g h : ℕ) (s : State) → Moves g h s → Moves g h (record s { links = s.links + 1 })
moves-link g h s m =
    record { kept = kept-link s m.kept; live = m.live; same = m.same; host = record { plain = m.host.plain; live = m.host.live; free = m.host.free } }

pub moves-made : (raw : Bool) (parent f : ℕ) (args : List Value) (g h : ℕ) (s : State) → Moves g h s → Moves g h (add_greenlet raw parent f args s)
moves-made raw parent f args g h s m =
    record {
      kept = kept-made raw parent f args s m.kept;
      live = live-more s.greenlets _ g m.live;
      same = host_of-made raw parent f args s g h m.same m.host.plain;
      host = host-made raw parent f args h s m.host;
    }

-- no start is of one that is live
pub live-unclaimed : (g : ℕ) (s : State) → IsKept s → is_live (phase_of g s.greenlets) ≡ true → is_unclaimed (Some (Claim.StartOf g)) s.items ≡ true
live-unclaimed g s h l = all-imply _ _ s.items (λ i. none i.delivery) (meants s h.sound)
  where
    by : (k : ℕ) (b : Bool) → (g == k) ≡ b → is_unstarted (phase_of k s.greenlets) ≡ true → not b ≡ true
    by k true e m = absurd (unstarted-not-live (phase_of k s.greenlets) m (ap (λ z. is_live (phase_of z s.greenlets)) (sym (equal g k e)) ∙ l))
    by k false e m = refl

    none : (d : Delivery) → is_meant s d ≡ true → not (same_claim (Some (Claim.StartOf g)) (claim_of d)) ≡ true
    none (Delivery.Start k deadline) m = by k (g == k) refl m
    none (Delivery.Wake k w) m = refl
    none (Delivery.Late k deadline n) m = refl
    none (Delivery.Timeout k n deadline) m = refl
    none (Delivery.Kill k kind) m = refl
    none (Delivery.Link n k kind x) m = refl

-- the same greenlet comes to another place of its body
pub moves-live : (g h : ℕ) (frame : Frame) (s : State) → Moves g h s → Moves g h (with_phase g (Phase.Live frame) s)
moves-live g h frame s m =
    record {
      kept = kept-live g frame s (live-unclaimed g s m.kept m.live) m.kept;
      live = live-set s.greenlets g g (record (greenlet g s) { phase = Phase.Live frame }) refl m.live;
      same = ap (λ n. host_within n (with_phase g (Phase.Live frame) s).greenlets g) (length-phased g (Phase.Live frame) s) ∙ host_of-phased (length s.greenlets) g (Phase.Live frame) s g ∙ m.same;
      host = host-live g frame h s m.host;
    }

-- another ends, which is not the host
pub moves-ended : (k : ℕ) (o : Outcome) (g h : ℕ) (s : State) → (k ≡ g → ⊥) → (k ≡ h → ⊥) → Moves g h s → Moves g h (ended k o s)
moves-ended k o g h s e f m =
    let fs = (with_phase k (Phase.Done o) s).greenlets in
    record {
      kept = kept-ended k o s m.kept;
      live = ap is_live (phase-other s.greenlets k g (record (greenlet k s) { phase = Phase.Done o }) e) ∙ m.live;
      same = ap (λ n. host_within n fs g) (length-phased k (Phase.Done o) s) ∙ host_of-phased (length s.greenlets) k (Phase.Done o) s g ∙ m.same;
      host = host-ended k o h s f m.host;
    }
