-- That what a greenlet under way makes is new.
use Rattle.std.proofs.Common.{◌≡◌, refl, sym, subst, ℕ, ◌+◌, Bool, true, false, List, [], ◌∷◌, Some, length}
use Rattle.std.specs.Prelude.{not}
use Rattle.gv_values.specs.declared.value.Value.{Value}
use Rattle.gv_values.specs.declared.fault.FaultKind.{FaultKind}
use Rattle.trace_text.specs.declared.line.Line.{Line}
use Rattle.machine.specs.declared.items.Delivery.{Delivery}
use Rattle.machine.specs.declared.items.Waiting.{Waiting}
use Rattle.machine.specs.State.{State, say}
use Rattle.machine.specs.Greenlets.{add_greenlet, greenlet}
use Rattle.machine.specs.Items.{add_item, is_start_of}
use Rattle.machine.specs.Hosts.{host_of}
use Rattle.machine.specs.Request.{Sending, has_start, sends, sends_all}
use Rattle.machine.specs.Objects.{members_of}
use Rattle.machine.specs.Soundness.{Claim, is_unclaimed}
use Rattle.machine.specs.Waits.{add_member}
use Rattle.machine.specs.Objects.{object_at}
use Rattle.machine_soundness.proofs.Landings.{going-free}
use Rattle.machine.proofs.Halves.{left, right}
use Rattle.machine_soundness.proofs.Lists.{all-end, all-imply, none-counted}
use Rattle.machine_soundness.proofs.Performs.{link-unclaimed, no_start, sends-fine, sends-raw}
use Rattle.machine_soundness.proofs.Requests.{members-raw, moves-member, next-unclaimed, no_late, object-plain}
use Rattle.machine_soundness.proofs.Singles.{wake_unclaimed}
use Rattle.machine_soundness.proofs.States.{Moves, going, moving}
use Rattle.hub_requests.specs.Making.{MayMake}
use Rattle.machine_soundness.specs.Going.{AreNotRaw}
use Rattle.hub_requests.specs.Sendings.{sent}

-- the greenlet has no Wake yet
pub wake_free : (g : ℕ) (line : Line) (s t : State) → MayMake g s → t ≡ say line s → is_unclaimed (Some (Claim.WakeOf g)) t.items ≡ true
wake_free g line s t h e =
    subst (λ (x : State). is_unclaimed (Some (Claim.WakeOf g)) x.items ≡ true) (sym e) (wake_unclaimed g s.items (going-free g s h.sound.0 h.sound.1))

late-unclaimed : (g : ℕ) (s : State) → MayMake g s → is_unclaimed (Some (Claim.LateOf g)) s.items ≡ true
late-unclaimed g s h = all-imply _ _ s.items (λ i. no_late g i.delivery) (going-free g s h.sound.0 h.sound.1)

-- nor a Late right after its Wake
pub late_free : (g : ℕ) (w : Waiting) (line : Line) (s t u : State) → MayMake g s → t ≡ say line s → u ≡ add_item (Delivery.Wake g w) t →
    is_unclaimed (Some (Claim.LateOf g)) u.items ≡ true
late_free g w line s t u h e f =
    subst (λ (x : State). is_unclaimed (Some (Claim.LateOf g)) x.items ≡ true) (sym f)
    (all-end _ t.items _ (subst (λ (x : State). is_unclaimed (Some (Claim.LateOf g)) x.items ≡ true) (sym e) (late-unclaimed g s h)) refl)

-- the greenlet that was made has no start yet
pub start_free : (g made f : ℕ) (args : List Value) (s t : State) → MayMake g s → made ≡ length s.greenlets → t ≡ add_greenlet false 0 f args s →
    is_unclaimed (Some (Claim.StartOf made)) t.items ≡ true
start_free g made f args s t h e z =
    subst (λ (x : State). is_unclaimed (Some (Claim.StartOf made)) x.items ≡ true) (sym z)
    (subst (λ (n : ℕ). is_unclaimed (Some (Claim.StartOf n)) s.items ≡ true) (sym e) (next-unclaimed s h.sound.0))

-- the link of the next number is new
pub link_free : (g n : ℕ) (s t : State) → MayMake g s → n ≡ s.links + 1 → t ≡ record s { links = s.links + 1 } →
    is_unclaimed (Some (Claim.LinkNumbered n)) t.items ≡ true
link_free g n s t h e z =
    subst (λ (x : State). is_unclaimed (Some (Claim.LinkNumbered n)) x.items ≡ true) (sym z)
    (subst (λ (m : ℕ). is_unclaimed (Some (Claim.LinkNumbered m)) s.items ≡ true) (sym e) (link-unclaimed s h.sound.0))

-- one without a start has none
pub start_missing : (k : ℕ) (s : State) → has_start k s ≡ false → is_unclaimed (Some (Claim.StartOf k)) s.items ≡ true
start_missing k s h = all-imply _ _ s.items (λ i. no_start k i.delivery) (none-counted (λ i. is_start_of k i.delivery) s.items h)

-- ---- a greenlet goes on soundly

pub from-moves : (g h : ℕ) (s : State) → Moves g h s → MayMake g s
from-moves g h s m = record { sound = (m.kept, going g h s m) }

-- wherever the sending of kills comes to, the greenlet goes on
abbrev GoesOn : ℕ → ℕ → Sending → Type 0
GoesOn g h (Sending.Sent s) = Moves g h s
GoesOn g h (Sending.TooMany s) = Moves g h s

all-sent : (f : FaultKind) (ks : List ℕ) (g h : ℕ) (s : State) → AreNotRaw s.greenlets ks → Moves g h s → GoesOn g h (sends_all f ks s)
all-sent f [] g h s a m = m
all-sent f (k ∷ ks) g h s a m =
    by (sends f k s) refl (sends-fine f k g h s (plain (greenlet k s).raw (left _ _ a)) m) (λ t b n. all-sent f ks g h t b n)
  where
    plain : (raw : Bool) → not raw ≡ true → raw ≡ false
    plain false e = refl
    plain true e = absurd (cc e)

    by : (r : Sending) → sends f k s ≡ r → GoesOn g h r → ((t : State) → AreNotRaw t.greenlets ks → Moves g h t → GoesOn g h (sends_all f ks t)) →
        GoesOn g h (elim r [ Sending.Sent t ↦ sends_all f ks t | Sending.TooMany t ↦ Sending.TooMany t ])
    by (Sending.Sent t) e n rest = rest t (sends-raw f k s t ks e (right (not (greenlet k s).raw) _ a)) n
    by (Sending.TooMany t) e n rest = n

-- where it has sent kills
pub sound_sent : (f : FaultKind) (ks : List ℕ) (g : ℕ) (b : Bool) (s t : State) → MayMake g s → AreNotRaw s.greenlets ks → sends_all f ks s ≡ sent b t → b ≡ true → MayMake g t
sound_sent f ks g b s t h a e z =
    let m : Moves g (host_of s g) s = moving g s h.sound.0 h.sound.1 in
    let n : GoesOn g (host_of s g) (sent b t) = subst (GoesOn g (host_of s g)) e (all-sent f ks g (host_of s g) s a m) in
    from-moves g (host_of s g) t (subst (λ (c : Bool). GoesOn g (host_of s g) (sent c t)) z n)

-- where it has one member more
pub sound_member : (o f g : ℕ) (args : List Value) (s t : State) → MayMake g s → t ≡ add_member o f args s → MayMake g t
sound_member o f g args s t h e =
    subst (MayMake g) (sym e) (from-moves g (host_of s g) _ (moves-member o f args g (host_of s g) s (moving g s h.sound.0 h.sound.1)))

-- ---- whom kills are sent to

pub members_plain : (o g : ℕ) (s : State) (ks : List ℕ) → MayMake g s → ks ≡ members_of (object_at o s) → AreNotRaw s.greenlets ks
members_plain o g s ks h e = subst (AreNotRaw s.greenlets) (sym e) (members-raw s.greenlets (object_at o s) (object-plain o s h.sound.0))
