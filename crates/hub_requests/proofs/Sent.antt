-- Kills that are sent.
use Rattle.std.proofs.Common.{◌≡◌, refl, ap, sym, subst, ◌∙◌, ℕ, zero, suc, ◌+◌, ◌<◌, ◌≤◌, Bool, true, false, List, [], ◌∷◌, length, drop, get_or, Option, Some, None, slice_get, unwrap_or, arith}
use Rattle.std.specs.Prelude.{if◌then◌else◌, nat_lt}
use Rattle.std.proofs.lemmas.Bool.Decides.{nat_tests}
use Rattle.gv_values.specs.declared.fault.FaultKind.{FaultKind}
use Rattle.gv_values.specs.declared.value.Outcome.{Outcome}
use Rattle.trace_text.specs.declared.line.Line.{Line}
use Rattle.machine.specs.declared.items.Delivery.{Delivery}
use Rattle.machine.specs.declared.items.Item.{Item}
use Rattle.machine.specs.declared.state.Greenlet.{Greenlet}
use Rattle.machine.specs.declared.state.Phase.{Phase}
use Rattle.machine.specs.Soundness.{phase_of, is_unclaimed}
use Rattle.machine.specs.Items.{add_item}
use Rattle.machine.specs.Ends.{ended}
use Rattle.machine.specs.Greenlets.{nobody}
use Rattle.gv_values.specs.Ends.{kept}
use Rattle.machine.specs.Request.{Sending, kills_standing, sends, sends_all}
use Rattle.machine.specs.State.{State, say}
use Rattle.machine_soundness.proofs.Lists.{all-of}
use Rattle.hub_requests.specs.Far.{far_of}
use Rattle.hub_requests.specs.Sendings.{sent}
use Rattle.hub_requests.specs.declared.far.Far.{Far}
use Rattle.machine.specs.declared.limits.TheConstants.{MOST_KILLS}

-- a kill of a greenlet that has come so far
abbrev by_far : Far → FaultKind → ℕ → State → Sending
by_far Far.Done f g s = Sending.Sent s
by_far Far.New f g s = Sending.Sent (ended g (kept (Outcome.Fault f)) (say (Line.Throw g f) s))
by_far Far.Live f g s = if nat_lt (kills_standing s) MOST_KILLS then Sending.Sent (add_item (Delivery.Kill g f) s) else Sending.TooMany s

abbrev at_one : Greenlet → FaultKind → ℕ → State → Sending
at_one x f g s = elim x.phase [
  | Phase.Done o ↦ Sending.Sent s
  | Phase.New args ↦ Sending.Sent (ended g (kept (Outcome.Fault f)) (say (Line.Throw g f) s))
  | Phase.Live frame ↦ if nat_lt (kills_standing s) MOST_KILLS then Sending.Sent (add_item (Delivery.Kill g f) s) else Sending.TooMany s
]

by-phase : (x : Greenlet) (p : Phase) (f : FaultKind) (g : ℕ) (s : State) → x.phase ≡ p → at_one x f g s ≡ by_far (far_of (Some p)) f g s
by-phase x (Phase.Done o) f g s e = rw e
by-phase x (Phase.Live frame) f g s e = rw e
by-phase x (Phase.New args) f g s e = rw e

by-option : (x : Option Greenlet) (f : FaultKind) (g : ℕ) (s : State) → at_one (unwrap_or x nobody) f g s ≡ by_far (far_of (elim x [ None ↦ None | Some y ↦ Some y.phase ])) f g s
by-option None f g s = refl
by-option (Some x) f g s = by-phase x x.phase f g s refl

sends-far : (far to : Far) (f : FaultKind) (g : ℕ) (s : State) → far ≡ far_of (phase_of g s.greenlets) → far ≡ to → sends f g s ≡ by_far to f g s
sends-far far to f g s e h = by-option (slice_get s.greenlets g) f g s ∙ ap (λ (x : Far). by_far x f g s) (sym e ∙ h)

pub sends_done : (far : Far) (f : FaultKind) (g : ℕ) (s : State) → far ≡ far_of (phase_of g s.greenlets) → far ≡ Far.Done → sends f g s ≡ sent true s
sends_done far f g s e h = sends-far far Far.Done f g s e h

pub sends_new : (far : Far) (f : FaultKind) (g : ℕ) (s u : State) → far ≡ far_of (phase_of g s.greenlets) → far ≡ Far.New →
    u ≡ ended g (kept (Outcome.Fault f)) (say (Line.Throw g f) s) → sends f g s ≡ sent true u
sends_new far f g s u e h m = sends-far far Far.New f g s e h ∙ ap (λ (x : State). Sending.Sent x) (sym m)

pub sends_live : (far : Far) (f : FaultKind) (g : ℕ) (s u : State) → far ≡ far_of (phase_of g s.greenlets) → far ≡ Far.Live → kills_standing s < MOST_KILLS → u ≡ add_item (Delivery.Kill g f) s →
    sends f g s ≡ sent true u
sends_live far f g s u e h k m =
    let few : nat_lt (kills_standing s) MOST_KILLS ≡ true = grind (arith, nat_tests) in
    sends-far far Far.Live f g s e h ∙ ap (λ (b : Bool). if b then Sending.Sent (add_item (Delivery.Kill g f) s) else Sending.TooMany s) few ∙ ap (λ (x : State). Sending.Sent x) (sym m)

pub sends_many : (far : Far) (f : FaultKind) (g : ℕ) (s : State) → far ≡ far_of (phase_of g s.greenlets) → far ≡ Far.Live → MOST_KILLS ≤ kills_standing s → sends f g s ≡ sent false s
sends_many far f g s e h k =
    let many : nat_lt (kills_standing s) MOST_KILLS ≡ false = grind (arith, nat_tests) in
    sends-far far Far.Live f g s e h ∙ ap (λ (b : Bool). if b then Sending.Sent (add_item (Delivery.Kill g f) s) else Sending.TooMany s) many

pub kill_free : (items : List Item) → is_unclaimed None items ≡ true
kill_free items = all-of _ items (λ i. refl)

pub was_sent : (b : Bool) (t : State) (x : Sending) → b ≡ true → x ≡ sent b t → x ≡ sent true t
was_sent b t x so e = subst (λ (c : Bool). x ≡ sent c t) so e

-- ---- one of several

pub sent_first : (f : FaultKind) (ks : List ℕ) (i d : ℕ) (s t : State) (x : Sending) → i < length ks → x ≡ sends_all f (drop i ks) s → sends f (get_or ks i d) s ≡ sent true t →
    x ≡ sends_all f (drop (i + 1) ks) t
sent_first f [] i d s t x h e k = absurd (omega (arith, h))
sent_first f (y ∷ ks) zero d s t x h e k = e ∙ ap (λ (r : Sending). elim r [ Sending.Sent u ↦ sends_all f ks u | Sending.TooMany u ↦ Sending.TooMany u ]) k
sent_first f (y ∷ ks) (suc i) d s t x h e k =
    let one : suc i + 1 ≡ suc (i + 1) = omega arith in
    subst (λ (n : ℕ). x ≡ sends_all f (drop n (y ∷ ks)) t) (sym one) (sent_first f ks i d s t x (omega (arith, h)) e k)

pub sent_not : (f : FaultKind) (ks : List ℕ) (i d : ℕ) (s t : State) (x : Sending) → i < length ks → x ≡ sends_all f (drop i ks) s → sends f (get_or ks i d) s ≡ sent false t →
    x ≡ sent false t
sent_not f [] i d s t x h e k = absurd (omega (arith, h))
sent_not f (y ∷ ks) zero d s t x h e k = e ∙ ap (λ (r : Sending). elim r [ Sending.Sent u ↦ sends_all f ks u | Sending.TooMany u ↦ Sending.TooMany u ]) k
sent_not f (y ∷ ks) (suc i) d s t x h e k = sent_not f ks i d s t x (omega (arith, h)) e k
