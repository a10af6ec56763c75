-- A start item where the greenlet is New and has none.
use Rattle.std.proofs.Common.{◌≡◌, refl, ap, sym, ◌∙◌, ℕ, Bool, true, false, not, ◌&&◌, Option, Some, None, slice_get, unwrap_or}
use Rattle.std.specs.Prelude.{if◌then◌else◌}
use Rattle.machine.specs.declared.items.Delivery.{Delivery}
use Rattle.machine.specs.declared.state.Greenlet.{Greenlet}
use Rattle.machine.specs.declared.state.Phase.{Phase}
use Rattle.machine.specs.Soundness.{phase_of}
use Rattle.machine.specs.Greenlets.{nobody}
use Rattle.machine.specs.Items.{add_item}
use Rattle.machine.specs.Request.{has_start, is_new, start_of, starts_at}
use Rattle.machine.specs.State.{State}
use Rattle.hub_requests.specs.Far.{far_of}
use Rattle.hub_requests.specs.declared.far.Far.{Far}

-- one that has come so far is new
abbrev is_far_new : Far → Bool
is_far_new Far.New = true
is_far_new far = false

new-by : (p : Phase) → is_new p ≡ is_far_new (far_of (Some p))
new-by (Phase.New args) = refl
new-by (Phase.Live frame) = refl
new-by (Phase.Done o) = refl

new-at : (x : Option Greenlet) → is_new (unwrap_or x nobody).phase ≡ is_far_new (far_of (elim x [ None ↦ None | Some y ↦ Some y.phase ]))
new-at None = refl
new-at (Some x) = new-by x.phase

-- the start item, by whether the greenlet is New and whether it has one
abbrev started : Bool → Bool → ℕ → State → State
started fresh has g s = if fresh && not has then starts_at None g s else s

start-far : (far to : Far) (g : ℕ) (s : State) → far ≡ far_of (phase_of g s.greenlets) → far ≡ to → start_of g s ≡ started (is_far_new to) (has_start g s) g s
start-far far to g s e h = ap (λ (b : Bool). started b (has_start g s) g s) (new-at (slice_get s.greenlets g) ∙ ap is_far_new (sym e ∙ h))

pub start_made : (far : Far) (has : Bool) (g : ℕ) (s t : State) → far ≡ far_of (phase_of g s.greenlets) → far ≡ Far.New → has ≡ has_start g s → has ≡ false →
    t ≡ add_item (Delivery.Start g None) s → t ≡ start_of g s
start_made far has g s t e h k l m = m ∙ sym (start-far far Far.New g s e h ∙ ap (λ (b : Bool). started true b g s) (sym k ∙ l))

pub start_stands : (far : Far) (has : Bool) (g : ℕ) (s : State) → far ≡ far_of (phase_of g s.greenlets) → far ≡ Far.New → has ≡ has_start g s → has ≡ true → s ≡ start_of g s
start_stands far has g s e h k l = sym (start-far far Far.New g s e h ∙ ap (λ (b : Bool). started true b g s) (sym k ∙ l))

pub no_start_live : (far : Far) (g : ℕ) (s : State) → far ≡ far_of (phase_of g s.greenlets) → far ≡ Far.Live → s ≡ start_of g s
no_start_live far g s e h = sym (start-far far Far.Live g s e h)

pub no_start_done : (far : Far) (g : ℕ) (s : State) → far ≡ far_of (phase_of g s.greenlets) → far ≡ Far.Done → s ≡ start_of g s
no_start_done far g s e h = sym (start-far far Far.Done g s e h)
