-- What is delivered.
use Rattle.std.proofs.Common.{◌≡◌, refl, ap, sym, ◌∙◌, subst, ℕ, true, Option, Some, None}
use Rattle.gv_values.specs.declared.value.Outcome.{Outcome}
use Rattle.scenario_rules.specs.declared.mention.Wanted.TheVariants as wanted
use Rattle.scenario_rules.specs.Declarations.{is_kind}
use Rattle.scenario_tree.specs.declared.tree.Scenario.{Scenario}
use Rattle.trace_text.specs.declared.line.Line.{Line}
use Rattle.trace_text.specs.declared.line.Resumed.{Resumed}
use Rattle.machine.specs.declared.items.Delivery.{Delivery}
use Rattle.machine.specs.declared.items.Item.{Item}
use Rattle.machine.specs.declared.items.Waiting.{Waiting}
use Rattle.machine.specs.Deliveries.{deliver, delivers, late, waiting_of, without_item, without_wait}
use Rattle.machine.specs.Landing.{Next, answered}
use Rattle.machine.specs.Run.{least_below}
use Rattle.machine.specs.Settle.{settle}
use Rattle.machine.specs.State.{State, say}
use Rattle.machine.specs.Waits.{late_outcome}
use Rattle.machine.specs.Items.{is_wait_of}
use Rattle.machine_trace_laws.specs.Reached.{state_of_next}
use Rattle.machine_trace_laws.proofs.Runs.{IsFound, least-found}
use Rattle.machine_soundness.specs.Going.{IsKept}
use Rattle.machine_soundness.proofs.Deliveries.{claimed, free-moves, kept-without, no-wait-left, owned}
use Rattle.machine.proofs.Halves.{left}
use Rattle.machine_soundness.proofs.Lists.{all-get}
use Rattle.machine_soundness.proofs.States.{Moves, going, kept-drop}
use Rattle.machine_well_formed.specs.Texts.{fits_item, fits_wait, is_function}
use Rattle.hub_requests.specs.Naming.{IsNamed}
use Rattle.hub_requests.proofs.Named.{object_there}
use Rattle.hub_engine.specs.Delivering.{IsDelivered, late_answer}
use Rattle.hub_engine.specs.Ready.{AreDeclared, IsReady}
use Rattle.hub_engine.specs.Stands.{next_at}
use Rattle.hub_engine.specs.declared.stand.Stand.{Stand}
use Rattle.hub_engine.proofs.Readily.{declared_ready, known_ready, ready_deliver}

some-is : {X : Type 0} {i j : X} → Some i ≡ Some j → i ≡ j
some-is e = cc e

-- ---- a Late

none-late : (w : Option Waiting) (g n : ℕ) (s : State) → late_answer n s w ≡ None → late g n w s ≡ Next.Resting s
none-late None g n s e = refl
none-late (Some w) g n s e = absurd (cc e)

pub late_none : (g n : ℕ) (o : Option Outcome) (s : State) → o ≡ late_answer n s (waiting_of g s.items) → o ≡ None → late g n (waiting_of g s.items) s ≡ next_at Stand.Resting s
late_none g n o s e f = none-late (waiting_of g s.items) g n s (sym e ∙ f)

some-late : (w : Option Waiting) (g n : ℕ) (o : Outcome) (s : State) → late_answer n s w ≡ Some o →
    late g n w s ≡ answered g o (settle (without_wait g (say (Line.Resume g Resumed.Late) s)))
some-late None g n o s e = absurd (cc e)
some-late (Some w) g n o s e = ap (λ (x : Outcome). answered g x (settle (without_wait g (say (Line.Resume g Resumed.Late) s)))) (by w (some-is e))
  where
    -- the answer reads neither items nor lines
    by : (w : Waiting) → late_outcome w n s ≡ o → late_outcome w n (settle (without_wait g (say (Line.Resume g Resumed.Late) s))) ≡ o
    by (Waiting.JoinAll gs need) e = e
    by (Waiting.Sleep until) e = e
    by (Waiting.Join h) e = e
    by (Waiting.Get whom) e = e
    by (Waiting.Kill gs) e = e
    by (Waiting.Event p sets) e = e
    by (Waiting.ResultGet p) e = e
    by (Waiting.ResultWait p) e = e
    by (Waiting.Acquire p) e = e
    by (Waiting.Lock p) e = e
    by (Waiting.Put p v) e = e
    by (Waiting.Take p) e = e
    by (Waiting.Peek p) e = e
    by (Waiting.Tasks p) e = e
    by (Waiting.Place p f vs) e = e
    by (Waiting.MapPlace p f xs made) e = e
    by (Waiting.MapEnd p made) e = e
    by (Waiting.Members p) e = e
    by (Waiting.Slot p job takes) e = e
    by (Waiting.Offered p) e = e
    by (Waiting.TakeOffer p) e = e

pub late_some : (g n : ℕ) (a : Option Outcome) (o : Outcome) (s t u v x : State) (at : Stand) → a ≡ late_answer n s (waiting_of g s.items) → a ≡ Some o →
    t ≡ say (Line.Resume g Resumed.Late) s → u ≡ without_wait g t → v ≡ settle u → answered g o v ≡ next_at at x → late g n (waiting_of g s.items) s ≡ next_at at x
late_some g n a o s t u v x at e f k l m r =
    some-late (waiting_of g s.items) g n o s (sym e ∙ f)
    ∙ ap (λ (y : State). answered g o (settle (without_wait g y))) (sym k) ∙ ap (λ (y : State). answered g o (settle y)) (sym l) ∙ ap (answered g o) (sym m) ∙ r

-- ---- a wait that may be begun again

pub named_wait : (c : Scenario) (w : Waiting) → fits_wait c w ≡ true → IsNamed c w
named_wait c (Waiting.MapPlace o f xs made) h = object_there (is_kind wanted.GroupOrPool) c o (left _ (is_function c f) h)
named_wait c (Waiting.Sleep until) h = tt
named_wait c (Waiting.Join k) h = tt
named_wait c (Waiting.Get whom) h = tt
named_wait c (Waiting.Kill gs) h = tt
named_wait c (Waiting.JoinAll gs need) h = tt
named_wait c (Waiting.Event o sets) h = tt
named_wait c (Waiting.ResultGet o) h = tt
named_wait c (Waiting.ResultWait o) h = tt
named_wait c (Waiting.Acquire o) h = tt
named_wait c (Waiting.Lock o) h = tt
named_wait c (Waiting.Put o v) h = tt
named_wait c (Waiting.Take o) h = tt
named_wait c (Waiting.Peek o) h = tt
named_wait c (Waiting.Tasks o) h = tt
named_wait c (Waiting.Place o f vs) h = tt
named_wait c (Waiting.MapEnd o made) h = tt
named_wait c (Waiting.Members o) h = tt
named_wait c (Waiting.Slot o job takes) h = tt
named_wait c (Waiting.Offered o) h = tt
named_wait c (Waiting.TakeOffer o) h = tt

-- ---- an item

pub delivered_as : (mark : ℕ) (i j : Item) (s t v : State) (at : Stand) → least_below mark s.items ≡ Some j → t ≡ without_item j s → delivers j.since j.delivery t ≡ next_at at v →
    least_below mark s.items ≡ Some i → deliver i s ≡ next_at at v
unfolding deliver
delivered_as mark i j s t v at e f d g =
    let same : i ≡ j = some-is (sym g ∙ e) in
    subst (λ (x : Item). deliver x s ≡ next_at at v) (sym same) (subst (λ (x : State). delivers j.since j.delivery x ≡ next_at at v) f d)

-- what is taken may be delivered
pub may_deliver : (mark : ℕ) (j : Item) (s t : State) → least_below mark s.items ≡ Some j → t ≡ without_item j s → IsReady s → IsDelivered j.delivery t
may_deliver mark j s t e k h = subst (IsDelivered j.delivery) (sym k) (by j.delivery refl)
  where
    kept : IsKept s
    kept = h.at.sound

    found : IsFound s.items j
    found = least-found mark s.items j e

    by : (d : Delivery) → d ≡ j.delivery → IsDelivered d (without_item j s)
    by (Delivery.Wake g w) f =
        let u = without_wait g (without_item j s) in
        let m : Moves g g u =
        free-moves g u (owned found.place j (Delivery.Wake g w) s f found.there kept) (claimed found.place j (Delivery.Wake g w) s f found.there kept) (no-wait-left g (without_item j s)) (kept-drop (is_wait_of g) _ (kept-without j s kept)) in
        record { sound = (m.kept, going g g u m) }
    by (Delivery.Start g deadline) f = tt
    by (Delivery.Late g deadline m) f = tt
    by (Delivery.Timeout g m deadline) f = tt
    by (Delivery.Kill g x) f = tt
    by (Delivery.Link m g kind x) f = tt

-- it names what is there
pub taken_fits : (mark : ℕ) (j : Item) (s t : State) → least_below mark s.items ≡ Some j → t ≡ without_item j s → IsReady s → fits_item t.scenario j.delivery ≡ true
taken_fits mark j s t e k h =
    let found = least-found mark s.items j e in
    subst (λ (x : State). fits_item x.scenario j.delivery ≡ true) (sym k)
    (all-get (λ (i : Item). fits_item s.scenario i.delivery) s.items found.place j found.there (known_ready (Next.Resting s) h.at).named)

pub taken_declared : (j : Item) (s t : State) → t ≡ without_item j s → IsReady s → AreDeclared t
taken_declared j s t k h = subst AreDeclared (sym k) (record { each = (declared_ready (Next.Resting s) h.at).each })

-- after its delivery too each greenlet runs a function that there is
pub delivered_declared : (mark : ℕ) (j : Item) (s t : State) → least_below mark s.items ≡ Some j → t ≡ without_item j s → IsReady s →
    AreDeclared (state_of_next (delivers j.since j.delivery t))
unfolding deliver
delivered_declared mark j s t e k h =
    let found = least-found mark s.items j e in
    subst (λ (x : State). AreDeclared (state_of_next (delivers j.since j.delivery x))) (sym k) (declared_ready (deliver j s) (ready_deliver found.place j s found.there found.numbered h))
