-- Where a body stands, it fits, and the timeouts of its greenlet are those of blocks that it left or in which it is.
use Rattle.std.proofs.Common.{◌≡◌, refl, ap, ◌∙◌, sym, subst, ℕ, Bool, true, false, List, [], ◌∷◌, ◌++◌}
use Rattle.std.proofs.lemmas.Bool.{and_from}
use Rattle.std.specs.Prelude.{not, ◌==◌, ◌&&◌, ◌||◌, Option, Some, None, if◌then◌else◌, filter, slice_get, slice_set, unwrap_or}
use Rattle.std.specs.List.{list_all, list_any}
use Rattle.scenario_tree.specs.declared.tree.Function.{Function}
use Rattle.scenario_tree.specs.declared.tree.Scenario.{Scenario}
use Rattle.scenario_rules.specs.declared.mention.Mention.{Mention}
use Rattle.scenario_rules.specs.declared.mention.Says.{Says}
use Rattle.scenario_rules.specs.declared.mention.Says.TheVariants as says
use Rattle.scenario_rules.specs.Mention.{block_mentions}
use Rattle.scenario_rules.specs.declared.limits.TheConstants.{MOST_TIMEOUTS}
use Rattle.machine.specs.declared.items.Delivery.{Delivery}
use Rattle.machine.specs.declared.items.Item.{Item}
use Rattle.machine.specs.declared.state.Frame.{Frame}
use Rattle.machine.specs.declared.state.Greenlet.{Greenlet}
use Rattle.machine.specs.declared.state.Leaving.{Leaving}
use Rattle.machine.specs.declared.state.Local.{Local}
use Rattle.machine.specs.declared.state.Phase.{Phase}
use Rattle.machine.specs.declared.state.Todo.{Todo}
use Rattle.machine.specs.Soundness.{phase_of, is_unstarted}
use Rattle.machine.specs.Items.{is_timeout_of}
use Rattle.machine.specs.Greenlets.{no_function}
use Rattle.machine.specs.Unwinding.{Unwound, unwind}
use Rattle.machine_soundness.proofs.Greenlets.{at, phase-other}
use Rattle.machine.proofs.Halves.{left, right}
use Rattle.machine_soundness.proofs.Lists.{all-filter, all-get, all-imply, equal, unequal}
use Rattle.machine_well_formed.specs.Texts.{IsFitText, fits_block, fits_phase, fits_rest, is_among, is_fit_function, is_fit_greenlet, is_held, is_raw_function, may_say, withins, withins_at}
use Rattle.machine_well_formed.proofs.Bodies.{IsFitUnwound, unwind-fit}
use Rattle.machine_trace_laws.proofs.Goings.{AreHeld, AreHeldBy, greenlet-fit, held-by, is_held_by}
use Rattle.machine_trace_laws.proofs.Ties.{phase-here}

-- the numbers of the blocks that were left or are open
abbrev pub numbers_of : Unwound → List ℕ
numbers_of (Unwound.Runs own locals todo) = own ++ withins todo
numbers_of (Unwound.Out own how) = own

abbrev pub fits_unwound : Scenario → Bool → Unwound → Bool
fits_unwound c hub (Unwound.Runs own locals todo) = fits_rest c hub todo
fits_unwound c hub (Unwound.Out own how) = true

pub record IsPlaced (c : Scenario) (g : ℕ) (u : Unwound) (gs : List Greenlet) (items : List Item) : Type 0 where
  pub held : AreHeldBy g (numbers_of u) gs items
  pub fits : fits_unwound c (not (at gs g).raw) u ≡ true

pub placed-of : (c : Scenario) (g : ℕ) (u : Unwound) (gs : List Greenlet) (items : List Item) (ns : List ℕ) → IsFitUnwound c (not (at gs g).raw) ns u → AreHeldBy g ns gs items → IsPlaced c g u gs items
placed-of c g (Unwound.Runs own locals todo) gs items ns f h = record { held = subst (λ z. AreHeldBy g z gs items) (sym f.numbers) h; fits = f.rest }
placed-of c g (Unwound.Out own how) gs items ns f h = record { held = subst (λ z. AreHeldBy g z gs items) (sym f) h; fits = refl }

pub frame-fits : (c : Scenario) (g : ℕ) (gs : List Greenlet) (frame : Frame) → (at gs g).phase ≡ Phase.Live frame → list_all (is_fit_greenlet c) gs ≡ true → fits_rest c (not (at gs g).raw) frame.todo ≡ true
frame-fits c g gs frame e fit =
    subst (λ (p : Phase). fits_phase c (not (at gs g).raw) p ≡ true) e
    (right (if (at gs g).raw then is_raw_function c (at gs g).function else true) (fits_phase c (not (at gs g).raw) (at gs g).phase) (greenlet-fit c g gs fit))

-- the body of a live greenlet goes on
pub placed-frame : (c : Scenario) (g : ℕ) (gs : List Greenlet) (items : List Item) (frame : Frame) (how : Leaving) (locals : List Local) → (at gs g).phase ≡ Phase.Live frame → phase_of g gs ≡ Some (at gs g).phase →
    list_all (is_fit_greenlet c) gs ≡ true → AreHeld gs items → IsPlaced c g (unwind frame.todo [] how locals) gs items
placed-frame c g gs items frame how locals e p fit h =
    placed-of c g (unwind frame.todo [] how locals) gs items (withins frame.todo)
    (unwind-fit c (not (at gs g).raw) (withins frame.todo) frame.todo [] how locals (frame-fits c g gs frame e fit) refl)
    (held-by g (withins frame.todo) gs items (λ n z. subst (λ (q : Option Phase). is_among n (withins_at q) ≡ true) (p ∙ ap (λ (x : Phase). Some x) e) z) h)

-- ---- a body begins

may-more : (c : Scenario) (b : Bool) (s : Says) → may_say c b s ≡ true → may_say c true s ≡ true
may-more c b says.AsksHub e = refl
may-more c b says.NestsTooDeep e = e
may-more c b (says.Runs x) e = e
may-more c b (says.Uses x) e = refl
may-more c b (says.Gives x) e = refl
may-more c b (says.Object k x) e = e
may-more c b (says.Calls n x) e = e

function-fit : (c : Scenario) (f : ℕ) → IsFitText c → is_fit_function c (unwrap_or (slice_get c.functions f) no_function) ≡ true
function-fit c f h = by (slice_get c.functions f) refl
  where
    by : (o : Option Function) → slice_get c.functions f ≡ o → is_fit_function c (unwrap_or o no_function) ≡ true
    by None e = refl
    by (Some x) e = all-get (is_fit_function c) c.functions f x e h

body-fit : (c : Scenario) (f : Function) (raw : Bool) → (if raw then f.is_raw else true) ≡ true → is_fit_function c f ≡ true → fits_block c (not raw) MOST_TIMEOUTS f.body ≡ true
body-fit c f true e h = subst (λ b. fits_block c (not b) MOST_TIMEOUTS f.body ≡ true) e h
body-fit c f false e h = all-imply _ _ (block_mentions MOST_TIMEOUTS f.body) (λ (m : Mention). may-more c (not f.is_raw) m.says) h

pub unstarted-free : (g : ℕ) (ns : List ℕ) (gs : List Greenlet) (items : List Item) → is_unstarted (phase_of g gs) ≡ true → AreHeld gs items → AreHeldBy g ns gs items
unstarted-free g ns gs items u h = held-by g ns gs items (λ n z. absurd (none n (phase_of g gs) u z)) h
  where
    none : (n : ℕ) (p : Option Phase) → is_unstarted p ≡ true → is_among n (withins_at p) ≡ true → ⊥
    none n None e z = cc e
    none n (Some (Phase.New args)) e z = cc z
    none n (Some (Phase.Live frame)) e z = cc e
    none n (Some (Phase.Done o)) e z = cc e

pub placed-start : (c : Scenario) (g : ℕ) (gs : List Greenlet) (items : List Item) (locals : List Local) → is_unstarted (phase_of g gs) ≡ true → IsFitText c → list_all (is_fit_greenlet c) gs ≡ true → AreHeld gs items →
    IsPlaced c g (unwind (Todo.Statements (unwrap_or (slice_get c.functions (at gs g).function) no_function).body ∷ []) [] Leaving.Normally locals) gs items
placed-start c g gs items locals u text fit h =
    let f = unwrap_or (slice_get c.functions (at gs g).function) no_function in
    let own = left (if (at gs g).raw then is_raw_function c (at gs g).function else true) (fits_phase c (not (at gs g).raw) (at gs g).phase) (greenlet-fit c g gs fit) in
    let body : fits_block c (not (at gs g).raw) MOST_TIMEOUTS f.body ≡ true = body-fit c f (at gs g).raw own (function-fit c (at gs g).function text) in
    placed-of c g (unwind (Todo.Statements f.body ∷ []) [] Leaving.Normally locals) gs items []
    (unwind-fit c (not (at gs g).raw) [] (Todo.Statements f.body ∷ []) [] Leaving.Normally locals (and_from (fits_block c (not (at gs g).raw) MOST_TIMEOUTS f.body) true body refl) refl)
    (unstarted-free g [] gs items u h)

-- ---- a body goes on

pub any-both : {X : Type 0} (p : X → Bool) (xs ys : List X) → list_any p (xs ++ ys) ≡ (list_any p xs || list_any p ys)
any-both p [] ys = refl
any-both p (x ∷ xs) ys = by (p x) (any-both p xs ys)
  where
    by : (b : Bool) → list_any p (xs ++ ys) ≡ (list_any p xs || list_any p ys) → (b || list_any p (xs ++ ys)) ≡ (b || list_any p xs || list_any p ys)
    by true e = refl
    by false e = e

-- what is held of one that has left these blocks, and of which those timeouts went
pub held-live : (g : ℕ) (own : List ℕ) (new old : Greenlet) (frame : Frame) (gs : List Greenlet) (items : List Item) → slice_get gs g ≡ Some old → new.phase ≡ Phase.Live frame →
    AreHeldBy g (own ++ withins frame.todo) gs items → AreHeld (slice_set gs g new) (filter (λ (i : Item). not (is_timeout_of g own i.delivery)) items)
held-live g own new old frame gs items there e h = all-filter _ _ _ items (λ i. by i.delivery) h
  where
    or : (a b : Bool) → (a || b) ≡ true → not a ≡ true → b ≡ true
    or true b z y = absurd (cc y)
    or false b z y = z

    of : (k n : ℕ) (c : Bool) → (g == k) ≡ c → not (c && is_among n own) ≡ true → (if c then is_among n (own ++ withins frame.todo) else is_among n (withins_at (phase_of k gs))) ≡ true →
        is_among n (withins_at (phase_of k (slice_set gs g new))) ≡ true
    of k n true z y x =
        let here : phase_of g (slice_set gs g new) ≡ Some (Phase.Live frame) = phase-here gs g new old there ∙ ap (λ (p : Phase). Some p) e in
        let inside : is_among n (withins frame.todo) ≡ true = or (is_among n own) (is_among n (withins frame.todo)) (sym (any-both (λ m. m == n) own (withins frame.todo)) ∙ x) y in
        subst (λ j. is_among n (withins_at (phase_of j (slice_set gs g new))) ≡ true) (equal g k z) (ap (λ p. is_among n (withins_at p)) here ∙ inside)
    of k n false z y x = ap (λ p. is_among n (withins_at p)) (phase-other gs g k new (unequal g k z)) ∙ x

    by : (d : Delivery) → not (is_timeout_of g own d) ≡ true → is_held_by g (own ++ withins frame.todo) gs d ≡ true → is_held (slice_set gs g new) d ≡ true
    by (Delivery.Timeout k n deadline) y x = of k n (g == k) refl y x
    by (Delivery.Start k deadline) y x = refl
    by (Delivery.Wake k w) y x = refl
    by (Delivery.Late k deadline n) y x = refl
    by (Delivery.Kill k f) y x = refl
    by (Delivery.Link n k kind f) y x = x
