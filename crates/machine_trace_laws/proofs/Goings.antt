-- Where the hub stands, with all that was told so far.
use Rattle.std.proofs.Common.{◌≡◌, refl, ap, ◌∙◌, sym, subst, ℕ, zero, suc, ◌+◌, ◌≤◌, Bool, true, false, List, [], ◌∷◌, ◌++◌, length, map, cond, arith}
use Rattle.std.proofs.lemmas.Bool.{and_from}
use Rattle.std.proofs.lemmas.Bool.Decides.{nat_tests}
use Rattle.std.proofs.lemmas.List.Sums.{sum_by-cons}
use Rattle.std.specs.Prelude.{not, ◌==◌, ◌||◌, Option, Some, None, if◌then◌else◌, nat_le, nat_lt, find, filter, count_by, slice_get, slice_set, unwrap_or, codes}
use Rattle.std.specs.List.{list_any, list_all}
use Rattle.gv_values.specs.declared.value.Outcome.{Outcome}
use Rattle.gv_values.specs.declared.value.Value.{Value}
use Rattle.scenario_tree.specs.declared.tree.Scenario.{Scenario}
use Rattle.trace_text.specs.declared.line.Line.{Line}
use Rattle.machine.specs.declared.items.Delivery.{Delivery}
use Rattle.machine.specs.declared.items.Item.{Item}
use Rattle.machine.specs.declared.state.Greenlet.{Greenlet}
use Rattle.machine.specs.declared.state.Object.{Object}
use Rattle.machine.specs.declared.state.Phase.{Phase}
use Rattle.machine.specs.State.{State, say}
use Rattle.machine.specs.Holds.{holds}
use Rattle.machine.specs.Soundness.{phase_of, Claim, claim_of, is_live, same_claim}
use Rattle.machine.specs.Expressions.{function_number}
use Rattle.machine.specs.TraceLaws.{is_of, is_some_number, is_end_of, is_park, throws_at_parked}
use Rattle.machine.specs.Landing.{Next}
use Rattle.machine.specs.Greenlets.{add_greenlet, greenlet, nobody, with_phase}
use Rattle.machine.specs.Items.{add_item, drop_items, goes_at_end}
use Rattle.machine.specs.Ends.{ended}
use Rattle.machine.specs.Objects.{without_member, object_at, with_object}
use Rattle.machine.specs.Request.{is_kill, kills_standing}
use Rattle.machine.specs.Settle.{settle}
use Rattle.machine_soundness.specs.Going.{has_no_wait, is_plain, IsKept}
use Rattle.machine_soundness.specs.Laws.{is_wake_of}
use Rattle.machine.proofs.Halves.{left, right}
use Rattle.machine_soundness.proofs.Lists.{all-end, all-get, all-imply, all-filter, all-of, all-set, equal, itself, unequal}
use Rattle.machine_soundness.proofs.Greenlets.{phase-more, phase-other, live-more}
use Rattle.machine_soundness.proofs.Landings.{going-free}
use Rattle.machine_soundness.proofs.States.{IsHost, Moves, all-settle, going, plain-phased, moves-say, moves-settle, moves-drop, moves-made, moves-timeout}
use Rattle.machine_well_formed.specs.Kinds.{declared_kinds, kinds}
use Rattle.machine_well_formed.specs.Texts.{IsFitText, fits_phase, is_among, is_fit_greenlet, is_held, is_raw_function, withins_at, HasMain, IsKnown, fits_item, is_function}
use Rattle.machine_well_formed.proofs.KindLemmas.{KeepsKind, kinds-map, kinds-set, left-kept}
use Rattle.machine_trace_laws.proofs.Histories.{History, IsLawful, Tells, tells-line, with_line}
use Rattle.machine_trace_laws.proofs.Settled.{count-settled, is_settled, settled-settle}
use Rattle.machine_offers.specs.Offers.{is_offered_on, offers_at, offers_of}
use Rattle.machine_offers.proofs.Offers.{AreKeptOffers, FitsTwins, IsFewer, fewer-same, free-offerless, is_offering, member-offers, offers-add, offers-drop, offers-drop_of, offers-map, offers-set, offers-settle, waits-spared}
use Rattle.machine_offers.proofs.Anys.{any-all, any-end, any-filter, any-kept}
use Rattle.machine_trace_laws.proofs.Ties.{Ties, IsOwn, is_over, is_begun, has_wake, any-settle, begun-more, count-other, find-other, free-wakeless, lawful-own, live-begun, live-not-over, over-more, phase-here, ties-add, ties-drop, ties-greenlets, ties-own, ties-say, ties-settle, told-other}
use Rattle.machine.specs.declared.limits.TheConstants.{MOST_KILLS}

-- ---- what is parked

-- each greenlet that is live and not raw, but for this one, has a Wake
abbrev pub AreParkedBut : Option ℕ → State → Type 0
AreParkedBut x s = (k : ℕ) → is_some_number k x ≡ false → is_plain s.greenlets k ≡ true → is_live (phase_of k s.greenlets) ≡ true → has_wake k s.items ≡ true

-- ---- what else is so of states

-- functions and objects are there, where the scenario has a main
abbrev pub KnownIf : Scenario → List Greenlet → List Item → List Object → Type 0
KnownIf c gs items objects = HasMain c → IsKnown c gs items objects

pub known-items : (c : Scenario) (gs : List Greenlet) (items left : List Item) (objects : List Object) → ((p : Item → Bool) → list_all p items ≡ true → list_all p left ≡ true) →
    KnownIf c gs items objects → KnownIf c gs left objects
known-items c gs items left objects f k w = let m = k w in record { functions = m.functions; named = f _ m.named; declared = m.declared }

pub known-settle : (s : State) → KnownIf s.scenario s.greenlets s.items s.objects → KnownIf s.scenario s.greenlets (settle s).items s.objects
known-settle s k w = let m = k w in record { functions = m.functions; named = all-settle (fits_item s.scenario) s ∙ m.named; declared = m.declared }

pub known-add : (d : Delivery) (s : State) → (HasMain s.scenario → fits_item s.scenario d ≡ true) → KnownIf s.scenario s.greenlets s.items s.objects → KnownIf s.scenario s.greenlets (add_item d s).items s.objects
known-add d s e k w = let m = k w in record { functions = m.functions; named = all-end _ s.items _ m.named (e w); declared = m.declared }

pub known-objects : (c : Scenario) (gs : List Greenlet) (items : List Item) (objects now : List Object) → (HasMain c → kinds objects ≡ declared_kinds c → kinds now ≡ kinds objects) → KnownIf c gs items objects → KnownIf c gs items now
known-objects c gs items objects now e k w = let m = k w in record { functions = m.functions; named = m.named; declared = e w m.declared ∙ m.declared }

pub known-made : (c : Scenario) (gs : List Greenlet) (y : Greenlet) (items : List Item) (objects : List Object) → (HasMain c → is_function c y.function ≡ true) → KnownIf c gs items objects → KnownIf c (gs ++ y ∷ []) items objects
known-made c gs y items objects e k w = let m = k w in record { functions = all-end _ gs y m.functions (e w); named = m.named; declared = m.declared }

-- whatever its number, the greenlet runs a function of the scenario
pub function-known : (c : Scenario) (g : ℕ) (gs : List Greenlet) → HasMain c → list_all (λ (x : Greenlet). is_function c x.function) gs ≡ true → is_function c (unwrap_or (slice_get gs g) nobody).function ≡ true
function-known c g gs w h = by (slice_get gs g) refl
  where
    some : (n m : ℕ) → nat_lt n m ≡ true → nat_lt 0 m ≡ true
    some n m e = grind (arith, nat_tests, e)

    by : (o : Option Greenlet) → slice_get gs g ≡ o → is_function c (unwrap_or o nobody).function ≡ true
    by None e = some (function_number (codes "main") c.functions) (length c.functions) w
    by (Some x) e = all-get (λ (y : Greenlet). is_function c y.function) gs g x e h

pub known-set : (c : Scenario) (gs : List Greenlet) (g : ℕ) (x : Greenlet) (items : List Item) (objects : List Object) → x.function ≡ (unwrap_or (slice_get gs g) nobody).function → KnownIf c gs items objects →
    KnownIf c (slice_set gs g x) items objects
known-set c gs g x items objects e k w =
    let m = k w in
    record { functions = all-set (λ (y : Greenlet). is_function c y.function) gs g x (ap (is_function c) e ∙ function-known c g gs w m.functions) m.functions; named = m.named; declared = m.declared }

-- so many kills stand at most, each body fits, what texts name is there, and each offer has its Wake
pub record Sides (s : State) : Type 0 where
  pub kills : kills_standing s ≤ MOST_KILLS
  pub bodies : IsFitText s.scenario
  pub fit : list_all (is_fit_greenlet s.scenario) s.greenlets ≡ true
  pub known : KnownIf s.scenario s.greenlets s.items s.objects
  pub offers : AreKeptOffers s.objects s.items s.next_since

-- each timeout is that of a block in which its greenlet is
abbrev pub AreHeld : List Greenlet → List Item → Type 0
AreHeld gs items = list_all (λ (i : Item). is_held gs i.delivery) items ≡ true

-- the same, where this greenlet is in these blocks
abbrev pub is_held_by : ℕ → List ℕ → List Greenlet → Delivery → Bool
is_held_by g ns gs (Delivery.Timeout h n deadline) = if g == h then is_among n ns else is_among n (withins_at (phase_of h gs))
is_held_by g ns gs (Delivery.Link n h kind f) = nat_lt 0 n
is_held_by g ns gs d = true

abbrev pub AreHeldBy : ℕ → List ℕ → List Greenlet → List Item → Type 0
AreHeldBy g ns gs items = list_all (λ (i : Item). is_held_by g ns gs i.delivery) items ≡ true

-- who is in more blocks holds no less
pub held-by : (g : ℕ) (ns : List ℕ) (gs : List Greenlet) (items : List Item) → ((n : ℕ) → is_among n (withins_at (phase_of g gs)) ≡ true → is_among n ns ≡ true) → AreHeld gs items → AreHeldBy g ns gs items
held-by g ns gs items f h = all-imply _ _ items (λ i. by i.delivery) h
  where
    of : (k n : ℕ) (c : Bool) → (g == k) ≡ c → is_among n (withins_at (phase_of k gs)) ≡ true → (if c then is_among n ns else is_among n (withins_at (phase_of k gs))) ≡ true
    of k n true e z = f n (subst (λ j. is_among n (withins_at (phase_of j gs)) ≡ true) (sym (equal g k e)) z)
    of k n false e z = z

    by : (d : Delivery) → is_held gs d ≡ true → is_held_by g ns gs d ≡ true
    by (Delivery.Timeout k n deadline) z = of k n (g == k) refl z
    by (Delivery.Start k deadline) z = refl
    by (Delivery.Wake k w) z = refl
    by (Delivery.Late k deadline n) z = refl
    by (Delivery.Kill k f) z = refl
    by (Delivery.Link n k kind x) z = z

-- one that is made is in no block
pub held-more : (gs fs : List Greenlet) (items : List Item) → AreHeld gs items → AreHeld (gs ++ fs) items
held-more gs fs items h = all-imply _ _ items (λ i. by i.delivery) h
  where
    of : (k n : ℕ) (p : Option Phase) → phase_of k gs ≡ p → is_among n (withins_at p) ≡ true → is_among n (withins_at (phase_of k (gs ++ fs))) ≡ true
    of k n None e z = absurd (cc z)
    of k n (Some p) e z = ap (λ q. is_among n (withins_at q)) (phase-more gs fs k p e) ∙ z

    by : (d : Delivery) → is_held gs d ≡ true → is_held (gs ++ fs) d ≡ true
    by (Delivery.Timeout k n deadline) z = of k n (phase_of k gs) refl z
    by (Delivery.Start k deadline) z = refl
    by (Delivery.Wake k w) z = refl
    by (Delivery.Late k deadline n) z = refl
    by (Delivery.Kill k f) z = refl
    by (Delivery.Link n k kind x) z = z

-- where phases are the same
pub held-phases : (gs fs : List Greenlet) (items : List Item) → ((k : ℕ) → withins_at (phase_of k fs) ≡ withins_at (phase_of k gs)) → AreHeld gs items → AreHeld fs items
held-phases gs fs items f h = all-imply _ _ items (λ i. by i.delivery) h
  where
    by : (d : Delivery) → is_held gs d ≡ true → is_held fs d ≡ true
    by (Delivery.Timeout k n deadline) z = ap (is_among n) (f k) ∙ z
    by (Delivery.Start k deadline) z = refl
    by (Delivery.Wake k w) z = refl
    by (Delivery.Late k deadline n) z = refl
    by (Delivery.Kill k f) z = refl
    by (Delivery.Link n k kind x) z = z

-- whatever its number, the greenlet fits
pub greenlet-fit : (c : Scenario) (g : ℕ) (gs : List Greenlet) → list_all (is_fit_greenlet c) gs ≡ true → is_fit_greenlet c (unwrap_or (slice_get gs g) nobody) ≡ true
greenlet-fit c g gs h = by (slice_get gs g) refl
  where
    by : (o : Option Greenlet) → slice_get gs g ≡ o → is_fit_greenlet c (unwrap_or o nobody) ≡ true
    by None e = refl
    by (Some x) e = all-get (is_fit_greenlet c) gs g x e h

count-less : {X : Type 0} (kept p : X → Bool) (xs : List X) → count_by p (filter kept xs) ≤ count_by p xs
count-less kept p [] = omega arith
count-less kept p (x ∷ xs) = by (kept x) (count-less kept p xs)
  where
    by : (b : Bool) → count_by p (filter kept xs) ≤ count_by p xs → count_by p (cond b (x ∷ filter kept xs) (filter kept xs)) ≤ count_by p (x ∷ xs)
    by true e =
        let l : count_by p (x ∷ filter kept xs) ≡ cond (p x) 1 0 + count_by p (filter kept xs) = sum_by-cons (λ y. cond (p y) 1 0) x (filter kept xs) in
        let r : count_by p (x ∷ xs) ≡ cond (p x) 1 0 + count_by p xs = sum_by-cons (λ y. cond (p y) 1 0) x xs in
        omega (arith, l, r, e)
    by false e =
        let r : count_by p (x ∷ xs) ≡ cond (p x) 1 0 + count_by p xs = sum_by-cons (λ y. cond (p y) 1 0) x xs in
        omega (arith, r, e)

pub count-end : {X : Type 0} (p : X → Bool) (xs : List X) (x : X) → count_by p (xs ++ x ∷ []) ≡ count_by p xs + cond (p x) 1 0
count-end p [] x = sum_by-cons (λ y. cond (p y) 1 0) x [] ∙ (let e : cond (p x) 1 0 + 0 ≡ 0 + cond (p x) 1 0 = omega arith in e)
count-end p (y ∷ xs) x =
    let l : count_by p (y ∷ xs ++ x ∷ []) ≡ cond (p y) 1 0 + count_by p (xs ++ x ∷ []) = sum_by-cons (λ z. cond (p z) 1 0) y (xs ++ x ∷ []) in
    let r : count_by p (y ∷ xs) ≡ cond (p y) 1 0 + count_by p xs = sum_by-cons (λ z. cond (p z) 1 0) y xs in
    let rest = count-end p xs x in
    omega (arith, l, r, rest)

pub sides-settle : (s : State) → Sides s → Sides (settle s)
sides-settle s m = record { kills = subst (λ n. n ≤ MOST_KILLS) (sym (count-settled (λ n d. is_kill d) (map (holds s) s.items) s.next_ready s.items)) m.kills; bodies = m.bodies; fit = m.fit; known = known-settle s m.known; offers = offers-settle s m.offers }

pub sides-drop : (test : Delivery → Bool) (s : State) → AreKeptOffers s.objects (drop_items test s).items s.next_since → Sides s → Sides (drop_items test s)
sides-drop test s offers m = let less = count-less (λ (i : Item). not (test i.delivery)) (λ (i : Item). is_kill i.delivery) s.items in let k = m.kills in record { kills = omega (arith, less, k); bodies = m.bodies; fit = m.fit; known = known-items s.scenario s.greenlets s.items (drop_items test s).items s.objects (λ p e. all-filter _ p p s.items (λ i k z. z) e) m.known; offers = offers }

pub sides-add : (d : Delivery) (s : State) → is_kill d ≡ false → (HasMain s.scenario → fits_item s.scenario d ≡ true) → FitsTwins d s.items → Sides s → Sides (add_item d s)
sides-add d s e f twins m =
    let all : kills_standing (add_item d s) ≡ kills_standing s + cond (is_kill d) 1 0 = count-end (λ (i : Item). is_kill i.delivery) s.items _ in
    let none : ◌≡◌ {A = ℕ} (cond (is_kill d) 1 0) 0 = ap (λ b. cond b 1 0) e in
    let k = m.kills in
    record { kills = omega (arith, all, none, k); bodies = m.bodies; fit = m.fit; known = known-add d s f m.known; offers = offers-add d s.objects s.items s.next_since twins m.offers }

-- ---- where the hub stands

-- a greenlet goes, and this is its host
pub record Goes (b : History) (g h : ℕ) (s : State) : Type 0 where
  pub moves : Moves g h s
  pub story : History
  pub tells : Tells b story s.lines s.posts
  pub ties : Ties None story s
  pub parking : AreParkedBut (Some h) s
  pub main : is_live (phase_of 0 s.greenlets) ≡ true
  pub sides : Sides s
  pub held : AreHeld s.greenlets s.items

-- none goes
pub record Rests (b : History) (s : State) : Type 0 where
  pub kept : IsKept s
  pub story : History
  pub tells : Tells b story s.lines s.posts
  pub ties : Ties None story s
  pub parking : AreParkedBut None s
  pub main : is_live (phase_of 0 s.greenlets) ≡ true
  pub sides : Sides s
  pub held : AreHeld s.greenlets s.items

-- an input lands where this is the host
pub record Hosted (b : History) (h : ℕ) (s : State) : Type 0 where
  pub kept : IsKept s
  pub host : IsHost h s
  pub story : History
  pub tells : Tells b story s.lines s.posts
  pub ties : Ties None story s
  pub parking : AreParkedBut (Some h) s
  pub main : is_live (phase_of 0 s.greenlets) ≡ true
  pub sides : Sides s
  pub held : AreHeld s.greenlets s.items

-- a greenlet with this host is about to begin or to go on
pub record Loose (b : History) (g h : ℕ) (s : State) : Type 0 where
  pub kept : IsKept s
  pub there : slice_get s.greenlets g ≡ Some (greenlet g s)
  pub going : is_over (phase_of g s.greenlets) ≡ false
  pub story : History
  pub tells : Tells b story s.lines s.posts
  pub ties : Ties (Some g) story s
  pub parking : AreParkedBut (Some h) s
  pub main : (0 == g) ≡ false → is_live (phase_of 0 s.greenlets) ≡ true
  pub sides : Sides s

-- the run is over
pub record Ends (b : History) (s : State) : Type 0 where
  pub story : History
  pub tells : Tells b story s.lines s.posts
  pub kept : IsKept s
  pub sides : Sides s
  pub held : AreHeld s.greenlets s.items

abbrev pub At : History → Next → Type 0
At b (Next.Going g s) = (h : ℕ) × Goes b g h s × (is_settled s ≡ true)
At b (Next.Resting s) = Rests b s × (is_settled s ≡ true)
At b (Next.Over cause s) = Ends b s

-- ---- lines of the one that goes

pub goes-say : (b : History) (g h : ℕ) (line : Line) (s : State) → IsOwn g line → ((before : List Line) → throws_at_parked before line ≡ true) →
    Goes b g h s → Goes b g h (say line s)
goes-say b g h line s o calm m =
    record {
      moves = moves-say line g h s m.moves;
      story = with_line line m.story;
      tells = tells-line b m.story s.lines s.posts line (lawful-own None g line m.story s o (live-not-over _ m.moves.live) (calm m.story.past) m.ties) m.tells;
      ties = ties-say None (with_line line m.story) line s (ties-own None g line m.story s o (λ e. live-begun _ m.moves.live) (free-wakeless g s.items (going-free g s m.moves.kept (going g h s m.moves))) m.ties);
      parking = m.parking;
      main = m.main;
      sides = record { kills = m.sides.kills; bodies = m.sides.bodies; fit = m.sides.fit; known = m.sides.known; offers = m.sides.offers };
      held = m.held;
    }

-- ---- items

pub goes-settle : (b : History) (g h : ℕ) (s : State) → Goes b g h s → Goes b g h (settle s)
goes-settle b g h s m =
    record {
      moves = moves-settle g h s m.moves;
      story = m.story;
      tells = m.tells;
      ties = ties-settle None m.story s m.ties;
      parking = λ k e p l. any-settle (is_wake_of k) s ∙ m.parking k e p l;
      main = m.main;
      sides = sides-settle s m.sides;
      held = all-settle (is_held s.greenlets) s ∙ m.held;
    }

pub rests-settle : (b : History) (s : State) → IsKept (settle s) → Rests b s → Rests b (settle s)
rests-settle b s kept m =
    record {
      kept = kept;
      story = m.story;
      tells = m.tells;
      ties = ties-settle None m.story s m.ties;
      parking = λ k e p l. any-settle (is_wake_of k) s ∙ m.parking k e p l;
      main = m.main;
      sides = sides-settle s m.sides;
      held = all-settle (is_held s.greenlets) s ∙ m.held;
    }

pub hosted-settle : (b : History) (h : ℕ) (s : State) → IsKept (settle s) → IsHost h (settle s) → Hosted b h s → Hosted b h (settle s)
hosted-settle b h s kept host m =
    record {
      kept = kept;
      host = host;
      story = m.story;
      tells = m.tells;
      ties = ties-settle None m.story s m.ties;
      parking = λ k e p l. any-settle (is_wake_of k) s ∙ m.parking k e p l;
      main = m.main;
      sides = sides-settle s m.sides;
      held = all-settle (is_held s.greenlets) s ∙ m.held;
    }

-- items go that are no Wakes
pub goes-drop : (b : History) (g h : ℕ) (test : Delivery → Bool) (s : State) → ((k : ℕ) (d : Delivery) → is_wake_of k d ≡ true → not (test d) ≡ true) →
    Goes b g h s → Goes b g h (drop_items test s)
goes-drop b g h test s f m =
    record {
      moves = moves-drop test g h s m.moves;
      story = m.story;
      tells = m.tells;
      ties = ties-drop None m.story test s m.ties;
      parking = λ k e p l. any-kept (λ (i : Item). not (test i.delivery)) (λ (i : Item). is_wake_of k i.delivery) s.items (λ i. f k i.delivery) (m.parking k e p l);
      main = m.main;
      sides = sides-drop test s (offers-drop test s.objects s.items s.next_since (λ o d e. spared o d e) m.sides.offers) m.sides;
      held = all-filter _ _ _ s.items (λ i k z. z) m.held;
    }
  where
    spared : (o : ℕ) (d : Delivery) → is_offered_on o d ≡ true → not (test d) ≡ true
    spared o (Delivery.Wake k w) e = f k (Delivery.Wake k w) (itself k)
    spared o (Delivery.Start k deadline) e = absurd (cc e)
    spared o (Delivery.Late k deadline n) e = absurd (cc e)
    spared o (Delivery.Timeout k n deadline) e = absurd (cc e)
    spared o (Delivery.Kill k x) e = absurd (cc e)
    spared o (Delivery.Link n k kind x) e = absurd (cc e)

-- an item comes that is no Wake, Kill or Link
pub goes-add : (b : History) (g h : ℕ) (d : Delivery) (s : State) → Moves g h (add_item d s) → ((k : ℕ) → is_wake_of k d ≡ false) → is_kill d ≡ false →
    ((n : ℕ) → not (same_claim (Some (Claim.LinkNumbered n)) (claim_of d)) ≡ true) → is_held s.greenlets d ≡ true → (HasMain s.scenario → fits_item s.scenario d ≡ true) → FitsTwins d s.items → Goes b g h s →
    Goes b g h (add_item d s)
goes-add b g h d s moves w c u z f twins m =
    record {
      moves = moves;
      story = m.story;
      tells = m.tells;
      ties = ties-add None m.story d s (λ k e. absurd (cc (w k, e))) (λ n e. u n) m.ties;
      parking = λ k e p l. any-end (λ (i : Item). is_wake_of k i.delivery) s.items _ ∙ ap (λ z. z || is_wake_of k d) (m.parking k e p l);
      main = m.main;
      sides = sides-add d s c f twins m.sides;
      held = all-end _ s.items _ m.held z;
    }

-- ---- objects and greenlets

-- another object, which in a scenario with a main is of the kind of the one before it, and has no more offers
pub goes-put : (b : History) (o : ℕ) (x : Object) (g h : ℕ) (s : State) → (HasMain s.scenario → kinds s.objects ≡ declared_kinds s.scenario → KeepsKind (object_at o s) x) →
    IsFewer (offers_at o s.objects) (offers_of x) → Moves g h (with_object o x s) → Goes b g h s → Goes b g h (with_object o x s)
goes-put b o x g h s kept fewer moves m =
    record {
      moves = moves;
      story = m.story;
      tells = m.tells;
      ties = record {
        ended = m.ties.ended;
        fresh = m.ties.fresh;
        parked = m.ties.parked;
        links = m.ties.links;
        jobs = m.ties.jobs;
        fewer = m.ties.fewer;
        done = m.ties.done;
        rising = m.ties.rising;
        heard = m.ties.heard;
      };
      parking = m.parking;
      main = m.main;
      sides = record { kills = m.sides.kills; bodies = m.sides.bodies; fit = m.sides.fit; known = known-objects s.scenario s.greenlets s.items s.objects (slice_set s.objects o x) (λ w d. kinds-set s.objects o x (kept w d)) m.sides.known; offers = offers-set s.objects o x s.items s.next_since fewer m.sides.offers };
      held = m.held;
    }

-- another object of the same kind, with the same offers
abbrev pub goes-object : (b : History) (o : ℕ) (x : Object) (g h : ℕ) (s : State) → KeepsKind (object_at o s) x → offers_of x ≡ offers_of (object_at o s) → Moves g h (with_object o x s) → Goes b g h s →
    Goes b g h (with_object o x s)
goes-object b o x g h s kept same moves m = goes-put b o x g h s (λ w d. kept) (fewer-same (offers_at o s.objects) (offers_of x) same) moves m

-- other objects of the same kinds
pub rests-objects : (b : History) (objects : List Object) (s : State) → kinds objects ≡ kinds s.objects → AreKeptOffers objects s.items s.next_since → IsKept (record s { objects = objects }) → Rests b s →
    Rests b (record s { objects = objects })
rests-objects b objects s same offers kept m =
    record {
      kept = kept;
      story = m.story;
      tells = m.tells;
      ties = record {
        ended = m.ties.ended;
        fresh = m.ties.fresh;
        parked = m.ties.parked;
        links = m.ties.links;
        jobs = m.ties.jobs;
        fewer = m.ties.fewer;
        done = m.ties.done;
        rising = m.ties.rising;
        heard = m.ties.heard;
      };
      parking = m.parking;
      main = m.main;
      sides = record { kills = m.sides.kills; bodies = m.sides.bodies; fit = m.sides.fit; known = known-objects s.scenario s.greenlets s.items s.objects objects (λ w d. same) m.sides.known; offers = offers };
      held = m.held;
    }

pub goes-timeout : (b : History) (g h : ℕ) (s : State) → Goes b g h s → Goes b g h (record s { timeouts = s.timeouts + 1 })
goes-timeout b g h s m =
    record {
      moves = moves-timeout g h s m.moves;
      story = m.story;
      tells = m.tells;
      ties = record {
        ended = m.ties.ended;
        fresh = m.ties.fresh;
        parked = m.ties.parked;
        links = m.ties.links;
        jobs = m.ties.jobs;
        fewer = m.ties.fewer;
        done = m.ties.done;
        rising = m.ties.rising;
        heard = m.ties.heard;
      };
      parking = m.parking;
      main = m.main;
      sides = record { kills = m.sides.kills; bodies = m.sides.bodies; fit = m.sides.fit; known = m.sides.known; offers = m.sides.offers };
      held = m.held;
    }

-- one that is New is not live
more-old : (gs : List Greenlet) (y : Greenlet) (k : ℕ) → is_begun (Some y.phase) ≡ false → is_live (phase_of k (gs ++ y ∷ [])) ≡ true → is_live (phase_of k gs) ≡ true
more-old [] y zero e l = absurd (cc (e, live-begun (Some y.phase) l))
more-old [] y (suc k) e l = l
more-old (z ∷ gs) y zero e l = l
more-old (z ∷ gs) y (suc k) e l = more-old gs y k e l

-- so it was there, raw or not as before
more-plain : (gs : List Greenlet) (y : Greenlet) (k : ℕ) → is_live (phase_of k gs) ≡ true → is_plain (gs ++ y ∷ []) k ≡ is_plain gs k
more-plain [] y k l = absurd (cc l)
more-plain (z ∷ gs) y zero l = refl
more-plain (z ∷ gs) y (suc k) l = more-plain gs y k l

pub parked-more : (x : Option ℕ) (y : Greenlet) (s : State) → is_begun (Some y.phase) ≡ false → AreParkedBut x s → AreParkedBut x (record s { greenlets = s.greenlets ++ y ∷ [] })
parked-more x y s e f k d p l =
    let old = more-old s.greenlets y k e l in
    f k d (sym (more-plain s.greenlets y k old) ∙ p) old

pub goes-made : (b : History) (raw : Bool) (parent f : ℕ) (args : List Value) (g h : ℕ) (s : State) → (if raw then is_raw_function s.scenario f else true) ≡ true → (HasMain s.scenario → is_function s.scenario f ≡ true) → Goes b g h s → Goes b g h (add_greenlet raw parent f args s)
goes-made b raw parent f args g h s z e m =
    let y : Greenlet = record { raw = raw; parent = parent; function = f; phase = Phase.New args } in
    record {
      moves = moves-made raw parent f args g h s m.moves;
      story = m.story;
      tells = m.tells;
      ties = ties-greenlets None m.story (s.greenlets ++ y ∷ []) s (λ k. over-more s.greenlets y k refl) (λ k. begun-more s.greenlets y k) m.ties;
      parking = parked-more (Some h) y s refl m.parking;
      main = live-more s.greenlets _ 0 m.main;
      sides = record { kills = m.sides.kills; bodies = m.sides.bodies; fit = all-end (is_fit_greenlet s.scenario) s.greenlets y m.sides.fit (and_from _ true z refl); known = known-made s.scenario s.greenlets y s.items s.objects e m.sides.known; offers = m.sides.offers };
      held = held-more s.greenlets (y ∷ []) s.items m.held;
    }

-- ---- an end

turned : (a b : ℕ) → (a == b) ≡ (b == a)
turned a b = grind (arith, nat_tests)

pub ties-ended : (g : ℕ) (o : Outcome) (h : History) (s : State) → slice_get s.greenlets g ≡ Some (greenlet g s) → Ties (Some g) h s →
    Ties None (with_line (Line.End g o) h) (ended g o s)
ties-ended g o h s there t =
    record {
      ended = λ k. over k (k == g) refl;
      fresh = λ k e z. fresh k (k == g) refl z;
      parked = λ k e. parked k (k == g) refl (sym (any-settle (is_wake_of k) gone) ∙ e);
      links = λ n e. and_from _ _ (left _ _ (t.links n e))
          (all-settle (λ d. not (same_claim (Some (Claim.LinkNumbered n)) (claim_of d))) gone
          ∙ all-filter _ _ _ s.items (λ i k z. z) (right (nat_le n s.links) _ (t.links n e)));
      jobs = λ j job c. told-other (length s.jobs) j job (Line.End g o) h.past refl (t.jobs j job c);
      fewer = λ j e. count-other _ (Line.End g o) h.past refl ∙ t.fewer j e;
      done = λ j. t.done j;
      rising = t.rising;
      heard = t.heard;
    }
  where
    new : Greenlet
    new = record (greenlet g s) { phase = Phase.Done o }

    gone : State
    gone =
        let u = drop_items (goes_at_end g o) (with_phase g (Phase.Done o) (say (Line.End g o) s)) in
        record u { objects = map (without_member g) u.objects }

    over : (k : ℕ) (b : Bool) → (k == g) ≡ b → (b || list_any (is_end_of k) h.past) ≡ is_over (phase_of k (slice_set s.greenlets g new))
    over k true e = subst (λ i. true ≡ is_over (phase_of i (slice_set s.greenlets g new))) (sym (equal k g e)) (sym (ap is_over (phase-here s.greenlets g new (greenlet g s) there)))
    over k false e = t.ended k ∙ sym (ap is_over (phase-other s.greenlets g k new (unequal g k (turned g k ∙ e))))

    fresh : (k : ℕ) (b : Bool) → (k == g) ≡ b → is_begun (phase_of k (slice_set s.greenlets g new)) ≡ false → ◌≡◌ {A = Option Line} (find (is_of k) (Line.End g o ∷ h.past)) None
    fresh k true e z =
        absurd (cc (ap is_begun (phase-here s.greenlets g new (greenlet g s) there), subst (λ i. is_begun (phase_of i (slice_set s.greenlets g new)) ≡ false) (equal k g e) z))
    fresh k false e z = find-other k (Line.End g o) h.past e ∙ t.fresh k e (ap is_begun (sym (phase-other s.greenlets g k new (unequal g k (turned g k ∙ e)))) ∙ z)

    none : (d : Delivery) → not (goes_at_end g o d) ≡ true → not (is_wake_of g d) ≡ true
    none (Delivery.Wake k w) e = e
    none (Delivery.Start k deadline) e = refl
    none (Delivery.Late k deadline n) e = refl
    none (Delivery.Timeout k n deadline) e = refl
    none (Delivery.Kill k f) e = refl
    none (Delivery.Link n k kind f) e = refl

    parked : (k : ℕ) (b : Bool) → (k == g) ≡ b → has_wake k (filter (λ (i : Item). not (goes_at_end g o i.delivery)) s.items) ≡ true → is_park (find (is_of k) (Line.End g o ∷ h.past)) ≡ true
    parked k true e w =
        let free : list_all (λ (i : Item). not (is_wake_of g i.delivery)) (filter (λ (i : Item). not (goes_at_end g o i.delivery)) s.items) ≡ true =
        all-filter _ (λ i. true) _ s.items (λ i k z. none i.delivery k) (all-of (λ i. true) s.items (λ i. refl)) in
        let out : not (has_wake g (filter (λ (i : Item). not (goes_at_end g o i.delivery)) s.items)) ≡ true = sym (any-all (λ (i : Item). is_wake_of g i.delivery) (filter (λ (i : Item). not (goes_at_end g o i.delivery)) s.items)) ∙ free in
        let own : has_wake g (filter (λ (i : Item). not (goes_at_end g o i.delivery)) s.items) ≡ true = subst (λ z. has_wake z (filter (λ (i : Item). not (goes_at_end g o i.delivery)) s.items) ≡ true) (equal k g e) w in
        absurd (cc (out, ap not own))
    parked k false e w = ap is_park (find-other k (Line.End g o) h.past e) ∙ t.parked k (any-filter _ _ s.items w)

pub lawful-ended : (x : Option ℕ) (g : ℕ) (o : Outcome) (h : History) (s : State) → is_over (phase_of g s.greenlets) ≡ false → Ties x h s → IsLawful h.past (Line.End g o)
lawful-ended x g o h s u t =
    record { once = ap not (t.ended g ∙ u); last = ap not (t.ended g ∙ u); parked = refl; links = refl; rising = refl; jobs = refl }

pub sides-ended : (g : ℕ) (o : Outcome) (s : State) → has_no_wait g s.items ≡ true → Sides s → Sides (ended g o s)
sides-ended g o s free m =
    let u = drop_items (goes_at_end g o) (with_phase g (Phase.Done o) (say (Line.End g o) s)) in
    let less = sides-drop (goes_at_end g o) s (offers-drop_of g (goes_at_end g o) s.objects s.items s.next_since (λ p d. spared p d) (free-offerless g s.items free) m.offers) m in
    let new : Greenlet = record (greenlet g s) { phase = Phase.Done o } in
    let own : is_fit_greenlet s.scenario new ≡ true =
    and_from (if new.raw then is_raw_function s.scenario new.function else true) true
    (left (if new.raw then is_raw_function s.scenario new.function else true) (fits_phase s.scenario (not new.raw) (greenlet g s).phase) (greenlet-fit s.scenario g s.greenlets m.fit)) refl in
    sides-settle (record u { objects = map (without_member g) u.objects })
    (record {
      kills = less.kills;
      bodies = m.bodies;
      fit = all-set (is_fit_greenlet s.scenario) s.greenlets g new own m.fit;
      known = known-objects s.scenario u.greenlets u.items s.objects (map (without_member g) s.objects) (λ w d. kinds-map (without_member g) (left-kept g) s.objects) (known-set s.scenario s.greenlets g new u.items s.objects refl less.known);
      offers = offers-map (without_member g) s.objects u.items s.next_since (member-offers g) less.offers;
    })
  where
    spared : (p : ℕ) (d : Delivery) → not (is_offering g d) ≡ true → is_offered_on p d ≡ true → not (goes_at_end g o d) ≡ true
    spared p (Delivery.Wake k w) e z = waits-spared g p (Delivery.Wake k w) e z
    spared p (Delivery.Start k deadline) e z = absurd (cc z)
    spared p (Delivery.Late k deadline n) e z = absurd (cc z)
    spared p (Delivery.Timeout k n deadline) e z = absurd (cc z)
    spared p (Delivery.Kill k f) e z = absurd (cc z)
    spared p (Delivery.Link n k kind f) e z = absurd (cc z)

-- the timeouts of others are held as before
pub held-ended : (g : ℕ) (o : Outcome) (ns : List ℕ) (s : State) → AreHeldBy g ns s.greenlets s.items → AreHeld (ended g o s).greenlets (ended g o s).items
held-ended g o ns s h =
    let u = drop_items (goes_at_end g o) (with_phase g (Phase.Done o) (say (Line.End g o) s)) in
    all-settle (is_held (slice_set s.greenlets g (record (greenlet g s) { phase = Phase.Done o }))) (record u { objects = map (without_member g) u.objects })
    ∙ all-filter _ _ _ s.items (λ i. by i.delivery) h
  where
    of : (k n : ℕ) (c : Bool) → (g == k) ≡ c → not c ≡ true → (if c then is_among n ns else is_among n (withins_at (phase_of k s.greenlets))) ≡ true →
        is_among n (withins_at (phase_of k (slice_set s.greenlets g (record (greenlet g s) { phase = Phase.Done o })))) ≡ true
    of k n true e z y = absurd (cc z)
    of k n false e z y = ap (λ p. is_among n (withins_at p)) (phase-other s.greenlets g k (record (greenlet g s) { phase = Phase.Done o }) (unequal g k e)) ∙ y

    by : (d : Delivery) → not (goes_at_end g o d) ≡ true → is_held_by g ns s.greenlets d ≡ true → is_held (slice_set s.greenlets g (record (greenlet g s) { phase = Phase.Done o })) d ≡ true
    by (Delivery.Timeout k n deadline) z y = of k n (g == k) refl z y
    by (Delivery.Start k deadline) z y = refl
    by (Delivery.Wake k w) z y = refl
    by (Delivery.Late k deadline n) z y = refl
    by (Delivery.Kill k f) z y = refl
    by (Delivery.Link n k kind x) z y = y

-- another still has its Wake
pub wake-ended : (g : ℕ) (o : Outcome) (k : ℕ) (s : State) → (k == g) ≡ false → has_wake k s.items ≡ true → has_wake k (ended g o s).items ≡ true
wake-ended g o k s e w =
    let u = drop_items (goes_at_end g o) (with_phase g (Phase.Done o) (say (Line.End g o) s)) in
    any-settle (is_wake_of k) (record u { objects = map (without_member g) u.objects })
    ∙ any-kept (λ (i : Item). not (goes_at_end g o i.delivery)) (λ (i : Item). is_wake_of k i.delivery) s.items (λ i. by i.delivery) w
  where
    by : (d : Delivery) → is_wake_of k d ≡ true → not (goes_at_end g o d) ≡ true
    by (Delivery.Wake j w) z = let same : k ≡ j = equal k j z in ap not (ap (λ i. g == i) (sym same) ∙ turned g k ∙ e)
    by (Delivery.Start j deadline) z = absurd (cc z)
    by (Delivery.Late j deadline n) z = absurd (cc z)
    by (Delivery.Timeout j n deadline) z = absurd (cc z)
    by (Delivery.Kill j f) z = absurd (cc z)
    by (Delivery.Link n j kind f) z = absurd (cc z)

-- who is live after an end is not who ended, and was so before
live-ended : (g : ℕ) (o : Outcome) (k : ℕ) (s : State) → slice_get s.greenlets g ≡ Some (greenlet g s) → is_live (phase_of k (ended g o s).greenlets) ≡ true →
    ((k == g) ≡ false) × (is_live (phase_of k s.greenlets) ≡ true)
live-ended g o k s there l = by (k == g) refl
  where
    new : Greenlet
    new = record (greenlet g s) { phase = Phase.Done o }

    by : (b : Bool) → (k == g) ≡ b → ((k == g) ≡ false) × (is_live (phase_of k s.greenlets) ≡ true)
    by true e =
        absurd (cc (ap is_live (phase-here s.greenlets g new (greenlet g s) there), subst (λ i. is_live (phase_of i (slice_set s.greenlets g new)) ≡ true) (equal k g e) l))
    by false e = (e, ap is_live (sym (phase-other s.greenlets g k new (unequal g k (turned g k ∙ e)))) ∙ l)

pub parked-ended : (x : Option ℕ) (g : ℕ) (o : Outcome) (s : State) → slice_get s.greenlets g ≡ Some (greenlet g s) → AreParkedBut x s → AreParkedBut x (ended g o s)
parked-ended x g o s there f k d p l =
    let old = live-ended g o k s there l in
    wake-ended g o k s old.0 (f k d (sym (plain-phased g (Phase.Done o) s k) ∙ p) old.1)

-- it was the only one that was not parked
pub parked-all : (g : ℕ) (o : Outcome) (s : State) → slice_get s.greenlets g ≡ Some (greenlet g s) → AreParkedBut (Some g) s → AreParkedBut None (ended g o s)
parked-all g o s there f k d p l =
    let old = live-ended g o k s there l in
    wake-ended g o k s old.0 (f k old.0 (sym (plain-phased g (Phase.Done o) s k) ∙ p) old.1)

pub main-ended : (g : ℕ) (o : Outcome) (s : State) → (g ≡ 0 → ⊥) → is_live (phase_of 0 s.greenlets) ≡ true → is_live (phase_of 0 (ended g o s).greenlets) ≡ true
main-ended g o s e l = ap is_live (phase-other s.greenlets g 0 (record (greenlet g s) { phase = Phase.Done o }) e) ∙ l

pub settled-ended : (g : ℕ) (o : Outcome) (s : State) → is_settled (ended g o s) ≡ true
settled-ended g o s =
    let u = drop_items (goes_at_end g o) (with_phase g (Phase.Done o) (say (Line.End g o) s)) in
    settled-settle (record u { objects = map (without_member g) u.objects })
