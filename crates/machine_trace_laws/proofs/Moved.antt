-- Each request, and a whole move, lawfully.
use Rattle.std.proofs.Common.{◌≡◌, refl, ap, ◌∙◌, sym, subst, ℕ, zero, suc, ◌+◌, ◌-◌, Bool, true, false, List, [], ◌∷◌, length, arith}
use Rattle.std.proofs.lemmas.Bool.{and_from}
use Rattle.std.proofs.lemmas.Bool.Decides.{nat_tests}
use Rattle.std.specs.Prelude.{not, ◌==◌, ◌&&◌, ◌||◌, slice_get, slice_set, Option, Some, None, if◌then◌else◌, nat_lt, nat_le, unwrap_or, min, ℤ, pos, negsuc, find}
use Rattle.std.specs.List.{list_any}
use Rattle.gv_values.specs.declared.value.Value.{Value}
use Rattle.gv_values.specs.declared.value.Outcome.{Outcome}
use Rattle.gv_values.specs.declared.value.Whom.{Whom}
use Rattle.gv_values.specs.declared.fault.FaultKind.{FaultKind}
use Rattle.scenario_rules.specs.declared.mention.Wanted.TheVariants as wanted
use Rattle.scenario_tree.specs.declared.tree.Function.{Function}
use Rattle.scenario_tree.specs.declared.tree.Scenario.{Scenario}
use Rattle.scenario_tree.specs.declared.tree.Statement.{Statement}
use Rattle.scenario_tree.specs.declared.tree.Wait.{Wait}
use Rattle.trace_text.specs.declared.line.Line.{Line}
use Rattle.trace_text.specs.declared.line.Awaited.{Awaited}
use Rattle.trace_text.specs.declared.line.StopCause.{StopCause}
use Rattle.machine.specs.declared.items.Delivery.{Delivery}
use Rattle.machine.specs.declared.items.Item.{Item}
use Rattle.machine.specs.declared.items.Waiting.{Waiting}
use Rattle.gv_values.specs.declared.link.LinkKind.{LinkKind}
use Rattle.machine.specs.declared.state.Frame.{Frame}
use Rattle.machine.specs.declared.state.Greenlet.{Greenlet}
use Rattle.machine.specs.declared.state.Leaving.{Leaving}
use Rattle.machine.specs.declared.state.Local.{Local}
use Rattle.machine.specs.declared.state.Object.{Object}
use Rattle.machine.specs.declared.state.Phase.{Phase}
use Rattle.machine.specs.declared.state.Todo.{Todo}
use Rattle.machine.specs.State.{State, say}
use Rattle.machine.specs.Holds.{outcome_of}
use Rattle.machine.specs.Soundness.{phase_of, is_live, is_unstarted}
use Rattle.machine.specs.BodyMoves.{Did}
use Rattle.machine.specs.declared.request.Request.{Request}
use Rattle.machine.specs.TraceLaws.{is_link_line, is_of, is_park}
use Rattle.machine.specs.Unwinding.{unwind}
use Rattle.machine.specs.Settle.{settle}
use Rattle.machine.specs.Items.{add_item, drop_items}
use Rattle.machine.specs.Greenlets.{add_greenlet, has_greenlet_left, greenlet, with_phase, frame_of, no_function}
use Rattle.machine.specs.Ends.{ended}
use Rattle.machine.specs.Hosts.{host_of, is_above}
use Rattle.gv_values.specs.Ends.{kept}
use Rattle.machine.specs.Request.{Sending, performs, follows, sends, sends_all, kills, kills_standing, link_stands, links, makes, starts_at, start_of, is_new, has_start, releases, finishes, acquires, fault_operand, plain_greenlet, plain_greenlet_list, list_operand, int_operand, any_greenlet, whom_operand, is_link, is_kill, put_result, done, typed, on_host, raw_greenlet, sets_parent}
use Rattle.gv_values.specs.Job.{job_of}
use Rattle.machine.specs.Moves.{does, move, enters, timeout_item, look}
use Rattle.machine.specs.Objects.{at_bound, after_release, takes_value, members_of, sets_of, with_flag, with_shut, with_object, object_at, name_of_object}
use Rattle.machine.specs.Waits.{Performed, comes, raises, nothing, maps}
use Rattle.machine_soundness.specs.Going.{AreNotRaw, is_plain, is_meant_request, next_did, IsKept}
use Rattle.machine_soundness.specs.Laws.{is_wake_of}
use Rattle.machine.proofs.Halves.{left, right}
use Rattle.machine_soundness.proofs.Lists.{all-end, all-set, all-of, next-other, at-most, above, equal, itself, unequal}
use Rattle.machine_soundness.proofs.Greenlets.{at, plain-here, live-at, live-found, live-phase, live-set, new-found, phase-other, host-plain, plain-raw, plain-set}
use Rattle.machine_soundness.proofs.Chains.{phase-kept}
use Rattle.machine_soundness.proofs.Deliveries.{asleep-free}
use Rattle.machine_soundness.proofs.Performs.{link-unclaimed, moves-parent, not-live, raw_greenlet-raw, sends-raw, start_of-fine, timeout-unclaimed}
use Rattle.machine_soundness.proofs.Requests.{members-raw, moves-flag, moves-shut, object-plain, plain_greenlet-raw, plain_greenlet_list-raw}
use Rattle.machine_soundness.proofs.States.{Moves, all-settle, kept-settle, kept-timeout, host-settle, moves-add, moves-ended, moves-link, moves-live, moves-object, moves-say, moves-settle, moves-timeout, plain-phased}
use Rattle.machine_well_formed.specs.Kinds.{kind_of}
use Rattle.machine_well_formed.proofs.KindLemmas.{acquires-fits, flag-kept, result-kept, shut-kept}
use Rattle.machine_trace_laws.proofs.Histories.{History, tells-line, with_line}
use Rattle.machine_trace_laws.proofs.Settled.{settled-settle}
use Rattle.machine_offers.specs.Offers.{offers_at, offers_of}
use Rattle.machine_offers.proofs.Offers.{fewer-none, flag-offers, offers-add, shut-offers}
use Rattle.machine_offers.proofs.Anys.{any-end}
use Rattle.machine_trace_laws.proofs.Ties.{IsOwn, Ties, any-settle, phase-here, free-wakeless, is_over, is_begun, lawful-own, live-not-over, ties-add, ties-greenlets, ties-live, ties-loose, ties-own, ties-say, ties-settle}
use Rattle.machine_trace_laws.proofs.Goings.{AreHeldBy, At, Ends, Goes, Loose, greenlet-fit, held-by, held-ended, held-phases, is_held_by, count-end, goes-add, goes-drop, goes-made, goes-object, goes-put, goes-say, goes-settle, hosted-settle, lawful-ended, main-ended, parked-ended, rests-settle, sides-add, sides-ended, sides-settle, ties-ended, known-add, known-set}
use Rattle.machine_well_formed.specs.Texts.{fits_phase, fits_request, fits_rest, is_among, is_fit_greenlet, is_raw_function, withins, withins_at, HasMain, fits_link, is_function, is_wanted}
use Rattle.machine_well_formed.proofs.Bodies.{IsFitDid, IsFitUnwound, body_move-fit, unwind-fit}
use Rattle.machine_trace_laws.proofs.Placed.{frame-fits, placed-of, unstarted-free}
use Rattle.machine_trace_laws.proofs.Landed.{answered-at, goes-frame, goes-loose, goes_on-at, lands-at}
use Rattle.machine_trace_laws.proofs.Asked.{IsFineAt, is_offer, comes-at, goes-ends, goes-hosted, goes-spawned, maps-at, offered-at, on_host-at, own-print, typed-at}
use Rattle.machine.specs.declared.limits.TheConstants.{MOST_KILLS, MOST_LINKS}

-- ---- kills

abbrev IsSentAt : History → ℕ → ℕ → Sending → Type 0
IsSentAt b g h (Sending.Sent s) = Goes b g h s
IsSentAt b g h (Sending.TooMany s) = Ends b s

pub own-throw : (g : ℕ) (f : FaultKind) → IsOwn g (Line.Throw g f)
own-throw g f =
    record {
      names = refl;
      no_end = λ k. refl;
      no_link = λ k. refl;
      no_job = λ k. refl;
      no_done = λ k. refl;
      no_turn = λ l. refl;
      once = λ l. refl;
      unlinked = λ l. refl;
      timeless = λ l. refl;
      jobless = λ l. refl;
    }

new-phase : (gs : List Greenlet) (k : ℕ) (args : List Value) → (at gs k).phase ≡ Phase.New args → phase_of k gs ≡ Some (Phase.New args)
new-phase gs k args e =
    ap (λ (x : Option Greenlet). elim x [ None ↦ None | Some y ↦ Some y.phase ]) (new-found gs k (ap (λ (p : Phase). is_unstarted (Some p)) e)) ∙ ap (λ (p : Phase). Some p) e

-- one that is New ends unrun
goes-unrun : (b : History) (f : FaultKind) (k g h : ℕ) (args : List Value) (s : State) → (greenlet k s).phase ≡ Phase.New args → Goes b g h s →
    Goes b g h (ended k (kept (Outcome.Fault f)) (say (Line.Throw k f) s))
goes-unrun b f k g h args s e m =
    let o = kept (Outcome.Fault f) in
    let line = Line.Throw k f in
    let t = say line s in
    let phase = new-phase s.greenlets k args e in
    let there = new-found s.greenlets k (ap (λ (p : Phase). is_unstarted (Some p)) e) in
    let asleep : is_live (phase_of k s.greenlets) ≡ true → ⊥ = λ l. cc (ap is_live (sym phase) ∙ l) in
    let not-over : is_over (phase_of k s.greenlets) ≡ false = ap is_over phase in
    let quiet : is_park (find (is_of k) m.story.past) ≡ true = ap is_park (m.ties.fresh k refl (ap is_begun phase)) in
    let thrown : Ties (Some k) (with_line line m.story) t =
    ties-say (Some k) (with_line line m.story) line s
    (ties-own (Some k) k line m.story s (own-throw k f) (λ z. absurd (cc (itself k, z))) (free-wakeless k s.items (asleep-free k s asleep m.moves.kept)) (ties-loose (Some k) m.story s m.ties)) in
    let told = tells-line b m.story s.lines s.posts line (lawful-own None k line m.story s (own-throw k f) not-over quiet m.ties) m.tells in
    record {
      moves = moves-ended k o g h t (not-live s.greenlets k g args e m.moves.live) (not-live s.greenlets k h args e m.moves.host.live) (moves-say line g h s m.moves);
      story = with_line (Line.End k o) (with_line line m.story);
      tells = tells-line b (with_line line m.story) t.lines t.posts (Line.End k o) (lawful-ended (Some k) k o (with_line line m.story) t not-over thrown) told;
      ties = ties-ended k o (with_line line m.story) t there thrown;
      parking = parked-ended (Some h) k o t there m.parking;
      main = main-ended k o t (not-live s.greenlets k 0 args e m.main) m.main;
      sides = sides-ended k o t (asleep-free k s asleep m.moves.kept) (record { kills = m.sides.kills; bodies = m.sides.bodies; fit = m.sides.fit; known = m.sides.known; offers = m.sides.offers });
      held = held-ended k o [] t (unstarted-free k [] s.greenlets s.items (ap is_unstarted phase) m.held);
    }

goes-kill : (b : History) (f : FaultKind) (k g h : ℕ) (s : State) → Moves g h (add_item (Delivery.Kill k f) s) → nat_lt (kills_standing s) MOST_KILLS ≡ true → Goes b g h s →
    Goes b g h (add_item (Delivery.Kill k f) s)
goes-kill b f k g h s moves low m =
    let all : kills_standing (add_item (Delivery.Kill k f) s) ≡ kills_standing s + 1 = count-end (λ (i : Item). is_kill i.delivery) s.items (record { since = s.next_since; delivery = Delivery.Kill k f; ready = None }) in
    record {
      moves = moves;
      story = m.story;
      tells = m.tells;
      ties = ties-add None m.story (Delivery.Kill k f) s (λ j e. absurd (cc e)) (λ n e. refl) m.ties;
      parking = λ j e p l. any-end (λ (i : Item). is_wake_of j i.delivery) s.items _ ∙ ap (λ z. z || false) (m.parking j e p l);
      main = m.main;
      sides = record { kills = grind (arith, nat_tests, all, low); bodies = m.sides.bodies; fit = m.sides.fit; known = known-add (Delivery.Kill k f) s (λ w. refl) m.sides.known; offers = offers-add (Delivery.Kill k f) s.objects s.items s.next_since tt m.sides.offers };
      held = all-end _ s.items _ m.held refl;
    }

sends-at : (b : History) (f : FaultKind) (k g h : ℕ) (s : State) → (greenlet k s).raw ≡ false → Goes b g h s → IsSentAt b g h (sends f k s)
sends-at b f k g h s r m = by (greenlet k s).phase refl
  where
    kill : (c : Bool) → nat_lt (kills_standing s) MOST_KILLS ≡ c → is_live (phase_of k s.greenlets) ≡ true →
        IsSentAt b g h (if c then Sending.Sent (add_item (Delivery.Kill k f) s) else Sending.TooMany s)
    kill true low l =
        goes-kill b f k g h s
        (moves-add (Delivery.Kill k f) g h s (all-of _ s.items (λ i. refl)) l (plain-here s.greenlets k (greenlet k s) (live-found s.greenlets k l) r) refl m.moves) low m
    kill false low l = goes-ends b g h s m

    by : (p : Phase) → (greenlet k s).phase ≡ p → IsSentAt b g h (elim p [
      | Phase.Done o ↦ Sending.Sent s
      | Phase.New args ↦ Sending.Sent (ended k (kept (Outcome.Fault f)) (say (Line.Throw k f) s))
      | Phase.Live frame ↦ if nat_lt (kills_standing s) MOST_KILLS then Sending.Sent (add_item (Delivery.Kill k f) s) else Sending.TooMany s
    ])
    by (Phase.Done o) e = m
    by (Phase.New args) e = goes-unrun b f k g h args s e m
    by (Phase.Live frame) e = kill (nat_lt (kills_standing s) MOST_KILLS) refl (live-at s.greenlets k (ap (λ (x : Phase). is_live (Some x)) e))

sends_all-at : (b : History) (f : FaultKind) (ks : List ℕ) (g h : ℕ) (s : State) → AreNotRaw s.greenlets ks → Goes b g h s → IsSentAt b g h (sends_all f ks s)
sends_all-at b f [] g h s a m = m
sends_all-at b f (k ∷ ks) g h s a m =
    by (sends f k s) refl (sends-at b f k g h s (single (greenlet k s).raw (left _ _ a)) m) (λ t c n. sends_all-at b f ks g h t c n)
  where
    single : (c : Bool) → not c ≡ true → c ≡ false
    single true e = absurd (cc e)
    single false e = refl

    by : (r : Sending) → sends f k s ≡ r → IsSentAt b g h r → ((t : State) → AreNotRaw t.greenlets ks → Goes b g h t → IsSentAt b g h (sends_all f ks t)) →
        IsSentAt b g h (elim r [ Sending.Sent t ↦ sends_all f ks t | Sending.TooMany t ↦ Sending.TooMany t ])
    by (Sending.Sent t) e n rest = rest t (sends-raw f k s t ks e (right (not (greenlet k s).raw) _ a)) n
    by (Sending.TooMany t) e n rest = n

kills-at : (b : History) (g : ℕ) (word : Awaited) (f : FaultKind) (ks : List ℕ) (how : Wait) (s : State) → AreNotRaw s.greenlets ks → Goes b g g s → IsFineAt b g g (kills g word f ks how s)
kills-at b g word f ks how s a m = by (sends_all f ks s) (sends_all-at b f ks g g s a m)
  where
    by : (r : Sending) → IsSentAt b g g r → IsFineAt b g g (elim r [ Sending.TooMany t ↦ Performed.Stops StopCause.NoKills t | Sending.Sent t ↦ comes g word (Waiting.Kill ks) how t ])
    by (Sending.TooMany t) n = n
    by (Sending.Sent t) n = comes-at b g g word (Waiting.Kill ks) how t n.moves.host.plain refl (λ w. refl) n

-- ---- links, starts, greenlets

ties-linked : (h : History) (s : State) → Ties None h s → Ties None h (record s { links = s.links + 1 })
ties-linked h s t =
    record {
      ended = t.ended;
      fresh = t.fresh;
      parked = t.parked;
      links = λ n e. and_from _ _ (above n s.links (left _ _ (t.links n e))) (right (nat_le n s.links) _ (t.links n e));
      jobs = t.jobs;
      fewer = t.fewer;
      done = t.done;
      rising = t.rising;
      heard = t.heard;
    }

goes-link : (b : History) (g h : ℕ) (s : State) → Goes b g h s → Goes b g h (record s { links = s.links + 1 })
goes-link b g h s m =
    record {
      moves = moves-link g h s m.moves;
      story = m.story;
      tells = m.tells;
      ties = ties-linked m.story s m.ties;
      parking = m.parking;
      main = m.main;
      sides = record { kills = m.sides.kills; bodies = m.sides.bodies; fit = m.sides.fit; known = m.sides.known; offers = m.sides.offers };
      held = m.held;
    }

above-none : (n : ℕ) → nat_lt 0 (n + 1) ≡ true
above-none n = grind (arith, nat_tests)

goes-linked : (b : History) (k : ℕ) (kind : LinkKind) (f g h : ℕ) (s : State) → (HasMain s.scenario → fits_link s.scenario kind f ≡ true) → Goes b g h s → Goes b g h (add_item (Delivery.Link (s.links + 1) k kind f) (record s { links = s.links + 1 }))
goes-linked b k kind f g h s z m =
    let t = record s { links = s.links + 1 } in
    record {
      moves = moves-add (Delivery.Link (s.links + 1) k kind f) g h t (link-unclaimed s m.moves.kept) (at-most (s.links + 1)) refl refl (moves-link g h s m.moves);
      story = m.story;
      tells = m.tells;
      ties = ties-add None m.story (Delivery.Link (s.links + 1) k kind f) t (λ j e. absurd (cc e)) (λ j e. other j e) (ties-linked m.story s m.ties);
      parking = λ j e p l. any-end (λ (i : Item). is_wake_of j i.delivery) s.items _ ∙ ap (λ z. z || false) (m.parking j e p l);
      main = m.main;
      sides = sides-add (Delivery.Link (s.links + 1) k kind f) t refl z tt (record { kills = m.sides.kills; bodies = m.sides.bodies; fit = m.sides.fit; known = m.sides.known; offers = m.sides.offers });
      held = all-end _ s.items _ m.held (above-none s.links);
    }
  where
    turned : (a c : ℕ) → not (a == c) ≡ true → not (c == a) ≡ true
    turned a c e = let same : (a == c) ≡ (c == a) = grind (arith, nat_tests) in subst (λ z. not z ≡ true) same e

    other : (j : ℕ) → list_any (is_link_line j) m.story.past ≡ true → not (j == s.links + 1) ≡ true
    other j e = turned (s.links + 1) j (next-other j s.links (left (nat_le j s.links) _ (m.ties.links j e)))

links-at : (b : History) (k : ℕ) (kind : LinkKind) (f g h : ℕ) (s : State) → (HasMain s.scenario → fits_link s.scenario kind f ≡ true) → Goes b g h s → IsFineAt b g h (links k kind f s)
links-at b k kind f g h s z m = by (nat_lt s.links MOST_LINKS) (link_stands kind (outcome_of s (Whom.Greenlet k)))
  where
    by : (d c : Bool) → IsFineAt b g h (if d then
        Performed.Answers (Outcome.Value (Value.Int (pos (s.links + 1)))) (if c then add_item (Delivery.Link (s.links + 1) k kind f) (record s { links = s.links + 1 }) else record s { links = s.links + 1 })
        else Performed.Stops StopCause.NoLinks s)
    by true true = goes-linked b k kind f g h s z m
    by true false = goes-link b g h s m
    by false c = goes-ends b g h s m

no-link-wake : (n : ℤ) (k : ℕ) (d : Delivery) → is_wake_of k d ≡ true → not (is_link n d) ≡ true
no-link-wake (pos n) k (Delivery.Wake j w) e = refl
no-link-wake (negsuc n) k (Delivery.Wake j w) e = refl
no-link-wake n k (Delivery.Start j deadline) e = absurd (cc e)
no-link-wake n k (Delivery.Late j deadline m) e = absurd (cc e)
no-link-wake n k (Delivery.Timeout j m deadline) e = absurd (cc e)
no-link-wake n k (Delivery.Kill j f) e = absurd (cc e)
no-link-wake n k (Delivery.Link m j kind f) e = absurd (cc e)

start_of-at : (b : History) (k g h : ℕ) (s : State) → (greenlet k s).raw ≡ false → Goes b g h s → Goes b g h (start_of k s)
start_of-at b k g h s r m = by (is_new (greenlet k s).phase && not (has_start k s)) (start_of-fine k g h s r m.moves)
  where
    by : (c : Bool) → Moves g h (if c then starts_at None k s else s) → Goes b g h (if c then starts_at None k s else s)
    by true moves = goes-add b g h (Delivery.Start k None) s moves (λ j. refl) refl (λ n. refl) refl (λ w. refl) tt m
    by false moves = m

makes-at : (b : History) (raw : Bool) (parent f : ℕ) (args : List Value) (more : ℕ → State → State) (g h : ℕ) (s : State) →
    Goes b g h s → Goes b g h (more (length s.greenlets) (add_greenlet raw parent f args s)) → IsFineAt b g h (makes raw parent f args more s)
makes-at b raw parent f args more g h s m n = by (has_greenlet_left s)
  where
    by : (c : Bool) → IsFineAt b g h (if c then Performed.Answers (Outcome.Value (Value.Greenlet (length s.greenlets))) (more (length s.greenlets) (add_greenlet raw parent f args s)) else Performed.Stops StopCause.NoGreenlets s)
    by true = n
    by false = goes-ends b g h s m

-- ---- objects

releases-at : (b : History) (k o g h : ℕ) (x : Object) (s : State) → object_at o s ≡ x → Goes b g h s → IsFineAt b g h (releases k o x s)
releases-at b k o g h (Object.Semaphore counter bound) s e m = by (at_bound counter bound)
  where
    by : (c : Bool) → IsFineAt b g h (if c then raises FaultKind.ValueError s else Performed.Answers nothing (with_object o (Object.Semaphore (counter + 1) bound) s))
    by true = m
    by false = goes-object b o (Object.Semaphore (counter + 1) bound) g h s (sym (ap kind_of e)) (sym (ap offers_of e)) (moves-object o (Object.Semaphore (counter + 1) bound) g h s refl m.moves) m
releases-at b k o g h (Object.Lock (Some j) depth) s e m = by (k == j)
  where
    by : (c : Bool) → IsFineAt b g h (if c then Performed.Answers nothing (with_object o (Object.Lock (after_release k (depth - 1)) (depth - 1)) s) else raises FaultKind.RuntimeError s)
    by true = goes-object b o (Object.Lock (after_release k (depth - 1)) (depth - 1)) g h s (sym (ap kind_of e)) (sym (ap offers_of e)) (moves-object o (Object.Lock (after_release k (depth - 1)) (depth - 1)) g h s refl m.moves) m
    by false = m
releases-at b k o g h (Object.Lock None depth) s e m = m
releases-at b k o g h (Object.Event flag sets) s e m = m
releases-at b k o g h (Object.Result x) s e m = m
releases-at b k o g h (Object.Queue kind size items unfinished shut) s e m = m
releases-at b k o g h (Object.Crew size members) s e m = m
releases-at b k o g h (Object.Native slots outstanding) s e m = m
releases-at b k o g h (Object.Channel offers) s e m = m

finishes-at : (b : History) (o g h : ℕ) (x : Object) (s : State) → object_at o s ≡ x → Goes b g h s → IsFineAt b g h (finishes o x s)
finishes-at b o g h (Object.Queue kind size items (suc n) shut) s e m = goes-object b o (Object.Queue kind size items n shut) g h s (sym (ap kind_of e)) (sym (ap offers_of e)) (moves-object o (Object.Queue kind size items n shut) g h s refl m.moves) m
finishes-at b o g h (Object.Queue kind size items zero shut) s e m = m
finishes-at b o g h (Object.Event flag sets) s e m = m
finishes-at b o g h (Object.Result x) s e m = m
finishes-at b o g h (Object.Semaphore counter bound) s e m = m
finishes-at b o g h (Object.Lock owner depth) s e m = m
finishes-at b o g h (Object.Crew size members) s e m = m
finishes-at b o g h (Object.Native slots outstanding) s e m = m
finishes-at b o g h (Object.Channel offers) s e m = m

acquires-no_offer : (o : ℕ) (y : Object) → is_offer (acquires o y) ≡ false
acquires-no_offer o (Object.Lock owner depth) = refl
acquires-no_offer o y = refl

-- ---- parents

parent-plain : (child parent k : ℕ) (s : State) → is_plain (slice_set s.greenlets child (record (greenlet child s) { parent = parent })) k ≡ is_plain s.greenlets k
parent-plain child parent k s = plain-set s.greenlets child k (record (greenlet child s) { parent = parent }) refl

goes-parent : (b : History) (child parent g h : ℕ) (s : State) → Moves g h (record s { greenlets = slice_set s.greenlets child (record (greenlet child s) { parent = parent }) }) → Goes b g h s →
    Goes b g h (record s { greenlets = slice_set s.greenlets child (record (greenlet child s) { parent = parent }) })
goes-parent b child parent g h s moves m =
    record {
      moves = moves;
      story = m.story;
      tells = m.tells;
      ties = ties-greenlets None m.story (slice_set s.greenlets child x) s (λ k. ap is_over (phase k)) (λ k e. ap is_begun (sym (phase k)) ∙ e) m.ties;
      parking = λ k e p l. m.parking k e (sym (parent-plain child parent k s) ∙ p) (ap is_live (sym (phase k)) ∙ l);
      main = ap is_live (phase 0) ∙ m.main;
      sides = record { kills = m.sides.kills; bodies = m.sides.bodies; fit = all-set (is_fit_greenlet s.scenario) s.greenlets child x (greenlet-fit s.scenario child s.greenlets m.sides.fit) m.sides.fit; known = known-set s.scenario s.greenlets child x s.items s.objects refl m.sides.known; offers = m.sides.offers };
      held = held-phases s.greenlets (slice_set s.greenlets child x) s.items (λ k. ap withins_at (phase k)) m.held;
    }
  where
    x : Greenlet
    x = record (greenlet child s) { parent = parent }

    phase : (k : ℕ) → phase_of k (slice_set s.greenlets child x) ≡ phase_of k s.greenlets
    phase k = phase-kept s.greenlets child k x refl

sets_parent-at : (b : History) (child parent g h : ℕ) (s : State) → (greenlet child s).raw ≡ true → Goes b g h s → IsFineAt b g h (sets_parent g child parent s)
sets_parent-at b child parent g h s r m =
    on_host-at b g h child s (on_host g parent s (turns (is_above (length s.greenlets) s.greenlets child parent))) m
    (λ own. on_host-at b g h parent s (turns (is_above (length s.greenlets) s.greenlets child parent)) m
    (λ theirs. by theirs (is_above (length s.greenlets) s.greenlets child parent) refl))
  where
    turns : Bool → Performed
    turns c = if c then raises FaultKind.ValueError s else done (record s { greenlets = slice_set s.greenlets child (record (greenlet child s) { parent = parent }) })

    by : host_of s parent ≡ h → (c : Bool) → is_above (length s.greenlets) s.greenlets child parent ≡ c →
        IsFineAt b g h (if c then raises FaultKind.ValueError s else done (record s { greenlets = slice_set s.greenlets child (record (greenlet child s) { parent = parent }) }))
    by theirs true e = m
    by theirs false e = goes-parent b child parent g h s (moves-parent child parent g h s r theirs e m.moves) m

-- ---- the rows

-- a greenlet that is not raw is its own host
alone : (b : History) (g h : ℕ) (s : State) (r : Performed) → is_plain s.greenlets g ≡ true → Goes b g h s → (Goes b g g s → IsFineAt b g g r) → IsFineAt b g h r
alone b g h s r p m f =
    let own : h ≡ g = sym m.moves.same ∙ host-plain (length s.greenlets) s.greenlets g (plain-raw s.greenlets g p) in
    subst (λ z. IsFineAt b g z r) (sym own) (f (subst (λ z. Goes b g z s) own m))

-- a raw body is a function that there is
raw-known : (c : Scenario) (f : ℕ) → is_raw_function c f ≡ true → is_function c f ≡ true
raw-known c f h = by c.functions f h
  where
    by : (fs : List Function) (n : ℕ) → (unwrap_or (slice_get fs n) no_function).is_raw ≡ true → nat_lt n (length fs) ≡ true
    by [] n e = absurd (cc e)
    by (x ∷ fs) zero e = grind (arith, nat_tests)
    by (x ∷ fs) (suc n) e = let r = by fs n e in grind (arith, nat_tests, r)

pub performs-at : (b : History) (r : Request) (g h : ℕ) (s : State) → is_meant_request (is_plain s.greenlets g) r ≡ true → fits_request s.scenario r ≡ true → Goes b g h s → IsFineAt b g h (performs r g s)
unfolding performs
performs-at b (Request.Print v) g h s e q m = goes-say b g h (Line.Print g v) s (own-print g v) (λ before. refl) m
performs-at b (Request.Spawn f args) g h s e q m = makes-at b false 0 f args (starts_at None) g h s m (goes-spawned b None 0 f args g h s (λ w. q) m)
performs-at b (Request.SpawnLater ms f args) g h s e q m =
    makes-at b false 0 f args (starts_at (Some (s.moment + ms))) g h s m (goes-spawned b (Some (s.moment + ms)) 0 f args g h s (λ w. q) m)
performs-at b (Request.New f args) g h s e q m = makes-at b false 0 f args (λ k t. t) g h s m (goes-made b false 0 f args g h s refl (λ w. q) m)
performs-at b (Request.Start v) g h s e q m =
    typed-at b g h (plain_greenlet s v) s (λ k. done (start_of k s)) m (λ k z. start_of-at b k g h s (plain_greenlet-raw s v k z) m)
performs-at b (Request.Sleep ms) g h s e q m = comes-at b g h Awaited.Sleep (Waiting.Sleep (s.moment + ms)) Wait.Block s e refl (λ w. refl) m
performs-at b (Request.Join v how) g h s e q m =
    typed-at b g h (plain_greenlet s v) s (λ k. comes g (Awaited.Join (Whom.Greenlet k)) (Waiting.Join k) how s) m (λ k z. comes-at b g h (Awaited.Join (Whom.Greenlet k)) (Waiting.Join k) how s e refl (λ w. refl) m)
performs-at b (Request.Get v how) g h s e q m =
    typed-at b g h (whom_operand s v) s (λ whom. comes g (Awaited.Get whom) (Waiting.Get whom) how s) m (λ whom z. comes-at b g h (Awaited.Get whom) (Waiting.Get whom) how s e refl (λ w. refl) m)
performs-at b (Request.Kill v f how) g h s e q m =
    alone b g h s (typed (plain_greenlet s v) s (λ k. typed (fault_operand f) s (λ fault. kills g (Awaited.Kill (Whom.Greenlet k)) fault (k ∷ []) how s))) e m
    (λ n. typed-at b g g (plain_greenlet s v) s (λ k. typed (fault_operand f) s (λ fault. kills g (Awaited.Kill (Whom.Greenlet k)) fault (k ∷ []) how s)) n
    (λ k z. typed-at b g g (fault_operand f) s (λ fault. kills g (Awaited.Kill (Whom.Greenlet k)) fault (k ∷ []) how s) n
    (λ fault y. kills-at b g (Awaited.Kill (Whom.Greenlet k)) fault (k ∷ []) how s (and_from (not (greenlet k s).raw) true (ap not (plain_greenlet-raw s v k z)) refl) n)))
performs-at b (Request.KillAll v f how) g h s e q m =
    alone b g h s (typed (plain_greenlet_list s v) s (λ ks. typed (fault_operand f) s (λ fault. kills g Awaited.KillAll fault ks how s))) e m
    (λ n. typed-at b g g (plain_greenlet_list s v) s (λ ks. typed (fault_operand f) s (λ fault. kills g Awaited.KillAll fault ks how s)) n
    (λ ks z. typed-at b g g (fault_operand f) s (λ fault. kills g Awaited.KillAll fault ks how s) n
    (λ fault y. kills-at b g Awaited.KillAll fault ks how s (plain_greenlet_list-raw s v ks z) n)))
performs-at b (Request.JoinAll v n how) g h s e q m =
    typed-at b g h (plain_greenlet_list s v) s (λ hs. comes g Awaited.JoinAll (Waiting.JoinAll hs (min (unwrap_or n (length hs)) (length hs))) how s) m
    (λ hs z. comes-at b g h Awaited.JoinAll (Waiting.JoinAll hs (min (unwrap_or n (length hs)) (length hs))) how s e refl (λ w. refl) m)
performs-at b (Request.Link v kind f) g h s e q m = typed-at b g h (plain_greenlet s v) s (λ k. links k kind f s) m (λ k z. links-at b k kind f g h s (λ w. q) m)
performs-at b (Request.Unlink v) g h s e q m = typed-at b g h (int_operand v) s (λ n. done (drop_items (is_link n) s)) m (λ n z. goes-drop b g h (is_link n) s (no-link-wake n) m)
performs-at b (Request.Set o) g h s e q m = goes-object b o (with_flag true (object_at o s)) g h s (flag-kept true (object_at o s)) (flag-offers true (object_at o s)) (moves-flag true o g h s m.moves) m
performs-at b (Request.Clear o) g h s e q m = goes-object b o (with_flag false (object_at o s)) g h s (flag-kept false (object_at o s)) (flag-offers false (object_at o s)) (moves-flag false o g h s m.moves) m
performs-at b (Request.WaitEvent o how) g h s e q m = comes-at b g h (Awaited.Wait (name_of_object o s)) (Waiting.Event o (sets_of (object_at o s))) how s e refl (λ w. q) m
performs-at b (Request.ResultSet o v) g h s e q m =
    goes-put b o (Object.Result (Some (Outcome.Value v))) g h s (λ w d. result-kept s.scenario s.objects o (Object.Result (Some (Outcome.Value v))) q d refl) (fewer-none (offers_at o s.objects)) (moves-object o (Object.Result (Some (Outcome.Value v))) g h s refl m.moves) m
performs-at b (Request.ResultFail o v) g h s e q m =
    typed-at b g h (fault_operand (Some v)) s (λ f. put_result o (Outcome.Fault f) s) m
    (λ f z. goes-put b o (Object.Result (Some (Outcome.Fault f))) g h s (λ w d. result-kept s.scenario s.objects o (Object.Result (Some (Outcome.Fault f))) q d refl) (fewer-none (offers_at o s.objects)) (moves-object o (Object.Result (Some (Outcome.Fault f))) g h s refl m.moves) m)
performs-at b (Request.ResultGet o how) g h s e q m = comes-at b g h (Awaited.ResultGet (name_of_object o s)) (Waiting.ResultGet o) how s e refl (λ w. q) m
performs-at b (Request.ResultWait o how) g h s e q m = comes-at b g h (Awaited.ResultWait (name_of_object o s)) (Waiting.ResultWait o) how s e refl (λ w. q) m
performs-at b (Request.Acquire o how) g h s e q m = comes-at b g h (Awaited.Acquire (name_of_object o s)) (acquires o (object_at o s)) how s e (acquires-no_offer o (object_at o s)) (λ w. acquires-fits s.scenario s.objects o q (m.sides.known w).declared) m
performs-at b (Request.Release o) g h s e q m = releases-at b g o g h (object_at o s) s refl m
performs-at b (Request.QueuePut o v how) g h s e q m = by (takes_value (object_at o s) v)
  where
    by : (c : Bool) → IsFineAt b g h (if c then comes g (Awaited.QueuePut (name_of_object o s)) (Waiting.Put o v) how s else raises FaultKind.TypeError s)
    by true = comes-at b g h (Awaited.QueuePut (name_of_object o s)) (Waiting.Put o v) how s e refl (λ w. q) m
    by false = m
performs-at b (Request.QueueGet o how) g h s e q m = comes-at b g h (Awaited.QueueGet (name_of_object o s)) (Waiting.Take o) how s e refl (λ w. q) m
performs-at b (Request.QueuePeek o how) g h s e q m = comes-at b g h (Awaited.QueuePeek (name_of_object o s)) (Waiting.Peek o) how s e refl (λ w. q) m
performs-at b (Request.QueueDone o) g h s e q m = finishes-at b o g h (object_at o s) s refl m
performs-at b (Request.QueueJoin o how) g h s e q m = comes-at b g h (Awaited.QueueJoin (name_of_object o s)) (Waiting.Tasks o) how s e refl (λ w. q) m
performs-at b (Request.GroupSpawn o f args) g h s e q m = comes-at b g h (Awaited.GroupSpawn (name_of_object o s)) (Waiting.Place o f args) Wait.Block s e refl (λ w. q) m
performs-at b (Request.GroupJoin o how) g h s e q m = comes-at b g h (Awaited.GroupJoin (name_of_object o s)) (Waiting.Members o) how s e refl (λ w. q) m
performs-at b (Request.GroupKill o f how) g h s e q m =
    alone b g h s (typed (fault_operand f) s (λ fault. kills g (Awaited.GroupKill (name_of_object o s)) fault (members_of (object_at o s)) how s)) e m
    (λ n. typed-at b g g (fault_operand f) s (λ fault. kills g (Awaited.GroupKill (name_of_object o s)) fault (members_of (object_at o s)) how s) n
    (λ fault y. kills-at b g (Awaited.GroupKill (name_of_object o s)) fault (members_of (object_at o s)) how s (members-raw s.greenlets (object_at o s) (object-plain o s n.moves.kept)) n))
performs-at b (Request.Map o f v) g h s e q m = typed-at b g h (list_operand v) s (λ xs. maps xs g o f [] s) m (λ xs z. maps-at xs b g h o f [] s e (λ w. left _ (is_function s.scenario f) q) (λ w. right (is_wanted s.scenario wanted.GroupOrPool o) _ q) m)
performs-at b (Request.NativeSpawn o kind v ms) g h s e q m =
    typed-at b g h (int_operand v) s (λ z. comes g (Awaited.NativeSpawn (name_of_object o s)) (Waiting.Slot o (job_of kind z) ms) Wait.Block s) m
    (λ z x. comes-at b g h (Awaited.NativeSpawn (name_of_object o s)) (Waiting.Slot o (job_of kind z) ms) Wait.Block s e refl (λ w. q) m)
performs-at b (Request.Raw f None) g h s e q m = makes-at b true g f [] (λ k t. t) g h s m (goes-made b true g f [] g h s q (λ w. raw-known s.scenario f q) m)
performs-at b (Request.Raw f (Some v)) g h s e q m =
    typed-at b g h (any_greenlet v) s (λ k. on_host g k s (makes true k f [] (λ j t. t) s)) m
    (λ k z. on_host-at b g h k s (makes true k f [] (λ j t. t) s) m (λ same. makes-at b true k f [] (λ j t. t) g h s m (goes-made b true k f [] g h s q (λ w. raw-known s.scenario f q) m)))
performs-at b (Request.Switch v w) g h s e q m =
    typed-at b g h (any_greenlet v) s (λ k. on_host g k s (Performed.Lands k (Outcome.Value w) s)) m
    (λ k z. on_host-at b g h k s (Performed.Lands k (Outcome.Value w) s) m (λ same. (same, goes-hosted b g h s m)))
performs-at b (Request.Throw v f) g h s e q m =
    typed-at b g h (any_greenlet v) s (λ k. typed (fault_operand f) s (λ fault. on_host g k s (Performed.Lands k (Outcome.Fault fault) s))) m
    (λ k z. typed-at b g h (fault_operand f) s (λ fault. on_host g k s (Performed.Lands k (Outcome.Fault fault) s)) m
    (λ fault y. on_host-at b g h k s (Performed.Lands k (Outcome.Fault fault) s) m (λ same. (same, goes-hosted b g h s m))))
performs-at b (Request.ChannelPut o v) g h s e q m = offered-at b g h o v s e (λ w. q) m
performs-at b (Request.ChannelGet o) g h s e q m = comes-at b g h (Awaited.ChannelGet (name_of_object o s)) (Waiting.TakeOffer o) Wait.Block s e refl (λ w. q) m
performs-at b (Request.QueueShut o immediate) g h s e q m = goes-object b o (with_shut immediate (object_at o s)) g h s (shut-kept immediate (object_at o s)) (shut-offers immediate (object_at o s)) (moves-shut immediate o g h s m.moves) m
performs-at b (Request.SetParent v w) g h s e q m =
    typed-at b g h (raw_greenlet s v) s (λ child. typed (any_greenlet w) s (λ parent. sets_parent g child parent s)) m
    (λ child z. typed-at b g h (any_greenlet w) s (λ parent. sets_parent g child parent s) m (λ parent y. sets_parent-at b child parent g h s (raw_greenlet-raw s v child z) m))

-- ---- a move

-- the hub goes on after a request
pub follows-at : (b : History) (g h : ℕ) (r : Performed) → IsFineAt b g h r → At b (follows g r)
follows-at b g h (Performed.Answers o s) f = answered-at b g h o (settle s) (settled-settle s) (goes-settle b g h s f)
follows-at b g h (Performed.Parks s) f = (rests-settle b s (kept-settle s f.kept) f, settled-settle s)
follows-at b g h (Performed.Lands k o s) f =
    lands-at b k h o (settle s) f.0 (settled-settle s) (hosted-settle b h s (kept-settle s f.1.kept) (host-settle h s f.1.host) f.1)
follows-at b g h (Performed.Stops cause s) f = f

-- a loose greenlet draws a number, has a timeout more, and the hub settles
loose-drawn : (b : History) (g h : ℕ) (s : State) → Loose b g h s → Loose b g h (record s { timeouts = s.timeouts + 1 })
loose-drawn b g h s m =
    record {
      kept = kept-timeout s m.kept;
      there = m.there;
      going = m.going;
      story = m.story;
      tells = m.tells;
      ties = record {
        ended = m.ties.ended;
        fresh = m.ties.fresh;
        parked = m.ties.parked;
        links = m.ties.links;
        jobs = m.ties.jobs;
        fewer = m.ties.fewer;
        done = m.ties.done;
        rising = m.ties.rising;
        heard = m.ties.heard;
      };
      parking = m.parking;
      main = m.main;
      sides = record { kills = m.sides.kills; bodies = m.sides.bodies; fit = m.sides.fit; known = m.sides.known; offers = m.sides.offers };
    }

loose-timed : (b : History) (g h n deadline : ℕ) (s : State) → IsKept (add_item (Delivery.Timeout g n deadline) s) → Loose b g h s → Loose b g h (add_item (Delivery.Timeout g n deadline) s)
loose-timed b g h n deadline s kept m =
    record {
      kept = kept;
      there = m.there;
      going = m.going;
      story = m.story;
      tells = m.tells;
      ties = ties-add (Some g) m.story (Delivery.Timeout g n deadline) s (λ k e. absurd (cc e)) (λ k e. refl) m.ties;
      parking = λ k e p l. any-end (λ (i : Item). is_wake_of k i.delivery) s.items _ ∙ ap (λ z. z || false) (m.parking k e p l);
      main = m.main;
      sides = sides-add (Delivery.Timeout g n deadline) s refl (λ w. refl) tt m.sides;
    }

loose-settle : (b : History) (g h : ℕ) (s : State) → Loose b g h s → Loose b g h (settle s)
loose-settle b g h s m =
    record {
      kept = kept-settle s m.kept;
      there = m.there;
      going = m.going;
      story = m.story;
      tells = m.tells;
      ties = ties-settle (Some g) m.story s m.ties;
      parking = λ k e p l. any-settle (is_wake_of k) s ∙ m.parking k e p l;
      main = m.main;
      sides = sides-settle s m.sides;
    }

-- who goes knows in which blocks it is
goes-withins : (b : History) (g h : ℕ) (s : State) → Goes b g h s → withins_at (phase_of g s.greenlets) ≡ withins (frame_of (greenlet g s).phase).todo
goes-withins b g h s m = ap withins_at (live-phase s.greenlets g m.moves.live ∙ ap (λ (p : Phase). Some p) (goes-frame b g h s m))

record IsEntered (g h n : ℕ) (b : History) (ns : List ℕ) (t : State) : Type 0 where
  moves : Moves g h t
  loose : Loose b g h t
  held : AreHeldBy g (n ∷ ns) t.greenlets t.items

own-number : (n : ℕ) (ns : List ℕ) → is_among n (n ∷ ns) ≡ true
own-number n ns = ap (λ c. c || is_among n ns) (itself n)

enters-at : (b : History) (g h : ℕ) (ms : Option ℕ) (silent : Bool) (body : List Statement) (locals : List Local) (todo : List Todo) (s : State) →
    is_plain s.greenlets g ≡ true → ((n : ℕ) → fits_rest s.scenario (not (greenlet g s).raw) (Todo.Statements body ∷ Todo.Within n silent ∷ todo) ≡ true) →
    withins todo ≡ withins (frame_of (greenlet g s).phase).todo → Goes b g h s → At b (enters g ms silent body locals todo s)
enters-at b g h ms silent body locals todo s p fits same m =
    let n = s.timeouts + 1 in
    let t = timeout_item g n ms (record s { timeouts = s.timeouts + 1 }) in
    let e = entered ms in
    let inside = unwind (Todo.Statements body ∷ Todo.Within n silent ∷ todo) [] Leaving.Normally locals in
    goes_on-at b g h inside (settle t) (settled-settle t) (moves-settle g h t e.moves)
    (placed-of (settle t).scenario g inside (settle t).greenlets (settle t).items (n ∷ withins todo) (fit-at ms)
    (all-settle (is_held_by g (n ∷ withins todo) t.greenlets) t ∙ e.held)) (loose-settle b g h t e.loose)
  where
    was : AreHeldBy g ((s.timeouts + 1) ∷ withins todo) s.greenlets s.items
    was =
        held-by g ((s.timeouts + 1) ∷ withins todo) s.greenlets s.items
        (λ k z.
        let old : is_among k (withins todo) ≡ true = subst (λ ns. is_among k ns ≡ true) (goes-withins b g h s m ∙ sym same) z in
        or (s.timeouts + 1 == k) (is_among k (withins todo)) old) m.held
      where
        or : (c d : Bool) → d ≡ true → (c || d) ≡ true
        or true d z = refl
        or false d z = z

    fit-at : (ms : Option ℕ) → IsFitUnwound (settle (timeout_item g (s.timeouts + 1) ms (record s { timeouts = s.timeouts + 1 }))).scenario
        (not (at (settle (timeout_item g (s.timeouts + 1) ms (record s { timeouts = s.timeouts + 1 }))).greenlets g).raw) ((s.timeouts + 1) ∷ withins todo)
        (unwind (Todo.Statements body ∷ Todo.Within (s.timeouts + 1) silent ∷ todo) [] Leaving.Normally locals)
    fit-at None =
        unwind-fit s.scenario (not (greenlet g s).raw) ((s.timeouts + 1) ∷ withins todo) (Todo.Statements body ∷ Todo.Within (s.timeouts + 1) silent ∷ todo) [] Leaving.Normally locals (fits (s.timeouts + 1)) refl
    fit-at (Some ms) =
        unwind-fit s.scenario (not (greenlet g s).raw) ((s.timeouts + 1) ∷ withins todo) (Todo.Statements body ∷ Todo.Within (s.timeouts + 1) silent ∷ todo) [] Leaving.Normally locals (fits (s.timeouts + 1)) refl

    entered : (ms : Option ℕ) → IsEntered g h (s.timeouts + 1) b (withins todo) (timeout_item g (s.timeouts + 1) ms (record s { timeouts = s.timeouts + 1 }))
    entered None = record { moves = moves-timeout g h s m.moves; loose = loose-drawn b g h s (goes-loose b g h s m); held = was }
    entered (Some ms) =
        let u = record s { timeouts = s.timeouts + 1 } in
        let moved : Moves g h (add_item (Delivery.Timeout g (s.timeouts + 1) (s.moment + ms)) u) =
        moves-add (Delivery.Timeout g (s.timeouts + 1) (s.moment + ms)) g h u (timeout-unclaimed s m.moves.kept) (and_from _ _ m.moves.live (at-most (s.timeouts + 1))) p refl (moves-timeout g h s m.moves) in
        record {
          moves = moved;
          loose = loose-timed b g h (s.timeouts + 1) (s.moment + ms) u moved.kept (loose-drawn b g h s (goes-loose b g h s m));
          held = all-end _ s.items _ was (by (g == g) (itself g));
        }
      where
        by : (c : Bool) → c ≡ true → (if c then is_among (s.timeouts + 1) ((s.timeouts + 1) ∷ withins todo) else is_among (s.timeouts + 1) (withins_at (phase_of g s.greenlets))) ≡ true
        by true e = own-number (s.timeouts + 1) (withins todo)
        by false e = absurd (cc e)

goes-live : (b : History) (g h : ℕ) (frame : Frame) (s : State) → fits_rest s.scenario (not (greenlet g s).raw) frame.todo ≡ true → withins frame.todo ≡ withins (frame_of (greenlet g s).phase).todo →
    Goes b g h s → Goes b g h (with_phase g (Phase.Live frame) s)
goes-live b g h frame s fits same m =
    record {
      moves = moves-live g h frame s m.moves;
      story = m.story;
      tells = m.tells;
      ties = ties-live g frame m.story s there (live-not-over _ m.moves.live) (ties-loose (Some g) m.story s m.ties);
      parking = λ k e p l. m.parking k e (sym (plain-phased g (Phase.Live frame) s k) ∙ p) (was k (g == k) refl l);
      main = live-set s.greenlets g 0 new refl m.main;
      sides = record { kills = m.sides.kills; bodies = m.sides.bodies; fit = all-set (is_fit_greenlet s.scenario) s.greenlets g new own m.sides.fit; known = known-set s.scenario s.greenlets g new s.items s.objects refl m.sides.known; offers = m.sides.offers };
      held = held-phases s.greenlets (slice_set s.greenlets g new) s.items (λ k. blocks k (g == k) refl) m.held;
    }
  where
    there : slice_get s.greenlets g ≡ Some (greenlet g s)
    there = live-found s.greenlets g m.moves.live

    new : Greenlet
    new = record (greenlet g s) { phase = Phase.Live frame }

    own : is_fit_greenlet s.scenario new ≡ true
    own =
        and_from (if new.raw then is_raw_function s.scenario new.function else true) (fits_rest s.scenario (not (greenlet g s).raw) frame.todo)
        (left (if new.raw then is_raw_function s.scenario new.function else true) (fits_phase s.scenario (not new.raw) (greenlet g s).phase) (greenlet-fit s.scenario g s.greenlets m.sides.fit)) fits

    blocks : (k : ℕ) (c : Bool) → (g == k) ≡ c → withins_at (phase_of k (slice_set s.greenlets g new)) ≡ withins_at (phase_of k s.greenlets)
    blocks k true e =
        subst (λ j. withins_at (phase_of j (slice_set s.greenlets g new)) ≡ withins_at (phase_of j s.greenlets)) (equal g k e)
        (ap withins_at (phase-here s.greenlets g new (greenlet g s) there) ∙ same ∙ sym (goes-withins b g h s m))
    blocks k false e = ap withins_at (phase-other s.greenlets g k new (unequal g k e))

    was : (k : ℕ) (c : Bool) → (g == k) ≡ c → is_live (phase_of k (slice_set s.greenlets g new)) ≡ true → is_live (phase_of k s.greenlets) ≡ true
    was k true e l = subst (λ z. is_live (phase_of z s.greenlets) ≡ true) (equal g k e) m.moves.live
    was k false e l = ap is_live (sym (phase-other s.greenlets g k new (unequal g k e))) ∙ l

-- one that is there is raw or plain
pub plain-not-raw : (gs : List Greenlet) (g : ℕ) → slice_get gs g ≡ Some (at gs g) → is_plain gs g ≡ not (at gs g).raw
plain-not-raw gs g e = ap (λ (x : Option Greenlet). elim x [ None ↦ false | Some y ↦ not y.raw ]) e

does-at : (b : History) (g h : ℕ) (locals : List Local) (d : Did) (s : State) → IsFitDid s.scenario (not (greenlet g s).raw) (withins (frame_of (greenlet g s).phase).todo) d → Goes b g h s → At b (does g locals d s)
does-at b g h locals (Did.GoesOn how own todo) s f m =
    let u = unwind todo [] how own in
    let ns = withins (frame_of (greenlet g s).phase).todo in
    goes_on-at b g h u (settle s) (settled-settle s) (moves-settle g h s m.moves)
    (placed-of s.scenario g u s.greenlets (settle s).items ns (unwind-fit s.scenario (not (greenlet g s).raw) ns todo [] how own f.rest f.numbers)
    (all-settle (is_held_by g ns s.greenlets) s ∙ held-by g ns s.greenlets s.items (λ n z. subst (λ ks. is_among n ks ≡ true) (goes-withins b g h s m) z) m.held))
    (loose-settle b g h s (goes-loose b g h s m))
does-at b g h locals (Did.Enters ms silent body todo) s f m =
    enters-at b g h ms silent body locals todo s (plain-not-raw s.greenlets g (live-found s.greenlets g m.moves.live) ∙ f.0) f.2 f.1.numbers m
does-at b g h locals (Did.Asks request x todo) s f m =
    let frame : Frame = record { locals = locals; todo = todo; gives = x } in
    let t = with_phase g (Phase.Live frame) s in
    let plain : is_plain t.greenlets g ≡ not (greenlet g s).raw = plain-phased g (Phase.Live frame) s g ∙ plain-not-raw s.greenlets g (live-found s.greenlets g m.moves.live) in
    let meant : is_meant_request (is_plain t.greenlets g) request ≡ true = ap (λ c. is_meant_request c request) plain ∙ f.0.meant in
    follows-at b g h (performs request g t) (performs-at b request g h t meant f.0.fit (goes-live b g h frame s f.1.rest f.1.numbers m))

pub move-at : (b : History) (g h : ℕ) (s : State) → Goes b g h s → At b (move g s)
unfolding move
move-at b g h s m =
    let t = record s { moves = s.moves + 1 } in
    let n : Goes b g h t = record {
      moves = record {
        kept = record { sound = m.moves.kept.sound; owners = m.moves.kept.owners; members = m.moves.kept.members; main = m.moves.kept.main };
        live = m.moves.live;
        same = m.moves.same;
        host = record { plain = m.moves.host.plain; live = m.moves.host.live; free = m.moves.host.free };
      };
      story = m.story;
      tells = m.tells;
      ties = record {
        ended = m.ties.ended;
        fresh = m.ties.fresh;
        parked = m.ties.parked;
        links = m.ties.links;
        jobs = m.ties.jobs;
        fewer = m.ties.fewer;
        done = m.ties.done;
        rising = m.ties.rising;
        heard = m.ties.heard;
      };
      parking = m.parking;
      main = m.main;
      sides = record { kills = m.sides.kills; bodies = m.sides.bodies; fit = m.sides.fit; known = m.sides.known; offers = m.sides.offers };
      held = m.held;
    } in
    let frame = frame_of (greenlet g s).phase in
    let fit = body_move-fit (not (greenlet g s).raw) frame.todo (record { scenario = s.scenario; look = look g s; locals = frame.locals })
    (frame-fits s.scenario g s.greenlets frame (goes-frame b g h s m) m.sides.fit) in
    does-at b g h frame.locals (next_did g s) t fit n
