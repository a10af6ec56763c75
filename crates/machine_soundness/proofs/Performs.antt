-- Each request, and a whole move, soundly.
use Rattle.std.proofs.Common.{◌≡◌, refl, ap, ◌∙◌, sym, subst, ℕ, zero, suc, ◌+◌, ◌-◌, Bool, true, false, List, [], ◌∷◌, length}
use Rattle.std.proofs.lemmas.Bool.{and_from}
use Rattle.std.specs.Prelude.{not, ◌==◌, ◌&&◌, slice_set, Option, Some, None, if◌then◌else◌, nat_lt, nat_le, unwrap_or, min, pos}
use Rattle.gv_values.specs.declared.value.Value.{Value}
use Rattle.gv_values.specs.declared.value.Outcome.{Outcome}
use Rattle.gv_values.specs.declared.value.Whom.{Whom}
use Rattle.gv_values.specs.declared.fault.FaultKind.{FaultKind}
use Rattle.scenario_tree.specs.declared.tree.Statement.{Statement}
use Rattle.scenario_tree.specs.declared.tree.Wait.{Wait}
use Rattle.trace_text.specs.declared.line.Line.{Line}
use Rattle.trace_text.specs.declared.line.Awaited.{Awaited}
use Rattle.trace_text.specs.declared.line.StopCause.{StopCause}
use Rattle.machine.specs.declared.items.Delivery.{Delivery}
use Rattle.machine.specs.declared.items.Waiting.{Waiting}
use Rattle.gv_values.specs.declared.link.LinkKind.{LinkKind}
use Rattle.machine.specs.declared.state.Greenlet.{Greenlet}
use Rattle.machine.specs.declared.state.Leaving.{Leaving}
use Rattle.machine.specs.declared.state.Local.{Local}
use Rattle.machine.specs.declared.state.Object.{Object}
use Rattle.machine.specs.declared.state.Phase.{Phase}
use Rattle.machine.specs.declared.state.Todo.{Todo}
use Rattle.machine.specs.State.{State, say}
use Rattle.machine.specs.Holds.{outcome_of}
use Rattle.machine.specs.Soundness.{phase_of, Claim, claim_of, is_live, is_meant, is_unclaimed, is_unstarted, same_claim}
use Rattle.machine.specs.BodyMoves.{Did}
use Rattle.machine.specs.declared.request.Request.{Request}
use Rattle.machine.specs.Unwinding.{unwind}
use Rattle.machine.specs.Settle.{settle}
use Rattle.machine.specs.Items.{add_item, drop_items, is_start_of}
use Rattle.machine.specs.Greenlets.{add_greenlet, has_greenlet_left, greenlet, with_phase}
use Rattle.machine.specs.Ends.{ended}
use Rattle.machine.specs.Hosts.{host_of, is_above}
use Rattle.gv_values.specs.Ends.{kept}
use Rattle.machine.specs.Request.{Sending, performs, follows, sends, sends_all, kills, kills_standing, link_stands, links, makes, starts_at, start_of, is_new, has_start, releases, finishes, acquires, fault_operand, plain_greenlet, plain_greenlet_list, list_operand, int_operand, any_greenlet, whom_operand, is_link, put_result, done, typed, on_host, raw_greenlet, sets_parent}
use Rattle.gv_values.specs.Job.{job_of}
use Rattle.machine.specs.Moves.{does, move, enters, timeout_item}
use Rattle.machine.specs.Objects.{at_bound, after_release, takes_value, members_of, sets_of, with_object, object_at, name_of_object}
use Rattle.machine.specs.Waits.{Performed, comes, raises, nothing, maps}
use Rattle.machine_soundness.specs.Going.{AreNotRaw, is_plain, is_meant_request, is_meant_did, is_meant_move, next_did, IsKept, IsGoing, IsSoundAt}
use Rattle.machine.proofs.Halves.{left, right}
use Rattle.machine_soundness.proofs.Lists.{all-imply, all-of, none-counted, next-other, at-most}
use Rattle.machine_soundness.proofs.Greenlets.{at, plain-here, live-at, live-found, live-phase, new-found, raw-set, host-plain, plain-raw, plain-set, raw-found}
use Rattle.machine_soundness.proofs.Chains.{host-turned, phase-kept}
use Rattle.machine_soundness.proofs.States.{Moves, moving, meants, kept-settle, kept-greenlets, moves-say, moves-settle, moves-drop, moves-add, moves-object, moves-made, moves-timeout, moves-link, moves-live, moves-ended, plain-phased, host-settle}
use Rattle.machine_soundness.proofs.Landings.{goes_on-soundly, answered-soundly, lands-soundly}
use Rattle.machine_soundness.proofs.Requests.{IsFine, comes-fine, maps-fine, typed-fine, on_host-fine, moves-spawned, moves-flag, plain_greenlet-raw, plain_greenlet_list-raw, members-raw, object-plain, offered-fine, moves-shut}
use Rattle.machine.specs.declared.limits.TheConstants.{MOST_KILLS, MOST_LINKS}

-- ---- kills

abbrev IsSent : ℕ → ℕ → Sending → Type 0
IsSent g h (Sending.Sent s) = Moves g h s
IsSent g h (Sending.TooMany s) = Moves g h s

-- what was not started is not live
pub not-live : (gs : List Greenlet) (k g : ℕ) (args : List Value) → (at gs k).phase ≡ Phase.New args → is_live (phase_of g gs) ≡ true → k ≡ g → ⊥
not-live gs k g args e l same =
    let p : phase_of g gs ≡ Some (at gs g).phase = live-phase gs g l in
    let q : Some (at gs g).phase ≡ Some (Phase.New args) = ap (λ i. Some (at gs i).phase) (sym same) ∙ ap (λ (x : Phase). Some x) e in
    let r : is_live (Some (Phase.New args)) ≡ true = sym (ap is_live (p ∙ q)) ∙ l in
    cc r

pub sends-fine : (f : FaultKind) (k g h : ℕ) (s : State) → (greenlet k s).raw ≡ false → Moves g h s → IsSent g h (sends f k s)
sends-fine f k g h s r m = by (greenlet k s).phase refl
  where
    kill : (b : Bool) → is_live (phase_of k s.greenlets) ≡ true → IsSent g h (if b then Sending.Sent (add_item (Delivery.Kill k f) s) else Sending.TooMany s)
    kill true l =
        moves-add (Delivery.Kill k f) g h s (all-of _ s.items (λ i. refl)) l (plain-here s.greenlets k (greenlet k s) (live-found s.greenlets k l) r) refl m
    kill false l = m

    by : (p : Phase) → (greenlet k s).phase ≡ p → IsSent g h (elim p [
      | Phase.Done o ↦ Sending.Sent s
      | Phase.New args ↦ Sending.Sent (ended k (kept (Outcome.Fault f)) (say (Line.Throw k f) s))
      | Phase.Live frame ↦ if nat_lt (kills_standing s) MOST_KILLS then Sending.Sent (add_item (Delivery.Kill k f) s) else Sending.TooMany s
    ])
    by (Phase.Done o) e = m
    by (Phase.New args) e =
        moves-ended k (kept (Outcome.Fault f)) g h (say (Line.Throw k f) s) (not-live s.greenlets k g args e m.live) (not-live s.greenlets k h args e m.host.live) (moves-say _ g h s m)
    by (Phase.Live frame) e = kill (nat_lt (kills_standing s) MOST_KILLS) (live-at s.greenlets k (ap (λ (x : Phase). is_live (Some x)) e))

-- a kill that is sent makes none raw
pub sends-raw : (f : FaultKind) (k : ℕ) (s t : State) (ks : List ℕ) → sends f k s ≡ Sending.Sent t → AreNotRaw s.greenlets ks → AreNotRaw t.greenlets ks
sends-raw f k s t ks e a = by (greenlet k s).phase e
  where
    kill : (b : Bool) → ◌≡◌ {A = Sending} (if b then Sending.Sent (add_item (Delivery.Kill k f) s) else Sending.TooMany s) (Sending.Sent t) → AreNotRaw t.greenlets ks
    kill true e = let same : add_item (Delivery.Kill k f) s ≡ t = cc e in subst (λ (x : State). AreNotRaw x.greenlets ks) same a
    kill false e = absurd (cc e)

    by : (p : Phase) → ◌≡◌ {A = Sending} (elim p [
      | Phase.Done o ↦ Sending.Sent s
      | Phase.New args ↦ Sending.Sent (ended k (kept (Outcome.Fault f)) (say (Line.Throw k f) s))
      | Phase.Live frame ↦ if nat_lt (kills_standing s) MOST_KILLS then Sending.Sent (add_item (Delivery.Kill k f) s) else Sending.TooMany s
    ]) (Sending.Sent t) → AreNotRaw t.greenlets ks
    by (Phase.Done o) e = let same : s ≡ t = cc e in subst (λ (x : State). AreNotRaw x.greenlets ks) same a
    by (Phase.New args) e =
        let u = ended k (kept (Outcome.Fault f)) (say (Line.Throw k f) s) in
        let same : u ≡ t = cc e in
        let here : AreNotRaw u.greenlets ks = all-imply _ _ ks (λ j b. ap not (raw-set s.greenlets k j (record (greenlet k s) { phase = Phase.Done (kept (Outcome.Fault f)) }) refl) ∙ b) a in
        subst (λ (x : State). AreNotRaw x.greenlets ks) same here
    by (Phase.Live frame) e = kill (nat_lt (kills_standing s) MOST_KILLS) e

sends_all-fine : (f : FaultKind) (ks : List ℕ) (g h : ℕ) (s : State) → AreNotRaw s.greenlets ks → Moves g h s → IsSent g h (sends_all f ks s)
sends_all-fine f [] g h s a m = m
sends_all-fine f (k ∷ ks) g h s a m =
    by (sends f k s) refl (sends-fine f k g h s (single (greenlet k s).raw (left _ _ a)) m) (λ t b n. sends_all-fine f ks g h t b n)
  where
    single : (b : Bool) → not b ≡ true → b ≡ false
    single true e = absurd (cc e)
    single false e = refl

    by : (r : Sending) → sends f k s ≡ r → IsSent g h r → ((t : State) → AreNotRaw t.greenlets ks → Moves g h t → IsSent g h (sends_all f ks t)) →
        IsSent g h (elim r [ Sending.Sent t ↦ sends_all f ks t | Sending.TooMany t ↦ Sending.TooMany t ])
    by (Sending.Sent t) e n rest = rest t (sends-raw f k s t ks e (right (not (greenlet k s).raw) _ a)) n
    by (Sending.TooMany t) e n rest = n

-- where the greenlet is its own host
kills-fine : (g : ℕ) (word : Awaited) (f : FaultKind) (ks : List ℕ) (how : Wait) (s : State) → AreNotRaw s.greenlets ks → Moves g g s → IsFine g g (kills g word f ks how s)
kills-fine g word f ks how s a m = by (sends_all f ks s) (sends_all-fine f ks g g s a m)
  where
    by : (r : Sending) → IsSent g g r → IsFine g g (elim r [ Sending.TooMany t ↦ Performed.Stops StopCause.NoKills t | Sending.Sent t ↦ comes g word (Waiting.Kill ks) how t ])
    by (Sending.TooMany t) n = n.kept
    by (Sending.Sent t) n = comes-fine g g word (Waiting.Kill ks) how t n.host.plain n

-- ---- links, starts, greenlets

pub link-unclaimed : (s : State) → IsKept s → is_unclaimed (Some (Claim.LinkNumbered (s.links + 1))) s.items ≡ true
link-unclaimed s h = all-imply _ _ s.items (λ i. none i.delivery) (meants s h.sound)
  where
    none : (d : Delivery) → is_meant s d ≡ true → not (same_claim (Some (Claim.LinkNumbered (s.links + 1))) (claim_of d)) ≡ true
    none (Delivery.Start k deadline) m = refl
    none (Delivery.Wake k w) m = refl
    none (Delivery.Late k deadline n) m = refl
    none (Delivery.Timeout k n deadline) m = refl
    none (Delivery.Kill k kind) m = refl
    none (Delivery.Link n k kind x) m = next-other n s.links m

pub timeout-unclaimed : (s : State) → IsKept s → is_unclaimed (Some (Claim.TimeoutNumbered (s.timeouts + 1))) s.items ≡ true
timeout-unclaimed s h = all-imply _ _ s.items (λ i. none i.delivery) (meants s h.sound)
  where
    none : (d : Delivery) → is_meant s d ≡ true → not (same_claim (Some (Claim.TimeoutNumbered (s.timeouts + 1))) (claim_of d)) ≡ true
    none (Delivery.Start k deadline) m = refl
    none (Delivery.Wake k w) m = refl
    none (Delivery.Late k deadline n) m = refl
    none (Delivery.Timeout k n deadline) m = next-other n s.timeouts (right (is_live (phase_of k s.greenlets)) _ m)
    none (Delivery.Kill k kind) m = refl
    none (Delivery.Link n k kind x) m = refl

links-fine : (k : ℕ) (kind : LinkKind) (f g h : ℕ) (s : State) → Moves g h s → IsFine g h (links k kind f s)
links-fine k kind f g h s m = by (nat_lt s.links MOST_LINKS) (link_stands kind (outcome_of s (Whom.Greenlet k)))
  where
    by : (b c : Bool) → IsFine g h (if b then
        Performed.Answers (Outcome.Value (Value.Int (pos (s.links + 1)))) (if c then add_item (Delivery.Link (s.links + 1) k kind f) (record s { links = s.links + 1 }) else record s { links = s.links + 1 })
        else Performed.Stops StopCause.NoLinks s)
    by true true = moves-add (Delivery.Link (s.links + 1) k kind f) g h (record s { links = s.links + 1 }) (link-unclaimed s m.kept) (at-most (s.links + 1)) refl refl (moves-link g h s m)
    by true false = moves-link g h s m
    by false c = m.kept

pub no_start : (k : ℕ) (d : Delivery) → not (is_start_of k d) ≡ true → not (same_claim (Some (Claim.StartOf k)) (claim_of d)) ≡ true
no_start k (Delivery.Start j deadline) e = e
no_start k (Delivery.Wake j w) e = refl
no_start k (Delivery.Late j deadline n) e = refl
no_start k (Delivery.Timeout j n deadline) e = refl
no_start k (Delivery.Kill j kind) e = refl
no_start k (Delivery.Link n j kind x) e = refl

pub start_of-fine : (k g h : ℕ) (s : State) → (greenlet k s).raw ≡ false → Moves g h s → Moves g h (start_of k s)
start_of-fine k g h s r m = by (greenlet k s).phase refl (has_start k s) refl
  where
    new : (p : Phase) → is_new p ≡ true → is_unstarted (Some p) ≡ true
    new (Phase.New args) e = refl
    new (Phase.Live frame) e = absurd (cc e)
    new (Phase.Done o) e = absurd (cc e)

    both-of : (b c : Bool) → is_new (greenlet k s).phase ≡ b → has_start k s ≡ c → Moves g h (if b && not c then starts_at None k s else s)
    both-of true false e f =
        moves-add (Delivery.Start k None) g h s (all-imply _ _ s.items (λ i. no_start k i.delivery) (none-counted (λ i. is_start_of k i.delivery) s.items f))
        (ap (λ (x : Option Greenlet). is_unstarted (elim x [ None ↦ None | Some y ↦ Some y.phase ])) (new-found s.greenlets k (new (greenlet k s).phase e)) ∙ new (greenlet k s).phase e)
        (plain-here s.greenlets k (greenlet k s) (new-found s.greenlets k (new (greenlet k s).phase e)) r) refl m
    both-of true true e f = m
    both-of false c e f = m

    by : (p : Phase) → (greenlet k s).phase ≡ p → (c : Bool) → has_start k s ≡ c → Moves g h (start_of k s)
    by p e c f = both-of (is_new (greenlet k s).phase) (has_start k s) refl refl

makes-fine : (raw : Bool) (parent f : ℕ) (args : List Value) (more : ℕ → State → State) (g h : ℕ) (s : State) →
    Moves g h s → Moves g h (more (length s.greenlets) (add_greenlet raw parent f args s)) → IsFine g h (makes raw parent f args more s)
makes-fine raw parent f args more g h s m n = by (has_greenlet_left s)
  where
    by : (b : Bool) → IsFine g h (if b then Performed.Answers (Outcome.Value (Value.Greenlet (length s.greenlets))) (more (length s.greenlets) (add_greenlet raw parent f args s)) else Performed.Stops StopCause.NoGreenlets s)
    by true = n
    by false = m.kept

-- ---- objects

releases-fine : (k o g h : ℕ) (x : Object) (s : State) → Moves g h s → IsFine g h (releases k o x s)
releases-fine k o g h (Object.Semaphore counter bound) s m = by (at_bound counter bound)
  where
    by : (b : Bool) → IsFine g h (if b then raises FaultKind.ValueError s else Performed.Answers nothing (with_object o (Object.Semaphore (counter + 1) bound) s))
    by true = m
    by false = moves-object o (Object.Semaphore (counter + 1) bound) g h s refl m
releases-fine k o g h (Object.Lock (Some j) depth) s m = by (k == j)
  where
    by : (b : Bool) → IsFine g h (if b then Performed.Answers nothing (with_object o (Object.Lock (after_release k (depth - 1)) (depth - 1)) s) else raises FaultKind.RuntimeError s)
    by true = moves-object o (Object.Lock (after_release k (depth - 1)) (depth - 1)) g h s refl m
    by false = m
releases-fine k o g h (Object.Lock None depth) s m = m
releases-fine k o g h (Object.Event flag sets) s m = m
releases-fine k o g h (Object.Result x) s m = m
releases-fine k o g h (Object.Queue kind size items unfinished shut) s m = m
releases-fine k o g h (Object.Channel offers) s m = m
releases-fine k o g h (Object.Crew size members) s m = m
releases-fine k o g h (Object.Native slots outstanding) s m = m

finishes-fine : (o g h : ℕ) (x : Object) (s : State) → Moves g h s → IsFine g h (finishes o x s)
finishes-fine o g h (Object.Queue kind size items (suc n) shut) s m = moves-object o (Object.Queue kind size items n shut) g h s refl m
finishes-fine o g h (Object.Queue kind size items zero shut) s m = m
finishes-fine o g h (Object.Channel offers) s m = m
finishes-fine o g h (Object.Event flag sets) s m = m
finishes-fine o g h (Object.Result x) s m = m
finishes-fine o g h (Object.Semaphore counter bound) s m = m
finishes-fine o g h (Object.Lock owner depth) s m = m
finishes-fine o g h (Object.Crew size members) s m = m
finishes-fine o g h (Object.Native slots outstanding) s m = m

-- ---- parents

pub raw_greenlet-raw : (s : State) (v : Value) (k : ℕ) → raw_greenlet s v ≡ Some k → (greenlet k s).raw ≡ true
raw_greenlet-raw s (Value.Greenlet j) k e = by (greenlet j s).raw refl e
  where
    by : (b : Bool) → (greenlet j s).raw ≡ b → ◌≡◌ {A = Option ℕ} (if b then Some j else None) (Some k) → (greenlet k s).raw ≡ true
    by true r e = let same : j ≡ k = cc e in subst (λ i. (greenlet i s).raw ≡ true) same r
    by false r e = absurd (cc e)
raw_greenlet-raw s v k e = absurd (cc e)

-- the child has another parent, which has the same host and on whose chain the child does not stand
pub moves-parent : (child parent g h : ℕ) (s : State) → (greenlet child s).raw ≡ true → host_of s parent ≡ h → is_above (length s.greenlets) s.greenlets child parent ≡ false → Moves g h s →
    Moves g h (record s { greenlets = slice_set s.greenlets child (record (greenlet child s) { parent = parent }) })
moves-parent child parent g h s r theirs apart m =
    let x : Greenlet = record (greenlet child s) { parent = parent } in
    let fs = slice_set s.greenlets child x in
    record {
      kept = kept-greenlets fs s (λ k p. plain-set s.greenlets child k x refl ∙ p) (all-imply _ _ s.items (λ i. still i.delivery) (meants s m.kept.sound)) m.kept;
      live = ap is_live (phase-kept s.greenlets child g x refl) ∙ m.live;
      same = host-turned s.greenlets child g h x (greenlet child s) (raw-found s.greenlets child r) refl (plain-raw s.greenlets h m.host.plain) m.same theirs apart;
      host = record { plain = plain-set s.greenlets child h x refl ∙ m.host.plain; live = ap is_live (phase-kept s.greenlets child h x refl) ∙ m.host.live; free = m.host.free };
    }
  where
    phase : (k : ℕ) → phase_of k (slice_set s.greenlets child (record (greenlet child s) { parent = parent })) ≡ phase_of k s.greenlets
    phase k = phase-kept s.greenlets child k (record (greenlet child s) { parent = parent }) refl

    still : (d : Delivery) → is_meant s d ≡ true → is_meant (record s { greenlets = slice_set s.greenlets child (record (greenlet child s) { parent = parent }) }) d ≡ true
    still (Delivery.Start k deadline) e = ap is_unstarted (phase k) ∙ e
    still (Delivery.Wake k w) e = ap is_live (phase k) ∙ e
    still (Delivery.Late k deadline n) e = ap is_live (phase k) ∙ e
    still (Delivery.Timeout k n deadline) e = and_from _ _ (ap is_live (phase k) ∙ left _ (nat_le n s.timeouts) e) (right (is_live (phase_of k s.greenlets)) _ e)
    still (Delivery.Kill k kind) e = ap is_live (phase k) ∙ e
    still (Delivery.Link n k kind y) e = e

sets_parent-fine : (child parent g h : ℕ) (s : State) → (greenlet child s).raw ≡ true → Moves g h s → IsFine g h (sets_parent g child parent s)
sets_parent-fine child parent g h s r m =
    on_host-fine g h child s (on_host g parent s (turns (is_above (length s.greenlets) s.greenlets child parent))) m
    (λ own. on_host-fine g h parent s (turns (is_above (length s.greenlets) s.greenlets child parent)) m
    (λ theirs. by theirs (is_above (length s.greenlets) s.greenlets child parent) refl))
  where
    turns : Bool → Performed
    turns b = if b then raises FaultKind.ValueError s else done (record s { greenlets = slice_set s.greenlets child (record (greenlet child s) { parent = parent }) })

    by : host_of s parent ≡ h → (b : Bool) → is_above (length s.greenlets) s.greenlets child parent ≡ b →
        IsFine g h (if b then raises FaultKind.ValueError s else done (record s { greenlets = slice_set s.greenlets child (record (greenlet child s) { parent = parent }) }))
    by theirs true e = m
    by theirs false e = moves-parent child parent g h s r theirs e m

-- ---- the rows

-- a greenlet that is not raw is its own host
pub alone : (g h : ℕ) (s : State) (r : Performed) → is_plain s.greenlets g ≡ true → Moves g h s → (Moves g g s → IsFine g g r) → IsFine g h r
alone g h s r p m f =
    let own : h ≡ g = sym m.same ∙ host-plain (length s.greenlets) s.greenlets g (plain-raw s.greenlets g p) in
    subst (λ z. IsFine g z r) (sym own) (f (subst (λ z. Moves g z s) own m))

pub performs-fine : (r : Request) (g h : ℕ) (s : State) → is_meant_request (is_plain s.greenlets g) r ≡ true → Moves g h s → IsFine g h (performs r g s)
unfolding performs
performs-fine (Request.Print v) g h s e m = moves-say (Line.Print g v) g h s m
performs-fine (Request.Spawn f args) g h s e m = makes-fine false 0 f args (starts_at None) g h s m (moves-spawned None 0 f args g h s m)
performs-fine (Request.SpawnLater ms f args) g h s e m =
    makes-fine false 0 f args (starts_at (Some (s.moment + ms))) g h s m (moves-spawned (Some (s.moment + ms)) 0 f args g h s m)
performs-fine (Request.New f args) g h s e m = makes-fine false 0 f args (λ k t. t) g h s m (moves-made false 0 f args g h s m)
performs-fine (Request.Start v) g h s e m =
    typed-fine g h (plain_greenlet s v) s (λ k. done (start_of k s)) m
    (λ k z. start_of-fine k g h s (plain_greenlet-raw s v k z) m)
performs-fine (Request.Sleep ms) g h s e m = comes-fine g h Awaited.Sleep (Waiting.Sleep (s.moment + ms)) Wait.Block s e m
performs-fine (Request.Join v how) g h s e m =
    typed-fine g h (plain_greenlet s v) s (λ k. comes g (Awaited.Join (Whom.Greenlet k)) (Waiting.Join k) how s) m (λ k z. comes-fine g h (Awaited.Join (Whom.Greenlet k)) (Waiting.Join k) how s e m)
performs-fine (Request.Get v how) g h s e m =
    typed-fine g h (whom_operand s v) s (λ whom. comes g (Awaited.Get whom) (Waiting.Get whom) how s) m (λ whom z. comes-fine g h (Awaited.Get whom) (Waiting.Get whom) how s e m)
performs-fine (Request.Kill v f how) g h s e m =
    alone g h s (typed (plain_greenlet s v) s (λ k. typed (fault_operand f) s (λ fault. kills g (Awaited.Kill (Whom.Greenlet k)) fault (k ∷ []) how s))) e m
    (λ n. typed-fine g g (plain_greenlet s v) s (λ k. typed (fault_operand f) s (λ fault. kills g (Awaited.Kill (Whom.Greenlet k)) fault (k ∷ []) how s)) n
    (λ k z. typed-fine g g (fault_operand f) s (λ fault. kills g (Awaited.Kill (Whom.Greenlet k)) fault (k ∷ []) how s) n
    (λ fault y. kills-fine g (Awaited.Kill (Whom.Greenlet k)) fault (k ∷ []) how s (and_from (not (greenlet k s).raw) true (ap not (plain_greenlet-raw s v k z)) refl) n)))
performs-fine (Request.KillAll v f how) g h s e m =
    alone g h s (typed (plain_greenlet_list s v) s (λ ks. typed (fault_operand f) s (λ fault. kills g Awaited.KillAll fault ks how s))) e m
    (λ n. typed-fine g g (plain_greenlet_list s v) s (λ ks. typed (fault_operand f) s (λ fault. kills g Awaited.KillAll fault ks how s)) n
    (λ ks z. typed-fine g g (fault_operand f) s (λ fault. kills g Awaited.KillAll fault ks how s) n
    (λ fault y. kills-fine g Awaited.KillAll fault ks how s (plain_greenlet_list-raw s v ks z) n)))
performs-fine (Request.JoinAll v n how) g h s e m =
    typed-fine g h (plain_greenlet_list s v) s (λ hs. comes g Awaited.JoinAll (Waiting.JoinAll hs (min (unwrap_or n (length hs)) (length hs))) how s) m
    (λ hs z. comes-fine g h Awaited.JoinAll (Waiting.JoinAll hs (min (unwrap_or n (length hs)) (length hs))) how s e m)
performs-fine (Request.Link v kind f) g h s e m = typed-fine g h (plain_greenlet s v) s (λ k. links k kind f s) m (λ k z. links-fine k kind f g h s m)
performs-fine (Request.Unlink v) g h s e m = typed-fine g h (int_operand v) s (λ n. done (drop_items (is_link n) s)) m (λ n z. moves-drop (is_link n) g h s m)
performs-fine (Request.Set o) g h s e m = moves-flag true o g h s m
performs-fine (Request.Clear o) g h s e m = moves-flag false o g h s m
performs-fine (Request.WaitEvent o how) g h s e m = comes-fine g h (Awaited.Wait (name_of_object o s)) (Waiting.Event o (sets_of (object_at o s))) how s e m
performs-fine (Request.ResultSet o v) g h s e m = moves-object o (Object.Result (Some (Outcome.Value v))) g h s refl m
performs-fine (Request.ResultFail o v) g h s e m =
    typed-fine g h (fault_operand (Some v)) s (λ f. put_result o (Outcome.Fault f) s) m (λ f z. moves-object o (Object.Result (Some (Outcome.Fault f))) g h s refl m)
performs-fine (Request.ResultGet o how) g h s e m = comes-fine g h (Awaited.ResultGet (name_of_object o s)) (Waiting.ResultGet o) how s e m
performs-fine (Request.ResultWait o how) g h s e m = comes-fine g h (Awaited.ResultWait (name_of_object o s)) (Waiting.ResultWait o) how s e m
performs-fine (Request.Acquire o how) g h s e m = comes-fine g h (Awaited.Acquire (name_of_object o s)) (acquires o (object_at o s)) how s e m
performs-fine (Request.Release o) g h s e m = releases-fine g o g h (object_at o s) s m
performs-fine (Request.QueuePut o v how) g h s e m = by (takes_value (object_at o s) v)
  where
    by : (b : Bool) → IsFine g h (if b then comes g (Awaited.QueuePut (name_of_object o s)) (Waiting.Put o v) how s else raises FaultKind.TypeError s)
    by true = comes-fine g h (Awaited.QueuePut (name_of_object o s)) (Waiting.Put o v) how s e m
    by false = m
performs-fine (Request.QueueGet o how) g h s e m = comes-fine g h (Awaited.QueueGet (name_of_object o s)) (Waiting.Take o) how s e m
performs-fine (Request.QueuePeek o how) g h s e m = comes-fine g h (Awaited.QueuePeek (name_of_object o s)) (Waiting.Peek o) how s e m
performs-fine (Request.QueueDone o) g h s e m = finishes-fine o g h (object_at o s) s m
performs-fine (Request.QueueJoin o how) g h s e m = comes-fine g h (Awaited.QueueJoin (name_of_object o s)) (Waiting.Tasks o) how s e m
performs-fine (Request.GroupSpawn o f args) g h s e m = comes-fine g h (Awaited.GroupSpawn (name_of_object o s)) (Waiting.Place o f args) Wait.Block s e m
performs-fine (Request.GroupJoin o how) g h s e m = comes-fine g h (Awaited.GroupJoin (name_of_object o s)) (Waiting.Members o) how s e m
performs-fine (Request.GroupKill o f how) g h s e m =
    alone g h s (typed (fault_operand f) s (λ fault. kills g (Awaited.GroupKill (name_of_object o s)) fault (members_of (object_at o s)) how s)) e m
    (λ n. typed-fine g g (fault_operand f) s (λ fault. kills g (Awaited.GroupKill (name_of_object o s)) fault (members_of (object_at o s)) how s) n
    (λ fault y. kills-fine g (Awaited.GroupKill (name_of_object o s)) fault (members_of (object_at o s)) how s (members-raw s.greenlets (object_at o s) (object-plain o s n.kept)) n))
performs-fine (Request.Map o f v) g h s e m = typed-fine g h (list_operand v) s (λ xs. maps xs g o f [] s) m (λ xs z. maps-fine xs g h o f [] s e m)
performs-fine (Request.NativeSpawn o kind v ms) g h s e m =
    typed-fine g h (int_operand v) s (λ z. comes g (Awaited.NativeSpawn (name_of_object o s)) (Waiting.Slot o (job_of kind z) ms) Wait.Block s) m
    (λ z x. comes-fine g h (Awaited.NativeSpawn (name_of_object o s)) (Waiting.Slot o (job_of kind z) ms) Wait.Block s e m)
performs-fine (Request.Raw f None) g h s e m = makes-fine true g f [] (λ k t. t) g h s m (moves-made true g f [] g h s m)
performs-fine (Request.Raw f (Some v)) g h s e m =
    typed-fine g h (any_greenlet v) s (λ k. on_host g k s (makes true k f [] (λ j t. t) s)) m
    (λ k z. on_host-fine g h k s (makes true k f [] (λ j t. t) s) m (λ same. makes-fine true k f [] (λ j t. t) g h s m (moves-made true k f [] g h s m)))
performs-fine (Request.Switch v w) g h s e m =
    typed-fine g h (any_greenlet v) s (λ k. on_host g k s (Performed.Lands k (Outcome.Value w) s)) m
    (λ k z. on_host-fine g h k s (Performed.Lands k (Outcome.Value w) s) m (λ same. record { kept = m.kept; same = same; host = m.host }))
performs-fine (Request.Throw v f) g h s e m =
    typed-fine g h (any_greenlet v) s (λ k. typed (fault_operand f) s (λ fault. on_host g k s (Performed.Lands k (Outcome.Fault fault) s))) m
    (λ k z. typed-fine g h (fault_operand f) s (λ fault. on_host g k s (Performed.Lands k (Outcome.Fault fault) s)) m
    (λ fault y. on_host-fine g h k s (Performed.Lands k (Outcome.Fault fault) s) m (λ same. record { kept = m.kept; same = same; host = m.host })))
performs-fine (Request.SetParent v w) g h s e m =
    typed-fine g h (raw_greenlet s v) s (λ child. typed (any_greenlet w) s (λ parent. sets_parent g child parent s)) m
    (λ child z. typed-fine g h (any_greenlet w) s (λ parent. sets_parent g child parent s) m (λ parent y. sets_parent-fine child parent g h s (raw_greenlet-raw s v child z) m))
performs-fine (Request.ChannelPut o v) g h s e m = offered-fine g h o v s e m
performs-fine (Request.ChannelGet o) g h s e m = comes-fine g h (Awaited.ChannelGet (name_of_object o s)) (Waiting.TakeOffer o) Wait.Block s e m
performs-fine (Request.QueueShut o immediate) g h s e m = moves-shut immediate o g h s m

-- ---- a move

-- the hub goes on after a request
pub follows-soundly : (g h : ℕ) (r : Performed) → IsFine g h r → IsSoundAt (follows g r)
follows-soundly g h (Performed.Answers o s) f = answered-soundly g h o (settle s) (moves-settle g h s f)
follows-soundly g h (Performed.Parks s) f = kept-settle s f
follows-soundly g h (Performed.Lands k o s) f = lands-soundly k h o (settle s) (kept-settle s f.kept) f.same (host-settle h s f.host)
follows-soundly g h (Performed.Stops cause s) f = f

enters-soundly : (g h : ℕ) (ms : Option ℕ) (silent : Bool) (body : List Statement) (locals : List Local) (todo : List Todo) (s : State) →
    is_plain s.greenlets g ≡ true → Moves g h s → IsSoundAt (enters g ms silent body locals todo s)
enters-soundly g h ms silent body locals todo s p m =
    let t = record s { timeouts = s.timeouts + 1 } in
    goes_on-soundly g h (unwind (Todo.Statements body ∷ Todo.Within t.timeouts silent ∷ todo) [] Leaving.Normally locals)
    (settle (timeout_item g t.timeouts ms t)) (moves-settle g h _ (item ms))
  where
    item : (ms : Option ℕ) → Moves g h (timeout_item g (s.timeouts + 1) ms (record s { timeouts = s.timeouts + 1 }))
    item None = moves-timeout g h s m
    item (Some ms) =
        moves-add (Delivery.Timeout g (s.timeouts + 1) (s.moment + ms)) g h (record s { timeouts = s.timeouts + 1 })
        (timeout-unclaimed s m.kept) (and_from _ _ m.live (at-most (s.timeouts + 1))) p refl (moves-timeout g h s m)

does-soundly : (g h : ℕ) (locals : List Local) (d : Did) (s : State) → is_meant_did (is_plain s.greenlets g) d ≡ true → Moves g h s → IsSoundAt (does g locals d s)
does-soundly g h locals (Did.GoesOn how own todo) s e m = goes_on-soundly g h (unwind todo [] how own) (settle s) (moves-settle g h s m)
does-soundly g h locals (Did.Enters ms silent body todo) s e m = enters-soundly g h ms silent body locals todo s e m
does-soundly g h locals (Did.Asks request x todo) s e m =
    let p = Phase.Live (record { locals = locals; todo = todo; gives = x }) in
    let t = with_phase g p s in
    let meant : is_meant_request (is_plain t.greenlets g) request ≡ true = ap (λ b. is_meant_request b request) (plain-phased g p s g) ∙ e in
    follows-soundly g h (performs request g t) (performs-fine request g h t meant (moves-live g h _ s m))

pub move-soundly : (g : ℕ) (s : State) → is_meant_move g s ≡ true → IsKept s → IsGoing g s → IsSoundAt (move g s)
unfolding move
move-soundly g s e k i =
    let m = moving g s k i in
    let t = record s { moves = s.moves + 1 } in
    let n : Moves g (host_of s g) t = record {
      kept = record { sound = k.sound; owners = k.owners; members = k.members; main = k.main };
      live = m.live;
      same = m.same;
      host = record { plain = m.host.plain; live = m.host.live; free = m.host.free };
    } in
    does-soundly g (host_of s g) _ (next_did g s) t e n
