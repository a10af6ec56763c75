-- How a greenlet goes on, ends and lands, soundly.
use Rattle.std.proofs.Common.{◌≡◌, refl, ap, ◌∙◌, sym, subst, ℕ, zero, suc, ◌≤◌, Bool, true, false, List, [], ◌∷◌, length, arith}
use Rattle.std.specs.Prelude.{not, ◌==◌, Some, None, if◌then◌else◌}
use Rattle.gv_values.specs.declared.value.Value.{Value}
use Rattle.gv_values.specs.declared.value.Outcome.{Outcome}
use Rattle.trace_text.specs.declared.line.Line.{Line}
use Rattle.machine.specs.declared.items.Delivery.{Delivery}
use Rattle.machine.specs.declared.state.Frame.{Frame}
use Rattle.machine.specs.declared.state.Phase.{Phase}
use Rattle.machine.specs.Unwinding.{Unwound, unwind}
use Rattle.machine.specs.State.{State, say}
use Rattle.machine.specs.Soundness.{phase_of, Claim, claim_of, is_live, is_unclaimed, same_claim}
use Rattle.machine.specs.Landing.{Next, Landing, after_end, goes_on, starts, resumes, given, land, lands, answered}
use Rattle.machine.specs.Items.{drop_items, is_timeout_of, is_wait_of}
use Rattle.machine.specs.Greenlets.{with_phase, greenlet, function_of, frame_of}
use Rattle.machine.specs.Ends.{ended, stop_of, leaving_of, outcome_of_leaving}
use Rattle.machine.specs.Hosts.{host_within, host_of}
use Rattle.gv_values.specs.Ends.{kept}
use Rattle.machine_soundness.specs.Going.{is_plain, is_for_plain, has_no_wait, IsKept, IsGoing, IsSoundAt}
use Rattle.machine_soundness.proofs.Lists.{all-imply, all-filter, equal}
use Rattle.machine_soundness.proofs.Greenlets.{at, plain-found, plain-raw, raw-found, live-here, live-phase, host-plain, host-more}
use Rattle.machine_soundness.proofs.States.{IsHost, Moves, going, kept-say, kept-drop, kept-live, kept-ended, host-say, host-drop, host-live, host-ended, host_of-phased, length-phased, live-unclaimed, plain-phased}

-- where an input lands at a greenlet that has this host, the hub stands soundly
abbrev pub LandsSoundly : ℕ → Landing → Type 0
LandsSoundly n up = (g h : ℕ) (o : Outcome) (s : State) → n ≤ length s.greenlets → IsKept s → host_within n s.greenlets g ≡ h → IsHost h s → IsSoundAt (up g o s)

-- ---- one that is not raw

pub after_end-plain : (up : Landing) (g : ℕ) (o : Outcome) (s : State) → (greenlet g s).raw ≡ false → IsKept s → IsSoundAt (after_end up g o s)
after_end-plain up g o s e h = by (greenlet g s).raw e (g == 0) (kept-ended g (kept o) s h)
  where
    by : (raw : Bool) → raw ≡ false → (main : Bool) → IsKept (ended g (kept o) s) →
        IsSoundAt (if raw then up (greenlet g s).parent (kept o) (ended g (kept o) s)
        else (if main then Next.Over (stop_of (kept o)) (ended g (kept o) s) else Next.Resting (ended g (kept o) s)))
    by true e main k = absurd (cc e)
    by false e true k = k
    by false e false k = k

pub goes_on-plain : (up : Landing) (g : ℕ) (u : Unwound) (s : State) → is_plain s.greenlets g ≡ true → is_unclaimed (Some (Claim.StartOf g)) s.items ≡ true →
    has_no_wait g s.items ≡ true → IsKept s → IsSoundAt (goes_on up g u s)
goes_on-plain up g (Unwound.Runs left locals todo) s p u f h =
    let frame : Frame = record { locals = locals; todo = todo; gives = None } in
    let t = drop_items (is_timeout_of g left) s in
    let found = plain-found s.greenlets g p in
    let now = with_phase g (Phase.Live frame) t in
    let lives : is_live (phase_of g now.greenlets) ≡ true = live-here s.greenlets g (record (greenlet g s) { phase = Phase.Live frame }) found.0 refl found.1 in
    let plain : is_plain now.greenlets g ≡ true = plain-phased g (Phase.Live frame) t g ∙ p in
    let k : IsKept now = kept-live g frame t (all-filter _ _ _ s.items (λ i a b. b) u) (kept-drop (is_timeout_of g left) s h) in (
      k,
      going g g now (record {
        kept = k;
        live = lives;
        same = host-plain (length now.greenlets) now.greenlets g (plain-raw now.greenlets g plain);
        host = record { plain = plain; live = lives; free = all-filter _ _ _ s.items (λ i a b. b) f };
      }),
    )
goes_on-plain up g (Unwound.Out left how) s p u f h =
    after_end-plain up g (outcome_of_leaving how) (drop_items (is_timeout_of g left) s) (plain-raw s.greenlets g p) (kept-drop (is_timeout_of g left) s h)

-- ---- a raw one

pub after_end-raw : (n : ℕ) (up : Landing) (g h : ℕ) (o : Outcome) (s : State) → LandsSoundly n up → n ≤ length s.greenlets → (greenlet g s).raw ≡ true → IsKept s →
    host_within n s.greenlets (greenlet g s).parent ≡ h → IsHost h s → IsSoundAt (after_end up g o s)
after_end-raw n up g h o s l few e k same m =
    let other : g ≡ h → ⊥ = λ z. cc (e, plain-raw s.greenlets h m.plain, ap (λ i. (at s.greenlets i).raw) z) in
    let t = ended g (kept o) s in
    let fewer : n ≤ length t.greenlets = omega (arith, few, length-phased g (Phase.Done (kept o)) s) in
    let lands = l (greenlet g s).parent h (kept o) t fewer (kept-ended g (kept o) s k)
    (host_of-phased n g (Phase.Done (kept o)) s (greenlet g s).parent ∙ same) (host-ended g (kept o) h s other m) in
    by (greenlet g s).raw e lands
  where
    by : (raw : Bool) → raw ≡ true → IsSoundAt (up (greenlet g s).parent (kept o) (ended g (kept o) s)) →
        IsSoundAt (if raw then up (greenlet g s).parent (kept o) (ended g (kept o) s)
        else (if g == 0 then Next.Over (stop_of (kept o)) (ended g (kept o) s) else Next.Resting (ended g (kept o) s)))
    by true e l = l
    by false e l = absurd (cc e)

-- no item is of a raw greenlet
pub raw-unclaimed : (g : ℕ) (s : State) → (greenlet g s).raw ≡ true → IsKept s → is_unclaimed (Some (Claim.StartOf g)) s.items ≡ true
raw-unclaimed g s e h = all-imply _ _ s.items (λ i. none i.delivery) h.owners
  where
    by : (k : ℕ) (b : Bool) → (g == k) ≡ b → is_plain s.greenlets k ≡ true → not b ≡ true
    by k true z p = cc (e, plain-raw s.greenlets k p, ap (λ i. (at s.greenlets i).raw) (equal g k z))
    by k false z p = refl

    none : (d : Delivery) → is_for_plain s.greenlets d ≡ true → not (same_claim (Some (Claim.StartOf g)) (claim_of d)) ≡ true
    none (Delivery.Start k deadline) p = by k (g == k) refl p
    none (Delivery.Wake k w) p = refl
    none (Delivery.Late k deadline n) p = refl
    none (Delivery.Timeout k n deadline) p = refl
    none (Delivery.Kill k kind) p = refl
    none (Delivery.Link n k kind x) p = refl

pub goes_on-raw : (n : ℕ) (up : Landing) (g h : ℕ) (u : Unwound) (s : State) → LandsSoundly n up → suc n ≤ length s.greenlets → (greenlet g s).raw ≡ true → IsKept s →
    host_within n s.greenlets (greenlet g s).parent ≡ h → IsHost h s → IsSoundAt (goes_on up g u s)
goes_on-raw n up g h (Unwound.Runs left locals todo) s l few e k same m =
    let frame : Frame = record { locals = locals; todo = todo; gives = None } in
    let t = drop_items (is_timeout_of g left) s in
    let now = with_phase g (Phase.Live frame) t in
    let lives : is_live (phase_of g now.greenlets) ≡ true = live-here s.greenlets g (record (greenlet g s) { phase = Phase.Live frame }) (greenlet g s) refl (raw-found s.greenlets g e) in
    let new : IsKept now = kept-live g frame t (all-filter _ _ _ s.items (λ i a b. b) (raw-unclaimed g s e k)) (kept-drop (is_timeout_of g left) s k) in
    let within : host_within (suc n) s.greenlets g ≡ h = ap (λ b. elim b [ true ↦ host_within n s.greenlets (greenlet g s).parent | false ↦ g ]) e ∙ same in
    let host : host_of s g ≡ h =
    host-more (suc n) (length s.greenlets) s.greenlets g few (ap (λ z. (at s.greenlets z).raw) within ∙ plain-raw s.greenlets h m.plain) ∙ within in (
      new,
      going g h now (record {
        kept = new;
        live = lives;
        same = ap (λ z. host_within z now.greenlets g) (length-phased g (Phase.Live frame) s) ∙ host_of-phased (length s.greenlets) g (Phase.Live frame) s g ∙ host;
        host = host-live g frame h t (host-drop (is_timeout_of g left) h s m);
      }),
    )
goes_on-raw n up g h (Unwound.Out left how) s l few e k same m =
    after_end-raw n up g h (outcome_of_leaving how) (drop_items (is_timeout_of g left) s) l (omega (arith, few)) e (kept-drop (is_timeout_of g left) s k) same (host-drop (is_timeout_of g left) h s m)

-- ---- landing

land-raw : (n : ℕ) (g h : ℕ) (o : Outcome) (s : State) → LandsSoundly n (land n) → suc n ≤ length s.greenlets → (greenlet g s).raw ≡ true → IsKept s →
    host_within n s.greenlets (greenlet g s).parent ≡ h → IsHost h s → IsSoundAt (land (suc n) g o s)
land-raw n g h o s l few e k same m = by (greenlet g s).phase o
  where
    by : (p : Phase) (o : Outcome) → IsSoundAt (elim p [
      | Phase.Done out ↦ land n (greenlet g s).parent (kept o) s
      | Phase.Live frame ↦ resumes (land n) g frame o (say (Line.Into g o) s)
      | Phase.New args ↦ elim o [
        | Outcome.Value v ↦ starts (land n) g (v ∷ []) s
        | Outcome.Fault f ↦ after_end (land n) g (Outcome.Fault f) s
      ]
    ])
    by (Phase.Done out) o = l (greenlet g s).parent h (kept o) s (omega (arith, few)) k same m
    by (Phase.Live frame) o = goes_on-raw n (land n) g h _ (say (Line.Into g o) s) l few e (kept-say _ s k) same (host-say _ h s m)
    by (Phase.New args) (Outcome.Value v) = goes_on-raw n (land n) g h _ (say (Line.Start g (function_of (greenlet g s).function s).name) s) l few e (kept-say _ s k) same (host-say _ h s m)
    by (Phase.New args) (Outcome.Fault f) = after_end-raw n (land n) g h (Outcome.Fault f) s l (omega (arith, few)) e k same m

land-plain : (n : ℕ) (g : ℕ) (o : Outcome) (s : State) → IsKept s → IsHost g s → IsSoundAt (land (suc n) g o s)
land-plain n g o s k m = by (greenlet g s).phase (ap is_live (sym (live-phase s.greenlets g m.live)) ∙ m.live) o
  where
    by : (p : Phase) → is_live (Some p) ≡ true → (o : Outcome) → IsSoundAt (elim p [
      | Phase.Done out ↦ land n (greenlet g s).parent (kept o) s
      | Phase.Live frame ↦ resumes (land n) g frame o (say (Line.Into g o) s)
      | Phase.New args ↦ elim o [
        | Outcome.Value v ↦ starts (land n) g (v ∷ []) s
        | Outcome.Fault f ↦ after_end (land n) g (Outcome.Fault f) s
      ]
    ])
    by (Phase.Done out) z o = absurd (cc z)
    by (Phase.Live frame) z o = goes_on-plain (land n) g _ (say (Line.Into g o) s) m.plain (live-unclaimed g s k m.live) m.free (kept-say _ s k)
    by (Phase.New args) z o = absurd (cc z)

pub land-soundly : (n : ℕ) → LandsSoundly n (land n)
land-soundly zero g h o s few k same m = k
land-soundly (suc n) g h o s few k same m = by (greenlet g s).raw refl same (land-soundly n)
  where
    by : (raw : Bool) → (greenlet g s).raw ≡ raw → ◌≡◌ {A = ℕ} (elim raw [ true ↦ host_within n s.greenlets (greenlet g s).parent | false ↦ g ]) h → LandsSoundly n (land n) → IsSoundAt (land (suc n) g o s)
    by true e same l = land-raw n g h o s l few e k same m
    by false e same l = land-plain n g o s k (subst (λ z. IsHost z s) (sym same) m)

-- the input lands at a greenlet whose host is live
pub lands-soundly : (g h : ℕ) (o : Outcome) (s : State) → IsKept s → host_of s g ≡ h → IsHost h s → IsSoundAt (lands g o s)
lands-soundly g h o s k same m = land-soundly (length s.greenlets) g h o s (omega arith) k same m

-- ---- the statement of a greenlet is answered

lands-any : (n : ℕ) → LandsSoundly n lands
lands-any n g h o s few k same m =
    lands-soundly g h o s k (host-more n (length s.greenlets) s.greenlets g few (ap (λ z. (at s.greenlets z).raw) same ∙ plain-raw s.greenlets h m.plain) ∙ same) m

-- a greenlet that moves goes on in its body
pub goes_on-soundly : (g h : ℕ) (u : Unwound) (s : State) → Moves g h s → IsSoundAt (goes_on lands g u s)
goes_on-soundly g h u s m = by (greenlet g s).raw refl
  where
    within : (n : ℕ) → n ≤ length s.greenlets → (greenlet g s).raw ≡ true → host_within n s.greenlets g ≡ h → IsSoundAt (goes_on lands g u s)
    within zero few e same = absurd (cc (e, plain-raw s.greenlets h m.host.plain))
    within (suc n) few e same =
        goes_on-raw n lands g h u s (lands-any n) few e m.kept
        (sym (ap (λ b. elim b [ true ↦ host_within n s.greenlets (greenlet g s).parent | false ↦ g ]) e) ∙ same) m.host

    by : (raw : Bool) → (greenlet g s).raw ≡ raw → IsSoundAt (goes_on lands g u s)
    by true e = within (length s.greenlets) (omega arith) e m.same
    by false e =
        let own : h ≡ g = sym m.same ∙ host-plain (length s.greenlets) s.greenlets g e in
        let host : IsHost g s = subst (λ z. IsHost z s) own m.host in
        goes_on-plain lands g u s host.plain (live-unclaimed g s m.kept m.live) host.free m.kept

pub answered-soundly : (g h : ℕ) (o : Outcome) (s : State) → Moves g h s → IsSoundAt (answered g o s)
answered-soundly g h o s m =
    goes_on-soundly g h (unwind (frame_of (greenlet g s).phase).todo [] (leaving_of o) (given (frame_of (greenlet g s).phase) o)) s m

-- the body of one that is not raw and has no item of its own starts
pub starts-soundly : (g : ℕ) (args : List Value) (s : State) → is_plain s.greenlets g ≡ true → is_unclaimed (Some (Claim.StartOf g)) s.items ≡ true →
    has_no_wait g s.items ≡ true → IsKept s → IsSoundAt (starts lands g args s)
starts-soundly g args s p u f k =
    goes_on-plain lands g _ (say (Line.Start g (function_of (greenlet g s).function s).name) s) p u f (kept-say _ s k)

-- ---- who moves is not parked

-- nothing waits for a raw greenlet
pub raw-free : (g : ℕ) (s : State) → (greenlet g s).raw ≡ true → IsKept s → has_no_wait g s.items ≡ true
raw-free g s e h = all-imply _ _ s.items (λ i. none i.delivery) h.owners
  where
    by : (k : ℕ) (b : Bool) → (g == k) ≡ b → is_plain s.greenlets k ≡ true → not b ≡ true
    by k true z p = cc (e, plain-raw s.greenlets k p, ap (λ i. (at s.greenlets i).raw) (equal g k z))
    by k false z p = refl

    none : (d : Delivery) → is_for_plain s.greenlets d ≡ true → not (is_wait_of g d) ≡ true
    none (Delivery.Start k deadline) p = refl
    none (Delivery.Wake k w) p = by k (g == k) refl p
    none (Delivery.Late k deadline n) p = by k (g == k) refl p
    none (Delivery.Timeout k n deadline) p = refl
    none (Delivery.Kill k kind) p = refl
    none (Delivery.Link n k kind x) p = refl

pub going-free : (g : ℕ) (s : State) → IsKept s → IsGoing g s → has_no_wait g s.items ≡ true
going-free g s h i = by (greenlet g s).raw refl
  where
    by : (raw : Bool) → (greenlet g s).raw ≡ raw → has_no_wait g s.items ≡ true
    by true e = raw-free g s e h
    by false e = subst (λ z. has_no_wait z s.items ≡ true) (host-plain (length s.greenlets) s.greenlets g e) i.free
