-- What keeps the invariant of the hub through each of its calls, by the fields that the call changes.
use Rattle.std.proofs.Common.{◌≡◌, refl, sym, ap, subst, ◌∙◌, ℕ, ◌+◌, ◌-◌, ◌==◌, Bool, true, false, not, List, [], ◌∷◌, ◌++◌, length, map, slice_set, Option, Some, None, if◌then◌else◌, arith}
use Rattle.std.specs.Prelude.{◌||◌, Result, Ok, Err, OnOk, OnErr, IfSome, is_some, option_and_then}
use Rattle.std.specs.List.{list_any}
use Rattle.std.proofs.lemmas.List.{length-map, length-set, map-append}
use Rattle.item_places.specs.Items.{Lacks}
use Rattle.gv_values.specs.declared.job.Job.{Job}
use Rattle.gv_values.specs.declared.job.JobOutcome.{JobOutcome}
use Rattle.gv_values.specs.declared.value.Value.{Value}
use Rattle.trace_text.specs.declared.line.Line.{Line}
use Rattle.machine.specs.declared.items.Delivery.{Delivery}
use Rattle.machine.specs.declared.items.Item.{Item}
use Rattle.machine.specs.declared.state.Greenlet.{Greenlet}
use Rattle.machine.specs.declared.state.JobState.{JobState}
use Rattle.machine.specs.declared.state.Object.{Object}
use Rattle.machine.specs.declared.state.Phase.{Phase}
use Rattle.machine.specs.declared.state.Post.{Post}
use Rattle.machine.specs.State.{State}
use Rattle.machine.specs.Deliveries.{without}
use Rattle.machine.specs.Greenlets.{add_greenlet, with_phase}
use Rattle.machine.specs.Holds.{delivery_holds, holds, is_done, job_at, outcome_of_phase}
use Rattle.machine.specs.Objects.{object_at, with_object, with_slot_freed, without_member, without_offer}
use Rattle.machine.specs.Questions.{arrives}
use Rattle.machine.specs.Run.{least_below}
use Rattle.machine.specs.Settle.{settle}
use Rattle.machine.specs.Soundness.{claim_of, is_unclaimed}
use Rattle.machine.specs.Waits.{posted}
use Rattle.machine_settling.specs.Classes.{class_of}
use Rattle.machine_settling.specs.Numbers.{IsAscending}
use Rattle.machine_settling.specs.Steps.{Step, after, has_member, has_offer_by}
use Rattle.machine_settling.proofs.Agreements.{in_filter}
use Rattle.machine_settling.proofs.Members.{In}
use Rattle.hub_items.specs.Gone.{gone_of}
use Rattle.hub_items.specs.Short.{DeliversShort}
use Rattle.hub_items.specs.Sound.{AscendTo, IsSound}
use Rattle.hub_items.specs.declared.gone.Gone.{Gone}
use Rattle.hub_items.proofs.Shorts.{short_least}
use Rattle.hub_state.proofs.Sounds.{sound_filter, sound_more, sound_settled, sound_without}
use Rattle.held_items.specs.Entries.{Entry, SeenItems, flat, item_in, slots_of, without_slot}
use Rattle.held_items.specs.Held.{added, taken, without_all}
use Rattle.held_items.specs.Lined.{new_item}
use Rattle.held_items.specs.Waits.{waits_at}
use Rattle.held_items.proofs.EntryLemmas.{is_other, is_same}
use Rattle.hub_state.specs.Over.{over, with_held}
use Rattle.hub_state.specs.Touched.{HasPlaces, HasTouched, IsKept, IsPending, IsUpToDate, SeenTouched, awaited, left_by, reopened, untouched, with_end, with_touched}
use Rattle.hub_state.proofs.Awaiting.{kept_unawaited}
use Rattle.hub_state.proofs.Finding.{in_flat}
use Rattle.hub_state.proofs.Touching.{Grows, grows_all, grows_end, grows_on, grows_same, grows_touched, kept_added, kept_beside, kept_grown, pending_fewer, pending_more}
use Rattle.hub_state.proofs.UpToDate.{ascending, kept_arrived, kept_changed, kept_comes, kept_dropped, kept_left, kept_made, kept_parented, kept_posted, kept_settled, kept_taken, kept_withdrawn, pending_settled}
use Rattle.hub_state.proofs.Walks.{flat_kept}

-- what is taken to be delivered is short
pub short_taken : (mark q : ℕ) (es : List Entry) (o : Option ℕ) (i : Item) → option_and_then (λ p. item_in p es) o ≡ least_below mark (flat es) → o ≡ Some q → item_in q es ≡ Some i → IsSound (flat es) →
    DeliversShort i.delivery
short_taken mark q es o i e f g h =
    let least : least_below mark (flat es) ≡ Some i = sym e ∙ ap (option_and_then (λ p. item_in p es)) f ∙ g in
    subst (λ (x : Option Item). IfSome x (λ j. DeliversShort j.delivery)) least (short_least mark (flat es) h.short)

-- ---- all of the hub

-- the item that was added is in its slot
pub item_last : (q : ℕ) (i : Item) (es : List Entry) → Lacks q (slots_of es) → item_in q (es ++ (q, i) ∷ []) ≡ Some i
item_last q i [] l = rw (is_same q q refl) refl
item_last q i (x ∷ es) l = rw (is_other x.0 q (λ g. l.0 (sym g))) (item_last q i es l.1)

-- when it is taken again, all is as it was
pub without_last : (q : ℕ) (i : Item) (es : List Entry) → Lacks q (slots_of es) → without_slot q (es ++ (q, i) ∷ []) ≡ es
without_last q i [] l = rw (is_same q q refl) refl
without_last q i (x ∷ es) l = rw (is_other x.0 q (λ g. l.0 (sym g))) (ap (λ xs. x ∷ xs) (without_last q i es l.1))

-- an item is taken, and the object is touched at which it waited
pub hub_taken : (q : ℕ) (i : Item) (held now : SeenItems) (t u : SeenTouched) (s : State) → AscendTo 0 held.next_since (flat held.entries) → item_in q held.entries ≡ Some i → now ≡ taken q held →
    flat now.entries ≡ without i.since (flat held.entries) → u ≡ with_touched (awaited (class_of i.delivery)) t → IsKept held t (with_held held s) → IsKept now u (with_held now s)
hub_taken q i held now t u s a there e same touched h =
    subst (λ v. IsKept now v (with_held now s)) (sym touched) (subst (λ n. flat n.entries ≡ without i.since (flat held.entries) → IsKept n (with_touched (awaited (class_of i.delivery)) t) (with_held n s)) (sym e) gone same)
  where
    gone : flat (without_slot q held.entries) ≡ without i.since (flat held.entries) → IsKept (taken q held) (with_touched (awaited (class_of i.delivery)) t) (with_held (taken q held) s)
    gone k = record {
      sound = subst IsSound (sym k) (sound_without i.since (flat held.entries) h.sound);
      current =
          subst (λ items. IsUpToDate (with_touched (awaited (class_of i.delivery)) t) (over items held.next held.next_since s)) (sym k)
          (kept_taken i t (with_held held s) (ascending 0 held.next_since (flat held.entries) a) (in_flat q i held.entries there) h.current);
      pending = pending_fewer t.made (with_touched (awaited (class_of i.delivery)) t).made held.entries (without_slot q held.entries) (grows_touched (awaited (class_of i.delivery)) t).made
          (in_filter (λ (x : Entry). not (x.0 == q)) held.entries) h.pending;
      few = h.few;
    }

-- items go, and the object is touched at which the Wake among them waited
pub hub_dropped : (gone : Gone) (held now : SeenItems) (t u : SeenTouched) (s : State) → AscendTo 0 held.next_since (flat held.entries) → now ≡ without_all (gone_of gone) held →
    u ≡ with_touched (left_by gone (flat held.entries)) t → IsKept held t (with_held held s) → IsKept now u (with_held now s)
hub_dropped gone held now t u s a e touched h =
    subst (λ v. IsKept now v (with_held now s)) (sym touched) (subst (λ n. IsKept n (with_touched (left_by gone (flat held.entries)) t) (with_held n s)) (sym e) there)
  where
    object : Option ℕ
    object = left_by gone (flat held.entries)

    there : IsKept (without_all (gone_of gone) held) (with_touched object t) (with_held (without_all (gone_of gone) held) s)
    there =
        let k = flat_kept (gone_of gone) held.entries in
        record {
          sound = subst IsSound (sym k) (sound_filter (λ (i : Item). not (gone_of gone i.delivery)) (flat held.entries) h.sound);
          current =
              subst (λ items. IsUpToDate (with_touched object t) (over items held.next held.next_since s)) (sym k)
              (kept_dropped gone t (with_held held s) (ascending 0 held.next_since (flat held.entries) a) h.sound.single h.current);
          pending = pending_fewer t.made (with_touched object t).made held.entries (without_all (gone_of gone) held).entries (grows_touched object t).made
              (in_filter (λ (x : Entry). not (gone_of gone x.1.delivery)) held.entries) h.pending;
          few = h.few;
        }

-- more is touched, and nothing is done
pub hub_grown : (held : SeenItems) (t u : SeenTouched) (s : State) → Grows t u → IsKept held t s → IsKept held u s
hub_grown held t u s g h = record {
  sound = h.sound;
  current = kept_grown t u s g h.current;
  pending = pending_fewer t.made u.made held.entries held.entries g.made (λ x k. k) h.pending;
  few = h.few;
}

-- fewer numbers are left, where the items are the same
pub hub_roomier : (held now : SeenItems) (t u : SeenTouched) (s : State) → now.entries ≡ held.entries → Grows t u → IsKept held t (with_held held s) → IsKept now u (with_held now s)
hub_roomier held now t u s e g h =
    let k = hub_grown held t u (with_held held s) g h in
    record {
      sound = subst (λ es. IsSound (flat es)) (sym e) k.sound;
      current = subst (λ es. IsUpToDate u (over (flat es) now.next now.next_since s)) (sym e) (kept_beside now.next now.next_since s.lines s.posts u (with_held held s) k.current);
      pending = subst (IsPending u.made) (sym e) k.pending;
      few = k.few;
    }

-- an item is added, which doesn't hold where its class is not touched
pub hub_added : (q : ℕ) (d : Delivery) (held now : SeenItems) (t w : SeenTouched) (s : State) → AscendTo 0 held.next_since (flat held.entries) → is_unclaimed (claim_of d) (flat held.entries) ≡ true → DeliversShort d →
    now ≡ added q d held → Grows t w → (reopened w (class_of d) ≡ false → delivery_holds (with_held held s) held.next_since d ≡ false) → HasPlaces w (class_of d) → In q w.made →
    IsKept held t (with_held held s) → IsKept now w (with_held now s)
hub_added q d held now t w s a free short e g fails mark made h = subst (λ n. IsKept n w (with_held n s)) (sym e) there
  where
    there : IsKept (added q d held) w (with_held (added q d held) s)
    there =
        let pushed : flat (added q d held).entries ≡ flat held.entries ++ new_item held.next_since d ∷ [] = map-append (λ (x : Entry). x.1) held.entries ((q, new_item held.next_since d) ∷ []) in
        record {
          sound = subst IsSound (sym pushed) (sound_more held.next_since d (flat held.entries) h.sound free short);
          current =
              subst (λ items. IsUpToDate w (over items held.next (held.next_since + 1) s)) (sym pushed)
              (kept_added d t w (with_held held s) (ascending 0 held.next_since (flat held.entries) a) g fails mark h.current);
          pending = pending_more t.made w.made held.entries (q, new_item held.next_since d) g.made made h.pending;
          few = h.few;
        }

-- a settling, after which nothing is touched
pub hub_settled : (held now : SeenItems) (t u : SeenTouched) (s : State) → flat now.entries ≡ (settle (with_held held s)).items → now.next ≡ (settle (with_held held s)).next_ready → now.next_since ≡ held.next_since →
    u ≡ untouched t → IsKept held t (with_held held s) → IsKept now u (with_held now s)
hub_settled held now t u s e n m touched h =
    subst (λ w. IsKept now w (with_held now s)) (sym touched)
    (record {
      sound = subst IsSound (sym e) (sound_settled (map (holds (with_held held s)) (flat held.entries)) held.next (flat held.entries) h.sound);
      current =
          subst (λ items. IsUpToDate (untouched t) (over items now.next now.next_since s)) (sym e)
          (kept_beside now.next now.next_since s.lines s.posts (untouched t) (settle (with_held held s)) (kept_settled t (with_held held s) h.current));
      pending = pending_settled [] now.entries (with_held held s) e;
      few = h.few;
    })

-- a step that leaves the items as they are
pub hub_moved : (held : SeenItems) (t u : SeenTouched) (s r : State) → Grows t u → length r.objects ≡ length s.objects → IsUpToDate u r → IsKept held t s → IsKept held u r
hub_moved held t u s r g same current h = record {
  sound = h.sound;
  current = current;
  pending = pending_fewer t.made u.made held.entries held.entries g.made (λ x k. k) h.pending;
  few = let f = h.few in omega (arith, f, same);
}

-- ---- by the fields that a call changes

-- whether it went well or not
pub either_way : {A E : Type 0} (r : Result A E) (P Q R : Type 0) → (P → R) → (Q → R) → OnOk r P → OnErr r Q → R
either_way (Ok x) P Q R f g p q = f p
either_way (Err e) P Q R f g p q = g q

pub hub_changed : (o : ℕ) (x : Object) (held : SeenItems) (t u : SeenTouched) (s : State) (objects : List Object) → IsAscending s → u ≡ with_touched (Some o) t → objects ≡ slice_set s.objects o x → IsKept held t s →
    IsKept held u (record s { objects = objects })
hub_changed o x held t u s objects a touched e h =
    subst (λ v. IsKept held v (record s { objects = objects })) (sym touched)
    (subst (λ xs. IsKept held (with_touched (Some o) t) (record s { objects = xs })) (sym e)
    (hub_moved held t (with_touched (Some o) t) s (with_object o x s) (grows_touched (Some o) t) (length-set s.objects o x) (kept_changed o x t s a h.current) h))

-- it need be touched only where somebody waits there
pub hub_changed_if : (o : ℕ) (x : Object) (b : Bool) (held : SeenItems) (t u : SeenTouched) (s : State) (objects : List Object) → IsAscending s → b ≡ list_any (λ (i : Item). waits_at o i.delivery) s.items →
    u ≡ with_touched (if b then Some o else None) t → objects ≡ slice_set s.objects o x → IsKept held t s → IsKept held u (record s { objects = objects })
hub_changed_if o x true held t u s objects a awaited touched e h = hub_changed o x held t u s objects a touched e h
hub_changed_if o x false held t u s objects a awaited touched e h =
    subst (λ v. IsKept held v (record s { objects = objects })) (sym touched)
    (subst (λ xs. IsKept held t (record s { objects = xs })) (sym e)
    (hub_moved held t t s (with_object o x s) (grows_same t) (length-set s.objects o x) (kept_unawaited o t (with_object o x s) (sym awaited) (kept_changed o x t s a h.current)) h))

-- more is touched, and a call that fails leaves the objects as they are
pub hub_failed : (held : SeenItems) (t u : SeenTouched) (s : State) (objects : List Object) → Grows t u → objects ≡ s.objects → IsKept held t s → IsKept held u (record s { objects = objects })
hub_failed held t u s objects g e h = subst (λ xs. IsKept held u (record s { objects = xs })) (sym e) (hub_grown held t u s g h)

pub hub_left : (g : ℕ) (held : SeenItems) (t u : SeenTouched) (s : State) (objects : List Object) → IsAscending s → HasTouched (has_member g) s.objects (length s.objects) t u → objects ≡ map (without_member g) s.objects →
    IsKept held t s → IsKept held u (record s { objects = objects })
hub_left g held t u s objects a m e h =
    subst (λ xs. IsKept held u (record s { objects = xs })) (sym e)
    (hub_moved held t u s (record s { objects = map (without_member g) s.objects }) (grows_all (has_member g) s.objects (length s.objects) t u m) (length-map s.objects (without_member g)) (kept_left g t u s a m h.current) h)

pub hub_withdrawn : (since : ℕ) (held : SeenItems) (t u : SeenTouched) (s : State) (objects : List Object) → IsAscending s → HasTouched (has_offer_by since) s.objects (length s.objects) t u →
    objects ≡ map (without_offer since) s.objects → IsKept held t s → IsKept held u (record s { objects = objects })
hub_withdrawn since held t u s objects a m e h =
    subst (λ xs. IsKept held u (record s { objects = xs })) (sym e)
    (hub_moved held t u s (record s { objects = map (without_offer since) s.objects }) (grows_all (has_offer_by since) s.objects (length s.objects) t u m) (length-map s.objects (without_offer since)) (kept_withdrawn since t u s a m h.current)
    h)

pub hub_comes : (g : ℕ) (phase : Phase) (b : Bool) (held : SeenItems) (t u : SeenTouched) (s : State) (greenlets : List Greenlet) → IsAscending s → b ≡ (is_done s g || is_some (outcome_of_phase phase)) → u ≡ with_end b g t →
    greenlets ≡ (with_phase g phase s).greenlets → IsKept held t s → IsKept held u (record s { greenlets = greenlets })
hub_comes g phase b held t u s greenlets a ended touched e h =
    subst (λ v. IsKept held v (record s { greenlets = greenlets })) (sym touched)
    (subst (λ gs. IsKept held (with_end b g t) (record s { greenlets = gs })) (sym e)
    (hub_moved held t (with_end b g t) s (with_phase g phase s) (grows_end b g t) refl (kept_comes g phase b t s a ended h.current) h))

pub hub_parented : (child parent : ℕ) (held : SeenItems) (t : SeenTouched) (s : State) (greenlets : List Greenlet) → IsAscending s → greenlets ≡ (after (Step.Parents child parent) s).greenlets → IsKept held t s →
    IsKept held t (record s { greenlets = greenlets })
hub_parented child parent held t s greenlets a e h =
    subst (λ gs. IsKept held t (record s { greenlets = gs })) (sym e)
    (hub_moved held t t s (after (Step.Parents child parent) s) (grows_same t) refl (kept_parented child parent t s a h.current) h)

pub hub_made : (raw : Bool) (parent f : ℕ) (args : List Value) (held : SeenItems) (t : SeenTouched) (s : State) (greenlets : List Greenlet) → IsAscending s → greenlets ≡ (add_greenlet raw parent f args s).greenlets → IsKept held t s →
    IsKept held t (record s { greenlets = greenlets })
hub_made raw parent f args held t s greenlets a e h =
    subst (λ gs. IsKept held t (record s { greenlets = gs })) (sym e) (hub_moved held t t s (add_greenlet raw parent f args s) (grows_same t) refl (kept_made raw parent f args t s a h.current) h)

-- a job is posted; its line and its post are read by no condition
pub hub_posted : (g o : ℕ) (job : Job) (takes : ℕ) (held : SeenItems) (t u : SeenTouched) (s : State) (objects : List Object) (jobs : List JobState) (lines : List Line) (posts : List Post) → IsAscending s →
    u ≡ with_touched (Some o) t → objects ≡ (posted g o job takes s).objects → jobs ≡ (posted g o job takes s).jobs → IsKept held t s →
    IsKept held u (record s { objects = objects; jobs = jobs; lines = lines; posts = posts })
hub_posted g o job takes held t u s objects jobs lines posts a touched e f h =
    subst (λ v. IsKept held v (record s { objects = objects; jobs = jobs; lines = lines; posts = posts })) (sym touched)
    (subst (λ xs. IsKept held (with_touched (Some o) t) (record s { objects = xs; jobs = jobs; lines = lines; posts = posts })) (sym e)
    (subst (λ js. IsKept held (with_touched (Some o) t) (record s { objects = (posted g o job takes s).objects; jobs = js; lines = lines; posts = posts })) (sym f)
    (hub_moved held t (with_touched (Some o) t) s (record (posted g o job takes s) { lines = lines; posts = posts }) (grows_touched (Some o) t) (length-set s.objects o _)
    (kept_beside s.next_ready s.next_since lines posts (with_touched (Some o) t) (posted g o job takes s) (kept_posted g o job takes t s a h.current)) h)))

pub hub_arrived : (j : ℕ) (outcome : JobOutcome) (job : JobState) (pool : ℕ) (held : SeenItems) (t v u : SeenTouched) (s : State) (objects : List Object) (jobs : List JobState) → IsAscending s → job_at j s.jobs ≡ Some job →
    pool ≡ job.pool → v ≡ with_end true j t → u ≡ with_touched (Some pool) v → objects ≡ slice_set s.objects pool (with_slot_freed (object_at pool s)) → jobs ≡ slice_set s.jobs (j - 1) (record job { outcome = Some outcome }) →
    IsKept held t s → IsKept held u (record s { objects = objects; jobs = jobs })
hub_arrived j outcome job pool held t v u s objects jobs a there at_pool ends touched e f h =
    let w = with_touched (Some job.pool) (with_end true j t) in
    let g = grows_on t (with_end true j t) w (grows_end true j t) (grows_touched (Some job.pool) (with_end true j t)) in
    let all : u ≡ w = touched ∙ ap (with_touched (Some pool)) ends ∙ ap (λ o. with_touched (Some o) (with_end true j t)) at_pool in
    let freed : objects ≡ (arrives j outcome (Some job) s).objects = e ∙ ap (λ o. slice_set s.objects o (with_slot_freed (object_at o s))) at_pool in
    subst (λ x. IsKept held x (record s { objects = objects; jobs = jobs })) (sym all)
    (subst (λ xs. IsKept held w (record s { objects = xs; jobs = jobs })) (sym freed)
    (subst (λ js. IsKept held w (record s { objects = (arrives j outcome (Some job) s).objects; jobs = js })) (sym f)
    (hub_moved held t w s (arrives j outcome (Some job) s) g (length-set s.objects job.pool _) (kept_arrived j outcome job t s a there h.current) h)))
