-- The clients that wait for jobs stay tied to the world.
use Rattle.std.proofs.Common.{◌≡◌, ◌≢◌, ◌⊎◌, inl, inr, ℕ, ◌+◌, ◌<◌, ◌≤◌, ◌==◌, ◌||◌, Bool, true, false, if◌then◌else◌, List, [], ◌∷◌, ◌++◌, Option, Some, None, refl, sym, ap, ◌∙◌, subst, arith}
use Rattle.std.specs.Prelude.{Contains}
use Rattle.std.proofs.lemmas.Bool.{false≢true}
use Rattle.std.proofs.lemmas.Bool.Decides.{nat_tests}
use Rattle.std.proofs.lemmas.List.Elements.{Contains-append_left, Contains-push, Contains-push_cases}
use Rattle.std.proofs.lemmas.List.Folds.{list_any-append}
use Rattle.gv_values.specs.declared.job.Answer.{Answer}
use Rattle.gv_values.specs.declared.job.Job.{Job}
use Rattle.gv_values.specs.declared.job.JobOutcome.{JobOutcome}
use Rattle.http_messages.specs.Environ.{Pair}
use Rattle.world_rules.specs.declared.question.PostedJob.{PostedJob}
use Rattle.world_rules.specs.Evaluate.{eval}
use Rattle.world_rules.specs.Legal.{IsOutcomeOf, is_answered, is_done_of, is_posted, posted}
use Rattle.world.specs.Outside.{WorldMeaning, Posts, Stores}
use Rattle.world.proofs.Sound.{contains_posted, or_false}
use Rattle.wsgi_core.specs.declared.reply.Reply.{Reply}
use Rattle.wsgi_core.specs.Steps.{IsReplyTo, answered_of}
use Rattle.stream_server.specs.Keeping.{Listing}
use Rattle.stream_server.specs.declared.client.Client.{Client}
use Rattle.wsgi_native.specs.Asking.{WantsJob}
use Rattle.wsgi_core.specs.Applications.{App}
use Rattle.stream_server.specs.Owning.{OwnOnce, Owner, once_more, owned_more, owned_none}
use Rattle.wsgi_native.specs.Agreeing.{Agrees, IsPosted}
use Rattle.wsgi_native.specs.JobApp.{outcome_reply}
use Rattle.wsgi_native.specs.Talks.{held_number, next_of, rank_of, request_of}
use Rattle.wsgi_native.specs.Tied.{Awaits, HaveOwners, HaveOwnersBut, IsFor, IsInOrder, IsTied, IsTiedBut}
use Rattle.wsgi_native.specs.declared.job_talk.JobTalk.{JobTalk}

-- ---- posts and answers that grow by one

answered_before : (n : ℕ) (answers : List Answer) (answer : Answer) → is_answered n (answers ++ answer ∷ []) ≡ false → (is_answered n answers ≡ false) × (is_done_of n answer ≡ false)
answered_before n answers answer e =
    let both = or_false (is_answered n answers) (is_done_of n answer || false) (sym (list_any-append (is_done_of n) answers (answer ∷ [])) ∙ e) in
    (both.0, (or_false (is_done_of n answer) false both.1).0)

-- what was answered still is
pub still_answered : (n : ℕ) (answers : List Answer) (answer : Answer) → is_answered n answers ≡ true → is_answered n (answers ++ answer ∷ []) ≡ true
still_answered n answers answer e = list_any-append (is_done_of n) answers (answer ∷ []) ∙ ap (λ (b : Bool). b || is_answered n (answer ∷ [])) e

posted_still : (n number : ℕ) (posts : List PostedJob) (job : Job) (b : Bool) → is_posted n posts ≡ b → is_posted n (posts ++ posted number job ∷ []) ≡ (b || ((number == n) || false))
posted_still n number posts job b e = list_any-append (λ (post : PostedJob). post.number == n) posts (posted number job ∷ []) ∙ ap (λ (c : Bool). c || ((number == n) || false)) e

or_none : (b : Bool) → b ≡ false → (false || (b || false)) ≡ false
or_none false e = refl
or_none true e = absurd (false≢true (sym e))

or_one : (a b : Bool) → b ≡ true → (a || (b || false)) ≡ true
or_one true b e = refl
or_one false true e = refl
or_one false false e = absurd (false≢true e)

or_first : (a b : Bool) → b ≡ false → (a || (b || false)) ≡ true → a ≡ true
or_first true b e h = refl
or_first false false e h = absurd (false≢true h)
or_first false true e h = absurd (false≢true (sym e))

nowhere : (p : PostedJob) → Contains [] p → ⊥
nowhere p h = let within = h.1 in omega arith

-- an answer that names no job answers none
answered_then : (n : ℕ) (answers : List Answer) (answer : Answer) → is_done_of n answer ≡ false → is_answered n (answers ++ answer ∷ []) ≡ true → is_answered n answers ≡ true
answered_then n answers answer silent e = or_first (is_answered n answers) (is_done_of n answer) silent (sym (list_any-append (is_done_of n) answers (answer ∷ [])) ∙ e)

-- ---- numbers of those that wait

same_number : (o : Option ℕ) (a b : ℕ) → o ≡ Some a → o ≡ Some b → a ≡ b
same_number o a b e f = cc

-- ---- the tie

pub first_order : (w : WorldMeaning) → w.runs ≡ true → w.answers ≡ [] → IsInOrder w
first_order w runs answers = record { runs = runs; done = λ n h. absurd (false≢true (sym (ap (is_answered n) answers) ∙ h)) }

pub tied_none : (w : WorldMeaning) (owner : Owner) (waiting : ℕ → Option ℕ) (listed : Listing JobTalk) (accepted : ℕ) → w.runs ≡ true → w.posts ≡ [] → w.answers ≡ [] → ((n : ℕ) → waiting n ≡ None) → IsTied w owner 0 waiting listed accepted
tied_none w owner waiting listed accepted runs posts answers none = record {
  order = first_order w runs answers;
  fresh = λ n h. ap (is_posted n) posts;
  numbered = λ n h k. absurd (omega arith);
  alone = λ n a b h k. absurd (nowhere (posted n a) (subst (λ (l : List PostedJob). Contains l (posted n a)) posts h));
  awaited = λ n h k e. false≢true (sym (ap (is_posted n) posts) ∙ h);
  below = λ n k e. absurd (cc (none n));
  held = λ n k slot e row. absurd (cc (none n));
}

-- no job has an owner yet
pub none_posted : (w : WorldMeaning) → w.posts ≡ [] → (n : ℕ) → IsPosted w.posts n → ⊥
none_posted w none n h = false≢true (sym (ap (is_posted n) none) ∙ h)

pub owners_none : (w : WorldMeaning) (owner : Owner) (listed : Listing JobTalk) (accepted : ℕ) → w.posts ≡ [] → HaveOwners w.posts owner listed accepted
owners_none w owner listed accepted none = owned_none next_of (IsPosted w.posts) owner listed accepted (none_posted w none)

-- one that was just answered is answered
pub now_answered : (n : ℕ) (answers : List Answer) (outcome : JobOutcome) (at : ℕ) → is_answered n (answers ++ Answer.Done n outcome at ∷ []) ≡ true
now_answered n answers outcome at =
    let same : (n == n) ≡ true = grind (arith, nat_tests) in
    list_any-append (is_done_of n) answers (Answer.Done n outcome at ∷ []) ∙ or_one (is_answered n answers) (n == n) same

-- ---- a job more

pub posted_order : (w v : WorldMeaning) (number : ℕ) (job : Job) → IsInOrder w → Posts w v number job → IsInOrder v
posted_order w v number job o p = record {
  runs = p.rest.runs ∙ o.runs;
  done = λ n h. ap (is_posted n) p.posts ∙ posted_still n number w.posts job true (o.done n (sym (ap (is_answered n) p.answers) ∙ h));
}

pub tied_posted : (w v : WorldMeaning) (owner own : Owner) (last : ℕ) (waiting more : ℕ → Option ℕ) (listed now : Listing JobTalk) (accepted k : ℕ) (job : Job) (g : Client JobTalk) → IsTiedBut w owner last waiting listed accepted k → k < accepted
    → Posts w v (last + 1) job → ((n : ℕ) → more n ≡ (if last + 1 == n then Some k else waiting n)) → ((n : ℕ) → own n ≡ (if last + 1 == n then (g.conn, answered_of g.talk.session) else owner n)) → held_number g.talk ≡ Some (last + 1) → WantsJob g.talk job
    → ((s : Option (Client JobTalk)) → now k s → s ≡ Some g) → ((j : ℕ) (s : Option (Client JobTalk)) → j ≢ k → now j s → listed j s) → IsTied v own (last + 1) more now accepted
tied_posted w v owner own last waiting more listed now accepted k job g t within p adds owns number wants here others = record {
  order = posted_order w v (last + 1) job o.order p;
  fresh = λ n h. ap (is_posted n) p.posts ∙ posted_still n (last + 1) w.posts job false (o.fresh n (omega arith)) ∙ or_none (last + 1 == n) (grind (arith, nat_tests));
  numbered = λ n h l. ap (is_posted n) p.posts ∙ numbered_by n (last + 1 == n) refl h l;
  alone = λ n a b h l. alone_by n a b (Contains-push_cases w.posts (posted (last + 1) job) (posted n a) (subst (λ (z : List PostedJob). Contains z (posted n a)) p.posts h))
      (Contains-push_cases w.posts (posted (last + 1) job) (posted n b) (subst (λ (z : List PostedJob). Contains z (posted n b)) p.posts l));
  awaited = λ n h l e. awaited_by n (last + 1 == n) refl (sym (posted_still n (last + 1) w.posts job (is_posted n w.posts) refl) ∙ sym (ap (is_posted n) p.posts) ∙ h) (sym (ap (is_answered n) p.answers) ∙ l) (sym (adds n) ∙ e);
  below = λ n j e. below_by n j (last + 1 == n) (sym (adds n) ∙ e);
  held = λ n j slot e row. held_by n j slot (last + 1 == n) refl (sym (adds n) ∙ e) row;
}
  where
    o : IsTied w owner last waiting listed accepted
    o = t.tied

    numbered_by : (n : ℕ) (b : Bool) → (last + 1 == n) ≡ b → 1 ≤ n → n ≤ last + 1 → is_posted n (w.posts ++ posted (last + 1) job ∷ []) ≡ true
    numbered_by n true e h l = posted_still n (last + 1) w.posts job (is_posted n w.posts) refl ∙ or_one (is_posted n w.posts) (last + 1 == n) e
    numbered_by n false e h l = let apart : n ≤ last = grind (arith, nat_tests) in posted_still n (last + 1) w.posts job true (o.numbered n h apart)

    new_here : (n : ℕ) (a : Job) → Contains w.posts (posted n a) → last + 1 ≡ n → ⊥
    new_here n a h e = let old : is_posted n w.posts ≡ false = o.fresh n (omega arith) in false≢true (sym old ∙ contains_posted w.posts n a h)

    number_of : (n : ℕ) (a : Job) → posted (last + 1) job ≡ posted n a → last + 1 ≡ n
    number_of n a e = ap (λ (x : PostedJob). x.number) e

    job_of : (n : ℕ) (a : Job) → posted (last + 1) job ≡ posted n a → job ≡ a
    job_of n a e = ap (λ (x : PostedJob). x.job) e

    alone_by : (n : ℕ) (a b : Job) → Contains w.posts (posted n a) ⊎ (posted (last + 1) job ≡ posted n a) → Contains w.posts (posted n b) ⊎ (posted (last + 1) job ≡ posted n b) → a ≡ b
    alone_by n a b (inl h) (inl l) = o.alone n a b h l
    alone_by n a b (inl h) (inr l) = absurd (new_here n a h (number_of n b l))
    alone_by n a b (inr h) (inl l) = absurd (new_here n b l (number_of n a h))
    alone_by n a b (inr h) (inr l) = sym (job_of n a h) ∙ job_of n b l

    awaited_by : (n : ℕ) (b : Bool) → (last + 1 == n) ≡ b → (is_posted n w.posts || ((last + 1 == n) || false)) ≡ true → is_answered n w.answers ≡ false → (if b then Some k else waiting n) ≡ None → ⊥
    awaited_by n true e h l none = cc
    awaited_by n false e h l none = o.awaited n (or_first (is_posted n w.posts) (last + 1 == n) e h) l none

    below_by : (n j : ℕ) (b : Bool) → (if b then Some k else waiting n) ≡ Some j → j < accepted
    below_by n j true e = let f : k ≡ j = cc in omega arith
    below_by n j false e = let f = o.below n j e in omega arith

    owned_by : (n : ℕ) (b : Bool) → (last + 1 == n) ≡ b → own n ≡ (if b then (g.conn, answered_of g.talk.session) else owner n)
    owned_by n b e = owns n ∙ ap (λ (c : Bool). if c then (g.conn, answered_of g.talk.session) else owner n) e

    still_for : (n : ℕ) (slot : Option (Client JobTalk)) → (last + 1 == n) ≡ false → IsFor w.posts owner n slot → IsFor v.posts own n slot
    still_for n None e h = h
    still_for n (Some c) e h = record {
      is_number = h.is_number;
      job = h.job;
      wants = h.wants;
      there = subst (λ (z : List PostedJob). Contains z (posted n h.job)) (sym p.posts) (Contains-append_left w.posts (posted (last + 1) job ∷ []) (posted n h.job) h.there);
      owns = owned_by n false e ∙ h.owns;
    }

    held_here : (n : ℕ) (slot : Option (Client JobTalk)) → (last + 1 == n) ≡ true → last + 1 ≡ n → slot ≡ Some g → IsFor v.posts own n slot
    held_here n slot test e f = subst (IsFor v.posts own n) (sym f) record {
      is_number = number ∙ ap (λ (i : ℕ). Some i) e;
      job = job;
      wants = wants;
      there = subst (λ (z : ℕ). Contains v.posts (posted z job)) e (subst (λ (z : List PostedJob). Contains z (posted (last + 1) job)) (sym p.posts) (Contains-push w.posts (posted (last + 1) job)));
      owns = owned_by n true test;
    }

    held_by : (n j : ℕ) (slot : Option (Client JobTalk)) (b : Bool) → (last + 1 == n) ≡ b → (if b then Some k else waiting n) ≡ Some j → now j slot → IsFor v.posts own n slot
    held_by n j slot true test e row =
        let number_is : last + 1 ≡ n = grind (arith, nat_tests) in
        let f : j ≡ k = cc in held_here n slot test number_is (here slot (subst (λ i. now i slot) f row))
    held_by n j slot false test e row = still_for n slot test (o.held n j slot e (others j slot (t.others n j e) row))

-- ---- its owner

-- a job that is posted now was, or is the new one
new_or_old : (w v : WorldMeaning) (number : ℕ) (job : Job) → Posts w v number job → (n : ℕ) → IsPosted v.posts n → IsPosted w.posts n ⊎ (number ≡ n)
new_or_old w v number job p n h = by (number == n) refl (sym (posted_still n number w.posts job (is_posted n w.posts) refl) ∙ sym (ap (is_posted n) p.posts) ∙ h)
  where
    by : (b : Bool) → (number == n) ≡ b → (is_posted n w.posts || ((number == n) || false)) ≡ true → IsPosted w.posts n ⊎ (number ≡ n)
    by true test e = inr (grind (arith, nat_tests))
    by false test e = inl (or_first (is_posted n w.posts) (number == n) test e)

-- the request of a client that goes on owned none
module _ (w v : WorldMeaning) (owner own : Owner) (listed : Listing JobTalk) (accepted number low : ℕ) (job : Job) (was : Client JobTalk) (t : HaveOwnersBut w.posts owner listed accepted was.conn low)
    (p : Posts w v number job) (owns : (n : ℕ) → own n ≡ (if number == n then (was.conn, rank_of was.talk) else owner n)) (least : low ≤ rank_of was.talk) where
  pub owns_once : OwnOnce (IsPosted v.posts) own
  owns_once = once_more next_of (IsPosted w.posts) owner (IsPosted v.posts) own listed accepted was.conn low number (rank_of was.talk) t (new_or_old w v number job p) owns least

  pub owners_more : (now : Listing JobTalk) (g : Client JobTalk) → was.conn < accepted → rank_of was.talk < next_of g.talk → ((s : Option (Client JobTalk)) → now was.conn s → s ≡ Some g) → ((j : ℕ) (s : Option (Client JobTalk)) → j ≢ was.conn → now j s → listed j s) → HaveOwners v.posts own now accepted
  owners_more now g within past here others = owned_more next_of (IsPosted w.posts) owner (IsPosted v.posts) own listed accepted was.conn low number (rank_of was.talk) t (new_or_old w v number job p) owns least now g within past here others

-- ---- an answer

-- each answered job was posted
pub stored_order : (w v : WorldMeaning) (number : ℕ) (outcome : JobOutcome) (at : ℕ) → IsInOrder w → Stores w v (Answer.Done number outcome at) → IsOutcomeOf number outcome w.posts → IsInOrder v
stored_order w v number outcome at o s right = record {
  runs = s.rest.runs ∙ o.runs;
  done = λ n h. ap (is_posted n) s.posts ∙ by n (number == n) refl (sym (ap (is_answered n) s.answers) ∙ h);
}
  where
    here : (n : ℕ) → (number == n) ≡ true → is_posted n w.posts ≡ true
    here n e = let same : number ≡ n = grind (arith, nat_tests) in subst (λ (k : ℕ). is_posted k w.posts ≡ true) same (contains_posted w.posts number right.0 right.1)

    by : (n : ℕ) (b : Bool) → (number == n) ≡ b → is_answered n (w.answers ++ Answer.Done number outcome at ∷ []) ≡ true → is_posted n w.posts ≡ true
    by n true e h = here n e
    by n false e h = o.done n (answered_then n w.answers (Answer.Done number outcome at) e h)

-- where no job ended, too
pub silent_order : (w v : WorldMeaning) (answer : Answer) → IsInOrder w → Stores w v answer → ((n : ℕ) → is_done_of n answer ≡ false) → IsInOrder v
silent_order w v answer o s silent = record {
  runs = s.rest.runs ∙ o.runs;
  done = λ n h. ap (is_posted n) s.posts ∙ o.done n (answered_then n w.answers answer (silent n) (sym (ap (is_answered n) s.answers) ∙ h));
}

-- no job ended
pub tied_silent : (w v : WorldMeaning) (owner : Owner) (last : ℕ) (waiting : ℕ → Option ℕ) (listed : Listing JobTalk) (accepted : ℕ) (answer : Answer) → IsTied w owner last waiting listed accepted → Stores w v answer → ((n : ℕ) → is_done_of n answer ≡ false)
    → IsTied v owner last waiting listed accepted
tied_silent w v owner last waiting listed accepted answer t s silent = record {
  order = silent_order w v answer t.order s silent;
  fresh = λ n h. ap (is_posted n) s.posts ∙ t.fresh n h;
  numbered = λ n h l. ap (is_posted n) s.posts ∙ t.numbered n h l;
  alone = λ n a b h l. t.alone n a b (subst (λ (z : List PostedJob). Contains z (posted n a)) s.posts h) (subst (λ (z : List PostedJob). Contains z (posted n b)) s.posts l);
  awaited = λ n h l. t.awaited n (sym (ap (is_posted n) s.posts) ∙ h) (answered_before n w.answers answer (sym (ap (is_answered n) s.answers) ∙ l)).0;
  below = t.below;
  held = λ n j slot e row. same_for n slot (t.held n j slot e row);
}
  where
    same_for : (n : ℕ) (slot : Option (Client JobTalk)) → IsFor w.posts owner n slot → IsFor v.posts owner n slot
    same_for n slot h = subst (λ (z : List PostedJob). IsFor z owner n slot) (sym s.posts) h

-- a job ended, and the client that waits for it is taken out
pub tied_answered : (w v : WorldMeaning) (owner : Owner) (last : ℕ) (waiting less : ℕ → Option ℕ) (listed now : Listing JobTalk) (accepted k number : ℕ) (outcome : JobOutcome) (at : ℕ) (g : Client JobTalk)
    → IsTied w owner last waiting listed accepted → Stores w v (Answer.Done number outcome at) → IsOutcomeOf number outcome w.posts → waiting number ≡ Some k → listed k (Some g) → ((n : ℕ) → less n ≡ (if number == n then None else waiting n))
    → ((j : ℕ) (s : Option (Client JobTalk)) → j ≢ k → now j s → listed j s) → IsTiedBut v owner last less now accepted k
tied_answered w v owner last waiting less listed now accepted k number outcome at g t s right here row takes others = record {
  tied = record {
    order = stored_order w v number outcome at t.order s right;
    fresh = λ n h. ap (is_posted n) s.posts ∙ t.fresh n h;
    numbered = λ n h l. ap (is_posted n) s.posts ∙ t.numbered n h l;
    alone = λ n a b h l. t.alone n a b (subst (λ (z : List PostedJob). Contains z (posted n a)) s.posts h) (subst (λ (z : List PostedJob). Contains z (posted n b)) s.posts l);
    awaited = λ n h l e. awaited_by n (sym (ap (is_posted n) s.posts) ∙ h) (answered_before n w.answers (Answer.Done number outcome at) (sym (ap (is_answered n) s.answers) ∙ l)) (sym (takes n) ∙ e);
    below = λ n j e. t.below n j (was n j (number == n) (sym (takes n) ∙ e)).0;
    held = λ n j slot e now_row. subst (λ (z : List PostedJob). IsFor z owner n slot) (sym s.posts) (t.held n j slot (was n j (number == n) (sym (takes n) ∙ e)).0 (others j slot (apart n j e) now_row));
  };
  others = apart;
}
  where
    was : (n j : ℕ) (b : Bool) → (if b then None else waiting n) ≡ Some j → (waiting n ≡ Some j) × (b ≡ false)
    was n j true e = absurd (cc)
    was n j false e = (e, refl)

    awaited_by : (n : ℕ) → is_posted n w.posts ≡ true → (is_answered n w.answers ≡ false) × ((number == n) ≡ false) → (if number == n then None else waiting n) ≡ None → ⊥
    awaited_by n h l e = t.awaited n h l.0 (sym (ap (λ (b : Bool). if b then None else waiting n) l.1) ∙ e)

    differ : (a b : ℕ) → a ≡ b → (a == b) ≡ false → ⊥
    differ a b e test = absurd (grind (arith, nat_tests))

    apart : (n j : ℕ) → less n ≡ Some j → j ≢ k
    apart n j e same =
        let before = was n j (number == n) (sym (takes n) ∙ e) in
        let own : Awaits w.posts owner number g = t.held number k (Some g) here row in
        let other : Awaits w.posts owner n g = t.held n k (Some g) (before.0 ∙ ap (λ (i : ℕ). Some i) same) row in
        let f : number ≡ n = same_number (held_number g.talk) number n own.is_number other.is_number in
        absurd (differ number n f before.1)

-- the reply that tells what the job came to is the one to the request that waits
pub reply_is : (w : WorldMeaning) (owner : Owner) (number : ℕ) (outcome : JobOutcome) (g : Client JobTalk) (reply : Reply) → ((n : ℕ) (a b : Job) → Contains w.posts (posted n a) → Contains w.posts (posted n b) → a ≡ b)
    → Awaits w.posts owner number g → IsOutcomeOf number outcome w.posts → is_answered number w.answers ≡ true → reply ≡ outcome_reply outcome → (app : App) → Agrees owner w g.conn app
    → IsReplyTo app (answered_of g.talk.session) (request_of g.talk) reply
reply_is w owner number outcome g reply alone h right answered is app fits =
    let same : right.0 ≡ h.job = alone number right.0 h.job right.1 h.there in
    let r = h.wants.request in
    let told : outcome ≡ eval h.job = right.2 ∙ ap eval same in
    subst (λ (o : Option (List Pair × List ℕ)). IsReplyTo app (answered_of g.talk.session) o reply) (sym h.wants.asked)
    (is ∙ ap outcome_reply told ∙ sym (fits.done number (answered_of g.talk.session) h.job r.0 r.1 h.owns h.wants.wants h.there answered))
