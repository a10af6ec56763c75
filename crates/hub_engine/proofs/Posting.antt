-- Jobs that are posted one after another.
use Rattle.std.proofs.Common.{◌≡◌, refl, ap, sym, ◌∙◌, subst, ℕ, zero, suc, ◌+◌, ◌<◌, ◌==◌, false, List, [], ◌∷◌, ◌++◌, length, drop, take, get_or, append_assoc, map, arith}
use Rattle.std.proofs.lemmas.Bool.Decides.{nat_tests}
use Rattle.std.proofs.lemmas.List.{append-nil, take-append-drop}
use Rattle.std.specs.Prelude.{◌||◌, ◌↔◌}
use Rattle.gv_values.specs.declared.job.Answer.{Answer}
use Rattle.gv_values.specs.declared.job.Job.{Job}
use Rattle.world_rules.specs.declared.question.LogEntry.{LogEntry}
use Rattle.world_rules.specs.declared.question.PostedJob.{PostedJob}
use Rattle.world_rules.specs.Legal.{is_posted, posted}
use Rattle.world.specs.Outside.{WorldMeaning, Posts}
use Rattle.machine.specs.declared.state.JobState.{JobState}
use Rattle.machine.specs.declared.state.Post.{Post}
use Rattle.machine.specs.Run.{logged}
use Rattle.machine.specs.State.{State}
use Rattle.machine_turns.specs.Logs.{StandsKnowing, as_posted, posts_of_step}
use Rattle.hub_requests.proofs.Results.{first-of}
use Rattle.hub_engine.specs.declared.stand.Stand.{Stand}
use Rattle.hub_engine.specs.Outside.{ArePostable, HasDone, HasPostedPart, Outside}
use Rattle.hub_engine.specs.Stands.{next_at}
use Rattle.hub_engine.proofs.Giving.{done_then, logged_then}

-- ---- each post has a new number

-- what stands in the middle of numbered jobs has a number past those before
counted : (before : ℕ) (xs : List PostedJob) (n : ℕ) (j : Job) (rest : List PostedJob) (jobs : List JobState) → xs ++ posted n j ∷ rest ≡ as_posted before jobs → before < n
counted before [] n j rest [] e = absurd (cc e)
counted before [] n j rest (i ∷ jobs) e =
    let first : posted n j ≡ posted (suc before) i.job = cc e in
    let same : n ≡ suc before = ap (λ (p : PostedJob). p.number) first in
    omega (arith, same)
counted before (x ∷ xs) n j rest [] e = absurd (cc e)
counted before (x ∷ xs) n j rest (i ∷ jobs) e =
    let later : xs ++ posted n j ∷ rest ≡ as_posted (suc before) jobs = cc e in
    let low = counted (suc before) xs n j rest jobs later in
    omega (arith, low)

fresh : (before : ℕ) (xs : List PostedJob) (n : ℕ) (j : Job) (rest : List PostedJob) (jobs : List JobState) → xs ++ posted n j ∷ rest ≡ as_posted before jobs → is_posted n xs ≡ false
fresh before [] n j rest jobs e = refl
fresh before (x ∷ xs) n j rest [] e = absurd (cc e)
fresh before (x ∷ xs) n j rest (i ∷ jobs) e =
    let first : x ≡ posted (suc before) i.job = cc e in
    let later : xs ++ posted n j ∷ rest ≡ as_posted (suc before) jobs = cc e in
    let number : x.number ≡ suc before = ap (λ (p : PostedJob). p.number) first in
    let low = counted (suc before) xs n j rest jobs later in
    ap (λ b. b || is_posted n xs) (apart x.number n (omega (arith, low, number))) ∙ fresh (suc before) xs n j rest jobs later
  where
    apart : (m n : ℕ) → m < n → (m == n) ≡ false
    apart m n l = grind (arith, nat_tests)

postable : (before : List PostedJob) (posts : List Post) (jobs : List JobState) → before ++ posts_of_step posts ≡ as_posted 0 jobs → ArePostable before posts
postable before [] jobs e = tt
postable before (p ∷ posts) jobs e = (
  fresh 0 before p.number p.job (posts_of_step posts) jobs e,
  postable (before ++ posted p.number p.job ∷ []) posts jobs (append_assoc before (posted p.number p.job ∷ []) (posts_of_step posts) ∙ e),
)

pub standing_postable : (posts : List PostedJob) (answers : List Answer) (at : Stand) (s : State) → StandsKnowing posts answers (next_at at s) → ArePostable posts s.posts
standing_postable posts answers (Stand.Going g body) s k = postable posts s.posts s.jobs k.posts_are
standing_postable posts answers Stand.Resting s k = postable posts s.posts s.jobs k.posts_are
standing_postable posts answers (Stand.Over cause) s k = postable posts s.posts s.jobs k.posts_are

-- ---- the loop over the posts of a step

taken_more : {X : Type 0} (xs : List X) (i : ℕ) (d : X) → i < length xs → take (i + 1) xs ≡ take i xs ++ get_or xs i d ∷ []
taken_more [] i d h = absurd (omega (arith, h))
taken_more (x ∷ xs) zero d h = refl
taken_more (x ∷ xs) (suc i) d h = let one : suc i + 1 ≡ suc (i + 1) = omega arith in rw one (ap (λ ys. x ∷ ys) (taken_more xs i d (omega (arith, h))))

pub post_new : (before : List PostedJob) (posts : List Post) (i : ℕ) (d : Post) → i < length posts → ArePostable before (drop i posts) → is_posted (get_or posts i d).number before ≡ false
post_new before posts i d h m = (subst (ArePostable before) (first-of posts i d h) m).0

pub post_rest : (before later : List PostedJob) (posts : List Post) (i : ℕ) (d : Post) → i < length posts → later ≡ before ++ posted (get_or posts i d).number (get_or posts i d).job ∷ [] →
    ArePostable before (drop i posts) → ArePostable later (drop (i + 1) posts)
post_rest before later posts i d h e m = subst (λ (js : List PostedJob). ArePostable js (drop (i + 1) posts)) (sym e) (subst (ArePostable before) (first-of posts i d h) m).1

-- one post was made
done_posted : (v w : Outside) (p : Post) → Posts v.means w.means p.number p.job → ((before : List LogEntry) → v.stands before → w.stands (before ++ logged p ∷ [])) →
    HasDone v w (logged p ∷ [])
done_posted v w p m f = record { posts = m.posts; answers = m.answers ∙ sym (append-nil v.means.answers); legal = tt; rest = m.rest; log = f }

pub posted_more : (u v w : Outside) (posts : List Post) (i : ℕ) (d : Post) → i < length posts → HasDone u v (map logged (take i posts)) →
    Posts v.means w.means (get_or posts i d).number (get_or posts i d).job →
    ((before : List LogEntry) → v.stands before → w.stands (before ++ logged (get_or posts i d) ∷ [])) → HasDone u w (map logged (take (i + 1) posts))
posted_more u v w posts i d h a m f =
    let p = get_or posts i d in
    subst (HasDone u w) (sym (ap (map logged) (taken_more posts i d h) ∙ logged_then (take i posts) (p ∷ [])))
    (done_then u v w (map logged (take i posts)) (logged p ∷ []) a (done_posted v w p m f))

-- what a world means is the same after a refused call
pub done_refused : (u v w : Outside) (log : List LogEntry) → w.means ≡ v.means → ((l : List LogEntry) → v.stands l → w.stands l) → HasDone u v log → HasDone u w log
done_refused u v w log e f d = record {
  posts = ap (λ (m : WorldMeaning). m.posts) e ∙ d.posts;
  answers = ap (λ (m : WorldMeaning). m.answers) e ∙ d.answers;
  legal = d.legal;
  rest = record {
    workers = ap (λ (m : WorldMeaning). m.workers) e ∙ d.rest.workers;
    tick = ap (λ (m : WorldMeaning). m.tick) e ∙ d.rest.tick;
    listed = ap (λ (m : WorldMeaning). m.listed) e ∙ d.rest.listed;
    runs = ap (λ (m : WorldMeaning). m.runs) e ∙ d.rest.runs;
    reference = ap (λ (m : WorldMeaning). m.reference) e ∙ d.rest.reference;
  };
  log = λ before h. f (before ++ log) (d.log before h);
}

-- a post was refused, and those before it were made
pub refused_posts : (u v w : Outside) (posts : List Post) (i : ℕ) → HasDone u v (map logged (take i posts)) → w.means ≡ v.means → ((l : List LogEntry) → v.stands l ↔ w.stands l) →
    HasPostedPart u w posts
refused_posts u v w posts i d e f = record {
  part = take i posts;
  later = drop i posts;
  is = sym (take-append-drop i posts);
  done = done_refused u v w (map logged (take i posts)) e (λ l. (f l).0) d;
}
