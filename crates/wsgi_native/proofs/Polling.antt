-- What posts and answers make of what fits, and of the clients.
use Rattle.std.proofs.Common.{◌≡◌, ℕ, ◌+◌, ◌≤◌, ◌==◌, Bool, true, false, if◌then◌else◌, List, [], ◌∷◌, Option, Some, None, Result, Ok, Err, is_some, option_map, refl, sym, ap, ◌∙◌, subst, arith}
use Rattle.std.specs.Prelude.{Contains, IsSome, OnErr, is_err}
use Rattle.std.proofs.lemmas.Bool.{false≢true}
use Rattle.std.proofs.lemmas.Bool.Decides.{nat_tests}
use Rattle.std.proofs.lemmas.List.Elements.{Contains-append_left}
use Rattle.gv_values.specs.declared.job.Answer.{Answer}
use Rattle.gv_values.specs.declared.job.Job.{Job}
use Rattle.gv_values.specs.declared.job.JobOutcome.{JobOutcome}
use Rattle.http_messages.specs.Environ.{Pair}
use Rattle.world_rules.specs.declared.question.PostedJob.{PostedJob}
use Rattle.world_rules.specs.Legal.{IsOutcomeOf, is_answered, is_posted, posted}
use Rattle.world.specs.Outside.{WorldMeaning as World, Posts, Stores}
use Rattle.world.proofs.Sound.{contains_posted}
use Rattle.stream_server.specs.Protocols.{Apps}
use Rattle.stream_server.specs.Services.{IsHeldFrom, IsReleased, Polls, TiesAfter}
use Rattle.stream_server.specs.declared.service.Polled.{Polled}
use Rattle.stream_server.specs.declared.service.Polled.TheVariants.{Nobody, Released, Memory}
use Rattle.stream_server.specs.Tables.{IsListed, Relists, SeenTable, client_count}
use Rattle.stream_server.specs.declared.client.Client.{Client}
use Rattle.stream_server.specs.declared.client.TheConstants.{NEVER}
use Rattle.wsgi_core.specs.Steps.{StandsAt, asked_of}
use Rattle.wsgi_core.specs.declared.session.Session.{Session}
use Rattle.stream_server.specs.Owning.{Owner, owned_out}
use Rattle.wsgi_native.specs.Agreeing.{Agrees, IsPosted}
use Rattle.wsgi_native.specs.Asking.{HasAsked, WantsJob}
use Rattle.wsgi_native.specs.Giving.{Gives, IsGivenTo}
use Rattle.wsgi_native.specs.JobApp.{outcome_reply}
use Rattle.wsgi_native.specs.Owning.{AllAgree}
use Rattle.wsgi_native.specs.Talks.{deadline_in, held_number, job_protocol, next_of, rank_of, request_of}
use Rattle.wsgi_native.specs.Laws.{next_most}
use Rattle.wsgi_native.specs.Tied.{Awaits, HaveOwners, HaveOwnersBut, IsTied, IsTiedBut}
use Rattle.wsgi_native.specs.declared.job_talk.HeldFor.{HeldFor}
use Rattle.wsgi_native.specs.declared.job_talk.JobTalk.{JobTalk}
use Rattle.wsgi_native.proofs.Tying.{now_answered, reply_is, still_answered, tied_answered}

-- what a call that failed says
pub at_err : {T E P : Type 0} (r : Result T E) → true ≡ is_err r → OnErr r P → P
at_err (Ok x) e h = absurd (false≢true (sym e))
at_err (Err y) e h = h

-- ---- held or not

pub held_some : (o : Option HeldFor) (n : ℕ) → option_map (λ (h : HeldFor). h.job) o ≡ Some n → is_some o ≡ true
held_some None n e = absurd (cc)
held_some (Some h) n e = refl

pub free_none : (o : Option HeldFor) → o ≡ None → is_some o ≡ false
free_none o e = ap (λ (x : Option HeldFor). is_some x) e

-- the same request waits
pub wants_same : (g h : JobTalk) (job : Job) → h.session ≡ g.session → WantsJob g job → WantsJob h job
wants_same g h job same w = record { request = w.request; asked = ap (λ (s : Session). asked_of s) same ∙ w.asked; wants = w.wants }

-- a client whose job is known has a request that waits
pub wants_asked : (t : JobTalk) (job : Job) → WantsJob t job → HasAsked t
wants_asked t job w = by (request_of t) w.asked
  where
    by : (o : Option (List Pair × List ℕ)) → o ≡ Some w.request → IsSome o
    by None e = absurd (cc)
    by (Some r) e = refl

-- the client was held
pub is_held : (g h : Client JobTalk) (number : ℕ) → h.conn ≡ g.conn → h.talk.session ≡ g.talk.session → held_number h.talk ≡ Some number → deadline_in h.talk.held ≡ g.deadline → h.ended ≡ g.ended → h.deadline ≡ NEVER
    → IsHeldFrom job_protocol g h
is_held g h number conn session number_is kept ended never_ = record {
  conn = conn;
  ended = ended;
  never = never_;
  held = held_some h.talk.held number number_is;
  kept = kept;
  stands = λ app port fed ended taken at. subst (λ (s : Session). StandsAt app port fed ended taken s) (sym session) at;
}

-- ---- what agrees with the answers of a world agreed before

-- before a job more was posted
pub agreed_before : (v w : World) (owner own : Owner) (number : ℕ) (job : Job) (one : ℕ × ℕ) → Posts v w number job → is_posted number v.posts ≡ false → ((n : ℕ) → own n ≡ (if number == n then one else owner n)) → (apps : Apps) → AllAgree own w apps
    → AllAgree owner v apps
agreed_before v w owner own number job one p fresh owns apps fits conn = record {
  plain = (fits conn).plain;
  done = λ n i j environ body is asks there answered. (fits conn).done n i j environ body (still n j (number == n) refl there ∙ is) asks
      (subst (λ (z : List PostedJob). Contains z (posted n j)) (sym p.posts) (Contains-append_left v.posts (posted number job ∷ []) (posted n j) there))
      (ap (is_answered n) p.answers ∙ answered);
}
  where
    there_new : (n : ℕ) (j : Job) → (number == n) ≡ true → Contains v.posts (posted n j) → ⊥
    there_new n j test there =
        let same : number ≡ n = grind (arith, nat_tests) in
        false≢true (sym fresh ∙ ap (λ (k : ℕ). is_posted k v.posts) same ∙ contains_posted v.posts n j there)

    still : (n : ℕ) (j : Job) (b : Bool) → (number == n) ≡ b → Contains v.posts (posted n j) → own n ≡ owner n
    still n j true test there = absurd (there_new n j test there)
    still n j false test there = owns n ∙ ap (λ (c : Bool). if c then one else owner n) test

-- before an answer more was given
pub agreed_earlier : (v w : World) (owner : Owner) (answer : Answer) → Stores v w answer → (apps : Apps) → AllAgree owner w apps → AllAgree owner v apps
agreed_earlier v w owner answer s apps fits conn = record {
  plain = (fits conn).plain;
  done = λ n i j environ body is asks there answered. (fits conn).done n i j environ body is asks
      (subst (λ (z : List PostedJob). Contains z (posted n j)) (sym s.posts) there)
      (ap (is_answered n) s.answers ∙ still_answered n v.answers answer answered);
}

-- where nothing changed
pub agreed_same : (v w : World) (owner : Owner) → w ≡ v → (apps : Apps) → AllAgree owner w apps → AllAgree owner v apps
agreed_same v w owner same apps fits = subst (λ (x : World). AllAgree owner x apps) same fits

-- ---- a result

-- the client that waited for a job was given what it came to
pub polled_released : (w v : World) (owner : Owner) (last : ℕ) (waiting less : ℕ → Option ℕ) (table now : SeenTable JobTalk) (accepted k number : ℕ) (outcome : JobOutcome) (at : ℕ) (was given : Client JobTalk)
    → IsTied w owner last waiting (IsListed table) accepted → Stores w v (Answer.Done number outcome at) → IsOutcomeOf number outcome w.posts → waiting number ≡ Some k → IsListed table k (Some was) → was.conn ≡ k
    → Relists table now k None → client_count now + 1 ≡ client_count table → IsGivenTo outcome was given → IsReleased job_protocol (AllAgree owner v) table now given
polled_released w v owner last waiting less table now accepted k number outcome at was given t s right here row number_is relists count is = record {
  was = was;
  listed = subst (λ (n : ℕ). IsListed table n (Some was)) (sym conn) row;
  relists = subst (λ (n : ℕ). Relists table now n None) (sym conn) relists;
  count = count;
  ended = is.ended;
  held = held_some was.talk.held number waits.is_number;
  later = is.later;
  free = free_none given.talk.held is.free;
  stands = λ apps fits. is.stands (apps given.conn)
      (reply_is v owner number outcome was (outcome_reply outcome) alone awaits outcome_of (ap (is_answered number) s.answers ∙ now_answered number w.answers outcome at) refl (apps given.conn)
      (subst (λ (n : ℕ). Agrees owner v n (apps given.conn)) is.conn (fits given.conn)));
}
  where
    conn : given.conn ≡ k
    conn = is.conn ∙ number_is

    waits : Awaits w.posts owner number was
    waits = t.held number k (Some was) here row

    awaits : Awaits v.posts owner number was
    awaits = subst (λ (z : List PostedJob). Awaits z owner number was) (sym s.posts) waits

    outcome_of : IsOutcomeOf number outcome v.posts
    outcome_of = subst (λ (z : List PostedJob). IsOutcomeOf number outcome z) (sym s.posts) right

    alone : (n : ℕ) (a b : Job) → Contains v.posts (posted n a) → Contains v.posts (posted n b) → a ≡ b
    alone n a b x y = t.alone n a b (subst (λ (z : List PostedJob). Contains z (posted n a)) s.posts x) (subst (λ (z : List PostedJob). Contains z (posted n b)) s.posts y)

-- it was taken out of those that wait
pub polled_tied : (w v : World) (owner : Owner) (last : ℕ) (waiting less : ℕ → Option ℕ) (table now : SeenTable JobTalk) (accepted k number : ℕ) (outcome : JobOutcome) (at : ℕ) (was given : Client JobTalk)
    → IsTied w owner last waiting (IsListed table) accepted → Stores w v (Answer.Done number outcome at) → IsOutcomeOf number outcome w.posts → waiting number ≡ Some k → IsListed table k (Some was) → was.conn ≡ k
    → ((n : ℕ) → less n ≡ (if number == n then None else waiting n)) → Relists table now k None → IsGivenTo outcome was given → IsTiedBut v owner last less (IsListed now) accepted given.conn
polled_tied w v owner last waiting less table now accepted k number outcome at was given t s right here row number_is takes relists is =
    subst (λ (n : ℕ). IsTiedBut v owner last less (IsListed now) accepted n) (sym (is.conn ∙ number_is))
    (tied_answered w v owner last waiting less (IsListed table) (IsListed now) accepted k number outcome at was t s right here row takes relists.others)

-- what a poll makes of the table, and of the tie, whatever was given
module _ (w v : World) (owner : Owner) (last : ℕ) (waiting less : ℕ → Option ℕ) (table now : SeenTable JobTalk) (k number : ℕ) (outcome : JobOutcome) (at : ℕ) (was : Client JobTalk)
    (s : Stores w v (Answer.Done number outcome at)) (right : IsOutcomeOf number outcome w.posts) (here : waiting number ≡ Some k) (row : IsListed table k (Some was)) (number_is : was.conn ≡ k)
    (takes : (n : ℕ) → less n ≡ (if number == n then None else waiting n)) (relists : Relists table now k None) (count : client_count now + 1 ≡ client_count table) where
  pub gives_polled : (r : Polled JobTalk) (accepted : ℕ) → IsTied w owner last waiting (IsListed table) accepted → Gives r outcome was → Polls r job_protocol (AllAgree owner v) table now
  gives_polled Nobody accepted t is = absurd is
  gives_polled (Released given) accepted t is = polled_released w v owner last waiting less table now accepted k number outcome at was given t s right here row number_is relists count is
  gives_polled Memory accepted t is = tt

  pub gives_tied : (r : Polled JobTalk) (accepted : ℕ) → IsTied w owner last waiting (IsListed table) accepted → Gives r outcome was
      → TiesAfter r (IsTied v owner last less (IsListed now) accepted) (λ given. IsTiedBut v owner last less (IsListed now) accepted given.conn)
  gives_tied Nobody accepted t is = absurd is
  gives_tied (Released given) accepted t is = polled_tied w v owner last waiting less table now accepted k number outcome at was given t s right here row number_is takes relists is
  gives_tied Memory accepted t is = tt

  -- the job that it owned is one of a request that was answered
  pub gives_owned : (r : Polled JobTalk) (accepted : ℕ) → HaveOwners w.posts owner (IsListed table) accepted → Gives r outcome was
      → TiesAfter r (HaveOwners v.posts owner (IsListed now) accepted) (λ given. HaveOwnersBut v.posts owner (IsListed now) accepted given.conn (rank_of given.talk))
  gives_owned Nobody accepted t is = absurd is
  gives_owned (Released given) accepted t is =
      subst (λ (n : ℕ). HaveOwnersBut v.posts owner (IsListed now) accepted n (rank_of given.talk)) (sym (is.conn ∙ number_is))
      (subst (λ (z : List PostedJob). HaveOwnersBut z owner (IsListed now) accepted k (rank_of given.talk)) (sym s.posts)
      (owned_out next_of (IsPosted w.posts) owner (IsListed table) (IsListed now) accepted k (rank_of given.talk) was t row (subst (λ (n : ℕ). next_of was.talk ≤ n) (sym is.answered) (next_most was.talk.held (rank_of was.talk))) relists.others))
  gives_owned Memory accepted t is = tt
