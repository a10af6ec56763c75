-- The laws of a service whose requests for jobs a world answers.
use Rattle.std.proofs.Common.{◌≡◌, ◌≢◌, ℕ, ◌+◌, ◌<◌, ◌≤◌, false, List, Option, Some, None, is_some, option_map, refl, sym, ap, ◌∙◌, subst}
use Rattle.std.proofs.Math.Nat.{le_of_lt, le_refl, le_trans, lt_irrefl, lt_trans}
use Rattle.std.proofs.Math.Numerals.{lt-add-one}
use Rattle.std.proofs.lemmas.Bool.{false≢true}
use Rattle.http_messages.specs.Environ.{Pair}
use Rattle.gv_values.specs.declared.job.Job.{Job}
use Rattle.world_rules.specs.declared.question.PostedJob.{PostedJob}
use Rattle.world.specs.Outside.{WorldMeaning}
use Rattle.wsgi_core.specs.Applications.{App}
use Rattle.wsgi_core.specs.Steps.{asked_of, begun_bytes, said_bytes}
use Rattle.stream_server.specs.Protocols.{IsLawful, side_of}
use Rattle.stream_server.specs.Keeping.{Listing}
use Rattle.stream_server.specs.declared.client.Client.{Client}
use Rattle.stream_server.specs.Owning.{Owner, owned_again, owned_new, owned_out}
use Rattle.wsgi_native.specs.Agreeing.{Agrees, IsPlain, IsPosted}
use Rattle.wsgi_native.specs.JobApp.{job_app, reply_by}
use Rattle.wsgi_native.specs.Talks.{held_number, holds_for, job_protocol, next_behind, next_of, rank_of}
use Rattle.wsgi_native.specs.Tied.{Awaits, HaveOwners, HaveOwnersBut, IsTied, IsTiedBut}
use Rattle.wsgi_native.specs.declared.job_talk.HeldFor.{HeldFor}
use Rattle.wsgi_native.specs.declared.job_talk.JobTalk.{JobTalk}

-- ---- what is said

pub none_asked : (o : Option (List Pair × List ℕ)) → is_some o ≡ false → o ≡ None
none_asked None e = refl
none_asked (Some r) e = absurd (false≢true (sym e))

pub job_lawful : (app : App) (port : ℕ) → IsLawful (side_of job_protocol app port)
job_lawful app port = record {
  all_said = λ fed ended taken t at quiet. said_bytes app port fed ended taken t.session (record { stands_at = at; quiet = none_asked (asked_of t.session) quiet });
  begun = λ fed ended taken t at. begun_bytes app port fed ended taken t.session at;
}

pub job_plain : IsPlain job_app
job_plain i environ body e = ap (λ (o : Option Job). reply_by o i environ body) e

-- it agrees with itself
pub job_agrees : (owner : Owner) (w : WorldMeaning) (conn : ℕ) → Agrees owner w conn job_app
job_agrees owner w conn = record {
  plain = job_plain;
  done = λ number i job environ body owns e there answered. ap (λ (o : Option Job). reply_by o i environ body) e;
}

-- ---- the tie

not_held : (t : JobTalk) (n : ℕ) → holds_for t ≡ false → held_number t ≡ Some n → ⊥
not_held t n = by t.held
  where
    by : (o : Option HeldFor) → is_some o ≡ false → option_map (λ (h : HeldFor). h.job) o ≡ Some n → ⊥
    by None free e = false≢true (ap (λ (x : Option ℕ). is_some x) e)
    by (Some h) free e = false≢true (sym free)

-- one that was just accepted waits for none
pub tied_new : (w : WorldMeaning) (owner : Owner) (last : ℕ) (waiting : ℕ → Option ℕ) (listed now : Listing JobTalk) (accepted : ℕ) → IsTied w owner last waiting listed accepted → ((k : ℕ) (s : Option (Client JobTalk)) → now k s → listed k s)
    → IsTiedBut w owner last waiting now (accepted + 1) accepted
tied_new w owner last waiting listed now accepted t same = record {
  tied = record {
    order = t.order;
    fresh = t.fresh;
    numbered = t.numbered;
    alone = t.alone;
    awaited = t.awaited;
    below = λ n k e. lt_trans (t.below n k e) (lt-add-one accepted);
    held = λ n k slot e row. t.held n k slot e (same k slot row);
  };
  others = λ n j e is. absurd (lt_irrefl accepted (subst (λ (i : ℕ). i < accepted) is (t.below n j e)));
}

-- it is listed, or closed
pub tied_again : (w : WorldMeaning) (owner : Owner) (last : ℕ) (waiting : ℕ → Option ℕ) (listed now : Listing JobTalk) (accepted k : ℕ) → IsTiedBut w owner last waiting listed accepted k
    → ((j : ℕ) (s : Option (Client JobTalk)) → j ≢ k → now j s → listed j s) → IsTied w owner last waiting now accepted
tied_again w owner last waiting listed now accepted k t others = record {
  order = t.tied.order;
  fresh = t.tied.fresh;
  numbered = t.tied.numbered;
  alone = t.tied.alone;
  awaited = t.tied.awaited;
  below = t.tied.below;
  held = λ n j slot e row. t.tied.held n j slot e (others j slot (t.others n j e) row);
}

-- one that isn't held is taken out
pub tied_out : (w : WorldMeaning) (owner : Owner) (last : ℕ) (waiting : ℕ → Option ℕ) (listed now : Listing JobTalk) (accepted k : ℕ) (g : Client JobTalk) → IsTied w owner last waiting listed accepted → listed k (Some g) → holds_for g.talk ≡ false
    → ((j : ℕ) (s : Option (Client JobTalk)) → j ≢ k → now j s → listed j s) → IsTiedBut w owner last waiting now accepted k
tied_out w owner last waiting listed now accepted k g t row free others = record {
  tied = record {
    order = t.order;
    fresh = t.fresh;
    numbered = t.numbered;
    alone = t.alone;
    awaited = t.awaited;
    below = t.below;
    held = λ n j slot e now_row. t.held n j slot e (others j slot (apart n j e) now_row);
  };
  others = apart;
}
  where
    apart : (n j : ℕ) → waiting n ≡ Some j → j ≢ k
    apart n j e same = let a : Awaits w.posts owner n g = t.held n k (Some g) (e ∙ ap (λ (i : ℕ). Some i) same) row in not_held g.talk n free a.is_number

-- ---- the owners

pub next_least : (o : Option HeldFor) (answered : ℕ) → answered ≤ next_behind o answered
next_least None answered = le_refl answered
next_least (Some h) answered = le_of_lt (lt-add-one answered)

pub next_most : (o : Option HeldFor) (answered : ℕ) → next_behind o answered ≤ answered + 1
next_most None answered = le_of_lt (lt-add-one answered)
next_most (Some h) answered = le_refl (answered + 1)

next_free : (o : Option HeldFor) (answered : ℕ) → is_some o ≡ false → next_behind o answered ≤ answered
next_free None answered free = le_refl answered
next_free (Some h) answered free = absurd (false≢true (sym free))

pub owners_new : (posts : List PostedJob) (owner : Owner) (listed now : Listing JobTalk) (accepted : ℕ) → HaveOwners posts owner listed accepted → ((k : ℕ) (s : Option (Client JobTalk)) → now k s → listed k s)
    → HaveOwnersBut posts owner now (accepted + 1) accepted 0
owners_new posts owner listed now accepted h same = owned_new next_of (IsPosted posts) owner listed now accepted h same

pub owners_again : (posts : List PostedJob) (owner : Owner) (listed now : Listing JobTalk) (accepted k low : ℕ) → HaveOwnersBut posts owner listed accepted k low → ((j : ℕ) (s : Option (Client JobTalk)) → j ≢ k → now j s → listed j s)
    → ((g : Client JobTalk) → now k (Some g) → low ≤ rank_of g.talk) → HaveOwners posts owner now accepted
owners_again posts owner listed now accepted k low h others from = owned_again next_of (IsPosted posts) owner listed now accepted k low h others
    (λ g row. le_trans (from g row) (next_least g.talk.held (rank_of g.talk)))

pub owners_out : (posts : List PostedJob) (owner : Owner) (listed now : Listing JobTalk) (accepted k : ℕ) (g : Client JobTalk) → HaveOwners posts owner listed accepted → listed k (Some g) → holds_for g.talk ≡ false
    → ((j : ℕ) (s : Option (Client JobTalk)) → j ≢ k → now j s → listed j s) → HaveOwnersBut posts owner now accepted k (rank_of g.talk)
owners_out posts owner listed now accepted k g h row free others = owned_out next_of (IsPosted posts) owner listed now accepted k (rank_of g.talk) g h row (next_free g.talk.held (rank_of g.talk) free) others
