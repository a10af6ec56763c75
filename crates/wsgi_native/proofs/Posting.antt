-- What was posted to the world, and the log for which it stands.
use Rattle.std.proofs.Common.{◌≡◌, ◌↔◌, ℕ, ◌+◌, List, [], ◌∷◌, ◌++◌, length, arith, sym, ap, ◌∙◌, subst}
use Rattle.std.proofs.lemmas.List.{length-append}
use Rattle.gv_values.specs.declared.job.Answer.{Answer}
use Rattle.gv_values.specs.declared.job.Job.{Job}
use Rattle.world_rules.specs.declared.question.LogEntry.{LogEntry}
use Rattle.world_rules.specs.declared.question.PostedJob.{PostedJob}
use Rattle.world_rules.specs.declared.question.Question.{Question}
use Rattle.world_rules.specs.Legal.{IsLegal, posted}
use Rattle.world.specs.Outside.{Posts, Stores, WorldMeaning}
use Rattle.world.proofs.LegalLogs.{logged_asked, logged_post, logged_same}
use Rattle.stream_server.specs.Services.{TiesAfter}
use Rattle.stream_server.specs.declared.client.Client.{Client}
use Rattle.stream_server.specs.declared.service.Polled.{Polled}
use Rattle.wsgi_native.specs.Tied.{AreNumberedFrom, HasPosted, HasPostedTo}

numbered_push : (next number : ℕ) (posts : List PostedJob) (job : Job) → number ≡ next + length posts → AreNumberedFrom next posts → AreNumberedFrom next (posts ++ posted number job ∷ [])
numbered_push next number [] job e h = (omega (arith, e), tt)
numbered_push next number (p ∷ posts) job e h = (h.0, numbered_push (next + 1) number posts job (omega (arith, e)) h.1)

-- a job more was posted, under the next number
pub posted_next : (last : ℕ) (w v : WorldMeaning) (old new : List LogEntry → Type 0) (job : Job) → Posts w v (last + 1) job
    → ((log : List LogEntry) → old log → new (log ++ LogEntry.Post (last + 1) job 0 ∷ [])) → HasPostedTo last w old → HasPostedTo (last + 1) v new
posted_next last w v old new job p grows h = record {
  count = ap length p.posts ∙ length-append w.posts (posted (last + 1) job ∷ []) ∙ ap (λ n. n + 1) h.count;
  has = record {
    numbered = subst (AreNumberedFrom 1) (sym p.posts) (numbered_push 1 (last + 1) w.posts job (let count = h.count in omega (arith, count)) h.has.numbered);
    logged = logged_post w v old new (last + 1) job h.has.logged p grows;
  };
}

-- an answer more was given
pub posted_asked : (last : ℕ) (w v : WorldMeaning) (old new : List LogEntry → Type 0) (question : Question) (answer : Answer) → IsLegal w.posts w.answers question answer → Stores w v answer
    → ((log : List LogEntry) → old log → new (log ++ LogEntry.Asked question answer ∷ [])) → HasPostedTo last w old → HasPostedTo last v new
posted_asked last w v old new question answer legal stored grows h = record {
  count = ap length stored.posts ∙ h.count;
  has = record {
    numbered = subst (AreNumberedFrom 1) (sym stored.posts) h.has.numbered;
    logged = logged_asked w v old new question answer h.has.logged legal stored grows;
  };
}

-- nothing changed
pub posted_same : (w v : WorldMeaning) (old new : List LogEntry → Type 0) → v ≡ w → ((log : List LogEntry) → old log ↔ new log) → HasPosted w old → HasPosted v new
posted_same w v old new same logs h = record {
  numbered = subst (λ (m : WorldMeaning). AreNumberedFrom 1 m.posts) (sym same) h.numbered;
  logged = logged_same w v old new h.logged (ap (λ (m : WorldMeaning). m.posts) same) (ap (λ (m : WorldMeaning). m.answers) same) logs;
}

-- nothing was posted
pub posted_none : (last : ℕ) (w : WorldMeaning) (stands : List LogEntry → Type 0) → last ≡ 0 → w.posts ≡ [] → w.answers ≡ [] → stands [] → HasPostedTo last w stands
posted_none last w stands none posts answers log = record {
  count = ap length posts ∙ sym none;
  has = record {
    numbered = subst (AreNumberedFrom 1) (sym posts) tt;
    logged = record { log = []; stood = log; posts = sym posts; answers = sym answers; legal = tt; untimed = tt };
  };
}

-- what holds of the world, and of the owners, holds after a poll, whatever that led to
pub gives_posted : {T : Type 0} (P whole owned : Type 0) (but owned_but : Client T → Type 0) (polled : Polled T) → P → TiesAfter polled whole but → TiesAfter polled owned owned_but
    → TiesAfter polled (whole × P × owned) (λ client. but client × P × owned_but client)
gives_posted P whole owned but owned_but Polled.Nobody here ties owns = (ties, here, owns)
gives_posted P whole owned but owned_but (Polled.Released client) here ties owns = (ties, here, owns)
gives_posted P whole owned but owned_but Polled.Memory here ties owns = tt
