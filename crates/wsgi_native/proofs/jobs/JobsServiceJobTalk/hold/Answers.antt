use Rattle.std.proofs.Common.{ℕ, ◌+◌, List, ap, arith, refl, sym, subst}
use Rattle.std.proofs.Math.Numerals.{lt-add-one}
use Rattle.std.specs.Prelude.{Some, None, nat_eq}
use Rattle.std.specs.HashMap.{get}
use Rattle.world.specs.Outside.{WorldMeaning as World}
use Rattle.world.proofs.Ranking.{at_ok}
use Rattle.stream_server.specs.Tables.{IsListed}
use Rattle.stream_server.specs.declared.client.Client.{Client}
use Rattle.stream_server.specs.declared.client.TheConstants.{NEVER}
use Rattle.wsgi_native.specs.declared.job_talk.JobTalk.{JobTalk}
use Rattle.wsgi_native.specs.declared.jobs.TheConstants.{LAST_JOB}
use Rattle.wsgi_core.specs.Steps.{answered_of}
use Rattle.stream_server.specs.Owning.{OwnOnce}
use Rattle.wsgi_native.specs.Agreeing.{IsPosted}
use Rattle.wsgi_native.specs.Owning.{owner_in}
use Rattle.wsgi_native.specs.Tied.{IsInOrder}
use Rattle.wsgi_native.proofs.Polling.{agreed_before, agreed_same, at_err, wants_same}
use Rattle.wsgi_native.proofs.Tying.{owners_more, owns_once, posted_order, tied_posted}
use Rattle.wsgi_native.proofs.Posting.{posted_next, posted_same}
use Rattle.wsgi_native.proofs.jobs.JobsServiceJobTalk.hold.Goals as goal

pub post-requires-clause-runs : goal.post-requires-clause-runs
post-requires-clause-runs g c = c.requires.tied.2.2.0.tied.order.runs

pub post-requires-clause-new : goal.post-requires-clause-new
post-requires-clause-new g c = c.requires.tied.2.2.0.tied.fresh (c.args.self.now.posted + 1) (omega arith)

pub returns-then-self-clause-spent : goal.returns-then-self-clause-spent
returns-then-self-clause-spent g c = λ _. c.requires.tied.2.2.0.tied.numbered LAST_JOB (omega arith) (omega arith)

pub returns-then-self-clause-sound : goal.returns-then-self-clause-sound
returns-then-self-clause-sound g c = (c.requires.tied.2.2.0.tied.order, c.requires.tied.2.2.1.has, c.requires.tied.2.2.2.once)

pub returns-then-is_err-clause-sound : goal.returns-then-is_err-clause-sound
returns-then-is_err-clause-sound g c = (c.requires.tied.2.2.0.tied.order, c.requires.tied.2.2.1.has, c.requires.tied.2.2.2.once)

pub returns-then-is_err-2-clause-fits : goal.returns-then-is_err-2-clause-fits
returns-then-is_err-2-clause-fits g c = agreed_same (g.W.World.meaning c.args.world.now) (g.W.World.meaning c.post.new.self) (owner_in c.args.self.now.owners.list) (at_err c.post.result c.if-is_err-2.ensures.value c.post.ensures.refused)

pub returns-then-is_err-2-clause-sound : goal.returns-then-is_err-2-clause-sound
returns-then-is_err-2-clause-sound g c =
    let same = at_err c.post.result c.if-is_err-2.ensures.value c.post.ensures.refused in (
      subst (λ (w : World). IsInOrder w) (sym same) c.requires.tied.2.2.0.tied.order,
      posted_same _ _ _ _ same (at_err c.post.result c.if-is_err-2.ensures.value c.post.ensures.refused_log) c.requires.tied.2.2.1.has,
      subst (λ (w : World). OwnOnce (IsPosted w.posts) (owner_in c.args.self.now.owners.list)) (sym same) c.requires.tied.2.2.2.once,
    )

pub returns-clause-fits : goal.returns-clause-fits
returns-clause-fits g c =
    let client = c.args.client.now in
    let number = c.args.self.now.posted + 1 in
    agreed_before (g.W.World.meaning c.args.world.now) (g.W.World.meaning c.post.new.self) (owner_in c.args.self.now.owners.list) (owner_in c.and-self.result.list) number c.wanted_job-job.result (client.conn, answered_of client.talk.session)
    (at_ok c.post.result c.if-is_err-2.ensures.value c.post.ensures.posted) (c.requires.tied.2.2.0.tied.fresh number (omega arith)) (λ n. ap (λ (owned : List (ℕ × (ℕ × ℕ))). owner_in owned n) c.and-self.ensures)

pub returns-clause-sound : goal.returns-clause-sound
returns-clause-sound g c = (
  posted_order (g.W.World.meaning c.args.world.now) (g.W.World.meaning c.post.new.self) (c.args.self.now.posted + 1) c.wanted_job-job.result c.requires.tied.2.2.0.tied.order (at_ok c.post.result c.if-is_err-2.ensures.value c.post.ensures.posted),
  (posted_next _ _ _ _ _ _ (at_ok c.post.result c.if-is_err-2.ensures.value c.post.ensures.posted) (at_ok c.post.result c.if-is_err-2.ensures.value c.post.ensures.log) c.requires.tied.2.2.1).has,
  owns_once (g.W.World.meaning c.args.world.now) (g.W.World.meaning c.post.new.self) (owner_in c.args.self.now.owners.list) (owner_in c.and-self.result.list) (IsListed c.requires.tied.0) c.requires.tied.1 (c.args.self.now.posted + 1) c.requires.tied.2.0 c.wanted_job-job.result c.args.client.now
      c.requires.tied.2.2.2 (at_ok c.post.result c.if-is_err-2.ensures.value c.post.ensures.posted) (λ n. ap (λ (owned : List (ℕ × (ℕ × ℕ))). owner_in owned n) c.and-self.ensures) c.requires.tied.2.1,
)

pub returns-clause-tied : goal.returns-clause-tied
returns-clause-tied g c = λ table now accepted tied within relists.
    let was = c.args.client.now in
    let number = c.args.self.now.posted + 1 in
    let client : Client JobTalk = record { conn = was.conn; talk = record { session = was.talk.session; held = Some (record { job = number; deadline = was.deadline }) }; ended = was.ended; deadline = NEVER } in (
      tied_posted (g.W.World.meaning c.args.world.now) (g.W.World.meaning c.post.new.self) (owner_in c.args.self.now.owners.list) (owner_in c.and-self.result.list) c.args.self.now.posted (get nat_eq c.args.self.now.waiting) (get nat_eq c.insert.new.self) (IsListed table) (IsListed now) accepted was.conn c.wanted_job-job.result client tied.2.0 within
          (at_ok c.post.result c.if-is_err-2.ensures.value c.post.ensures.posted) (at_ok c.insert.result c.if-is_err.ensures.value c.insert.ensures.updates).0 (λ n. ap (λ (owned : List (ℕ × (ℕ × ℕ))). owner_in owned n) c.and-self.ensures) refl
          (wants_same was.talk client.talk c.wanted_job-job.result refl c.wanted_job-job.ensures) relists.only relists.others,
      posted_next _ _ _ _ _ _ (at_ok c.post.result c.if-is_err-2.ensures.value c.post.ensures.posted) (at_ok c.post.result c.if-is_err-2.ensures.value c.post.ensures.log) tied.2.1,
      owners_more (g.W.World.meaning c.args.world.now) (g.W.World.meaning c.post.new.self) (owner_in c.args.self.now.owners.list) (owner_in c.and-self.result.list) (IsListed table) accepted number tied.0 c.wanted_job-job.result was
          tied.2.2 (at_ok c.post.result c.if-is_err-2.ensures.value c.post.ensures.posted) (λ n. ap (λ (owned : List (ℕ × (ℕ × ℕ))). owner_in owned n) c.and-self.ensures) tied.1 (IsListed now) client within (lt-add-one _) relists.only relists.others,
    )

pub returns-then-is_err-2-clause-lasting : goal.returns-then-is_err-2-clause-lasting
returns-then-is_err-2-clause-lasting g c = ap (λ (n : ℕ). (n, None)) (ap (λ (w : World). w.workers) (at_err c.post.result c.if-is_err-2.ensures.value c.post.ensures.refused))

pub returns-clause-lasting : goal.returns-clause-lasting
returns-clause-lasting g c = ap (λ (n : ℕ). (n, None)) ((at_ok c.post.result c.if-is_err-2.ensures.value c.post.ensures.posted).rest.workers)
