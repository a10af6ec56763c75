use Rattle.std.proofs.Common.{ap, refl, sym, subst, ℕ, Option}
use Rattle.std.specs.Prelude.{nat_eq}
use Rattle.std.specs.HashMap.{get}
use Rattle.stream_server.specs.Tables.{IsListed}
use Rattle.stream_server.proofs.Endings.{all_rest, answered_of, but_rest, cause_of, own_of, whole_of}
use Rattle.wsgi_core.specs.Session.{session}
use Rattle.wsgi_native.specs.JobApp.{job_app}
use Rattle.wsgi_native.specs.Owning.{owner_in}
use Rattle.wsgi_native.specs.Talks.{job_protocol}
use Rattle.wsgi_native.specs.Tied.{IsTied}
use Rattle.wsgi_native.specs.Laws.{job_agrees}
use Rattle.wsgi_native.proofs.Earning.{earned_by}
use Rattle.wsgi_native.proofs.Posting.{posted_none}
use Rattle.wsgi_native.proofs.Tying.{first_order, none_posted, owners_none, tied_none}
use Rattle.wsgi_native.proofs.Vain.{ends_in_vain, out_of_jobs}
use Rattle.wsgi_native.proofs.serving.serve_jobs.Goals as goal

pub serve_on-end-requires-clause-tied : goal.serve_on-end-requires-clause-tied
serve_on-end-requires-clause-tied g c = λ table. (
  subst (λ (n : ℕ). IsTied (g.W.World.meaning c.args.world.now) (owner_in c.new-jobs.result.owners.list) n (get nat_eq c.new-jobs.result.waiting) (IsListed table) 0) (sym c.new-jobs.ensures.none)
      (tied_none (g.W.World.meaning c.args.world.now) (owner_in c.new-jobs.result.owners.list) (get nat_eq c.new-jobs.result.waiting) (IsListed table) 0 c.requires.runs c.requires.no_posts c.requires.no_answers c.new-jobs.ensures.nobody),
  posted_none _ _ _ c.new-jobs.ensures.none c.requires.no_posts c.requires.no_answers c.requires.log,
  owners_none (g.W.World.meaning c.args.world.now) (owner_in c.new-jobs.result.owners.list) (IsListed table) 0 c.requires.no_posts,
)

pub serve_on-end-requires-clause-sound : goal.serve_on-end-requires-clause-sound
serve_on-end-requires-clause-sound g c = (first_order (g.W.World.meaning c.args.world.now) c.requires.runs c.requires.no_answers, (posted_none 0 _ _ refl c.requires.no_posts c.requires.no_answers c.requires.log).has, λ a b x. absurd (none_posted (g.W.World.meaning c.args.world.now) c.requires.no_posts a x))

pub returns-clause-own : goal.returns-clause-own
returns-clause-own g c = own_of (session job_app c.args.port) c.args.limits.idle (g.N.Net.meaning c.serve_on-end.new.net).connections (c.serve_on-end.ensures.left (λ _. job_app) (job_agrees (owner_in c.serve_on-end.new.service.owners.list) (g.W.World.meaning c.serve_on-end.new.world))).served

pub returns-clause-whole : goal.returns-clause-whole
returns-clause-whole g c = whole_of (session job_app c.args.port) c.args.limits.idle (g.N.Net.meaning c.serve_on-end.new.net).connections (c.serve_on-end.ensures.left (λ _. job_app) (job_agrees (owner_in c.serve_on-end.new.service.owners.list) (g.W.World.meaning c.serve_on-end.new.world))).served

pub returns-clause-answered : goal.returns-clause-answered
returns-clause-answered g c = answered_of (session job_app c.args.port) c.args.limits.idle (g.N.Net.meaning c.serve_on-end.new.net).connections (c.serve_on-end.ensures.left (λ _. job_app) (job_agrees (owner_in c.serve_on-end.new.service.owners.list) (g.W.World.meaning c.serve_on-end.new.world))).served

pub returns-clause-cause : goal.returns-clause-cause
returns-clause-cause g c = cause_of (session job_app c.args.port) c.args.limits.idle (g.N.Net.meaning c.serve_on-end.new.net).connections (c.serve_on-end.ensures.left (λ _. job_app) (job_agrees (owner_in c.serve_on-end.new.service.owners.list) (g.W.World.meaning c.serve_on-end.new.world))).served

pub returns-clause-earned : goal.returns-clause-earned
returns-clause-earned g c = earned_by (owner_in c.serve_on-end.new.service.owners.list) (g.W.World.meaning c.serve_on-end.new.world) record { port = c.args.port; limits = c.args.limits } (g.N.Net.meaning c.serve_on-end.new.net) c.serve_on-end.ensures.sound.2 c.serve_on-end.ensures.left

pub returns-clause-most : goal.returns-clause-most
returns-clause-most g c = (c.serve_on-end.ensures.left (λ _. job_app) (job_agrees (owner_in c.serve_on-end.new.service.owners.list) (g.W.World.meaning c.serve_on-end.new.world))).most

pub returns-clause-within : goal.returns-clause-within
returns-clause-within g c = (c.serve_on-end.ensures.left (λ _. job_app) (job_agrees (owner_in c.serve_on-end.new.service.owners.list) (g.W.World.meaning c.serve_on-end.new.world))).within

pub returns-clause-rest_but : goal.returns-clause-rest_but
returns-clause-rest_but g c = but_rest job_protocol.holds (g.N.Net.meaning c.serve_on-end.new.net).connections (c.serve_on-end.ensures.left (λ _. job_app) (job_agrees (owner_in c.serve_on-end.new.service.owners.list) (g.W.World.meaning c.serve_on-end.new.world))).rest

pub returns-clause-resting : goal.returns-clause-resting
returns-clause-resting g c = λ e. all_rest job_protocol.holds (g.N.Net.meaning c.serve_on-end.new.net).connections (c.serve_on-end.ensures.resting (c.end_of.ensures.listener e))

pub returns-clause-no_jobs : goal.returns-clause-no_jobs
returns-clause-no_jobs g c = λ e.
    out_of_jobs (owner_in c.serve_on-end.new.service.owners.list) record { port = c.args.port; limits = c.args.limits } (g.N.Net.meaning c.serve_on-end.new.net) (g.W.World.meaning c.serve_on-end.new.world) (c.serve_on-end.ensures.in_vain (c.end_of.ensures.no_jobs e))

pub returns-clause-out_of_jobs : goal.returns-clause-out_of_jobs
returns-clause-out_of_jobs g c =
    ends_in_vain c.args.port c.args.limits.conns (g.N.Net.meaning c.serve_on-end.new.net) (g.W.World.meaning c.serve_on-end.new.world) c.end_of.result (λ e. c.serve_on-end.ensures.finished (c.end_of.ensures.finished e))
    (λ e. all_rest job_protocol.holds (g.N.Net.meaning c.serve_on-end.new.net).connections (c.serve_on-end.ensures.resting (c.end_of.ensures.listener e)))

pub returns-clause-workers : goal.returns-clause-workers
returns-clause-workers g c = ap (λ (p : ℕ × Option ℕ). p.0) c.serve_on-end.ensures.lasting
