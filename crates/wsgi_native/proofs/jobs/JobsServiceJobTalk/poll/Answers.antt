use Rattle.std.proofs.Common.{ℕ, List, ap, refl, sym, subst, ◌∙◌}
use Rattle.std.specs.Prelude.{Option, Some, None, nat_eq}
use Rattle.std.specs.HashMap.{get}
use Rattle.gv_values.specs.declared.job.Answer.{Answer}
use Rattle.world_rules.specs.declared.question.PostedJob.{PostedJob}
use Rattle.world_rules.specs.declared.question.Question.{Question}
use Rattle.world_rules.specs.Legal.{IsLegal}
use Rattle.world.specs.Outside.{WorldMeaning as World, Stores}
use Rattle.stream_server.specs.Owning.{OwnOnce}
use Rattle.stream_server.specs.Tables.{IsListed}
use Rattle.stream_server.specs.declared.client.Client.{Client}
use Rattle.world.proofs.Sound.{contains_posted}
use Rattle.wsgi_native.specs.Owning.{owner_in}
use Rattle.wsgi_native.specs.Agreeing.{IsPosted}
use Rattle.wsgi_native.specs.Tied.{HaveOwners, IsInOrder}
use Rattle.wsgi_native.specs.declared.job_talk.JobTalk.{JobTalk}
use Rattle.wsgi_native.proofs.Polling.{agreed_earlier, agreed_same, gives_owned, gives_polled, gives_tied, wants_asked}
use Rattle.wsgi_native.proofs.Posting.{gives_posted, posted_asked, posted_same}
use Rattle.wsgi_native.proofs.Tying.{stored_order, tied_silent}
use Rattle.wsgi_native.proofs.jobs.JobsServiceJobTalk.poll.Goals as goal

pub ask-requires-clause-runs : goal.ask-requires-clause-runs
ask-requires-clause-runs g c = c.requires.1.0.order.runs

pub unreachable-requires-in_default-remove-2 : goal.unreachable-requires-in_default-remove-2
unreachable-requires-in_default-remove-2 g c =
    c.requires.1.0.held c.in-Done.number c.in-Some.conn None (sym c.remove.ensures.value ∙ c.in-Some.is)
    (subst (λ (o : Option (Client JobTalk)). IsListed c.args.table.now c.in-Some.conn o) c.in_default-remove-2.is c.remove-in-Done.ensures.was)

pub unreachable-requires : goal.unreachable-requires
unreachable-requires g c =
    let stored = (subst (λ (a : Answer). Stores (g.W.World.meaning c.args.world.now) (g.W.World.meaning c.ask.new.self) a) c.in-Done.is c.in-Ok.ensures.stored) in
    let legal = (subst (λ (a : Answer). IsLegal (g.W.World.meaning c.args.world.now).posts (g.W.World.meaning c.args.world.now).answers Question.Poll a) c.in-Done.is c.in-Ok.ensures.legal).0.0 in
    absurd (c.requires.1.0.awaited c.in-Done.number (contains_posted (g.W.World.meaning c.args.world.now).posts c.in-Done.number legal.0 legal.1) (subst (λ (a : Answer). IsLegal (g.W.World.meaning c.args.world.now).posts (g.W.World.meaning c.args.world.now).answers Question.Poll a) c.in-Done.is c.in-Ok.ensures.legal).0.1 (sym c.remove.ensures.value ∙ c.in_default-remove.is))

pub give-requires : goal.give-requires
give-requires g c =
    let waits = c.requires.1.0.held c.in-Done.number c.in-Some.conn (Some c.in-Some-remove.client) (sym c.remove.ensures.value ∙ c.in-Some.is) c.in-Some-remove.ensures.was in
    wants_asked c.in-Some-remove.client.talk waits.job waits.wants

pub returns-in_default-clause-fits : goal.returns-in_default-clause-fits
returns-in_default-clause-fits g c = agreed_same (g.W.World.meaning c.args.world.now) (g.W.World.meaning c.ask.new.self) (owner_in c.args.self.now.owners.list) c.in_default.ensures.refused

pub returns-in_default-clause-sound : goal.returns-in_default-clause-sound
returns-in_default-clause-sound g c = (
  subst (λ (w : World). IsInOrder w) (sym c.in_default.ensures.refused) c.requires.1.0.order,
  posted_same _ _ _ _ c.in_default.ensures.refused c.in_default.ensures.refused_log c.requires.1.1.has,
  subst (λ (w : World). OwnOnce (IsPosted w.posts) (owner_in c.args.self.now.owners.list)) (sym c.in_default.ensures.refused) c.requires.1.2.once,
)

pub returns-in-Some-remove-clause-polled : goal.returns-in-Some-remove-clause-polled
returns-in-Some-remove-clause-polled g c =
    let stored = (subst (λ (a : Answer). Stores (g.W.World.meaning c.args.world.now) (g.W.World.meaning c.ask.new.self) a) c.in-Done.is c.in-Ok.ensures.stored) in
    let right = (subst (λ (a : Answer). IsLegal (g.W.World.meaning c.args.world.now).posts (g.W.World.meaning c.args.world.now).answers Question.Poll a) c.in-Done.is c.in-Ok.ensures.legal).0.0 in
    gives_polled (g.W.World.meaning c.args.world.now) (g.W.World.meaning c.ask.new.self) (owner_in c.args.self.now.owners.list) c.args.self.now.posted (get nat_eq c.args.self.now.waiting) (get nat_eq c.remove.new.self) c.args.table.now c.remove-in-Done.new.self c.in-Some.conn c.in-Done.number c.in-Done.outcome c.in-Done.at c.in-Some-remove.client
    stored right (sym c.remove.ensures.value ∙ c.in-Some.is) c.in-Some-remove.ensures.was c.in-Some-remove.ensures.number c.remove.ensures.updates.0 c.in-Some-remove.ensures.relists c.in-Some-remove.ensures.count c.give.result c.requires.0 c.requires.1.0 c.give.ensures.gives

pub returns-in-Some-remove-clause-tied : goal.returns-in-Some-remove-clause-tied
returns-in-Some-remove-clause-tied g c = λ accepted tied.
    let stored = (subst (λ (a : Answer). Stores (g.W.World.meaning c.args.world.now) (g.W.World.meaning c.ask.new.self) a) c.in-Done.is c.in-Ok.ensures.stored) in
    let right = (subst (λ (a : Answer). IsLegal (g.W.World.meaning c.args.world.now).posts (g.W.World.meaning c.args.world.now).answers Question.Poll a) c.in-Done.is c.in-Ok.ensures.legal).0.0 in
    gives_posted _ _ _ _ _ c.give.result (posted_asked _ _ _ _ _ _ _ c.in-Ok.ensures.legal c.in-Ok.ensures.stored c.in-Ok.ensures.log tied.1) (gives_tied (g.W.World.meaning c.args.world.now) (g.W.World.meaning c.ask.new.self) (owner_in c.args.self.now.owners.list) c.args.self.now.posted (get nat_eq c.args.self.now.waiting) (get nat_eq c.remove.new.self) c.args.table.now c.remove-in-Done.new.self c.in-Some.conn c.in-Done.number c.in-Done.outcome c.in-Done.at c.in-Some-remove.client
    stored right (sym c.remove.ensures.value ∙ c.in-Some.is) c.in-Some-remove.ensures.was c.in-Some-remove.ensures.number c.remove.ensures.updates.0 c.in-Some-remove.ensures.relists c.in-Some-remove.ensures.count c.give.result accepted tied.0 c.give.ensures.gives)
    (gives_owned (g.W.World.meaning c.args.world.now) (g.W.World.meaning c.ask.new.self) (owner_in c.args.self.now.owners.list) c.args.self.now.posted (get nat_eq c.args.self.now.waiting) (get nat_eq c.remove.new.self) c.args.table.now c.remove-in-Done.new.self c.in-Some.conn c.in-Done.number c.in-Done.outcome c.in-Done.at c.in-Some-remove.client
    stored right (sym c.remove.ensures.value ∙ c.in-Some.is) c.in-Some-remove.ensures.was c.in-Some-remove.ensures.number c.remove.ensures.updates.0 c.in-Some-remove.ensures.relists c.in-Some-remove.ensures.count c.give.result accepted tied.2 c.give.ensures.gives)

pub returns-in-Some-remove-clause-fits : goal.returns-in-Some-remove-clause-fits
returns-in-Some-remove-clause-fits g c = agreed_earlier (g.W.World.meaning c.args.world.now) (g.W.World.meaning c.ask.new.self) (owner_in c.args.self.now.owners.list) c.in-Ok.answer c.in-Ok.ensures.stored

pub returns-in-Some-remove-clause-sound : goal.returns-in-Some-remove-clause-sound
returns-in-Some-remove-clause-sound g c =
    let stored = (subst (λ (a : Answer). Stores (g.W.World.meaning c.args.world.now) (g.W.World.meaning c.ask.new.self) a) c.in-Done.is c.in-Ok.ensures.stored) in
    let right = (subst (λ (a : Answer). IsLegal (g.W.World.meaning c.args.world.now).posts (g.W.World.meaning c.args.world.now).answers Question.Poll a) c.in-Done.is c.in-Ok.ensures.legal).0.0 in (
      stored_order (g.W.World.meaning c.args.world.now) (g.W.World.meaning c.ask.new.self) c.in-Done.number c.in-Done.outcome c.in-Done.at c.requires.1.0.order stored right,
      (posted_asked _ _ _ _ _ _ _ c.in-Ok.ensures.legal c.in-Ok.ensures.stored c.in-Ok.ensures.log c.requires.1.1).has,
      subst (λ (z : List PostedJob). OwnOnce (IsPosted z) (owner_in c.args.self.now.owners.list)) (sym c.in-Ok.ensures.stored.posts) c.requires.1.2.once,
    )

pub returns-in-Nothing-clause-tied : goal.returns-in-Nothing-clause-tied
returns-in-Nothing-clause-tied g c = λ accepted tied. (
  tied_silent (g.W.World.meaning c.args.world.now) (g.W.World.meaning c.ask.new.self) (owner_in c.args.self.now.owners.list) c.args.self.now.posted (get nat_eq c.args.self.now.waiting) (IsListed c.args.table.now) accepted (Answer.Nothing c.in-Nothing.at) tied.0
      (subst (λ (a : Answer). Stores (g.W.World.meaning c.args.world.now) (g.W.World.meaning c.ask.new.self) a) c.in-Nothing.is c.in-Ok.ensures.stored) (λ n. refl),
  posted_asked _ _ _ _ _ _ _ c.in-Ok.ensures.legal c.in-Ok.ensures.stored c.in-Ok.ensures.log tied.1,
  subst (λ (z : List PostedJob). HaveOwners z (owner_in c.args.self.now.owners.list) (IsListed c.args.table.now) accepted) (sym c.in-Ok.ensures.stored.posts) tied.2,
)

pub returns-in-Nothing-clause-sound : goal.returns-in-Nothing-clause-sound
returns-in-Nothing-clause-sound g c = (
  (tied_silent (g.W.World.meaning c.args.world.now) (g.W.World.meaning c.ask.new.self) (owner_in c.args.self.now.owners.list) c.args.self.now.posted (get nat_eq c.args.self.now.waiting) (IsListed c.args.table.now) c.requires.0 (Answer.Nothing c.in-Nothing.at) c.requires.1.0
      (subst (λ (a : Answer). Stores (g.W.World.meaning c.args.world.now) (g.W.World.meaning c.ask.new.self) a) c.in-Nothing.is c.in-Ok.ensures.stored) (λ n. refl)).order,
  (posted_asked _ _ _ _ _ _ _ c.in-Ok.ensures.legal c.in-Ok.ensures.stored c.in-Ok.ensures.log c.requires.1.1).has,
  subst (λ (z : List PostedJob). OwnOnce (IsPosted z) (owner_in c.args.self.now.owners.list)) (sym c.in-Ok.ensures.stored.posts) c.requires.1.2.once,
)

pub returns-in-Nothing-clause-fits : goal.returns-in-Nothing-clause-fits
returns-in-Nothing-clause-fits g c = agreed_earlier (g.W.World.meaning c.args.world.now) (g.W.World.meaning c.ask.new.self) (owner_in c.args.self.now.owners.list) c.in-Ok.answer c.in-Ok.ensures.stored

pub returns-in_default-clause-lasting : goal.returns-in_default-clause-lasting
returns-in_default-clause-lasting g c = ap (λ (n : ℕ). (n, None)) (ap (λ (w : World). w.workers) c.in_default.ensures.refused)

pub returns-in-Some-remove-clause-lasting : goal.returns-in-Some-remove-clause-lasting
returns-in-Some-remove-clause-lasting g c = ap (λ (n : ℕ). (n, None)) (c.in-Ok.ensures.stored.rest.workers)

pub returns-in-Nothing-clause-lasting : goal.returns-in-Nothing-clause-lasting
returns-in-Nothing-clause-lasting g c = ap (λ (n : ℕ). (n, None)) (c.in-Ok.ensures.stored.rest.workers)
