use Rattle.std.proofs.Common.{◌↔◌, ◌≡◌, sym, subst}
use Rattle.std.specs.Prelude.{IsTrue, nat_eq}
use Rattle.std.specs.HashMap.{get}
use Rattle.gv_values.specs.declared.job.JobOutcome.{JobOutcome}
use Rattle.world.proofs.Finding.{ends_found, ends_none}
use Rattle.world.proofs.outstanding.OutstandingJobs.has_end.Goals as goal

pub returns-in-Some : goal.returns-in-Some
returns-in-Some c = λ jobs finds.
    ends_found (get nat_eq c.args.self.now.by_number) jobs c.args.number c.args.outcome c.in-Some.job.now c.is_same.result finds (sym c.in-Some.ensures.value)
    (subst (λ (o : JobOutcome). IsTrue c.is_same.result ↔ (c.args.outcome ≡ o)) c.eval.ensures c.is_same.ensures)

pub returns-in-None : goal.returns-in-None
returns-in-None c = λ jobs finds. ends_none (get nat_eq c.args.self.now.by_number) jobs c.args.number c.args.outcome finds (sym c.in-None.ensures.value)
