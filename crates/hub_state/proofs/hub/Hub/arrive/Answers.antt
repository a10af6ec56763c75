use Rattle.std.proofs.Common.{◌≡◌, ◌∙◌, ap, sym, subst, true, Option, Some}
use Rattle.std.specs.Option.{option_copied}
use Rattle.machine.specs.declared.state.JobState.{JobState}
use Rattle.machine.specs.Holds.{job_at}
use Rattle.hub_objects.specs.Jobs.{came_by}
use Rattle.hub_state.specs.HubParts.{state_of}
use Rattle.hub_state.proofs.Keeping.{hub_arrived}
use Rattle.hub_state.proofs.UpToDate.{ascending}
use Rattle.hub_state.proofs.hub.Hub.arrive.Goals as goal

pub invariant_of-self : goal.invariant_of-self
invariant_of-self c =
    let s = state_of c.self.inside in
    let job = c.in-Some.job.now in
    let there : job_at c.args.j s.jobs ≡ Some job =
    ap (job_at c.args.j) (sym c.deref.ensures.value) ∙ sym c.job_at.ensures ∙ ap option_copied c.in-Some.is in
    let came = subst (λ (found : Option JobState). came_by found c.args.j c.args.outcome s.jobs c.arrive_in.ensures.0 c.arrive_in.new.jobs.items) there c.arrive_in.ensures.1 in
    record {
      kept =
          hub_arrived c.args.j c.args.outcome job c.pool-pool.result c.self.inside.held c.self.inside.touched c.touch_end.new.self c.touch.new.self s c.change.new.self c.arrive_in.new.jobs.items
          (ascending 0 _ _ c.items_stand_in_order.ensures.ascends) there c.pool-pool.ensures c.touch_end.ensures c.touch.ensures c.change.ensures came.1 c.self.invariant.kept;
      room = c.self.invariant.room;
    }
