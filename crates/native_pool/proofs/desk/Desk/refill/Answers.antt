use Rattle.native_pool.proofs.DeskSteps.{refills_from}
use Rattle.native_pool.specs.Views.{desk_view}
use Rattle.native_pool.proofs.desk.Desk.refill.Goals as goal

pub returns : goal.returns
returns c = record {
  refills = refills_from (desk_view c.args.self.now) (desk_view c.sweep.new.self) (desk_view c.fill.new.self) c.requires.none_held c.sweep.ensures.sweeps c.sweep.ensures.held c.sweep.ensures.started
      c.sweep.ensures.waiting c.fill.ensures.fills c.fill.ensures.full;
}
