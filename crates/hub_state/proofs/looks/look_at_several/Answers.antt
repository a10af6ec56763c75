use Rattle.hub_state.specs.Over.{whole}
use Rattle.hub_state.proofs.Joining.{several_looked_at, several_passed_by}
use Rattle.hub_state.proofs.looks.look_at_several.Goals as goal

pub returns-then-not-touched : goal.returns-then-not-touched
returns-then-not-touched c = several_passed_by c.args.touched (whole c.args.base.now c.args.held.now) c.args.held.now.entries c.args.found.now c.if-not-touched.true

pub returns : goal.returns
returns c = several_looked_at c.args.touched (whole c.args.base.now c.args.held.now) c.args.held.now.entries c.args.found.now c.look_at_target.new.found c.if-not-touched.false c.look_at_target.ensures
