use Rattle.hub_state.proofs.Coming.{looks_due}
use Rattle.hub_state.proofs.looks.look_at_due.Goals as goal

pub returns-clause-looks : goal.returns-clause-looks
returns-clause-looks c = looks_due c.args.moment c.args.held.now.entries c.args.found.now c.gather_due.new.self c.gather_due.ensures.gathers c.gather_due.ensures.lost c.gather_due.ensures.room
