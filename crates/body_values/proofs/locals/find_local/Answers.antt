use Rattle.std.proofs.Common.{sym, ◌∙◌}
use Rattle.body_locals.proofs.Places.{value_by_name}
use Rattle.body_values.proofs.locals.find_local.Goals as goal

pub returns : goal.returns
returns c = c.get.ensures ∙ sym (value_by_name c.args.scope.blocks.now.names c.args.slot.number c.args.scope.locals.now c.tell_names.ensures)
