use Rattle.std.specs.Option.{option_copied}
use Rattle.body_locals.specs.Locals.{locals_of}
use Rattle.body_values.proofs.Meanings.{local_found}
use Rattle.body_values.proofs.locals.find_operand.Goals as goal

pub returns-in-Local : goal.returns-in-Local
returns-in-Local c =
    local_found c.args.scope.blocks.now.names c.in-Local.slot (locals_of c.args.scope.blocks.now.names c.args.scope.locals.now) (option_copied c.find_local.result)
    c.args.expression.now c.in-Local.is c.find_local.ensures
