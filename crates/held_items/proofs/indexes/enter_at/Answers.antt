use Rattle.std.proofs.Common.{◌∙◌}
use Rattle.held_items.proofs.Indexing.{keyed_entered, none_entered}
use Rattle.held_items.proofs.indexes.enter_at.Goals as goal

pub returns-in-Some : goal.returns-in-Some
returns-in-Some c = λ key_of es i key lacks are. keyed_entered _ _ key_of c.in-Some.key c.args.slot es i (key ∙ c.in-Some.is) lacks are c.push.ensures.chains

pub returns-in_default : goal.returns-in_default
returns-in_default c = λ key_of es i key lacks are. none_entered _ key_of c.args.slot es i (key ∙ c.in_default.is) are
