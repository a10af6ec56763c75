use Rattle.std.proofs.Common.{◌∙◌}
use Rattle.held_items.proofs.Indexing.{keyed_stands, keyed_left, none_left}
use Rattle.held_items.proofs.indexes.leave_at.Goals as goal

pub remove-requires-clause-key : goal.remove-requires-clause-key
remove-requires-clause-key c =
    let r = c.requires in
    (keyed_stands _ r.0 c.in-Some.key c.args.slot r.1 r.2 (r.3 ∙ c.in-Some.is) r.4 r.5).0

pub remove-requires-clause-slot : goal.remove-requires-clause-slot
remove-requires-clause-slot c =
    let r = c.requires in
    (keyed_stands _ r.0 c.in-Some.key c.args.slot r.1 r.2 (r.3 ∙ c.in-Some.is) r.4 r.5).1

pub returns-in-Some : goal.returns-in-Some
returns-in-Some c = λ key_of es i key there differ are. keyed_left _ _ key_of c.in-Some.key c.args.slot es i (key ∙ c.in-Some.is) there are c.remove.ensures.chains

pub returns-in_default : goal.returns-in_default
returns-in_default c = λ key_of es i key there differ are. none_left _ key_of c.args.slot es i (key ∙ c.in_default.is) differ there are
