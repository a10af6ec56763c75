use Rattle.std.proofs.Common.{sym, ◌∙◌}
use Rattle.scenario_lines.proofs.Numbers.{negative_number, positive_number}
use Rattle.scenario_lines.proofs.token.read_number.Goals as goal

pub returns-in-Some : goal.returns-in-Some
returns-in-Some c = rw c.negative.ensures (negative_number c.args.word.now c.in-Some.digits.now c.magnitude.result (sym c.in-Some.ensures) (sym c.is_whole.ensures ∙ c.if-not-is_whole.false) c.magnitude.ensures)

pub returns-in-None : goal.returns-in-None
returns-in-None c = rw c.positive.ensures (positive_number c.args.word.now c.magnitude-in-None.result (sym c.in-None.ensures) (sym c.is_whole.ensures ∙ c.if-not-is_whole.false) c.magnitude-in-None.ensures)
