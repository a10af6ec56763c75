use Rattle.std.proofs.Common.{◌≡◌, sym, ◌∙◌}
use Rattle.scenario_lang.proofs.Marked.{given_role, ungiven_role}
use Rattle.scenario_lang.proofs.role.line_role.Goals as goal

pub returns-then-is_given_line : goal.returns-then-is_given_line
returns-then-is_given_line c = rw c.reason_outside.ensures (sym (given_role c.args.tokens.now (sym c.is_given_line.ensures ∙ c.if-is_given_line.true)))

pub returns-else-is_given_line : goal.returns-else-is_given_line
returns-else-is_given_line c = c.unmarked_role.ensures ∙ sym (ungiven_role c.args.tokens.now (sym c.is_given_line.ensures ∙ c.if-is_given_line.false))
