use Rattle.scenario_keywords.proofs.Grammar.{grammar_gives, grammar_roles}
use Rattle.scenario_keywords.proofs.role.word_role.Goals as goal

pub returns-clause-line : goal.returns-clause-line
returns-clause-line c = rw c.table_role.ensures (grammar_roles c.args.word)

pub returns-clause-value : goal.returns-clause-value
returns-clause-value c = rw c.table_role.ensures (grammar_gives c.args.word)
