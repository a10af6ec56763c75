use Rattle.scenario_lines.proofs.Whole.{phrase_end, phrase_long, phrase_refused}
use Rattle.scenario_lines.proofs.phrase.read_phrase.Goals as goal

pub returns-in-Err : goal.returns-in-Err
returns-in-Err c = phrase_refused c.args.tokens.now c.is_given_line.result c.new-cursor.result c.read_line.result c.in-Err.refusal c.read_line.new.cursor c.is_given_line.ensures c.new-cursor.ensures c.read_line.ensures c.in-Err.ensures

pub returns-then-is_empty : goal.returns-then-is_empty
returns-then-is_empty c = phrase_end c.args.tokens.now c.is_given_line.result c.new-cursor.result c.read_line.result c.in-Ok.phrase c.read_line.new.cursor c.is_given_line.ensures c.new-cursor.ensures c.read_line.ensures c.in-Ok.ensures (c.is_empty.ensures.0 c.if-is_empty.true)

pub returns-else-is_empty : goal.returns-else-is_empty
returns-else-is_empty c = phrase_long c.args.tokens.now c.is_given_line.result c.new-cursor.result c.read_line.result c.in-Ok.phrase c.read_line.new.cursor c.is_given_line.ensures c.new-cursor.ensures c.read_line.ensures c.in-Ok.ensures
    (λ q. let t = c.is_empty.ensures.1 q in let f = c.if-is_empty.false in cc)
