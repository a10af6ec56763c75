use Rattle.std.proofs.Common.{◌≡◌, Some, ap, sym, ◌∙◌}
use Rattle.scenario_grammar.specs.Parsed.{read_words}
use Rattle.scenario_lang.specs.Lines.{line_text}
use Rattle.scenario_lang.specs.Builders.{building}
use Rattle.scenario_lang.proofs.Carried.{idle, spaced_line, takes_at, unspaced_line}
use Rattle.scenario_lang.proofs.text.take_line.Goals as goal

pub returns-then-not-carries_words : goal.returns-then-not-carries_words
returns-then-not-carries_words c = idle (building c.args.builder.now) c.args.line c.args.text.now c.skip_blanks-words.result.now c.skip_blanks-words.ensures (sym c.carries_words.ensures ∙ c.if-not-carries_words.true)

pub returns-in-None : goal.returns-in-None
returns-in-None c = unspaced_line (building c.args.builder.now) c.args.line c.args.text.now c.skip_blanks-words.result.now c.skip_blanks-words.ensures (sym c.carries_words.ensures ∙ c.if-not-carries_words.false) (sym c.in-None.is ∙ c.in_ok-line_tokens.ensures)

pub returns-in-Some : goal.returns-in-Some
returns-in-Some c =
    takes_at (line_text (building c.args.builder.now) c.args.line c.args.text.now) (read_words (building c.args.builder.now) c.args.line c.as_slice.result.now) c.take_words.result c.take_words.new.builder
    (spaced_line (building c.args.builder.now) c.args.line c.args.text.now c.skip_blanks-words.result.now c.as_slice.result.now c.skip_blanks-words.ensures (sym c.carries_words.ensures ∙ c.if-not-carries_words.false) (ap Some c.as_slice.ensures ∙ sym c.in-Some.is ∙ c.in_ok-line_tokens.ensures))
    c.take_words.ensures
