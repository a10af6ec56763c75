use Rattle.std.proofs.Common.{Some, sym, ap, ◌∙◌, arith}
use Rattle.scenario_lines.proofs.Spaced.{word_next, word_missing, word_last, word_end}
use Rattle.scenario_lines.proofs.layout.line_tokens.Goals as goal

pub returns-then-at-eq0 : goal.returns-then-at-eq0
returns-then-at-eq0 c =
    sym (word_missing c.args.profile c.loop-at.tokens c.loop-at.rest.now (sym c.in-Some.ensures.value ∙ ap Some c.if-at-eq0.true)) ∙ c.loop-at.invariant

pub loop-at-preserved : goal.loop-at-preserved
loop-at-preserved c =
    rw (c.in_ok-push.ensures.ok, c.read_token.ensures, c.cut_at.ensures.front, c.cut_at.ensures.rest)
    (word_next c.args.profile c.loop-at.tokens c.loop-at.rest.now c.in-Some.at (sym c.in-Some.ensures.value) (omega arith) ∙ c.loop-at.invariant)

pub returns-then-is_empty : goal.returns-then-is_empty
returns-then-is_empty c = sym (word_end c.args.profile c.loop-at.tokens c.loop-at.rest.now (sym c.if-is_empty.ensures)) ∙ c.loop-at.invariant

pub returns : goal.returns
returns c =
    rw (c.in_ok-push-2.ensures.ok, c.read_token-2.ensures)
    (sym (word_last c.args.profile c.loop-at.tokens c.loop-at.rest.now (sym c.in_default.ensures.value) (sym c.if-is_empty.ensures)) ∙ c.loop-at.invariant)
