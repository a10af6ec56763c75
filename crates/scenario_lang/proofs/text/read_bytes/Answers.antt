use Rattle.std.proofs.Common.{◌≡◌, ◌<◌, ◌≤◌, length, ap, subst, ◌∙◌, arith}
use Rattle.scenario_grammar.specs.Layout.{most_of}
use Rattle.scenario_grammar.specs.declared.limits.TheConstants.{MOST_TEXT}
use Rattle.scenario_grammar.proofs.LongForms.{within_short}
use Rattle.scenario_lang.proofs.LongTexts.{taken_whole}
use Rattle.scenario_lang.proofs.Scan.{outcome_all, too_long_by}
use Rattle.scenario_lang.proofs.text.read_bytes.Goals as goal

pub returns-then-bytes-le-MOST_TEXT : goal.returns-then-bytes-le-MOST_TEXT
returns-then-bytes-le-MOST_TEXT c = rw (outcome_all c.args.bytes.now (within_short c.args.bytes.now c.if-bytes-le-MOST_TEXT.true)) c.read_text.ensures

pub slice_bounds-says_long-end : goal.slice_bounds-says_long-end
slice_bounds-says_long-end c = let more = c.if-bytes-le-MOST_TEXT.false in taken_whole MOST_TEXT c.args.bytes.now (omega (arith, more))

pub returns-then-bytes-most : goal.returns-then-bytes-most
returns-then-bytes-most c =
    rw c.refused.ensures
    (too_long_by c.args.bytes.now c.line_behind.result c.most_of-most.result c.says_long-long.result c.too_large.result c.most_of-most.ensures.value c.says_long-long.ensures c.if-bytes-most.true c.line_behind.ensures
    c.too_large.ensures)

pub returns : goal.returns
returns c =
    let within = subst (λ n. length c.args.bytes.now ≤ n) (c.most_of-most.ensures.value ∙ ap most_of c.says_long-long.ensures) c.if-bytes-most.false in
    rw (outcome_all c.args.bytes.now within) c.read_text-2.ensures
