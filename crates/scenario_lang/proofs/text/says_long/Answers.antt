use Rattle.std.proofs.Common.{◌≡◌, codes, nat_eq, ap, sym, ◌∙◌}
use Rattle.std.specs.Cmp.Lexicographic.{pointwise}
use Rattle.scenario_lang.proofs.LongTexts.{none_said, said_behind, said_here}
use Rattle.scenario_lang.proofs.text.says_long.Goals as goal

pub returns-then-carries_words : goal.returns-then-carries_words
returns-then-carries_words c =
    c.eq.ensures
    ∙ ap (λ d. pointwise nat_eq c.skip_blanks-words.result.now d) c.as_slice.ensures
    ∙ ap (λ d. pointwise nat_eq d (codes "profile 3"))
    (sym (said_here c.args.bytes.now c.loop-at.rest.now c.cut_at.result.0.now c.skip_blanks-words.result.now c.in-Some.at c.loop-at.invariant (sym c.in-Some.ensures.value) c.cut_at.ensures.front c.skip_blanks-words.ensures
    (sym c.carries_words.ensures ∙ c.if-carries_words.true)))

pub loop-at-preserved : goal.loop-at-preserved
loop-at-preserved c =
    said_behind c.args.bytes.now c.loop-at.rest.now c.cut_at.result.0.now c.skip_blanks-words.result.now c.cut_at.result.1.now c.in-Some.at c.loop-at.invariant (sym c.in-Some.ensures.value) c.cut_at.ensures.front c.skip_blanks-words.ensures
    (sym c.carries_words.ensures ∙ c.if-carries_words.false) c.cut_at.ensures.rest

pub returns : goal.returns
returns c = sym (ap (λ d. pointwise nat_eq d (codes "profile 3")) (sym c.loop-at.invariant ∙ none_said c.loop-at.rest.now (sym c.in_default.ensures.value)))
