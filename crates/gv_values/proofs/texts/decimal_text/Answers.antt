use Rattle.std.proofs.Common.{rules, ◌∙◌}
use Rattle.gv_values.proofs.Decimals.{printed_decimal, appended_text}
use Rattle.gv_values.proofs.texts.decimal_text.Goals as goal

pub returns-clause-ok : goal.returns-clause-ok
returns-clause-ok c =
    appended_text c.extend_from_slice.result _ _ _ _
    (c.as_bytes.ensures.value ∙ c.format.ensures.text ∙ printed_decimal c.args.number c.ranges.number.fits)
    c.extend_from_slice.ensures.items
