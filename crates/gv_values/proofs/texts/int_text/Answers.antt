use Rattle.std.proofs.Common.{rules, ap, ◌∙◌, ◌<◌, ◌^◌}
use Rattle.std.specs.Fmt.{signed_decimal}
use Rattle.std.specs.Int.Signed.{mag}
use Rattle.std.proofs.Math.Facts.{to_z-of_z}
use Rattle.gv_values.proofs.Decimals.{printed_int, appended_text}
use Rattle.gv_values.proofs.texts.int_text.Goals as goal

pub returns-clause-ok : goal.returns-clause-ok
returns-clause-ok c =
    let small : mag c.args.integer < 2 ^ 63 = search rules in
    appended_text c.extend_from_slice.result _ _ _ _
    (c.as_bytes.ensures.value ∙ c.format.ensures.text ∙ ap signed_decimal (to_z-of_z c.ranges.integer) ∙ printed_int c.args.integer small)
    c.extend_from_slice.ensures.items
