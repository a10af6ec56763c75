use Rattle.std.proofs.Common.{sym, ap, ◌∙◌, arith}
use Rattle.gv_values.specs.Digits.{is_plain_number}
use Rattle.command_words.proofs.Spelled.{refused}
use Rattle.command_words.proofs.numbers.number_in.Goals as goal

pub returns-in-Err : goal.returns-in-Err
returns-in-Err c =
    refused c.args.least c.args.most c.args.text.now c.parse.result _ c.in-Err.is (omega (arith, c.ranges.most.fits))
    (sym (c.is_plain_number.ensures ∙ ap is_plain_number c.as_bytes.ensures.value) ∙ c.if-not-is_plain_number.false) c.parse.ensures.value.0
