use Rattle.std.proofs.Common.{◌≡◌, ◌<◌, ◌*◌, ◌+◌, ◌^◌, ◌∙◌, sym, arith, ℕ, true, add-one, get_or}
use Rattle.std.proofs.Math.Nat.{pow-suc}
use Rattle.std.specs.Char.{is_ascii_digit}
use Rattle.std.proofs.lemmas.Int.Digits.{digits_value_more}
use Rattle.http_messages.proofs.JudgeLaws.{digit_is, below_limit, digits_more}
use Rattle.http_messages.proofs.judge.parse_length.Goals as goal

ten_times : (v d i : ℕ) → v < 10 ^ i → d < 10 → v * 10 + d < 10 ^ (i + 1)
ten_times v d i small digit =
    let next : 10 ^ (i + 1) ≡ 10 ^ i * 10 = rw add-one (pow-suc 10 i) in
    rw next (omega arith)

pub overflow_mul-value : goal.overflow_mul-value
overflow_mul-value c = omega (arith, below_limit c.loop-digit.value c.loop-digit.digit-index c.loop-digit.invariant.small (omega arith))

pub overflow_add-value : goal.overflow_add-value
overflow_add-value c = omega (arith, below_limit c.loop-digit.value c.loop-digit.digit-index c.loop-digit.invariant.small (omega arith))

pub loop-digit-preserved : goal.loop-digit-preserved
loop-digit-preserved c =
    let b = get_or c.args.digits.now c.loop-digit.digit-index 0 in
    let is_digit : is_ascii_digit b ≡ true = sym c.is_ascii_digit.ensures.value ∙ c.if-not-is_ascii_digit.false in
    let d = digit_is b is_digit in
    record {
      digits = digits_more c.args.digits.now c.loop-digit.digit-index c.loop-digit-test.true c.loop-digit.invariant.digits is_digit;
      is =
          (λ i. c.loop-digit.invariant.is i * 10 + (c.from.ensures ∙ d.0) i)
          ∙ sym (digits_value_more 10 c.args.digits.now c.loop-digit.digit-index c.loop-digit-test.true);
      small = ten_times c.loop-digit.value c.from.result c.loop-digit.digit-index c.loop-digit.invariant.small (omega arith);
    }
