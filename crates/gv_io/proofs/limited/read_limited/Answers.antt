use Rattle.std.proofs.Common.{◌∙◌, ◌≤◌, ◌+◌, length, arith}
use Rattle.gv_io.proofs.LimitLaws.{taken-first}
use Rattle.gv_io.proofs.limited.read_limited.Goals as goal

pub returns-then-branch-eq0-clause-first : goal.returns-then-branch-eq0-clause-first
returns-then-branch-eq0-clause-first g c =
    let fits : length c.read_piece.new.bytes.items ≤ c.args.limit + 1 = grind arith in
    taken-first _ _ _ c.args.limit (c.loop-bytes.invariant.read ∙ c.in_ok-read_piece.ensures.next) fits
    (λ _. c.in_ok-read_piece.ensures.end c.if-branch-eq0.true)

pub returns-clause-first : goal.returns-clause-first
returns-clause-first g c =
    taken-first _ _ _ c.args.limit c.loop-bytes.invariant.read c.loop-bytes.invariant.fits (λ few. absurd (omega (arith, few, c.loop-bytes-test.false)))
