use Rattle.std.proofs.Common.{◌∙◌, sym}
use Rattle.body_frames.proofs.Catches.{catches_at, passes_at}
use Rattle.body_frames.proofs.unwind.catching.Goals as goal

pub returns-then-catches : goal.returns-then-catches
returns-then-catches c = λ t.
    catches_at t c.args.f c.args.excepts.now c.loop-except.except-index _ c.loop-except-test.true (sym c.catches.ensures ∙ c.if-catches.true) (c.loop-except.invariant t)

pub loop-except-preserved : goal.loop-except-preserved
loop-except-preserved c = λ t.
    passes_at t c.args.f c.args.excepts.now c.loop-except.except-index _ c.loop-except-test.true (sym c.catches.ensures ∙ c.if-catches.false) (c.loop-except.invariant t)
