use Rattle.std.proofs.Common.{sym, subst, drop}
use Rattle.trace_laws.specs.Reads.{HasRead}
use Rattle.trace_laws.proofs.Feeds.{read_other, read_turn}
use Rattle.trace_laws.proofs.reading.named_answers.Goals as goal

pub loop-answers-preserved-in-Turn : goal.loop-answers-preserved-in-Turn
loop-answers-preserved-in-Turn c =
    let h =
    read_turn c.args.trace.now c.loop-answers.rest.now c.loop-answers.answers.items c.in_ok-first_line.field-0 c.in-Turn.answer c.in-Turn.next c.loop-answers.invariant c.in_ok-first_line.ensures
    c.in-Turn.is in
    subst (λ rest. HasRead c.args.trace.now rest c.push.new.self.items) (sym c.after-rest.ensures)
    (subst (HasRead c.args.trace.now (drop c.in-Turn.next c.loop-answers.rest.now)) (sym c.in_ok-push-in-Turn.ensures.items) h)

pub loop-answers-preserved : goal.loop-answers-preserved
loop-answers-preserved c =
    subst (λ rest. HasRead c.args.trace.now rest c.loop-answers.answers.items) (sym c.after-rest-in-Other.ensures)
    (read_other c.args.trace.now c.loop-answers.rest.now c.loop-answers.answers.items c.in_ok-first_line.field-0 c.in-Other.next c.loop-answers.invariant c.in_ok-first_line.ensures c.in-Other.is)
