use Rattle.gv_values.specs.declared.fault.FaultKind.{FaultKind}
use Rattle.machine_soundness.proofs.Deliveries.{begins-soundly, deliver-soundly, interrupts-soundly, take_answer-kept}
use Rattle.machine_soundness.proofs.Performs.{move-soundly}
use Rattle.machine_soundness.proofs.steps_stay_sound.Goals as goal

pub returns-clause-started : goal.returns-clause-started
returns-clause-started c = begins-soundly

pub returns-clause-moved : goal.returns-clause-moved
returns-clause-moved c = move-soundly

pub returns-clause-delivered : goal.returns-clause-delivered
returns-clause-delivered c = deliver-soundly

pub returns-clause-exited : goal.returns-clause-exited
returns-clause-exited c s h = interrupts-soundly 0 FaultKind.LoopExit s h.main h

pub returns-clause-answered : goal.returns-clause-answered
returns-clause-answered c = take_answer-kept
