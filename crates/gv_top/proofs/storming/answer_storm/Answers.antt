use Rattle.std.proofs.Common.{arith, ◌∙◌}
use Rattle.gv_io.proofs.StreamLaws.{AppendsPrefix-nothing}
use Rattle.gv_top.proofs.Handing.{run_hands}
use Rattle.gv_top.proofs.Storms.{storm_decided, storm_unread}
use Rattle.gv_top.proofs.Tops.{run_counts, run_explained, run_status}
use Rattle.gv_top.proofs.storming.answer_storm.Goals as goal

pub returns-in_default-clause-answer : goal.returns-in_default-clause-answer
returns-in_default-clause-answer g c = λ a of. AppendsPrefix-nothing _ _

pub returns-in-Err-clause-answer : goal.returns-in-Err-clause-answer
returns-in-Err-clause-answer g c = storm_unread c.args.size c.as_slice.result.now c.in-Err.refusal _ _ (c.as_slice.ensures.value ∙ c.in-Ok.ensures) c.verdict_of_text.ensures c.in-Err.ensures.judged

pub returns-clause-answer : goal.returns-clause-answer
returns-clause-answer g c =
    storm_decided c.args.size c.in-Ok-read_scenario.checked c.as_slice.result.now c.sum_up.result c.verdict_of_run.result (g.K.Sink.written c.args.out.now) (g.K.Sink.written c.sum_up.new.out)
    (c.as_slice.ensures.value ∙ c.in-Ok.ensures) c.in-Ok-read_scenario.ensures.judged c.verdict_of_run.ensures c.sum_up.ensures.answer

pub returns-clause-writes : goal.returns-clause-writes
returns-clause-writes g c = run_counts c.sum_up.result _ _ _ c.verdict_of_run.ensures c.sum_up.ensures.counts

pub returns-clause-hands : goal.returns-clause-hands
returns-clause-hands g c = run_hands c.sum_up.result _ _ _ _ _ c.verdict_of_run.ensures c.sum_up.ensures.hands

pub returns-clause-command : goal.returns-clause-command
returns-clause-command g c = λ h. run_status c.sum_up.result _ 2 c.verdict_of_run.ensures h (λ e. omega arith) (λ e. omega arith) (λ e. omega arith) (λ e. omega arith) (λ e. omega arith) (λ e. omega arith)

pub returns-clause-read : goal.returns-clause-read
returns-clause-read g c = λ h. run_status c.sum_up.result _ 4 c.verdict_of_run.ensures h (λ e. omega arith) (λ e. omega arith) (λ e. omega arith) (λ e. omega arith) (λ e. omega arith) (λ e. omega arith)

pub returns-clause-no_net : goal.returns-clause-no_net
returns-clause-no_net g c = λ h. run_status c.sum_up.result _ 10 c.verdict_of_run.ensures h (λ e. omega arith) (λ e. omega arith) (λ e. omega arith) (λ e. omega arith) (λ e. omega arith) (λ e. omega arith)

pub returns-clause-explained : goal.returns-clause-explained
returns-clause-explained g c = run_explained c.sum_up.result _ c.verdict_of_run.ensures
