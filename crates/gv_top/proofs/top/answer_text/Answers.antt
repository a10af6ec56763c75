use Rattle.std.proofs.Common.{arith, refl}
use Rattle.gv_top.proofs.Deciding.{judged_decided, refusal_decided, refusal_explained, refusal_number}
use Rattle.gv_top.proofs.Handing.{none_began, text_began}
use Rattle.gv_top.proofs.InWorlds.{judged_ran, refused_runs_nothing}
use Rattle.gv_top.proofs.ReadTexts.{none_judged}
use Rattle.gv_top.proofs.Tops.{nothing_lawful, uncounted}
use Rattle.gv_top.proofs.top.answer_text.Goals as goal

pub returns-in-Err-clause-answer : goal.returns-in-Err-clause-answer
returns-in-Err-clause-answer g c = refusal_decided c.args.command _ c.args.bytes.now _ _ _ c.verdict_of_text.ensures c.in-Err.ensures.judged

pub returns-in-Err-clause-command : goal.returns-in-Err-clause-command
returns-in-Err-clause-command g c = λ h. refusal_number _ _ 2 c.verdict_of_text.ensures h (λ e. omega arith) (λ e. omega arith)

pub returns-in-Err-clause-read : goal.returns-in-Err-clause-read
returns-in-Err-clause-read g c = λ h. refusal_number _ _ 4 c.verdict_of_text.ensures h (λ e. omega arith) (λ e. omega arith)

pub returns-in-Err-clause-explained : goal.returns-in-Err-clause-explained
returns-in-Err-clause-explained g c = refusal_explained _ _ c.verdict_of_text.ensures c.in-Err.ensures.reason

pub returns-in-Err-clause-writes : goal.returns-in-Err-clause-writes
returns-in-Err-clause-writes g c = uncounted _ _ _ (λ h. refusal_number _ _ 5 c.verdict_of_text.ensures h (λ e. omega arith) (λ e. omega arith)) refl

pub returns-in-Ok-clause-answer : goal.returns-in-Ok-clause-answer
returns-in-Ok-clause-answer g c = judged_decided c.args.command _ c.args.bytes.now _ _ _ _ c.in-Ok.ensures.judged c.answer_scenario.ensures.answer

pub returns-in-Err-clause-ran : goal.returns-in-Err-clause-ran
returns-in-Err-clause-ran g c = refused_runs_nothing _ _ c.args.command c.args.bytes.now _ _ _ c.verdict_of_text.ensures c.in-Err.ensures.judged

pub returns-in-Err-clause-lawful : goal.returns-in-Err-clause-lawful
returns-in-Err-clause-lawful g c = λ options e. nothing_lawful _ _

pub returns-in-Ok-clause-ran : goal.returns-in-Ok-clause-ran
returns-in-Ok-clause-ran g c = judged_ran _ c.args.command c.args.bytes.now _ _ _ _ _ c.in-Ok.ensures.judged c.answer_scenario.ensures.ran

pub returns-in-Ok-clause-refused : goal.returns-in-Ok-clause-refused
returns-in-Ok-clause-refused g c = λ e. absurd (c.answer_scenario.ensures.unrefused e)

pub returns-in-Ok-clause-unspelt : goal.returns-in-Ok-clause-unspelt
returns-in-Ok-clause-unspelt g c = λ none. absurd (none_judged c.args.bytes.now none _ c.in-Ok.ensures.judged)

pub returns-in-Err-clause-began : goal.returns-in-Err-clause-began
returns-in-Err-clause-began g c = none_began _ _ _ _ _ _ _

pub returns-in-Ok-clause-began : goal.returns-in-Ok-clause-began
returns-in-Ok-clause-began g c = text_began _ c.args.command c.args.bytes.now _ _ _ _ _ _ _ _ c.in-Ok.ensures.judged c.answer_scenario.ensures.began
