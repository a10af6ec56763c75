use Rattle.std.proofs.Common.{arith, refl}
use Rattle.gv_top.proofs.Checking.{unverified_decided, unverified_explained, unverified_fits, unverified_status, verified_decided, verified_fits}
use Rattle.gv_top.proofs.Tops.{uncounted}
use Rattle.gv_top.proofs.verifying.check_bytes.Goals as goal

pub returns-in-Ok-clause-answer : goal.returns-in-Ok-clause-answer
returns-in-Ok-clause-answer g c = λ a of. verified_decided c.args.check c.args.bytes.now c.in-Ok.lines _ a _ _ c.in-Ok.ensures.only c.write_verified.ensures.answer of

pub returns-in-Ok-clause-checked : goal.returns-in-Ok-clause-checked
returns-in-Ok-clause-checked g c = λ h5 h7. verified_fits c.args.check c.args.bytes.now c.in-Ok.lines _ _ _ c.in-Ok.ensures.said (c.write_verified.ensures.whole h5 h7)

pub returns-in-Err-clause-answer : goal.returns-in-Err-clause-answer
returns-in-Err-clause-answer g c = λ a of. unverified_decided c.args.check c.args.bytes.now c.in-Err.refusal _ a _ c.verdict_of_check.ensures c.in-Err.ensures.only of

pub returns-in-Err-clause-checked : goal.returns-in-Err-clause-checked
returns-in-Err-clause-checked g c = λ h5 h7. unverified_fits c.args.check c.args.bytes.now c.in-Err.refusal _ _ c.verdict_of_check.ensures c.in-Err.ensures.said h7

pub returns-in-Err-clause-explained : goal.returns-in-Err-clause-explained
returns-in-Err-clause-explained g c = unverified_explained c.in-Err.refusal _ c.verdict_of_check.ensures c.in-Err.ensures.reason

pub returns-in-Err-clause-command : goal.returns-in-Err-clause-command
returns-in-Err-clause-command g c = λ h. unverified_status c.in-Err.refusal _ 2 c.verdict_of_check.ensures h (λ e. omega arith) (λ e. omega arith) (λ e. omega arith)

pub returns-in-Err-clause-read : goal.returns-in-Err-clause-read
returns-in-Err-clause-read g c = λ h. unverified_status c.in-Err.refusal _ 4 c.verdict_of_check.ensures h (λ e. omega arith) (λ e. omega arith) (λ e. omega arith)

pub returns-in-Err-clause-no_net : goal.returns-in-Err-clause-no_net
returns-in-Err-clause-no_net g c = λ h. unverified_status c.in-Err.refusal _ 10 c.verdict_of_check.ensures h (λ e. omega arith) (λ e. omega arith) (λ e. omega arith)

pub returns-in-Err-clause-writes : goal.returns-in-Err-clause-writes
returns-in-Err-clause-writes g c = uncounted _ _ _ (λ h. unverified_status c.in-Err.refusal _ 5 c.verdict_of_check.ensures h (λ e. omega arith) (λ e. omega arith) (λ e. omega arith)) refl
