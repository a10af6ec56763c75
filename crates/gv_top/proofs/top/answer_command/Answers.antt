use Rattle.std.proofs.Common.{◌≡◌, ◌∙◌, Some, ap, arith, refl}
use Rattle.gv_top.specs.declared.words.OfflineCommand.{OfflineCommand}
use Rattle.gv_top.proofs.Checking.{check_is_no_storm, check_is_no_text, text_is_no_check}
use Rattle.gv_top.proofs.Deciding.{answer_as, connection_decided, decided_as, no_command, of_connection, text_decided, text_is_no_connection, usage_decided}
use Rattle.gv_top.proofs.Tops.{connection_explained, connection_reads, connection_status, connection_writes, left_alone}
use Rattle.gv_top.proofs.Handing.{command_began, connection_hands, none_began}
use Rattle.gv_top.proofs.InWorlds.{text_ran}
use Rattle.gv_top.proofs.Storms.{text_is_no_storm}
use Rattle.gv_top.proofs.top.answer_command.Goals as goal

pub returns-in-None-clause-answer : goal.returns-in-None-clause-answer
returns-in-None-clause-answer g c = λ left a told of. usage_decided _ _ _ left a _ c.in-None.is of

pub returns-in-Some-Text-clause-answer : goal.returns-in-Some-Text-clause-answer
returns-in-Some-Text-clause-answer g c = λ left a told of.
    let inner : c.in-Some-Text.field-0 ≡ OfflineCommand.Text c.in-Some-Text.command = (rw c.in-Some-Text.is at c.in-Some-Text.field-0-is) in
    let named : c.args.command ≡ Some (OfflineCommand.Text c.in-Some-Text.command) = c.in-Some-Text.is ∙ ap (λ (x : OfflineCommand). Some x) inner in
    text_decided _ _ c.in-Some-Text.command _ left a _ _ _ named (c.answer_input.ensures.answer left told) of

pub returns-in-None-clause-read_whole : goal.returns-in-None-clause-read_whole
returns-in-None-clause-read_whole g c = λ text runs left told h4 h7. no_command _ _ _ c.in-None.is runs

pub returns-in-Some-Text-clause-ran : goal.returns-in-Some-Text-clause-ran
returns-in-Some-Text-clause-ran g c = λ text e.
    text_ran c.in-Some-Text.command text _ _ _ _ _ _ (rw e at c.in-Some-Text.field-0-is) c.answer_input.ensures.ran

pub returns-in-Some-Storm-clause-read_whole : goal.returns-in-Some-Storm-clause-read_whole
returns-in-Some-Storm-clause-read_whole g c = λ text runs left told h4 h7. absurd (text_is_no_storm text c.in-Some-Storm.size (rw runs at c.in-Some-Storm.field-0-is))

pub returns-in-None-clause-left_alone : goal.returns-in-None-clause-left_alone
returns-in-None-clause-left_alone g c = left_alone _ _ _ _ refl

pub returns-in-Some-Wsgi-clause-left_alone : goal.returns-in-Some-Wsgi-clause-left_alone
returns-in-Some-Wsgi-clause-left_alone g c = left_alone _ _ _ _ refl

pub returns-in-Some-Storm-clause-left_alone : goal.returns-in-Some-Storm-clause-left_alone
returns-in-Some-Storm-clause-left_alone g c = left_alone _ _ _ _ refl

pub returns-in-Some-Wsgi-clause-reads : goal.returns-in-Some-Wsgi-clause-reads
returns-in-Some-Wsgi-clause-reads g c = connection_reads c.answer_through.result _ _ _ c.verdict_of_connection.ensures c.answer_through.ensures.reads

pub returns-in-Some-Wsgi-clause-writes : goal.returns-in-Some-Wsgi-clause-writes
returns-in-Some-Wsgi-clause-writes g c = connection_writes c.answer_through.result _ _ _ c.verdict_of_connection.ensures c.answer_through.ensures.writes

pub returns-in-None-clause-began : goal.returns-in-None-clause-began
returns-in-None-clause-began g c = λ text e left told. none_began _ _ _ _ _ _ _

pub returns-in-Some-Text-clause-began : goal.returns-in-Some-Text-clause-began
returns-in-Some-Text-clause-began g c = λ text e left told.
    command_began _ c.in-Some-Text.command text _ _ _ _ _ _ _ _ (rw e at c.in-Some-Text.field-0-is) (c.answer_input.ensures.began left told)

pub returns-in-Some-Wsgi-clause-began : goal.returns-in-Some-Wsgi-clause-began
returns-in-Some-Wsgi-clause-began g c = λ text e left told. absurd (text_is_no_connection text c.in-Some-Wsgi.gateway (rw e at c.in-Some-Wsgi.field-0-is))

pub returns-in-Some-Storm-clause-began : goal.returns-in-Some-Storm-clause-began
returns-in-Some-Storm-clause-began g c = λ text e left told. absurd (text_is_no_storm text c.in-Some-Storm.size (rw e at c.in-Some-Storm.field-0-is))

pub returns-in-Some-Wsgi-clause-hands : goal.returns-in-Some-Wsgi-clause-hands
returns-in-Some-Wsgi-clause-hands g c = connection_hands c.answer_through.result _ _ _ _ _ c.verdict_of_connection.ensures c.answer_through.ensures.handed

pub returns-in-Some-Verify-clause-left_alone : goal.returns-in-Some-Verify-clause-left_alone
returns-in-Some-Verify-clause-left_alone g c = left_alone _ _ _ _ refl

pub returns-in-Some-Verify-clause-began : goal.returns-in-Some-Verify-clause-began
returns-in-Some-Verify-clause-began g c = λ text e left told. absurd (text_is_no_check text c.in-Some-Verify.check (rw e at c.in-Some-Verify.field-0-is))

pub returns-in-None-clause-read_trace : goal.returns-in-None-clause-read_trace
returns-in-None-clause-read_trace g c = λ check is left told h4 h7. no_command _ _ _ c.in-None.is is

pub returns-in-Some-Text-clause-read_trace : goal.returns-in-Some-Text-clause-read_trace
returns-in-Some-Text-clause-read_trace g c = λ check is left told h4 h7. absurd (check_is_no_text check c.in-Some-Text.command (rw is at c.in-Some-Text.field-0-is))

pub returns-in-Some-Storm-clause-read_trace : goal.returns-in-Some-Storm-clause-read_trace
returns-in-Some-Storm-clause-read_trace g c = λ check is left told h4 h7. absurd (check_is_no_storm check c.in-Some-Storm.size (rw is at c.in-Some-Storm.field-0-is))

pub returns-in-Some-Verify-clause-read_whole : goal.returns-in-Some-Verify-clause-read_whole
returns-in-Some-Verify-clause-read_whole g c = λ text runs left told h4 h7. absurd (text_is_no_check text c.in-Some-Verify.check (rw runs at c.in-Some-Verify.field-0-is))

pub returns-in-Some-Wsgi-clause-answer : goal.returns-in-Some-Wsgi-clause-answer
returns-in-Some-Wsgi-clause-answer g c = λ left a told of.
    let inner : c.in-Some-Wsgi.field-0 ≡ OfflineCommand.Wsgi c.in-Some-Wsgi.gateway = (rw c.in-Some-Wsgi.is at c.in-Some-Wsgi.field-0-is) in
    let named : c.args.command ≡ Some (OfflineCommand.Wsgi c.in-Some-Wsgi.gateway) = c.in-Some-Wsgi.is ∙ ap (λ (x : OfflineCommand). Some x) inner in
    decided_as _ a _ _ _ (answer_as _ _ (Some (OfflineCommand.Wsgi c.in-Some-Wsgi.gateway)) _ left a named of)
    (connection_decided c.answer_through.result _ _ _ _ c.verdict_of_connection.ensures (c.answer_through.ensures.whole left told))

pub returns-in-Some-Wsgi-clause-usage : goal.returns-in-Some-Wsgi-clause-usage
returns-in-Some-Wsgi-clause-usage g c = λ h. absurd (connection_status c.answer_through.result _ 2 c.verdict_of_connection.ensures h (λ e. omega arith) (λ e. omega arith) (λ e. omega arith) (λ e. omega arith) (λ e. omega arith))

pub returns-in-Some-Wsgi-clause-no_net : goal.returns-in-Some-Wsgi-clause-no_net
returns-in-Some-Wsgi-clause-no_net g c = λ h. connection_status c.answer_through.result _ 10 c.verdict_of_connection.ensures h (λ e. omega arith) (λ e. omega arith) (λ e. omega arith) (λ e. omega arith) (λ e. omega arith)

pub returns-in-Some-Wsgi-clause-connection : goal.returns-in-Some-Wsgi-clause-connection
returns-in-Some-Wsgi-clause-connection g c = λ gateway named.
    of_connection c.answer_through.result _ c.in-Some-Wsgi.gateway gateway _ _ _ _ _ c.verdict_of_connection.ensures (rw named at c.in-Some-Wsgi.field-0-is) c.answer_through.ensures.exchanged

pub returns-in-Some-Wsgi-clause-explained : goal.returns-in-Some-Wsgi-clause-explained
returns-in-Some-Wsgi-clause-explained g c = connection_explained c.answer_through.result _ c.verdict_of_connection.ensures
