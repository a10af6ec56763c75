use Rattle.scenario_grammar.specs.declared.limits.TheConstants.{MOST_MS}
use Rattle.scenario_print.proofs.Words.{broken_line, further, line, through}
use Rattle.scenario_print.proofs.command.push_command.Goals as goal

pub returns-in-Print : goal.returns-in-Print
returns-in-Print c = rw c.in-Print.is (line c.start_expression.ensures)

pub returns-in-Let : goal.returns-in-Let
returns-in-Let c = rw c.in-Let.is (line c.start_name_expression.ensures)

pub returns-in-Return : goal.returns-in-Return
returns-in-Return c = rw c.in-Return.is (line c.start_expression-in-Return.ensures)

pub returns-in-Raise : goal.returns-in-Raise
returns-in-Raise c = rw c.in-Raise.is (line c.start_expression-in-Raise.ensures)

pub returns-in-Start : goal.returns-in-Start
returns-in-Start c = rw c.in-Start.is (line c.start_expression-in-Start.ensures)

pub returns-in-Sleep : goal.returns-in-Sleep
returns-in-Sleep c = rw c.in-Sleep.is (line (c.start_number.ensures.words 0 MOST_MS))

pub returns-in_ok-start_expression-in-Join : goal.returns-in_ok-start_expression-in-Join
returns-in_ok-start_expression-in-Join c = rw c.in-Join.is (line (further c.in_ok-start_expression-in-Join.ensures c.push_timed.ensures))

pub returns-in-Kill : goal.returns-in-Kill
returns-in-Kill c = rw c.in-Kill.is (line c.start_kill.ensures)

pub returns-in-KillAll : goal.returns-in-KillAll
returns-in-KillAll c = rw c.in-KillAll.is (line c.start_kill-in-KillAll.ensures)

pub returns-in-Unlink : goal.returns-in-Unlink
returns-in-Unlink c = rw c.in-Unlink.is (line c.start_expression-in-Unlink.ensures)

pub returns-in-Set : goal.returns-in-Set
returns-in-Set c = rw c.in-Set.is (line c.start_name.ensures)

pub returns-in-Clear : goal.returns-in-Clear
returns-in-Clear c = rw c.in-Clear.is (line c.start_name-in-Clear.ensures)

pub returns-in-ResultSet : goal.returns-in-ResultSet
returns-in-ResultSet c = rw c.in-ResultSet.is (line c.start_name_expression-in-ResultSet.ensures)

pub returns-in-ResultFail : goal.returns-in-ResultFail
returns-in-ResultFail c = rw c.in-ResultFail.is (line c.start_name_expression-in-ResultFail.ensures)

pub returns-in-Release : goal.returns-in-Release
returns-in-Release c = rw c.in-Release.is (line c.start_name-in-Release.ensures)

pub returns-in_ok-start_name_expression-in-QueuePut : goal.returns-in_ok-start_name_expression-in-QueuePut
returns-in_ok-start_name_expression-in-QueuePut c = rw c.in-QueuePut.is (line (further c.in_ok-start_name_expression-in-QueuePut.ensures c.push_wait.ensures))

pub returns-in-QueueDone : goal.returns-in-QueueDone
returns-in-QueueDone c = rw c.in-QueueDone.is (line c.start_name-in-QueueDone.ensures)

pub returns-in-GroupJoin : goal.returns-in-GroupJoin
returns-in-GroupJoin c = rw c.in-GroupJoin.is (line c.start_name_timed.ensures)

pub returns-in_ok-push_marked-in-GroupKill : goal.returns-in_ok-push_marked-in-GroupKill
returns-in_ok-push_marked-in-GroupKill c = rw c.in-GroupKill.is (line (further (further c.in_ok-start_name-in-GroupKill.ensures c.in_ok-push_marked-in-GroupKill.ensures) c.push_flag.ensures))

pub returns-in-SetParent : goal.returns-in-SetParent
returns-in-SetParent c = rw c.in-SetParent.is (line c.start_expressions.ensures)

pub returns-in-ChannelPut : goal.returns-in-ChannelPut
returns-in-ChannelPut c = rw c.in-ChannelPut.is (line c.start_name_expression-in-ChannelPut.ensures)

pub returns-in_ok-start_name-in-QueueShut : goal.returns-in_ok-start_name-in-QueueShut
returns-in_ok-start_name-in-QueueShut c = rw c.in-QueueShut.is (line (further c.in_ok-start_name-in-QueueShut.ensures c.push_flag-in-QueueShut.ensures))

pub returns-in_err-start_expression-in-Join : goal.returns-in_err-start_expression-in-Join
returns-in_err-start_expression-in-Join c = broken_line c.from_residual.ensures.0 c.in_err-start_expression-in-Join.ensures.front

pub returns-in_err-start_name_expression-in-QueuePut : goal.returns-in_err-start_name_expression-in-QueuePut
returns-in_err-start_name_expression-in-QueuePut c = broken_line c.from_residual-in_err-start_name_expression-in-QueuePut.ensures.0 c.in_err-start_name_expression-in-QueuePut.ensures.front

pub returns-in_err-start_name-in-GroupKill : goal.returns-in_err-start_name-in-GroupKill
returns-in_err-start_name-in-GroupKill c = broken_line c.from_residual-in_err-start_name-in-GroupKill.ensures.0 c.in_err-start_name-in-GroupKill.ensures.front

pub returns-in_err-push_marked-in-GroupKill : goal.returns-in_err-push_marked-in-GroupKill
returns-in_err-push_marked-in-GroupKill c =
    broken_line c.from_residual-in_err-push_marked-in-GroupKill.ensures.0 (through _ _ _ c.in_err-push_marked-in-GroupKill.ensures.front c.in_ok-start_name-in-GroupKill.ensures.front)

pub returns-in_err-start_name-in-QueueShut : goal.returns-in_err-start_name-in-QueueShut
returns-in_err-start_name-in-QueueShut c = broken_line c.from_residual-in_err-start_name-in-QueueShut.ensures.0 c.in_err-start_name-in-QueueShut.ensures.front
