use Rattle.scenario_grammar.specs.declared.limits.TheConstants.{MOST_MARK, MOST_MS}
use Rattle.scenario_print.proofs.Words.{broken_line, further, in_range, line, through}
use Rattle.scenario_print.proofs.Layers.{all_whole}
use Rattle.scenario_print.proofs.giving.push_giving.Goals as goal

pub returns-in-Spawn : goal.returns-in-Spawn
returns-in-Spawn c = rw c.in-Spawn.is (line c.start_call.ensures)

pub returns-in_ok-push_name-in-SpawnLater : goal.returns-in_ok-push_name-in-SpawnLater
returns-in_ok-push_name-in-SpawnLater c = rw c.in-SpawnLater.is (line (further (further (c.in_ok-start_number-in-SpawnLater.ensures.words 0 MOST_MS) c.in_ok-push_name-in-SpawnLater.ensures) (all_whole c.push_expressions.ensures)))

pub returns-in-New : goal.returns-in-New
returns-in-New c = rw c.in-New.is (line c.start_call-in-New.ensures)

pub returns-in_ok-start_expression-in-Get : goal.returns-in_ok-start_expression-in-Get
returns-in_ok-start_expression-in-Get c = rw c.in-Get.is (line (further c.in_ok-start_expression-in-Get.ensures c.push_wait.ensures))

pub returns-in_ok-push_count-in-JoinAll : goal.returns-in_ok-push_count-in-JoinAll
returns-in_ok-push_count-in-JoinAll c = rw c.in-JoinAll.is (line (further (further c.in_ok-start_expression-in-JoinAll.ensures c.in_ok-push_count-in-JoinAll.ensures) c.push_timed.ensures))

pub returns-in_ok-start_expression-in-Link : goal.returns-in_ok-start_expression-in-Link
returns-in_ok-start_expression-in-Link c = rw (c.in-Link.is, ← c.link_word.ensures) (line (further c.in_ok-start_expression-in-Link.ensures c.push_name-in-Link.ensures))

pub returns-in_ok-push_fixed-in-LinkMark : goal.returns-in_ok-push_fixed-in-LinkMark
returns-in_ok-push_fixed-in-LinkMark c = rw (c.in-LinkMark.is, ← c.from.ensures) (line (further (further c.in_ok-start_expression-in-LinkMark.ensures c.in_ok-push_fixed-in-LinkMark.ensures) (in_range 0 MOST_MARK c.push_number.ensures)))

pub returns-in_ok-push_fixed-in-LinkSet : goal.returns-in_ok-push_fixed-in-LinkSet
returns-in_ok-push_fixed-in-LinkSet c = rw c.in-LinkSet.is (line (further (further c.in_ok-start_expression-in-LinkSet.ensures c.in_ok-push_fixed-in-LinkSet.ensures) c.push_name-in-LinkSet.ensures))

pub returns-in-WaitEvent : goal.returns-in-WaitEvent
returns-in-WaitEvent c = rw c.in-WaitEvent.is (line c.start_name_timed.ensures)

pub returns-in-ResultGet : goal.returns-in-ResultGet
returns-in-ResultGet c = rw c.in-ResultGet.is (line c.start_name_wait.ensures)

pub returns-in-ResultWait : goal.returns-in-ResultWait
returns-in-ResultWait c = rw c.in-ResultWait.is (line c.start_name_timed-in-ResultWait.ensures)

pub returns-in-Acquire : goal.returns-in-Acquire
returns-in-Acquire c = rw c.in-Acquire.is (line c.start_name_wait-in-Acquire.ensures)

pub returns-in-QueueGet : goal.returns-in-QueueGet
returns-in-QueueGet c = rw c.in-QueueGet.is (line c.start_name_wait-in-QueueGet.ensures)

pub returns-in-QueuePeek : goal.returns-in-QueuePeek
returns-in-QueuePeek c = rw c.in-QueuePeek.is (line c.start_name_wait-in-QueuePeek.ensures)

pub returns-in-QueueJoin : goal.returns-in-QueueJoin
returns-in-QueueJoin c = rw c.in-QueueJoin.is (line c.start_name_timed-in-QueueJoin.ensures)

pub returns-in_ok-push_name-in-GroupSpawn : goal.returns-in_ok-push_name-in-GroupSpawn
returns-in_ok-push_name-in-GroupSpawn c = rw c.in-GroupSpawn.is (line (further (further c.in_ok-start_name-in-GroupSpawn.ensures c.in_ok-push_name-in-GroupSpawn.ensures) (all_whole c.push_expressions-in-GroupSpawn.ensures)))

pub returns-in_ok-push_name-in-Map : goal.returns-in_ok-push_name-in-Map
returns-in_ok-push_name-in-Map c = rw c.in-Map.is (line (further (further c.in_ok-start_name-in-Map.ensures c.in_ok-push_name-in-Map.ensures) c.push_expression.ensures))

pub returns-in_ok-push_expression-in-NativeSpawn : goal.returns-in_ok-push_expression-in-NativeSpawn
returns-in_ok-push_expression-in-NativeSpawn c = rw (c.in-NativeSpawn.is, ← c.job_word.ensures) (line (further (further (further c.in_ok-start_name-in-NativeSpawn.ensures c.in_ok-push_fixed-in-NativeSpawn.ensures) c.in_ok-push_expression-in-NativeSpawn.ensures) c.push_takes.ensures))

pub returns-in_ok-start_name-in-Raw : goal.returns-in_ok-start_name-in-Raw
returns-in_ok-start_name-in-Raw c = rw c.in-Raw.is (line (further c.in_ok-start_name-in-Raw.ensures c.push_marked.ensures))

pub returns-in-Switch : goal.returns-in-Switch
returns-in-Switch c = rw c.in-Switch.is (line c.start_expressions.ensures)

pub returns-in_ok-start_expression-in-Throw : goal.returns-in_ok-start_expression-in-Throw
returns-in_ok-start_expression-in-Throw c = rw c.in-Throw.is (line (further c.in_ok-start_expression-in-Throw.ensures c.push_marked-in-Throw.ensures))

pub returns-in-ChannelGet : goal.returns-in-ChannelGet
returns-in-ChannelGet c = rw c.in-ChannelGet.is (line c.start_name-in-ChannelGet.ensures)

pub returns-in_err-start_number-in-SpawnLater : goal.returns-in_err-start_number-in-SpawnLater
returns-in_err-start_number-in-SpawnLater c = broken_line c.from_residual.ensures.0 c.in_err-start_number-in-SpawnLater.ensures.front

pub returns-in_err-push_name-in-SpawnLater : goal.returns-in_err-push_name-in-SpawnLater
returns-in_err-push_name-in-SpawnLater c =
    broken_line c.from_residual-in_err-push_name-in-SpawnLater.ensures.0 (through _ _ _ c.in_err-push_name-in-SpawnLater.ensures.front c.in_ok-start_number-in-SpawnLater.ensures.front)

pub returns-in_err-start_expression-in-Get : goal.returns-in_err-start_expression-in-Get
returns-in_err-start_expression-in-Get c = broken_line c.from_residual-in_err-start_expression-in-Get.ensures.0 c.in_err-start_expression-in-Get.ensures.front

pub returns-in_err-start_expression-in-JoinAll : goal.returns-in_err-start_expression-in-JoinAll
returns-in_err-start_expression-in-JoinAll c = broken_line c.from_residual-in_err-start_expression-in-JoinAll.ensures.0 c.in_err-start_expression-in-JoinAll.ensures.front

pub returns-in_err-push_count-in-JoinAll : goal.returns-in_err-push_count-in-JoinAll
returns-in_err-push_count-in-JoinAll c =
    broken_line c.from_residual-in_err-push_count-in-JoinAll.ensures.0 (through _ _ _ c.in_err-push_count-in-JoinAll.ensures.front c.in_ok-start_expression-in-JoinAll.ensures.front)

pub returns-in_err-start_expression-in-Link : goal.returns-in_err-start_expression-in-Link
returns-in_err-start_expression-in-Link c = broken_line c.from_residual-in_err-start_expression-in-Link.ensures.0 c.in_err-start_expression-in-Link.ensures.front

pub returns-in_err-start_expression-in-LinkMark : goal.returns-in_err-start_expression-in-LinkMark
returns-in_err-start_expression-in-LinkMark c = broken_line c.from_residual-in_err-start_expression-in-LinkMark.ensures.0 c.in_err-start_expression-in-LinkMark.ensures.front

pub returns-in_err-push_fixed-in-LinkMark : goal.returns-in_err-push_fixed-in-LinkMark
returns-in_err-push_fixed-in-LinkMark c =
    broken_line c.from_residual-in_err-push_fixed-in-LinkMark.ensures.0 (through _ _ _ c.in_err-push_fixed-in-LinkMark.ensures.front c.in_ok-start_expression-in-LinkMark.ensures.front)

pub returns-in_err-start_expression-in-LinkSet : goal.returns-in_err-start_expression-in-LinkSet
returns-in_err-start_expression-in-LinkSet c = broken_line c.from_residual-in_err-start_expression-in-LinkSet.ensures.0 c.in_err-start_expression-in-LinkSet.ensures.front

pub returns-in_err-push_fixed-in-LinkSet : goal.returns-in_err-push_fixed-in-LinkSet
returns-in_err-push_fixed-in-LinkSet c =
    broken_line c.from_residual-in_err-push_fixed-in-LinkSet.ensures.0 (through _ _ _ c.in_err-push_fixed-in-LinkSet.ensures.front c.in_ok-start_expression-in-LinkSet.ensures.front)

pub returns-in_err-start_name-in-GroupSpawn : goal.returns-in_err-start_name-in-GroupSpawn
returns-in_err-start_name-in-GroupSpawn c = broken_line c.from_residual-in_err-start_name-in-GroupSpawn.ensures.0 c.in_err-start_name-in-GroupSpawn.ensures.front

pub returns-in_err-push_name-in-GroupSpawn : goal.returns-in_err-push_name-in-GroupSpawn
returns-in_err-push_name-in-GroupSpawn c =
    broken_line c.from_residual-in_err-push_name-in-GroupSpawn.ensures.0 (through _ _ _ c.in_err-push_name-in-GroupSpawn.ensures.front c.in_ok-start_name-in-GroupSpawn.ensures.front)

pub returns-in_err-start_name-in-Map : goal.returns-in_err-start_name-in-Map
returns-in_err-start_name-in-Map c = broken_line c.from_residual-in_err-start_name-in-Map.ensures.0 c.in_err-start_name-in-Map.ensures.front

pub returns-in_err-push_name-in-Map : goal.returns-in_err-push_name-in-Map
returns-in_err-push_name-in-Map c = broken_line c.from_residual-in_err-push_name-in-Map.ensures.0 (through _ _ _ c.in_err-push_name-in-Map.ensures.front c.in_ok-start_name-in-Map.ensures.front)

pub returns-in_err-start_name-in-NativeSpawn : goal.returns-in_err-start_name-in-NativeSpawn
returns-in_err-start_name-in-NativeSpawn c = broken_line c.from_residual-in_err-start_name-in-NativeSpawn.ensures.0 c.in_err-start_name-in-NativeSpawn.ensures.front

pub returns-in_err-push_fixed-in-NativeSpawn : goal.returns-in_err-push_fixed-in-NativeSpawn
returns-in_err-push_fixed-in-NativeSpawn c =
    broken_line c.from_residual-in_err-push_fixed-in-NativeSpawn.ensures.0 (through _ _ _ c.in_err-push_fixed-in-NativeSpawn.ensures.front c.in_ok-start_name-in-NativeSpawn.ensures.front)

pub returns-in_err-push_expression-in-NativeSpawn : goal.returns-in_err-push_expression-in-NativeSpawn
returns-in_err-push_expression-in-NativeSpawn c =
    broken_line c.from_residual-in_err-push_expression-in-NativeSpawn.ensures.0 (through _ _ _ c.in_err-push_expression-in-NativeSpawn.ensures.front (through _ _ _ c.in_ok-push_fixed-in-NativeSpawn.ensures.front c.in_ok-start_name-in-NativeSpawn.ensures.front))

pub returns-in_err-start_name-in-Raw : goal.returns-in_err-start_name-in-Raw
returns-in_err-start_name-in-Raw c = broken_line c.from_residual-in_err-start_name-in-Raw.ensures.0 c.in_err-start_name-in-Raw.ensures.front

pub returns-in_err-start_expression-in-Throw : goal.returns-in_err-start_expression-in-Throw
returns-in_err-start_expression-in-Throw c = broken_line c.from_residual-in_err-start_expression-in-Throw.ensures.0 c.in_err-start_expression-in-Throw.ensures.front
