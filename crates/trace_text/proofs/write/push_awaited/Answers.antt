use Rattle.std.proofs.Common.{codes}
use Rattle.trace_text.proofs.Pieces.{bytes_err, bytes_ok}
use Rattle.trace_text.proofs.write.push_awaited.Goals as goal

pub returns-in-Sleep : goal.returns-in-Sleep
returns-in-Sleep c =
    let out = c.args.out.now.items in
    let r = c.extend_from_slice.result in
    record { ok = rw c.in-Sleep.is (bytes_ok r _ out (codes "sleep") c.extend_from_slice.ensures.items); err = bytes_err r _ out (codes "sleep") c.extend_from_slice.ensures.items }

pub returns-in-Join : goal.returns-in-Join
returns-in-Join c = rw c.in-Join.is c.push_with_whom.ensures

pub returns-in-Get : goal.returns-in-Get
returns-in-Get c = rw c.in-Get.is c.push_with_whom-in-Get.ensures

pub returns-in-Kill : goal.returns-in-Kill
returns-in-Kill c = rw c.in-Kill.is c.push_with_whom-in-Kill.ensures

pub returns-in-JoinAll : goal.returns-in-JoinAll
returns-in-JoinAll c =
    let out = c.args.out.now.items in
    let r = c.extend_from_slice-in-JoinAll.result in
    record { ok = rw c.in-JoinAll.is (bytes_ok r _ out (codes "joinall") c.extend_from_slice-in-JoinAll.ensures.items); err = bytes_err r _ out (codes "joinall") c.extend_from_slice-in-JoinAll.ensures.items }

pub returns-in-KillAll : goal.returns-in-KillAll
returns-in-KillAll c =
    let out = c.args.out.now.items in
    let r = c.extend_from_slice-in-KillAll.result in
    record { ok = rw c.in-KillAll.is (bytes_ok r _ out (codes "killall") c.extend_from_slice-in-KillAll.ensures.items); err = bytes_err r _ out (codes "killall") c.extend_from_slice-in-KillAll.ensures.items }

pub returns-in-Wait : goal.returns-in-Wait
returns-in-Wait c = rw c.in-Wait.is c.push_with_name.ensures

pub returns-in-ResultGet : goal.returns-in-ResultGet
returns-in-ResultGet c = rw c.in-ResultGet.is c.push_with_name-in-ResultGet.ensures

pub returns-in-ResultWait : goal.returns-in-ResultWait
returns-in-ResultWait c = rw c.in-ResultWait.is c.push_with_name-in-ResultWait.ensures

pub returns-in-Acquire : goal.returns-in-Acquire
returns-in-Acquire c = rw c.in-Acquire.is c.push_with_name-in-Acquire.ensures

pub returns-in-QueuePut : goal.returns-in-QueuePut
returns-in-QueuePut c = rw c.in-QueuePut.is c.push_with_name-in-QueuePut.ensures

pub returns-in-QueueGet : goal.returns-in-QueueGet
returns-in-QueueGet c = rw c.in-QueueGet.is c.push_with_name-in-QueueGet.ensures

pub returns-in-QueuePeek : goal.returns-in-QueuePeek
returns-in-QueuePeek c = rw c.in-QueuePeek.is c.push_with_name-in-QueuePeek.ensures

pub returns-in-QueueJoin : goal.returns-in-QueueJoin
returns-in-QueueJoin c = rw c.in-QueueJoin.is c.push_with_name-in-QueueJoin.ensures

pub returns-in-GroupSpawn : goal.returns-in-GroupSpawn
returns-in-GroupSpawn c = rw c.in-GroupSpawn.is c.push_with_name-in-GroupSpawn.ensures

pub returns-in-GroupJoin : goal.returns-in-GroupJoin
returns-in-GroupJoin c = rw c.in-GroupJoin.is c.push_with_name-in-GroupJoin.ensures

pub returns-in-GroupKill : goal.returns-in-GroupKill
returns-in-GroupKill c = rw c.in-GroupKill.is c.push_with_name-in-GroupKill.ensures

pub returns-in-Map : goal.returns-in-Map
returns-in-Map c = rw c.in-Map.is c.push_with_name-in-Map.ensures

pub returns-in-NativeSpawn : goal.returns-in-NativeSpawn
returns-in-NativeSpawn c = rw c.in-NativeSpawn.is c.push_with_name-in-NativeSpawn.ensures

pub returns-in-ChannelPut : goal.returns-in-ChannelPut
returns-in-ChannelPut c = rw c.in-ChannelPut.is c.push_with_name-in-ChannelPut.ensures

pub returns-in-ChannelGet : goal.returns-in-ChannelGet
returns-in-ChannelGet c = rw c.in-ChannelGet.is c.push_with_name-in-ChannelGet.ensures
