use Rattle.std.proofs.Common.{◌≡◌, refl, sym, subst, ℕ, Result, IfOk}
use Rattle.std.specs.declared.alloc.AllocError.{AllocError}
use Rattle.machine.specs.Request.{performs}
use Rattle.machine.specs.State.{State}
use Rattle.machine.specs.declared.request.Request.{Request}
use Rattle.hub_requests.specs.Performing.{performed_of}
use Rattle.hub_requests.specs.declared.performed.Performed.{Performed}
use Rattle.hub_requests.proofs.Named.{fits_there}
use Rattle.hub_requests.proofs.performs.perform.Goals as goal

-- a request is performed as the one that it is
performs_as : (g : ℕ) (request r : Request) (s t : State) (result : Result Performed AllocError) → request ≡ r →
    IfOk result (λ p. performs r g s ≡ performed_of p t) → IfOk result (λ p. performs request g s ≡ performed_of p t)
performs_as g request r s t result e h = subst (λ (x : Request). IfOk result (λ (p : Performed). performs x g s ≡ performed_of p t)) (sym e) h

pub wait_for_event-requires-clause-named : goal.wait_for_event-requires-clause-named
wait_for_event-requires-clause-named c = fits_there c.args.hub.now.scenario c.args.request _ c.in-WaitEvent.o c.requires.fits c.in-WaitEvent.is refl

pub get_result-requires-clause-named : goal.get_result-requires-clause-named
get_result-requires-clause-named c = fits_there c.args.hub.now.scenario c.args.request _ c.in-ResultGet.o c.requires.fits c.in-ResultGet.is refl

pub wait_for_result-requires-clause-named : goal.wait_for_result-requires-clause-named
wait_for_result-requires-clause-named c = fits_there c.args.hub.now.scenario c.args.request _ c.in-ResultWait.o c.requires.fits c.in-ResultWait.is refl

pub acquire-requires-clause-named : goal.acquire-requires-clause-named
acquire-requires-clause-named c = fits_there c.args.hub.now.scenario c.args.request _ c.in-Acquire.o c.requires.fits c.in-Acquire.is refl

pub put_item-requires-clause-named : goal.put_item-requires-clause-named
put_item-requires-clause-named c = fits_there c.args.hub.now.scenario c.args.request _ c.in-QueuePut.o c.requires.fits c.in-QueuePut.is refl

pub get_item-requires-clause-named : goal.get_item-requires-clause-named
get_item-requires-clause-named c = fits_there c.args.hub.now.scenario c.args.request _ c.in-QueueGet.o c.requires.fits c.in-QueueGet.is refl

pub peek_item-requires-clause-named : goal.peek_item-requires-clause-named
peek_item-requires-clause-named c = fits_there c.args.hub.now.scenario c.args.request _ c.in-QueuePeek.o c.requires.fits c.in-QueuePeek.is refl

pub join_queue-requires-clause-named : goal.join_queue-requires-clause-named
join_queue-requires-clause-named c = fits_there c.args.hub.now.scenario c.args.request _ c.in-QueueJoin.o c.requires.fits c.in-QueueJoin.is refl

pub spawn_member-requires-clause-named : goal.spawn_member-requires-clause-named
spawn_member-requires-clause-named c = fits_there c.args.hub.now.scenario c.args.request _ c.in-GroupSpawn.o c.requires.fits c.in-GroupSpawn.is refl

pub join_crew-requires-clause-named : goal.join_crew-requires-clause-named
join_crew-requires-clause-named c = fits_there c.args.hub.now.scenario c.args.request _ c.in-GroupJoin.o c.requires.fits c.in-GroupJoin.is refl

pub kill_crew-requires-clause-named : goal.kill_crew-requires-clause-named
kill_crew-requires-clause-named c = fits_there c.args.hub.now.scenario c.args.request _ c.in-GroupKill.o c.requires.fits c.in-GroupKill.is refl

pub map_list-requires-clause-named : goal.map_list-requires-clause-named
map_list-requires-clause-named c = fits_there c.args.hub.now.scenario c.args.request _ c.in-Map.o c.requires.fits c.in-Map.is refl

pub spawn_job-requires-clause-named : goal.spawn_job-requires-clause-named
spawn_job-requires-clause-named c = fits_there c.args.hub.now.scenario c.args.request _ c.in-NativeSpawn.o c.requires.fits c.in-NativeSpawn.is refl

pub put_offer-requires-clause-named : goal.put_offer-requires-clause-named
put_offer-requires-clause-named c = fits_there c.args.hub.now.scenario c.args.request _ c.in-ChannelPut.o c.requires.fits c.in-ChannelPut.is refl

pub get_offer-requires-clause-named : goal.get_offer-requires-clause-named
get_offer-requires-clause-named c = fits_there c.args.hub.now.scenario c.args.request _ c.in-ChannelGet.o c.requires.fits c.in-ChannelGet.is refl

pub returns-in-Print : goal.returns-in-Print
returns-in-Print c = performs_as c.args.g c.args.request _ c.args.hub.now c.print_value.new.hub c.print_value.result c.in-Print.is c.print_value.ensures

pub returns-in-Spawn : goal.returns-in-Spawn
returns-in-Spawn c = performs_as c.args.g c.args.request _ c.args.hub.now c.spawn_now.new.hub c.spawn_now.result c.in-Spawn.is c.spawn_now.ensures

pub returns-in-SpawnLater : goal.returns-in-SpawnLater
returns-in-SpawnLater c = performs_as c.args.g c.args.request _ c.args.hub.now c.spawn_later.new.hub c.spawn_later.result c.in-SpawnLater.is c.spawn_later.ensures

pub returns-in-New : goal.returns-in-New
returns-in-New c = performs_as c.args.g c.args.request _ c.args.hub.now c.make_new.new.hub c.make_new.result c.in-New.is c.make_new.ensures

pub returns-in-Start : goal.returns-in-Start
returns-in-Start c = performs_as c.args.g c.args.request _ c.args.hub.now c.start_handle.new.hub c.start_handle.result c.in-Start.is c.start_handle.ensures

pub returns-in-Sleep : goal.returns-in-Sleep
returns-in-Sleep c = performs_as c.args.g c.args.request _ c.args.hub.now c.sleep_for.new.hub c.sleep_for.result c.in-Sleep.is c.sleep_for.ensures

pub returns-in-Join : goal.returns-in-Join
returns-in-Join c = performs_as c.args.g c.args.request _ c.args.hub.now c.join_handle.new.hub c.join_handle.result c.in-Join.is c.join_handle.ensures

pub returns-in-Get : goal.returns-in-Get
returns-in-Get c = performs_as c.args.g c.args.request _ c.args.hub.now c.get_outcome.new.hub c.get_outcome.result c.in-Get.is c.get_outcome.ensures

pub returns-in-Kill : goal.returns-in-Kill
returns-in-Kill c = performs_as c.args.g c.args.request _ c.args.hub.now c.kill_one.new.hub c.kill_one.result c.in-Kill.is c.kill_one.ensures

pub returns-in-KillAll : goal.returns-in-KillAll
returns-in-KillAll c = performs_as c.args.g c.args.request _ c.args.hub.now c.kill_all.new.hub c.kill_all.result c.in-KillAll.is c.kill_all.ensures

pub returns-in-JoinAll : goal.returns-in-JoinAll
returns-in-JoinAll c = performs_as c.args.g c.args.request _ c.args.hub.now c.join_all.new.hub c.join_all.result c.in-JoinAll.is c.join_all.ensures

pub returns-in-Link : goal.returns-in-Link
returns-in-Link c = performs_as c.args.g c.args.request _ c.args.hub.now c.link_handle.new.hub c.link_handle.result c.in-Link.is c.link_handle.ensures

pub returns-in-Unlink : goal.returns-in-Unlink
returns-in-Unlink c = performs_as c.args.g c.args.request _ c.args.hub.now c.unlink.new.hub c.unlink.result c.in-Unlink.is c.unlink.ensures

pub returns-in-WaitEvent : goal.returns-in-WaitEvent
returns-in-WaitEvent c = performs_as c.args.g c.args.request _ c.args.hub.now c.wait_for_event.new.hub c.wait_for_event.result c.in-WaitEvent.is c.wait_for_event.ensures

pub returns-in-ResultGet : goal.returns-in-ResultGet
returns-in-ResultGet c = performs_as c.args.g c.args.request _ c.args.hub.now c.get_result.new.hub c.get_result.result c.in-ResultGet.is c.get_result.ensures

pub returns-in-ResultWait : goal.returns-in-ResultWait
returns-in-ResultWait c = performs_as c.args.g c.args.request _ c.args.hub.now c.wait_for_result.new.hub c.wait_for_result.result c.in-ResultWait.is c.wait_for_result.ensures

pub returns-in-Acquire : goal.returns-in-Acquire
returns-in-Acquire c = performs_as c.args.g c.args.request _ c.args.hub.now c.acquire.new.hub c.acquire.result c.in-Acquire.is c.acquire.ensures

pub returns-in-QueuePut : goal.returns-in-QueuePut
returns-in-QueuePut c = performs_as c.args.g c.args.request _ c.args.hub.now c.put_item.new.hub c.put_item.result c.in-QueuePut.is c.put_item.ensures

pub returns-in-QueueGet : goal.returns-in-QueueGet
returns-in-QueueGet c = performs_as c.args.g c.args.request _ c.args.hub.now c.get_item.new.hub c.get_item.result c.in-QueueGet.is c.get_item.ensures

pub returns-in-QueuePeek : goal.returns-in-QueuePeek
returns-in-QueuePeek c = performs_as c.args.g c.args.request _ c.args.hub.now c.peek_item.new.hub c.peek_item.result c.in-QueuePeek.is c.peek_item.ensures

pub returns-in-QueueJoin : goal.returns-in-QueueJoin
returns-in-QueueJoin c = performs_as c.args.g c.args.request _ c.args.hub.now c.join_queue.new.hub c.join_queue.result c.in-QueueJoin.is c.join_queue.ensures

pub returns-in-GroupSpawn : goal.returns-in-GroupSpawn
returns-in-GroupSpawn c = performs_as c.args.g c.args.request _ c.args.hub.now c.spawn_member.new.hub c.spawn_member.result c.in-GroupSpawn.is c.spawn_member.ensures

pub returns-in-GroupJoin : goal.returns-in-GroupJoin
returns-in-GroupJoin c = performs_as c.args.g c.args.request _ c.args.hub.now c.join_crew.new.hub c.join_crew.result c.in-GroupJoin.is c.join_crew.ensures

pub returns-in-GroupKill : goal.returns-in-GroupKill
returns-in-GroupKill c = performs_as c.args.g c.args.request _ c.args.hub.now c.kill_crew.new.hub c.kill_crew.result c.in-GroupKill.is c.kill_crew.ensures

pub returns-in-Map : goal.returns-in-Map
returns-in-Map c = performs_as c.args.g c.args.request _ c.args.hub.now c.map_list.new.hub c.map_list.result c.in-Map.is c.map_list.ensures

pub returns-in-NativeSpawn : goal.returns-in-NativeSpawn
returns-in-NativeSpawn c = performs_as c.args.g c.args.request _ c.args.hub.now c.spawn_job.new.hub c.spawn_job.result c.in-NativeSpawn.is c.spawn_job.ensures

pub returns-in-Raw : goal.returns-in-Raw
returns-in-Raw c = performs_as c.args.g c.args.request _ c.args.hub.now c.make_raw.new.hub c.make_raw.result c.in-Raw.is c.make_raw.ensures

pub returns-in-Switch : goal.returns-in-Switch
returns-in-Switch c = performs_as c.args.g c.args.request _ c.args.hub.now c.switch_to.new.hub c.switch_to.result c.in-Switch.is c.switch_to.ensures

pub returns-in-Throw : goal.returns-in-Throw
returns-in-Throw c = performs_as c.args.g c.args.request _ c.args.hub.now c.throw_to.new.hub c.throw_to.result c.in-Throw.is c.throw_to.ensures

pub returns-in-SetParent : goal.returns-in-SetParent
returns-in-SetParent c = performs_as c.args.g c.args.request _ c.args.hub.now c.set_parent.new.hub c.set_parent.result c.in-SetParent.is c.set_parent.ensures

pub returns-in-ChannelPut : goal.returns-in-ChannelPut
returns-in-ChannelPut c = performs_as c.args.g c.args.request _ c.args.hub.now c.put_offer.new.hub c.put_offer.result c.in-ChannelPut.is c.put_offer.ensures

pub returns-in-ChannelGet : goal.returns-in-ChannelGet
returns-in-ChannelGet c = performs_as c.args.g c.args.request _ c.args.hub.now c.get_offer.new.hub c.get_offer.result c.in-ChannelGet.is c.get_offer.ensures
