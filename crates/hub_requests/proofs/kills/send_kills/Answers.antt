use Rattle.std.proofs.Common.{◌≡◌, true, rules}
use Rattle.hub_requests.proofs.Rooms.{room_sent}
use Rattle.hub_requests.proofs.Sent.{sent_first, was_sent}
use Rattle.hub_requests.proofs.kills.send_kills.Goals as goal

pub loop-target-preserved : goal.loop-target-preserved
loop-target-preserved c =
    let b = c.in_ok-send_kill.field-0 in
    let went = c.in_ok-send_kill.ensures in
    let so : b ≡ true = search (rules, c.if-not-branch.false) in
    record {
      same = sent_first c.args.kind c.args.targets.now c.loop-target.target-index _ c.loop-target.hub c.send_kill.new.hub _ c.loop-target-test.true c.loop-target.invariant.same (was_sent b c.send_kill.new.hub _ so went);
      room = room_sent c.args.kind _ b c.loop-target.hub c.send_kill.new.hub went c.loop-target.invariant.room;
    }
