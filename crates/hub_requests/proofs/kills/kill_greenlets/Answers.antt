use Rattle.std.proofs.Common.{◌≡◌, subst, ℕ, List, rules}
use Rattle.machine.specs.Request.{sends_all}
use Rattle.hub_requests.specs.Sendings.{sent}
use Rattle.hub_requests.proofs.Rooms.{room_all_sent}
use Rattle.hub_requests.proofs.Soundly.{sound_sent}
use Rattle.hub_requests.proofs.kills.kill_greenlets.Goals as goal

pub come_to_wait_as-requires-clause-may_make : goal.come_to_wait_as-requires-clause-may_make
come_to_wait_as-requires-clause-may_make c =
    let went = subst (λ (ks : List ℕ). sends_all c.args.killing.kind ks c.args.hub.now ≡ sent c.in_ok-are_sent.are_sent c.send_kills.new.hub) c.as_slice.ensures c.in_ok-are_sent.ensures in
    sound_sent c.args.killing.kind c.args.killing.targets c.args.g c.in_ok-are_sent.are_sent c.args.hub.now c.send_kills.new.hub c.requires.may_make c.requires.plain went (search (rules, c.if-not-are_sent.false))

pub come_to_wait_as-requires-clause-room : goal.come_to_wait_as-requires-clause-room
come_to_wait_as-requires-clause-room c =
    let went = subst (λ (ks : List ℕ). sends_all c.args.killing.kind ks c.args.hub.now ≡ sent c.in_ok-are_sent.are_sent c.send_kills.new.hub) c.as_slice.ensures c.in_ok-are_sent.ensures in
    room_all_sent c.args.killing.kind c.args.killing.targets c.in_ok-are_sent.are_sent c.args.hub.now c.send_kills.new.hub went c.requires.room
