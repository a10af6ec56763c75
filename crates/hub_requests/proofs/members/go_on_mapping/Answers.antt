use Rattle.std.proofs.Common.{◌∙◌, ◌+◌, ap, sym, subst, List, length, arith}
use Rattle.gv_values.specs.declared.limits.TheConstants.{MOST_ELEMENTS}
use Rattle.gv_values.specs.declared.scalar.Scalar.{Scalar}
use Rattle.machine.specs.State.{State}
use Rattle.hub_requests.specs.Naming.{IsObject}
use Rattle.hub_requests.proofs.Mapping.{few_after}
use Rattle.hub_requests.proofs.Rooms.{fewer_added, member_room, room_member}
use Rattle.hub_requests.proofs.Soundly.{sound_member}
use Rattle.hub_requests.proofs.members.go_on_mapping.Goals as goal

pub map_elements-requires-clause-may_make : goal.map_elements-requires-clause-may_make
map_elements-requires-clause-may_make c =
    sound_member c.args.mapping.crew c.args.mapping.function c.args.g c.in_ok-arguments.arguments c.args.hub.now c.add_member.new.hub c.requires.may_make c.in_ok-member.ensures.added

pub map_elements-requires-clause-may_add : goal.map_elements-requires-clause-may_add
map_elements-requires-clause-may_add c =
    room_member (MOST_ELEMENTS + 1) c.args.mapping.crew c.args.mapping.function c.in_ok-arguments.arguments c.args.hub.now c.add_member.new.hub c.in_ok-member.ensures.added c.requires.may_add

pub map_elements-requires-clause-count : goal.map_elements-requires-clause-count
map_elements-requires-clause-count c =
    member_room (MOST_ELEMENTS + 1) c.args.mapping.crew c.args.mapping.function c.in_ok-arguments.arguments c.args.hub.now c.add_member.new.hub c.in_ok-member.ensures.added c.requires.count

pub add_member-requires-clause-may_add : goal.add_member-requires-clause-may_add
add_member-requires-clause-may_add c = fewer_added 1 (MOST_ELEMENTS + 2) c.args.hub.now (omega arith) c.requires.may_add

pub add_member-requires-clause-count : goal.add_member-requires-clause-count
add_member-requires-clause-count c = let fits = c.requires.count in omega (arith, fits)

pub end_map-requires-clause-may_add : goal.end_map-requires-clause-may_add
end_map-requires-clause-may_add c = fewer_added 1 (MOST_ELEMENTS + 2) c.args.hub.now (omega arith) c.requires.may_add

pub map_elements-requires-clause-named : goal.map_elements-requires-clause-named
map_elements-requires-clause-named c = subst (λ (x : State). IsObject x.scenario c.args.mapping.crew) (sym c.in_ok-member.ensures.added) c.requires.named

pub map_elements-requires-clause-short : goal.map_elements-requires-clause-short
map_elements-requires-clause-short c =
    few_after c.args.elements c.after_first-rest.result.now c.args.mapping.made c.push.new.self c.in_ok-member.member c.in_ok-push.ensures.ok
    (c.after_first-rest.ensures.few ∙ ap (λ (xs : List Scalar). length xs) c.as_slice-2.ensures) c.requires.short
