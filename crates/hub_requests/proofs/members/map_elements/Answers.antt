use Rattle.std.proofs.Common.{◌≡◌, ◌+◌, ◌-◌, sym, subst, true, false, rules, arith}
use Rattle.gv_values.specs.declared.limits.TheConstants.{MOST_ELEMENTS}
use Rattle.gv_values.specs.declared.scalar.Scalar.{Scalar}
use Rattle.machine.specs.State.{State}
use Rattle.hub_requests.specs.Naming.{IsObject}
use Rattle.hub_requests.proofs.Mapping.{few_more, map_next, map_parks, map_stops}
use Rattle.hub_requests.proofs.Rooms.{fewer_added, member_counts, room_member}
use Rattle.hub_requests.proofs.Soundly.{sound_member}
use Rattle.hub_requests.proofs.members.map_elements.Goals as goal

pub returns-then-not-free : goal.returns-then-not-free
returns-then-not-free c =
    let none : c.has_place-free.result ≡ false = search (rules, c.if-not-free.true) in
    map_parks c.args.elements.now c.in_ok-rest.rest c.loop-at.at Scalar.Nothing c.args.g c.args.mapping.crew c.args.mapping.function c.loop-at.made c.has_place-free.result c.loop-at.hub c.park_mapping.new.hub _ (omega arith)
    c.loop-at.invariant.same c.has_place-free.ensures none c.in_ok-rest.ensures.rest c.in_ok-park_mapping.ensures

pub returns-then-not-left : goal.returns-then-not-left
returns-then-not-left c =
    let some : c.has_place-free.result ≡ true = search (rules, c.if-not-free.false) in
    let none : c.has_greenlet_left-left.result ≡ false = search (rules, c.if-not-left.true) in
    map_stops c.args.elements.now c.loop-at.at Scalar.Nothing c.args.g c.args.mapping.crew c.args.mapping.function c.loop-at.made c.has_place-free.result c.has_greenlet_left-left.result c.loop-at.hub _ (omega arith)
    c.loop-at.invariant.same c.has_place-free.ensures some c.has_greenlet_left-left.ensures none

pub park_mapping-requires-clause-may_add : goal.park_mapping-requires-clause-may_add
park_mapping-requires-clause-may_add c = let within = c.loop-at.invariant.within in let short = c.requires.short in fewer_added 1 (MOST_ELEMENTS + 1 - c.loop-at.at) c.loop-at.hub (omega (arith, within, short)) c.loop-at.invariant.may_add

pub add_member-requires-clause-may_add : goal.add_member-requires-clause-may_add
add_member-requires-clause-may_add c = let within = c.loop-at.invariant.within in let short = c.requires.short in fewer_added 1 (MOST_ELEMENTS + 1 - c.loop-at.at) c.loop-at.hub (omega (arith, within, short)) c.loop-at.invariant.may_add

pub add_member-requires-clause-count : goal.add_member-requires-clause-count
add_member-requires-clause-count c = let fits = c.loop-at.invariant.count in let within = c.loop-at.invariant.within in let short = c.requires.short in omega (arith, fits, within, short)

pub end_map-requires-clause-may_add : goal.end_map-requires-clause-may_add
end_map-requires-clause-may_add c = let within = c.loop-at.invariant.within in let short = c.requires.short in fewer_added 1 (MOST_ELEMENTS + 1 - c.loop-at.at) c.loop-at.hub (omega (arith, within, short)) c.loop-at.invariant.may_add

pub loop-at-preserved : goal.loop-at-preserved
loop-at-preserved c =
    let some : c.has_place-free.result ≡ true = search (rules, c.if-not-free.false) in
    let more : c.has_greenlet_left-left.result ≡ true = search (rules, c.if-not-left.false) in
    record {
      same = map_next c.args.elements.now c.loop-at.at _ c.args.g c.args.mapping.crew c.args.mapping.function c.in_ok-member.member c.loop-at.made c.push.new.self c.in_ok-arguments.arguments c.has_place-free.result
          c.has_greenlet_left-left.result c.loop-at.hub c.add_member.new.hub _ (omega arith) c.loop-at.invariant.same c.has_place-free.ensures some c.has_greenlet_left-left.ensures more
          c.in_ok-arguments.ensures c.in_ok-member.ensures.number c.in_ok-member.ensures.added c.in_ok-push.ensures.ok;
      sound = sound_member c.args.mapping.crew c.args.mapping.function c.args.g c.in_ok-arguments.arguments c.loop-at.hub c.add_member.new.hub c.loop-at.invariant.sound c.in_ok-member.ensures.added;
      named = subst (λ (x : State). IsObject x.scenario c.args.mapping.crew) (sym c.in_ok-member.ensures.added) c.loop-at.invariant.named;
      within = omega arith;
      few = few_more c.args.elements.now c.loop-at.made c.push.new.self c.in_ok-member.member c.loop-at.at c.in_ok-push.ensures.ok c.loop-at.invariant.few;
      may_add = room_member (MOST_ELEMENTS + 1 - (c.loop-at.at + 1)) c.args.mapping.crew c.args.mapping.function c.in_ok-arguments.arguments c.loop-at.hub c.add_member.new.hub c.in_ok-member.ensures.added
          (let short = c.requires.short in fewer_added (MOST_ELEMENTS + 1 - (c.loop-at.at + 1) + 1) (MOST_ELEMENTS + 1 - c.loop-at.at) c.loop-at.hub (omega (arith, short)) c.loop-at.invariant.may_add);
      count = let one = member_counts c.args.mapping.crew c.args.mapping.function c.in_ok-arguments.arguments c.loop-at.hub c.add_member.new.hub c.in_ok-member.ensures.added in let fits = c.loop-at.invariant.count in
          omega (arith, one, fits);
    }
