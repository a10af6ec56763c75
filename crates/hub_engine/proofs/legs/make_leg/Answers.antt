use Rattle.std.proofs.Common.{◌≡◌, ◌+◌, ◌-◌, ◌<◌, ◌≤◌, ◌^◌, ap, sym, subst, [], arith}
use Rattle.machine.specs.declared.state.Frame.{Frame}
use Rattle.machine.specs.declared.state.Leaving.{Leaving}
use Rattle.machine.specs.declared.state.Phase.{Phase}
use Rattle.machine.specs.Bodies.{around}
use Rattle.machine.specs.Greenlets.{with_phase}
use Rattle.machine.specs.Unwinding.{unwind}
use Rattle.body_frames.specs.Quick.{request_of}
use Rattle.body_frames.specs.Places.{Came, Place, place_of}
use Rattle.body_frames.specs.declared.runs.Halt.{Halt}
use Rattle.hub_state.specs.Sights.{look_of}
use Rattle.hub_engine.specs.declared.stand.Progress.{Progress}
use Rattle.hub_engine.specs.Legs.{EndsBy}
use Rattle.hub_engine.specs.Ready.{IsReadyToMove}
use Rattle.hub_engine.specs.Settlings.{HasMoveRoom}
use Rattle.hub_engine.proofs.Staying.{goes_by}
use Rattle.hub_engine.proofs.LegByLeg.{as_before, came_out, counted_as, ends_as_before, ends_by, ran_ahead, ran_as, ran_nowhere, room_for, stays_by}
use Rattle.hub_engine.proofs.legs.make_leg.Goals as goal

pub stay-requires : goal.stay-requires
stay-requires c =
    let n = c.in_ok-ran.ran.moves in
    let some : 0 < n = omega (arith, c.if-ran-eq0.false) in
    let counted : n + 0 ≤ c.moves_ahead-ahead.result = counted_as n c.moves_ahead-ahead.result c.in_ok-ran.ran.halt Halt.Ahead c.in-Ahead.is c.in_ok-ran.ensures.counted in
    let ahead : c.moves_ahead-ahead.result ≤ c.args.most = c.moves_ahead-ahead.ensures.few in
    let few : c.args.hub.now.moves + c.args.most < 2 ^ 64 = c.requires.few in
    record {
      few = omega (arith, counted, ahead, few);
      room = room_for c.args.g c.args.most (n - 1) n c.args.hub.now c.requires.room (omega (arith, some, counted, ahead)) (omega (arith, some));
    }

pub returns-else-ran-eq0-clause-ends : goal.returns-else-ran-eq0-clause-ends
returns-else-ran-eq0-clause-ends c =
    let g = c.args.g in
    let s = c.args.hub.now in
    let a = c.args.running.now in
    let b = c.run.new.self in
    let n = c.in_ok-ran.ran.moves in
    let halt = c.in_ok-ran.ran.halt in
    let look = look_of (record { current = g; state = s }) in
    let most = c.moves_ahead-ahead.result in
    let some : 0 < n = omega (arith, c.if-ran-eq0.false) in
    let counted : n + 0 ≤ most = counted_as n most halt Halt.Ahead c.in-Ahead.is c.in_ok-ran.ensures.counted in
    let one : n ≡ n - 1 + 1 = omega (arith, some) in
    let on = ran_ahead (around s.scenario look) n a b some (ran_as s.scenario c.code.result.now look n halt Halt.Ahead a b c.code.ensures c.in-Ahead.is (c.in_ok-ran.ensures.ran look)) in
    let t = record s { moves = s.moves + n } in
    let by = goes_by g (n - 1) most a s t (Came.Comes (Place.AtMove [] b)) c.moves_ahead-ahead.ensures.rest (omega (arith, some, counted)) c.requires.ready on (ap (λ m. record s { moves = s.moves + m }) one) in
    subst (λ (p : Progress). EndsBy p g (n - 1) a s b c.stay.new.hub) (sym c.requires.stays)
    (stays_by g (n - 1) a b s t c.stay.new.hub by c.stay.ensures (record { runs = c.in_ok-ran.ensures.runs c.in-Ahead.is; unheard = c.run.ensures.unheard; few = c.in_ok-ran.ensures.few }))

pub step_any-requires : goal.step_any-requires
step_any-requires c =
    let s = c.args.hub.now in
    let n = c.in_ok-ran.ran.moves in
    let halt = c.in_ok-ran.ran.halt in
    let look = look_of (record { current = c.args.g; state = s }) in
    let none : n ≡ 0 = omega (arith, c.if-ran-eq0.true) in
    let few : s.moves + c.args.most < 2 ^ 64 = c.requires.few in
    let some : 0 < c.args.most = c.requires.some in
    let same = ran_nowhere (around s.scenario look) n c.args.running.now c.run.new.self none
    (ran_as s.scenario c.code.result.now look n halt Halt.Ahead c.args.running.now c.run.new.self c.code.ensures c.in-Ahead.is (c.in_ok-ran.ensures.ran look)) in
    record {
      stays = c.requires.stays;
      ready = as_before (λ (b : Frame). IsReadyToMove c.args.g (with_phase c.args.g (Phase.Live b) s)) c.args.running.now c.run.new.self same c.requires.ready;
      to_do = c.in_ok-ran.ensures.few;
      few = omega (arith, few, some);
      room = record { each = λ i less. c.requires.room.each i (omega (arith, less, some)) };
    }

pub returns-then-ran-eq0-clause-ends : goal.returns-then-ran-eq0-clause-ends
returns-then-ran-eq0-clause-ends c =
    let s = c.args.hub.now in
    let n = c.in_ok-ran.ran.moves in
    let halt = c.in_ok-ran.ran.halt in
    let look = look_of (record { current = c.args.g; state = s }) in
    let none : n ≡ 0 = omega (arith, c.if-ran-eq0.true) in
    let same = ran_nowhere (around s.scenario look) n c.args.running.now c.run.new.self none
    (ran_as s.scenario c.code.result.now look n halt Halt.Ahead c.args.running.now c.run.new.self c.code.ensures c.in-Ahead.is (c.in_ok-ran.ensures.ran look)) in
    ends_as_before c.run.new.self c.args.running.now (sym same) c.in_ok-step_any-in-Ahead.ensures

pub count_moves-requires : goal.count_moves-requires
count_moves-requires c =
    let n = c.in_ok-ran.ran.moves in
    let counted : n + 1 ≤ c.moves_ahead-ahead.result = counted_as n c.moves_ahead-ahead.result c.in_ok-ran.ran.halt Halt.Leaves c.in-Leaves.is c.in_ok-ran.ensures.counted in
    let ahead : c.moves_ahead-ahead.result ≤ c.args.most = c.moves_ahead-ahead.ensures.few in
    let few : c.args.hub.now.moves + c.args.most < 2 ^ 64 = c.requires.few in
    omega (arith, counted, ahead, few)

pub go_on_into-requires : goal.go_on_into-requires
go_on_into-requires c =
    let g = c.args.g in
    let s = c.args.hub.now in
    let a = c.args.running.now in
    let b = c.run.new.self in
    let n = c.in_ok-ran.ran.moves in
    let halt = c.in_ok-ran.ran.halt in
    let look = look_of (record { current = g; state = s }) in
    let most = c.moves_ahead-ahead.result in
    let counted : n + 1 ≤ most = counted_as n most halt Halt.Leaves c.in-Leaves.is c.in_ok-ran.ensures.counted in
    let ahead : most ≤ c.args.most = c.moves_ahead-ahead.ensures.few in
    let on = ran_as s.scenario c.code.result.now look n halt Halt.Leaves a b c.code.ensures c.in-Leaves.is (c.in_ok-ran.ensures.ran look) in
    let by = goes_by g n most a s c.count_moves.new.self (came_out b) c.moves_ahead-ahead.ensures.rest (omega (arith, counted)) c.requires.ready on c.count_moves.ensures in
    record { stays = c.requires.stays; to_do = c.in_ok-ran.ensures.few; declared = by.declared; room = subst (HasMoveRoom g) (sym c.count_moves.ensures) (c.requires.room.each n (omega (arith, counted, ahead))) }

pub returns-in_ok-go_on_into-in-Leaves-clause-ends : goal.returns-in_ok-go_on_into-in-Leaves-clause-ends
returns-in_ok-go_on_into-in-Leaves-clause-ends c =
    let g = c.args.g in
    let s = c.args.hub.now in
    let a = c.args.running.now in
    let b = c.run.new.self in
    let n = c.in_ok-ran.ran.moves in
    let halt = c.in_ok-ran.ran.halt in
    let look = look_of (record { current = g; state = s }) in
    let most = c.moves_ahead-ahead.result in
    let counted : n + 1 ≤ most = counted_as n most halt Halt.Leaves c.in-Leaves.is c.in_ok-ran.ensures.counted in
    let on = ran_as s.scenario c.code.result.now look n halt Halt.Leaves a b c.code.ensures c.in-Leaves.is (c.in_ok-ran.ensures.ran look) in
    let by = goes_by g n most a s c.count_moves.new.self (came_out b) c.moves_ahead-ahead.ensures.rest (omega (arith, counted)) c.requires.ready on c.count_moves.ensures in
    ends_by _ g n a c.go_on_into.new.running s c.count_moves.new.self c.go_on_into.new.hub (came_out b) by c.in_ok-go_on_into-in-Leaves.ensures

pub serve_quick-requires : goal.serve_quick-requires
serve_quick-requires c =
    let g = c.args.g in
    let s = c.args.hub.now in
    let a = c.args.running.now in
    let b = c.run.new.self in
    let n = c.in_ok-ran.ran.moves in
    let halt = c.in_ok-ran.ran.halt in
    let q = c.in-Asks.quick in
    let look = look_of (record { current = g; state = s }) in
    let most = c.moves_ahead-ahead.result in
    let counted : n + 1 ≤ most = counted_as n most halt (Halt.Asks q) c.in-Asks.is c.in_ok-ran.ensures.counted in
    let ahead : most ≤ c.args.most = c.moves_ahead-ahead.ensures.few in
    let on = ran_as s.scenario c.code.result.now look n halt (Halt.Asks q) a b c.code.ensures c.in-Asks.is (c.in_ok-ran.ensures.ran look) in
    let by = goes_by g n most a s c.count_moves-in-Asks.new.self (Came.Asks (request_of q) b) c.moves_ahead-ahead.ensures.rest (omega (arith, counted)) c.requires.ready on c.count_moves-in-Asks.ensures in
    record {
      stays = c.requires.stays;
      to_do = c.in_ok-ran.ensures.few;
      unheard = c.run.ensures.unheard;
      room = subst (HasMoveRoom g) (sym c.count_moves-in-Asks.ensures) (c.requires.room.each n (omega (arith, counted, ahead)));
      may_move = by.may_move;
      after = by.after;
    }

pub returns-in_ok-serve_quick-in-Asks-clause-ends : goal.returns-in_ok-serve_quick-in-Asks-clause-ends
returns-in_ok-serve_quick-in-Asks-clause-ends c =
    let g = c.args.g in
    let s = c.args.hub.now in
    let a = c.args.running.now in
    let b = c.run.new.self in
    let n = c.in_ok-ran.ran.moves in
    let halt = c.in_ok-ran.ran.halt in
    let q = c.in-Asks.quick in
    let look = look_of (record { current = g; state = s }) in
    let most = c.moves_ahead-ahead.result in
    let counted : n + 1 ≤ most = counted_as n most halt (Halt.Asks q) c.in-Asks.is c.in_ok-ran.ensures.counted in
    let on = ran_as s.scenario c.code.result.now look n halt (Halt.Asks q) a b c.code.ensures c.in-Asks.is (c.in_ok-ran.ensures.ran look) in
    c.in_ok-serve_quick-in-Asks.ensures n a s
    (goes_by g n most a s c.count_moves-in-Asks.new.self (Came.Asks (request_of q) b) c.moves_ahead-ahead.ensures.rest (omega (arith, counted)) c.requires.ready on c.count_moves-in-Asks.ensures)
