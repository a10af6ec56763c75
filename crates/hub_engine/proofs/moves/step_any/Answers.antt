use Rattle.std.proofs.Common.{◌≡◌, ◌+◌, ◌<◌, ◌^◌, ◌∙◌, ap, refl, sym, subst, ℕ, arith}
use Rattle.machine.specs.declared.state.Phase.{Phase}
use Rattle.machine.specs.Greenlets.{no_frame, with_phase}
use Rattle.machine.specs.State.{State}
use Rattle.machine_rooms.specs.Rooms.{room_of_move}
use Rattle.body_frames.specs.Places.{Came}
use Rattle.hub_engine.specs.Legs.{GoesBy}
use Rattle.hub_engine.specs.Progress.{next_of}
use Rattle.hub_engine.specs.Settlings.{HasMoveRoom}
use Rattle.hub_engine.specs.declared.stand.Progress.{Progress}
use Rattle.hub_engine.proofs.LegByLeg.{asks_so, comes_asking, ends_by, goes_once, moved_so, progresses_comes, progresses_inside}
use Rattle.hub_requests.proofs.Rooms.{room_drawn}
use Rattle.hub_engine.proofs.Moving.{asks_blind, asks_declared}
use Rattle.hub_engine.proofs.Staying.{came_from}
use Rattle.hub_engine.proofs.moves.step_any.Goals as goal

pub overflow_add-timeout : goal.overflow_add-timeout
overflow_add-timeout c =
    let s = c.args.hub.now in
    let few : s.timeouts + 1 < 2 ^ 32 = room_drawn room_of_move (with_phase c.args.g (Phase.Live no_frame) (record s { moves = s.moves + 1 })) ((c.requires.room.each 0 (omega arith)).any no_frame) in
    let same = c.timeouts-timeout.ensures in
    omega (arith, few, same)

pub come_to-requires : goal.come_to-requires
come_to-requires c =
    let g = c.args.g in
    let s = c.args.hub.now in
    let a = c.args.running.now in
    let by = goes_once g a s c.count_moves.new.self (came_from g s a) c.requires.ready refl c.count_moves.ensures in
    record { stays = c.requires.stays; declared = by.declared; room = subst (HasMoveRoom g) (sym c.count_moves.ensures) (c.requires.room.each 0 (omega arith)) }

pub enter_block-requires : goal.enter_block-requires
enter_block-requires c =
    let g = c.args.g in
    let s = c.args.hub.now in
    let a = c.args.running.now in
    let by = goes_once g a s c.count_moves.new.self (came_from g s a) c.requires.ready refl c.count_moves.ensures in
    record { stays = c.requires.stays; may_move = by.may_move; declared = by.declared; room = subst (HasMoveRoom g) (sym c.count_moves.ensures) (c.requires.room.each 0 (omega arith)) }

pub serve_beside-requires : goal.serve_beside-requires
serve_beside-requires c =
    let g = c.args.g in
    let s = c.args.hub.now in
    let a = c.args.running.now in
    let t = c.count_moves.new.self in
    let b = c.step.new.self in
    let n = t.timeouts + 1 in
    let same : c.timeouts-timeout.result + 1 ≡ n = ap (λ (k : ℕ). k + 1) c.timeouts-timeout.ensures ∙ ap (λ (x : State). x.timeouts + 1) (sym c.count_moves.ensures) in
    let request = c.in-Asks.request in
    let on = moved_so g (c.timeouts-timeout.result + 1) n s a c.code.result.now c.new.result c.in_ok-moved.moved b same c.code.ensures c.new.ensures c.in_ok-moved.ensures in
    let asks = asks_so n (came_from g s a) request c.in_ok-moved.moved b c.in-Asks.is on in
    let by = subst (GoesBy g 0 a s t) asks.0 (goes_once g a s t (came_from g s a) c.requires.ready refl c.count_moves.ensures) in
    record {
      stays = c.requires.stays;
      few = asks.1;
      may_move = by.may_move;
      fits = by.fits;
      leaves = sym c.leaves_greenlets.ensures ∙ c.if-not-leaves_greenlets.false;
      room = subst (HasMoveRoom g) (sym c.count_moves.ensures) (c.requires.room.each 0 (omega arith));
      after = asks_declared g request b t by.after;
    }

pub returns-in_ok-come_to-in-Comes : goal.returns-in_ok-come_to-in-Comes
returns-in_ok-come_to-in-Comes c =
    let g = c.args.g in
    let s = c.args.hub.now in
    let a = c.args.running.now in
    let t = c.count_moves.new.self in
    let b = c.step.new.self in
    let n = t.timeouts + 1 in
    let same : c.timeouts-timeout.result + 1 ≡ n = ap (λ (k : ℕ). k + 1) c.timeouts-timeout.ensures ∙ ap (λ (x : State). x.timeouts + 1) (sym c.count_moves.ensures) in
    let p = c.come_to.new.left in
    let v = c.come_to.new.hub in
    let on = moved_so g (c.timeouts-timeout.result + 1) n s a c.code.result.now c.new.result c.in_ok-moved.moved b same c.code.ensures c.new.ensures c.in_ok-moved.ensures in
    ends_by p g 0 a b s t v (came_from g s a) (goes_once g a s t (came_from g s a) c.requires.ready refl c.count_moves.ensures)
    (progresses_comes p g n (came_from g s a) c.in-Comes.to c.in_ok-moved.moved b t v c.in-Comes.is on c.in_ok-come_to-in-Comes.ensures)

pub returns-in_ok-enter_block-in-Enters : goal.returns-in_ok-enter_block-in-Enters
returns-in_ok-enter_block-in-Enters c =
    let g = c.args.g in
    let s = c.args.hub.now in
    let a = c.args.running.now in
    let t = c.count_moves.new.self in
    let b = c.step.new.self in
    let n = t.timeouts + 1 in
    let same : c.timeouts-timeout.result + 1 ≡ n = ap (λ (k : ℕ). k + 1) c.timeouts-timeout.ensures ∙ ap (λ (x : State). x.timeouts + 1) (sym c.count_moves.ensures) in
    let p = c.enter_block.new.left in
    let v = c.enter_block.new.hub in
    let on = moved_so g (c.timeouts-timeout.result + 1) n s a c.code.result.now c.new.result c.in_ok-moved.moved b same c.code.ensures c.new.ensures c.in_ok-moved.ensures in
    ends_by p g 0 a b s t v (came_from g s a) (goes_once g a s t (came_from g s a) c.requires.ready refl c.count_moves.ensures)
    (progresses_inside p g n (came_from g s a) c.in-Enters.after c.in-Enters.to c.in_ok-moved.moved b t v c.in-Enters.is on c.in_ok-enter_block-in-Enters.ensures)

pub returns-then-not-leaves_greenlets : goal.returns-then-not-leaves_greenlets
returns-then-not-leaves_greenlets c =
    let g = c.args.g in
    let s = c.args.hub.now in
    let a = c.args.running.now in
    let t = c.count_moves.new.self in
    let b = c.step.new.self in
    let n = t.timeouts + 1 in
    let same : c.timeouts-timeout.result + 1 ≡ n = ap (λ (k : ℕ). k + 1) c.timeouts-timeout.ensures ∙ ap (λ (x : State). x.timeouts + 1) (sym c.count_moves.ensures) in
    let request = c.in-Asks.request in
    let p = Progress.Asks request in
    let on = moved_so g (c.timeouts-timeout.result + 1) n s a c.code.result.now c.new.result c.in_ok-moved.moved b same c.code.ensures c.new.ensures c.in_ok-moved.ensures in
    let asks = asks_so n (came_from g s a) request c.in_ok-moved.moved b c.in-Asks.is on in
    let by = subst (GoesBy g 0 a s t) asks.0 (goes_once g a s t (came_from g s a) c.requires.ready refl c.count_moves.ensures) in
    ends_by p g 0 a b s t t (Came.Asks request b) by
    (record {
      comes = λ before. asks_blind g before b request t (next_of p g b t) refl;
      may = record {
        few = asks.1;
        may_move = by.may_move;
        fits = by.fits;
        room = subst (HasMoveRoom g) (sym c.count_moves.ensures) (c.requires.room.each 0 (omega arith));
        after = asks_declared g request b t by.after;
      };
    })

pub returns-in_ok-serve_beside-in-Asks : goal.returns-in_ok-serve_beside-in-Asks
returns-in_ok-serve_beside-in-Asks c =
    let g = c.args.g in
    let s = c.args.hub.now in
    let a = c.args.running.now in
    let t = c.count_moves.new.self in
    let b = c.step.new.self in
    let n = t.timeouts + 1 in
    let same : c.timeouts-timeout.result + 1 ≡ n = ap (λ (k : ℕ). k + 1) c.timeouts-timeout.ensures ∙ ap (λ (x : State). x.timeouts + 1) (sym c.count_moves.ensures) in
    let request = c.in-Asks.request in
    let p = c.serve_beside.new.left in
    let on = moved_so g (c.timeouts-timeout.result + 1) n s a c.code.result.now c.new.result c.in_ok-moved.moved b same c.code.ensures c.new.ensures c.in_ok-moved.ensures in
    let asks = asks_so n (came_from g s a) request c.in_ok-moved.moved b c.in-Asks.is on in
    let by = subst (GoesBy g 0 a s t) asks.0 (goes_once g a s t (came_from g s a) c.requires.ready refl c.count_moves.ensures) in
    ends_by p g 0 a c.serve_beside.new.running s t c.serve_beside.new.hub (Came.Asks request b) by
    (comes_asking p g request b c.serve_beside.new.running t c.serve_beside.new.hub c.in_ok-serve_beside-in-Asks.ensures)
