-- That a greenlet goes on soundly, and that what it makes is new.
use Rattle.std.proofs.Common.{◌≡◌, sym, subst, ℕ, ◌+◌, true, Some}
use Rattle.trace_text.specs.declared.line.Line.{Line}
use Rattle.machine.specs.declared.state.Frame.{Frame}
use Rattle.machine.specs.declared.state.Phase.{Phase}
use Rattle.machine.specs.State.{State, say}
use Rattle.machine.specs.Deliveries.{without_wait}
use Rattle.machine.specs.Greenlets.{no_frame, with_phase}
use Rattle.machine.specs.Hosts.{host_of}
use Rattle.machine.specs.Soundness.{Claim, is_unclaimed}
use Rattle.machine_soundness.proofs.Performs.{timeout-unclaimed}
use Rattle.machine_soundness.proofs.States.{Moves, moves-live, moving}
use Rattle.hub_requests.specs.Making.{MayMake}
use Rattle.hub_requests.proofs.Soundly.{from-moves}
use Rattle.hub_engine.specs.Making.{MayMove}
use Rattle.hub_engine.specs.Ready.{IsReadyToMove}
use Rattle.hub_engine.proofs.Blind.{with_phase_twice}
use Rattle.hub_engine.proofs.Readily.{going_sound}

-- the timeout of the next number is new
pub timeout_free : (g n : ℕ) (s t u : State) → MayMove g s → t ≡ with_phase g (Phase.Live no_frame) s → n ≡ t.timeouts + 1 → u ≡ record t { timeouts = t.timeouts + 1 } →
    is_unclaimed (Some (Claim.TimeoutNumbered n)) u.items ≡ true
timeout_free g n s t u h e f k =
    subst (λ (x : State). is_unclaimed (Some (Claim.TimeoutNumbered n)) x.items ≡ true) (sym k)
    (subst (λ (m : ℕ). is_unclaimed (Some (Claim.TimeoutNumbered m)) t.items ≡ true) (sym f)
    (subst (λ (x : State). is_unclaimed (Some (Claim.TimeoutNumbered (x.timeouts + 1))) x.items ≡ true) (sym e) (timeout-unclaimed (with_phase g (Phase.Live no_frame) s) (h.any no_frame).sound.0)))

-- where its body waits for an answer
pub sound_parked : (g : ℕ) (frame : Frame) (s t : State) → MayMove g s → t ≡ with_phase g (Phase.Live frame) s → MayMake g t
sound_parked g frame s t h e = subst (MayMake g) (sym e) (h.any frame)

-- where a move was counted
pub sound_counted : (g : ℕ) (body : Frame) (s t : State) → IsReadyToMove g (with_phase g (Phase.Live body) s) → t ≡ record s { moves = s.moves + 1 } → MayMove g t
sound_counted g body s t ready e = subst (MayMove g) (sym e) (record { any = each })
  where
    each : (frame : Frame) → MayMake g (with_phase g (Phase.Live frame) (record s { moves = s.moves + 1 }))
    each frame =
        let h = going_sound g (with_phase g (Phase.Live body) s) ready in
        let u = with_phase g (Phase.Live body) s in
        let m : Moves g (host_of u g) (with_phase g (Phase.Live frame) u) = moves-live g (host_of u g) frame u (moving g u h.0 h.1) in
        let n : MayMake g (with_phase g (Phase.Live frame) s) =
        subst (MayMake g) (with_phase_twice g (Phase.Live body) (Phase.Live frame) s) (from-moves g (host_of u g) (with_phase g (Phase.Live frame) u) m) in
        record {
          sound = (
            record { sound = n.sound.0.sound; owners = n.sound.0.owners; members = n.sound.0.members; main = n.sound.0.main },
            record { live = n.sound.1.live; host = n.sound.1.host; host_live = n.sound.1.host_live; free = n.sound.1.free },
          );
        }

-- where its wait is over
pub sound_woken : (g : ℕ) (line : Line) (s t u : State) → MayMake g (without_wait g s) → t ≡ say line s → u ≡ without_wait g t → MayMake g u
sound_woken g line s t u h e f =
    subst (MayMake g) (sym f)
    (subst (λ (x : State). MayMake g (without_wait g x)) (sym e)
    (record {
      sound = (
        record { sound = h.sound.0.sound; owners = h.sound.0.owners; members = h.sound.0.members; main = h.sound.0.main },
        record { live = h.sound.1.live; host = h.sound.1.host; host_live = h.sound.1.host_live; free = h.sound.1.free },
      );
    }))
