-- Room for fewer steps, room that is kept, and how much room is enough.
use Rattle.std.proofs.Common.{ℕ, ◌≤◌, arith}
use Rattle.machine.specs.State.{State}
use Rattle.machine_rooms.specs.Counts.{AreFarBelow}
use Rattle.machine_rooms.specs.Rooms.{HasRoom}
use Rattle.machine_rooms.specs.Steps.{Fixed, HasSteps}
use Rattle.machine_rooms.proofs.Ledger.{counts-fewer}
use Rattle.machine_rooms.proofs.Tallies.{ends-few, kills-and-others}

-- more room is room
pub room-fewer : (n m : ℕ) (s : State) → m ≤ n → HasRoom n s → HasRoom m s
room-fewer n m s few r = record { fixed = r.fixed; few_moves = r.few_moves; few_answers = r.few_answers; countable = r.countable; steps = counts-fewer r.fixed n m s few r.steps }

-- what keeps steps keeps room
pub room-kept : (n m : ℕ) (s t : State) → ((b : Fixed) → HasSteps b n s → HasSteps b m t) → HasRoom n s → HasRoom m t
room-kept n m s t f r = record { fixed = r.fixed; few_moves = r.few_moves; few_answers = r.few_answers; countable = r.countable; steps = f r.fixed r.steps }

pub room-ample : (n : ℕ) (s : State) → HasRoom n s → AreFarBelow s
room-ample n s r =
    let h = r.steps in
    let moves = r.few_moves in
    let answers = r.few_answers in
    let ended = ends-few s.greenlets in
    let all = kills-and-others s.items in
    record {
      timeouts = omega (arith, ended);
      jobs = omega (arith, ended);
      links = omega arith;
      greenlets = omega arith;
      items = omega (arith, ended, all);
      objects = λ o. let own = h.objects o in let far = r.countable o in omega (arith, ended, own, far);
      sinces = omega (arith, ended);
      numbers = omega (arith, ended);
    }
