-- What a body that is under way may ask of the hub.
use Rattle.std.specs.Prelude.{◌==◌, ℕ, Option, None, slice_get, if◌then◌else◌}
use Rattle.gv_values.specs.declared.value.Outcome.{Outcome}
use Rattle.gv_values.specs.declared.value.Whom.{Whom}
use Rattle.machine.specs.Expressions.{Look}
use Rattle.machine.specs.Holds.{outcome_of}
use Rattle.machine.specs.Moves.{is_set_object, size_of_object, unfinished_of_object}
use Rattle.machine.specs.State.{State}

-- a state, and the greenlet that is under way in it
pub record Sight : Type 0 where
  pub current : ℕ
  pub state : State

-- what the greenlet or job has come to; the greenlet that is under way has not ended
abbrev pub outcome_seen : Sight → Whom → Option Outcome
outcome_seen s (Whom.Greenlet g) = if g == s.current then None else outcome_of s.state (Whom.Greenlet g)
outcome_seen s (Whom.Job j) = outcome_of s.state (Whom.Job j)

abbrev pub look_of : Sight → Look
look_of s = record {
  current = s.current;
  outcome = outcome_seen s;
  is_set = λ o. is_set_object (slice_get s.state.objects o);
  size = λ o. size_of_object (slice_get s.state.objects o);
  unfinished = λ o. unfinished_of_object (slice_get s.state.objects o);
}
