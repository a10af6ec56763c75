-- What stands in a result.
use Rattle.std.specs.Prelude.{Option, unwrap_or}
use Rattle.gv_values.specs.declared.value.Outcome.{Outcome}
use Rattle.machine.specs.declared.state.Object.{Object}
use Rattle.machine.specs.Objects.{no_object}
use Rattle.machine.specs.Waits.{result_of}

-- also in place of an object that is not declared
abbrev pub result_of_option : Option Object → Outcome
result_of_option x = result_of (unwrap_or x no_object)
