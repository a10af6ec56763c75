-- How the run of a scenario is broken off.
use Rattle.std.specs.Prelude.{◌≡◌, ℕ, Bool, true, false, List, Option}
use Rattle.hub_engine.specs.declared.run.EngineEnd.{EngineEnd}

-- the run was broken off: its trace could not be written, or memory ran out
abbrev pub is_broken_off : EngineEnd → Bool
is_broken_off EngineEnd.WriteFault = true
is_broken_off EngineEnd.Memory = true
is_broken_off end = false

-- no run was begun: memory ran out, and out is as it was
abbrev pub HadNoMemory : EngineEnd → Option (List ℕ) → Option (List ℕ) → Type 0
HadNoMemory end out0 out1 = (out1 ≡ out0) × (end ≡ EngineEnd.Memory)
