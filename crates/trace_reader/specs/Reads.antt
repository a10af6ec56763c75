-- What a function that reads the front of a text ensures: what the definitions read there, unless memory runs out.
use Rattle.std.specs.Prelude.{◌≡◌, Bool, true, false, Some, None, Result, Ok, Err}
use Rattle.gv_values.specs.Texts.{Text}
use Rattle.trace_reader.specs.declared.fault.LineFault.{LineFault}
use Rattle.trace_reader.specs.declared.fault.LineFault.TheVariants as fault
use Rattle.trace_reader.specs.Fronts.{Front, strip}

-- the value was read, and this is the rest; or nothing is read there
abbrev pub Reads : {A : Type 0} → Front A → Result A LineFault → Text → Type 0
Reads front (Ok x) rest = front ≡ Some (x, rest)
Reads front (Err fault.NotALine) rest = front ≡ None
Reads front (Err fault.Memory) rest = Unit {0}

-- the word came first and was taken, or all is as before
abbrev pub Takes : Text → Text → Bool → Text → Type 0
Takes word text true rest = strip word text ≡ Some rest
Takes word text false rest = (strip word text ≡ None) × (rest ≡ text)

-- the word came first and was taken, or it does not come first
abbrev pub Passes : {A : Type 0} → Text → Text → Result A LineFault → Text → Type 0
Passes word text (Ok x) rest = strip word text ≡ Some rest
Passes word text (Err fault.NotALine) rest = strip word text ≡ None
Passes word text (Err fault.Memory) rest = Unit {0}
