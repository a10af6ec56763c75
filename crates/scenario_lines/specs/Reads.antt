-- What a function that reads a line ensures: what reading gives, unless memory runs out.
use Rattle.std.specs.Prelude.{◌≡◌, List, [], ◌∷◌, Option, Some, None, Result, Ok, Err}
use Rattle.scenario_lines.specs.declared.refusal.LineRefusal.{LineRefusal}
use Rattle.scenario_lines.specs.declared.refusal.LineRefusal.TheVariants as refusal
use Rattle.scenario_grammar.specs.declared.token.Token.{Token}
use Rattle.scenario_grammar.specs.Reading.{Reading}
use Rattle.scenario_grammar.specs.declared.reason.TextReason.{TextReason}

-- a part was read and this is left, or the part is refused
abbrev pub Reads : {A : Type 0} → Reading A → Result A LineRefusal → List Token → Type 0
Reads reading (Ok x) new = reading ≡ Ok (x, new)
Reads reading (Err refusal.Memory) new = Unit {0}
Reads reading (Err (refusal.Reason r)) new = reading ≡ Err r

-- the first token, and the rest
abbrev pub NextToken : List Token → Option Token → List Token → Type 0
NextToken old None new = (old ≡ []) × (new ≡ [])
NextToken old (Some t) new = old ≡ t ∷ new

-- a whole line was read, or is refused
abbrev pub ReadsWhole : {A : Type 0} → Result A TextReason → Result A LineRefusal → Type 0
ReadsWhole reading (Ok x) = reading ≡ Ok x
ReadsWhole reading (Err refusal.Memory) = Unit {0}
ReadsWhole reading (Err (refusal.Reason r)) = reading ≡ Err r

-- the same was read, unless memory ran out
abbrev pub IsBoxed : {A : Type 0} → Result A LineRefusal → Result A LineRefusal → Type 0
IsBoxed read (Ok x) = read ≡ Ok x
IsBoxed read (Err refusal.Memory) = Unit {0}
IsBoxed read (Err (refusal.Reason r)) = read ≡ Err (refusal.Reason r)

-- both parts were read, or the second is refused
abbrev pub IsBoth : {A B : Type 0} → A → Result B LineRefusal → Result (A × B) LineRefusal → Type 0
IsBoth first second (Ok parts) = (first ≡ parts.0) × (second ≡ Ok parts.1)
IsBoth first second (Err refusal) = second ≡ Err refusal
