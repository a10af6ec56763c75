-- What is made of parts that were read, or why one was refused.
use Rattle.std.specs.Prelude.{◌≡◌, List, [], ◌∷◌, ◌++◌, Result, Ok, Err}
use Rattle.scenario_grammar.specs.declared.token.Token.{Token}
use Rattle.scenario_grammar.specs.Reading.{Reading, ◌>>=◌}
use Rattle.scenario_lines.specs.declared.refusal.LineRefusal.{LineRefusal}
use Rattle.scenario_lines.specs.declared.refusal.LineRefusal.TheVariants as refusal
use Rattle.scenario_lines.specs.Reads.{Reads}

-- so much is made of the part, from wherever that was read
abbrev pub Makes : {A B : Type 0} → (A → B) → Result A LineRefusal → Result B LineRefusal → Type 0
Makes make part made = (reading : Reading _) (rest : List Token) → Reads reading part rest → Reads (reading >>= λ x. Ok (make x.0, x.1)) made rest

-- this is why a part was refused, or memory ran out
abbrev pub Refuses : {A : Type 0} → Result A LineRefusal → LineRefusal → Type 0
Refuses part refusal.Memory = Unit {0}
Refuses part (refusal.Reason r) = part ≡ Err (refusal.Reason r)

-- the part that was read stands behind those before it
abbrev pub IsLast : {A : Type 0} → Result A LineRefusal → List A → List A → Type 0
IsLast (Ok x) before parts = parts ≡ before ++ x ∷ []
IsLast (Err e) before parts = ⊥

-- the part stands behind those before it, or is refused
abbrev pub Pushes : {A : Type 0} → Result A LineRefusal → List A → Result (Unit {0}) LineRefusal → List A → Type 0
Pushes part before (Ok done) parts = IsLast part before parts
Pushes part before (Err e) parts = Refuses part e
