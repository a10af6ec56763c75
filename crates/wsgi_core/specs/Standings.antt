-- What is known of one side of a connection between two calls, and what a call makes of it. `old` and `new` are it
-- before and after the call; what is said holds whatever was done to it before.
use Rattle.std.specs.Prelude.{◌≡◌, ℕ, Bool, true, false, List, [], ◌++◌}
use Rattle.wsgi_core.specs.Answer.{Sent}
use Rattle.wsgi_core.specs.Applications.{App}
use Rattle.wsgi_core.specs.Talk.{Gateway}

-- its application, its port, the bytes that it was fed, whether it was told of their end, and the bytes taken from it
abbrev pub Standing : Type 0 → Type 1
Standing T = App → ℕ → List ℕ → Bool → List ℕ → T → Type 0

-- the same of one that ran out of memory, whether or not it was told of the end
abbrev pub CutStanding : Type 0 → Type 1
CutStanding T = App → ℕ → List ℕ → List ℕ → T → Type 0

-- nothing was fed and nothing taken
abbrev pub IsBegun : {T : Type 0} → Standing T → ℕ → T → Type 0
IsBegun at port t = (app : App) → at app port [] false [] t

-- before its end it was fed a piece
abbrev pub IsFed : {T : Type 0} → Standing T → Standing T → App → List ℕ → T → T → Type 0
IsFed before after app piece old new =
    (port : ℕ) (fed taken : List ℕ) → before app port fed false taken old → after app port (fed ++ piece) false taken new

-- it ran out of memory at a piece
abbrev pub IsCutBy : {T : Type 0} → Standing T → CutStanding T → App → List ℕ → T → T → Type 0
IsCutBy at cut app piece old new =
    (port : ℕ) (fed taken : List ℕ) → at app port fed false taken old → cut app port (fed ++ piece) taken new

-- one that was told of the end stays as it was
abbrev pub StaysEnded : {T : Type 0} → Standing T → T → T → Type 0
StaysEnded at old new =
    (app : App) (port : ℕ) (fed taken : List ℕ) → at app port fed true taken old → at app port fed true taken new

-- one that ran out of memory stays as it was
abbrev pub StaysCut : {T : Type 0} → CutStanding T → T → T → Type 0
StaysCut cut old new = (app : App) (port : ℕ) (fed taken : List ℕ) → cut app port fed taken old → cut app port fed taken new

-- it was told of the end, perhaps again
abbrev pub IsToldTheEnd : {T : Type 0} → Standing T → T → T → Type 0
IsToldTheEnd at old new =
    (app : App) (port : ℕ) (fed : List ℕ) (ended : Bool) (taken : List ℕ) → at app port fed ended taken old
    → at app port fed true taken new

-- these bytes were taken from it
abbrev pub IsTaken : {T : Type 0} → Standing T → List ℕ → T → T → Type 0
IsTaken at bytes old new =
    (app : App) (port : ℕ) (fed : List ℕ) (ended : Bool) (taken : List ℕ) → at app port fed ended taken old
    → at app port fed ended (taken ++ bytes) new

-- these bytes were taken from one that ran out of memory
abbrev pub IsTakenCut : {T : Type 0} → CutStanding T → List ℕ → T → T → Type 0
IsTakenCut cut bytes old new =
    (app : App) (port : ℕ) (fed taken : List ℕ) → cut app port fed taken old → cut app port fed (taken ++ bytes) new

-- what was taken and these bytes are all that is sent
abbrev pub IsAllSaid : {T : Type 0} → Gateway → Standing T → List ℕ → T → Type 0
IsAllSaid answers at due t =
    (app : App) (port : ℕ) (fed : List ℕ) (ended : Bool) (taken : List ℕ) → at app port fed ended taken t
    → taken ++ due ≡ (answers app port fed).bytes

-- what was taken and these bytes begin what is sent
abbrev pub IsBegunSaid : {T : Type 0} → Gateway → Standing T → List ℕ → T → Type 0
IsBegunSaid answers at due t =
    (app : App) (port : ℕ) (fed : List ℕ) (ended : Bool) (taken : List ℕ) → at app port fed ended taken t
    → (tail : List ℕ) × ((answers app port fed).bytes ≡ taken ++ due ++ tail)

-- the same of one that ran out of memory
abbrev pub IsCutSaid : {T : Type 0} → Gateway → CutStanding T → List ℕ → T → Type 0
IsCutSaid answers cut due t =
    (app : App) (port : ℕ) (fed taken : List ℕ) → cut app port fed taken t
    → (tail : List ℕ) × ((answers app port fed).bytes ≡ taken ++ due ++ tail)

-- b goes on where a stops, and is a where a closes
pub record IsBefore (a b : Sent) : Type 0 where
  pub tail : List ℕ
  pub longer : b.bytes ≡ a.bytes ++ tail
  pub done : a.closes ≡ true → b ≡ a
