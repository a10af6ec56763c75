-- A connection between two pieces.
use Rattle.std.specs.Prelude.{◌≡◌, ℕ, ◌+◌, ◌<◌, ◌≤◌, false, List, ◌++◌, length, take, Option}
use Rattle.gv_io.specs.Streams.{appended, prepended, AppendsPrefix}
use Rattle.wsgi_core.specs.Applications.{App}
use Rattle.wsgi_core.specs.Talk.{Gateway, said_by}
use Rattle.wsgi_core.specs.Standings.{Standing}
use Rattle.wsgi_connection.specs.declared.connection.TheConstants.{MOST_CONNECTION}
use Rattle.wsgi_connection.specs.declared.connection.ConnectionEnd.{ConnectionEnd}
use Rattle.wsgi_connection.specs.declared.connection.ConnectionEnd.TheVariants.{WriteFault, Memory}
use Rattle.wsgi_connection.specs.declared.connection.Turn.{Turn}
use Rattle.wsgi_connection.specs.declared.connection.Turn.TheVariants.{Answered, Ended}
use Rattle.wsgi_connection.specs.Connection.{Exchanged, IsServed}

-- what is sent for these bytes
abbrev pub said : Gateway → App → ℕ → List ℕ → List ℕ
said answers app port fed = (said_by answers app port fed false).bytes

-- the session was fed these bytes, and all that it sends for them was taken
abbrev pub IsAtRest : {T : Type 0} → Gateway → Standing T → App → ℕ → List ℕ → T → Type 0
IsAtRest answers at app port fed s = at app port fed false (said answers app port fed) s

-- so many bytes were read, the session was fed those that are looked at, what it sends for them is out, and it goes on
pub record Goes {T : Type 0} (answers : Gateway) (at : Standing T) (app : App) (port count : ℕ) (in0 in1 out0 out1 : Option (List ℕ)) (s : T) : Type 0 where
  pub read : List ℕ
  pub is_read : in0 ≡ prepended read in1
  pub is_long : length read ≡ count
  pub at_rest : IsAtRest answers at app port (take MOST_CONNECTION read) s
  pub served : IsServed answers app port (take MOST_CONNECTION read) out0 out1

-- a turn takes bytes, and one at most past those that are looked at
abbrev pub Counts : Turn → ℕ → Type 0
Counts (Answered n) count = (0 < n) × (count + n ≤ MOST_CONNECTION + 1)
Counts (Ended end) count = Unit {0}

-- what a turn leaves
abbrev pub Leaves : {T : Type 0} → Turn → Gateway → Standing T → App → ℕ → ℕ → Option (List ℕ) → Option (List ℕ) → Option (List ℕ) → Option (List ℕ) → T → Type 0
Leaves (Answered n) answers at app port count in0 in1 out0 out1 s = Goes answers at app port (count + n) in0 in1 out0 out1 s
Leaves (Ended end) answers at app port count in0 in1 out0 out1 s = Exchanged end answers app port in0 in1 out0 out1

-- what is out begins what the session sends for all that it was fed, the piece too
abbrev pub IsCut : {T : Type 0} → Gateway → Standing T → App → List ℕ → T → Option (List ℕ) → Option (List ℕ) → Type 0
IsCut answers at app piece s old new = (port : ℕ) (fed : List ℕ) (out0 : Option (List ℕ)) → IsAtRest answers at app port fed s
    → old ≡ appended out0 (said answers app port fed)
    → AppendsPrefix out0 new (said answers app port (fed ++ piece))

-- a piece was not answered whole, for want of memory or by a write that failed
abbrev pub Breaks : {T : Type 0} → ConnectionEnd → Gateway → Standing T → App → List ℕ → T → Option (List ℕ) → Option (List ℕ) → Type 0
Breaks WriteFault answers at app piece s old new = IsCut answers at app piece s old new
Breaks Memory answers at app piece s old new = IsCut answers at app piece s old new
Breaks end answers at app piece s old new = ⊥
