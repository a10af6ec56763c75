-- What a connection is sent whose bytes a source gives.
use Rattle.std.specs.Prelude.{◌≡◌, ℕ, ◌+◌, ◌≤◌, Bool, true, false, List, [], ◌++◌, length, take, nat_le, Option, IfSome}
use Rattle.gv_io.specs.Streams.{appended, prepended, AppendsPrefix, Extends}
use Rattle.gv_io.specs.declared.limits.TheConstants.{MOST_PIECE}
use Rattle.wsgi_core.specs.Answer.{Sent}
use Rattle.wsgi_core.specs.Applications.{App}
use Rattle.wsgi_core.specs.Talk.{Gateway, said_by}
use Rattle.wsgi_connection.specs.declared.connection.TheConstants.{MOST_CONNECTION}
use Rattle.wsgi_connection.specs.declared.connection.ConnectionEnd.{ConnectionEnd}
use Rattle.wsgi_connection.specs.declared.connection.ConnectionEnd.TheVariants.{Closed, TooLong, ReadFault, WriteFault, Memory}

-- out has what the session sends for the bytes, and it goes on
pub record IsServed (answers : Gateway) (app : App) (port : ℕ) (bytes : List ℕ) (out0 out1 : Option (List ℕ)) : Type 0 where
  pub sent : out1 ≡ appended out0 (said_by answers app port bytes false).bytes
  pub serves : (said_by answers app port bytes false).closes ≡ false

-- out has what the session sends for the bytes that were read, and it closes; an input that ended has nothing left
pub record IsClosed (answers : Gateway) (app : App) (port : ℕ) (read : List ℕ) (in1 out0 out1 : Option (List ℕ)) : Type 0 where
  pub ended : Bool
  pub sent : out1 ≡ appended out0 (said_by answers app port (take MOST_CONNECTION read) ended).bytes
  pub closes : (said_by answers app port (take MOST_CONNECTION read) ended).closes ≡ true
  pub end : ended ≡ true → IfSome in1 (λ left. left ≡ [])
  pub within : ended ≡ true → length read ≤ MOST_CONNECTION

-- what is sent for these bytes, but for those of the last read, stands in out or was handed on
pub record SentAhead (answers : Gateway) (app : App) (port : ℕ) (bytes : List ℕ) (out0 now : Option (List ℕ)) : Type 0 where
  pub before : List ℕ
  pub last : List ℕ
  pub is : bytes ≡ before ++ last
  pub short : length last ≤ MOST_PIECE
  pub stands : Extends (appended out0 (said_by answers app port before false).bytes) now

-- What was sent for the bytes that were read; past the most bytes nothing is looked at. It is said of the end alone, and
-- with `SentAhead` shows what stood in between: what is due is still to be written, and any write may be the one that
-- fails. So the answers to more bytes than one read gives are never due.
abbrev pub SentFor : ConnectionEnd → Gateway → App → ℕ → List ℕ → Option (List ℕ) → Option (List ℕ) → Option (List ℕ) → Type 0
SentFor Closed answers app port read in1 out0 out1 = IsClosed answers app port read in1 out0 out1
SentFor TooLong answers app port read in1 out0 out1 = (length read ≡ MOST_CONNECTION + 1) × IsServed answers app port (take MOST_CONNECTION read) out0 out1
SentFor ReadFault answers app port read in1 out0 out1 = (length read ≤ MOST_CONNECTION) × IsServed answers app port read out0 out1
SentFor WriteFault answers app port read in1 out0 out1 = AppendsPrefix out0 out1 (said_by answers app port (take MOST_CONNECTION read) false).bytes
SentFor Memory answers app port read in1 out0 out1 = AppendsPrefix out0 out1 (said_by answers app port (take MOST_CONNECTION read) false).bytes

-- a connection that ended so: what was read of the input, and what was sent for it
pub record Exchanged (end : ConnectionEnd) (answers : Gateway) (app : App) (port : ℕ) (in0 in1 out0 out1 : Option (List ℕ)) : Type 0 where
  pub read : List ℕ
  pub is_read : in0 ≡ prepended read in1
  pub within : length read ≤ MOST_CONNECTION + 1
  pub sent : SentFor end answers app port read in1 out0 out1
  pub ahead : SentAhead answers app port (take MOST_CONNECTION read) out0 out1

-- Before the last read all that was due for the bytes before it was handed on. This too shows what stood in between, as
-- any flush may be the one that fails.
pub record HandedAhead (answers : Gateway) (app : App) (port : ℕ) (in0 in1 out0 handed1 : Option (List ℕ)) : Type 0 where
  pub read : List ℕ
  pub is_read : in0 ≡ prepended read in1
  pub ahead : SentAhead answers app port (take MOST_CONNECTION read) out0 handed1

-- what is sent for all that was left of an input; the end is not told where there is more than is looked at
abbrev pub whole_session : Gateway → App → ℕ → List ℕ → Sent
whole_session answers app port left = said_by answers app port (take MOST_CONNECTION left) (nat_le (length left) MOST_CONNECTION)
