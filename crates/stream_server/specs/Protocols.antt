-- What a server says over its connections, and how its side of one stands.
use Rattle.std.specs.Prelude.{◌≡◌, ℕ, Bool, false, List, ◌++◌}
use Rattle.wsgi_core.specs.Applications.{App}
use Rattle.wsgi_core.specs.Standings.{Standing}
use Rattle.stream_server.specs.Speeches.{Speech}

-- the application that answers each connection, by its number
abbrev pub Apps : Type 0
Apps = ℕ → App

-- the talk was fed these bytes, was told of their end or not, and those were taken from it
abbrev pub TalkState : Type 0 → Type 1
TalkState T = List ℕ → Bool → List ℕ → T → Type 0

-- Of an application and a port: what is said to all bytes, and where a talk stands. Of a talk: what is pending, whether
-- a request waits at it for its reply, whether its connection is held for that, and the deadline that it had before it
-- was held.
pub record Protocol (T : Type 0) : Type 1 where
  pub said : App → ℕ → Speech
  pub at : Standing T
  pub due : T → List ℕ
  pub asks : T → Bool
  pub holds : T → Bool
  pub kept : T → ℕ

-- the same of one application at one port: one side of a connection
pub record Side (T : Type 0) : Type 1 where
  pub said : Speech
  pub at : TalkState T
  pub due : T → List ℕ
  pub asks : T → Bool
  pub holds : T → Bool
  pub kept : T → ℕ

abbrev pub side_of : {T : Type 0} → Protocol T → App → ℕ → Side T
side_of P app port = record { said = P.said app port; at = P.at app port; due = P.due; asks = P.asks; holds = P.holds; kept = P.kept }

-- the bytes begin with what was taken and what is pending
abbrev pub IsFront : List ℕ → List ℕ → List ℕ → Type 0
IsFront bytes taken due = (tail : List ℕ) × (bytes ≡ taken ++ due ++ tail)

-- what was taken and what is pending begin what it says, and are all of it where no request waits
pub record IsLawful {T : Type 0} (S : Side T) : Type 0 where
  pub all_said : (fed : List ℕ) (ended : Bool) (taken : List ℕ) (t : T) → S.at fed ended taken t → S.asks t ≡ false → taken ++ S.due t ≡ (S.said fed ended).bytes
  pub begun : (fed : List ℕ) (ended : Bool) (taken : List ℕ) (t : T) → S.at fed ended taken t → IsFront (S.said fed ended).bytes taken (S.due t)
