-- Laws of sessions, which functions of src/laws.rt prove.
use Rattle.std.specs.Prelude.{◌≡◌, ℕ, Bool, true, false, List, [], ◌∷◌, ◌++◌}
use Rattle.wsgi_core.specs.declared.session.Session.{Session}
use Rattle.wsgi_core.specs.Applications.{App}
use Rattle.wsgi_core.specs.Session.{session}
use Rattle.wsgi_core.specs.Standings.{IsFed, IsTaken}
use Rattle.wsgi_core.specs.Steps.{IsAt, StandsAt}

-- ---- feeds and takes

-- what is done to a session: it is fed a piece, or bytes are taken from it
pub data Call : Type 0 where
  Feed : List ℕ → Call
  Take : List ℕ → Call

-- the pieces joined
abbrev pub fed_by : List Call → List ℕ
fed_by [] = []
fed_by (Call.Feed piece ∷ calls) = piece ++ fed_by calls
fed_by (Call.Take bytes ∷ calls) = fed_by calls

-- the bytes that were taken, joined
abbrev pub taken_by : List Call → List ℕ
taken_by [] = []
taken_by (Call.Feed piece ∷ calls) = taken_by calls
taken_by (Call.Take bytes ∷ calls) = bytes ++ taken_by calls

-- by these calls, in order, the old session became the new one: each is what the clauses of `feed` and `took` say
abbrev pub Becomes : App → List Call → Session → Session → Type 0
Becomes app [] old new = new ≡ old
Becomes app (Call.Feed piece ∷ calls) old new = (s : Session) × IsFed StandsAt IsAt app piece old s × Becomes app calls s new
Becomes app (Call.Take bytes ∷ calls) old new = (s : Session) × IsTaken IsAt bytes old s × Becomes app calls s new

-- ---- more bytes

-- Whatever bytes follow, what was sent begins what is sent. A session that closed stays closed, and one that closed
-- before its input ended says nothing more.
pub record NeverTakesBack (app : App) (port : ℕ) (bytes more : List ℕ) (ended : Bool) : Type 0 where
  pub tail : List ℕ
  pub longer : (session app port (bytes ++ more) ended).bytes ≡ (session app port bytes ended).bytes ++ tail
  pub closed : (session app port bytes ended).closes ≡ true → (session app port (bytes ++ more) ended).closes ≡ true
  pub done : (session app port bytes false).closes ≡ true
      → (session app port (bytes ++ more) ended).bytes ≡ (session app port bytes ended).bytes
