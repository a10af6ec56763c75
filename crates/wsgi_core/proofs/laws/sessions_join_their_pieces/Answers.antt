use Rattle.std.proofs.Common.{◌≡◌, ℕ, false, List, [], ◌∷◌, ◌++◌, sym, subst, append_assoc, append-nil}
use Rattle.wsgi_core.specs.declared.session.Session.{Session}
use Rattle.wsgi_core.specs.Applications.{App}
use Rattle.wsgi_core.specs.Laws.{Becomes, Call, fed_by, taken_by}
use Rattle.wsgi_core.specs.Steps.{IsAt, said_bytes}
use Rattle.wsgi_core.proofs.laws.sessions_join_their_pieces.Goals as goal

at_fed : (app : App) (port : ℕ) (fed more taken : List ℕ) (s : Session) → more ≡ fed → IsAt app port more false taken s → IsAt app port fed false taken s
at_fed app port fed more taken s e h = let P : List ℕ → Type 0 = λ l. IsAt app port l false taken s in subst P e h

at_taken : (app : App) (port : ℕ) (fed taken more : List ℕ) (s : Session) → more ≡ taken → IsAt app port fed false more s → IsAt app port fed false taken s
at_taken app port fed taken more s e h = let P : List ℕ → Type 0 = λ l. IsAt app port fed false l s in subst P e h

-- what was fed and taken before, and then by the calls
stands : (app : App) (port : ℕ) (calls : List Call) (fed taken : List ℕ) (old new : Session) → IsAt app port fed false taken old → Becomes app calls old new
    → IsAt app port (fed ++ fed_by calls) false (taken ++ taken_by calls) new
stands app port [] fed taken old new h is =
    let P : Session → Type 0 = λ s. IsAt app port (fed ++ []) false (taken ++ []) s in
    subst P (sym is) (at_fed app port (fed ++ []) fed (taken ++ []) old (sym (append-nil fed)) (at_taken app port fed (taken ++ []) taken old (sym (append-nil taken)) h))
stands app port (Call.Feed piece ∷ calls) fed taken old new h step =
    at_fed app port (fed ++ (piece ++ fed_by calls)) ((fed ++ piece) ++ fed_by calls) (taken ++ taken_by calls) new (append_assoc fed piece (fed_by calls))
    (stands app port calls (fed ++ piece) taken step.0 new (step.1 port fed taken h.stands_at) step.2)
stands app port (Call.Take bytes ∷ calls) fed taken old new h step =
    at_taken app port (fed ++ fed_by calls) (taken ++ (bytes ++ taken_by calls)) ((taken ++ bytes) ++ taken_by calls) new (append_assoc taken bytes (taken_by calls))
    (stands app port calls fed (taken ++ bytes) step.0 new (step.1 app port fed false taken h) step.2)

pub returns : goal.returns
returns c = λ app port calls new now begun by. said_bytes app port (fed_by calls) false (taken_by calls) now (stands app port calls [] [] new now (begun app) by)
