-- A server whose application gives each reply at once: no request waits, and no connection is held.
use Rattle.std.specs.Prelude.{◌≡◌, ℕ, Bool, false, List, [], ◌++◌}
use Rattle.std.proofs.Common.{sym, ◌∙◌, append-nil}
use Rattle.wsgi_core.specs.Applications.{App}
use Rattle.wsgi_core.specs.Talk.{Gateway, said_by}
use Rattle.wsgi_core.specs.Standings.{Standing}
use Rattle.stream_server.specs.Protocols.{IsLawful, Protocol, side_of}

abbrev pub answering : {T : Type 0} → Gateway → Standing T → (T → List ℕ) → Protocol T
answering answers at due = record { said = said_by answers; at = at; due = due; asks = λ _. false; holds = λ _. false; kept = λ _. 0 }

-- what was taken and what is pending is all that is said
pub answering_lawful : {T : Type 0} (answers : Gateway) (at : Standing T) (due : T → List ℕ)
    → ((app : App) (port : ℕ) (fed : List ℕ) (ended : Bool) (taken : List ℕ) (t : T) → at app port fed ended taken t → taken ++ due t ≡ (answers app port fed).bytes)
    → (app : App) (port : ℕ) → IsLawful (side_of (answering answers at due) app port)
answering_lawful answers at due says app port = record {
  all_said = λ fed ended taken t h quiet. says app port fed ended taken t h;
  begun = λ fed ended taken t h. ([], sym (says app port fed ended taken t h) ∙ sym (append-nil (taken ++ due t)));
}
