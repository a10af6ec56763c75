-- A session that ran out of memory, once bytes were taken.
use Rattle.std.proofs.Common.{◌≡◌, List, ℕ, ◌++◌, take, drop, ap, sym, ◌∙◌, append_assoc}
use Rattle.std.proofs.lemmas.List.{take-append-drop}
use Rattle.wsgi_core.specs.Applications.{App}
use Rattle.wsgi_core.specs.declared.session.Session.{Session}
use Rattle.wsgi_core.specs.Steps.{Stopped}

pub stopped_took : (app : App) (port : ℕ) (fed taken : List ℕ) (s : Session) (n : ℕ) (rest : List ℕ) → rest ≡ drop n s.pending → Stopped app port fed taken s
    → Stopped app port fed (taken ++ take n s.pending) (record s { pending = rest })
stopped_took app port fed taken s n rest e h =
    let first = take n s.pending in
    let whole : s.pending ≡ first ++ rest = sym (take-append-drop n s.pending) ∙ ap (λ (l : List ℕ). first ++ l) (sym e) in
    record {
      closing = h.closing;
      tail = h.tail;
      due = h.due ∙ ap (λ (l : List ℕ). taken ++ l ++ h.tail) whole ∙ ap (λ (l : List ℕ). l ++ h.tail) (sym (append_assoc taken first rest));
    }
