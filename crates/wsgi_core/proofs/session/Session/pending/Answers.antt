use Rattle.std.proofs.Common.{List, ℕ, ◌++◌, ap, sym, ◌∙◌}
use Rattle.wsgi_core.specs.Steps.{begun_bytes}
use Rattle.wsgi_core.proofs.session.Session.pending.Goals as goal

pub returns-clause-begun : goal.returns-clause-begun
returns-clause-begun c = λ app port fed ended taken h.
    let t = begun_bytes app port fed ended taken c.args.self.now h in (t.0, t.1 ∙ ap (λ (l : List ℕ). taken ++ l ++ t.0) (sym c.items.ensures))
