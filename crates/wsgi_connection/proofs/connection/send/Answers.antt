use Rattle.std.proofs.Common.{◌≡◌, false, ap, ◌∙◌, ◌++◌, take, length, subst, ℕ, List}
use Rattle.std.proofs.Math.Seq.{take-length}
use Rattle.wsgi_connection.proofs.connection.send.Goals as goal

pub returns-clause-taken : goal.returns-clause-taken
returns-clause-taken g c = λ app port fed taken h.
    let pending = g.T.Talk.due c.args.session.now in
    let all : take (length c.pending-sent.result.now) pending ≡ pending =
    ap (λ (z : List ℕ). take (length z) pending) c.pending-sent.ensures ∙ take-length pending in
    let P : List ℕ → Type 0 = λ z. g.T.Talk.is_at app port fed false (taken ++ z) c.took.new.self in
    subst P all (c.took.ensures.at app port fed false taken h)
