use Rattle.std.proofs.Common.{◌≡◌, ◌++◌, [], ◌∷◌, List, ℕ, codes}
use Rattle.std.specs.Prelude.{decimal}
use Rattle.gv_values.proofs.Fronts.{BeginsWith-after, BeginsWith-self}
use Rattle.wsgi_core.proofs.Appending.{then_appended}
use Rattle.wsgi_core.proofs.ProgressSteps.{one_err, one_ok}
use Rattle.wsgi_core.proofs.answer.push_status.Goals as goal

pub returns-clause-sent : goal.returns-clause-sent
returns-clause-sent c =
    let old = c.args.out.now in
    let version : List ℕ = codes "HTTP/1." ++ decimal c.args.minor ++ codes " " in
    let status = c.args.status.now in
    let first : c.append.new.self ≡ old ++ (version ++ status) =
    then_appended old version c.push_version.new.out status c.append.new.self c.in_ok-push_version.ensures.sent c.in_ok-append.ensures.ok in
    one_ok c.append-2.result _ _ c.append-2.ensures.ok (then_appended old (version ++ status) c.append.new.self (13 ∷ 10 ∷ []) c.append-2.new.self first)

pub returns-clause-err : goal.returns-clause-err
returns-clause-err c =
    let old = c.args.out.now in
    let version : List ℕ = codes "HTTP/1." ++ decimal c.args.minor ++ codes " " in
    let status = c.args.status.now in
    let first : c.append.new.self ≡ old ++ (version ++ status) =
    then_appended old version c.push_version.new.out status c.append.new.self c.in_ok-push_version.ensures.sent c.in_ok-append.ensures.ok in
    one_err c.append-2.result _ _ c.append-2.ensures.err
    (λ e. BeginsWith-after c.append-2.new.self c.append.new.self old (version ++ status) first (BeginsWith-self c.append-2.new.self c.append.new.self e))
