use Rattle.std.proofs.Common.{◌≡◌, ◌∙◌, ◌++◌, List, ℕ, subst}
use Rattle.std.specs.Prelude.{OnOk}
use Rattle.gv_values.proofs.Fronts.{BeginsWith-self}
use Rattle.wsgi_core.proofs.ProgressSteps.{one_err}
use Rattle.wsgi_core.proofs.answer.push_version.Goals as goal

pub returns-clause-sent : goal.returns-clause-sent
returns-clause-sent c =
    let P : List ℕ → Type 0 = λ l. OnOk c.append.result (c.append.new.self ≡ c.args.out.now ++ l) in
    subst P (c.as_bytes.ensures.value ∙ c.in_ok-version.ensures.ok) c.append.ensures.ok

pub returns-clause-err : goal.returns-clause-err
returns-clause-err c = one_err c.append.result _ _ c.append.ensures.err (λ e. BeginsWith-self _ _ e)
