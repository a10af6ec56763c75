use Rattle.std.proofs.Common.{◌≡◌, ◌∙◌, ◌++◌, List, ℕ, subst, Option, IfSome, false}
use Rattle.std.specs.Prelude.{OnOk, string_bytes}
use Rattle.std.specs.Fmt.{digits}
use Rattle.wsgi_core.specs.Answer.{line}
use Rattle.wsgi_core.proofs.answer.push_size.Goals as goal

pub returns-clause-sent : goal.returns-clause-sent
returns-clause-sent c =
    let Writes : Option (List ℕ) → Type 0 = λ o. IfSome o (λ (bytes : List ℕ). string_bytes c.in_ok-digits.digits ≡ bytes) in
    let written : string_bytes c.in_ok-digits.digits ≡ digits 16 false c.args.size = subst Writes c.in_radix.ensures c.in_ok-digits.ensures.ok in
    let P : List ℕ → Type 0 = λ l. OnOk c.push_line.result (c.push_line.new.out ≡ c.args.out.now ++ line l) in
    subst P (c.as_bytes.ensures.value ∙ written) c.push_line.ensures.sent
