use Rattle.std.proofs.Common.{◌≡◌, ◌∙◌, ◌++◌, List, [], ◌∷◌, ℕ, subst}
use Rattle.std.specs.Prelude.{OnOk, codes}
use Rattle.wsgi_core.proofs.shipped.push_length.Goals as goal

pub returns : goal.returns
returns c =
    let P : List ℕ → Type 0 = λ l. OnOk c.push_header.result (c.push_header.new.headers ≡ c.args.headers.now ++ (codes "Content-Length", l) ∷ []) in
    subst P (c.as_bytes.ensures.value ∙ c.in_ok-digits.ensures.ok) c.push_header.ensures
