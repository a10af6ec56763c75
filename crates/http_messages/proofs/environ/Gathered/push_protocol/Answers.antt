use Rattle.std.proofs.Common.{◌≡◌, ◌∙◌, ◌++◌, List, [], ◌∷◌, ℕ, subst}
use Rattle.std.specs.Prelude.{OnOk, codes}
use Rattle.http_messages.proofs.environ.Gathered.push_protocol.Goals as goal

pub returns-clause-pushed : goal.returns-clause-pushed
returns-clause-pushed c =
    let P : List ℕ → Type 0 = λ l. OnOk c.push.result (c.push.new.self.pairs.items ≡ c.args.self.now.pairs.items ++ (codes "SERVER_PROTOCOL", l) ∷ []) in
    subst P (c.as_bytes.ensures.value ∙ c.in_ok-protocol.ensures.ok) c.push.ensures.pushed
