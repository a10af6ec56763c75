use Rattle.std.proofs.Common.{◌∙◌, ap, sym, ℕ, ◌==◌, List, length}
use Rattle.hub_engine.proofs.Staying.{none_left}
use Rattle.hub_engine.proofs.life.drop_left.Goals as goal

pub returns-then-is_empty : goal.returns-then-is_empty
returns-then-is_empty c =
    none_left c.args.g c.args.left c.args.hub.now (ap (λ (xs : List ℕ). length xs == 0) (sym c.as_slice.ensures) ∙ sym c.is_empty.ensures ∙ c.if-is_empty.true)
