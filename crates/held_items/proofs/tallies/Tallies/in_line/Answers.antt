use Rattle.std.proofs.Common.{ap, ◌∙◌, ℕ}
use Rattle.held_items.specs.declared.tallies.Tally.{Tally}
use Rattle.held_items.specs.Tallied.{tally_at}
use Rattle.held_items.proofs.Tallying.{line_numbered, line_waiting}
use Rattle.held_items.proofs.tallies.Tallies.in_line.Goals as goal

pub returns-clause-waiting : goal.returns-clause-waiting
returns-clause-waiting c = λ es are.
    ap (λ (t : Tally). t.waiting) (c.at.ensures ∙ ap (λ (k : ℕ). tally_at c.args.self.now.table.items k) c.in_line.ensures.value ∙ are _) ∙ line_waiting c.args.kind c.args.o es

pub returns-clause-numbered : goal.returns-clause-numbered
returns-clause-numbered c = λ es are.
    ap (λ (t : Tally). t.numbered) (c.at.ensures ∙ ap (λ (k : ℕ). tally_at c.args.self.now.table.items k) c.in_line.ensures.value ∙ are _) ∙ line_numbered c.args.kind c.args.o es
