use Rattle.std.proofs.Common.{sym, ap, not, ◌∙◌}
use Rattle.held_items.specs.Waits.{waits_in_line}
use Rattle.hub_state.proofs.LineBegins.{follower_has_none, last_numbered}
use Rattle.hub_state.proofs.looks.is_last_numbered.Goals as goal

pub returns-in-None : goal.returns-in-None
returns-in-None c = λ t.
    last_numbered (waits_in_line c.args.kind c.args.o) c.args.held.now.entries c.args.slot c.get-item.result.now c.next_waiting.result c.get-item.ensures (sym c.is_in_line.ensures ∙ c.if-not-is_in_line.false)
    (c.is_none.ensures ∙ ap not c.if-is_none.false) (c.next_waiting.ensures.in_line c.args.kind c.args.o) (λ r j e there. (let none = c.in-None.is in absurd (cc)))

pub returns-then-has : goal.returns-then-has
returns-then-has c = λ t.
    last_numbered (waits_in_line c.args.kind c.args.o) c.args.held.now.entries c.args.slot c.get-item.result.now c.next_waiting.result c.get-item.ensures (sym c.is_in_line.ensures ∙ c.if-not-is_in_line.false)
    (c.is_none.ensures ∙ ap not c.if-is_none.false) (c.next_waiting.ensures.in_line c.args.kind c.args.o)
    (follower_has_none c.args.held.now.entries c.next_waiting.result c.in-Some.next c.get.result.now c.in-Some.is c.get.ensures (c.is_none-then-has.ensures ∙ ap not t))
