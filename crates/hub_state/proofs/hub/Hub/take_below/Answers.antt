use Rattle.std.proofs.Common.{ap, ◌∙◌, ◌==◌, not, ℕ, Option}
use Rattle.held_items.specs.Entries.{Entry, SeenItems}
use Rattle.hub_state.specs.HubParts.{state_of}
use Rattle.hub_state.specs.Touched.{with_touched}
use Rattle.hub_state.proofs.Keeping.{hub_taken, short_taken}
use Rattle.hub_state.proofs.Rooms.{fewer_fit}
use Rattle.hub_state.proofs.hub.Hub.take_below.Goals as goal

pub invariant_of-self : goal.invariant_of-self
invariant_of-self c =
    record {
      kept =
          hub_taken _ c.take-item.result c.self.inside.held c.take-item.new.self c.self.inside.touched c.touch.new.self (state_of c.self.inside) c.items_stand_in_order.ensures.ascends c.take-item.ensures.item c.take-item.ensures.taken
          c.take-item.ensures.items (c.touch.ensures ∙ ap (λ (o : Option ℕ). with_touched o c.self.inside.touched) c.object_of.ensures) c.self.invariant.kept;
      room = fewer_fit (λ (e : Entry). not (e.0 == c.in-Some.slot)) c.self.inside.held.entries _ _ (ap (λ (s : SeenItems). s.entries) c.take-item.ensures.taken) c.self.invariant.room;
    }

pub returns-clause-short : goal.returns-clause-short
returns-clause-short c = short_taken c.args.mark _ _ _ _ c.next_below.ensures.least c.in-Some.is c.take-item.ensures.item c.self.invariant.kept.sound
