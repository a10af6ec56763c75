use Rattle.std.proofs.Common.{◌≡◌, List, Some, slice_get, ℕ, ap, subst, sym, ◌∙◌}
use Rattle.item_places.specs.Items.{without_number}
use Rattle.stream_server.specs.Members.{IsRising}
use Rattle.stream_server.proofs.Rising.{removed_is, rising_without}
use Rattle.stream_server.proofs.members.Members.release.Goals as goal

pub invariant_of-self : goal.invariant_of-self
invariant_of-self c =
    let ms = c.self.inside.numbers.items in
    let now = c.remove.ensures.items ∙ removed_is ms c.place_of-at.result c.args.conn c.self.invariant (subst (λ (l : List ℕ). slice_get l c.place_of-at.result ≡ Some c.args.conn) c.deref.ensures.value c.place_of-at.ensures) in
    subst IsRising (sym now) (rising_without c.args.conn ms c.self.invariant)

pub returns-clause-is : goal.returns-clause-is
returns-clause-is c =
    let ms = c.self.inside.numbers.items in
    let now = c.remove.ensures.items ∙ removed_is ms c.place_of-at.result c.args.conn c.self.invariant (subst (λ (l : List ℕ). slice_get l c.place_of-at.result ≡ Some c.args.conn) c.deref.ensures.value c.place_of-at.ensures) in
    now ∙ ap (without_number c.args.conn) c.self.view_is
