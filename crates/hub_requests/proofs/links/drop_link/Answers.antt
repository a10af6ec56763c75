use Rattle.std.proofs.Common.{◌∙◌, ap}
use Rattle.std.specs.Prelude.{ℤ}
use Rattle.std.proofs.Math.Facts.{to_z-of_z}
use Rattle.machine.specs.Items.{drop_items}
use Rattle.machine.specs.Request.{is_link}
use Rattle.hub_requests.proofs.links.drop_link.Goals as goal

-- a signed number that stands in a value of an enum behind a reference is read back
pub returns : goal.returns
returns c = c.drop_items.ensures ∙ ap (λ (z : ℤ). drop_items (is_link z) c.args.hub.now) (to_z-of_z c.ranges.number)
