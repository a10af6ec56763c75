use Rattle.std.proofs.Common.{◌∙◌, ap, sym, rules}
use Rattle.std.specs.Prelude.{ℤ}
use Rattle.std.proofs.lemmas.Int.{to_z-of_z}
use mir.Val.{SFits}
use mir.Syntax.{w64}
use Rattle.machine.specs.Items.{drop_items}
use Rattle.machine.specs.Request.{is_link}
use Rattle.hub_requests.specs.Performing.{performed_of}
use Rattle.hub_requests.specs.declared.performed.Performed.{Performed}
use Rattle.hub_requests.proofs.Linking.{unlinked}
use Rattle.hub_requests.proofs.greenlet_requests.unlink.Goals as goal

-- a signed number that is passed on is read back
pub returns : goal.returns
returns c =
    let fits : SFits w64 c.in-Some.number = search rules in
    unlinked c.int_operand-number.result c.in-Some.number c.args.g c.args.value c.args.hub.now c.drop_link.new.hub c.int_operand-number.ensures c.in-Some.is
    (c.drop_link.ensures ∙ ap (λ (z : ℤ). drop_items (is_link z) c.args.hub.now) (to_z-of_z w64 _ fits))
    ∙ ap (λ (p : Performed). performed_of p c.drop_link.new.hub) (sym c.done.ensures)
