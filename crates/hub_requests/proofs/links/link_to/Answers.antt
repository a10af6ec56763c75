use Rattle.std.proofs.Common.{subst, sym}
use Rattle.hub_state.specs.Adding.{MayAdd}
use Rattle.hub_requests.proofs.links.link_to.Goals as goal

pub add_item-requires-clause-may_add : goal.add_item-requires-clause-may_add
add_item-requires-clause-may_add c = subst (MayAdd 1) (sym c.count_link-number.ensures.counted) c.requires.may_add
