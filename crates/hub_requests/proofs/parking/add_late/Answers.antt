use Rattle.std.proofs.Common.{◌≡◌, sym, subst, true, Some}
use Rattle.machine.specs.Soundness.{Claim, is_unclaimed}
use Rattle.machine.specs.State.{State}
use Rattle.hub_state.specs.Adding.{MayAdd}
use Rattle.hub_requests.proofs.parking.add_late.Goals as goal

pub add_item-requires-clause-unclaimed : goal.add_item-requires-clause-unclaimed
add_item-requires-clause-unclaimed c =
    subst (λ (x : State). is_unclaimed (Some (Claim.LateOf c.args.g)) x.items ≡ true) (sym c.count_timeout-n.ensures.counted) c.requires.unclaimed

pub add_item-requires-clause-may_add : goal.add_item-requires-clause-may_add
add_item-requires-clause-may_add c = subst (MayAdd 1) (sym c.count_timeout-n.ensures.counted) c.requires.may_add
