use Rattle.std.proofs.Common.{◌≤◌, ◌^◌, List, length, subst, sym}
use Rattle.machine.specs.declared.state.Object.{Object}
use Rattle.machine_settling.specs.Steps.{has_member}
use Rattle.hub_state.specs.Touched.{HasTouched}
use Rattle.hub_state.proofs.touched.touch_crews.Goals as goal

pub touch_each_crew-requires : goal.touch_each_crew-requires
touch_each_crew-requires c = subst (λ (xs : List Object). length xs ≤ 2 ^ 32) (sym c.as_slice.ensures.same) c.requires

pub returns-in-Anywhere : goal.returns-in-Anywhere
returns-in-Anywhere c =
    subst (λ (xs : List Object). HasTouched (has_member c.args.g) xs (length xs) c.args.touched.now c.touch_each_crew.new.touched) c.as_slice.ensures.same c.touch_each_crew.ensures
