use Rattle.std.proofs.Common.{◌≤◌, List, sym, subst, arith}
use Rattle.gv_values.specs.declared.job.Answer.{Answer}
use Rattle.world_rules.specs.Legal.{last_answered_moment}
use Rattle.world.proofs.Sound.{last_moment_of-push}
use Rattle.native_pool.proofs.history.History.store.Goals as goal

pub invariant_of-self : goal.invariant_of-self
invariant_of-self c = let h = c.args.self.now in let at = c.requires.at in let fits = h.fits in record {
  timely = subst (λ (l : List Answer). last_answered_moment l ≤ h.moment) (sym c.push_reserved.ensures.items) (omega (arith, last_moment_of-push h.answers.items c.args.answer));
  fits = fits;
}
