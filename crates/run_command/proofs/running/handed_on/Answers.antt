use Rattle.std.proofs.Common.{refl, sym, inl, ◌∙◌}
use Rattle.run_command.proofs.Handing.{broken_kept}
use Rattle.run_command.proofs.running.handed_on.Goals as goal

pub returns-then-is_broken_off-clause-hands : goal.returns-then-is_broken_off-clause-hands
returns-then-is_broken_off-clause-hands g c = λ w m. broken_kept c.args.end _ (sym c.is_broken_off.ensures ∙ c.if-is_broken_off.true) w m

pub returns-in-Err-clause-hands : goal.returns-in-Err-clause-hands
returns-in-Err-clause-hands g c = λ w m. absurd (w refl)

pub returns-in-Ok-clause-end : goal.returns-in-Ok-clause-end
returns-in-Ok-clause-end g c = inl refl

pub returns-in-Ok-clause-failed : goal.returns-in-Ok-clause-failed
returns-in-Ok-clause-failed g c = λ is. inl is
