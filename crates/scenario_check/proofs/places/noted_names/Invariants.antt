use Rattle.std.proofs.Common.{◌≡◌, drop}
use Rattle.scenario_rules.specs.Rules.{first_after, refused_names}
use Rattle.scenario_check.proofs.places.noted_names.Given as goal

abbrev pub invariant-loop-named : goal.invariant-loop-named
invariant-loop-named l = first_after l.least (refused_names l.reason (drop l.named-index l.names)) ≡ first_after l.fn.first (refused_names l.reason l.names)
