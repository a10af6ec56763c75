use Rattle.std.proofs.Common.{◌≡◌, drop}
use Rattle.std.specs.Option.{is_some}
use Rattle.std.specs.List.{flat_map}
use Rattle.scenario_rules.specs.declared.mention.Mention.{Mention}
use Rattle.scenario_rules.specs.Rules.{first_after}
use Rattle.name_table.specs.Tables.{found}
use Rattle.scenario_check.specs.Words.{placed, word_reason}
use Rattle.scenario_check.proofs.places.noted_words.Given as goal

abbrev pub invariant-loop-mention : goal.invariant-loop-mention
invariant-loop-mention l =
    first_after l.least (flat_map (λ (m : Mention). placed m.line (word_reason (found l.names) (λ x. is_some (found l.locals x)) l.is_raw m.says)) (drop l.mention-index l.said))
    ≡ first_after l.fn.first (flat_map (λ (m : Mention). placed m.line (word_reason (found l.names) (λ x. is_some (found l.locals x)) l.is_raw m.says)) l.said)
