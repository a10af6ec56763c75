use Rattle.std.proofs.Common.{◌≡◌, ◌∙◌}
use Rattle.std.specs.Option.{option_map}
use Rattle.scenario_grammar.specs.Parsed.{standing}
use Rattle.scenario_lang.specs.Builders.{building}
use Rattle.scenario_lang.specs.Roles.{as_open, as_role}
use Rattle.scenario_lang.proofs.Standings.{misplaced_is}
use Rattle.scenario_lang.proofs.builder.Builder.misplaced.Goals as goal

pub returns : goal.returns
returns c =
    c.why_misplaced.ensures
    ∙ misplaced_is (standing (building c.args.self.now)) c.has_line.result c.has_begun.result c.is_full.result (option_map as_open c.innermost.result) (as_role c.args.line_role)
    c.has_line.ensures c.has_begun.ensures c.is_full.ensures c.innermost.ensures
