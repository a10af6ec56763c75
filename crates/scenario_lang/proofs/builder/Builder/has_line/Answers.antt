use Rattle.std.proofs.Common.{◌≡◌, ◌∙◌, ap, sym, Bool}
use Rattle.std.specs.Prelude.{◌||◌, ◌==◌, not}
use Rattle.scenario_grammar.specs.Parsed.{has_objects, is_begun}
use Rattle.scenario_lang.specs.Builders.{building}
use Rattle.scenario_lang.proofs.builder.Builder.has_line.Goals as goal

pub returns-then-has_begun : goal.returns-then-has_begun
returns-then-has_begun c =
    sym (ap (λ b. (b || has_objects (building c.args.self.now)) || not (c.args.self.now.profile == 1)) (sym c.has_begun.ensures ∙ c.if-has_begun.true))

pub returns-then-has_objects : goal.returns-then-has_objects
returns-then-has_objects c =
    sym (ap (λ b. (b || has_objects (building c.args.self.now)) || not (c.args.self.now.profile == 1)) (sym c.has_begun.ensures ∙ c.if-has_begun.false)
    ∙ ap (λ b. b || not (c.args.self.now.profile == 1)) (sym c.has_objects.ensures ∙ c.if-has_objects.true))

pub returns : goal.returns
returns c =
    sym (ap (λ b. (b || has_objects (building c.args.self.now)) || not (c.args.self.now.profile == 1)) (sym c.has_begun.ensures ∙ c.if-has_begun.false)
    ∙ ap (λ b. b || not (c.args.self.now.profile == 1)) (sym c.has_objects.ensures ∙ c.if-has_objects.false))
