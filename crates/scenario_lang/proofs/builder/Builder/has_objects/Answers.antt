use Rattle.std.proofs.Common.{◌≡◌, ◌∙◌, sym, true, false}
use Rattle.scenario_lang.specs.Builders.{building}
use Rattle.scenario_lang.proofs.Objects.{none_declared, some_declared}
use Rattle.scenario_lang.proofs.builder.Builder.has_objects.Goals as goal

pub returns-then-is_empty : goal.returns-then-is_empty
returns-then-is_empty c = sym (none_declared (building c.args.self.now) (c.is_empty.ensures.0 c.if-is_empty.true))

pub returns : goal.returns
returns c = sym (some_declared (building c.args.self.now) (λ e. absurd (cc (c.is_empty.ensures.1 e, c.if-is_empty.false))))
