use Rattle.std.proofs.Common.{List, ap, slice_get, ◌∙◌}
use Rattle.gv_values.specs.declared.name.Name.{Name}
use Rattle.body_blocks.proofs.Growing.{own_names}
use Rattle.body_blocks.proofs.blocks.Blocks.name.Goals as goal

pub returns : goal.returns
returns c = c.get.ensures.value ∙ ap (λ (ns : List Name). slice_get ns c.args.number) (own_names c.self.inside.names c.self.inside.all c.args.self.now c.self.view_is)
