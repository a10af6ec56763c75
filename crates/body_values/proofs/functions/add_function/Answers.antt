use Rattle.std.proofs.Common.{◌∙◌, ap, List}
use Rattle.gv_values.specs.declared.name.Name.{Name}
use Rattle.scenario_tree.specs.declared.tree.Function.{Function}
use Rattle.scenario_tree.specs.declared.tree.Statement.{Statement}
use Rattle.body_blocks.specs.Making.{made}
use Rattle.body_blocks.specs.Trees.{block_at, joined}
use Rattle.body_blocks.proofs.Growing.{grown}
use Rattle.body_values.proofs.Parameters.{AreNumbers, numbers_later}
use Rattle.body_values.proofs.functions.add_function.Goals as goal

pub returns-clause-grows : goal.returns-clause-grows
returns-clause-grows c =
    grown (made c.args.making.now) (made c.number_names.new.making) (made c.add_block.new.making)
    (grown (made c.args.making.now) (made c.enter.new.self) (made c.number_names.new.making) c.in_ok-enter.ensures.grows c.in_ok-parameters.ensures.grows)
    c.in_ok-body.ensures.grows

pub returns-clause-same : goal.returns-clause-same
returns-clause-same c = λ more.
    let f : Function = c.args.function in
    let own : AreNumbers (made c.number_names.new.making) c.in_ok-parameters.parameters f.parameters = λ later. c.in_ok-parameters.ensures.same later ∙ c.as_slice.ensures in
    ap (λ (xs : List Name). record { line = f.line; is_raw = f.is_raw; name = f.name; parameters = xs; body = block_at c.in_ok-body.body (joined (made c.add_block.new.making) more) })
    (numbers_later (made c.number_names.new.making) (made c.add_block.new.making) c.in_ok-parameters.parameters f.parameters c.in_ok-body.ensures.grows own more)
    ∙ ap (λ (ss : List Statement). record { line = f.line; is_raw = f.is_raw; name = f.name; parameters = f.parameters; body = ss }) (c.in_ok-body.ensures.same more)
