use Rattle.body_blocks.specs.Trees.{start}
use Rattle.body_blocks.proofs.Growing.{none_stand}
use Rattle.body_blocks.proofs.making.Making.new.Goals as goal

pub returns : goal.returns
returns c = (c.new.ensures, none_stand (start c.new.result.names) c.new-2.result c.new-2.ensures)
