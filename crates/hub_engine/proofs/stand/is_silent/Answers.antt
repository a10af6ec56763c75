use Rattle.std.proofs.Common.{◌∙◌, sym}
use Rattle.hub_engine.proofs.Giving.{silent_still}
use Rattle.hub_engine.proofs.stand.is_silent.Goals as goal

pub returns : goal.returns
returns c said = silent_still c.args.hub.now _ _ c.lines.ensures c.posts.ensures (sym c.is_empty.ensures ∙ c.if-not-is_empty.false) (sym c.is_empty-2.ensures ∙ said)
