use Rattle.std.proofs.Common.{◌≡◌}
use Rattle.scenario_lang.proofs.text.parse.Goals as goal

pub new-requires : goal.new-requires
new-requires c = record {
  spelt = (c.args.bytes.now, c.in-Ok.ensures.spelt);
  text = c.spelt_trees_have_text.ensures _ _ c.in-Ok.ensures.spelt;
  main = c.in-Ok.ensures.spelt.has_main;
}
