use Rattle.std.proofs.Common.{sym, ◌∙◌}
use Rattle.gv_values.proofs.NameFits.{stored, name_fits}
use Rattle.gv_values.proofs.name.Name.new.Goals as goal

-- src/name.rt:41:9
pub invariant_of-result : goal.invariant_of-result
invariant_of-result c = rw c.copy_from_slice.ensures.after (stored c.args.bytes.now (sym c.if-not-is_name_text.ensures))
