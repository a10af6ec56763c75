use Rattle.std.proofs.Common.{◌∙◌, sym, ap}
use Rattle.std.specs.Map.{lookup}
use Rattle.std.specs.BTreeMap.{is_at}
use Rattle.std.specs.Cmp.Lexicographic.{slice_cmp}
use Rattle.std.specs.Ordering.{nat_cmp}
use Rattle.name_table.specs.Tables.{found}
use Rattle.name_table.proofs.Found.{kept, taken, none_of}
use Rattle.name_table.proofs.names.Names.give.Goals as goal

pub returns-then-contains_key-clause-holds : goal.returns-then-contains_key-clause-holds
returns-then-contains_key-clause-holds g c = λ ds h. kept (found c.args.self.now) c.args.name.now c.args.value ds (sym c.contains_key.ensures ∙ c.if-contains_key.true) h

pub returns-clause-holds : goal.returns-clause-holds
returns-clause-holds g c = λ ds h x.
    ap (λ es. lookup (is_at (λ k. slice_cmp nat_cmp x k.items)) es) c.in_ok-insert.ensures.entries
    ∙ taken (λ k. k.items) c.args.self.now.entries.entries c.in_ok-key.key c.args.name.now c.args.value ds c.in_ok-key.ensures.items (none_of _ (sym c.contains_key.ensures ∙ c.if-contains_key.false)) h x
