use Rattle.std.proofs.Common.{◌∙◌, ◌-◌, ap, slice_set}
use Rattle.std.proofs.lemmas.List.{set-get_or}
use Rattle.body_entries.specs.declared.entry.Entry.{Entry}
use Rattle.body_entries.proofs.pile.set_last.Goals as goal

pub returns-clause-not : goal.returns-clause-not
returns-clause-not c = λ not.
    let items = c.args.items.now.items in
    let place = c.len-count.result - 1 in
    ap (λ (e : Entry). slice_set items place e) (c.set_entry.ensures.not not ∙ c.index_mut.ensures.value) ∙ set-get_or items place c.index_mut.result.now
