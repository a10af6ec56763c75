use Rattle.std.proofs.Common.{◌∙◌, ℕ, ap, sym}
use Rattle.std.specs.Prelude.{slice_index}
use Rattle.http_messages.proofs.TagLaws.{none_marked}
use Rattle.http_messages.proofs.environ.Gathered.find.Goals as goal

pub returns-then-self-tag_of-eq0 : goal.returns-then-self-tag_of-eq0
returns-then-self-tag_of-eq0 c =
    let marks = c.args.self.now.marks in
    sym (none_marked marks c.args.self.now.pairs.items c.args.key.now c.requires
    (ap (λ (tag : ℕ). slice_index marks tag) (sym c.tag_of.ensures.tag) ∙ c.if-self-tag_of-eq0.true))
