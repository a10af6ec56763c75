use Rattle.std.proofs.Common.{◌∙◌, sym}
use Rattle.std.proofs.lemmas.Slice.Eq.{bytes_eq-Decides}
use Rattle.body_values.proofs.code.is_same.Goals as goal

pub returns : goal.returns
returns c = λ yes.
    sym c.bytes.ensures.same ∙ (bytes_eq-Decides c.bytes.result.now c.bytes-2.result.now).0 (sym c.eq.ensures ∙ yes) ∙ c.bytes-2.ensures.same
