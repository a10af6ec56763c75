use Rattle.std.proofs.Common.{◌+◌, ◌∙◌, ℕ, sym, ap, subst, take}
use Rattle.std.specs.List.{position_or_len}
use Rattle.http_messages.specs.declared.scan.LinePlace.{LinePlace}
use Rattle.http_messages.specs.declared.scan.LinePlace.TheVariants.{Start, Within}
use Rattle.http_messages.specs.Cuts.{is_lf}
use Rattle.http_messages.specs.Scans.{Resumes}
use Rattle.http_messages.proofs.ScanLaws.{line_skipped, take_rest}
use Rattle.http_messages.proofs.scan.next_looked_at.Goals as goal

pub returns-in-Within-clause-resumes : goal.returns-in-Within-clause-resumes
returns-in-Within-clause-resumes c =
    let bytes = c.args.bytes.now in
    let at = c.args.at in
    let P : ℕ → Type 0 = λ n. Resumes Start (take (at + n) bytes) Within in
    let Q : ℕ → LinePlace → Type 0 = λ n place. Resumes Start (take n bytes) place in
    λ h.
    subst (Q (at + c.find_byte.result)) (sym c.in-Within.is)
    (subst P (sym (c.find_byte.ensures.position ∙ ap (position_or_len is_lf) (take_rest bytes at)))
    (line_skipped bytes at c.requires (subst (Q at) c.in-Within.is h)))
