use Rattle.std.proofs.Common.{◌≡◌, ◌++◌, List, ℕ, [], Ok, IfSome, take, ap, sym, subst, ◌∙◌, arith}
use Rattle.std.proofs.lemmas.Grind.{common_steps}
use Rattle.gv_io.specs.Streams.{prepended}
use Rattle.gv_io.proofs.StreamLaws.{prepended-nothing, prepended-prepended}
use Rattle.gv_io.proofs.limited.read_piece.Goals as goal

pub returns-clause-next : goal.returns-clause-next
returns-clause-next g c =
    let rest = g.S.Source.remaining c.read.new.self in
    let items : c.extend_from_slice.new.self.items ≡ c.args.bytes.now.items ++ take c.in-Ok.count c.read.new.buf =
    grind (arith, common_steps, c.extend_from_slice.ensures.items, c.if-is_err.false, c.in-Ok.ensures.count) in
    ap (prepended c.args.bytes.now.items) c.in-Ok.ensures.next
    ∙ prepended-prepended rest c.args.bytes.now.items (take c.in-Ok.count c.read.new.buf)
    ∙ ap (λ z. prepended z rest) (sym items)

pub returns-clause-end : goal.returns-clause-end
returns-clause-end g c none =
    let rest = g.S.Source.remaining c.read.new.self in
    let same : g.S.Source.remaining c.args.source.now ≡ rest =
    c.in-Ok.ensures.next ∙ ap (λ n. prepended (take n c.read.new.buf) rest) none ∙ prepended-nothing rest in
    subst (λ o. IfSome o (λ (left : List ℕ). left ≡ [])) same (c.in-Ok.ensures.end (ap (λ (n : ℕ). Ok n) none))
