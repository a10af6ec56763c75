use Rattle.std.proofs.Common.{◌≡◌, ◌<◌, ◌∙◌, ap, arith, List, length, get_or, codes}
use Rattle.http_messages.specs.Environ.{Pair}
use Rattle.wsgi_core.specs.declared.answer.Stated.{Stated}
use Rattle.wsgi_core.specs.Stating.{stated_after}
use Rattle.wsgi_core.proofs.AnswerLaws.{stated_more}
use Rattle.wsgi_core.proofs.answer.stated_length.Goals as goal

pub loop-header-preserved : goal.loop-header-preserved
loop-header-preserved c =
    let headers = c.args.headers.now in
    let i = c.loop-header.header-index in
    let p = c.header-item.result in
    let inside : i < length headers = omega (arith, ap length c.items-header-items.ensures) in
    let is : p ≡ get_or headers i p = c.header-item.is ∙ ap (λ (l : List Pair). get_or l i p) c.items-header-items.ensures in
    c.stated_after-next.ensures ∙ ap (λ (s : Stated). stated_after s p) c.loop-header.invariant
    ∙ stated_more (codes "Content-Length") headers i p inside is
