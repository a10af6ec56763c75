use Rattle.std.proofs.Common.{◌∙◌, ap, List}
use Rattle.http_messages.specs.declared.environ.KeyClass.TheVariants.{ContentType, ContentLength, Other}
use Rattle.http_messages.specs.Environ.{Pair}
use Rattle.http_messages.proofs.FieldLaws.{added, in_order_added}
use Rattle.http_messages.proofs.environ.environ_of.Goals as goal

pub returns : goal.returns
returns c =
    let head = c.args.head.now in
    c.into_environ.ensures
    ∙ c.in_ok-add_fields-3.ensures.added
    ∙ ap (λ (l : List Pair). added Other l head.fields)
    (c.in_ok-add_fields-2.ensures.added
    ∙ ap (λ (l : List Pair). added ContentLength l head.fields)
    (c.in_ok-add_fields.ensures.added ∙ ap (λ (l : List Pair). added ContentType l head.fields) c.in_ok-push_request_pairs.ensures.pushed))
    ∙ in_order_added head.port head.method.now head.target.now head.minor head.fields
