use Rattle.std.proofs.Common.{◌≡◌, ◌<◌, ◌∙◌, arith, ap, sym, length, Some, List}
use Rattle.std.proofs.lemmas.List.{length-map}
use Rattle.std.proofs.lemmas.Option.{slice_get-get_or, slice_get-map}
use Rattle.std.specs.Prelude.{option_map, slice_get}
use Rattle.httparse.specs.Spans.{header_bytes}
use Rattle.http_messages.specs.Environ.{Pair}
use Rattle.http_messages.specs.Fields.{fields_at}
use Rattle.http_messages.proofs.fields.Fields.at.Goals as goal

pub returns : goal.returns
returns c =
    let head = c.self.inside.head.now in
    let spans = c.self.inside.spans.now in
    let is : fields_at head spans ≡ c.args.self.now = c.self.view_is in
    let inside : c.args.place < length spans = omega (arith, c.requires, ap length is, length-map spans (header_bytes head)) in
    ap (λ (l : List Pair). slice_get l c.args.place) (sym is)
    ∙ slice_get-map (header_bytes head) spans c.args.place
    ∙ ap (option_map (header_bytes head)) (slice_get-get_or spans c.args.place _ inside)
    ∙ (λ i. Some (sym c.of.ensures i, sym c.of-2.ensures i))
