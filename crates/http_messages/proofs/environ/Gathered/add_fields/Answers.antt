use Rattle.std.proofs.Common.{◌<◌, ◌∙◌, ap, sym, take, length, arith, cond}
use Rattle.http_messages.specs.Environ.{Pair, key_of, with_pair}
use Rattle.http_messages.specs.Fields.{is_of}
use Rattle.http_messages.proofs.FieldLaws.{added, added_one, field_more}
use Rattle.http_messages.proofs.environ.Gathered.add_fields.Goals as goal

pub loop-place-preserved : goal.loop-place-preserved
loop-place-preserved c =
    let fields = c.args.fields.now in
    let class = c.args.class in
    let start = c.args.self.now.pairs.items in
    let place = c.loop-place.place in
    let p : Pair = (c.at-field.result.name.now, c.at-field.result.value.now) in
    let inside : place < length fields = omega (arith, c.loop-place-test.true, c.len-place-end.ensures) in
    record {
      added =
          c.in_ok-add_field.ensures.added
          ∙ (λ i. cond (is_of class p.0) (with_pair (c.loop-place.invariant.added i) (key_of p.0, p.1)) (c.loop-place.invariant.added i))
          ∙ sym (ap (added class start) (field_more fields place p inside c.at-field.ensures) ∙ added_one class start (take place fields) p);
      marked = c.in_ok-add_field.ensures.marked;
    }
