use Rattle.std.proofs.Common.{◌<◌, ◌∙◌, ◌++◌, ◌∷◌, [], ℕ, List, ap, sym, take, length, arith}
use Rattle.http_messages.specs.Environ.{Pair}
use Rattle.http_messages.specs.Requests.{values}
use Rattle.http_messages.proofs.FieldLaws.{field_more}
use Rattle.http_messages.proofs.JudgeLaws.{values_more, values_same}
use Rattle.http_messages.proofs.fields.values.Goals as goal
use Rattle.http_messages.proofs.fields.values.Goals.{then-eq_any_case+in_ok-push_copy, else-eq_any_case}

pub loop-place-preserved : goal.loop-place-preserved
loop-place-preserved c =
    let fields = c.args.fields.now in
    let name = c.args.name.now in
    let place = c.loop-place.place in
    let p : Pair = (c.at-field.result.name.now, c.at-field.result.value.now) in
    let inside : place < length fields = omega (arith, c.loop-place-test.true, c.len-place-end.ensures) in
    let more = ap (values name) (field_more fields place p inside c.at-field.ensures) in
    elim c.if-eq_any_case.branch [
      | then-eq_any_case+in_ok-push_copy w ↦
          w.found-is ∙ w.in_ok-push_copy.ensures ∙ ap (λ (l : List (List ℕ)). l ++ p.1 ∷ []) c.loop-place.invariant
          ∙ sym (more ∙ values_more name (take place fields) p (sym w.if-eq_any_case.true ∙ c.eq_any_case.ensures))
      | else-eq_any_case w ↦
          w.found-is ∙ c.loop-place.invariant ∙ sym (more ∙ values_same name (take place fields) p (sym w.if-eq_any_case.false ∙ c.eq_any_case.ensures))
    ]
