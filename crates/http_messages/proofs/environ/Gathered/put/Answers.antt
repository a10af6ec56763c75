use Rattle.std.proofs.Common.{◌≡◌, Bool, ◌∙◌, ◌++◌, [], sym, get_or, set, subst}
use Rattle.std.proofs.lemmas.List.Quantifiers.{position-Some}
use Rattle.std.proofs.lemmas.Result.{on_ok_weaker}
use Rattle.std.specs.Str.{bytes_eq}
use Rattle.http_messages.specs.Environ.{Pair}
use Rattle.http_messages.specs.Tags.{AreMarked}
use Rattle.http_messages.proofs.FieldLaws.{none_found, put_new, put_behind}
use Rattle.http_messages.proofs.TagLaws.{marked_set}
use Rattle.http_messages.proofs.environ.Gathered.put.Goals as goal

pub returns-in-Some-clause-put : goal.returns-in-Some-clause-put
returns-in-Some-clause-put c =
    let pairs = c.args.self.now.pairs.items in
    let d = c.index_mut.result.now in
    let key = c.args.key.now in
    let test : Pair → Bool = λ p. bytes_eq p.0 key in
    let found = position-Some test pairs c.in-Some.place d (sym c.find.ensures ∙ c.in-Some.is) in
    let p : d ≡ get_or pairs c.in-Some.place d = c.index_mut.ensures.value in
    on_ok_weaker c.lengthen.result
    (λ lengthened.
    (λ i. set pairs c.in-Some.place ((p i).0, (lengthened ∙ (λ j. (p j).1 ++ c.joint.ensures j ++ c.args.value.now)) i))
    ∙ put_behind pairs (key, c.args.value.now) d c.in-Some.place found.0 found.1 found.2)
    c.lengthen.ensures

pub returns-in-Some-clause-marked : goal.returns-in-Some-clause-marked
returns-in-Some-clause-marked c =
    let pairs = c.args.self.now.pairs.items in
    let marks = c.args.self.now.marks in
    let d = c.index_mut.result.now in
    let test : Pair → Bool = λ p. bytes_eq p.0 c.args.key.now in
    let found = position-Some test pairs c.in-Some.place d (sym c.find.ensures ∙ c.in-Some.is) in
    let P : Pair → Type 0 = λ q. AreMarked marks (set pairs c.in-Some.place (q.0, c.lengthen.new.value)) in
    on_ok_weaker c.lengthen.result
    (λ _. subst P (sym c.index_mut.ensures.value) (marked_set marks pairs c.in-Some.place d c.lengthen.new.value found.0 c.requires))
    c.lengthen.ensures

pub returns-in-None-clause-put : goal.returns-in-None-clause-put
returns-in-None-clause-put c =
    let d : Pair = ([], []) in
    let pairs = c.args.self.now.pairs.items in
    on_ok_weaker c.push.result
    (λ pushed. pushed ∙ put_new pairs (c.args.key.now, c.args.value.now) d
    (none_found pairs c.args.key.now d (sym c.find.ensures ∙ c.in-None.is)))
    c.push.ensures.pushed
