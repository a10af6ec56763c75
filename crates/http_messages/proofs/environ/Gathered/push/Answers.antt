use Rattle.std.proofs.Common.{◌<◌, ℕ, List, [], ◌∷◌, ◌++◌, set, subst, sym}
use Rattle.std.proofs.lemmas.Result.{on_ok_weaker}
use Rattle.http_messages.specs.Environ.{Pair}
use Rattle.http_messages.specs.Tags.{AreMarked, tag_of}
use Rattle.http_messages.proofs.TagLaws.{marked_push}
use Rattle.http_messages.proofs.environ.Gathered.push.Goals as goal

pub returns-clause-marked : goal.returns-clause-marked
returns-clause-marked c =
    let pairs = c.args.self.now.pairs.items in
    let marks = c.args.self.now.marks in
    let key = c.args.key.now in
    let value = c.args.value.now in
    let below = subst (λ (t : ℕ). t < 256) c.tag_of.ensures.tag c.tag_of.ensures.below in
    on_ok_weaker c.push_pair.result
    (λ pushed. subst (λ (l : List Pair). AreMarked (set marks c.tag_of.result 1) l) (sym pushed)
    (subst (λ (t : ℕ). AreMarked (set marks t 1) (pairs ++ (key, value) ∷ [])) (sym c.tag_of.ensures.tag)
    (marked_push marks pairs key value below c.requires)))
    c.push_pair.ensures
