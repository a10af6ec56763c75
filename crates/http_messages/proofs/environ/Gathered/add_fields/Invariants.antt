use Rattle.std.proofs.Common.{◌≡◌, fold, take}
use Rattle.http_messages.specs.Environ.{field_pairs, pairs_of_class, with_pair}
use Rattle.http_messages.specs.Tags.{AreMarked}
use Rattle.http_messages.proofs.environ.Gathered.add_fields.Given as goal

abbrev pub invariant-loop-place : goal.invariant-loop-place
invariant-loop-place l = record {
  added : l.self.pairs.items ≡ fold with_pair l.initial.self.pairs.items (pairs_of_class l.class (field_pairs (take l.place l.fields)));
  marked : AreMarked l.self.marks l.self.pairs.items;
}
