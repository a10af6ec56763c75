use Rattle.std.proofs.Common.{◌≡◌, ◌==◌, ◌++◌, length, map, string_bytes}
use denote.Text.{Utf8}
use denote.Shadow.{shadow}
use Rattle.std.specs.List.{slice_split}
use Rattle.page_answer.proofs.words_in.Given as goal

abbrev pub invariant-loop-word : goal.invariant-loop-word
invariant-loop-word l = shadow (Utf8 l.left) × (map string_bytes l.all.items ++ slice_split (λ b. b == 10) l.left ≡ slice_split (λ b. b == 10) l.bytes)

abbrev pub decreases-loop-word : goal.decreases-loop-word
decreases-loop-word l = length l.left
