use Rattle.std.proofs.Common.{◌≡◌, ◌≤◌, length, reverse, take}
use Rattle.httparse.specs.Grammar.{skip_ows}
use Rattle.http_messages.proofs.judge.skip_ows_back.Given as goal

abbrev pub invariant-loop-end : goal.invariant-loop-end
invariant-loop-end l = record {
  within : l.end ≤ length l.bytes;
  same : skip_ows (reverse l.bytes) ≡ skip_ows (reverse (take l.end l.bytes));
}

abbrev pub decreases-loop-end : goal.decreases-loop-end
decreases-loop-end l = l.end
