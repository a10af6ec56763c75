use Rattle.std.proofs.Common.{◌≡◌, ◌+◌, ◌≤◌, length, Ok}
use Rattle.scenario_grammar.specs.Parsed.{nothing_yet}
use Rattle.scenario_lang.specs.Lines.{outcome, state_of}
use Rattle.scenario_lang.proofs.text.read_text.Given as goal

abbrev pub invariant-loop-rest : goal.invariant-loop-rest
invariant-loop-rest l = record {
  read : outcome l.reader.line (state_of l.reader) l.rest ≡ outcome 1 (Ok nothing_yet) l.fn.bytes;
  from_one : 1 ≤ l.reader.line;
  few : l.reader.line + length l.rest ≤ length l.fn.bytes + 1;
}

abbrev pub decreases-loop-rest : goal.decreases-loop-rest
decreases-loop-rest l = length l.rest
