use Rattle.std.proofs.Common.{◌≡◌, ◌+◌, ◌<◌, ◌≤◌, drop, get_or, length, length-drop, take, ap, sym, ◌∙◌, arith}
use Rattle.std.proofs.lemmas.Bool.{eqb-true, eqb-false}
use Rattle.scenario_lang.specs.Lines.{outcome, state_of}
use Rattle.scenario_lang.proofs.Fronts.{byte_front, line_front, outcome_next, unended_front}
use Rattle.scenario_lang.proofs.Scan.{outcome_byte, outcome_end, outcome_unended_all}
use Rattle.scenario_lang.proofs.text.read_text.Goals as goal

pub cut_at-requires : goal.cut_at-requires
cut_at-requires c = (line_front c.loop-rest.rest.now c.in-Line.at c.in-Line.ensures).within

pub loop-rest-preserved : goal.loop-rest-preserved
loop-rest-preserved c =
    let f = line_front c.loop-rest.rest.now c.in-Line.at c.in-Line.ensures in
    let within : c.in-Line.at < length c.loop-rest.rest.now = f.within in
    let next = c.in_ok-take-in-Line.ensures.line in
    let left : length c.cut_at.result.1.now + (c.in-Line.at + 1) ≡ length c.loop-rest.rest.now = rw c.cut_at.ensures.rest (omega (arith, length-drop (c.in-Line.at + 1) c.loop-rest.rest.now, within)) in
    record {
      read = outcome_next c.loop-rest.reader.line c.take.new.self.line (state_of c.loop-rest.reader) (state_of c.take.new.self) c.loop-rest.rest.now c.cut_at.result.0.now c.cut_at.result.1.now c.in-Line.at f c.loop-rest.invariant.from_one next c.in_ok-take-in-Line.ensures.state c.cut_at.ensures.front c.cut_at.ensures.rest
          ∙ c.loop-rest.invariant.read;
      from_one = omega (arith, next);
      few = omega (arith, next, left, c.loop-rest.invariant.few);
    }

pub returns-in-NotPrintable : goal.returns-in-NotPrintable
returns-in-NotPrintable c =
    let b = byte_front c.loop-rest.rest.now c.in-NotPrintable.ensures in
    rw c.refused.ensures
    (sym c.loop-rest.invariant.read ∙ ap (outcome c.loop-rest.reader.line (state_of c.loop-rest.reader)) b.1.cut
    ∙ outcome_byte c.loop-rest.reader.line (state_of c.loop-rest.reader) (take b.0 c.loop-rest.rest.now) (get_or c.loop-rest.rest.now b.0 0) (drop (b.0 + 1) c.loop-rest.rest.now) b.1.printable b.1.bad)

pub returns-in-NotEnded : goal.returns-in-NotEnded
returns-in-NotEnded c =
    let filled = eqb-false _ _ (sym c.is_empty.ensures ∙ c.loop-rest-test.true) in
    let more : 0 < length c.loop-rest.rest.now = omega (arith, filled) in
    rw c.refused-in-NotEnded.ensures
    (sym c.loop-rest.invariant.read ∙ outcome_unended_all c.loop-rest.reader.line (state_of c.loop-rest.reader) c.loop-rest.rest.now more (unended_front c.loop-rest.rest.now c.in-NotEnded.ensures))

pub returns : goal.returns
returns c =
    let none : length c.loop-rest.rest.now ≡ 0 = eqb-true _ _ (sym c.is_empty.ensures ∙ c.loop-rest-test.false) in
    rw (sym c.loop-rest.invariant.read ∙ outcome_end c.loop-rest.reader.line (state_of c.loop-rest.reader) c.loop-rest.rest.now none) c.finish.ensures
