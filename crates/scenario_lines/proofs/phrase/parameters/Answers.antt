use Rattle.std.proofs.Common.{rules, List, Err, ◌-◌, ◌≡◌, ◌<◌, length, ◌∙◌, [], sym}
use Rattle.scenario_grammar.specs.Reading.{Reading, to_the_end, name_at}
use Rattle.gv_values.specs.declared.name.Name.{Name}
use Rattle.scenario_lines.specs.declared.refusal.LineRefusal.{LineRefusal}
use Rattle.scenario_lines.specs.Parts.{Refuses}
use Rattle.scenario_lines.specs.Reads.{Reads}
use Rattle.scenario_lines.proofs.Counted.{end_next, end_refused, with_front}
use Rattle.scenario_lines.proofs.phrase.parameters.Goals as goal

pub loop-preserved : goal.loop-preserved
loop-preserved c =
    let unended : c.loop.cursor ≡ [] → ⊥ = λ e. let t = c.is_empty.ensures.1 e in let f = c.if-is_empty.false in cc in
    end_next name_at (length c.args.cursor.now) c.loop.counter c.loop.parameters c.push_part.new.parts c.loop.cursor c.name.new.self c.name.result (rw (sym c.cursor.view_is) c.loop-test.true) unended c.name.ensures c.in_ok-push_part.ensures ∙ c.loop.invariant

pub returns-in_err-push_part : goal.returns-in_err-push_part
returns-in_err-push_part c =
    let unended : c.loop.cursor ≡ [] → ⊥ = λ e. let t = c.is_empty.ensures.1 e in let f = c.if-is_empty.false in cc in
    let below : c.loop.counter < length c.args.cursor.now = rw (sym c.cursor.view_is) c.loop-test.true in
    let refused : (e : LineRefusal) (r : Reading (List Name)) → Refuses c.name.result e →
    with_front c.loop.parameters (to_the_end name_at (length c.args.cursor.now - c.loop.counter) c.loop.cursor) ≡ r → Reads r (Err e) c.name.new.self
    = λ e r read same. end_refused name_at (length c.args.cursor.now) c.loop.counter c.loop.parameters c.loop.cursor c.name.new.self c.name.result e r below unended c.name.ensures read same in
    search (rules, refused)
