-- From the run of a storm, whose lines are counted, to what the call answers.
use Rattle.std.proofs.Common.{◌≡◌, ◌≢◌, ℕ, ◌+◌, ◌≤◌, false, List, [], ◌∷◌, ◌++◌, length, take, Option, Some, Ok, Err, Result, refl, ap, sym, subst, ◌∙◌, unwrap_or, arith, length-append}
use Rattle.std.proofs.lemmas.Grind.{common_steps}
use Rattle.gv_io.specs.Streams.{appended}
use Rattle.gv_io.proofs.StreamLaws.{AppendsPrefix-nothing, appended-told}
use Rattle.line_counter.specs.Lines.{lines_of}
use Rattle.trace_text.specs.Line.{line_text, text_of}
use Rattle.trace_text.specs.declared.line.Line.{Line}
use Rattle.trace_text.specs.declared.line.StopCause.{StopCause}
use Rattle.scenario_tree.specs.declared.tree.Scenario.{Scenario}
use Rattle.scenario_grammar.specs.declared.place.Place.{Place}
use Rattle.scenario_lang.specs.declared.text.ParseRefusal.{ParseRefusal}
use Rattle.scenario_lang.specs.declared.text.ParseRefusal.TheVariants as parse
use Rattle.scenario_lang.specs.Lines.{Parses}
use Rattle.world.specs.Outside.{Begins, WorldGoesOn, WorldMeaning}
use Rattle.world.specs.Kept.{rule_state, script_log, script_meaning}
use Rattle.world.specs.declared.script.ScriptWorld.{ScriptWorld}
use Rattle.world_rules.specs.declared.question.LogEntry.{LogEntry}
use Rattle.world_rules.specs.Rules.{Follows, start}
use Rattle.machine.specs.Run.{End as RunEnd, Ran, run, script_run}
use Rattle.machine.specs.State.{State}
use Rattle.machine_scripts.specs.Scripts.{FollowersRunScripts, IsBeginningOf}
use Rattle.command_words.specs.declared.command.TextCommand.{TextCommand}
use Rattle.wsgi_core.specs.Applications.{App}
use Rattle.hub_engine.specs.declared.run.EngineEnd.{EngineEnd}
use Rattle.hub_engine.specs.declared.run.Ran.{Ran as Came}
use Rattle.hub_engine.specs.Ends.{CountsOf, HasLogged, HasNumbers, HasNumbersAt, RanTo, end_of_run}
use Rattle.hub_engine.specs.Outside.{WritesPart}
use Rattle.hub_engine.specs.Prepared.{Prepared}
use Rattle.trace_laws.proofs.Lines.{text_of_append}
use Rattle.trace_laws.proofs.Placing.{feeds_append, feeds_lines, few_feeds}
use Rattle.gv_top.specs.declared.status.Verdict.{Verdict}
use Rattle.gv_top.specs.declared.words.OfflineCommand.{OfflineCommand}
use Rattle.scenario_reading.specs.Judged.{judged_text}
use Rattle.gv_top.specs.Answers.{Answer, IsStormAnswer, answer_of_storm}
use Rattle.run_command.specs.Ends.{is_broken_off}
use Rattle.gv_top.specs.Counted.{WasCounted}
use Rattle.run_command.specs.Storming.{IsStorm, storm_text}
use Rattle.gv_top.specs.Storming.{storm_run}
use Rattle.gv_top.specs.Top.{Decided, Ended, IsAnswered, Stream}
use Rattle.gv_top.specs.Status.{verdict_of_run, verdict_of_text}
use Rattle.run_command.proofs.InWorlds.{part_logged}
use Rattle.gv_top.proofs.ReadTexts.{spelt_is_judged}
use Rattle.gv_top.proofs.Tops.{answered, status_is}
use Rattle.gv_values.specs.declared.limits.TheConstants.{MOST_MOVES, MOST_TURNS}

-- ---- the run

-- an end that is no break has the numbers of the last state
numbers_at : (end : EngineEnd) (came : Came) (s : State) → is_broken_off end ≡ false → HasNumbersAt end came s → CountsOf came s
numbers_at EngineEnd.WriteFault came s e h = absurd (cc e)
numbers_at EngineEnd.Memory came s e h = absurd (cc e)
numbers_at EngineEnd.MainValue came s e h = h
numbers_at (EngineEnd.MainFault f) came s e h = h
numbers_at EngineEnd.NoTurns came s e h = h
numbers_at EngineEnd.NoMoves came s e h = h
numbers_at EngineEnd.NoGreenlets came s e h = h
numbers_at EngineEnd.NoLinks came s e h = h
numbers_at EngineEnd.NoKills came s e h = h

-- with such an end the sink has the whole trace
whole_at : (end : EngineEnd) (r : Ran) (old new : Option (List ℕ)) → is_broken_off end ≡ false → RanTo end r old new → (new ≡ appended old (text_of r.lines)) × (Some end ≡ end_of_run r.end)
whole_at EngineEnd.WriteFault r old new e h = absurd (cc e)
whole_at EngineEnd.Memory r old new e h = absurd (cc e)
whole_at EngineEnd.MainValue r old new e h = h
whole_at (EngineEnd.MainFault f) r old new e h = h
whole_at EngineEnd.NoTurns r old new e h = h
whole_at EngineEnd.NoMoves r old new e h = h
whole_at EngineEnd.NoGreenlets r old new e h = h
whole_at EngineEnd.NoLinks r old new e h = h
whole_at EngineEnd.NoKills r old new e h = h

-- what was appended to no bytes is all that there is
all_appended : (new text : List ℕ) → Some new ≡ appended (Some []) text → new ≡ text
all_appended new text e = ap (λ (o : Option (List ℕ)). unwrap_or o new) (e ∙ appended-told [] text)

stops_for : (end : EngineEnd) (e : RunEnd) → Some end ≡ end_of_run e → (cause : StopCause) × (e ≡ RunEnd.Stopped cause)
stops_for end (RunEnd.Stopped cause) h = (cause, refl)
stops_for end RunEnd.Asking h = absurd (cc h)

-- there are no more lines than bytes
few_lines : (lines : List Line) → length lines ≤ length (text_of lines)
few_lines [] = omega arith
few_lines (l ∷ lines) = omega (arith, length-append (line_text l) (10 ∷ text_of lines), few_lines lines)

-- the text of lines that were written, each one that there is, has as many line feeds as there are lines
whole_lines : (text : List ℕ) (lines : List Line) → text ≡ text_of lines → WritesPart (Some []) (Some text) lines → lines_of text ≡ length lines
whole_lines text lines all part =
    let first = text_of part.tried in
    let later = text_of part.later in
    let whole : text ≡ first ++ later = all ∙ ap text_of part.is ∙ text_of_append part.tried part.later in
    let front : text ≡ take part.text.count first = all_appended text (take part.text.count first) part.text.is in
    let short : length (take part.text.count first) ≤ length first = grind (arith, common_steps) in
    let long : length text ≡ length first + length later = ap length whole ∙ length-append first later in
    let same : length text ≡ length (take part.text.count first) = ap length front in
    let none : length part.later ≡ 0 = omega (arith, few_lines part.later) in
    let feeds : lines_of text ≡ lines_of first + lines_of later = ap lines_of whole ∙ feeds_append first later in
    let count : length lines ≡ length part.tried + length part.later = ap length part.is ∙ length-append part.tried part.later in
    omega (arith, feeds, count, none, feeds_lines part.tried part.fit, few_feeds later, few_lines part.later)

-- the run was counted, and it is the whole
counted_whole : (came : Came) (lines : ℕ) (text : List ℕ) (whole r : Ran) → IsBeginningOf whole r → is_broken_off came.end ≡ false → lines ≡ lines_of text
    → RanTo came.end r (Some []) (Some text) → WritesPart (Some []) (Some text) r.lines → HasNumbers came r.state → WasCounted came lines whole
counted_whole came lines text whole r b e l h part n =
    let all = whole_at came.end r (Some []) (Some text) e h in
    let stop = stops_for came.end r.end all.1 in
    let P : Ran → Type 0 = λ x. WasCounted came lines x in
    subst P (b.stopped stop.0 stop.1)
    (record { end = all.1; numbers = numbers_at came.end came r.state e n; lines_are = l ∙ whole_lines text r.lines (all_appended text (text_of r.lines) all.0) part })

-- a run in a script world is the run under its rule
is_script_run : FollowersRunScripts → (end : EngineEnd) (c : Scenario) (turns moves tick : ℕ) (before begun : WorldMeaning) (w : ScriptWorld) → before.tick ≡ tick → Begins before begun 1
    → WorldGoesOn begun (script_meaning w) → HasLogged end (run c turns moves w.answers.items).log w.answers.items (script_log w)
    → IsBeginningOf (script_run c turns moves tick) (run c turns moves w.answers.items)
is_script_run law end c turns moves tick before begun w same b g logged =
    let part = part_logged end (run c turns moves w.answers.items).log w.answers.items (script_log w) logged in
    let F : ℕ → Type 0 = λ k. Follows k (start []) part.part (rule_state w []) in
    law c turns moves tick w.answers.items part.part part.later (rule_state w []) part.is part.all (subst F (g.tick ∙ b.tick ∙ same) part.stood)

pub was_counted : FollowersRunScripts → (came : Came) (lines : ℕ) (s : Scenario) (engine : Prepared) (before begun : WorldMeaning) (w : ScriptWorld) (none text : List ℕ)
    → engine ≡ record { scenario = s; turns = MOST_TURNS; moves = MOST_MOVES } → before.tick ≡ 0 → Begins before begun 1 → WorldGoesOn begun (script_meaning w) → none ≡ []
    → is_broken_off came.end ≡ false → lines ≡ lines_of text
    → RanTo came.end (run engine.scenario engine.turns engine.moves w.answers.items) (Some none) (Some text)
    → HasNumbers came (run engine.scenario engine.turns engine.moves w.answers.items).state
    → HasLogged came.end (run engine.scenario engine.turns engine.moves w.answers.items).log w.answers.items (script_log w)
    → WritesPart (Some none) (Some text) (run engine.scenario engine.turns engine.moves w.answers.items).lines
    → WasCounted came lines (storm_run s)
unfolding storm_run
was_counted law came lines s engine before begun w none text is same b g empty e l written numbers logged tried =
    let O : List ℕ → Type 0 = λ x. RanTo came.end (run engine.scenario engine.turns engine.moves w.answers.items) (Some x) (Some text) in
    let T : List ℕ → Type 0 = λ x. WritesPart (Some x) (Some text) (run engine.scenario engine.turns engine.moves w.answers.items).lines in
    let P : Prepared → Type 0 = λ x. WasCounted came lines (script_run x.scenario x.turns x.moves 0) in
    subst P is (counted_whole came lines text (script_run engine.scenario engine.turns engine.moves 0) (run engine.scenario engine.turns engine.moves w.answers.items)
    (is_script_run law came.end engine.scenario engine.turns engine.moves 0 before begun w same b g logged) e l (subst O empty written) (subst T empty tried) numbers)

-- ---- its scenario

-- the scenario that was read of the text is the storm's
same_storm : (n : ℕ) (r : Result Scenario Place) (s : Scenario) (bytes : List ℕ) → bytes ≡ storm_text n → judged_text bytes ≡ r → IsStorm n s → r ≡ Ok s
same_storm n r s bytes is e storm = sym e ∙ ap judged_text is ∙ spelt_is_judged s (storm_text n) storm.0 storm.1

pub storm_decided : (n : ℕ) (t : Scenario) (bytes : List ℕ) (end : EngineEnd) (v : Verdict) (old new : Option (List ℕ)) → bytes ≡ storm_text n → judged_text bytes ≡ Ok t → v ≡ verdict_of_run end
    → Decided (verdict_of_run end) (answer_of_storm n (storm_run t)) old new → (a : Answer) → IsStormAnswer n a → Decided v a old new
storm_decided n t bytes end v old new is e same_verdict h a of =
    let same : t ≡ of.0 = cc (same_storm n (Ok t) of.0 bytes is e of.1) in
    let P : Answer → Type 0 = λ x. Decided v x old new in
    let Q : Scenario → Type 0 = λ s. Decided v (answer_of_storm n (storm_run s)) old new in
    let R : Verdict → Type 0 = λ x. Decided x (answer_of_storm n (storm_run t)) old new in
    subst P (sym of.2) (subst Q same (subst R (sym same_verdict) h))

-- its text is not refused, but memory may run out for it
pub storm_unread : (n : ℕ) (bytes : List ℕ) (e : ParseRefusal) (v : Verdict) (old : Option (List ℕ)) → bytes ≡ storm_text n → v ≡ verdict_of_text e → Parses (judged_text bytes) (Err e)
    → (a : Answer) → IsStormAnswer n a → Decided v a old old
storm_unread n bytes e v old is same h a of = let P : Verdict → Type 0 = λ x. Decided x a old old in subst P (sym same) (by e h)
  where
    by : (e : ParseRefusal) → Parses (judged_text bytes) (Err e) → Decided (verdict_of_text e) a old old
    by (parse.Refused p) h = let z : Err p ≡ Ok of.0 = same_storm n (Err p) of.0 bytes is h of.1 in absurd (let no : ⊥ = cc z in no)
    by parse.Memory h = AppendsPrefix-nothing old a.out

-- ---- the call

pub text_is_no_storm : (text : TextCommand) (size : ℕ) → OfflineCommand.Text text ≡ OfflineCommand.Storm size → ⊥
text_is_no_storm text size e = cc e

-- what the call leaves of a storm
pub answers_storm : {n : ℕ} {app : App} {c : Option OfflineCommand} {after : WorldMeaning} {stands : List LogEntry → Type 0} {input out err : Stream} (size : ℕ) →
    Ended n app c after stands input out err → c ≡ Some (OfflineCommand.Storm size)
    → (n ≢ 4) × ((s : Scenario) → IsStorm size s → IsAnswered n (answer_of_storm size (storm_run s)) out.before out.after err.before err.after)
answers_storm size h named =
    let d = h.came_to.storm size named in
    ((λ e. d.0 (status_is 4 h e (λ z. omega arith))), λ s is. let a = answer_of_storm size (storm_run s) in answered _ h.verdict a _ _ _ _ _ _ (d.1 a (s, is, refl)) h.told)
