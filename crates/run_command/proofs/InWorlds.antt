-- From the calls of a world and of the engine to what a run in it came to.
use Rattle.std.proofs.Common.{Bool, ◌≡◌, ◌≢◌, ◌⊎◌, ◌↔◌, inl, inr, refl, ap, sym, subst, ◌∙◌, ℕ, ◌<◌, true, false, List, [], ◌∷◌, ◌++◌, Option, Some, append_assoc, append-nil, ◌≤◌, arith}
use Rattle.std.proofs.Math.Logic.{∥∥₁_map}
use Rattle.gv_values.specs.Counts.{HasRisen}
use Rattle.gv_values.specs.declared.job.Answer.{Answer}
use Rattle.gv_values.specs.declared.limits.TheConstants.{MOST_WORKERS}
use Rattle.gv_io.specs.Streams.{appended, AppendsPrefix}
use Rattle.gv_io.proofs.StreamLaws.{AppendsPrefix-all, AppendsPrefix-longer, AppendsPrefix-nothing}
use Rattle.trace_text.specs.declared.line.Line.{Line}
use Rattle.trace_text.specs.declared.line.StopCause.{StopCause}
use Rattle.trace_text.specs.Line.{answers_told, line_text, text_of}
use Rattle.scenario_tree.specs.declared.tree.Scenario.{Scenario}
use Rattle.world_rules.specs.declared.question.LogEntry.{LogEntry}
use Rattle.world_rules.specs.Legal.{AreLegal, answers_of, is_answered, posts_of}
use Rattle.world_rules.specs.Rules.{Follows, start}
use Rattle.world.specs.declared.script.ScriptWorld.{ScriptWorld}
use Rattle.world.specs.Holding.{Leads}
use Rattle.world.specs.LegalLogs.{HasLegalLog}
use Rattle.world.specs.Kept.{rule_state, script_log, script_meaning}
use Rattle.world.specs.Logged.{script_log_is}
use Rattle.world.specs.Outside.{Begins, WorldGoesOn, WorldMeaning}
use Rattle.machine.specs.Run.{End as RunEnd, Ran, Source, run, script_run}
use Rattle.machine_scripts.specs.Scripts.{FollowersRunScripts, IsBeginningOf}
use Rattle.machine_told.specs.Told.{posts_told}
use Rattle.machine_told.specs.Laws.{AnswersAreTold, PostsAreTold}
use Rattle.hub_engine.specs.declared.run.EngineEnd.{EngineEnd}
use Rattle.hub_engine.specs.Prepared.{Prepared}
use Rattle.hub_engine.specs.Ends.{HasLogged, IsPartLogged, RanTo, end_of_run}
use Rattle.hub_engine.specs.Run.{WroteAhead}
use Rattle.run_command.specs.Faults.{Counts}
use Rattle.run_command.specs.Inner.{RanInWorld}
use Rattle.run_command.specs.Running.{IsBegun, IsHeldAhead, IsLogged, RanHeld, RanNatively, run_of}
use Rattle.command_words.specs.Ranges.{IsWorldInRange}
use Rattle.command_words.specs.declared.command.RunOptions.{RunOptions}
use Rattle.command_words.specs.declared.command.RunWorld.{RunWorld}
use Rattle.machine.specs.TraceLaws.{meets_laws}

-- ---- out

-- nothing was appended
pub left_as_it_was : (old new : Option (List ℕ)) (text : List ℕ) → new ≡ old → AppendsPrefix old new text
left_as_it_was old new text e = let P : Option (List ℕ) → Type 0 = λ x. AppendsPrefix old x text in subst P (sym e) (AppendsPrefix-nothing old text)

-- out has a prefix of the trace, whatever the end
pub prefix_of_trace : (end : EngineEnd) (r : Ran) (old new : Option (List ℕ)) → RanTo end r old new → AppendsPrefix old new (text_of r.lines)
prefix_of_trace EngineEnd.WriteFault r old new h = h
prefix_of_trace EngineEnd.Memory r old new h = h
prefix_of_trace EngineEnd.MainValue r old new h = AppendsPrefix-all old new (text_of r.lines) h.0
prefix_of_trace (EngineEnd.MainFault f) r old new h = AppendsPrefix-all old new (text_of r.lines) h.0
prefix_of_trace EngineEnd.NoTurns r old new h = AppendsPrefix-all old new (text_of r.lines) h.0
prefix_of_trace EngineEnd.NoMoves r old new h = AppendsPrefix-all old new (text_of r.lines) h.0
prefix_of_trace EngineEnd.NoGreenlets r old new h = AppendsPrefix-all old new (text_of r.lines) h.0
prefix_of_trace EngineEnd.NoLinks r old new h = AppendsPrefix-all old new (text_of r.lines) h.0
prefix_of_trace EngineEnd.NoKills r old new h = AppendsPrefix-all old new (text_of r.lines) h.0

-- ---- the log

-- a whole log is a part of itself
part_of_all : (log : List LogEntry) (answers : List Answer) (stands : List LogEntry → Type 0) → stands log × (answers_of log ≡ answers) → IsPartLogged log answers stands
part_of_all log answers stands h = record { part = log; later = []; is = sym (append-nil log); all = h.1; stood = h.0 }

pub part_logged : (end : EngineEnd) (log : List LogEntry) (answers : List Answer) (stands : List LogEntry → Type 0) → HasLogged end log answers stands → IsPartLogged log answers stands
part_logged EngineEnd.WriteFault log answers stands h = h
part_logged EngineEnd.Memory log answers stands h = h
part_logged EngineEnd.MainValue log answers stands h = part_of_all log answers stands h
part_logged (EngineEnd.MainFault f) log answers stands h = part_of_all log answers stands h
part_logged EngineEnd.NoTurns log answers stands h = part_of_all log answers stands h
part_logged EngineEnd.NoMoves log answers stands h = part_of_all log answers stands h
part_logged EngineEnd.NoGreenlets log answers stands h = part_of_all log answers stands h
part_logged EngineEnd.NoLinks log answers stands h = part_of_all log answers stands h
part_logged EngineEnd.NoKills log answers stands h = part_of_all log answers stands h

all_logged : (end : EngineEnd) (log : List LogEntry) (answers : List Answer) (stands : List LogEntry → Type 0) → HasLogged end log answers stands → end ≢ EngineEnd.WriteFault → end ≢ EngineEnd.Memory → stands log
all_logged EngineEnd.WriteFault log answers stands h w m = absurd (w refl)
all_logged EngineEnd.Memory log answers stands h w m = absurd (m refl)
all_logged EngineEnd.MainValue log answers stands h w m = h.0
all_logged (EngineEnd.MainFault f) log answers stands h w m = h.0
all_logged EngineEnd.NoTurns log answers stands h w m = h.0
all_logged EngineEnd.NoMoves log answers stands h w m = h.0
all_logged EngineEnd.NoGreenlets log answers stands h w m = h.0
all_logged EngineEnd.NoLinks log answers stands h w m = h.0
all_logged EngineEnd.NoKills log answers stands h w m = h.0

-- ---- a run in a world

-- what is said of the end once out has handed on what was written
handed_on : (end handed : EngineEnd) (r : Ran) (out0 out1 : Option (List ℕ)) → RanTo end r out0 out1 → (handed ≡ end) ⊎ (handed ≡ EngineEnd.WriteFault) → RanTo handed r out0 out1
handed_on end handed r out0 out1 h (inl e) = let P : EngineEnd → Type 0 = λ x. RanTo x r out0 out1 in subst P (sym e) h
handed_on end handed r out0 out1 h (inr e) = let P : EngineEnd → Type 0 = λ x. RanTo x r out0 out1 in subst P (sym e) (prefix_of_trace end r out0 out1 h)

-- an end that is no write fault was handed on
was_handed : (end handed : EngineEnd) → (handed ≡ end) ⊎ (handed ≡ EngineEnd.WriteFault) → handed ≢ EngineEnd.WriteFault → handed ≡ end
was_handed end handed (inl e) w = e
was_handed end handed (inr e) w = absurd (w e)

-- the count of faults over the run and over handing on
pub counts_handed : (end handed : EngineEnd) (old ran new : ℕ) → (end ≡ EngineEnd.WriteFault → HasRisen old ran) → (end ≢ EngineEnd.WriteFault → ran ≡ old) → old ≤ ran →
    (handed ≡ end) ⊎ (handed ≡ EngineEnd.WriteFault) → (handed ≡ EngineEnd.WriteFault → (end ≡ EngineEnd.WriteFault) ⊎ HasRisen ran new) → (handed ≢ EngineEnd.WriteFault → new ≡ ran) → ran ≤ new →
    Counts (handed ≡ EngineEnd.WriteFault) old new
counts_handed end handed old ran new failed unfailed rises how handed_failed handed_unfailed later = record {
  failed = λ e. by (handed_failed e);
  unfailed = λ w. handed_unfailed w ∙ unfailed (λ z. w (was_handed end handed how w ∙ z));
  never_falls = omega (arith, rises, later);
}
  where
    risen : HasRisen old ran → HasRisen old new
    risen (inl h) = inl (omega (arith, h, later))
    risen (inr h) = inr (omega (arith, h, later))

    later_risen : HasRisen ran new → HasRisen old new
    later_risen (inl h) = inl (omega (arith, h, rises))
    later_risen (inr h) = inr h

    by : (end ≡ EngineEnd.WriteFault) ⊎ HasRisen ran new → HasRisen old new
    by (inl e) = risen (failed e)
    by (inr h) = later_risen h

pub ran_in_world : (end handed : EngineEnd) (whole : List Answer → Ran) (workers : ℕ) (before begun ran after : WorldMeaning) (stood stands : List LogEntry → Type 0) (out0 out1 out2 : Option (List ℕ))
    → Begins before begun workers → WorldGoesOn begun ran → after ≡ record ran { runs = false } → ((log : List LogEntry) → stood log ↔ stands log)
    → RanTo end (whole ran.answers) out0 out1 → WroteAhead whole ran.answers out0 out1 → HasLogged end (whole ran.answers).log ran.answers stood → AreLegal [] [] (whole ran.answers).log
    → out2 ≡ out1 → (handed ≡ end) ⊎ (handed ≡ EngineEnd.WriteFault)
    → RanInWorld handed whole workers before after stands out0 out2
ran_in_world end handed whole workers before begun ran after stood stands out0 out1 out2 b g f l written ahead logged legal same how =
    let same_answers : after.answers ≡ ran.answers = ap (λ (m : WorldMeaning). m.answers) f in
    let P : List Answer → Type 0 = λ answers. RanTo handed (whole answers) out0 out2 in
    let Q : List Answer → Type 0 = λ answers. WroteAhead whole answers out0 out2 in
    let R : List Answer → Type 0 = λ answers. IsPartLogged (whole answers).log answers stands in
    let S : List Answer → Type 0 = λ answers. AreLegal [] [] (whole answers).log in
    let T : List Answer → Type 0 = λ answers. stands (whole answers).log in
    let O : Option (List ℕ) → Type 0 = λ out. RanTo handed (whole ran.answers) out0 out in
    let A : Option (List ℕ) → Type 0 = λ out. WroteAhead whole ran.answers out0 out in
    let part = part_logged end (whole ran.answers).log ran.answers stood logged in
    record {
      written = subst P (sym same_answers) (subst O (sym same) (handed_on end handed (whole ran.answers) out0 out1 written how));
      ahead = subst Q (sym same_answers) (subst A (sym same) ahead);
      part = subst R (sym same_answers) (record { part = part.part; later = part.later; is = part.is; all = part.all; stood = (l part.part).0 part.stood });
      log = λ w m. subst T (sym same_answers) ((l (whole ran.answers).log).0
          (let e = was_handed end handed how w in all_logged end (whole ran.answers).log ran.answers stood logged (λ z. w (e ∙ z)) (λ z. m (e ∙ z))));
      legal = subst S (sym same_answers) legal;
      workers_are = ap (λ (m : WorldMeaning). m.workers) f ∙ g.workers ∙ b.workers_are;
      tick = ap (λ (m : WorldMeaning). m.tick) f ∙ g.tick ∙ b.tick;
      reference = ap (λ (m : WorldMeaning). m.reference) f ∙ g.reference ∙ b.reference;
      rests = ap (λ (m : WorldMeaning). m.runs) f;
    }

-- ---- under the rule of a script

text_append : (xs ys : List Line) → text_of (xs ++ ys) ≡ text_of xs ++ text_of ys
text_append [] ys = refl
text_append (x ∷ xs) ys = ap (λ t. line_text x ++ 10 ∷ t) (text_append xs ys) ∙ sym (append_assoc (line_text x) (10 ∷ text_of xs) (text_of ys))

stops_for : (end : EngineEnd) (e : RunEnd) → Some end ≡ end_of_run e → (cause : StopCause) × (e ≡ RunEnd.Stopped cause)
stops_for end (RunEnd.Stopped cause) h = (cause, refl)
stops_for end RunEnd.Asking h = absurd (cc h)

-- where out has the beginning of a run, it has the beginning of the whole
longer : (whole r : Ran) (out0 out1 : Option (List ℕ)) → IsBeginningOf whole r → AppendsPrefix out0 out1 (text_of r.lines) → AppendsPrefix out0 out1 (text_of whole.lines)
longer whole r out0 out1 b h =
    let P : List ℕ → Type 0 = λ t. AppendsPrefix out0 out1 t in
    subst P (sym (ap text_of b.lines.is ∙ text_append r.lines b.lines.rest)) (AppendsPrefix-longer out0 out1 (text_of r.lines) (text_of b.lines.rest) h)

stopped_whole : (end : EngineEnd) (whole r : Ran) (out0 out1 : Option (List ℕ)) → IsBeginningOf whole r → (out1 ≡ appended out0 (text_of r.lines)) × (Some end ≡ end_of_run r.end)
    → (out1 ≡ appended out0 (text_of whole.lines)) × (Some end ≡ end_of_run whole.end)
stopped_whole end whole r out0 out1 b h =
    let stop = stops_for end r.end h.1 in
    let P : Ran → Type 0 = λ x. (out1 ≡ appended out0 (text_of x.lines)) × (Some end ≡ end_of_run x.end) in
    subst P (b.stopped stop.0 stop.1) h

ran_to_whole : (end : EngineEnd) (whole r : Ran) (out0 out1 : Option (List ℕ)) → IsBeginningOf whole r → RanTo end r out0 out1 → RanTo end whole out0 out1
ran_to_whole EngineEnd.WriteFault whole r out0 out1 b h = longer whole r out0 out1 b h
ran_to_whole EngineEnd.Memory whole r out0 out1 b h = longer whole r out0 out1 b h
ran_to_whole EngineEnd.MainValue whole r out0 out1 b h = stopped_whole EngineEnd.MainValue whole r out0 out1 b h
ran_to_whole (EngineEnd.MainFault f) whole r out0 out1 b h = stopped_whole (EngineEnd.MainFault f) whole r out0 out1 b h
ran_to_whole EngineEnd.NoTurns whole r out0 out1 b h = stopped_whole EngineEnd.NoTurns whole r out0 out1 b h
ran_to_whole EngineEnd.NoMoves whole r out0 out1 b h = stopped_whole EngineEnd.NoMoves whole r out0 out1 b h
ran_to_whole EngineEnd.NoGreenlets whole r out0 out1 b h = stopped_whole EngineEnd.NoGreenlets whole r out0 out1 b h
ran_to_whole EngineEnd.NoLinks whole r out0 out1 b h = stopped_whole EngineEnd.NoLinks whole r out0 out1 b h
ran_to_whole EngineEnd.NoKills whole r out0 out1 b h = stopped_whole EngineEnd.NoKills whole r out0 out1 b h

-- what the world answered are answers under the rule of its script
script_begins : FollowersRunScripts → (end : EngineEnd) (c : Scenario) (turns moves workers tick k : ℕ) (before : WorldMeaning) (w : ScriptWorld) (out0 out1 : Option (List ℕ)) → before.tick ≡ tick
    → RanInWorld end (run c turns moves) workers before (record (script_meaning w) { reference = k }) (script_log w) out0 out1
    → IsBeginningOf (script_run c turns moves tick) (run c turns moves w.answers.items)
script_begins law end c turns moves workers tick k before w out0 out1 same h =
    let F : ℕ → Type 0 = λ t. Follows t (start []) h.part.part (rule_state w []) in
    law c turns moves tick w.answers.items h.part.part h.part.later (rule_state w []) h.part.is h.part.all (subst F (h.tick ∙ same) h.part.stood)

-- a run in a world that keeps a script is the run under its rule, whatever reference it works through
pub script_ran : FollowersRunScripts → (end : EngineEnd) (c : Scenario) (turns moves workers tick k : ℕ) (before : WorldMeaning) (w : ScriptWorld) (out0 out1 : Option (List ℕ)) → before.tick ≡ tick
    → RanInWorld end (run c turns moves) workers before (record (script_meaning w) { reference = k }) (script_log w) out0 out1 → RanTo end (script_run c turns moves tick) out0 out1
script_ran law end c turns moves workers tick k before w out0 out1 same h =
    ran_to_whole end (script_run c turns moves tick) (run c turns moves w.answers.items) out0 out1 (script_begins law end c turns moves workers tick k before w out0 out1 same h) h.written

-- where it came to its end, it is the whole run
same_whole : (end : EngineEnd) (whole r : Ran) (out0 out1 : Option (List ℕ)) → IsBeginningOf whole r → RanTo end r out0 out1 → end ≢ EngineEnd.WriteFault → end ≢ EngineEnd.Memory → r ≡ whole
same_whole end whole r out0 out1 b h w m = by end h w m
  where
    stopped : (e : EngineEnd) → Some e ≡ end_of_run r.end → r ≡ whole
    stopped e is = let stop = stops_for e r.end is in b.stopped stop.0 stop.1

    by : (e : EngineEnd) → RanTo e r out0 out1 → e ≢ EngineEnd.WriteFault → e ≢ EngineEnd.Memory → r ≡ whole
    by EngineEnd.WriteFault h w m = absurd (w refl)
    by EngineEnd.Memory h w m = absurd (m refl)
    by EngineEnd.MainValue h w m = stopped EngineEnd.MainValue h.1
    by (EngineEnd.MainFault f) h w m = stopped (EngineEnd.MainFault f) h.1
    by EngineEnd.NoTurns h w m = stopped EngineEnd.NoTurns h.1
    by EngineEnd.NoMoves h w m = stopped EngineEnd.NoMoves h.1
    by EngineEnd.NoGreenlets h w m = stopped EngineEnd.NoGreenlets h.1
    by EngineEnd.NoLinks h w m = stopped EngineEnd.NoLinks h.1
    by EngineEnd.NoKills h w m = stopped EngineEnd.NoKills h.1

-- ---- with native workers

pub ran_natively : PostsAreTold → AnswersAreTold → (end : EngineEnd) (c : Scenario) (turns moves workers : ℕ) (before after : WorldMeaning) (stands : List LogEntry → Type 0) (out0 out1 : Option (List ℕ))
    → ((log : List LogEntry) → stands log → (posts_of log ≡ after.posts) × (answers_of log ≡ after.answers))
    → RanInWorld end (run c turns moves) workers before after stands out0 out1 → end ≢ EngineEnd.WriteFault → end ≢ EngineEnd.Memory
    → RanNatively workers (run c turns moves after.answers) after stands
ran_natively posts answers end c turns moves workers before after stands out0 out1 law h w m =
    let log = h.log w m in
    let is = law (run c turns moves after.answers).log log in
    record {
      workers_are = h.workers_are;
      rests = h.rests;
      posts = posts (Source.Given after.answers) turns moves c ∙ is.0;
      answers = answers (Source.Given after.answers) turns moves c ∙ is.1;
      legal = h.legal;
      log = log;
    }

-- what they were posted and answered
pub logged_natively : (log : List LogEntry) (after : WorldMeaning) (stands : List LogEntry → Type 0) → ((part : List LogEntry) → stands part → (posts_of part ≡ after.posts) × (answers_of part ≡ after.answers))
    → IsPartLogged log after.answers stands → AreLegal [] [] log → IsLogged log after
logged_natively log after stands law h legal =
    let is = law h.part h.stood in record { part = h.part; later = h.later; begins = h.is; posts = is.0; answers = is.1; legal = legal }

-- ---- with native workers whose results are told in the order of a script

pub ran_held : FollowersRunScripts → PostsAreTold → AnswersAreTold → (end : EngineEnd) (c : Scenario) (turns moves workers k : ℕ) (before inner : WorldMeaning) (stands : List LogEntry → Type 0) (w : ScriptWorld) (out0 out1 : Option (List ℕ)) → before.tick ≡ 0 → 0 < workers
    → RanInWorld end (run c turns moves) workers before (record (script_meaning w) { reference = k }) (script_log w) out0 out1 → Leads inner (script_meaning w) → (0 < w.workers → ∥ HasLegalLog inner stands ∥₁)
    → end ≢ EngineEnd.WriteFault → end ≢ EngineEnd.Memory → RanHeld workers (script_run c turns moves 0) inner stands
ran_held law posts answers end c turns moves workers k before inner stands w out0 out1 same some_ h l logged wf m =
    let r = run c turns moves w.answers.items in
    let whole = script_run c turns moves 0 in
    let is : r ≡ whole = same_whole end whole r out0 out1 (script_begins law end c turns moves workers 0 k before w out0 out1 same h) h.written wf m in
    let n = ran_natively posts answers end c turns moves workers before (record (script_meaning w) { reference = k }) (script_log w) out0 out1 (script_log_is w) h wf m in
    let begun : 0 < w.workers = subst (λ (x : ℕ). 0 < x) (sym n.workers_are) some_ in
    record {
      workers_are = l.same_workers begun ∙ n.workers_are;
      rests = l.same_runs ∙ n.rests;
      posts = ap (λ (x : Ran). posts_told x.lines) (sym is) ∙ n.posts ∙ sym (l.same_posts begun);
      done = λ number told. l.ahead number (sym (ap (is_answered number) n.answers) ∙ ap (λ (x : Ran). is_answered number (answers_told x.lines)) is ∙ told);
      logged = logged begun;
    }

-- what was asked of it was asked ahead
pub held_ahead : (waits : Bool) (end : EngineEnd) (c : Scenario) (turns moves workers k : ℕ) (before inner : WorldMeaning) (stands : List LogEntry → Type 0) (w : ScriptWorld) (out0 out1 handed1 : Option (List ℕ)) → 0 < workers
    → RanInWorld end (run c turns moves) workers before (record (script_meaning w) { reference = k }) (script_log w) out0 out1 → Leads inner (script_meaning w) → (0 < w.workers → ∥ HasLegalLog inner stands ∥₁)
    → (waits ≡ true → WroteAhead (run c turns moves) w.answers.items out0 handed1) → IsHeldAhead waits (run c turns moves) inner out0 out1 handed1
held_ahead waits end c turns moves workers k before inner stands w out0 out1 handed1 some_ h l logged handed =
    let is = script_log_is w h.part.part h.part.stood in
    let begun : 0 < w.workers = subst (λ (x : ℕ). 0 < x) (sym h.workers_are) some_ in
    record {
      given = w.answers.items;
      part = h.part.part;
      later = h.part.later;
      begins = h.part.is;
      answers = is.1;
      posts = is.0 ∙ sym (l.same_posts begun);
      legal = h.legal;
      done = l.ahead;
      logged = ∥∥₁_map (logged begun) (λ (own : HasLegalLog inner stands). record { log = own.log; stood = tt; posts = own.posts; answers = own.answers; legal = own.legal; untimed = own.untimed });
      written = h.ahead;
      handed = handed;
    }

-- ---- the run of the options

-- how many native workers a world in range has
pub some_workers : (world : RunWorld) (workers : ℕ) → world ≡ RunWorld.Native workers → IsWorldInRange world → 0 < workers
some_workers world workers e h = let r : (1 ≤ workers) × (workers ≤ MOST_WORKERS) = subst IsWorldInRange e h in omega (arith, r.0)

pub few_workers : (world : RunWorld) (workers : ℕ) → world ≡ RunWorld.Native workers → IsWorldInRange world → workers ≤ MOST_WORKERS
few_workers world workers e h = let r : (1 ≤ workers) × (workers ≤ MOST_WORKERS) = subst IsWorldInRange e h in r.1

-- the same of those whose results are told in the order of a script
pub some_held : (world : RunWorld) (workers : ℕ) → world ≡ RunWorld.Held workers → IsWorldInRange world → 0 < workers
some_held world workers e h = let r : (1 ≤ workers) × (workers ≤ MOST_WORKERS) = subst IsWorldInRange e h in omega (arith, r.0)

pub few_held : (world : RunWorld) (workers : ℕ) → world ≡ RunWorld.Held workers → IsWorldInRange world → workers ≤ MOST_WORKERS
few_held world workers e h = let r : (1 ≤ workers) × (workers ≤ MOST_WORKERS) = subst IsWorldInRange e h in r.1

-- the engine that is prepared with these options under the rule of a script has run as they say
pub ran_by_script : (end : EngineEnd) (options : RunOptions) (tick : ℕ) (answers : List Answer) (s : Scenario) (engine : Prepared) (out0 out1 : Option (List ℕ)) →
    engine ≡ record { scenario = s; turns = options.turns; moves = options.moves } → options.world ≡ RunWorld.Script tick →
    RanTo end (script_run engine.scenario engine.turns engine.moves tick) out0 out1 → RanTo end (run_of options answers s) out0 out1
ran_by_script end options tick answers s engine out0 out1 is by_script h =
    let P : Prepared → Type 0 = λ e. RanTo end (script_run e.scenario e.turns e.moves tick) out0 out1 in
    let Q : RunWorld → Type 0 = λ w. RanTo end (elim w [
      | RunWorld.Script n ↦ script_run s options.turns options.moves n
      | RunWorld.Native workers ↦ run s options.turns options.moves answers
      | RunWorld.Held held ↦ script_run s options.turns options.moves 0
    ]) out0 out1 in
    subst Q (sym by_script) (subst P is h)

-- so has one with native workers
pub ran_by_workers : (end : EngineEnd) (options : RunOptions) (workers : ℕ) (answers : List Answer) (s : Scenario) (engine : Prepared) (out0 out1 : Option (List ℕ)) →
    engine ≡ record { scenario = s; turns = options.turns; moves = options.moves } → options.world ≡ RunWorld.Native workers →
    RanTo end (run engine.scenario engine.turns engine.moves answers) out0 out1 → RanTo end (run_of options answers s) out0 out1
ran_by_workers end options workers answers s engine out0 out1 is natively h =
    let P : Prepared → Type 0 = λ e. RanTo end (run e.scenario e.turns e.moves answers) out0 out1 in
    let Q : RunWorld → Type 0 = λ w. RanTo end (elim w [
      | RunWorld.Script n ↦ script_run s options.turns options.moves n
      | RunWorld.Native k ↦ run s options.turns options.moves answers
      | RunWorld.Held held ↦ script_run s options.turns options.moves 0
    ]) out0 out1 in
    subst Q (sym natively) (subst P is h)

-- under the rule of a script each run is begun
pub begun_by_script : (U : Type 0) (options : RunOptions) (tick : ℕ) (answers : List Answer) (s : Scenario) (engine : Prepared) (out0 out1 : Option (List ℕ)) →
    engine ≡ record { scenario = s; turns = options.turns; moves = options.moves } → options.world ≡ RunWorld.Script tick →
    meets_laws (script_run engine.scenario engine.turns engine.moves tick).lines ≡ true → IsBegun options s answers out0 out1 ⊎ U
begun_by_script U options tick answers s engine out0 out1 is by_script h =
    let P : Prepared → Type 0 = λ e. meets_laws (script_run e.scenario e.turns e.moves tick).lines ≡ true in
    let L : Ran → Type 0 = λ r. meets_laws r.lines ≡ true in
    let Q : RunWorld → Type 0 = λ w. L (elim w [
      | RunWorld.Script n ↦ script_run s options.turns options.moves n
      | RunWorld.Native workers ↦ run s options.turns options.moves answers
      | RunWorld.Held held ↦ script_run s options.turns options.moves 0
    ]) in
    inl (record { lawful = subst Q (sym by_script) (subst P is h); ahead = λ workers natively. absurd (other_world workers (sym by_script ∙ natively)) })
  where
    other_world : (workers : ℕ) → RunWorld.Script tick ≡ RunWorld.Native workers → ⊥
    other_world workers z = cc z

-- with native workers it is, or is not
pub begun_by_workers : (U : Type 0) (options : RunOptions) (workers : ℕ) (answers : List Answer) (s : Scenario) (engine : Prepared) (out0 out1 : Option (List ℕ)) →
    engine ≡ record { scenario = s; turns = options.turns; moves = options.moves } → options.world ≡ RunWorld.Native workers →
    ((meets_laws (run engine.scenario engine.turns engine.moves answers).lines ≡ true) × WroteAhead (run engine.scenario engine.turns engine.moves) answers out0 out1) ⊎ U
    → IsBegun options s answers out0 out1 ⊎ U
begun_by_workers U options workers answers s engine out0 out1 is natively (inl h) =
    let P : Prepared → Type 0 = λ e. (meets_laws (run e.scenario e.turns e.moves answers).lines ≡ true) × WroteAhead (run e.scenario e.turns e.moves) answers out0 out1 in
    let L : Ran → Type 0 = λ r. meets_laws r.lines ≡ true in
    let Q : RunWorld → Type 0 = λ w. L (elim w [
      | RunWorld.Script n ↦ script_run s options.turns options.moves n
      | RunWorld.Native k ↦ run s options.turns options.moves answers
      | RunWorld.Held held ↦ script_run s options.turns options.moves 0
    ]) in
    let A : RunWorld → Type 0 = λ w. WroteAhead (λ given. elim w [
      | RunWorld.Script n ↦ script_run s options.turns options.moves n
      | RunWorld.Native k ↦ run s options.turns options.moves given
      | RunWorld.Held held ↦ script_run s options.turns options.moves 0
    ]) answers out0 out1 in
    let begun = subst P is h in
    inl (record { lawful = subst Q (sym natively) begun.0; ahead = λ others e. subst A (sym natively) begun.1 })
begun_by_workers U options workers answers s engine out0 out1 is natively (inr u) = inr u

-- ---- with held order

-- the engine that is prepared with these options has run as they say
pub ran_by_held : (end : EngineEnd) (options : RunOptions) (workers : ℕ) (answers : List Answer) (s : Scenario) (engine : Prepared) (out0 out1 : Option (List ℕ)) →
    engine ≡ record { scenario = s; turns = options.turns; moves = options.moves } → options.world ≡ RunWorld.Held workers →
    RanTo end (script_run engine.scenario engine.turns engine.moves 0) out0 out1 → RanTo end (run_of options answers s) out0 out1
ran_by_held end options workers answers s engine out0 out1 is held h =
    let P : Prepared → Type 0 = λ e. RanTo end (script_run e.scenario e.turns e.moves 0) out0 out1 in
    let Q : RunWorld → Type 0 = λ w. RanTo end (elim w [
      | RunWorld.Script n ↦ script_run s options.turns options.moves n
      | RunWorld.Native k ↦ run s options.turns options.moves answers
      | RunWorld.Held k ↦ script_run s options.turns options.moves 0
    ]) out0 out1 in
    subst Q (sym held) (subst P is h)

-- and each run is begun
pub begun_by_held : (U : Type 0) (options : RunOptions) (workers : ℕ) (answers : List Answer) (s : Scenario) (engine : Prepared) (out0 out1 : Option (List ℕ)) →
    engine ≡ record { scenario = s; turns = options.turns; moves = options.moves } → options.world ≡ RunWorld.Held workers →
    meets_laws (script_run engine.scenario engine.turns engine.moves 0).lines ≡ true → IsBegun options s answers out0 out1 ⊎ U
begun_by_held U options workers answers s engine out0 out1 is held h =
    let P : Prepared → Type 0 = λ e. meets_laws (script_run e.scenario e.turns e.moves 0).lines ≡ true in
    let L : Ran → Type 0 = λ r. meets_laws r.lines ≡ true in
    let Q : RunWorld → Type 0 = λ w. L (elim w [
      | RunWorld.Script n ↦ script_run s options.turns options.moves n
      | RunWorld.Native k ↦ run s options.turns options.moves answers
      | RunWorld.Held k ↦ script_run s options.turns options.moves 0
    ]) in
    inl (record { lawful = subst Q (sym held) (subst P is h); ahead = λ others natively. absurd (other_world others (sym held ∙ natively)) })
  where
    other_world : (others : ℕ) → RunWorld.Held workers ≡ RunWorld.Native others → ⊥
    other_world others z = cc z

-- what its native workers are is what the options ask for
pub held_so : (options : RunOptions) (workers others : ℕ) (answers : List Answer) (s : Scenario) (engine : Prepared) (after : WorldMeaning) (stands : List LogEntry → Type 0) →
    engine ≡ record { scenario = s; turns = options.turns; moves = options.moves } → options.world ≡ RunWorld.Held workers → options.world ≡ RunWorld.Held others →
    RanHeld workers (script_run engine.scenario engine.turns engine.moves 0) after stands → RanHeld others (run_of options answers s) after stands
held_so options workers others answers s engine after stands is held asked h =
    let P : Prepared → Type 0 = λ e. RanHeld workers (script_run e.scenario e.turns e.moves 0) after stands in
    let Q : RunWorld → Type 0 = λ w. RanHeld workers (elim w [
      | RunWorld.Script n ↦ script_run s options.turns options.moves n
      | RunWorld.Native k ↦ run s options.turns options.moves answers
      | RunWorld.Held k ↦ script_run s options.turns options.moves 0
    ]) after stands in
    let same : workers ≡ others = same_held workers others (sym held ∙ asked) in
    subst (λ (n : ℕ). RanHeld n (run_of options answers s) after stands) same (subst Q (sym held) (subst P is h))
  where
    same_held : (a b : ℕ) → RunWorld.Held a ≡ RunWorld.Held b → a ≡ b
    same_held a b z = cc z
