-- From a verdict and its line to what the call answers.
use Rattle.std.proofs.Common.{◌≡◌, ◌≢◌, ◌⊎◌, inl, inr, refl, ap, sym, subst, ◌∙◌, ℕ, List, [], Option, Some, drop, take, arith}
use Rattle.gv_values.specs.Counts.{HasRisen}
use Rattle.gv_io.specs.Streams.{appended, AppendsPrefix}
use Rattle.gv_io.proofs.StreamLaws.{appended-nothing, AppendsPrefix-all, AppendsPrefix-nothing}
use Rattle.world.specs.Outside.{WorldMeaning}
use Rattle.world_rules.specs.declared.question.LogEntry.{LogEntry}
use Rattle.hub_engine.specs.declared.run.EngineEnd.{EngineEnd}
use Rattle.wsgi_core.specs.Applications.{App}
use Rattle.wsgi_connection.specs.declared.connection.ConnectionEnd.{ConnectionEnd}
use Rattle.serve_command.specs.declared.serving.Served.{Served}
use Rattle.gv_top.specs.declared.status.Conclusion.{Conclusion}
use Rattle.gv_top.specs.declared.status.Failure.{Failure}
use Rattle.gv_top.specs.declared.status.Verdict.{Verdict}
use Rattle.gv_top.specs.declared.words.OfflineCommand.{OfflineCommand}
use Rattle.command_words.specs.declared.command.GatewayKind.{GatewayKind}
use Rattle.command_words.specs.declared.command.RunOptions.{RunOptions}
use Rattle.command_words.specs.declared.command.TextCommand.{TextCommand}
use Rattle.command_words.specs.declared.command.TraceCheck.{TraceCheck}
use Rattle.trace_text.specs.Line.{text_of}
use Rattle.scenario_tree.specs.declared.tree.Scenario.{Scenario}
use Rattle.scenario_grammar.specs.Spells.{Spells}
use Rattle.scenario_rules.specs.Rules.{IsWellFormed}
use Rattle.trace_check.specs.Inputs.{most_checked_read}
use Rattle.gv_top.specs.Answers.{Answer, memory_line, most_read, read_fault_line, write_fault_line}
use Rattle.gv_top.specs.Commands.{IsLeftAlone}
use Rattle.run_command.specs.Running.{IsBegun}
use Rattle.gv_top.specs.Running.{IsUnbegun, RanWith}
use Rattle.gv_top.specs.Status.{verdict_line, verdict_of_connection, verdict_of_run, verdict_of_server, verdict_status}
use Rattle.gv_top.specs.Verifying.{IsAnswerOf, IsCheckAnswer}
use Rattle.run_command.specs.Faults.{Counts}
use Rattle.gv_top.specs.Top.{FitsAnswer, Decided, CameTo, Ended, FailsToWrite, IsStatusOf, IsVerdictTold, AnswersConnection, IsAnswered, HasLawfulLines, Stream}
use Rattle.gv_top.specs.Inner.{IsExplained, IsOfConnection, IsOr}

-- ---- faults

-- where nothing failed, the count is as it was
pub uncounted : (fails : Type 0) (old new : ℕ) → (fails → ⊥) → new ≡ old → Counts fails old new
uncounted fails old new never e = record { failed = λ f. absurd (never f); unfailed = λ f. e; never_falls = omega (arith, e) }

-- faults that are told in two ways are counted by both
counted_as : (fails told : Type 0) (old new : ℕ) → (told → fails) → (fails → told) → Counts fails old new → Counts told old new
counted_as fails told old new f g h = record { failed = λ t. h.failed (f t); unfailed = λ never. h.unfailed (λ x. never (g x)); never_falls = h.never_falls }

-- so are those of a verdict by its status
counted_by : (fails : Type 0) (v w : Verdict) (n old new : ℕ) → v ≡ w → (verdict_status w ≡ n → fails) → (fails → verdict_status w ≡ n) → Counts fails old new → Counts (verdict_status v ≡ n) old new
counted_by fails v w n old new is f g h = counted_as fails (verdict_status v ≡ n) old new (λ e. f (sym (ap verdict_status is) ∙ e)) (λ x. ap verdict_status is ∙ g x) h

pub run_counts : (end : EngineEnd) (v : Verdict) (old new : ℕ) → v ≡ verdict_of_run end → Counts (end ≡ EngineEnd.WriteFault) old new → Counts (verdict_status v ≡ 5) old new
run_counts end v old new is h = counted_by (end ≡ EngineEnd.WriteFault) v (verdict_of_run end) 5 old new is (by end) (λ e. ap (λ (x : EngineEnd). verdict_status (verdict_of_run x)) e) h
  where
    by : (end : EngineEnd) → verdict_status (verdict_of_run end) ≡ 5 → end ≡ EngineEnd.WriteFault
    by EngineEnd.MainValue e = absurd (omega arith)
    by (EngineEnd.MainFault f) e = absurd (omega arith)
    by EngineEnd.NoTurns e = absurd (omega arith)
    by EngineEnd.NoMoves e = absurd (omega arith)
    by EngineEnd.NoGreenlets e = absurd (omega arith)
    by EngineEnd.NoLinks e = absurd (omega arith)
    by EngineEnd.NoKills e = absurd (omega arith)
    by EngineEnd.WriteFault e = refl
    by EngineEnd.Memory e = absurd (omega arith)

-- a run has the statuses 0, 1, 5, 6, 7 and 8 alone
pub run_status : (end : EngineEnd) (v : Verdict) (n : ℕ) → v ≡ verdict_of_run end → verdict_status v ≡ n → n ≢ 0 → n ≢ 1 → n ≢ 5 → n ≢ 6 → n ≢ 7 → n ≢ 8 → ⊥
run_status end v n is h h0 h1 h5 h6 h7 h8 = by end (sym (ap verdict_status is) ∙ h)
  where
    by : (end : EngineEnd) → verdict_status (verdict_of_run end) ≡ n → ⊥
    by EngineEnd.MainValue e = h0 (sym e)
    by (EngineEnd.MainFault f) e = h1 (sym e)
    by EngineEnd.NoTurns e = h6 (sym e)
    by EngineEnd.NoMoves e = h6 (sym e)
    by EngineEnd.NoGreenlets e = h8 (sym e)
    by EngineEnd.NoLinks e = h8 (sym e)
    by EngineEnd.NoKills e = h8 (sym e)
    by EngineEnd.WriteFault e = h5 (sym e)
    by EngineEnd.Memory e = h7 (sym e)

pub run_explained : (end : EngineEnd) (v : Verdict) → v ≡ verdict_of_run end → IsExplained v
run_explained end v is = subst IsExplained (sym is) (by end)
  where
    by : (end : EngineEnd) → IsExplained (verdict_of_run end)
    by EngineEnd.MainValue = tt
    by (EngineEnd.MainFault f) = tt
    by EngineEnd.NoTurns = tt
    by EngineEnd.NoMoves = tt
    by EngineEnd.NoGreenlets = tt
    by EngineEnd.NoLinks = tt
    by EngineEnd.NoKills = tt
    by EngineEnd.WriteFault = tt
    by EngineEnd.Memory = tt

-- a connection has the statuses 0, 4, 5, 7 and 8 alone
pub connection_status : (end : ConnectionEnd) (v : Verdict) (n : ℕ) → v ≡ verdict_of_connection end → verdict_status v ≡ n → n ≢ 0 → n ≢ 4 → n ≢ 5 → n ≢ 7 → n ≢ 8 → ⊥
connection_status end v n is h h0 h4 h5 h7 h8 = by end (sym (ap verdict_status is) ∙ h)
  where
    by : (end : ConnectionEnd) → verdict_status (verdict_of_connection end) ≡ n → ⊥
    by ConnectionEnd.Closed e = h0 (sym e)
    by ConnectionEnd.TooLong e = h8 (sym e)
    by ConnectionEnd.ReadFault e = h4 (sym e)
    by ConnectionEnd.WriteFault e = h5 (sym e)
    by ConnectionEnd.Memory e = h7 (sym e)

pub connection_explained : (end : ConnectionEnd) (v : Verdict) → v ≡ verdict_of_connection end → IsExplained v
connection_explained end v is = subst IsExplained (sym is) (by end)
  where
    by : (end : ConnectionEnd) → IsExplained (verdict_of_connection end)
    by ConnectionEnd.Closed = tt
    by ConnectionEnd.TooLong = tt
    by ConnectionEnd.ReadFault = tt
    by ConnectionEnd.WriteFault = tt
    by ConnectionEnd.Memory = tt

pub server_explained : (end : Served) (v : Verdict) → v ≡ verdict_of_server end → IsExplained v
server_explained end v is = subst IsExplained (sym is) (by end)
  where
    by : (end : Served) → IsExplained (verdict_of_server end)
    by Served.Finished = tt
    by Served.NoJobs = tt
    by Served.Listener = tt
    by Served.WriteFault = tt
    by Served.Memory = tt

pub connection_writes : (end : ConnectionEnd) (v : Verdict) (old new : ℕ) → v ≡ verdict_of_connection end → Counts (end ≡ ConnectionEnd.WriteFault) old new → Counts (verdict_status v ≡ 5) old new
connection_writes end v old new is h =
    counted_by (end ≡ ConnectionEnd.WriteFault) v (verdict_of_connection end) 5 old new is (by end) (λ e. ap (λ (x : ConnectionEnd). verdict_status (verdict_of_connection x)) e) h
  where
    by : (end : ConnectionEnd) → verdict_status (verdict_of_connection end) ≡ 5 → end ≡ ConnectionEnd.WriteFault
    by ConnectionEnd.Closed e = absurd (omega arith)
    by ConnectionEnd.TooLong e = absurd (omega arith)
    by ConnectionEnd.ReadFault e = absurd (omega arith)
    by ConnectionEnd.WriteFault e = refl
    by ConnectionEnd.Memory e = absurd (omega arith)

pub connection_reads : (end : ConnectionEnd) (v : Verdict) (old new : ℕ) → v ≡ verdict_of_connection end → Counts (end ≡ ConnectionEnd.ReadFault) old new → Counts (verdict_status v ≡ 4) old new
connection_reads end v old new is h =
    counted_by (end ≡ ConnectionEnd.ReadFault) v (verdict_of_connection end) 4 old new is (by end) (λ e. ap (λ (x : ConnectionEnd). verdict_status (verdict_of_connection x)) e) h
  where
    by : (end : ConnectionEnd) → verdict_status (verdict_of_connection end) ≡ 4 → end ≡ ConnectionEnd.ReadFault
    by ConnectionEnd.Closed e = absurd (omega arith)
    by ConnectionEnd.TooLong e = absurd (omega arith)
    by ConnectionEnd.ReadFault e = refl
    by ConnectionEnd.WriteFault e = absurd (omega arith)
    by ConnectionEnd.Memory e = absurd (omega arith)

-- ---- what was decided

-- out has a prefix, and the status is one of a fault or of want of memory
record Broke (v : Verdict) (a : Answer) (old new : Option (List ℕ)) : Type 0 where
  prefix : AppendsPrefix old new a.out
  number : (verdict_status v ≡ 4) ⊎ ((verdict_status v ≡ 5) ⊎ (verdict_status v ≡ 7))

decided : (v : Verdict) (a : Answer) (old new : Option (List ℕ)) → Decided v a old new → FitsAnswer v a old new ⊎ Broke v a old new
decided (Verdict.Did conclusion) a old new d = inl d
decided (Verdict.Broke Failure.Read) a old new d = inr (record { prefix = d; number = inl refl })
decided (Verdict.Broke Failure.Write) a old new d = inr (record { prefix = d; number = inr (inl refl) })
decided (Verdict.Broke Failure.Net) a old new d = absurd d
decided (Verdict.Broke Failure.Memory) a old new d = inr (record { prefix = d; number = inr (inr refl) })

prefix_of : (v : Verdict) (a : Answer) (old new : Option (List ℕ)) → FitsAnswer v a old new ⊎ Broke v a old new → AppendsPrefix old new a.out
prefix_of v a old new (inl f) = AppendsPrefix-all old new a.out f.0
prefix_of v a old new (inr b) = b.prefix

whole_of : (n : ℕ) (v : Verdict) (a : Answer) (old new : Option (List ℕ)) → FitsAnswer v a old new ⊎ Broke v a old new →
    n ≡ verdict_status v → n ≢ 4 → n ≢ 5 → n ≢ 7 → FitsAnswer v a old new
whole_of n v a old new (inl f) e h4 h5 h7 = f
whole_of n v a old new (inr b) e h4 h5 h7 = by b.number
  where
    by : (verdict_status v ≡ 4) ⊎ ((verdict_status v ≡ 5) ⊎ (verdict_status v ≡ 7)) → FitsAnswer v a old new
    by (inl q) = absurd (h4 (e ∙ q))
    by (inr (inl q)) = absurd (h5 (e ∙ q))
    by (inr (inr q)) = absurd (h7 (e ∙ q))

-- the verdict's line is there
record Said (n : ℕ) (v : Verdict) (old new : Option (List ℕ)) : Type 0 where
  number : n ≡ verdict_status v
  line : new ≡ appended old (verdict_line v)

said : (n : ℕ) (v : Verdict) (old new : Option (List ℕ)) (e0 e1 : ℕ) → IsVerdictTold n v old new e0 e1 → n ≢ 5 → Said n v old new
said n v old new e0 e1 (inl p) h5 = record { number = p.0; line = p.1 }
said n v old new e0 e1 (inr p) h5 = absurd (h5 p.0)

pub answered : (n : ℕ) (v : Verdict) (a : Answer) (out0 out1 err0 err1 : Option (List ℕ)) (e0 e1 : ℕ) →
    Decided v a out0 out1 → IsVerdictTold n v err0 err1 e0 e1 → IsAnswered n a out0 out1 err0 err1
answered n v a out0 out1 err0 err1 e0 e1 d l =
    let c = decided v a out0 out1 d in
    record {
      prefix = prefix_of v a out0 out1 c;
      status = λ h4 h5 h7. let s = said n v err0 err1 e0 e1 l h5 in s.number ∙ (whole_of n v a out0 out1 c s.number h4 h5 h7).1;
      out = λ h4 h5 h7. let s = said n v err0 err1 e0 e1 l h5 in (whole_of n v a out0 out1 c s.number h4 h5 h7).0;
      err = λ h4 h5 h7. let s = said n v err0 err1 e0 e1 l h5 in s.line ∙ ap (appended err0) (whole_of n v a out0 out1 c s.number h4 h5 h7).2;
    }

-- ---- the verdict that is told

-- what is said of a run by its verdict is said by the status that is answered
ran_told : (n : ℕ) (v : Verdict) (options : RunOptions) (s : Scenario) (after : WorldMeaning) (stands : List LogEntry → Type 0) (out0 out1 : Option (List ℕ)) → IsStatusOf n v → RanWith (verdict_status v) options s after stands out0 out1
    → RanWith n options s after stands out0 out1
ran_told n v options s after stands out0 out1 (inl e) h = let P : ℕ → Type 0 = λ m. RanWith m options s after stands out0 out1 in subst P (sym e) h
ran_told n v options s after stands out0 out1 (inr p) h = record { begun = by h.begun; native = λ workers w h4 h5 h7. absurd (no p.1 h5 h7); held = λ workers w h4 h5 h7. absurd (no p.1 h5 h7) }
  where
    by : IsBegun options s after.answers out0 out1 ⊎ IsUnbegun (verdict_status v) out0 out1 → IsBegun options s after.answers out0 out1 ⊎ IsUnbegun n out0 out1
    by (inl b) = inl b
    by (inr u) = inr (u.0, inr p.1)

    no : (n ≡ 5) ⊎ (n ≡ 7) → n ≢ 5 → n ≢ 7 → ⊥
    no (inl e) h5 h7 = h5 e
    no (inr e) h5 h7 = h7 e

-- where there is no memory for the line of a verdict, the command came to want of memory
out_of_memory : (v : Verdict) (app : App) (c : Option OfflineCommand) (after : WorldMeaning) (stands : List LogEntry → Type 0) (input out : Stream) → CameTo v app c after stands input out →
    verdict_status v ≢ 0 → verdict_status v ≢ 4 → verdict_status v ≢ 5 → CameTo (Verdict.Broke Failure.Memory) app c after stands input out
out_of_memory v app c after stands input out h n0 n4 n5 =
    record {
      answer = λ left a told is. prefix_of v a out.before out.after (decided v a out.before out.after (h.answer left a told is));
      checked = λ check left is told h4 h5 h7. absurd (h7 refl);
      untold = λ check is h0 h5. h.untold check is n0 n5;
      read_trace = λ check is h4 h7. absurd (h7 refl);
      usage = λ e. absurd (omega arith);
      reads = uncounted _ _ _ (λ e. omega arith) (h.reads.unfailed n4);
      writes = uncounted _ _ _ (λ e. omega arith) (h.writes.unfailed n5);
      unread = λ text is e. absurd (omega arith);
      unprinted = λ is h0 h5. h.unprinted is n0 n5;
      read_whole = λ text is h4 h7. absurd (h7 refl);
      storm = λ size is. ((λ e. omega arith), λ a of. prefix_of v a out.before out.after (decided v a out.before out.after ((h.storm size is).1 a of)));
      ran = λ options s left is told text well. ran_told 7 v options s after stands out.before out.after (inr (n0, inr refl)) (h.ran options s left is told text well);
    }

-- a stream that is as it was
abbrev pub left_alone_stream : Option (List ℕ) → ℕ → Stream
left_alone_stream bytes faults = record { before = bytes; after = bytes; faults_before = faults; faults_after = faults }

-- memory ran out before anything was done
pub out_of_memory_at_once : (app : App) (c : Option OfflineCommand) (after : WorldMeaning) (stands : List LogEntry → Type 0) (input out : Option (List ℕ)) (reads writes : ℕ) →
    CameTo (Verdict.Broke Failure.Memory) app c after stands (left_alone_stream input reads) (left_alone_stream out writes)
out_of_memory_at_once app c after stands input out reads writes =
    record {
      answer = λ left a told is. AppendsPrefix-nothing out a.out;
      checked = λ check left is told h4 h5 h7. absurd (h7 refl);
      untold = λ check is h0 h5. refl;
      read_trace = λ check is h4 h7. absurd (h7 refl);
      usage = λ e. absurd (omega arith);
      reads = uncounted _ _ _ (λ e. omega arith) refl;
      writes = uncounted _ _ _ (λ e. omega arith) refl;
      unread = λ text is e. refl;
      unprinted = λ is h0 h5. refl;
      read_whole = λ text is h4 h7. absurd (h7 refl);
      storm = λ size is. ((λ e. omega arith), λ a of. AppendsPrefix-nothing out a.out);
      ran = λ options s left is told text well. record { begun = inr (refl, inr (inr refl)); native = λ workers w h4 h5 h7. absurd (h7 refl); held = λ workers w h4 h5 h7. absurd (h7 refl) };
    }

-- what a command came to, another that is the same came to
pub came_as : {v : Verdict} {app : App} {c d : Option OfflineCommand} {after : WorldMeaning} {stands : List LogEntry → Type 0} {input out : Stream} → c ≡ d →
    CameTo v app c after stands input out → CameTo v app d after stands input out
came_as {v} {app = app} {after = after} {stands = stands} {input = input} {out = out} e h =
    let P : Option OfflineCommand → Type 0 = λ x. CameTo v app x after stands input out in subst P e h

came_to : (v w : Verdict) (app : App) (c : Option OfflineCommand) (after : WorldMeaning) (stands : List LogEntry → Type 0) (input out : Stream) → CameTo v app c after stands input out →
    IsOr v w → CameTo w app c after stands input out
came_to v w app c after stands input out h (inl e) =
    let P : Verdict → Type 0 = λ x. CameTo x app c after stands input out in subst P (sym e) h
came_to v w app c after stands input out h (inr p) =
    let P : Verdict → Type 0 = λ x. CameTo x app c after stands input out in subst P (sym p.0) (out_of_memory v app c after stands input out h p.1 p.2 p.3)

pub ended : (n : ℕ) (v w : Verdict) (app : App) (c : Option OfflineCommand) (after : WorldMeaning) (stands : List LogEntry → Type 0) (input out : Stream) (err0 err1 : Option (List ℕ)) (e0 e1 : ℕ) →
    CameTo v app c after stands input out → IsOr v w → IsVerdictTold n w err0 err1 e0 e1 →
    Ended n app c after stands input out (record { before = err0; after = err1; faults_before = e0; faults_after = e1 })
ended n v w app c after stands input out err0 err1 e0 e1 h o l =
    record { verdict = w; came_to = came_to v w app c after stands input out h o; told = l }

-- ---- the lines of faults

-- a status that no failure has
pub record IsUnbroken (n : ℕ) : Type 0 where
  pub not_read : n ≢ 4
  pub not_write : n ≢ 5
  pub not_memory : n ≢ 7
  pub not_net : n ≢ 10

zero_unbroken : IsUnbroken 0
zero_unbroken = record { not_read = λ z. omega arith; not_write = λ z. omega arith; not_memory = λ z. omega arith; not_net = λ z. omega arith }

one_unbroken : IsUnbroken 1
one_unbroken = record { not_read = λ z. omega arith; not_write = λ z. omega arith; not_memory = λ z. omega arith; not_net = λ z. omega arith }

two_unbroken : IsUnbroken 2
two_unbroken = record { not_read = λ z. omega arith; not_write = λ z. omega arith; not_memory = λ z. omega arith; not_net = λ z. omega arith }

three_unbroken : IsUnbroken 3
three_unbroken = record { not_read = λ z. omega arith; not_write = λ z. omega arith; not_memory = λ z. omega arith; not_net = λ z. omega arith }

six_unbroken : IsUnbroken 6
six_unbroken = record { not_read = λ z. omega arith; not_write = λ z. omega arith; not_memory = λ z. omega arith; not_net = λ z. omega arith }

eight_unbroken : IsUnbroken 8
eight_unbroken = record { not_read = λ z. omega arith; not_write = λ z. omega arith; not_memory = λ z. omega arith; not_net = λ z. omega arith }

nine_unbroken : IsUnbroken 9
nine_unbroken = record { not_read = λ z. omega arith; not_write = λ z. omega arith; not_memory = λ z. omega arith; not_net = λ z. omega arith }

-- a call that nothing broke off has the status of no failure
pub did_unbroken : (conclusion : Conclusion) → IsUnbroken (verdict_status (Verdict.Did conclusion))
did_unbroken Conclusion.Finished = zero_unbroken
did_unbroken Conclusion.Usage = two_unbroken
did_unbroken (Conclusion.MainFault f) = one_unbroken
did_unbroken Conclusion.NoTurns = six_unbroken
did_unbroken Conclusion.NoMoves = six_unbroken
did_unbroken Conclusion.NoGreenlets = eight_unbroken
did_unbroken Conclusion.NoLinks = eight_unbroken
did_unbroken Conclusion.NoKills = eight_unbroken
did_unbroken Conclusion.TooLong = eight_unbroken
did_unbroken Conclusion.NoJobs = eight_unbroken
did_unbroken (Conclusion.Refused place) = three_unbroken
did_unbroken (Conclusion.Overlong number) = three_unbroken
did_unbroken (Conclusion.Unmarked number) = three_unbroken
did_unbroken (Conclusion.Wrong number cause) = nine_unbroken
did_unbroken (Conclusion.Lawless number law) = nine_unbroken

line_of_read : (v : Verdict) → verdict_status v ≡ 4 → verdict_line v ≡ read_fault_line
line_of_read (Verdict.Did conclusion) e = absurd ((did_unbroken conclusion).not_read e)
line_of_read (Verdict.Broke Failure.Read) e = refl
line_of_read (Verdict.Broke Failure.Write) e = absurd (omega arith)
line_of_read (Verdict.Broke Failure.Net) e = absurd (omega arith)
line_of_read (Verdict.Broke Failure.Memory) e = absurd (omega arith)

line_of_memory : (v : Verdict) → verdict_status v ≡ 7 → verdict_line v ≡ memory_line
line_of_memory (Verdict.Did conclusion) e = absurd ((did_unbroken conclusion).not_memory e)
line_of_memory (Verdict.Broke Failure.Read) e = absurd (omega arith)
line_of_memory (Verdict.Broke Failure.Write) e = absurd (omega arith)
line_of_memory (Verdict.Broke Failure.Net) e = absurd (omega arith)
line_of_memory (Verdict.Broke Failure.Memory) e = refl

pub line_of_write : (v : Verdict) → verdict_status v ≡ 5 → verdict_line v ≡ write_fault_line
line_of_write (Verdict.Did conclusion) e = absurd ((did_unbroken conclusion).not_write e)
line_of_write (Verdict.Broke Failure.Read) e = absurd (omega arith)
line_of_write (Verdict.Broke Failure.Write) e = refl
line_of_write (Verdict.Broke Failure.Net) e = absurd (omega arith)
line_of_write (Verdict.Broke Failure.Memory) e = absurd (omega arith)

-- what broke a call off has a line
pub failure_has_line : (failure : Failure) → verdict_status (Verdict.Broke failure) ≢ 0
failure_has_line Failure.Read e = omega arith
failure_has_line Failure.Write e = omega arith
failure_has_line Failure.Net e = omega arith
failure_has_line Failure.Memory e = omega arith

no_line : (conclusion : Conclusion) → verdict_status (Verdict.Did conclusion) ≡ 0 → verdict_line (Verdict.Did conclusion) ≡ []
no_line Conclusion.Finished e = refl
no_line Conclusion.Usage e = absurd (omega arith)
no_line (Conclusion.MainFault f) e = absurd (omega arith)
no_line Conclusion.NoTurns e = absurd (omega arith)
no_line Conclusion.NoMoves e = absurd (omega arith)
no_line Conclusion.NoGreenlets e = absurd (omega arith)
no_line Conclusion.NoLinks e = absurd (omega arith)
no_line Conclusion.NoKills e = absurd (omega arith)
no_line Conclusion.TooLong e = absurd (omega arith)
no_line Conclusion.NoJobs e = absurd (omega arith)
no_line (Conclusion.Refused place) e = absurd (omega arith)
no_line (Conclusion.Overlong number) e = absurd (omega arith)
no_line (Conclusion.Unmarked number) e = absurd (omega arith)
no_line (Conclusion.Wrong number cause) e = absurd (omega arith)
no_line (Conclusion.Lawless number law) e = absurd (omega arith)

-- status 0 is told by no line
pub told_nothing : (conclusion : Conclusion) (err : Option (List ℕ)) (faults : ℕ) → verdict_status (Verdict.Did conclusion) ≡ 0
    → (w : Verdict) × IsOr (Verdict.Did conclusion) w × IsVerdictTold 0 w err err faults faults
told_nothing conclusion err faults h = (Verdict.Did conclusion, inl refl, inl (sym h, sym (appended-nothing err) ∙ ap (appended err) (sym (no_line conclusion h)), refl))

-- where there is no memory for the line, want of memory is told
pub told_memory : (n : ℕ) (conclusion : Conclusion) (old new : Option (List ℕ)) (e0 e1 : ℕ) → verdict_status (Verdict.Did conclusion) ≢ 0 → IsVerdictTold n (Verdict.Broke Failure.Memory) old new e0 e1
    → (w : Verdict) × IsOr (Verdict.Did conclusion) w × IsVerdictTold n w old new e0 e1
told_memory n conclusion old new e0 e1 h0 l =
    let u = did_unbroken conclusion in (Verdict.Broke Failure.Memory, inr (refl, h0, u.not_read, u.not_write, u.not_net), l)

-- what is told of one verdict is told of the same
pub told_as : {n : ℕ} {v w : Verdict} {old new : Option (List ℕ)} {e0 e1 : ℕ} → v ≡ w → (x : Verdict) × IsOr v x × IsVerdictTold n x old new e0 e1 → (x : Verdict) × IsOr w x × IsVerdictTold n x old new e0 e1
told_as {n} {old = old} {new = new} {e0 = e0} {e1 = e1} e h =
    let P : Verdict → Type 0 = λ y. (x : Verdict) × IsOr y x × IsVerdictTold n x old new e0 e1 in subst P e h

pub read_line : (n : ℕ) (v : Verdict) (old new : Option (List ℕ)) (e0 e1 : ℕ) → IsVerdictTold n v old new e0 e1 → n ≡ 4 → new ≡ appended old read_fault_line
read_line n v old new e0 e1 (inl p) e = p.1 ∙ ap (appended old) (line_of_read v (sym p.0 ∙ e))
read_line n v old new e0 e1 (inr p) e = let q = p.0 in absurd (omega arith)

pub no_memory_line : (n : ℕ) (v : Verdict) (old new : Option (List ℕ)) (e0 e1 : ℕ) → IsVerdictTold n v old new e0 e1 → n ≡ 7 → new ≡ appended old memory_line
no_memory_line n v old new e0 e1 (inl p) e = p.1 ∙ ap (appended old) (line_of_memory v (sym p.0 ∙ e))
no_memory_line n v old new e0 e1 (inr p) e = let q = p.0 in absurd (omega arith)

-- ---- what an end says

pub is_answered : {n : ℕ} {app : App} {c : Option OfflineCommand} {after : WorldMeaning} {stands : List LogEntry → Type 0} {input out err : Stream} →
    Ended n app c after stands input out err →
    (left : List ℕ) (a : Answer) → input.before ≡ Some left → IsAnswerOf app c after.answers left a → IsAnswered n a out.before out.after err.before err.after
is_answered h left a told is = answered _ h.verdict a _ _ _ _ _ _ (h.came_to.answer left a told is) h.told

pub read_fault_told : {n : ℕ} {app : App} {c : Option OfflineCommand} {after : WorldMeaning} {stands : List LogEntry → Type 0} {input out err : Stream} →
    Ended n app c after stands input out err → n ≡ 4 → err.after ≡ appended err.before read_fault_line
read_fault_told h = read_line _ h.verdict _ _ _ _ h.told

pub no_memory_told : {n : ℕ} {app : App} {c : Option OfflineCommand} {after : WorldMeaning} {stands : List LogEntry → Type 0} {input out err : Stream} →
    Ended n app c after stands input out err → n ≡ 7 → err.after ≡ appended err.before memory_line
no_memory_told h = no_memory_line _ h.verdict _ _ _ _ h.told

-- a status that is not 5 is the verdict's
verdict_of : (n m : ℕ) (v : Verdict) (old new : Option (List ℕ)) (e0 e1 : ℕ) → IsVerdictTold n v old new e0 e1 → n ≡ m → m ≢ 5 → verdict_status v ≡ m
verdict_of n m v old new e0 e1 (inl p) e h5 = sym p.0 ∙ e
verdict_of n m v old new e0 e1 (inr p) e h5 = absurd (h5 (sym e ∙ p.0))

pub status_is : {n : ℕ} {app : App} {c : Option OfflineCommand} {after : WorldMeaning} {stands : List LogEntry → Type 0} {input out err : Stream} (m : ℕ) →
    (h : Ended n app c after stands input out err) → n ≡ m → m ≢ 5 → verdict_status h.verdict ≡ m
status_is m h e h5 = verdict_of _ m h.verdict _ _ _ _ h.told e h5

-- the status is the verdict's, or 5 where it has a line, or 7
pub status_or : (n : ℕ) (v w : Verdict) (old new : Option (List ℕ)) (e0 e1 : ℕ) → IsOr v w → IsVerdictTold n w old new e0 e1 → IsStatusOf n v
status_or n v w old new e0 e1 (inl e) (inl p) = inl (p.0 ∙ ap verdict_status e)
status_or n v w old new e0 e1 (inl e) (inr p) = inr ((λ z. p.1 (ap verdict_status e ∙ z)), inl p.0)
status_or n v w old new e0 e1 (inr q) (inl p) = inr (q.1, inr (p.0 ∙ ap verdict_status q.0))
status_or n v w old new e0 e1 (inr q) (inr p) = inr (q.1, inl p.0)

-- a status that is neither 5 nor 7 is that of the verdict
number_was : (n m : ℕ) (v : Verdict) → IsStatusOf n v → n ≡ m → m ≢ 5 → m ≢ 7 → verdict_status v ≡ m
number_was n m v (inl p) e h5 h7 = sym p ∙ e
number_was n m v (inr (_, inl p)) e h5 h7 = absurd (h5 (sym e ∙ p))
number_was n m v (inr (_, inr p)) e h5 h7 = absurd (h7 (sym e ∙ p))

-- the words are no command, or memory ran out, and the status is that of this, 5 or 7
pub usage_status : (n : ℕ) (v w : Verdict) (old new : Option (List ℕ)) (e0 e1 : ℕ) → IsOr v w → IsVerdictTold n w old new e0 e1 → (verdict_status v ≡ 2) ⊎ (verdict_status v ≡ 7)
    → (n ≡ 2) ⊎ (n ≡ 5) ⊎ (n ≡ 7)
usage_status n v w old new e0 e1 o l e = by e (status_or n v w old new e0 e1 o l)
  where
    by : (verdict_status v ≡ 2) ⊎ (verdict_status v ≡ 7) → (n ≡ verdict_status v) ⊎ ((verdict_status v ≢ 0) × ((n ≡ 5) ⊎ (n ≡ 7))) → (n ≡ 2) ⊎ (n ≡ 5) ⊎ (n ≡ 7)
    by (inl e) (inl p) = inl (p ∙ e)
    by (inr e) (inl p) = inr (inr (p ∙ e))
    by e (inr p) = inr p.1

-- the whole line is there, or err failed and a prefix of it is there
abbrev IsTried : List ℕ → Option (List ℕ) → Option (List ℕ) → ℕ → ℕ → Type 0
IsTried line old new faults0 faults1 = (new ≡ appended old line) ⊎ (HasRisen faults0 faults1 × AppendsPrefix old new line)

-- the line of a write that failed was tried
tried : (n : ℕ) (v : Verdict) (old new : Option (List ℕ)) (e0 e1 : ℕ) → verdict_status v ≡ 5 → IsVerdictTold n v old new e0 e1 → IsTried write_fault_line old new e0 e1
tried n v old new e0 e1 e (inl p) = inl (p.1 ∙ ap (appended old) (line_of_write v e))
tried n v old new e0 e1 e (inr p) =
    let P : List ℕ → Type 0 = λ l. AppendsPrefix old new l in inr (p.2, subst P (line_of_write v e) p.3)

-- what led to status 5, by what err has and by the counts of faults
abbrev pub HasFailed : (err0 err1 : Option (List ℕ)) (w0 w1 e0 e1 : ℕ) → Type 0
HasFailed err0 err1 w0 w1 e0 e1 =
    (HasRisen w0 w1 × IsTried write_fault_line err0 err1 e0 e1) ⊎ ((v : Verdict) × (verdict_status v ≢ 0) × HasRisen e0 e1 × AppendsPrefix err0 err1 (verdict_line v))

pub fails : (n : ℕ) (v : Verdict) (old new : Option (List ℕ)) (w0 w1 e0 e1 : ℕ) → (verdict_status v ≡ 5 → HasRisen w0 w1) → IsVerdictTold n v old new e0 e1 → n ≡ 5 →
    HasFailed old new w0 w1 e0 e1
fails n v old new w0 w1 e0 e1 f (inl p) e = let is = sym p.0 ∙ e in inl (f is, tried n v old new e0 e1 is (inl p))
fails n v old new w0 w1 e0 e1 f (inr p) e = inr (v, p.1, p.2, p.3)

pub fails_to_write : {n : ℕ} {app : App} {c : Option OfflineCommand} {after : WorldMeaning} {stands : List LogEntry → Type 0} {input out err : Stream} →
    Ended n app c after stands input out err → n ≡ 5 → FailsToWrite out err
fails_to_write h e = fails _ h.verdict _ _ _ _ _ _ h.came_to.writes.failed h.told e

-- `fmt` leaves out as it was
pub prints_nothing : {n : ℕ} {app : App} {c : Option OfflineCommand} {after : WorldMeaning} {stands : List LogEntry → Type 0} {input out err : Stream} →
    Ended n app c after stands input out err → c ≡ Some (OfflineCommand.Text TextCommand.Format) → n ≢ 0 → n ≢ 5 → out.after ≡ out.before
prints_nothing {n} h is h0 h5 =
    let e = status_is n h refl h5 in h.came_to.unprinted is (λ z. h0 (sym e ∙ z)) (λ z. h5 (sym e ∙ z))

-- a check leaves out as it was
pub tells_nothing : {n : ℕ} {app : App} {c : Option OfflineCommand} {after : WorldMeaning} {stands : List LogEntry → Type 0} {input out err : Stream} (check : TraceCheck) →
    Ended n app c after stands input out err → c ≡ Some (OfflineCommand.Verify check) → n ≢ 0 → n ≢ 5 → out.after ≡ out.before
tells_nothing {n} check h is h0 h5 =
    let e = status_is n h refl h5 in h.came_to.untold check is (λ z. h0 (sym e ∙ z)) (λ z. h5 (sym e ∙ z))

-- the input of a check was read whole
pub reads_trace : {n : ℕ} {app : App} {c : Option OfflineCommand} {after : WorldMeaning} {stands : List LogEntry → Type 0} {input out err : Stream} (check : TraceCheck) →
    Ended n app c after stands input out err → c ≡ Some (OfflineCommand.Verify check) → n ≢ 4 → n ≢ 5 → n ≢ 7 →
    (left : List ℕ) → input.before ≡ Some left → input.after ≡ Some (drop most_checked_read left)
reads_trace {n} check h is h4 h5 h7 left told =
    let e = status_is n h refl h5 in h.came_to.read_trace check is (λ z. h4 (sym e ∙ z)) (λ z. h7 (sym e ∙ z)) left told

-- what was said of a check
said_of_check : (n : ℕ) (v : Verdict) (a : Answer) (out0 out1 err0 err1 : Option (List ℕ)) (e0 e1 : ℕ) → FitsAnswer v a out0 out1 → IsVerdictTold n v err0 err1 e0 e1 → n ≢ 5 → IsAnswered n a out0 out1 err0 err1
said_of_check n v a out0 out1 err0 err1 e0 e1 f l h5 =
    let s = said n v err0 err1 e0 e1 l h5 in
    record {
      prefix = AppendsPrefix-all out0 out1 a.out f.0;
      status = λ h4 z h7. s.number ∙ f.1;
      out = λ h4 z h7. f.0;
      err = λ h4 z h7. s.line ∙ ap (appended err0) f.2;
    }

pub checks_so : {n : ℕ} {app : App} {c : Option OfflineCommand} {after : WorldMeaning} {stands : List LogEntry → Type 0} {input out err : Stream} (check : TraceCheck) (left : List ℕ) →
    Ended n app c after stands input out err → c ≡ Some (OfflineCommand.Verify check) → input.before ≡ Some left → n ≢ 4 → n ≢ 5 → n ≢ 7 →
    (a : Answer) × IsCheckAnswer check (take most_checked_read left) a × IsAnswered n a out.before out.after err.before err.after
checks_so {n} check left h is told h4 h5 h7 =
    let e = status_is n h refl h5 in
    let d = h.came_to.checked check left is told (λ z. h4 (sym e ∙ z)) (λ z. h5 (sym e ∙ z)) (λ z. h7 (sym e ∙ z)) in
    (d.0, d.1, said_of_check n h.verdict d.0 _ _ _ _ _ _ d.2 h.told h5)

-- the text was read whole
pub reads_whole : {n : ℕ} {app : App} {c : Option OfflineCommand} {after : WorldMeaning} {stands : List LogEntry → Type 0} {input out err : Stream} (text : TextCommand) →
    Ended n app c after stands input out err → c ≡ Some (OfflineCommand.Text text) → n ≢ 4 → n ≢ 5 → n ≢ 7 →
    (left : List ℕ) → input.before ≡ Some left → input.after ≡ Some (drop most_read left)
reads_whole {n} text h is h4 h5 h7 left told =
    let e = status_is n h refl h5 in h.came_to.read_whole text is (λ z. h4 (sym e ∙ z)) (λ z. h7 (sym e ∙ z)) left told

-- err does not fail with a status but 5
pub err_unfailed : (n : ℕ) (v : Verdict) (old new : Option (List ℕ)) (e0 e1 : ℕ) → IsVerdictTold n v old new e0 e1 → n ≢ 5 → e1 ≡ e0
err_unfailed n v old new e0 e1 (inl p) h5 = p.2
err_unfailed n v old new e0 e1 (inr p) h5 = absurd (h5 p.0)

-- nor does out
pub unfailed : {n : ℕ} {app : App} {c : Option OfflineCommand} {after : WorldMeaning} {stands : List LogEntry → Type 0} {input out err : Stream} →
    Ended n app c after stands input out err → n ≢ 5 → (out.faults_after ≡ out.faults_before) × (err.faults_after ≡ err.faults_before)
unfailed {n} h h5 =
    let e = status_is n h refl h5 in (h.came_to.writes.unfailed (λ z. h5 (sym e ∙ z)), err_unfailed _ h.verdict _ _ _ _ h.told h5)

-- no read fails with a status but 4 and 5
pub read_unfailed : {n : ℕ} {app : App} {c : Option OfflineCommand} {after : WorldMeaning} {stands : List LogEntry → Type 0} {input out err : Stream} →
    Ended n app c after stands input out err → n ≢ 4 → n ≢ 5 → input.faults_after ≡ input.faults_before
read_unfailed {n} h h4 h5 =
    let e = status_is n h refl h5 in h.came_to.reads.unfailed (λ z. h4 (sym e ∙ z))

-- the connection that was answered
pub answers_connection : (n : ℕ) (v w : Verdict) (gateway : GatewayKind) (app : App) (err0 err1 in0 in1 out0 out1 : Option (List ℕ)) (e0 e1 : ℕ) → IsOr v w → IsVerdictTold n w err0 err1 e0 e1 →
    IsOfConnection v gateway app in0 in1 out0 out1 → AnswersConnection n gateway app in0 in1 out0 out1
answers_connection n v w gateway app err0 err1 in0 in1 out0 out1 e0 e1 o l c =
    let P : ℕ → Type 0 = λ m. (n ≡ m) ⊎ ((m ≢ 0) × ((n ≡ 5) ⊎ (n ≡ 7))) in
    record { end = c.end; exchanged = c.exchanged; status = subst P c.number (status_or n v w err0 err1 e0 e1 o l) }

-- the run is what is said of it by the status
pub ran_so : {n : ℕ} {app : App} {c : Option OfflineCommand} {after : WorldMeaning} {stands : List LogEntry → Type 0} {input out err : Stream} (options : RunOptions) (s : Scenario) (left : List ℕ) →
    Ended n app c after stands input out err → c ≡ Some (OfflineCommand.Text (TextCommand.Run options)) → input.before ≡ Some left → Spells s (take most_read left) → IsWellFormed s →
    RanWith n options s after stands out.before out.after
ran_so {n} {after = after} {stands = stands} {out = out} {err = err} options s left h is told text well =
    ran_told n h.verdict options s after stands out.before out.after (status_or n h.verdict h.verdict err.before err.after err.faults_before err.faults_after (inl refl) h.told)
    (h.came_to.ran options s left is told text well)

-- ---- native workers that are left alone

pub left_alone : {W : Type 0} (n : ℕ) (in0 : Option (List ℕ)) (old new : W) → new ≡ old → IsLeftAlone n in0 old new
left_alone n in0 old new e = record { unread = λ z. e; refused = λ z. e; unspelt = λ left told none. e }

-- what a verdict leaves alone, the status that is answered does
pub left_alone_told : {W : Type 0} (n : ℕ) (v w : Verdict) (in0 err0 err1 : Option (List ℕ)) (e0 e1 : ℕ) (old new : W) → IsOr v w → IsVerdictTold n w err0 err1 e0 e1 → IsLeftAlone (verdict_status v) in0 old new
    → IsLeftAlone n in0 old new
left_alone_told n v w in0 err0 err1 e0 e1 old new o l h =
    let s = status_or n v w err0 err1 e0 e1 o l in
    record {
      unread = λ e. h.unread (number_was n 4 v s e (λ z. omega arith) (λ z. omega arith));
      refused = λ e. h.refused (number_was n 3 v s e (λ z. omega arith) (λ z. omega arith));
      unspelt = h.unspelt;
    }

-- ---- lines that meet the laws

-- the lines of a verdict are those of the status that is answered
pub lawful_told : (n : ℕ) (v w : Verdict) (out0 out1 old new : Option (List ℕ)) (e0 e1 : ℕ) → IsOr v w → IsVerdictTold n w old new e0 e1 → HasLawfulLines (verdict_status v) out0 out1 → HasLawfulLines n out0 out1
lawful_told n v w out0 out1 old new e0 e1 o l h =
    record { lines = h.lines; lawful = h.lawful; prefix = h.prefix; whole = λ h4 h5 h7. by (status_or n v w old new e0 e1 o l) h4 h5 h7 }
  where
    broken : (n ≡ 5) ⊎ (n ≡ 7) → n ≢ 5 → n ≢ 7 → out1 ≡ appended out0 (text_of h.lines)
    broken (inl e) h5 h7 = absurd (h5 e)
    broken (inr e) h5 h7 = absurd (h7 e)

    by : (n ≡ verdict_status v) ⊎ ((verdict_status v ≢ 0) × ((n ≡ 5) ⊎ (n ≡ 7))) → n ≢ 4 → n ≢ 5 → n ≢ 7 → out1 ≡ appended out0 (text_of h.lines)
    by (inl e) h4 h5 h7 = h.whole (λ z. h4 (e ∙ z)) (λ z. h5 (e ∙ z)) (λ z. h7 (e ∙ z))
    by (inr p) h4 h5 h7 = broken p.1 h5 h7

-- nothing was written
pub nothing_lawful : (n : ℕ) (out : Option (List ℕ)) → HasLawfulLines n out out
nothing_lawful n out = record { lines = []; lawful = refl; prefix = AppendsPrefix-nothing out []; whole = λ h4 h5 h7. sym (appended-nothing out) }

-- out was left as it was
pub unchanged_lawful : (n : ℕ) (old new : Option (List ℕ)) → new ≡ old → HasLawfulLines n old new
unchanged_lawful n old new e = let P : Option (List ℕ) → Type 0 = λ x. HasLawfulLines n old x in subst P (sym e) (nothing_lawful n old)
