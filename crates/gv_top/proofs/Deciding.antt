-- From the parts of the call to its verdict.
use Rattle.std.proofs.Common.{◌≡◌, ◌≢◌, ℕ, List, [], ◌++◌, take, drop, Option, Some, None, Ok, Err, refl, ap, sym, subst, ◌∙◌, unwrap_or, IfSome, take-append-drop, arith}
use Rattle.std.proofs.lemmas.List.{append_cancel_left}
use Rattle.gv_values.specs.declared.job.Answer.{Answer as Given}
use Rattle.trace_text.specs.declared.line.StopCause.{StopCause}
use Rattle.scenario_tree.specs.declared.tree.Scenario.{Scenario}
use Rattle.gv_io.specs.Streams.{appended, prepended}
use Rattle.gv_io.proofs.StreamLaws.{appended-nothing, AppendsPrefix-nothing, prepended-nothing}
use Rattle.machine.specs.Run.{Ran, End as RunEnd}
use Rattle.machine.specs.Status.{status, err_line}
use Rattle.hub_engine.specs.declared.run.EngineEnd.{EngineEnd}
use Rattle.hub_engine.specs.Ends.{RanTo, end_of, end_of_run}
use Rattle.gv_top.specs.declared.words.OfflineCommand.{OfflineCommand}
use Rattle.gv_top.specs.declared.status.Conclusion.{Conclusion}
use Rattle.gv_top.specs.declared.status.Failure.{Failure}
use Rattle.gv_top.specs.declared.status.Verdict.{Verdict}
use Rattle.scenario_grammar.specs.declared.place.Place.{Place}
use Rattle.scenario_lang.specs.declared.text.ParseRefusal.{ParseRefusal}
use Rattle.scenario_lang.specs.declared.text.ParseRefusal.TheVariants as parse
use Rattle.scenario_lang.specs.Lines.{Parses}
use Rattle.command_words.specs.declared.command.GatewayKind.{GatewayKind}
use Rattle.command_words.specs.declared.command.TextCommand.{TextCommand}
use Rattle.gv_top.proofs.ReadTexts.{answer_by, text_answer}
use Rattle.gv_top.specs.Answers.{Answer, answer_to_scenario, answer_of_run, answer_of_session, err_of, most_read, no_port, status_of, usage}
use Rattle.gv_top.specs.Inner.{answer_to_text, IsExplained, IsOfConnection}
use Rattle.scenario_reading.specs.Judged.{IsRefusedWithReason, judged_text}
use Rattle.gv_top.specs.Gateway.{answers_by}
use Rattle.gv_top.specs.Status.{verdict_line, verdict_of_connection, verdict_of_run, verdict_of_text, verdict_status}
use Rattle.wsgi_core.specs.Answer.{Sent, nothing_sent}
use Rattle.wsgi_core.specs.Applications.{App}
use Rattle.wsgi_core.proofs.ProgressLaws.{answers-nothing}
use Rattle.scgi_core.proofs.CallLaws.{answers-nothing as scgi-nothing}
use Rattle.wsgi_connection.specs.declared.connection.TheConstants.{MOST_CONNECTION}
use Rattle.wsgi_connection.specs.Connection.{Exchanged, HandedAhead, SentAhead}
use Rattle.wsgi_connection.specs.Wholes.{IsWhole}
use Rattle.wsgi_connection.specs.declared.connection.ConnectionEnd.{ConnectionEnd}
use Rattle.gv_top.specs.Top.{Decided}
use Rattle.gv_top.specs.Verifying.{IsAnswerOf}

-- ---- the verdict of a run

status_of_end : (cause : StopCause) → verdict_status (verdict_of_run (end_of cause)) ≡ status cause
status_of_end (StopCause.Value v) = refl
status_of_end (StopCause.Fault f) = refl
status_of_end StopCause.NoTurns = refl
status_of_end StopCause.NoMoves = refl
status_of_end StopCause.NoGreenlets = refl
status_of_end StopCause.NoLinks = refl
status_of_end StopCause.NoKills = refl

line_of_end : (cause : StopCause) → verdict_line (verdict_of_run (end_of cause)) ≡ err_line cause
line_of_end (StopCause.Value v) = refl
line_of_end (StopCause.Fault f) = refl
line_of_end StopCause.NoTurns = refl
line_of_end StopCause.NoMoves = refl
line_of_end StopCause.NoGreenlets = refl
line_of_end StopCause.NoLinks = refl
line_of_end StopCause.NoKills = refl

same_end : (end : EngineEnd) (cause : StopCause) → Some end ≡ Some (end_of cause) → end ≡ end_of cause
same_end end cause e = ap (λ (o : Option EngineEnd). unwrap_or o end) e

none_is_none : (end : EngineEnd) → Some end ≡ None → ⊥
none_is_none end e = cc

number_is : (end : EngineEnd) (e : RunEnd) → Some end ≡ end_of_run e → verdict_status (verdict_of_run end) ≡ status_of e
number_is end (RunEnd.Stopped cause) h = ap (λ (x : EngineEnd). verdict_status (verdict_of_run x)) (same_end end cause h) ∙ status_of_end cause
number_is end RunEnd.Asking h = absurd (none_is_none end h)

line_is : (end : EngineEnd) (e : RunEnd) → Some end ≡ end_of_run e → verdict_line (verdict_of_run end) ≡ err_of e
line_is end (RunEnd.Stopped cause) h = ap (λ (x : EngineEnd). verdict_line (verdict_of_run x)) (same_end end cause h) ∙ line_of_end cause
line_is end RunEnd.Asking h = absurd (none_is_none end h)

end_decided : (end : EngineEnd) (r : Ran) (old new : Option (List ℕ)) → RanTo end r old new → Decided (verdict_of_run end) (answer_of_run r) old new
end_decided EngineEnd.WriteFault r old new h = h
end_decided EngineEnd.Memory r old new h = h
end_decided EngineEnd.MainValue r old new h = (h.0, number_is EngineEnd.MainValue r.end h.1, line_is EngineEnd.MainValue r.end h.1)
end_decided (EngineEnd.MainFault f) r old new h = (h.0, number_is (EngineEnd.MainFault f) r.end h.1, line_is (EngineEnd.MainFault f) r.end h.1)
end_decided EngineEnd.NoTurns r old new h = (h.0, number_is EngineEnd.NoTurns r.end h.1, line_is EngineEnd.NoTurns r.end h.1)
end_decided EngineEnd.NoMoves r old new h = (h.0, number_is EngineEnd.NoMoves r.end h.1, line_is EngineEnd.NoMoves r.end h.1)
end_decided EngineEnd.NoGreenlets r old new h = (h.0, number_is EngineEnd.NoGreenlets r.end h.1, line_is EngineEnd.NoGreenlets r.end h.1)
end_decided EngineEnd.NoLinks r old new h = (h.0, number_is EngineEnd.NoLinks r.end h.1, line_is EngineEnd.NoLinks r.end h.1)
end_decided EngineEnd.NoKills r old new h = (h.0, number_is EngineEnd.NoKills r.end h.1, line_is EngineEnd.NoKills r.end h.1)

-- the verdict of a run is the answer of that run
pub run_decided : (end : EngineEnd) (v : Verdict) (r : Ran) (old new : Option (List ℕ)) → v ≡ verdict_of_run end → RanTo end r old new → Decided v (answer_of_run r) old new
run_decided end v r old new is h = let P : Verdict → Type 0 = λ x. Decided x (answer_of_run r) old new in subst P (sym is) (end_decided end r old new h)

-- ---- the verdict on a text

refused_decided : (command : TextCommand) (given : List Given) (bytes : List ℕ) (p : Place) (old : Option (List ℕ)) → judged_text bytes ≡ Err p
    → Decided (Verdict.Did (Conclusion.Refused p)) (answer_to_text command given bytes) old old
unfolding answer_to_text
refused_decided command given bytes p old e =
    let P : Answer → Type 0 = λ a. Decided (Verdict.Did (Conclusion.Refused p)) a old old in subst P (sym (ap (answer_by command given) e)) (sym (appended-nothing old), refl, refl)

-- the text was judged so, and its scenario decided
pub judged_decided : (command : TextCommand) (given : List Given) (bytes : List ℕ) (s : Scenario) (v : Verdict) (old new : Option (List ℕ)) → judged_text bytes ≡ Ok s
    → Decided v (answer_to_scenario command given s) old new → Decided v (answer_to_text command given bytes) old new
unfolding answer_to_text
judged_decided command given bytes s v old new e h = let P : Answer → Type 0 = λ a. Decided v a old new in subst P (sym (ap (answer_by command given) e)) h

pub refusal_decided : (command : TextCommand) (given : List Given) (bytes : List ℕ) (e : ParseRefusal) (v : Verdict) (old : Option (List ℕ)) → v ≡ verdict_of_text e → Parses (judged_text bytes) (Err e)
    → Decided v (answer_to_text command given bytes) old old
refusal_decided command given bytes e v old is h = let P : Verdict → Type 0 = λ v. Decided v (answer_to_text command given bytes) old old in subst P (sym is) (by e h)
  where
    by : (e : ParseRefusal) → Parses (judged_text bytes) (Err e) → Decided (verdict_of_text e) (answer_to_text command given bytes) old old
    by (parse.Refused p) h = refused_decided command given bytes p old h
    by parse.Memory h = AppendsPrefix-nothing old (answer_to_text command given bytes).out

-- such a verdict is of no command and of no fault
pub refusal_number : (e : ParseRefusal) (v : Verdict) (n : ℕ) → v ≡ verdict_of_text e → verdict_status v ≡ n → n ≢ 3 → n ≢ 7 → ⊥
refusal_number e v n is h h3 h7 = by e (sym (ap verdict_status is) ∙ h)
  where
    by : (e : ParseRefusal) → verdict_status (verdict_of_text e) ≡ n → ⊥
    by (parse.Refused p) h = h3 (sym h)
    by parse.Memory h = h7 (sym h)

pub refusal_explained : (e : ParseRefusal) (v : Verdict) → v ≡ verdict_of_text e → IsRefusedWithReason e → IsExplained v
refusal_explained e v is h = subst IsExplained (sym is) (by e h)
  where
    by : (e : ParseRefusal) → IsRefusedWithReason e → IsExplained (verdict_of_text e)
    by (parse.Refused p) h = h
    by parse.Memory h = tt

-- what is decided of a command is decided of one that is the same
pub decided_of_this : (command wanted : TextCommand) (given : List Given) (s : Scenario) (v : Verdict) (old new : Option (List ℕ)) → command ≡ wanted
    → Decided v (answer_to_scenario wanted given s) old new → Decided v (answer_to_scenario command given s) old new
decided_of_this command wanted given s v old new is h = let Q : TextCommand → Type 0 = λ d. Decided v (answer_to_scenario d given s) old new in subst Q (sym is) h

-- ---- the verdict of a command

-- the answer to this command is the answer to one that is the same
pub answer_as : (app : App) (c d : Option OfflineCommand) (given : List Given) (left : List ℕ) (a : Answer) → c ≡ d → IsAnswerOf app c given left a → IsAnswerOf app d given left a
answer_as app c d given left a e h = let P : Option OfflineCommand → Type 0 = λ x. IsAnswerOf app x given left a in subst P e h

-- what is decided of an answer is decided of one that is the same
pub decided_as : (v : Verdict) (a b : Answer) (old new : Option (List ℕ)) → a ≡ b → Decided v b old new → Decided v a old new
decided_as v a b old new e h = let P : Answer → Type 0 = λ x. Decided v x old new in subst P (sym e) h

-- what is decided of the answer that the function gives to a text is decided of each of its answers
pub text_decided : (app : App) (c : Option OfflineCommand) (command : TextCommand) (given : List Given) (left : List ℕ) (a : Answer) (v : Verdict) (old new : Option (List ℕ)) → c ≡ Some (OfflineCommand.Text command)
    → Decided v (answer_to_text command given (take most_read left)) old new → IsAnswerOf app c given left a → Decided v a old new
text_decided app c command given left a v old new e d h =
    decided_as v a (answer_to_text command given (take most_read left)) old new (text_answer command given (take most_read left) a (answer_as app c (Some (OfflineCommand.Text command)) given left a e h)) d

pub usage_decided : (app : App) (c : Option OfflineCommand) (given : List Given) (left : List ℕ) (a : Answer) (old : Option (List ℕ)) → c ≡ None → IsAnswerOf app c given left a → Decided (Verdict.Did Conclusion.Usage) a old old
usage_decided app c given left a old e h = decided_as (Verdict.Did Conclusion.Usage) a usage old old (answer_as app c None given left a e h) (sym (appended-nothing old), refl, refl)

-- the verdict of a connection is the answer of what its session sent
pub connection_decided : (end : ConnectionEnd) (v : Verdict) (s : Sent) (old new : Option (List ℕ)) → v ≡ verdict_of_connection end → IsWhole end s old new → Decided v (answer_of_session s) old new
connection_decided end v s old new is h = let P : Verdict → Type 0 = λ x. Decided x (answer_of_session s) old new in subst P (sym is) (by end h)
  where
    by : (end : ConnectionEnd) → IsWhole end s old new → Decided (verdict_of_connection end) (answer_of_session s) old new
    by ConnectionEnd.Closed h = let closes = h.1 in (h.0, rw closes refl, rw closes refl)
    by ConnectionEnd.TooLong h = let closes = h.1 in (h.0, rw closes refl, rw closes refl)
    by ConnectionEnd.ReadFault h = h
    by ConnectionEnd.WriteFault h = h
    by ConnectionEnd.Memory h = h

pub text_is_no_connection : (text : TextCommand) (gateway : GatewayKind) → OfflineCommand.Text text ≡ OfflineCommand.Wsgi gateway → ⊥
text_is_no_connection text gateway e = cc e

pub of_connection : (end : ConnectionEnd) (v : Verdict) (given gateway : GatewayKind) (app : App) (in0 in1 out0 out1 : Option (List ℕ)) → v ≡ verdict_of_connection end → OfflineCommand.Wsgi gateway ≡ OfflineCommand.Wsgi given
    → Exchanged end (answers_by given) app no_port in0 in1 out0 out1 → IsOfConnection v gateway app in0 in1 out0 out1
of_connection end v given gateway app in0 in1 out0 out1 is wanted h = record {
  end = end;
  number = ap verdict_status is;
  exchanged = subst (λ (k : GatewayKind). Exchanged end (answers_by k) app no_port in0 in1 out0 out1) (same given gateway (sym wanted)) h;
}
  where
    same : (a b : GatewayKind) → OfflineCommand.Wsgi a ≡ OfflineCommand.Wsgi b → a ≡ b
    same a b z = cc z

-- another command than this one is named
pub no_command : (c : Option OfflineCommand) (d : OfflineCommand) (P : Type 0) → c ≡ None → c ≡ Some d → P
no_command c d P e f = absurd (none_is_some d (sym e ∙ f))
  where
    none_is_some : (d : OfflineCommand) → None ≡ Some d → ⊥
    none_is_some d h = cc

-- nothing is sent for no bytes
silent : (gateway : GatewayKind) (app : App) (port : ℕ) → answers_by gateway app port [] ≡ nothing_sent
silent GatewayKind.Http app port = answers-nothing app port
silent GatewayKind.Scgi app port = scgi-nothing app port

ahead_of_nothing : (gateway : GatewayKind) (app : App) (out : Option (List ℕ)) → SentAhead (answers_by gateway) app no_port (take MOST_CONNECTION []) out out
ahead_of_nothing gateway app out = record {
  before = [];
  last = [];
  is = refl;
  short = omega arith;
  stands = record { more = []; is = sym (appended-nothing _ ∙ ap (λ (t : Sent). appended out t.bytes) (silent gateway app no_port) ∙ appended-nothing out) };
}

-- where memory ran out at once, nothing was exchanged
pub nothing_exchanged : (gateway : GatewayKind) (app : App) (input out : Option (List ℕ)) → IsOfConnection (Verdict.Broke Failure.Memory) gateway app input input out out
nothing_exchanged gateway app input out =
    record {
      end = ConnectionEnd.Memory;
      number = refl;
      exchanged = record { read = []; is_read = sym (prepended-nothing input); within = omega arith; sent = AppendsPrefix-nothing out _; ahead = ahead_of_nothing gateway app out };
    }

pub nothing_handed_ahead : (gateway : GatewayKind) (app : App) (input out handed : Option (List ℕ)) → handed ≡ out → HandedAhead (answers_by gateway) app no_port input input out handed
nothing_handed_ahead gateway app input out handed same =
    record { read = []; is_read = sym (prepended-nothing input); ahead = subst (SentAhead (answers_by gateway) app no_port (take MOST_CONNECTION []) out) (sym same) (ahead_of_nothing gateway app out) }

-- ---- what was read

rest_of : (most : ℕ) (left items rest : List ℕ) → items ≡ take most left → left ≡ items ++ rest → rest ≡ drop most left
rest_of most left items rest e h =
    append_cancel_left items rest (drop most left) (sym h ∙ sym (take-append-drop most left) ∙ ap (λ xs. xs ++ drop most left) (sym e))

some_left : (a b : List ℕ) → Some a ≡ Some b → a ≡ b
some_left a b e = ap (λ (o : Option (List ℕ)). unwrap_or o a) e

none_read : (most : ℕ) (items : List ℕ) (left : List ℕ) → prepended items None ≡ Some left → None ≡ Some (drop most left)
unfolding prepended
none_read most items left e = cc

some_read : (items rest left : List ℕ) → Some left ≡ prepended items (Some rest) → left ≡ items ++ rest
unfolding prepended
some_read items rest left e = some_left left (items ++ rest) e

pub read_first : (most : ℕ) (left items : List ℕ) (old : Option (List ℕ)) → old ≡ Some left → IfSome old (λ all. items ≡ take most all) → items ≡ take most left
read_first most left items None e f = cc
read_first most left items (Some all) e f = f ∙ ap (take most) (some_left all left e)

-- what is left of the input is what stands behind the bytes that were read
pub left_behind : (most : ℕ) (left items : List ℕ) (old new : Option (List ℕ)) → old ≡ Some left → IfSome old (λ all. items ≡ take most all) → old ≡ prepended items new
    → new ≡ Some (drop most left)
left_behind most left items old None told first next = none_read most items left (sym next ∙ told)
left_behind most left items old (Some rest) told first next =
    ap Some (rest_of most left items rest (read_first most left items old told first) (some_read items rest left (sym told ∙ next)))
