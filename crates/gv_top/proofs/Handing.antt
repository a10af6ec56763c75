-- What was handed on, and whether native workers were begun.
use Rattle.std.proofs.Common.{◌≡◌, ◌≢◌, inl, inr, refl, ap, sym, subst, ◌∙◌, ℕ, Bool, List, Option, Result, Ok}
use Rattle.scenario_tree.specs.declared.tree.Scenario.{Scenario}
use Rattle.scenario_grammar.specs.declared.place.Place.{Place}
use Rattle.world.specs.Outside.{WorldMeaning}
use Rattle.hub_engine.specs.declared.run.EngineEnd.{EngineEnd}
use Rattle.wsgi_connection.specs.declared.connection.ConnectionEnd.{ConnectionEnd}
use Rattle.stream_net.specs.Net.{NetMeaning as Net}
use Rattle.serve_command.specs.declared.serving.Served.{Served}
use Rattle.serve_command.specs.Serving.{IsToldFirst}
use Rattle.command_words.specs.declared.command.RunOptions.{RunOptions}
use Rattle.command_words.specs.declared.command.TextCommand.{TextCommand}
use Rattle.gv_top.specs.declared.status.Verdict.{Verdict}
use Rattle.gv_top.specs.declared.words.OfflineCommand.{OfflineCommand}
use Rattle.scenario_reading.specs.Judged.{judged_text}
use Rattle.run_command.specs.Running.{BeganSo}
use Rattle.gv_top.specs.Top.{HandsOn, IsVerdictTold}
use Rattle.gv_top.specs.Inner.{BeganText, IsOr}
use Rattle.gv_top.specs.Status.{verdict_of_connection, verdict_of_run, verdict_of_server, verdict_status}

-- ---- what was handed on

-- what a run hands on by its end, it hands on by its verdict
pub run_hands : (end : EngineEnd) (v : Verdict) (w0 h0 w1 h1 : Option (List ℕ)) → v ≡ verdict_of_run end → HandsOn (verdict_status (verdict_of_run end)) w0 h0 w1 h1 → HandsOn (verdict_status v) w0 h0 w1 h1
run_hands end v w0 h0 w1 h1 is h = let P : Verdict → Type 0 = λ x. HandsOn (verdict_status x) w0 h0 w1 h1 in subst P (sym is) h

pub scenario_hands : (end : EngineEnd) (v : Verdict) (w0 h0 w1 h1 : Option (List ℕ)) → v ≡ verdict_of_run end → (end ≢ EngineEnd.WriteFault → end ≢ EngineEnd.Memory → h1 ≡ w1)
    → HandsOn (verdict_status v) w0 h0 w1 h1
scenario_hands end v w0 h0 w1 h1 is f h5 h7 e = f (λ z. h5 (ap verdict_status is ∙ ap (λ x. verdict_status (verdict_of_run x)) z)) (λ z. h7 (ap verdict_status is ∙ ap (λ x. verdict_status (verdict_of_run x)) z))

pub connection_hands : (end : ConnectionEnd) (v : Verdict) (w0 h0 w1 h1 : Option (List ℕ)) → v ≡ verdict_of_connection end →
    (h0 ≡ w0 → end ≢ ConnectionEnd.WriteFault → end ≢ ConnectionEnd.Memory → h1 ≡ w1) → HandsOn (verdict_status v) w0 h0 w1 h1
connection_hands end v w0 h0 w1 h1 is f h5 h7 e =
    f e (λ z. h5 (ap verdict_status is ∙ ap (λ x. verdict_status (verdict_of_connection x)) z)) (λ z. h7 (ap verdict_status is ∙ ap (λ x. verdict_status (verdict_of_connection x)) z))

-- the status that is answered is the verdict's, or 5 or 7
pub told_hands : (n : ℕ) (v w : Verdict) (err0 err1 out0 h0 out1 h1 : Option (List ℕ)) (e0 e1 : ℕ) → IsOr v w → IsVerdictTold n w err0 err1 e0 e1 → HandsOn (verdict_status v) out0 h0 out1 h1 → HandsOn n out0 h0 out1 h1
told_hands n v w err0 err1 out0 h0 out1 h1 e0 e1 o (inr t) h h5 h7 = absurd (h5 t.0)
told_hands n v w err0 err1 out0 h0 out1 h1 e0 e1 (inl same) (inl t) h h5 h7 =
    let e : verdict_status v ≡ n = ap verdict_status (sym same) ∙ sym t.0 in h (λ z. h5 (sym e ∙ z)) (λ z. h7 (sym e ∙ z))
told_hands n v w err0 err1 out0 h0 out1 h1 e0 e1 (inr m) (inl t) h h5 h7 = absurd (h7 (t.0 ∙ ap verdict_status m.0))

pub serving_hands : (end : Served) (w0 h0 w1 h1 : Option (List ℕ)) → (h0 ≡ w0 → end ≢ Served.WriteFault → end ≢ Served.Memory → h1 ≡ w1) → HandsOn (verdict_status (verdict_of_server end)) w0 h0 w1 h1
serving_hands end w0 h0 w1 h1 f h5 h7 e = f e (λ z. h5 (ap (λ x. verdict_status (verdict_of_server x)) z)) (λ z. h7 (ap (λ x. verdict_status (verdict_of_server x)) z))

-- ---- whether native workers were begun

-- so has the command that asks for this run
pub scenario_began : (waits : Bool) (command : TextCommand) (options : RunOptions) (s : Scenario) (before after : WorldMeaning) (out0 out1 handed1 : Option (List ℕ)) (faults0 faults1 : ℕ) → command ≡ TextCommand.Run options
    → BeganSo waits options s before after out0 out1 handed1 faults0 faults1 → (wanted : RunOptions) → command ≡ TextCommand.Run wanted → BeganSo waits wanted s before after out0 out1 handed1 faults0 faults1
scenario_began waits command options s before after out0 out1 handed1 faults0 faults1 is h wanted e =
    subst (λ (o : RunOptions). BeganSo waits o s before after out0 out1 handed1 faults0 faults1) (same_options options wanted (sym is ∙ e)) h
  where
    same_options : (a b : RunOptions) → TextCommand.Run a ≡ TextCommand.Run b → a ≡ b
    same_options a b e = cc e

pub text_began : (waits : Bool) (command : TextCommand) (bytes : List ℕ) (s : Scenario) (before after : WorldMeaning) (out0 out1 handed1 : Option (List ℕ)) (faults0 faults1 : ℕ) → judged_text bytes ≡ Ok s
    → ((options : RunOptions) → command ≡ TextCommand.Run options → BeganSo waits options s before after out0 out1 handed1 faults0 faults1) → BeganText waits command bytes before after out0 out1 handed1 faults0 faults1
text_began waits command bytes s before after out0 out1 handed1 faults0 faults1 j h = λ options t e k.
    subst (λ (x : Scenario). BeganSo waits options x before after out0 out1 handed1 faults0 faults1) (same s t (sym j ∙ k)) (h options e)
  where
    same : (a b : Scenario) → ◌≡◌ {A = Result Scenario Place} (Ok a) (Ok b) → a ≡ b
    same a b z = cc z

-- nothing was done
pub none_began : (waits : Bool) (command : TextCommand) (bytes : List ℕ) (before : WorldMeaning) (out handed : Option (List ℕ)) (faults : ℕ) → BeganText waits command bytes before before out out handed faults faults
none_began waits command bytes before out handed faults = λ options s e k. inr (record { unwritten = refl; untried = refl; kept = λ workers natively. refl })

-- the command is this one
pub command_began : (waits : Bool) (given text : TextCommand) (bytes : List ℕ) (before after : WorldMeaning) (out0 out1 handed1 : Option (List ℕ)) (faults0 faults1 : ℕ) → OfflineCommand.Text text ≡ OfflineCommand.Text given
    → BeganText waits given bytes before after out0 out1 handed1 faults0 faults1 → BeganText waits text bytes before after out0 out1 handed1 faults0 faults1
command_began waits given text bytes before after out0 out1 handed1 faults0 faults1 is h =
    subst (λ (t : TextCommand). BeganText waits t bytes before after out0 out1 handed1 faults0 faults1) (same given text (sym is)) h
  where
    same : (a b : TextCommand) → OfflineCommand.Text a ≡ OfflineCommand.Text b → a ≡ b
    same a b z = cc z

-- ---- where nothing was done before

pub hands_from : {n : ℕ} {w0 h0 w1 h1 w2 h2 : Option (List ℕ)} → w1 ≡ w0 → h1 ≡ h0 → HandsOn n w1 h1 w2 h2 → HandsOn n w0 h0 w2 h2
hands_from same kept h h5 h7 e = h h5 h7 (kept ∙ e ∙ sym same)

pub told_from : (asked : ℕ) (w : Net) (out0 out1 handed2 : Option (List ℕ)) → out1 ≡ out0 → IsToldFirst asked w out1 handed2 → IsToldFirst asked w out0 handed2
told_from asked w out0 out1 handed2 same h = subst (λ (o : Option (List ℕ)). IsToldFirst asked w o handed2) same h
