-- What is answered to a text: its scenario's run or printed form, or the place where it is refused.
use Rattle.std.proofs.Common.{◌≡◌, ◌≢◌, ℕ, inl, inr, List, Option, Some, None, Result, Ok, Err, refl, ap, sym, subst, ◌∙◌, take}
use Rattle.gv_values.specs.declared.job.Answer.{Answer as Given}
use Rattle.scenario_tree.specs.declared.tree.Scenario.{Scenario}
use Rattle.scenario_grammar.specs.declared.place.Place.{Place}
use Rattle.scenario_grammar.specs.Parsed.{reading}
use Rattle.scenario_grammar.specs.Spells.{Spells}
use Rattle.scenario_grammar.proofs.Complete.{complete}
use Rattle.scenario_grammar.proofs.Placed.{accepted, refused_there}
use Rattle.scenario_grammar.proofs.Sound.{sound}
use Rattle.scenario_rules.specs.Rules.{IsWellFormed, place_of}
use Rattle.scenario_check.proofs.FirstPlace.{well_formed, not_well_formed}
use Rattle.machine.specs.Run.{Ran, End}
use Rattle.gv_top.specs.Answers.{IsRefusedAt, IsTextAnswer, Answer, answer_to_scenario, answer_of_run, most_read, refused_answer, status_of}
use Rattle.gv_top.specs.Inner.{answer_to_text}
use Rattle.world.specs.Outside.{WorldMeaning}
use Rattle.world_rules.specs.declared.question.LogEntry.{LogEntry}
use Rattle.command_words.specs.declared.command.RunOptions.{RunOptions}
use Rattle.gv_top.specs.Commands.{Headline}
use Rattle.run_command.specs.Running.{run_of}
use Rattle.gv_top.specs.Top.{BlocksAtQuiet, Ended, IsAnswered, Stream}
use Rattle.gv_top.proofs.Tops.{is_answered, ran_so}
use Rattle.scenario_reading.specs.Judged.{checked, judged_text}
use Rattle.gv_top.specs.Verifying.{IsAnswerOf}
use Rattle.gv_top.specs.declared.words.OfflineCommand.{OfflineCommand}
use Rattle.command_words.specs.declared.command.TextCommand.{TextCommand}
use Rattle.wsgi_core.specs.Applications.{App}

-- ---- what comes of the bytes

abbrev judged_of : Result Scenario Place → Result Scenario Place
judged_of r = elim r as (λ x. Result Scenario Place) [ Ok s ↦ checked s | Err place ↦ Err place ]

abbrev checked_by : Scenario → Option Place → Result Scenario Place
checked_by s o = elim o as (λ x. Result Scenario Place) [ None ↦ Ok s | Some place ↦ Err place ]

pub judged_unread : (bytes : List ℕ) (p : Place) → reading bytes ≡ Err p → judged_text bytes ≡ Err p
judged_unread bytes p e = ap judged_of e

pub judged_read : (bytes : List ℕ) (s : Scenario) (o : Option Place) → reading bytes ≡ Ok s → place_of s ≡ o → judged_text bytes ≡ checked_by s o
judged_read bytes s o e placed = ap judged_of e ∙ ap (checked_by s) placed

-- a well-formed scenario has no place
no_place : (s : Scenario) → IsWellFormed s → place_of s ≡ None
no_place s w = by (place_of s) refl
  where
    by : (o : Option Place) → place_of s ≡ o → place_of s ≡ None
    by None e = e
    by (Some p) e = absurd (not_well_formed s p e w)

pub spelt_is_judged : (s : Scenario) (bytes : List ℕ) → Spells s bytes → IsWellFormed s → judged_text bytes ≡ Ok s
spelt_is_judged s bytes t w = judged_read bytes s None (complete s bytes t) (no_place s w)

-- ---- a scenario that is judged is spelt

refused_is_not_read : (s : Scenario) (p : Place) → ◌≡◌ {A = Result Scenario Place} (Err p) (Ok s) → ⊥
refused_is_not_read s p e = cc e

same_scenario : (s t : Scenario) → ◌≡◌ {A = Result Scenario Place} (Ok s) (Ok t) → s ≡ t
same_scenario s t e = cc e

same_place : (p q : Place) → ◌≡◌ {A = Result Scenario Place} (Err p) (Err q) → p ≡ q
same_place p q e = cc e

placed_once : (p q : Place) → Some p ≡ Some q → p ≡ q
placed_once p q e = cc e

nowhere_is_no_place : (p : Place) → None ≡ Some p → ⊥
nowhere_is_no_place p e = cc e

-- the bytes spell this scenario, which is well formed
abbrev pub IsSpelt : List ℕ → Scenario → Type 0
IsSpelt bytes s = Spells s bytes × IsWellFormed s

pub judged_is_spelt : (bytes : List ℕ) (s : Scenario) → judged_text bytes ≡ Ok s → IsSpelt bytes s
judged_is_spelt bytes s j = read (reading bytes) refl
  where
    placed_as : (t : Scenario) (o : Option Place) → reading bytes ≡ Ok t → place_of t ≡ o → IsSpelt bytes s
    placed_as t None e placed =
        subst (IsSpelt bytes) (same_scenario t s (sym (judged_read bytes t None e placed) ∙ j)) (sound t bytes e, well_formed t placed)
    placed_as t (Some p) e placed = absurd (refused_is_not_read s p (sym (judged_read bytes t (Some p) e placed) ∙ j))

    read : (r : Result Scenario Place) → reading bytes ≡ r → IsSpelt bytes s
    read (Ok t) e = placed_as t (place_of t) e refl
    read (Err p) e = absurd (refused_is_not_read s p (sym (judged_unread bytes p e) ∙ j))

pub refusal_is_placed : (bytes : List ℕ) (p : Place) → judged_text bytes ≡ Err p → IsRefusedAt bytes p
refusal_is_placed bytes p j = read (reading bytes) refl
  where
    placed_as : (t : Scenario) (o : Option Place) → reading bytes ≡ Ok t → place_of t ≡ o → IsRefusedAt bytes p
    placed_as t None e placed = absurd (refused_is_not_read t p (sym j ∙ judged_read bytes t None e placed))
    placed_as t (Some q) e placed =
        subst (IsRefusedAt bytes) (same_place q p (sym (judged_read bytes t (Some q) e placed) ∙ j)) (inr (t, sound t bytes e, placed))

    read : (r : Result Scenario Place) → reading bytes ≡ r → IsRefusedAt bytes p
    read (Ok t) e = placed_as t (place_of t) e refl
    read (Err q) e = subst (IsRefusedAt bytes) (same_place q p (sym (judged_unread bytes q e) ∙ j)) (inl (refused_there bytes q e))

pub placed_is_refused : (bytes : List ℕ) (p : Place) → IsRefusedAt bytes p → judged_text bytes ≡ Err p
placed_is_refused bytes p (inr h) = judged_read bytes h.0 (Some p) (complete h.0 bytes h.1) h.2
placed_is_refused bytes p (inl h) = read (reading bytes) refl
  where
    read : (r : Result Scenario Place) → reading bytes ≡ r → judged_text bytes ≡ Err p
    read (Ok t) e = absurd (nowhere_is_no_place p (sym (accepted bytes t e) ∙ h))
    read (Err q) e =
        let refused : Place → Result Scenario Place = λ x. Err x in judged_unread bytes q e ∙ ap refused (placed_once q p (sym (refused_there bytes q e) ∙ h))

-- bytes that are no text of a well-formed scenario are refused at their place
record Refused (bytes : List ℕ) (p : Place) : Type 0 where
  at : IsRefusedAt bytes p
  judged_so : judged_text bytes ≡ Err p

refuses : (bytes : List ℕ) (r : Result Scenario Place) → reading bytes ≡ r → ((s : Scenario) → Spells s bytes → IsWellFormed s → ⊥) → (p : Place) × Refused bytes p
refuses bytes (Err p) e none = (p, record { at = inl (refused_there bytes p e); judged_so = judged_unread bytes p e })
refuses bytes (Ok s) e none = by (place_of s) refl
  where
    by : (o : Option Place) → place_of s ≡ o → (p : Place) × Refused bytes p
    by None placed = absurd (none s (sound s bytes e) (well_formed s placed))
    by (Some p) placed = (p, record { at = inr (s, sound s bytes e, placed); judged_so = judged_read bytes s (Some p) e placed })

-- no scenario is read of them
pub none_judged : (bytes : List ℕ) → ((s : Scenario) → Spells s bytes → IsWellFormed s → ⊥) → (s : Scenario) → judged_text bytes ≡ Ok s → ⊥
none_judged bytes none s e = let r = refuses bytes (reading bytes) refl none in no r.0 (sym r.1.judged_so ∙ e)
  where
    no : (p : Place) → ◌≡◌ {A = Result Scenario Place} (Err p) (Ok s) → ⊥
    no p z = cc z

-- ---- the answer to a text, as a function of it

abbrev pub answer_by : TextCommand → List Given → Result Scenario Place → Answer
answer_by command given r = elim r as (λ x. Answer) [ Ok s ↦ answer_to_scenario command given s | Err place ↦ refused_answer place ]

-- the function gives an answer of the text
pub text_is_answered : (command : TextCommand) (given : List Given) (bytes : List ℕ) → IsTextAnswer command given bytes (answer_to_text command given bytes)
unfolding IsTextAnswer answer_to_text
text_is_answered command given bytes = by (judged_text bytes) refl
  where
    by : (r : Result Scenario Place) → judged_text bytes ≡ r → IsTextAnswer command given bytes (answer_to_text command given bytes)
    by (Ok s) j = let spelt = judged_is_spelt bytes s j in inl (s, spelt.0, spelt.1, ap (answer_by command given) j)
    by (Err p) j = inr (p, refusal_is_placed bytes p j, ap (answer_by command given) j)

-- and no text has another
pub text_answer : (command : TextCommand) (given : List Given) (bytes : List ℕ) (a : Answer) → IsTextAnswer command given bytes a → a ≡ answer_to_text command given bytes
unfolding IsTextAnswer answer_to_text
text_answer command given bytes a (inl h) = h.3 ∙ sym (ap (answer_by command given) (spelt_is_judged h.0 bytes h.1 h.2))
text_answer command given bytes a (inr h) = h.2 ∙ sym (ap (answer_by command given) (placed_is_refused bytes h.0 h.1))

pub one_text_answer : (command : TextCommand) (given : List Given) (bytes : List ℕ) (a b : Answer) → IsTextAnswer command given bytes a → IsTextAnswer command given bytes b → a ≡ b
one_text_answer command given bytes a b h k = text_answer command given bytes a h ∙ sym (text_answer command given bytes b k)

-- ---- what is left behind

-- a text of a well-formed scenario is answered as that scenario
pub spelt_is_answered : (command : TextCommand) (given : List Given) (s : Scenario) (bytes : List ℕ) → Spells s bytes → IsWellFormed s → IsTextAnswer command given bytes (answer_to_scenario command given s)
unfolding IsTextAnswer
spelt_is_answered command given s bytes t w = inl (s, t, w, refl)

-- what is said of the answer to the command is said of this answer
pub answered_so : (n : ℕ) (app : App) (c : Option OfflineCommand) (command : TextCommand) (given : List Given) (a : Answer) (left : List ℕ) (out0 out1 err0 err1 : Option (List ℕ)) →
    c ≡ Some (OfflineCommand.Text command) → IsTextAnswer command given (take most_read left) a →
    ((b : Answer) → IsAnswerOf app c given left b → IsAnswered n b out0 out1 err0 err1) → IsAnswered n a out0 out1 err0 err1
answered_so n app c command given a left out0 out1 err0 err1 e is h =
    let P : Option OfflineCommand → Type 0 = λ d. IsAnswerOf app d given left a in h a (subst P (sym e) is)

-- any other text is refused at its place
pub refuses_the_rest : (command : TextCommand) (given : List Given) (bytes : List ℕ) → ((s : Scenario) → Spells s bytes → IsWellFormed s → ⊥)
    → (p : Place) × IsRefusedAt bytes p × IsTextAnswer command given bytes (refused_answer p)
unfolding IsTextAnswer
refuses_the_rest command given bytes none = let r = refuses bytes (reading bytes) refl none in (r.0, r.1.at, inr (r.0, r.1.at, refl))

-- ---- the claim

-- where the status is none of a fault and not that of want of memory, the run stopped
stops : (n : ℕ) (r : Ran) (out0 out1 err0 err1 : Option (List ℕ)) → IsAnswered n (answer_of_run r) out0 out1 err0 err1 → n ≢ 4 → n ≢ 5 → n ≢ 7 → r.end ≢ End.Asking
stops n r out0 out1 err0 err1 h h4 h5 h7 e = h7 (h.status h4 h5 h7 ∙ ap status_of e)

-- what is left of a text of a well-formed scenario that is run
pub headline : {n : ℕ} {app : App} {c : Option OfflineCommand} {after : WorldMeaning} {stands : List LogEntry → Type 0} {input out err : Stream} (options : RunOptions) (s : Scenario) (left : List ℕ) →
    Ended n app c after stands input out err → c ≡ Some (OfflineCommand.Text (TextCommand.Run options)) → input.before ≡ Some left → Spells s (take most_read left) → IsWellFormed s →
    BlocksAtQuiet (run_of options after.answers s) → Headline n options s after stands out err
headline {n} {app = app} {c = c} {after = after} {stands = stands} {out = out} {err = err} options s left h runs told text well quiet =
    let given = after.answers in
    let r = run_of options given s in
    let answer : IsAnswered n (answer_of_run r) out.before out.after err.before err.after =
    answered_so n app c (TextCommand.Run options) given (answer_of_run r) left out.before out.after err.before err.after runs
    (spelt_is_answered (TextCommand.Run options) given s (take most_read left) text well) (λ b of. is_answered h left b told of) in
    record {
      trace = answer;
      stops = stops n r out.before out.after err.before err.after answer;
      ran = ran_so options s left h runs told text well;
      quiet = quiet;
    }
