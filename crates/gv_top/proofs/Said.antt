-- What a check of a trace says of an input, and the answer of that check.
use Rattle.std.proofs.Common.{◌≡◌, ◌<◌, ◌≤◌, ◌⊎◌, inl, inr, refl, ap, sym, subst, ℕ, Bool, true, false, nat_lt, List, length, Option, Some, None, Result, Ok, Err}
use Rattle.std.proofs.lemmas.Bool.{le-ltb, lt-ltb, ltb-false, ltb-true}
use Rattle.command_words.specs.declared.command.TraceCheck.{TraceCheck}
use Rattle.scenario_tree.specs.declared.tree.Scenario.{Scenario}
use Rattle.scenario_grammar.specs.declared.place.Place.{Place}
use Rattle.scenario_grammar.specs.Place.{line_at, place}
use Rattle.scenario_check.proofs.FirstPlace.{well_formed}
use Rattle.scenario_reading.specs.Judged.{judged_text}
use Rattle.machine.specs.Run.{run}
use Rattle.trace_laws.specs.Answers.{IsJudged, IsJudgedLawful}
use Rattle.trace_laws.specs.Parts.{parted}
use Rattle.trace_laws.specs.declared.lawful.LawlessTrace.{LawlessTrace}
use Rattle.trace_laws.specs.declared.refusal.Cause.{Cause}
use Rattle.trace_laws.specs.declared.refusal.TraceRefusal.{TraceRefusal}
use Rattle.trace_check.specs.Inputs.{end_line}
use Rattle.trace_check.specs.declared.inputs.TheConstants.{MOST_CHECKED}
use Rattle.trace_check.specs.Said.{IsSaidIf, IsSaidOf, IsSaidOfParts, IsSaidOfScenario, Verification, said_of_laws, said_of_run}
use Rattle.trace_check.specs.declared.verifying.Unverified.{Unverified}
use Rattle.gv_top.specs.Answers.{Answer, IsRefusedAt}
use Rattle.gv_top.specs.Outcomes.{Fails, HasTrace, Passes, Refuses}
use Rattle.gv_top.specs.Verifying.{IsCheckAnswer, unverified}
use Rattle.gv_top.specs.Inner.{IsAnswerWhere}
use Rattle.gv_top.proofs.ReadTexts.{judged_is_spelt, placed_is_refused, refusal_is_placed, spelt_is_judged}

-- ---- what is said is told

-- what is said of the input; nothing where memory ran out
abbrev pub Tells : TraceCheck → List ℕ → Verification → Type 0
Tells check bytes (Ok lines) = Passes check bytes lines
Tells check bytes (Err (Unverified.Overlong line)) = Refuses check bytes (Unverified.Overlong line)
Tells check bytes (Err (Unverified.Unmarked line)) = Refuses check bytes (Unverified.Unmarked line)
Tells check bytes (Err (Unverified.Refused place)) = Refuses check bytes (Unverified.Refused place)
Tells check bytes (Err (Unverified.Wrong line cause)) = Fails check bytes (Unverified.Wrong line cause)
Tells check bytes (Err (Unverified.Lawless line law)) = Fails check bytes (Unverified.Lawless line law)
Tells check bytes (Err Unverified.Memory) = Unit {0}

tells_as : (check : TraceCheck) (bytes : List ℕ) (v w : Verification) → v ≡ w → Tells check bytes w → Tells check bytes v
tells_as check bytes v w e h = subst (Tells check bytes) (sym e) h

told_of_run : (turns moves : ℕ) (bytes : List ℕ) (t : HasTrace bytes) (r : Result ℕ TraceRefusal) → IsJudged (run t.scenario turns moves) t.trace r → Tells (TraceCheck.Run turns moves) bytes (said_of_run r)
told_of_run turns moves bytes t (Ok lines) h = (t, h)
told_of_run turns moves bytes t (Err (TraceRefusal.Wrong line cause)) h = (t, h)
told_of_run turns moves bytes t (Err TraceRefusal.Memory) h = tt

told_of_laws : (bytes : List ℕ) (r : Result ℕ LawlessTrace) → length bytes ≤ MOST_CHECKED → IsJudgedLawful bytes r → Tells TraceCheck.Laws bytes (said_of_laws r)
told_of_laws bytes (Ok lines) within h = (within, h)
told_of_laws bytes (Err (LawlessTrace.NotALine line)) within h = (within, h)
told_of_laws bytes (Err (LawlessTrace.Broken line law)) within h = (within, h)
told_of_laws bytes (Err LawlessTrace.Memory) within h = tt

told_of_scenario : (turns moves : ℕ) (bytes text trace : List ℕ) (r : Result Scenario Place) (v : Verification) → length bytes ≤ MOST_CHECKED → parted bytes ≡ Some (text, trace) →
    judged_text text ≡ r → IsSaidOfScenario r turns moves trace v → Tells (TraceCheck.Run turns moves) bytes v
told_of_scenario turns moves bytes text trace (Ok s) v within parts j h =
    let spelt = judged_is_spelt text s j in
    tells_as (TraceCheck.Run turns moves) bytes v (said_of_run h.0) h.2
    (told_of_run turns moves bytes (record { within = within; text = text; trace = trace; parts = parts; scenario = s; spells = spelt.0; well_formed = spelt.1 }) h.0 h.1)
told_of_scenario turns moves bytes text trace (Err place) v within parts j h =
    tells_as (TraceCheck.Run turns moves) bytes v (Err (Unverified.Refused place)) h (within, ((text, trace), parts, refusal_is_placed text place j))

told_of_parts : (turns moves : ℕ) (bytes : List ℕ) (o : Option (List ℕ × List ℕ)) (v : Verification) → length bytes ≤ MOST_CHECKED → parted bytes ≡ o →
    IsSaidOfParts o bytes turns moves v → Tells (TraceCheck.Run turns moves) bytes v
told_of_parts turns moves bytes None v within parts h =
    tells_as (TraceCheck.Run turns moves) bytes v (Err (Unverified.Unmarked (end_line bytes))) h (within, parts, refl)
told_of_parts turns moves bytes (Some p) v within parts h = told_of_scenario turns moves bytes p.0 p.1 (judged_text p.0) v within parts refl h

told_if : (long : Bool) (check : TraceCheck) (bytes : List ℕ) (v : Verification) → nat_lt MOST_CHECKED (length bytes) ≡ long → IsSaidIf long check bytes v → Tells check bytes v
told_if true (TraceCheck.Run turns moves) bytes v e h =
    tells_as (TraceCheck.Run turns moves) bytes v (Err (Unverified.Overlong (line_at MOST_CHECKED bytes))) h (ltb-true MOST_CHECKED (length bytes) e, refl)
told_if true TraceCheck.Laws bytes v e h = tells_as TraceCheck.Laws bytes v (Err (Unverified.Overlong (line_at MOST_CHECKED bytes))) h (ltb-true MOST_CHECKED (length bytes) e, refl)
told_if false (TraceCheck.Run turns moves) bytes v e h = told_of_parts turns moves bytes (parted bytes) v (ltb-false MOST_CHECKED (length bytes) e) refl h
told_if false TraceCheck.Laws bytes v e h = tells_as TraceCheck.Laws bytes v (said_of_laws h.0) h.2 (told_of_laws bytes h.0 (ltb-false MOST_CHECKED (length bytes) e) h.1)

pub told : (check : TraceCheck) (bytes : List ℕ) (v : Verification) → IsSaidOf check bytes v → Tells check bytes v
unfolding IsSaidOf
told check bytes v h = told_if (nat_lt MOST_CHECKED (length bytes)) check bytes v refl h

-- ---- what is told is said

-- of an input that is not too long
said_short : (check : TraceCheck) (bytes : List ℕ) (v : Verification) → length bytes ≤ MOST_CHECKED → IsSaidIf false check bytes v → IsSaidOf check bytes v
unfolding IsSaidOf
said_short check bytes v within h =
    subst (λ (b : Bool). IsSaidIf b check bytes v) (sym (le-ltb MOST_CHECKED (length bytes) within)) h

said_long : (check : TraceCheck) (bytes : List ℕ) (line : ℕ) → MOST_CHECKED < length bytes → line ≡ line_at MOST_CHECKED bytes → IsSaidOf check bytes (Err (Unverified.Overlong line))
unfolding IsSaidOf
said_long check bytes line over e =
    subst (λ (b : Bool). IsSaidIf b check bytes (Err (Unverified.Overlong line))) (sym (lt-ltb MOST_CHECKED (length bytes) over)) (ap (λ n. Err (Unverified.Overlong n)) e)

said_of_parts : (turns moves : ℕ) (bytes : List ℕ) (o : Option (List ℕ × List ℕ)) (v : Verification) → length bytes ≤ MOST_CHECKED → parted bytes ≡ o →
    IsSaidOfParts o bytes turns moves v → IsSaidOf (TraceCheck.Run turns moves) bytes v
said_of_parts turns moves bytes o v within e h =
    said_short (TraceCheck.Run turns moves) bytes v within (subst (λ (x : Option (List ℕ × List ℕ)). IsSaidOfParts x bytes turns moves v) (sym e) h)

said_of_trace : (turns moves : ℕ) (bytes : List ℕ) (t : HasTrace bytes) (r : Result ℕ TraceRefusal) → IsJudged (run t.scenario turns moves) t.trace r → IsSaidOf (TraceCheck.Run turns moves) bytes (said_of_run r)
said_of_trace turns moves bytes t r h =
    said_of_parts turns moves bytes (Some (t.text, t.trace)) (said_of_run r) t.within t.parts
    (subst (λ (x : Result Scenario Place). IsSaidOfScenario x turns moves t.trace (said_of_run r)) (sym (spelt_is_judged t.scenario t.text t.spells t.well_formed)) (r, h, refl))

said_of_refusal : (turns moves : ℕ) (bytes : List ℕ) (p : List ℕ × List ℕ) (at : Place) → length bytes ≤ MOST_CHECKED → parted bytes ≡ Some p → IsRefusedAt p.0 at →
    IsSaidOf (TraceCheck.Run turns moves) bytes (Err (Unverified.Refused at))
said_of_refusal turns moves bytes p at within parts h =
    said_of_parts turns moves bytes (Some p) (Err (Unverified.Refused at)) within parts
    (subst (λ (x : Result Scenario Place). IsSaidOfScenario x turns moves p.1 (Err (Unverified.Refused at))) (sym (placed_is_refused p.0 at h)) refl)

passing_is_said : (check : TraceCheck) (bytes : List ℕ) (lines : ℕ) → Passes check bytes lines → IsSaidOf check bytes (Ok lines)
passing_is_said (TraceCheck.Run turns moves) bytes lines h = said_of_trace turns moves bytes h.0 (Ok lines) h.1
passing_is_said TraceCheck.Laws bytes lines h = said_short TraceCheck.Laws bytes (Ok lines) h.0 (Ok lines, h.1, refl)

-- a check that fails, or an input that is refused, is said to be so, and its answer is that of it
record Says (check : TraceCheck) (bytes : List ℕ) (why : Unverified) : Type 0 where
  said : IsSaidOf check bytes (Err why)
  answered : IsAnswerWhere (Err why) (unverified why)

failing_is_said : (check : TraceCheck) (bytes : List ℕ) (why : Unverified) → Fails check bytes why → Says check bytes why
failing_is_said (TraceCheck.Run turns moves) bytes (Unverified.Wrong line cause) h =
    record { said = said_of_trace turns moves bytes h.0 (Err (TraceRefusal.Wrong line cause)) h.1; answered = refl }
failing_is_said (TraceCheck.Run turns moves) bytes (Unverified.Lawless line law) h = absurd h
failing_is_said (TraceCheck.Run turns moves) bytes (Unverified.Overlong line) h = absurd h
failing_is_said (TraceCheck.Run turns moves) bytes (Unverified.Unmarked line) h = absurd h
failing_is_said (TraceCheck.Run turns moves) bytes (Unverified.Refused at) h = absurd h
failing_is_said (TraceCheck.Run turns moves) bytes Unverified.Memory h = absurd h
failing_is_said TraceCheck.Laws bytes (Unverified.Wrong line Cause.NotALine) h =
    record { said = said_short TraceCheck.Laws bytes (Err (Unverified.Wrong line Cause.NotALine)) h.0 (Err (LawlessTrace.NotALine line), h.1, refl); answered = refl }
failing_is_said TraceCheck.Laws bytes (Unverified.Wrong line Cause.OtherLine) h = absurd h
failing_is_said TraceCheck.Laws bytes (Unverified.Wrong line Cause.NotLegal) h = absurd h
failing_is_said TraceCheck.Laws bytes (Unverified.Wrong line Cause.TooShort) h = absurd h
failing_is_said TraceCheck.Laws bytes (Unverified.Wrong line Cause.PastEnd) h = absurd h
failing_is_said TraceCheck.Laws bytes (Unverified.Lawless line law) h =
    record { said = said_short TraceCheck.Laws bytes (Err (Unverified.Lawless line law)) h.0 (Err (LawlessTrace.Broken line law), h.1, refl); answered = refl }
failing_is_said TraceCheck.Laws bytes (Unverified.Overlong line) h = absurd h
failing_is_said TraceCheck.Laws bytes (Unverified.Unmarked line) h = absurd h
failing_is_said TraceCheck.Laws bytes (Unverified.Refused at) h = absurd h
failing_is_said TraceCheck.Laws bytes Unverified.Memory h = absurd h

refusal_is_said : (check : TraceCheck) (bytes : List ℕ) (why : Unverified) → Refuses check bytes why → Says check bytes why
refusal_is_said (TraceCheck.Run turns moves) bytes (Unverified.Overlong line) h = record { said = said_long (TraceCheck.Run turns moves) bytes line h.0 h.1; answered = refl }
refusal_is_said (TraceCheck.Run turns moves) bytes (Unverified.Unmarked line) h =
    record { said = said_of_parts turns moves bytes None (Err (Unverified.Unmarked line)) h.0 h.1 (ap (λ n. Err (Unverified.Unmarked n)) h.2); answered = refl }
refusal_is_said (TraceCheck.Run turns moves) bytes (Unverified.Refused at) h =
    record { said = said_of_refusal turns moves bytes h.1.0 at h.0 h.1.1 h.1.2; answered = refl }
refusal_is_said (TraceCheck.Run turns moves) bytes (Unverified.Wrong line cause) h = absurd h
refusal_is_said (TraceCheck.Run turns moves) bytes (Unverified.Lawless line law) h = absurd h
refusal_is_said (TraceCheck.Run turns moves) bytes Unverified.Memory h = absurd h
refusal_is_said TraceCheck.Laws bytes (Unverified.Overlong line) h = record { said = said_long TraceCheck.Laws bytes line h.0 h.1; answered = refl }
refusal_is_said TraceCheck.Laws bytes (Unverified.Unmarked line) h = absurd h
refusal_is_said TraceCheck.Laws bytes (Unverified.Refused at) h = absurd h
refusal_is_said TraceCheck.Laws bytes (Unverified.Wrong line cause) h = absurd h
refusal_is_said TraceCheck.Laws bytes (Unverified.Lawless line law) h = absurd h
refusal_is_said TraceCheck.Laws bytes Unverified.Memory h = absurd h

-- ---- the answer

-- an answer of the check is that of something that is said
pub answer_is_said : (check : TraceCheck) (bytes : List ℕ) (a : Answer) → IsCheckAnswer check bytes a → (v : Verification) × IsSaidOf check bytes v × IsAnswerWhere v a
unfolding IsCheckAnswer
answer_is_said check bytes a (inl h) = (Ok h.0, passing_is_said check bytes h.0 h.1, h.2)
answer_is_said check bytes a (inr h) =
    let s : Says check bytes h.0 = by h.1 in (Err h.0, s.said, subst (IsAnswerWhere (Err h.0)) (sym h.2) s.answered)
  where
    by : Fails check bytes h.0 ⊎ Refuses check bytes h.0 → Says check bytes h.0
    by (inl f) = failing_is_said check bytes h.0 f
    by (inr r) = refusal_is_said check bytes h.0 r

-- and what is said has its answer
pub said_is_answer : (check : TraceCheck) (bytes : List ℕ) (v : Verification) (a : Answer) → IsSaidOf check bytes v → IsAnswerWhere v a → IsCheckAnswer check bytes a
unfolding IsCheckAnswer
said_is_answer check bytes (Ok lines) a said is = inl (lines, told check bytes (Ok lines) said, is)
said_is_answer check bytes (Err (Unverified.Overlong line)) a said is =
    inr (Unverified.Overlong line, inr (told check bytes (Err (Unverified.Overlong line)) said), is)
said_is_answer check bytes (Err (Unverified.Unmarked line)) a said is =
    inr (Unverified.Unmarked line, inr (told check bytes (Err (Unverified.Unmarked line)) said), is)
said_is_answer check bytes (Err (Unverified.Refused at)) a said is = inr (Unverified.Refused at, inr (told check bytes (Err (Unverified.Refused at)) said), is)
said_is_answer check bytes (Err (Unverified.Wrong line cause)) a said is =
    inr (Unverified.Wrong line cause, inl (told check bytes (Err (Unverified.Wrong line cause)) said), is)
said_is_answer check bytes (Err (Unverified.Lawless line law)) a said is =
    inr (Unverified.Lawless line law, inl (told check bytes (Err (Unverified.Lawless line law)) said), is)
said_is_answer check bytes (Err Unverified.Memory) a said is = absurd is
