-- What a check says is right, and is the one thing that is.
use Rattle.std.proofs.Common.{◌≡◌, ◌∙◌, ◌≤◌, ◌<◌, ◌+◌, ◌-◌, ℕ, nat_lt, Bool, true, false, List, drop, length, take, Option, Some, None, Result, Ok, Err, refl, ap, sym, subst, arith, lt-ltb}
use Rattle.std.proofs.lemmas.Bool.{le-ltb}
use Rattle.std.proofs.lemmas.List.{drop-drop, length-drop}
use Rattle.std.proofs.Math.ListN.{drop_of_length-le}
use Rattle.std.proofs.Math.Seq.{take-length}
use Rattle.command_words.specs.declared.command.TraceCheck.{TraceCheck}
use Rattle.scenario_tree.specs.declared.tree.Scenario.{Scenario}
use Rattle.scenario_grammar.specs.declared.place.Place.{Place}
use Rattle.scenario_lang.specs.declared.text.ParseRefusal.{ParseRefusal}
use Rattle.scenario_lang.specs.declared.text.ParseRefusal.TheVariants as parse
use Rattle.scenario_lang.specs.Lines.{Parses}
use Rattle.machine.specs.Run.{run}
use Rattle.trace_laws.specs.Answers.{IsJudged, IsSameAnswer, IsJudgedLawful, IsSameLawful}
use Rattle.trace_laws.specs.declared.lawful.LawlessTrace.{LawlessTrace}
use Rattle.trace_laws.specs.declared.refusal.TraceRefusal.{TraceRefusal}
use Rattle.trace_laws.specs.Places.{parts_at}
use Rattle.scenario_grammar.specs.Place.{line_at}
use Rattle.scenario_reading.specs.Judged.{IsRefusedWithReason, judged_text}
use Rattle.trace_check.specs.Inputs.{end_line}
use Rattle.trace_check.specs.declared.inputs.TheConstants.{MOST_CHECKED}
use Rattle.trace_check.specs.Said.{IsReasoned, IsSaid, IsSaidIf, IsSaidOf, IsSaidOfParts, IsSaidOfScenario, IsSaidOfTrace, IsSame, Verification, said_of_laws, said_of_run, said_of_text}
use Rattle.trace_check.specs.declared.verifying.Unverified.{Unverified}

same : (v w : Verification) → v ≡ w → IsSame v w
same v w e = λ f g. e

-- anything is the same as want of memory
pub same_memory : (v : Verification) → IsSame v (Err Unverified.Memory)
same_memory v = λ f g. absurd (g refl)

said : (P : Verification → Type 0) (v : Verification) → P v → IsSaid P v
said P v h = λ g. h

-- ---- the laws

same_of_laws : (j r : Result ℕ LawlessTrace) → IsSameLawful j r → IsSame (said_of_laws j) (said_of_laws r)
same_of_laws (Err LawlessTrace.Memory) r h = λ f g. absurd (f refl)
same_of_laws (Ok n) (Err LawlessTrace.Memory) h = same_memory _
same_of_laws (Err (LawlessTrace.NotALine line)) (Err LawlessTrace.Memory) h = same_memory _
same_of_laws (Err (LawlessTrace.Broken line law)) (Err LawlessTrace.Memory) h = same_memory _
same_of_laws (Ok n) (Ok m) h = same _ _ (ap said_of_laws h)
same_of_laws (Ok n) (Err (LawlessTrace.NotALine line)) h = same _ _ (ap said_of_laws h)
same_of_laws (Ok n) (Err (LawlessTrace.Broken line law)) h = same _ _ (ap said_of_laws h)
same_of_laws (Err (LawlessTrace.NotALine k)) (Ok m) h = same _ _ (ap said_of_laws h)
same_of_laws (Err (LawlessTrace.NotALine k)) (Err (LawlessTrace.NotALine line)) h = same _ _ (ap said_of_laws h)
same_of_laws (Err (LawlessTrace.NotALine k)) (Err (LawlessTrace.Broken line law)) h = same _ _ (ap said_of_laws h)
same_of_laws (Err (LawlessTrace.Broken k l)) (Ok m) h = same _ _ (ap said_of_laws h)
same_of_laws (Err (LawlessTrace.Broken k l)) (Err (LawlessTrace.NotALine line)) h = same _ _ (ap said_of_laws h)
same_of_laws (Err (LawlessTrace.Broken k l)) (Err (LawlessTrace.Broken line law)) h = same _ _ (ap said_of_laws h)

pub only_of_laws : (trace : List ℕ) (r : Result ℕ LawlessTrace) (v : Verification) → v ≡ said_of_laws r → ((right : Result ℕ LawlessTrace) → IsJudgedLawful trace right → IsSameLawful right r)
    → (right : Verification) → IsSaidOfTrace trace right → IsSame right v
only_of_laws trace r v e only right h =
    subst (λ x. IsSame x v) (sym h.2) (subst (IsSame (said_of_laws h.0)) (sym e) (same_of_laws h.0 r (only h.0 h.1)))

-- ---- the run

same_of_run : (j r : Result ℕ TraceRefusal) → IsSameAnswer j r → IsSame (said_of_run j) (said_of_run r)
same_of_run (Err TraceRefusal.Memory) r h = λ f g. absurd (f refl)
same_of_run (Ok n) (Err TraceRefusal.Memory) h = same_memory _
same_of_run (Err (TraceRefusal.Wrong line cause)) (Err TraceRefusal.Memory) h = same_memory _
same_of_run (Ok n) (Ok m) h = same _ _ (ap said_of_run h)
same_of_run (Ok n) (Err (TraceRefusal.Wrong line cause)) h = same _ _ (ap said_of_run h)
same_of_run (Err (TraceRefusal.Wrong k c)) (Ok m) h = same _ _ (ap said_of_run h)
same_of_run (Err (TraceRefusal.Wrong k c)) (Err (TraceRefusal.Wrong line cause)) h = same _ _ (ap said_of_run h)

pub only_of_run : (s : Scenario) (turns moves : ℕ) (trace : List ℕ) (r : Result ℕ TraceRefusal) (v : Verification) → v ≡ said_of_run r
    → ((right : Result ℕ TraceRefusal) → IsJudged (run s turns moves) trace right → IsSameAnswer right r)
    → (right : Verification) → IsSaidOfScenario (Ok s) turns moves trace right → IsSame right v
only_of_run s turns moves trace r v e only right h =
    subst (λ x. IsSame x v) (sym h.2) (subst (IsSame (said_of_run h.0)) (sym e) (same_of_run h.0 r (only h.0 h.1)))

-- ---- the text

abbrev pub Says : Result Scenario Place → ℕ → ℕ → List ℕ → Verification → Type 0
Says judged turns moves trace v = IsSaid (IsSaidOfScenario judged turns moves trace) v

-- what is said of a scenario is said of the text that is judged to spell it
pub said_as : (judged : Result Scenario Place) (s : Scenario) (turns moves : ℕ) (trace : List ℕ) (v : Verification) → judged ≡ Ok s → IsSaidOfScenario (Ok s) turns moves trace v
    → Says judged turns moves trace v
said_as judged s turns moves trace v e h = subst (λ j. Says j turns moves trace v) (sym e) (said (IsSaidOfScenario (Ok s) turns moves trace) v h)

pub only_as : (judged : Result Scenario Place) (s : Scenario) (turns moves : ℕ) (trace : List ℕ) (v : Verification) → judged ≡ Ok s
    → ((right : Verification) → IsSaidOfScenario (Ok s) turns moves trace right → IsSame right v)
    → (right : Verification) → IsSaidOfScenario judged turns moves trace right → IsSame right v
only_as judged s turns moves trace v e only right h = only right (subst (λ j. IsSaidOfScenario j turns moves trace right) e h)

pub refused_as : (judged : Result Scenario Place) (e : ParseRefusal) (u : Unverified) (turns moves : ℕ) (trace : List ℕ) → u ≡ said_of_text e → Parses judged (Err e)
    → Says judged turns moves trace (Err u)
refused_as judged e u turns moves trace is h = subst (λ x. Says judged turns moves trace (Err x)) (sym is) (by e h)
  where
    by : (e : ParseRefusal) → Parses judged (Err e) → Says judged turns moves trace (Err (said_of_text e))
    by (parse.Refused p) h = subst (λ j. Says j turns moves trace (Err (Unverified.Refused p))) (sym h) (λ g. refl)
    by parse.Memory h = λ g. absurd (g refl)

pub only_refused : (judged : Result Scenario Place) (e : ParseRefusal) (u : Unverified) (turns moves : ℕ) (trace : List ℕ) → u ≡ said_of_text e → Parses judged (Err e)
    → (right : Verification) → IsSaidOfScenario judged turns moves trace right → IsSame right (Err u)
only_refused judged e u turns moves trace is h right r = subst (λ x. IsSame right (Err x)) (sym is) (by e h)
  where
    by : (e : ParseRefusal) → Parses judged (Err e) → IsSame right (Err (said_of_text e))
    by (parse.Refused p) h = same right (Err (Unverified.Refused p)) (subst (λ j. IsSaidOfScenario j turns moves trace right) h r)
    by parse.Memory h = same_memory right

-- a refusal of a text has a reason
pub refusal_reasoned : (e : ParseRefusal) (u : Unverified) → u ≡ said_of_text e → IsRefusedWithReason e → IsReasoned u
refusal_reasoned e u is h = subst IsReasoned (sym is) (by e h)
  where
    by : (e : ParseRefusal) → IsRefusedWithReason e → IsReasoned (said_of_text e)
    by (parse.Refused p) h = h
    by parse.Memory h = tt

-- ---- the parts

pub unmarked_as : (o : Option (List ℕ × List ℕ)) (bytes : List ℕ) (turns moves n : ℕ) → o ≡ None → n ≡ end_line bytes
    → IsSaid (IsSaidOfParts o bytes turns moves) (Err (Unverified.Unmarked n))
unmarked_as o bytes turns moves n e last = subst (λ p. IsSaid (IsSaidOfParts p bytes turns moves) (Err (Unverified.Unmarked n))) (sym e) (λ g. ap (λ k. Err (Unverified.Unmarked k)) last)

pub only_unmarked : (o : Option (List ℕ × List ℕ)) (bytes : List ℕ) (turns moves n : ℕ) → o ≡ None → n ≡ end_line bytes
    → (right : Verification) → IsSaidOfParts o bytes turns moves right → IsSame right (Err (Unverified.Unmarked n))
only_unmarked o bytes turns moves n e last right h =
    same right (Err (Unverified.Unmarked n)) (subst (λ p. IsSaidOfParts p bytes turns moves right) e h ∙ ap (λ k. Err (Unverified.Unmarked k)) (sym last))

parts_are : (o : Option (List ℕ × List ℕ)) (bytes text trace : List ℕ) (place : ℕ) → o ≡ Some (parts_at bytes place) → text ≡ take place bytes → trace ≡ drop 5 (drop place bytes)
    → o ≡ Some (text, trace)
parts_are o bytes text trace place marked text_is trace_is =
    let P : List ℕ → Type 0 = λ t. o ≡ Some (t, drop 5 (drop place bytes)) in
    let Q : List ℕ → Type 0 = λ t. o ≡ Some (text, t) in
    subst Q (sym trace_is) (subst P (sym text_is) marked)

pub marked_as : (o : Option (List ℕ × List ℕ)) (bytes text trace : List ℕ) (place turns moves : ℕ) (v : Verification)
    → o ≡ Some (parts_at bytes place) → text ≡ take place bytes → trace ≡ drop 5 (drop place bytes) → Says (judged_text text) turns moves trace v
    → IsSaid (IsSaidOfParts o bytes turns moves) v
marked_as o bytes text trace place turns moves v marked text_is trace_is h =
    subst (λ p. IsSaid (IsSaidOfParts p bytes turns moves) v) (sym (parts_are o bytes text trace place marked text_is trace_is)) h

pub only_marked : (o : Option (List ℕ × List ℕ)) (bytes text trace : List ℕ) (place turns moves : ℕ) (v : Verification)
    → o ≡ Some (parts_at bytes place) → text ≡ take place bytes → trace ≡ drop 5 (drop place bytes)
    → ((right : Verification) → IsSaidOfScenario (judged_text text) turns moves trace right → IsSame right v)
    → (right : Verification) → IsSaidOfParts o bytes turns moves right → IsSame right v
only_marked o bytes text trace place turns moves v marked text_is trace_is only right h =
    only right (subst (λ p. IsSaidOfParts p bytes turns moves right) (parts_are o bytes text trace place marked text_is trace_is) h)

-- ---- the input

is_long : (bytes : List ℕ) → MOST_CHECKED < length bytes → nat_lt MOST_CHECKED (length bytes) ≡ true
is_long bytes long = lt-ltb MOST_CHECKED (length bytes) long

is_short : (bytes : List ℕ) → length bytes ≤ MOST_CHECKED → nat_lt MOST_CHECKED (length bytes) ≡ false
is_short bytes short = le-ltb MOST_CHECKED (length bytes) short

-- what is said of an input is what is said of one that is so long
said_of : (is_long : Bool) (check : TraceCheck) (bytes : List ℕ) (v : Verification) → nat_lt MOST_CHECKED (length bytes) ≡ is_long
    → IsSaid (IsSaidIf is_long check bytes) v → IsSaid (IsSaidOf check bytes) v
unfolding IsSaidOf
said_of is_long check bytes v e h = subst (λ b. IsSaid (IsSaidIf b check bytes) v) (sym e) h

only_of : (is_long : Bool) (check : TraceCheck) (bytes : List ℕ) (v : Verification) → nat_lt MOST_CHECKED (length bytes) ≡ is_long
    → ((right : Verification) → IsSaidIf is_long check bytes right → IsSame right v)
    → (right : Verification) → IsSaidOf check bytes right → IsSame right v
unfolding IsSaidOf
only_of is_long check bytes v e only right h = only right (subst (λ b. IsSaidIf b check bytes right) e h)

pub said_of_short : (check : TraceCheck) (bytes : List ℕ) (v : Verification) → length bytes ≤ MOST_CHECKED → IsSaid (IsSaidIf false check bytes) v → IsSaid (IsSaidOf check bytes) v
said_of_short check bytes v short h = said_of false check bytes v (is_short bytes short) h

pub only_of_short : (check : TraceCheck) (bytes : List ℕ) (v : Verification) → length bytes ≤ MOST_CHECKED
    → ((right : Verification) → IsSaidIf false check bytes right → IsSame right v)
    → (right : Verification) → IsSaidOf check bytes right → IsSame right v
only_of_short check bytes v short only right h = only_of false check bytes v (is_short bytes short) only right h

pub said_of_long : (check : TraceCheck) (bytes : List ℕ) (n : ℕ) → MOST_CHECKED < length bytes → n ≡ line_at MOST_CHECKED bytes
    → IsSaid (IsSaidOf check bytes) (Err (Unverified.Overlong n))
said_of_long check bytes n long line = said_of true check bytes (Err (Unverified.Overlong n)) (is_long bytes long) (λ g. ap (λ k. Err (Unverified.Overlong k)) line)

pub only_of_long : (check : TraceCheck) (bytes : List ℕ) (n : ℕ) → MOST_CHECKED < length bytes → n ≡ line_at MOST_CHECKED bytes
    → (right : Verification) → IsSaidOf check bytes right → IsSame right (Err (Unverified.Overlong n))
only_of_long check bytes n long line right h =
    only_of true check bytes (Err (Unverified.Overlong n)) (is_long bytes long)
    (λ right said. same right (Err (Unverified.Overlong n)) (said ∙ ap (λ k. Err (Unverified.Overlong k)) (sym line))) right h

-- ---- behind the line of four equals signs

-- the line is the last one, and has no line feed
pub behind_last : (bytes : List ℕ) (place : ℕ) → place + 4 ≤ length bytes → length bytes < place + 5
    → take (length bytes - length bytes) (drop (length bytes) bytes) ≡ drop 5 (drop place bytes)
behind_last bytes place within short =
    let none : length bytes - length bytes ≡ 0 = omega arith in
    ap (λ k. take k (drop (length bytes) bytes)) none ∙ sym (drop_of_length-le (drop place bytes) {i = 5} (omega (arith, length-drop place bytes, short)))

pub behind_line : (bytes : List ℕ) (place : ℕ) → take (length bytes - (place + 5)) (drop (place + 5) bytes) ≡ drop 5 (drop place bytes)
behind_line bytes place =
    ap (λ k. take k (drop (place + 5) bytes)) (sym (length-drop (place + 5) bytes)) ∙ take-length (drop (place + 5) bytes) ∙ sym (drop-drop 5 place bytes)
