-- What is kept of lines, and the laws that they break with one line more.
use Rattle.std.proofs.Common.{cond, ◌≡◌, ◌≢◌, refl, ap, sym, ◌∙◌, subst, ℕ, suc, ◌+◌, ◌≤◌, Bool, true, false, not, ◌&&◌, ◌||◌, nat_lt, nat_le, nat_eq, inl, inr, List, [], ◌∷◌, ◌++◌, Option, Some, None, is_none, is_some, count_by, find, arith}
use Rattle.std.specs.Prelude.{◌==◌, Ok, Err}
use Rattle.std.specs.HashMap.{get}
use Rattle.std.specs.HashSet as set
use Rattle.std.specs.List.{list_any}
use Rattle.std.proofs.lemmas.Bool.{and_parts, cases_eq, cases_lt}
use Rattle.std.proofs.lemmas.Bool.Decides.{nat_tests}
use Rattle.std.proofs.lemmas.List.Sums.{sum_by-cons}
use Rattle.gv_values.specs.declared.job.Answer.{Answer}
use Rattle.gv_values.specs.declared.job.JobOutcome.{JobOutcome}
use Rattle.world_rules.specs.Evaluate.{eval}
use Rattle.trace_text.specs.declared.line.Line.{Line}
use Rattle.machine.specs.TraceLaws.{each_line, ends_once, gives_outcome, greenlet_of, is_done_line, is_end_of, is_job_line, is_link_line, is_of, is_park, is_some_number, jobs_done_once, last_moment_of, links_after_end, meets_laws, moments_rise, none_ended, nothing_after_end, outcome_eq, throws_at_parked}
use Rattle.trace_laws.specs.declared.laws.JobNote.{JobNote}
use Rattle.trace_laws.specs.declared.laws.LawRefusal.{LawRefusal}
use Rattle.trace_laws.specs.declared.laws.Laws.{Laws}
use Rattle.trace_laws.specs.declared.laws.GreenletStage.{GreenletStage}
use Rattle.trace_laws.specs.Kept.{IsJudgedBy, IsJudgedNext, KeepsMore, KeepsSame, StandsFor, as_done, backwards, breaks_if, is_due, is_stage_ended, is_moving, kept_break, kept_stage, link_after, moment_after, note_after, note_of, or_other, stage_by, stage_if, stage_of, was_done}
use Rattle.trace_laws.specs.Lawful.{broken_law, first_false}

-- ---- tests

and_true : (b : Bool) → (b && true) ≡ b
and_true true = refl
and_true false = refl

and_false : (b : Bool) → (b && false) ≡ false
and_false true = refl
and_false false = refl

and_assoc : (a b c : Bool) → (a && (b && c)) ≡ ((a && b) && c)
and_assoc true b c = refl
and_assoc false b c = refl

not_true : (b : Bool) → not b ≡ true → b ≡ false
not_true true h = absurd (let z : ⊥ = cc h in z)
not_true false h = refl

same_test : (m n : ℕ) → nat_eq m n ≡ nat_eq n m
same_test m n = grind (arith, nat_tests)

le_not_lt : (m n : ℕ) → nat_le m n ≡ not (nat_lt n m)
le_not_lt m n = elim (cases_lt n m) [
  | inl less ↦ grind (arith, nat_tests)
  | inr most ↦ grind (arith, nat_tests)
]

-- ---- one line more

each_last : (test : List Line → Line → Bool) (before lines : List Line) (l : Line) → each_line test before (lines ++ l ∷ []) ≡ (each_line test before lines && test (backwards before lines) l)
each_last test before [] l = and_true (test before l)
each_last test before (x ∷ lines) l = ap (λ b. test before x && b) (each_last test (x ∷ before) lines l) ∙ and_assoc (test before x) (each_line test (x ∷ before) lines) (test (backwards (x ∷ before) lines) l)

backwards_last : (before lines : List Line) (l : Line) → backwards before (lines ++ l ∷ []) ≡ l ∷ backwards before lines
backwards_last before [] l = refl
backwards_last before (x ∷ lines) l = backwards_last (x ∷ before) lines l

-- six tests
record AllTrue (a b c d e f : Bool) : Type 0 where
  first : a ≡ true
  second : b ≡ true
  third : c ≡ true
  fourth : d ≡ true
  fifth : e ≡ true
  sixth : f ≡ true

all_true : (a b c d e f : Bool) → first_false a b c d e f ≡ None → AllTrue a b c d e f
all_true false b c d e f h = absurd (let z : ⊥ = cc h in z)
all_true true false c d e f h = absurd (let z : ⊥ = cc h in z)
all_true true true false d e f h = absurd (let z : ⊥ = cc h in z)
all_true true true true false e f h = absurd (let z : ⊥ = cc h in z)
all_true true true true true false f h = absurd (let z : ⊥ = cc h in z)
all_true true true true true true false h = absurd (let z : ⊥ = cc h in z)
all_true true true true true true true h = record { first = refl; second = refl; third = refl; fourth = refl; fifth = refl; sixth = refl }

-- the laws that the next line keeps
abbrev next_law : List Line → Line → Option ℕ
next_law before l =
    first_false (ends_once before l) (nothing_after_end before l) (throws_at_parked before l) (links_after_end before l) (moments_rise before l) (jobs_done_once before l)

one_law : (test : List Line → Line → Bool) (lines : List Line) (l : Line) → each_line test [] lines ≡ true → each_line test [] (lines ++ l ∷ []) ≡ test (backwards [] lines) l
one_law test lines l h = each_last test [] lines l ∙ ap (λ b. b && test (backwards [] lines) l) h

same_six : (a b c d e f p q r s t u : Bool) → a ≡ p → b ≡ q → c ≡ r → d ≡ s → e ≡ t → f ≡ u → first_false a b c d e f ≡ first_false p q r s t u
same_six a b c d e f p q r s t u h i j k l m = cc

law_last : (lines : List Line) (l : Line) → broken_law lines ≡ None → broken_law (lines ++ l ∷ []) ≡ next_law (backwards [] lines) l
law_last lines l h =
    let t = all_true _ _ _ _ _ _ h in
    same_six _ _ _ _ _ _ _ _ _ _ _ _ (one_law ends_once lines l t.first) (one_law nothing_after_end lines l t.second) (one_law throws_at_parked lines l t.third)
    (one_law links_after_end lines l t.fourth) (one_law moments_rise lines l t.fifth) (one_law jobs_done_once lines l t.sixth)

-- ---- the first line of a kind, and how many there are

abbrev IsCounted : (Line → Bool) → Option Line → ℕ → Type 0
IsCounted test None n = n ≡ 0
IsCounted test (Some l) n = (test l ≡ true) × (1 ≤ n)

count_next : (test : Line → Bool) (l : Line) (before : List Line) → count_by test (l ∷ before) ≡ (cond (test l) 1 0) + count_by test before
count_next test l before = sum_by-cons (λ y. cond (test y) 1 0) l before

count_other : (test : Line → Bool) (l : Line) (before : List Line) → test l ≡ false → count_by test (l ∷ before) ≡ count_by test before
count_other test l before not_so = count_next test l before ∙ ap (λ b. cond b 1 0 + count_by test before) not_so ∙ omega arith

count_one : (test : Line → Bool) (l : Line) (before : List Line) → test l ≡ true → count_by test (l ∷ before) ≡ suc (count_by test before)
count_one test l before is_so = count_next test l before ∙ ap (λ b. cond b 1 0 + count_by test before) is_so ∙ omega arith

counted : (test : Line → Bool) (before : List Line) → IsCounted test (find test before) (count_by test before)
counted test [] = refl
counted test (l ∷ before) = by (test l) refl (counted test before)
  where
    by : (b : Bool) → test l ≡ b → IsCounted test (find test before) (count_by test before) → IsCounted test (cond b (Some l) (find test before)) (count_by test (l ∷ before))
    by true is_so h = (is_so, omega (arith, count_one test l before is_so))
    by false not_so h = subst (λ n. IsCounted test (find test before) n) (sym (count_other test l before not_so)) h

-- ---- the law that the next line breaks

-- the same, over the lines before, the latest first
record Over (laws : Laws) (before : List Line) : Type 0 where
  stages : (g : ℕ) → kept_stage laws g ≡ stage_by (find (is_of g) before)
  ends : (g : ℕ) → is_stage_ended (kept_stage laws g) ≡ list_any (is_end_of g) before
  links : (k : ℕ) → set.contains nat_eq laws.links k ≡ list_any (is_link_line k) before
  moment : laws.moment ≡ last_moment_of before
  undone : (j : ℕ) → find (is_job_line j) before ≡ None → list_any (is_done_line j) before ≡ false
  jobs : (j : ℕ) → get nat_eq laws.jobs j ≡ note_of (find (is_job_line j) before) (nat_lt 1 (count_by (is_job_line j) before)) (list_any (is_done_line j) before)

over : (laws : Laws) (lines : List Line) → StandsFor laws lines → Over laws (backwards [] lines)
over laws lines s = record { stages = s.stages; ends = s.ends; links = s.links; moment = s.moment; undone = s.undone; jobs = s.jobs }

breaks_second : (b : Bool) → first_false true (not b) true true true true ≡ breaks_if 2 b
breaks_second true = refl
breaks_second false = refl

breaks_first : (b : Bool) → first_false (not b) (not b) true true true true ≡ breaks_if 1 b
breaks_first true = refl
breaks_first false = refl

breaks_third : (o : Option Line) → first_false true (not (is_stage_ended (stage_by o))) (is_park o) true true true ≡ or_other (breaks_if 2 (is_stage_ended (stage_by o))) (breaks_if 3 (is_moving (stage_by o)))
breaks_third None = refl
breaks_third (Some (Line.Start g name)) = refl
breaks_third (Some (Line.Print g v)) = refl
breaks_third (Some (Line.Park g w until)) = refl
breaks_third (Some (Line.Resume g by)) = refl
breaks_third (Some (Line.Throw g f)) = refl
breaks_third (Some (Line.Into g o)) = refl
breaks_third (Some (Line.End g o)) = refl
breaks_third (Some (Line.Link k g call)) = refl
breaks_third (Some (Line.Job j g job)) = refl
breaks_third (Some (Line.Block b)) = refl
breaks_third (Some (Line.Turn k answer)) = refl
breaks_third (Some (Line.Stop cause turns moves)) = refl

breaks_fourth : (a b : Bool) → first_false true true true (a && not b) true true ≡ breaks_if 4 (not a || b)
breaks_fourth true true = refl
breaks_fourth true false = refl
breaks_fourth false b = refl

breaks_fifth : (a : Bool) → first_false true true true true (not a) true ≡ or_other (breaks_if 5 a) None
breaks_fifth true = refl
breaks_fifth false = refl

breaks_sixth : (a b : Bool) → first_false true true true true (not a) b ≡ or_other (breaks_if 5 a) (breaks_if 6 (not b))
breaks_sixth true b = refl
breaks_sixth false true = refl
breaks_sixth false false = refl

one_by : (n : ℕ) → 1 ≤ n → (n == 1) ≡ not (nat_lt 1 n)
one_by n h = grind (arith, nat_tests, h)

due_by : (o : JobOutcome) (j n : ℕ) (d : Bool) (f : Option Line) → IsCounted (is_job_line j) f n → ((n == 1) && not d && gives_outcome o f) ≡ is_due o (note_of f (nat_lt 1 n) d)
due_by o j n d None h = and_false ((n == 1) && not d)
due_by o j n d (Some (Line.Job i g job)) h = ap (λ b. b && not d && outcome_eq o (eval job)) (one_by n h.1)
due_by o j n d (Some (Line.Start g name)) h = absurd (let z : ⊥ = cc (h.0) in z)
due_by o j n d (Some (Line.Print g v)) h = absurd (let z : ⊥ = cc (h.0) in z)
due_by o j n d (Some (Line.Park g w until)) h = absurd (let z : ⊥ = cc (h.0) in z)
due_by o j n d (Some (Line.Resume g by)) h = absurd (let z : ⊥ = cc (h.0) in z)
due_by o j n d (Some (Line.Throw g f)) h = absurd (let z : ⊥ = cc (h.0) in z)
due_by o j n d (Some (Line.Into g out)) h = absurd (let z : ⊥ = cc (h.0) in z)
due_by o j n d (Some (Line.End g out)) h = absurd (let z : ⊥ = cc (h.0) in z)
due_by o j n d (Some (Line.Link k g call)) h = absurd (let z : ⊥ = cc (h.0) in z)
due_by o j n d (Some (Line.Block b)) h = absurd (let z : ⊥ = cc (h.0) in z)
due_by o j n d (Some (Line.Turn k answer)) h = absurd (let z : ⊥ = cc (h.0) in z)
due_by o j n d (Some (Line.Stop cause turns moves)) h = absurd (let z : ⊥ = cc (h.0) in z)

rises_by : (t m n : ℕ) → n ≡ m → nat_le m t ≡ not (nat_lt t n)
rises_by t m n same = le_not_lt m t ∙ ap (λ k. not (nat_lt t k)) (sym same)

break_over : (laws : Laws) (before : List Line) (l : Line) → Over laws before → next_law before l ≡ kept_break laws l
break_over laws before (Line.Start g name) s = breaks_second (list_any (is_end_of g) before) ∙ ap (breaks_if 2) (sym (s.ends g))
break_over laws before (Line.Print g v) s = breaks_second (list_any (is_end_of g) before) ∙ ap (breaks_if 2) (sym (s.ends g))
break_over laws before (Line.Park g w until) s = breaks_second (list_any (is_end_of g) before) ∙ ap (breaks_if 2) (sym (s.ends g))
break_over laws before (Line.Resume g by) s = breaks_second (list_any (is_end_of g) before) ∙ ap (breaks_if 2) (sym (s.ends g))
break_over laws before (Line.Into g o) s = breaks_second (list_any (is_end_of g) before) ∙ ap (breaks_if 2) (sym (s.ends g))
break_over laws before (Line.Job j g job) s = breaks_second (list_any (is_end_of g) before) ∙ ap (breaks_if 2) (sym (s.ends g))
break_over laws before (Line.End g o) s = breaks_first (list_any (is_end_of g) before) ∙ ap (breaks_if 1) (sym (s.ends g))
break_over laws before (Line.Throw g f) s =
    let o = find (is_of g) before in
    ap (λ b. first_false true (not b) (is_park o) true true true) (sym (s.ends g) ∙ ap is_stage_ended (s.stages g)) ∙ breaks_third o
    ∙ ap (λ k. or_other (breaks_if 2 (is_stage_ended k)) (breaks_if 3 (is_moving k))) (sym (s.stages g))
break_over laws before (Line.Link k g call) s =
    breaks_fourth (list_any (is_end_of g) before) (list_any (is_link_line k) before) ∙ ap (λ a. breaks_if 4 (not a || list_any (is_link_line k) before)) (sym (s.ends g))
    ∙ ap (λ b. breaks_if 4 (not (is_stage_ended (kept_stage laws g)) || b)) (sym (s.links k))
break_over laws before (Line.Block b) s = refl
break_over laws before (Line.Stop cause turns moves) s = refl
break_over laws before (Line.Turn k (Answer.Elapsed at)) s =
    ap (λ b. first_false true true true true b true) (rises_by at (last_moment_of before) laws.moment s.moment) ∙ breaks_fifth (nat_lt at laws.moment)
break_over laws before (Line.Turn k (Answer.Nothing at)) s =
    ap (λ b. first_false true true true true b true) (rises_by at (last_moment_of before) laws.moment s.moment) ∙ breaks_fifth (nat_lt at laws.moment)
break_over laws before (Line.Turn k (Answer.Done j o at)) s =
    let f = find (is_job_line j) before in
    let n = count_by (is_job_line j) before in
    let d = list_any (is_done_line j) before in
    ap (λ b. first_false true true true true b ((n == 1) && not d && gives_outcome o f)) (rises_by at (last_moment_of before) laws.moment s.moment)
    ∙ breaks_sixth (nat_lt at laws.moment) ((n == 1) && not d && gives_outcome o f)
    ∙ ap (λ b. or_other (breaks_if 5 (nat_lt at laws.moment)) (breaks_if 6 (not b))) (due_by o j n d f (counted (is_job_line j) before) ∙ ap (is_due o) (sym (s.jobs j)))

pub next_break : (laws : Laws) (lines : List Line) (l : Line) → StandsFor laws lines → broken_law (lines ++ l ∷ []) ≡ kept_break laws l
next_break laws lines l s = law_last lines l s.lawful ∙ break_over laws (backwards [] lines) l (over laws lines s)

-- ---- what is kept after it

stands : (laws : Laws) (lines : List Line) (before : List Line) → backwards [] lines ≡ before → laws.broken ≡ None → broken_law lines ≡ None → Over laws before → StandsFor laws lines
stands laws lines before same unbroken lawful o =
    let p : Over laws (backwards [] lines) = subst (Over laws) (sym same) o in
    record { unbroken = unbroken; lawful = lawful; stages = p.stages; ends = p.ends; links = p.links; moment = p.moment; undone = p.undone; jobs = p.jobs }

pub kept_same : (old new : Laws) (lines : List Line) → StandsFor old lines → KeepsSame old new → StandsFor new lines
kept_same old new lines s k =
    record {
      unbroken = k.broken ∙ s.unbroken;
      lawful = s.lawful;
      stages = λ g. k.stages g ∙ s.stages g;
      ends = λ g. ap is_stage_ended (k.stages g) ∙ s.ends g;
      links = λ i. k.links i ∙ s.links i;
      moment = k.moment ∙ s.moment;
      undone = s.undone;
      jobs = λ j. k.jobs j ∙ s.jobs j;
    }

stage_next : (o : Option ℕ) (g : ℕ) (l : Line) (f : Option Line) → stage_if o g (stage_of l) (stage_by f) ≡ stage_by (cond (is_some_number g o) (Some l) f)
stage_next None g l f = refl
stage_next (Some h) g l f = by (nat_eq h g) (nat_eq g h) (same_test h g)
  where
    by : (b c : Bool) → b ≡ c → cond b (stage_of l) (stage_by f) ≡ stage_by (cond c (Some l) f)
    by true true h = refl
    by false false h = refl
    by true false h = absurd (let z : ⊥ = cc h in z)
    by false true h = absurd (let z : ⊥ = cc h in z)

-- the greenlet of the line has not ended
plain_end : (g h : ℕ) (left : GreenletStage) (stage : GreenletStage) (ended : ℕ → Bool) → is_stage_ended left ≡ false → ended h ≡ false → is_stage_ended stage ≡ ended g → is_stage_ended (cond (nat_eq h g) left stage) ≡ ended g
plain_end g h left stage ended not_so still same = elim (cases_eq h g) [
  | inl e ↦ by (nat_eq h g) (sym (ap ended (sym e) ∙ still))
  | inr apart ↦ let other : nat_eq h g ≡ false = grind (arith, nat_tests, apart) in ap (λ b. is_stage_ended (cond b left stage)) other ∙ same
]
  where
    by : (b : Bool) → false ≡ ended g → is_stage_ended (cond b left stage) ≡ ended g
    by true e = not_so ∙ e
    by false e = same

ended_end : (g h : ℕ) (stage : GreenletStage) (b : Bool) → is_stage_ended stage ≡ b → is_stage_ended (cond (nat_eq h g) GreenletStage.Ended stage) ≡ (nat_eq g h || b)
ended_end g h stage b same = by (nat_eq h g) (nat_eq g h) (same_test h g)
  where
    by : (c d : Bool) → c ≡ d → is_stage_ended (cond c GreenletStage.Ended stage) ≡ (d || b)
    by true true h = refl
    by false false h = same
    by true false h = absurd (let z : ⊥ = cc h in z)
    by false true h = absurd (let z : ⊥ = cc h in z)

-- by the second law the greenlet of the line has not_so end line before
still_on : (before : List Line) (l : Line) (h : ℕ) → greenlet_of l ≡ Some h → nothing_after_end before l ≡ true → list_any (is_end_of h) before ≡ false
still_on before l h is passes = not_true (list_any (is_end_of h) before) (sym (ap (none_ended before) is) ∙ passes)

end_next : (before : List Line) (l : Line) (g : ℕ) (stage : GreenletStage) → nothing_after_end before l ≡ true → is_stage_ended stage ≡ list_any (is_end_of g) before → is_stage_ended (stage_if (greenlet_of l) g (stage_of l) stage) ≡ list_any (is_end_of g) (l ∷ before)
end_next before (Line.Start h name) g stage passes same = plain_end g h GreenletStage.Moving stage (λ k. list_any (is_end_of k) before) refl (still_on before (Line.Start h name) h refl passes) same
end_next before (Line.Print h v) g stage passes same = plain_end g h GreenletStage.Moving stage (λ k. list_any (is_end_of k) before) refl (still_on before (Line.Print h v) h refl passes) same
end_next before (Line.Park h w until) g stage passes same = plain_end g h GreenletStage.Parked stage (λ k. list_any (is_end_of k) before) refl (still_on before (Line.Park h w until) h refl passes) same
end_next before (Line.Resume h by) g stage passes same = plain_end g h GreenletStage.Moving stage (λ k. list_any (is_end_of k) before) refl (still_on before (Line.Resume h by) h refl passes) same
end_next before (Line.Throw h f) g stage passes same = plain_end g h GreenletStage.Moving stage (λ k. list_any (is_end_of k) before) refl (still_on before (Line.Throw h f) h refl passes) same
end_next before (Line.Into h o) g stage passes same = plain_end g h GreenletStage.Moving stage (λ k. list_any (is_end_of k) before) refl (still_on before (Line.Into h o) h refl passes) same
end_next before (Line.Job j h job) g stage passes same = plain_end g h GreenletStage.Moving stage (λ k. list_any (is_end_of k) before) refl (still_on before (Line.Job j h job) h refl passes) same
end_next before (Line.End h o) g stage passes same = ended_end g h stage (list_any (is_end_of g) before) same
end_next before (Line.Link k h call) g stage passes same = same
end_next before (Line.Block b) g stage passes same = same
end_next before (Line.Turn k answer) g stage passes same = same
end_next before (Line.Stop cause turns moves) g stage passes same = same

link_next : (before : List Line) (l : Line) (k : ℕ) → link_after l k (list_any (is_link_line k) before) ≡ list_any (is_link_line k) (l ∷ before)
link_next before (Line.Link i h call) k = by (nat_eq i k) (nat_eq k i) (same_test i k) (list_any (is_link_line k) before)
  where
    by : (b c : Bool) → b ≡ c → (d : Bool) → cond b true d ≡ (c || d)
    by true true h d = refl
    by false false h d = refl
    by true false h d = absurd (let z : ⊥ = cc h in z)
    by false true h d = absurd (let z : ⊥ = cc h in z)
link_next before (Line.Start h name) k = refl
link_next before (Line.Print h v) k = refl
link_next before (Line.Park h w until) k = refl
link_next before (Line.Resume h by) k = refl
link_next before (Line.Throw h f) k = refl
link_next before (Line.Into h o) k = refl
link_next before (Line.Job j h job) k = refl
link_next before (Line.End h o) k = refl
link_next before (Line.Block b) k = refl
link_next before (Line.Turn i answer) k = refl
link_next before (Line.Stop cause turns moves) k = refl

moment_next : (before : List Line) (l : Line) → moment_after l (last_moment_of before) ≡ last_moment_of (l ∷ before)
moment_next before (Line.Start h name) = refl
moment_next before (Line.Print h v) = refl
moment_next before (Line.Park h w until) = refl
moment_next before (Line.Resume h by) = refl
moment_next before (Line.Throw h f) = refl
moment_next before (Line.Into h o) = refl
moment_next before (Line.Job j h job) = refl
moment_next before (Line.End h o) = refl
moment_next before (Line.Link k h call) = refl
moment_next before (Line.Block b) = refl
moment_next before (Line.Turn i answer) = refl
moment_next before (Line.Stop cause turns moves) = refl

-- ---- jobs

-- what is known of a job: its last job line, how many there are, and whether its done line has come
record Known (j : ℕ) (f : Option Line) (n : ℕ) (d : Bool) : Type 0 where
  counts : IsCounted (is_job_line j) f n
  undone : f ≡ None → d ≡ false

known : (laws : Laws) (before : List Line) (j : ℕ) → Over laws before → Known j (find (is_job_line j) before) (count_by (is_job_line j) before) (list_any (is_done_line j) before)
known laws before j s = record { counts = counted (is_job_line j) before; undone = s.undone j }

again_by : (n : ℕ) → 1 ≤ n → true ≡ nat_lt 1 (suc n)
again_by n h = grind (arith, nat_tests, h)

first_by : (n : ℕ) → n ≡ 0 → false ≡ nat_lt 1 (suc n)
first_by n h = ap (λ k. nat_lt 1 (suc k)) (sym h)

-- it is noted exactly where there is a job line, and then as done where it is
record Noted (f : Option Line) (n : ℕ) (d : Bool) : Type 0 where
  seen : is_some (note_of f (nat_lt 1 n) d) ≡ nat_lt 1 (suc n)
  done : was_done (note_of f (nat_lt 1 n) d) ≡ d

noted : (j : ℕ) (f : Option Line) (n : ℕ) (d : Bool) → Known j f n d → Noted f n d
noted j None n d k = record { seen = first_by n k.counts; done = sym (k.undone refl) }
noted j (Some (Line.Job i g job)) n d k = record { seen = again_by n (k.counts.1); done = refl }
noted j (Some (Line.Start g name)) n d k = absurd (let z : ⊥ = cc (k.counts.0) in z)
noted j (Some (Line.Print g v)) n d k = absurd (let z : ⊥ = cc (k.counts.0) in z)
noted j (Some (Line.Park g w until)) n d k = absurd (let z : ⊥ = cc (k.counts.0) in z)
noted j (Some (Line.Resume g by)) n d k = absurd (let z : ⊥ = cc (k.counts.0) in z)
noted j (Some (Line.Throw g f)) n d k = absurd (let z : ⊥ = cc (k.counts.0) in z)
noted j (Some (Line.Into g out)) n d k = absurd (let z : ⊥ = cc (k.counts.0) in z)
noted j (Some (Line.End g out)) n d k = absurd (let z : ⊥ = cc (k.counts.0) in z)
noted j (Some (Line.Link i g call)) n d k = absurd (let z : ⊥ = cc (k.counts.0) in z)
noted j (Some (Line.Block b)) n d k = absurd (let z : ⊥ = cc (k.counts.0) in z)
noted j (Some (Line.Turn i answer)) n d k = absurd (let z : ⊥ = cc (k.counts.0) in z)
noted j (Some (Line.Stop cause turns moves)) n d k = absurd (let z : ⊥ = cc (k.counts.0) in z)

as_done_by : (f : Option Line) (again d : Bool) → as_done (note_of f again d) ≡ note_of f again true
as_done_by None again d = refl
as_done_by (Some (Line.Job i g job)) again d = refl
as_done_by (Some (Line.Start g name)) again d = refl
as_done_by (Some (Line.Print g v)) again d = refl
as_done_by (Some (Line.Park g w until)) again d = refl
as_done_by (Some (Line.Resume g by)) again d = refl
as_done_by (Some (Line.Throw g f)) again d = refl
as_done_by (Some (Line.Into g out)) again d = refl
as_done_by (Some (Line.End g out)) again d = refl
as_done_by (Some (Line.Link i g call)) again d = refl
as_done_by (Some (Line.Block b)) again d = refl
as_done_by (Some (Line.Turn i answer)) again d = refl
as_done_by (Some (Line.Stop cause turns moves)) again d = refl

abbrev job_note : ℕ → List Line → Option JobNote
job_note j before = note_of (find (is_job_line j) before) (nat_lt 1 (count_by (is_job_line j) before)) (list_any (is_done_line j) before)

same_count : (j : ℕ) (l : Line) (before : List Line) → is_job_line j l ≡ false → note_of (find (is_job_line j) before) (nat_lt 1 (count_by (is_job_line j) before)) (list_any (is_done_line j) before)
    ≡ note_of (find (is_job_line j) before) (nat_lt 1 (count_by (is_job_line j) (l ∷ before))) (list_any (is_done_line j) before)
same_count j l before not_so = ap (λ n. note_of (find (is_job_line j) before) (nat_lt 1 n) (list_any (is_done_line j) before)) (sym (count_other (is_job_line j) l before not_so))

job_next : (laws : Laws) (before : List Line) (l : Line) (j : ℕ) → Over laws before → note_after l j (job_note j before) ≡ job_note j (l ∷ before)
job_next laws before (Line.Job i g job) j s = by (nat_eq i j) (nat_eq j i) (same_test i j) refl
  where
    f : Option Line
    f = find (is_job_line j) before

    n : ℕ
    n = count_by (is_job_line j) before

    d : Bool
    d = list_any (is_done_line j) before

    l : Line
    l = Line.Job i g job

    is : Noted f n d
    is = noted j f n d (known laws before j s)

    by : (b c : Bool) → b ≡ c → nat_eq j i ≡ c → cond b (Some (record { job = job; again = is_some (job_note j before); done = was_done (job_note j before) })) (job_note j before)
        ≡ note_of (cond c (Some l) f) (nat_lt 1 (count_by (is_job_line j) (l ∷ before))) d
    by true true h is_so =
        ap (λ a. Some (record { job = job; again = a; done = was_done (job_note j before) })) (is.seen ∙ ap (nat_lt 1) (sym (count_one (is_job_line j) l before is_so)))
        ∙ ap (λ e. Some (record { job = job; again = nat_lt 1 (count_by (is_job_line j) (l ∷ before)); done = e })) is.done
    by false false h not_so = same_count j l before not_so
    by true false h e = absurd (let z : ⊥ = cc h in z)
    by false true h e = absurd (let z : ⊥ = cc h in z)
job_next laws before (Line.Turn k (Answer.Done i o at)) j s = by (nat_eq i j) (nat_eq j i) (same_test i j)
  where
    f : Option Line
    f = find (is_job_line j) before

    n : ℕ
    n = count_by (is_job_line j) before

    d : Bool
    d = list_any (is_done_line j) before

    l : Line
    l = Line.Turn k (Answer.Done i o at)

    by : (b c : Bool) → b ≡ c → cond b (as_done (job_note j before)) (job_note j before) ≡ note_of f (nat_lt 1 (count_by (is_job_line j) (l ∷ before))) (c || d)
    by true true h = as_done_by f (nat_lt 1 n) d ∙ ap (λ m. note_of f (nat_lt 1 m) true) (sym (count_other (is_job_line j) l before refl))
    by false false h = same_count j l before refl
    by true false h = absurd (let z : ⊥ = cc h in z)
    by false true h = absurd (let z : ⊥ = cc h in z)
job_next laws before (Line.Turn k (Answer.Elapsed at)) j s = same_count j (Line.Turn k (Answer.Elapsed at)) before refl
job_next laws before (Line.Turn k (Answer.Nothing at)) j s = same_count j (Line.Turn k (Answer.Nothing at)) before refl
job_next laws before (Line.Start h name) j s = same_count j (Line.Start h name) before refl
job_next laws before (Line.Print h v) j s = same_count j (Line.Print h v) before refl
job_next laws before (Line.Park h w until) j s = same_count j (Line.Park h w until) before refl
job_next laws before (Line.Resume h by) j s = same_count j (Line.Resume h by) before refl
job_next laws before (Line.Throw h f) j s = same_count j (Line.Throw h f) before refl
job_next laws before (Line.Into h o) j s = same_count j (Line.Into h o) before refl
job_next laws before (Line.End h o) j s = same_count j (Line.End h o) before refl
job_next laws before (Line.Link k h call) j s = same_count j (Line.Link k h call) before refl
job_next laws before (Line.Block b) j s = same_count j (Line.Block b) before refl
job_next laws before (Line.Stop cause turns moves) j s = same_count j (Line.Stop cause turns moves) before refl

-- by the sixth law a done line has a job line before
gives_one : (o : JobOutcome) (f : Option Line) → gives_outcome o f ≡ true → f ≢ None
gives_one o f gives none = let z : ⊥ = cc (sym (ap (gives_outcome o) none) ∙ gives) in z

undone_next : (laws : Laws) (before : List Line) (l : Line) (j : ℕ) → Over laws before → jobs_done_once before l ≡ true → find (is_job_line j) (l ∷ before) ≡ None → list_any (is_done_line j) (l ∷ before) ≡ false
undone_next laws before (Line.Job i g job) j s passes none = s.undone j (by (nat_eq j i) none)
  where
    by : (b : Bool) → cond b (Some (Line.Job i g job)) (find (is_job_line j) before) ≡ None → find (is_job_line j) before ≡ None
    by true h = absurd (let z : ⊥ = cc h in z)
    by false h = h
undone_next laws before (Line.Turn k (Answer.Done i o at)) j s passes none = elim (cases_eq j i) [
  | inl e ↦ absurd (gives_one o (find (is_job_line i) before) gives (ap (λ m. find (is_job_line m) before) (sym e) ∙ none))
  | inr apart ↦ let other : nat_eq j i ≡ false = grind (arith, nat_tests, apart) in ap (λ b. b || list_any (is_done_line j) before) other ∙ s.undone j none
]
  where
    gives : gives_outcome o (find (is_job_line i) before) ≡ true
    gives = (and_parts ((count_by (is_job_line i) before == 1) && not (list_any (is_done_line i) before)) _ passes).1
undone_next laws before (Line.Turn k (Answer.Elapsed at)) j s passes none = s.undone j none
undone_next laws before (Line.Turn k (Answer.Nothing at)) j s passes none = s.undone j none
undone_next laws before (Line.Start h name) j s passes none = s.undone j none
undone_next laws before (Line.Print h v) j s passes none = s.undone j none
undone_next laws before (Line.Park h w until) j s passes none = s.undone j none
undone_next laws before (Line.Resume h by) j s passes none = s.undone j none
undone_next laws before (Line.Throw h f) j s passes none = s.undone j none
undone_next laws before (Line.Into h o) j s passes none = s.undone j none
undone_next laws before (Line.End h o) j s passes none = s.undone j none
undone_next laws before (Line.Link i h call) j s passes none = s.undone j none
undone_next laws before (Line.Block b) j s passes none = s.undone j none
undone_next laws before (Line.Stop cause turns moves) j s passes none = s.undone j none

over_more : (old new : Laws) (before : List Line) (l : Line) → Over old before → next_law before l ≡ None → KeepsMore old new l → Over new (l ∷ before)
over_more old new before l s lawful k =
    let t = all_true _ _ _ _ _ _ lawful in
    record {
      stages = λ g. k.stages g ∙ ap (stage_if (greenlet_of l) g (stage_of l)) (s.stages g) ∙ stage_next (greenlet_of l) g l (find (is_of g) before);
      ends = λ g. ap is_stage_ended (k.stages g) ∙ end_next before l g (kept_stage old g) t.second (s.ends g);
      links = λ i. k.links i ∙ ap (link_after l i) (s.links i) ∙ link_next before l i;
      moment = k.moment ∙ ap (moment_after l) s.moment ∙ moment_next before l;
      undone = λ j. undone_next old before l j s t.sixth;
      jobs = λ j. k.jobs j ∙ ap (note_after l j) (s.jobs j) ∙ job_next old before l j s;
    }

pub kept_more : (old new : Laws) (lines : List Line) (l : Line) → StandsFor old lines → broken_law (lines ++ l ∷ []) ≡ None → KeepsMore old new l → StandsFor new (lines ++ l ∷ [])
kept_more old new lines l s lawful k =
    stands new (lines ++ l ∷ []) (l ∷ backwards [] lines) (backwards_last [] lines l) (k.broken ∙ s.unbroken) lawful
    (over_more old new (backwards [] lines) l (over old lines s) (sym (law_last lines l s.lawful) ∙ lawful) k)

pub broken_judged : (new : Laws) (lines : List Line) (l : Line) (n : ℕ) → broken_law (lines ++ l ∷ []) ≡ Some n → IsJudgedNext new lines l (Err (LawRefusal.Broken n))
broken_judged new lines l n is = subst (λ law. IsJudgedBy law new lines l (Err (LawRefusal.Broken n))) (sym is) refl

pub counted_judged : (new : Laws) (lines : List Line) (l : Line) → broken_law (lines ++ l ∷ []) ≡ None → StandsFor new (lines ++ l ∷ []) → IsJudgedNext new lines l (Ok tt)
counted_judged new lines l is s = subst (λ law. IsJudgedBy law new lines l (Ok tt)) (sym is) s

pub refused_judged : (new : Laws) (lines : List Line) (l : Line) → broken_law (lines ++ l ∷ []) ≡ None → StandsFor new lines → IsJudgedNext new lines l (Err LawRefusal.Memory)
refused_judged new lines l is s = subst (λ law. IsJudgedBy law new lines l (Err LawRefusal.Memory)) (sym is) s

-- ---- the law that is broken, and whether any is

six_by : (a b c d e f : Bool) → (a && b && c && d && e && f) ≡ is_none (first_false a b c d e f)
six_by false b c d e f = refl
six_by true false c d e f = refl
six_by true true false d e f = refl
six_by true true true false e f = refl
six_by true true true true false f = refl
six_by true true true true true false = refl
six_by true true true true true true = refl

pub meets_by : (lines : List Line) → meets_laws lines ≡ is_none (broken_law lines)
meets_by lines =
    six_by (each_line ends_once [] lines) (each_line nothing_after_end [] lines) (each_line throws_at_parked [] lines) (each_line links_after_end [] lines) (each_line moments_rise [] lines)
    (each_line jobs_done_once [] lines)

-- it stands for lines that meet the laws alone
pub meets_stood : (laws : Laws) (lines : List Line) → StandsFor laws lines → meets_laws lines ≡ true
meets_stood laws lines s = meets_by lines ∙ ap is_none s.lawful
