-- Traces that are the texts of lawful lines: the steps of the reader, and that the answer is told.
use Rattle.std.proofs.Common.{◌≡◌, ◌≢◌, refl, ap, sym, ◌∙◌, subst, ℕ, ◌+◌, ◌≤◌, ◌<◌, Bool, true, false, List, [], ◌∷◌, ◌++◌, Option, Some, None, append_assoc, drop, is_none, length, arith}
use Rattle.std.proofs.lemmas.Bool.{and_from, and_parts}
use Rattle.std.proofs.lemmas.Bool.Decides.{nat_tests}
use Rattle.std.proofs.lemmas.List.{append-nil, length-append}
use Rattle.std.specs.Prelude.{◌==◌, Err, Ok, Result}
use Rattle.gv_values.specs.Texts.{Text}
use Rattle.machine.specs.TraceLaws.{each_line, ends_once, jobs_done_once, links_after_end, meets_laws, moments_rise, nothing_after_end, throws_at_parked}
use Rattle.trace_text.specs.declared.line.Line.{Line}
use Rattle.trace_text.specs.Line.{line_text, text_of}
use Rattle.trace_laws.specs.Kept.{IsJudgedBy, IsJudgedNext, StandsFor}
use Rattle.trace_laws.specs.Lawful.{broken_law, IsLawful, IsLawless, IsUnread}
use Rattle.trace_laws.specs.Answers.{IsJudgedLawful, IsSameLawful}
use Rattle.trace_laws.specs.Counting.{fault_of, lawless_trace, HasCounted, IsCountedFirst}
use Rattle.trace_laws.specs.Traces.{BeginsWithLine, BeginsWithNone}
use Rattle.trace_laws.specs.declared.laws.LawRefusal.{LawRefusal}
use Rattle.trace_laws.specs.declared.laws.Laws.{Laws}
use Rattle.trace_laws.specs.declared.lawful.Uncounted.{Uncounted}
use Rattle.trace_laws.specs.declared.lawful.LawlessTrace.{LawlessTrace}
use Rattle.trace_laws.proofs.Keeping.{meets_by, meets_stood}
use Rattle.trace_laws.proofs.Lines.{Compared, compared, fit_append, line_last, none_begins, same_line}
use Rattle.trace_laws.proofs.Placing.{feeds_lines, few_feeds}

-- ---- one step

pub counted_ok : (new : Laws) (lines : List Line) (l : Line) (result : Result (Unit {0}) LawRefusal) (u : Unit {0}) → IsJudgedNext new lines l result → result ≡ Ok u → StandsFor new (lines ++ l ∷ [])
counted_ok new lines l result u judged is = by (broken_law (lines ++ l ∷ [])) (subst (IsJudgedNext new lines l) is judged)
  where
    by : (law : Option ℕ) → IsJudgedBy law new lines l (Ok u) → StandsFor new (lines ++ l ∷ [])
    by None s = s
    by (Some n) e = absurd (let z : ⊥ = cc e in z)

pub counted_refused : (text : Text) (new : Laws) (lines : List Line) (l : Line) (result : Result (Unit {0}) LawRefusal) (e : LawRefusal) → BeginsWithLine text l → IsJudgedNext new lines l result → result ≡ Err e →
    IsCountedFirst text lines new (Err (fault_of e))
counted_refused text new lines l result LawRefusal.Memory begins judged is = tt
counted_refused text new lines l result (LawRefusal.Broken law) begins judged is = (l, begins, by (broken_law (lines ++ l ∷ [])) (subst (IsJudgedNext new lines l) is judged))
  where
    by : (o : Option ℕ) → IsJudgedBy o new lines l (Err (LawRefusal.Broken law)) → o ≡ Some law
    by None z = absurd z
    by (Some n) e = let z : Some n ≡ Some law = cc e in z

-- ---- lines off the front

pub counted_none : (text : Text) (laws : Laws) → StandsFor laws [] → HasCounted text text 0 laws
counted_none text laws s = record { lines = []; fit = tt; is = refl; count_is = refl; stands = s }

length_last : (lines : List Line) (l : Line) → length lines + 1 ≡ length (lines ++ l ∷ [])
length_last lines l = sym (length-append lines (l ∷ []))

pub counted_more : (text rest : Text) (count : ℕ) (old new : Laws) (next : ℕ) (h : HasCounted text rest count old) → IsCountedFirst rest h.lines new (Ok next) → HasCounted text (drop next rest) (count + 1) new
counted_more text rest count old new next h (l, begins, stands) =
    record {
      lines = h.lines ++ l ∷ [];
      fit = fit_append h.lines (l ∷ []) h.fit (begins.fits, tt);
      is = h.is ∙ ap (λ t. text_of h.lines ++ t) begins.is ∙ sym (line_last h.lines l (drop next rest));
      count_is = ap (λ n. n + 1) h.count_is ∙ length_last h.lines l;
      stands = stands;
    }

pub counted_few : (text rest : Text) (count : ℕ) (laws : Laws) → HasCounted text rest count laws → count + length rest ≤ length text
counted_few text rest count laws h =
    let all : length text ≡ length (text_of h.lines) + length rest = ap length h.is ∙ length-append (text_of h.lines) rest in
    omega (arith, all, few_feeds (text_of h.lines), feeds_lines h.lines h.fit, h.count_is)

pub counted_whole : (text rest : Text) (count : ℕ) (laws : Laws) → HasCounted text rest count laws → rest ≡ [] → IsLawful text count
counted_whole text rest count laws h none =
    record {
      lines = h.lines;
      fit = h.fit;
      text = h.is ∙ ap (λ t. text_of h.lines ++ t) none ∙ append-nil (text_of h.lines);
      count_is = h.count_is;
      lawful = meets_stood laws h.lines h.stands;
    }

pub counted_unread : (text rest : Text) (count : ℕ) (laws : Laws) → HasCounted text rest count laws → rest ≢ [] → BeginsWithNone rest → IsUnread text (count + 1)
counted_unread text rest count laws h some none =
    record {
      before = h.lines;
      rest = rest;
      fit = h.fit;
      text = h.is;
      lawful = meets_stood laws h.lines h.stands;
      line_is = ap (λ n. n + 1) h.count_is;
      some = some;
      none = none;
    }

pub counted_lawless : (text rest : Text) (count law : ℕ) (old : Laws) (l : Line) (h : HasCounted text rest count old) → BeginsWithLine rest l → broken_law (h.lines ++ l ∷ []) ≡ Some law → IsLawless text (count + 1) law
counted_lawless text rest count law old l h begins breaks =
    record {
      before = h.lines;
      next = l;
      rest = rest;
      fit = h.fit;
      text = h.is;
      lawful = meets_stood old h.lines h.stands;
      line_is = ap (λ n. n + 1) h.count_is;
      begins = begins;
      breaks = breaks;
    }

pub counted_fault : (text rest : Text) (count : ℕ) (old new : Laws) (fault : Uncounted) (h : HasCounted text rest count old) → rest ≢ [] → IsCountedFirst rest h.lines new (Err fault) → IsJudgedLawful text (Err (lawless_trace fault (count + 1)))
counted_fault text rest count old new Uncounted.NotALine h some none = counted_unread text rest count old h some none
counted_fault text rest count old new (Uncounted.Broken law) h some (l, begins, breaks) = counted_lawless text rest count law old l h begins breaks
counted_fault text rest count old new Uncounted.Memory h some u = tt

some_left : (rest : Text) → false ≡ (length rest == 0) → rest ≢ []
some_left rest h none = let z : false ≡ true = h ∙ ap (λ t. length t == 0) none in let end : ⊥ = cc z in end

pub judged_fault : (text rest : Text) (count : ℕ) (old new : Laws) (fault : Uncounted) (h : HasCounted text rest count old) → false ≡ (length rest == 0) → ((lines : List Line) → StandsFor old lines → IsCountedFirst rest lines new (Err fault)) →
    IsJudgedLawful text (Err (lawless_trace fault (count + 1)))
judged_fault text rest count old new fault h some first = counted_fault text rest count old new fault h (some_left rest some) (first h.lines h.stands)

nothing_left : (t : Text) → true ≡ (length t == 0) → t ≡ []
nothing_left [] e = refl
nothing_left (x ∷ t) e =
    let some : (length (x ∷ t) == 0) ≡ false = grind (arith, nat_tests) in
    absurd (let z : true ≡ false = e ∙ some in let end : ⊥ = cc z in end)

pub one_left : (t : Text) → false ≡ (length t == 0) → 0 < length t
one_left [] e = absurd (let z : ⊥ = cc e in z)
one_left (x ∷ t) e = omega arith

pub judged_whole : (text rest : Text) (count : ℕ) (laws : Laws) → HasCounted text rest count laws → true ≡ (length rest == 0) → IsLawful text count
judged_whole text rest count laws h none = counted_whole text rest count laws h (nothing_left rest none)

pub next_smaller : (rest : Text) (lines : List Line) (new : Laws) (next : ℕ) → IsCountedFirst rest lines new (Ok next) → length (drop next rest) < length rest
next_smaller rest lines new next (l, begins, stands) =
    let all : length rest ≡ length (line_text l) + length (10 ∷ drop next rest) = ap length begins.is ∙ length-append (line_text l) (10 ∷ drop next rest) in
    omega (arith, all)

-- ---- the answer is told

each_front : (test : List Line → Line → Bool) (before xs ys : List Line) → each_line test before (xs ++ ys) ≡ true → each_line test before xs ≡ true
each_front test before [] ys h = refl
each_front test before (x ∷ xs) ys h =
    let p = and_parts (test before x) _ h in
    and_from (test before x) (each_line test (x ∷ before) xs) p.0 (each_front test (x ∷ before) xs ys p.1)

pub meets_front : (xs ys : List Line) → meets_laws (xs ++ ys) ≡ true → meets_laws xs ≡ true
meets_front xs ys h =
    let p = and_parts _ (each_line jobs_done_once [] (xs ++ ys)) h in
    let q = and_parts _ (each_line moments_rise [] (xs ++ ys)) p.0 in
    let r = and_parts _ (each_line links_after_end [] (xs ++ ys)) q.0 in
    let s = and_parts _ (each_line throws_at_parked [] (xs ++ ys)) r.0 in
    let t = and_parts (each_line ends_once [] (xs ++ ys)) (each_line nothing_after_end [] (xs ++ ys)) s.0 in
    and_from _ _
    (and_from _ _
    (and_from _ _ (and_from _ _ (and_from _ _ (each_front ends_once [] xs ys t.0) (each_front nothing_after_end [] xs ys t.1)) (each_front throws_at_parked [] xs ys s.1)) (each_front links_after_end [] xs ys r.1))
    (each_front moments_rise [] xs ys q.1)) (each_front jobs_done_once [] xs ys p.1)

-- lines that break a law are not the first of lines that meet them
not_first : (before : List Line) (l : Line) (law : ℕ) (more : List Line) → broken_law (before ++ l ∷ []) ≡ Some law → meets_laws (before ++ l ∷ more) ≡ true → ⊥
not_first before l law more breaks meets =
    let parted : before ++ l ∷ more ≡ (before ++ l ∷ []) ++ more = sym (append_assoc before (l ∷ []) more) in
    let front = meets_front (before ++ l ∷ []) more (sym (ap meets_laws parted) ∙ meets) in
    let z : true ≡ false = sym front ∙ meets_by (before ++ l ∷ []) ∙ ap is_none breaks in
    let end : ⊥ = cc z in end

-- the next line breaks a law, and goes before these
not_among : (c : List Line) (s : Text) (next l : Line) (law : ℕ) (more b : List Line) → BeginsWithLine s next → broken_law (c ++ next ∷ []) ≡ Some law → BeginsWithLine s l → b ≡ c ++ l ∷ more → meets_laws b ≡ true → ⊥
not_among c s next l law more b begins breaks other is meets =
    let same = (same_line s next l begins other).0 in
    not_first c next law more breaks (ap meets_laws (sym (is ∙ ap (λ x. c ++ x ∷ more) (sym same))) ∙ meets)

same_text : (trace : Text) (b c : List Line) (r s : Text) → trace ≡ text_of b ++ r → trace ≡ text_of c ++ s → text_of b ++ r ≡ text_of c ++ s
same_text trace b c r s h k = sym h ∙ k

whole_text : (trace : Text) (b : List Line) → trace ≡ text_of b → trace ≡ text_of b ++ []
whole_text trace b h = h ∙ sym (append-nil (text_of b))

lawful_lawful : (trace : Text) (count other : ℕ) → IsLawful trace count → IsLawful trace other → count ≡ other
lawful_lawful trace count other h k =
    h.count_is ∙ by (compared h.lines [] k.lines [] h.fit k.fit (same_text trace h.lines k.lines [] [] (whole_text trace h.lines h.text) (whole_text trace k.lines k.text))) ∙ sym k.count_is
  where
    by : Compared h.lines [] k.lines [] → length h.lines ≡ length k.lines
    by (Compared.Same e f) = ap length e
    by (Compared.Longer l more e f) = absurd (none_begins l f)
    by (Compared.Shorter l more e f) = absurd (none_begins l f)

lawful_unread : (trace : Text) (count line : ℕ) → IsLawful trace count → IsUnread trace line → ⊥
lawful_unread trace count line h k = by (compared h.lines [] k.before k.rest h.fit k.fit (same_text trace h.lines k.before [] k.rest (whole_text trace h.lines h.text) k.text))
  where
    by : Compared h.lines [] k.before k.rest → ⊥
    by (Compared.Same e f) = k.some (sym f)
    by (Compared.Longer l more e f) = none_begins l f
    by (Compared.Shorter l more e f) = k.none l f

lawful_lawless : (trace : Text) (count line law : ℕ) → IsLawful trace count → IsLawless trace line law → ⊥
lawful_lawless trace count line law h k = by (compared h.lines [] k.before k.rest h.fit k.fit (same_text trace h.lines k.before [] k.rest (whole_text trace h.lines h.text) k.text))
  where
    by : Compared h.lines [] k.before k.rest → ⊥
    by (Compared.Same e f) = none_begins k.next (subst (λ t. BeginsWithLine t k.next) (sym f) k.begins)
    by (Compared.Longer l more e f) = none_begins l f
    by (Compared.Shorter l more e f) = not_among k.before k.rest k.next l law more h.lines k.begins k.breaks f e h.lawful

unread_unread : (trace : Text) (line other : ℕ) → IsUnread trace line → IsUnread trace other → line ≡ other
unread_unread trace line other h k =
    h.line_is ∙ ap (λ n. n + 1) (by (compared h.before h.rest k.before k.rest h.fit k.fit (same_text trace h.before k.before h.rest k.rest h.text k.text))) ∙ sym k.line_is
  where
    by : Compared h.before h.rest k.before k.rest → length h.before ≡ length k.before
    by (Compared.Same e f) = ap length e
    by (Compared.Longer l more e f) = absurd (h.none l f)
    by (Compared.Shorter l more e f) = absurd (k.none l f)

unread_lawless : (trace : Text) (line other law : ℕ) → IsUnread trace line → IsLawless trace other law → ⊥
unread_lawless trace line other law h k = by (compared h.before h.rest k.before k.rest h.fit k.fit (same_text trace h.before k.before h.rest k.rest h.text k.text))
  where
    by : Compared h.before h.rest k.before k.rest → ⊥
    by (Compared.Same e f) = h.none k.next (subst (λ t. BeginsWithLine t k.next) (sym f) k.begins)
    by (Compared.Longer l more e f) = h.none l f
    by (Compared.Shorter l more e f) = not_among k.before k.rest k.next l law more h.before k.begins k.breaks f e h.lawful

lawless_lawless : (trace : Text) (line other law found : ℕ) → IsLawless trace line law → IsLawless trace other found → (line ≡ other) × (law ≡ found)
lawless_lawless trace line other law found h k = by (compared h.before h.rest k.before k.rest h.fit k.fit (same_text trace h.before k.before h.rest k.rest h.text k.text))
  where
    by : Compared h.before h.rest k.before k.rest → (line ≡ other) × (law ≡ found)
    by (Compared.Same e f) =
        let next = (same_line k.rest h.next k.next (subst (λ t. BeginsWithLine t h.next) f h.begins) k.begins).0 in
        let same : Some law ≡ Some found = sym h.breaks ∙ ap (λ b. broken_law (b ++ h.next ∷ [])) e ∙ ap (λ l. broken_law (k.before ++ l ∷ [])) next ∙ k.breaks in
        (h.line_is ∙ ap (λ b. length b + 1) e ∙ sym k.line_is, let z : law ≡ found = cc same in z)
    by (Compared.Longer l more e f) = absurd (not_among h.before h.rest h.next l law more k.before h.begins h.breaks f e k.lawful)
    by (Compared.Shorter l more e f) = absurd (not_among k.before k.rest k.next l found more h.before k.begins k.breaks f e h.lawful)

pub same_lawful : (trace : Text) (right result : Result ℕ LawlessTrace) → IsJudgedLawful trace right → IsJudgedLawful trace result → IsSameLawful right result
same_lawful trace (Ok n) (Ok m) h k = ap Ok (lawful_lawful trace n m h k)
same_lawful trace (Ok n) (Err (LawlessTrace.NotALine line)) h k = absurd (lawful_unread trace n line h k)
same_lawful trace (Ok n) (Err (LawlessTrace.Broken line law)) h k = absurd (lawful_lawless trace n line law h k)
same_lawful trace (Ok n) (Err LawlessTrace.Memory) h k = tt
same_lawful trace (Err (LawlessTrace.NotALine line)) (Ok m) h k = absurd (lawful_unread trace m line k h)
same_lawful trace (Err (LawlessTrace.NotALine line)) (Err (LawlessTrace.NotALine other)) h k = ap (λ n. Err (LawlessTrace.NotALine n)) (unread_unread trace line other h k)
same_lawful trace (Err (LawlessTrace.NotALine line)) (Err (LawlessTrace.Broken other law)) h k = absurd (unread_lawless trace line other law h k)
same_lawful trace (Err (LawlessTrace.NotALine line)) (Err LawlessTrace.Memory) h k = tt
same_lawful trace (Err (LawlessTrace.Broken line law)) (Ok m) h k = absurd (lawful_lawless trace m line law k h)
same_lawful trace (Err (LawlessTrace.Broken line law)) (Err (LawlessTrace.NotALine other)) h k = absurd (unread_lawless trace other line law k h)
same_lawful trace (Err (LawlessTrace.Broken line law)) (Err (LawlessTrace.Broken other found)) h k =
    let p = lawless_lawless trace line other law found h k in
    ap (λ n. Err (LawlessTrace.Broken n law)) p.0 ∙ ap (λ n. Err (LawlessTrace.Broken other n)) p.1
same_lawful trace (Err (LawlessTrace.Broken line law)) (Err LawlessTrace.Memory) h k = tt
same_lawful trace (Err LawlessTrace.Memory) result h k = tt
