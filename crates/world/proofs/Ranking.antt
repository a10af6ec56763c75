-- The ranks of the outstanding jobs: the least is that of the job that is done first.
use Rattle.std.proofs.Common.{◌≡◌, ℕ, ◌==◌, ◌&&◌, ◌||◌, Bool, true, false, cond, nat_lt, nat_le, ◌<◌, Ordering, List, [], ◌∷◌, length, Option, Some, None, refl, sym, ap, ◌∙◌, subst, arith}
use Rattle.std.specs.Prelude.{Result, Ok, Err, OnOk}
use Rattle.std.specs.Result.{is_err}
use Rattle.std.specs.List.{list_any}
use Rattle.std.specs.BTreeSet.{BTreeSet}
use Rattle.std.specs.Ordering.{nat_cmp, ordering_then, is_eq, is_gt}
use Rattle.std.proofs.lemmas.Bool.{false≢true}
use Rattle.std.proofs.lemmas.Bool.Decides.{nat_tests}
use Rattle.world_rules.specs.declared.question.DueJob.{DueJob}
use Rattle.world_rules.specs.Script.{comes_before}
use Rattle.world.specs.Outstanding.{IsNamed, is_due_at, has_rank, IsRanked, IsFirstOf}

-- ranks go by the due moment, and where that is the same by the number
abbrev by_rank : ℕ × ℕ → ℕ × ℕ → Ordering
by_rank r q = ordering_then (nat_cmp r.0 q.0) (nat_cmp r.1 q.1)

same_rank : (a b c d : ℕ) → is_eq (by_rank (a, b) (c, d)) ≡ ((a == c) && (b == d))
same_rank a b c d = grind (arith, nat_tests)

before_rank : (a b c d : ℕ) → is_gt (by_rank (a, b) (c, d)) ≡ false → (nat_lt a c || ((a == c) && nat_le b d)) ≡ true
before_rank a b c d e = grind (arith, nat_tests)

same : (n : ℕ) → (n == n) ≡ true
same n = grind (arith, nat_tests)

-- what a call that didn't fail says
pub at_ok : {T E P : Type 0} (r : Result T E) → false ≡ is_err r → OnOk r P → P
at_ok (Ok x) e h = h
at_ok (Err y) e h = absurd (false≢true e)

-- ---- a job more, a job less

pub ranked_more : (f g : ℕ → Option DueJob) (has new : ℕ × ℕ → Bool) (job : DueJob) → IsRanked f has → f job.number ≡ None
    → ((number : ℕ) → g number ≡ cond (job.number == number) (Some job) (f number))
    → ((rank : ℕ × ℕ) → new rank ≡ cond (is_eq (by_rank (job.due, job.number) rank)) true (has rank)) → IsRanked g new
ranked_more f g has new job ranked absent is adds due number =
    adds (due, number) ∙ (ap (λ b. cond b true (has (due, number))) (same_rank job.due job.number due number) ∙ by (job.number == number) refl)
  where
    by : (b : Bool) → (job.number == number) ≡ b → cond ((job.due == due) && (job.number == number)) true (has (due, number)) ≡ is_due_at due (g number)
    by true test =
        let own : job.number ≡ number = grind (arith, nat_tests) in
        let none : has (due, number) ≡ false = ranked due number ∙ ap (is_due_at due) (ap f (sym own) ∙ absent) in
        (λ i. cond ((job.due == due) && test i) true (none i))
        ∙ (plain (job.due == due) ∙ sym (ap (is_due_at due) (is number ∙ ap (λ b. cond b (Some job) (f number)) test)))
      where
        plain : (b : Bool) → cond (b && true) true false ≡ b
        plain true = refl
        plain false = refl
    by false test =
        (λ i. cond ((job.due == due) && test i) true (has (due, number)))
        ∙ (off (job.due == due) ∙ (ranked due number ∙ sym (ap (is_due_at due) (is number ∙ ap (λ b. cond b (Some job) (f number)) test))))
      where
        off : (b : Bool) → cond (b && false) true (has (due, number)) ≡ has (due, number)
        off true = refl
        off false = refl

pub ranked_less : (f g : ℕ → Option DueJob) (has new : ℕ × ℕ → Bool) (job : DueJob) (own : ℕ) → IsRanked f has → f own ≡ Some job
    → ((number : ℕ) → g number ≡ cond (own == number) None (f number))
    → ((rank : ℕ × ℕ) → new rank ≡ cond (is_eq (by_rank (job.due, own) rank)) false (has rank)) → IsRanked g new
ranked_less f g has new job own ranked there is takes due number =
    takes (due, number) ∙ (ap (λ b. cond b false (has (due, number))) (same_rank job.due own due number) ∙ by (own == number) refl)
  where
    by : (b : Bool) → (own == number) ≡ b → cond ((job.due == due) && (own == number)) false (has (due, number)) ≡ is_due_at due (g number)
    by true test =
        let at : own ≡ number = grind (arith, nat_tests) in
        let had : has (due, number) ≡ (job.due == due) = ranked due number ∙ ap (is_due_at due) (ap f (sym at) ∙ there) in
        (λ i. cond ((job.due == due) && test i) false (had i))
        ∙ (gone (job.due == due) ∙ sym (ap (is_due_at due) (is number ∙ ap (λ b. cond b None (f number)) test)))
      where
        gone : (b : Bool) → cond (b && true) false b ≡ false
        gone true = refl
        gone false = refl
    by false test =
        (λ i. cond ((job.due == due) && test i) false (has (due, number)))
        ∙ (off (job.due == due) ∙ (ranked due number ∙ sym (ap (is_due_at due) (is number ∙ ap (λ b. cond b None (f number)) test))))
      where
        off : (b : Bool) → cond (b && false) false (has (due, number)) ≡ has (due, number)
        off true = refl
        off false = refl

-- ---- the least rank

no_keys : {A : Type 0} (keys : List A) → (0 < length keys → ⊥) → keys ≡ []
no_keys [] none = refl
no_keys (k ∷ keys) none = absurd (none (omega arith))

pub no_ranks : (ranks : BTreeSet (ℕ × ℕ)) → (0 < length ranks.keys → ⊥) → (rank : ℕ × ℕ) → has_rank ranks rank ≡ false
no_ranks ranks none rank = ap (list_any (λ q. is_eq (by_rank rank q))) (no_keys ranks.keys none)

pub none_ranked : (f : ℕ → Option DueJob) (has : ℕ × ℕ → Bool) → IsRanked f has → ((rank : ℕ × ℕ) → has rank ≡ false) → (number : ℕ) → f number ≡ None
none_ranked f has ranked none number = by (f number) refl
  where
    by : (o : Option DueJob) → f number ≡ o → f number ≡ None
    by None e = e
    by (Some job) e = absurd (false≢true (sym (none (job.due, number)) ∙ (ranked job.due number ∙ (ap (is_due_at job.due) e ∙ same job.due))))

pub least_ranked : (f : ℕ → Option DueJob) (has : ℕ × ℕ → Bool) (rank : ℕ × ℕ) → IsNamed f → IsRanked f has → has rank ≡ true
    → ((q : ℕ × ℕ) → has q ≡ true → is_gt (by_rank rank q) ≡ false) → IsFirstOf f (f rank.1)
least_ranked f has rank named ranked there least = subst (IsFirstOf f) (sym (found.1)) ((ap f (named rank.1 found.0 found.1) ∙ found.1), before)
  where
    get_it : (o : Option DueJob) → f rank.1 ≡ o → (job : DueJob) × (f rank.1 ≡ Some job)
    get_it None e = absurd (false≢true (ap (is_due_at rank.0) (sym e) ∙ (sym (ranked rank.0 rank.1) ∙ there)))
    get_it (Some job) e = (job, e)

    found : (job : DueJob) × (f rank.1 ≡ Some job)
    found = get_it (f rank.1) refl

    before : (number : ℕ) (job : DueJob) → f number ≡ Some job → comes_before found.0 job ≡ true
    before number job e =
        let due : (found.0.due == rank.0) ≡ true = ap (is_due_at rank.0) (sym found.1) ∙ (sym (ranked rank.0 rank.1) ∙ there) in
        let due_ : found.0.due ≡ rank.0 = grind (arith, nat_tests) in
        let own : found.0.number ≡ rank.1 = named rank.1 found.0 found.1 in
        let other : job.number ≡ number = named number job e in
        let has_it : has (job.due, number) ≡ true = ranked job.due number ∙ (ap (is_due_at job.due) e ∙ same job.due) in
        before_rank found.0.due found.0.number job.due job.number
        (subst (λ (z : ℕ × ℕ × ℕ). is_gt (by_rank (z.0, z.1) (job.due, z.2)) ≡ false) (λ i. (sym due_ i, sym own i, sym other i)) (least (job.due, number) has_it))
