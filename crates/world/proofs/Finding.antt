-- What is found of the outstanding jobs.
use Rattle.std.proofs.Common.{◌≡◌, ℕ, zero, suc, ◌↔◌, ◌⊎◌, inl, inr, ◌==◌, ◌||◌, Bool, true, false, not, cond, if◌then◌else◌, List, [], ◌∷◌, ◌++◌, Option, Some, None, refl, sym, ap, ◌∙◌, subst, arith}
use Rattle.std.specs.Prelude.{Contains, All, IsTrue}
use Rattle.std.specs.List.{cons_option}
use Rattle.std.proofs.lemmas.Bool.{false≢true}
use Rattle.std.proofs.lemmas.List.Folds.{list_any-append}
use Rattle.std.proofs.lemmas.Bool.Decides.{nat_tests}
use Rattle.std.proofs.lemmas.List.Elements.{All-cons, All-contains, All-nil, filter_map-append}
use Rattle.gv_values.specs.declared.job.JobOutcome.{JobOutcome}
use Rattle.gv_values.specs.declared.job.Answer.{Answer}
use Rattle.world_rules.specs.declared.question.PostedJob.{PostedJob}
use Rattle.world_rules.specs.declared.question.DueJob.{DueJob}
use Rattle.world_rules.specs.Evaluate.{eval}
use Rattle.world_rules.specs.Legal.{posted, is_done_of, is_posted}
use Rattle.world_rules.specs.Script.{comes_before, sooner, first_due, without_done}
use Rattle.world.specs.Ruled.{IsEndOf}
use Rattle.world.specs.Outstanding.{still_due, IsNamed, ArePosted, IsFirstOf, Finds}
use Rattle.world.proofs.Sound.{contains_head, contains_tail, first_in, or_false}

none_is : (job : DueJob) → None ≡ Some job → ⊥
none_is job e = cc

some_is : (a b : DueJob) → Some a ≡ Some b → a ≡ b
some_is a b e = cc

-- ---- the posted jobs that are found

each_found : (f : ℕ → Option DueJob) (posts : List PostedJob) → IsNamed f → All (λ (job : DueJob). f job.number ≡ Some job) (still_due f posts)
each_found f [] named = All-nil (λ (job : DueJob). f job.number ≡ Some job)
each_found f (p ∷ ps) named = is (f p.number) refl (each_found f ps named)
  where
    is : (o : Option DueJob) → f p.number ≡ o → All (λ (job : DueJob). f job.number ≡ Some job) (still_due f ps)
        → All (λ (job : DueJob). f job.number ≡ Some job) (cons_option o (still_due f ps))
    is None e rest = rest
    is (Some job) e rest = All-cons (λ (job : DueJob). f job.number ≡ Some job) job (still_due f ps) (ap f (named p.number job e) ∙ e) rest

is_there : (f : ℕ → Option DueJob) (posts : List PostedJob) (number : ℕ) (job : DueJob) → is_posted number posts ≡ true → f number ≡ Some job → Contains (still_due f posts) job
is_there f [] number job e found = absurd (false≢true e)
is_there f (p ∷ ps) number job e found = is (p.number == number) refl e (λ e. is_there f ps number job e found)
  where
    later : (o : Option DueJob) → Contains (still_due f ps) job → Contains (cons_option o (still_due f ps)) job
    later None h = h
    later (Some other) h = contains_tail other job (still_due f ps) h

    is : (b : Bool) → (p.number == number) ≡ b → (b || is_posted number ps) ≡ true → (is_posted number ps ≡ true → Contains (still_due f ps) job)
        → Contains (cons_option (f p.number) (still_due f ps)) job
    is true test e rest = let same : p.number ≡ number = grind (arith, nat_tests) in
        subst (λ (o : Option DueJob). Contains (cons_option o (still_due f ps)) job) (sym (ap f same ∙ found)) (contains_head job (still_due f ps))
    is false test e rest = later (f p.number) (rest e)

pub finds_posted : (f : ℕ → Option DueJob) (posts : List PostedJob) → IsNamed f → ArePosted f posts → Finds f (still_due f posts)
finds_posted f posts named are number job = (
  λ e. (by (is_posted number posts) refl e, named number job e),
  λ h. ap f (sym h.1) ∙ All-contains (λ (job : DueJob). f job.number ≡ Some job) (still_due f posts) job (each_found f posts named) h.0,
)
  where
    by : (b : Bool) → is_posted number posts ≡ b → f number ≡ Some job → Contains (still_due f posts) job
    by true test e = is_there f posts number job test e
    by false test e = absurd (none_is job (sym (are number test) ∙ e))

pub none_due : (f : ℕ → Option DueJob) (posts : List PostedJob) → ((number : ℕ) → f number ≡ None) → still_due f posts ≡ []
none_due f [] none = refl
none_due f (p ∷ ps) none = ap (λ o. cons_option o (still_due f ps)) (none p.number) ∙ none_due f ps none

pub same_due : (f g : ℕ → Option DueJob) (posts : List PostedJob) → ((number : ℕ) → g number ≡ f number) → still_due g posts ≡ still_due f posts
same_due f g [] same = refl
same_due f g (p ∷ ps) same = λ i. cons_option (same p.number i) (same_due f g ps same i)

-- ---- a job more

others_due : (f g : ℕ → Option DueJob) (job : DueJob) (posts : List PostedJob) → ((number : ℕ) → g number ≡ cond (job.number == number) (Some job) (f number)) → is_posted job.number posts ≡ false
    → still_due g posts ≡ still_due f posts
others_due f g job [] is new = refl
others_due f g job (p ∷ ps) is new = let apart = or_false (p.number == job.number) (is_posted job.number ps) new in
    λ i. cons_option (other apart.0 i) (others_due f g job ps is apart.1 i)
  where
    other : (p.number == job.number) ≡ false → g p.number ≡ f p.number
    other test = let turned : (job.number == p.number) ≡ false = grind (arith, nat_tests) in is p.number ∙ ap (λ b. cond b (Some job) (f p.number)) turned

pub due_more : (f g : ℕ → Option DueJob) (job : DueJob) (posts : List PostedJob) → ((number : ℕ) → g number ≡ cond (job.number == number) (Some job) (f number)) → is_posted job.number posts ≡ false
    → still_due g (posts ++ posted job.number job.job ∷ []) ≡ still_due f posts ++ job ∷ []
due_more f g job posts is new =
    let same : (job.number == job.number) ≡ true = grind (arith, nat_tests) in
    let own : g job.number ≡ Some job = is job.number ∙ ap (λ b. cond b (Some job) (f job.number)) same in
    filter_map-append (λ (post : PostedJob). g post.number) posts (posted job.number job.job ∷ [])
    ∙ (λ i. others_due f g job posts is new i ++ cons_option (own i) [])

pub more_posted : (f g : ℕ → Option DueJob) (job : DueJob) (posts : List PostedJob) → ((number : ℕ) → g number ≡ cond (job.number == number) (Some job) (f number)) → ArePosted f posts
    → ArePosted g (posts ++ posted job.number job.job ∷ [])
more_posted f g job posts is are number none =
    let apart = or_false (is_posted number posts) ((job.number == number) || false) (sym (list_any-append (λ (post : PostedJob). post.number == number) posts (posted job.number job.job ∷ [])) ∙ none) in
    let test = (or_false (job.number == number) false apart.1).0 in
    is number ∙ (ap (λ b. cond b (Some job) (f number)) test ∙ are number apart.0)

-- ---- jobs that are answered

pub due_less : (f g : ℕ → Option DueJob) (posts : List PostedJob) (answer : Answer) → IsNamed f → ((number : ℕ) → g number ≡ cond (is_done_of number answer) None (f number))
    → still_due g posts ≡ without_done answer (still_due f posts)
due_less f g [] answer named is = refl
due_less f g (p ∷ ps) answer named is = by (is_done_of p.number answer) (f p.number) refl refl (due_less f g ps answer named is)
  where
    taken : (b : Bool) → ◌≡◌ {A = Option DueJob} (cond b None None) None
    taken true = refl
    taken false = refl

    by : (b : Bool) (o : Option DueJob) → is_done_of p.number answer ≡ b → f p.number ≡ o → still_due g ps ≡ without_done answer (still_due f ps)
        → cons_option (g p.number) (still_due g ps) ≡ without_done answer (cons_option o (still_due f ps))
    by b None test found e = λ i. cons_option ((is p.number ∙ (ap (cond (is_done_of p.number answer) None) found ∙ taken (is_done_of p.number answer))) i) (e i)
    by true (Some job) test found e =
        let rest = without_done answer (still_due f ps) in
        let named_ : is_done_of job.number answer ≡ true = ap (λ n. is_done_of n answer) (named p.number job found) ∙ test in
        (λ i. cons_option ((is p.number ∙ ap (λ b. cond b None (f p.number)) test) i) (e i)) ∙ ap (λ b. cond (not b) (job ∷ rest) rest) (sym named_)
    by false (Some job) test found e =
        let rest = without_done answer (still_due f ps) in
        let named_ : is_done_of job.number answer ≡ false = ap (λ n. is_done_of n answer) (named p.number job found) ∙ test in
        (λ i. cons_option ((is p.number ∙ (ap (λ b. cond b None (f p.number)) test ∙ found)) i) (e i)) ∙ ap (λ b. cond (not b) (job ∷ rest) rest) (sym named_)

pub less_posted : (f g : ℕ → Option DueJob) (posts : List PostedJob) (answer : Answer) → ((number : ℕ) → g number ≡ cond (is_done_of number answer) None (f number)) → ArePosted f posts → ArePosted g posts
less_posted f g posts answer is are number none = is number ∙ by (is_done_of number answer)
  where
    by : (b : Bool) → cond b None (f number) ≡ None
    by true = refl
    by false = are number none

-- ---- the job that is done first

in_cases : (x y : DueJob) (xs : List DueJob) → Contains (x ∷ xs) y → (x ≡ y) ⊎ Contains xs y
in_cases x y xs (zero, within, is) = inl is
in_cases x y xs (suc n, within, is) = inr (n, omega arith, is)

both_first : (a b : DueJob) → comes_before a b ≡ true → comes_before b a ≡ true → a.number ≡ b.number
both_first a b e f = grind (arith, nat_tests)

least_is : (jobs : List DueJob) (first : DueJob) → Contains jobs first → ((job : DueJob) → Contains jobs job → comes_before first job ≡ true)
    → ((job : DueJob) → Contains jobs job → job.number ≡ first.number → job ≡ first) → first_due jobs ≡ Some first
least_is [] first (n, within, is) least alone = absurd (omega arith)
least_is (x ∷ xs) first there least alone =
    by (in_cases x first xs there)
    (λ h. least_is xs first h (λ job in_. least job (contains_tail x job xs in_)) (λ job in_. alone job (contains_tail x job xs in_)))
  where
    own : (o : Option DueJob) → first_due xs ≡ o → x ≡ first → sooner x o ≡ first
    own None e is = is
    own (Some y) e is = let before : comes_before x y ≡ true = ap (λ a. comes_before a y) is ∙ least y (contains_tail x y xs (first_in xs y e)) in
        ap (λ b. if b then x else y) before ∙ is

    other : (b : Bool) → comes_before x first ≡ b → (if b then x else first) ≡ first
    other true test = alone x (contains_head x xs) (both_first x first test (least x (contains_head x xs)))
    other false test = refl

    by : (x ≡ first) ⊎ Contains xs first → (Contains xs first → first_due xs ≡ Some first) → Some (sooner x (first_due xs)) ≡ Some first
    by (inl is) rest = ap Some (own (first_due xs) refl is)
    by (inr h) rest = ap Some (ap (sooner x) (rest h) ∙ other (comes_before x first) refl)

pub first_is : (f : ℕ → Option DueJob) (posts : List PostedJob) (first : Option DueJob) → IsNamed f → ArePosted f posts → IsFirstOf f first → first ≡ first_due (still_due f posts)
first_is f posts None named are is = sym (ap first_due (none_due f posts is))
first_is f posts (Some first) named are is =
    let finds = finds_posted f posts named are in
    let found = λ (job : DueJob) (h : Contains (still_due f posts) job). (finds job.number job).1 (h, refl) in
    sym (least_is (still_due f posts) first ((finds first.number first).0 is.0).0 (λ job h. is.1 job.number job (found job h))
    (λ job h same. some_is job first (sym (found job h) ∙ (ap f same ∙ is.0))))

-- ---- what a job comes to

pub ends_found : (f : ℕ → Option DueJob) (jobs : List DueJob) (number : ℕ) (outcome : JobOutcome) (job : DueJob) (b : Bool) → Finds f jobs → f number ≡ Some job
    → (IsTrue b ↔ (outcome ≡ eval job.job)) → IsTrue b ↔ IsEndOf number outcome jobs
ends_found f jobs number outcome job b finds is same = (
  λ t. let h = (finds number job).0 is in (job, h.0, (h.1, same.0 t)),
  λ h. let own = some_is h.0 job (sym ((finds number h.0).1 (h.1, h.2.0)) ∙ is) in same.1 (h.2.1 ∙ ap (λ (j : DueJob). eval j.job) own),
)

pub ends_none : (f : ℕ → Option DueJob) (jobs : List DueJob) (number : ℕ) (outcome : JobOutcome) → Finds f jobs → f number ≡ None → IsTrue false ↔ IsEndOf number outcome jobs
ends_none f jobs number outcome finds is = (
  λ t. absurd (false≢true t),
  λ h. absurd (none_is h.0 (sym is ∙ (finds number h.0).1 (h.1, h.2.0))),
)
