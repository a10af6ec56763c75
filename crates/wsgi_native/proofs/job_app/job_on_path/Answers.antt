use Rattle.std.proofs.Common.{◌≡◌, ℕ, Bool, true, false, if◌then◌else◌, List, None, codes, drop, refl, ap, sym, ◌∙◌}
use Rattle.gv_values.specs.declared.job.JobKind.TheVariants.{Sum, Collatz, Fail, Echo}
use Rattle.http_messages.specs.Environ.{begins_with}
use Rattle.wsgi_native.specs.JobApp.{job_in}
use Rattle.wsgi_native.proofs.job_app.job_on_path.Goals as goal

-- the first of four whose test is true
second : {A : Type 0} (a b c d : Bool) (v w x y z : A) → a ≡ false → b ≡ true → (if a then v else if b then w else if c then x else if d then y else z) ≡ w
second false true c d v w x y z e f = refl
second true b c d v w x y z e f = absurd (cc e)
second false false c d v w x y z e f = absurd (cc f)

third : {A : Type 0} (a b c d : Bool) (v w x y z : A) → a ≡ false → b ≡ false → c ≡ true → (if a then v else if b then w else if c then x else if d then y else z) ≡ x
third false false true d v w x y z e f g = refl
third true b c d v w x y z e f g = absurd (cc e)
third false true c d v w x y z e f g = absurd (cc f)
third false false false d v w x y z e f g = absurd (cc g)

fourth : {A : Type 0} (a b c d : Bool) (v w x y z : A) → a ≡ false → b ≡ false → c ≡ false → d ≡ true → (if a then v else if b then w else if c then x else if d then y else z) ≡ y
fourth false false false true v w x y z e f g h = refl
fourth true b c d v w x y z e f g h = absurd (cc e)
fourth false true c d v w x y z e f g h = absurd (cc f)
fourth false false true d v w x y z e f g h = absurd (cc g)
fourth false false false false v w x y z e f g h = absurd (cc h)

abbrev is_sum : List ℕ → Bool
is_sum path = begins_with (codes "/job/sum/") path

abbrev is_collatz : List ℕ → Bool
is_collatz path = begins_with (codes "/job/collatz/") path

abbrev is_fail : List ℕ → Bool
is_fail path = begins_with (codes "/job/fail/") path

abbrev is_echo : List ℕ → Bool
is_echo path = begins_with (codes "/job/echo/") path

pub returns-then-starts_with-2 : goal.returns-then-starts_with-2
returns-then-starts_with-2 c = let p = c.args.path.now in
    c.job_in-then-starts_with-2.ensures
    ∙ ap (job_in Collatz) c.behind-then-starts_with-2.ensures
    ∙ sym (second (is_sum p) (is_collatz p) (is_fail p) (is_echo p) (job_in Sum (drop 9 p)) (job_in Collatz (drop 13 p)) (job_in Fail (drop 10 p)) (job_in Echo (drop 10 p)) None
    (sym c.starts_with.ensures.value ∙ c.if-starts_with.false) (sym c.starts_with-else-starts_with.ensures.value ∙ c.if-starts_with-2.true))

pub returns-then-starts_with-3 : goal.returns-then-starts_with-3
returns-then-starts_with-3 c = let p = c.args.path.now in
    c.job_in-then-starts_with-3.ensures
    ∙ ap (job_in Fail) c.behind-then-starts_with-3.ensures
    ∙ sym (third (is_sum p) (is_collatz p) (is_fail p) (is_echo p) (job_in Sum (drop 9 p)) (job_in Collatz (drop 13 p)) (job_in Fail (drop 10 p)) (job_in Echo (drop 10 p)) None
    (sym c.starts_with.ensures.value ∙ c.if-starts_with.false) (sym c.starts_with-else-starts_with.ensures.value ∙ c.if-starts_with-2.false)
    (sym c.starts_with-else-starts_with-2.ensures.value ∙ c.if-starts_with-3.true))

pub returns-then-starts_with-4 : goal.returns-then-starts_with-4
returns-then-starts_with-4 c = let p = c.args.path.now in
    c.job_in-then-starts_with-4.ensures
    ∙ ap (job_in Echo) c.behind-then-starts_with-4.ensures
    ∙ sym (fourth (is_sum p) (is_collatz p) (is_fail p) (is_echo p) (job_in Sum (drop 9 p)) (job_in Collatz (drop 13 p)) (job_in Fail (drop 10 p)) (job_in Echo (drop 10 p)) None
    (sym c.starts_with.ensures.value ∙ c.if-starts_with.false) (sym c.starts_with-else-starts_with.ensures.value ∙ c.if-starts_with-2.false)
    (sym c.starts_with-else-starts_with-2.ensures.value ∙ c.if-starts_with-3.false) (sym c.starts_with-else-starts_with-3.ensures.value ∙ c.if-starts_with-4.true))
