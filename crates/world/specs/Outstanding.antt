-- The outstanding jobs: by number, by rank, and in the order of their posts.
use Rattle.std.specs.Prelude.{◌≡◌, ℕ, ◌↔◌, ◌==◌, Bool, true, false, List, Option, Some, None, filter_map, Contains}
use Rattle.std.specs.BTreeSet.{BTreeSet, contains}
use Rattle.std.specs.Ordering.{nat_cmp, then_cmp, on}
use Rattle.world_rules.specs.declared.question.PostedJob.{PostedJob}
use Rattle.world_rules.specs.declared.question.DueJob.{DueJob}
use Rattle.world_rules.specs.Legal.{is_posted}
use Rattle.world_rules.specs.Script.{comes_before}

-- the posted jobs that are found under their numbers, as they are found
abbrev pub still_due : (ℕ → Option DueJob) → List PostedJob → List DueJob
still_due found posts = filter_map (λ post. found post.number) posts

-- each job that is found has the number under which it is found
abbrev pub IsNamed : (ℕ → Option DueJob) → Type 0
IsNamed found = (number : ℕ) (job : DueJob) → found number ≡ Some job → job.number ≡ number

-- no job is found under a number that wasn't posted
abbrev pub ArePosted : (ℕ → Option DueJob) → List PostedJob → Type 0
ArePosted found posts = (number : ℕ) → is_posted number posts ≡ false → found number ≡ None

-- whether a due moment and a number are one of the ranks
abbrev pub has_rank : BTreeSet (ℕ × ℕ) → ℕ × ℕ → Bool
has_rank ranks rank = contains (then_cmp (on (λ (r : ℕ × ℕ). r.0) nat_cmp) (on (λ (r : ℕ × ℕ). r.1) nat_cmp)) ranks rank

-- a job is found, and it is due at this moment
abbrev pub is_due_at : ℕ → Option DueJob → Bool
is_due_at due None = false
is_due_at due (Some job) = job.due == due

-- the ranks are those of the jobs that are found
abbrev pub IsRanked : (ℕ → Option DueJob) → (ℕ × ℕ → Bool) → Type 0
IsRanked found has = (due number : ℕ) → has (due, number) ≡ is_due_at due (found number)

-- the job that comes first of those that are found
abbrev pub IsFirstOf : (ℕ → Option DueJob) → Option DueJob → Type 0
IsFirstOf found None = (number : ℕ) → found number ≡ None
IsFirstOf found (Some first) = (found first.number ≡ Some first) × ((number : ℕ) (job : DueJob) → found number ≡ Some job → comes_before first job ≡ true)

-- just the jobs of the list are found, each under its number
abbrev pub Finds : (ℕ → Option DueJob) → List DueJob → Type 0
Finds found jobs = (number : ℕ) (job : DueJob) → (found number ≡ Some job) ↔ (Contains jobs job × (job.number ≡ number))
