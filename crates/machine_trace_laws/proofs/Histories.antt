-- What was told so far: lines, posts and answers. Laws on lists of lines, line by line.
use Rattle.std.proofs.Common.{◌≡◌, refl, ap, ◌∙◌, sym, subst, Bool, true, List, [], ◌∷◌, ◌++◌, map, append_assoc}
use Rattle.std.proofs.lemmas.Bool.{and_from}
use Rattle.std.proofs.lemmas.List.{append-nil}
use Rattle.gv_values.specs.declared.job.Answer.{Answer}
use Rattle.world_rules.specs.declared.question.LogEntry.{LogEntry}
use Rattle.world_rules.specs.declared.question.PostedJob.{PostedJob}
use Rattle.world_rules.specs.Legal.{AreLegal, posted}
use Rattle.trace_text.specs.declared.line.Line.{Line}
use Rattle.machine.specs.declared.state.Post.{Post}
use Rattle.machine.specs.TraceLaws.{each_line, ends_once, nothing_after_end, throws_at_parked, links_after_end, moments_rise, jobs_done_once, meets_laws}
use Rattle.machine.specs.Run.{logged}

-- ---- lines

-- the earlier lines, the latest first, after these
abbrev pub trail : List Line → List Line → List Line
trail before [] = before
trail before (line ∷ lines) = trail (line ∷ before) lines

trail-end : (before lines : List Line) (line : Line) → trail before (lines ++ line ∷ []) ≡ line ∷ trail before lines
trail-end before [] line = refl
trail-end before (l ∷ lines) line = trail-end (l ∷ before) lines line

trail-append : (before xs ys : List Line) → trail before (xs ++ ys) ≡ trail (trail before xs) ys
trail-append before [] ys = refl
trail-append before (l ∷ xs) ys = trail-append (l ∷ before) xs ys

-- the line meets each of the laws after these
pub record IsLawful (before : List Line) (line : Line) : Type 0 where
  pub once : ends_once before line ≡ true
  pub last : nothing_after_end before line ≡ true
  pub parked : throws_at_parked before line ≡ true
  pub links : links_after_end before line ≡ true
  pub rising : moments_rise before line ≡ true
  pub jobs : jobs_done_once before line ≡ true

abbrev pub AreLawful : List Line → List Line → Type 0
AreLawful before [] = Unit {0}
AreLawful before (line ∷ lines) = IsLawful before line × AreLawful (line ∷ before) lines

lawful-end : (before lines : List Line) (line : Line) → AreLawful before lines → IsLawful (trail before lines) line → AreLawful before (lines ++ line ∷ [])
lawful-end before [] line h l = (l, tt)
lawful-end before (x ∷ lines) line h l = (h.0, lawful-end (x ∷ before) lines line h.1 l)

pub lawful-append : (before xs ys : List Line) → AreLawful before xs → AreLawful (trail before xs) ys → AreLawful before (xs ++ ys)
lawful-append before [] ys h k = k
lawful-append before (x ∷ xs) ys h k = (h.0, lawful-append (x ∷ before) xs ys h.1 k)

each : (test : List Line → Line → Bool) → ((before : List Line) (line : Line) → IsLawful before line → test before line ≡ true) →
    (before lines : List Line) → AreLawful before lines → each_line test before lines ≡ true
each test f before [] h = refl
each test f before (line ∷ lines) h = and_from (test before line) _ (f before line h.0) (each test f (line ∷ before) lines h.1)

pub lawful-meets : (lines : List Line) → AreLawful [] lines → meets_laws lines ≡ true
lawful-meets lines h =
    and_from _ _ (and_from _ _ (and_from _ _ (and_from _ _ (and_from _ _
    (each ends_once (λ b l m. m.once) [] lines h)
    (each nothing_after_end (λ b l m. m.last) [] lines h))
    (each throws_at_parked (λ b l m. m.parked) [] lines h))
    (each links_after_end (λ b l m. m.links) [] lines h))
    (each moments_rise (λ b l m. m.rising) [] lines h))
    (each jobs_done_once (λ b l m. m.jobs) [] lines h)

-- ---- histories

pub record History : Type 0 where
  -- the latest first
  pub past : List Line
  pub posts : List PostedJob
  pub answers : List Answer

-- nothing was told
abbrev pub at_first : History
at_first = record { past = []; posts = []; answers = [] }

abbrev pub with_line : Line → History → History
with_line line h = record h { past = line ∷ h.past }

abbrev pub as_posted : Post → PostedJob
as_posted post = posted post.number post.job

-- from the one history these lines and posts lead to the other, lawfully
pub record Tells (b h : History) (lines : List Line) (posts : List Post) : Type 0 where
  pub past : h.past ≡ trail b.past lines
  pub posted : h.posts ≡ b.posts ++ map as_posted posts
  pub answered : h.answers ≡ b.answers
  pub lawful : AreLawful b.past lines

pub tells-nothing : (h : History) → Tells h h [] []
tells-nothing h = record { past = refl; posted = sym (append-nil h.posts); answered = refl; lawful = tt }

pub tells-line : (b h : History) (lines : List Line) (posts : List Post) (line : Line) → IsLawful h.past line → Tells b h lines posts →
    Tells b (with_line line h) (lines ++ line ∷ []) posts
tells-line b h lines posts line l t =
    record {
      past = ap (λ p. line ∷ p) t.past ∙ sym (trail-end b.past lines line);
      posted = t.posted;
      answered = t.answered;
      lawful = lawful-end b.past lines line t.lawful (subst (λ p. IsLawful p line) t.past l);
    }

map-append : {X Y : Type 0} (f : X → Y) (xs ys : List X) → map f (xs ++ ys) ≡ map f xs ++ map f ys
map-append f [] ys = refl
map-append f (x ∷ xs) ys = ap (λ zs. f x ∷ zs) (map-append f xs ys)

abbrev pub with_post : Post → History → History
with_post post h = record h { posts = h.posts ++ as_posted post ∷ [] }

pub tells-post : (b h : History) (lines : List Line) (posts : List Post) (post : Post) → Tells b h lines posts → Tells b (with_post post h) lines (posts ++ post ∷ [])
tells-post b h lines posts post t =
    record {
      past = t.past;
      posted = ap (λ z. z ++ as_posted post ∷ []) t.posted ∙ append_assoc b.posts (map as_posted posts) (as_posted post ∷ [])
          ∙ ap (λ z. b.posts ++ z) (sym (map-append as_posted posts (post ∷ [])));
      answered = t.answered;
      lawful = t.lawful;
    }

pub tells-then : (b h k : History) (xs ys : List Line) (ps qs : List Post) → Tells b h xs ps → Tells h k ys qs → Tells b k (xs ++ ys) (ps ++ qs)
tells-then b h k xs ys ps qs t u =
    record {
      past = u.past ∙ ap (λ p. trail p ys) t.past ∙ sym (trail-append b.past xs ys);
      posted = u.posted ∙ ap (λ p. p ++ map as_posted qs) t.posted ∙ append_assoc b.posts (map as_posted ps) (map as_posted qs)
          ∙ ap (λ z. b.posts ++ z) (sym (map-append as_posted ps qs));
      answered = u.answered ∙ t.answered;
      lawful = lawful-append b.past xs ys t.lawful (subst (λ p. AreLawful p ys) t.past u.lawful);
    }

-- ---- the log

posts-legal : (posts : List Post) (before : List PostedJob) (answers : List Answer) (log : List LogEntry) →
    AreLegal before answers (map logged posts ++ log) → AreLegal (before ++ map as_posted posts) answers log
posts-legal [] before answers log h = subst (λ p. AreLegal p answers log) (sym (append-nil before)) h
posts-legal (p ∷ posts) before answers log h =
    subst (λ z. AreLegal z answers log) (append_assoc before (as_posted p ∷ []) (map as_posted posts)) (posts-legal posts (before ++ as_posted p ∷ []) answers log h)

-- a log that is legal goes on legally after what was given out
pub legal-after : (b h : History) (lines : List Line) (posts : List Post) (log : List LogEntry) → Tells b h lines posts →
    AreLegal b.posts b.answers (map logged posts ++ log) → AreLegal h.posts h.answers log
legal-after b h lines posts log t l =
    subst (λ a. AreLegal h.posts a log) (sym t.answered) (subst (λ p. AreLegal p b.answers log) (sym t.posted) (posts-legal posts b.posts b.answers log l))
