-- The earliest of a list, one item more at a time.
use Rattle.std.proofs.Common.{◌≡◌, ◌⊎◌, inl, inr, ℕ, ◌+◌, ◌<◌, ◌≤◌, nat_le, if◌then◌else◌, Bool, true, false, List, length, get_or, Option, Some, None, IfSome, refl, sym, ap, ◌∙◌, subst, arith}
use Rattle.std.proofs.lemmas.Bool.{cases_lt}
use Rattle.std.proofs.lemmas.Bool.Decides.{nat_tests}
use Rattle.stream_net.specs.Earliest.{IsEarliest, IsEarliestAt, sooner}
use Rattle.std.proofs.lemmas.List.Folds.{list_any_none}
use Rattle.stream_net.specs.declared.script.ConnScript.{ConnScript}
use Rattle.stream_net.specs.MemoryNets.{has_arrived}
use Rattle.stream_net.specs.News.{AreSilent, IsToldFirst, arrives_next, comes_later, coming, has_caller, has_come, moved, told_after}
use Rattle.stream_net.specs.Rules.{Tells, Voice, Later}
use Rattle.stream_net.specs.declared.memory_endpoint.MemoryEndpoint.{MemoryEndpoint}
use Rattle.stream_net.specs.declared.net.Ready.{Ready}
use Rattle.stream_net.proofs.MemoryLemmas.{any_item}

module _ {A : Type 0} (moment_of : A → Option ℕ) (items : List A) (n : ℕ) (x : A) (within : n < length items) (is : x ≡ get_or items n x) where
  here : (d : A) → moment_of (get_or items n d) ≡ moment_of x
  here d = ap moment_of (any_item items n d x within ∙ sym is)

  split : (j : ℕ) → j < n + 1 → (j < n) ⊎ (j ≡ n)
  split j h = by (cases_lt j n)
    where
      by : (j < n) ⊎ (n ≤ j) → (j < n) ⊎ (j ≡ n)
      by (inl y) = inl y
      by (inr y) = inr (omega (arith, y, h))

  -- what holds below and here holds below the next
  more : (P : Option ℕ → Type 0) → ((j : ℕ) (d : A) → j < n → P (moment_of (get_or items j d))) → P (moment_of x) → (j : ℕ) (d : A) → j < n + 1 → P (moment_of (get_or items j d))
  more P below at j d h = by (split j h)
    where
      by : (j < n) ⊎ (j ≡ n) → P (moment_of (get_or items j d))
      by (inl y) = below j d y
      by (inr e) = subst (λ (i : ℕ). P (moment_of (get_or items i d))) (sym e) (subst P (sym (here d)) at)

  stays : (first : ℕ × ℕ) → IsEarliestAt moment_of items n first.0 first.1 → IfSome (moment_of x) (λ other. first.0 ≤ other) → IsEarliestAt moment_of items (n + 1) first.0 first.1
  stays first h at = let w = h.within in record { within = omega (arith, w); stands = h.stands; first = h.first; least = more (λ o. IfSome o (λ other. first.0 ≤ other)) h.least at }

  later_all : (at least : ℕ) → at < least → (o : Option ℕ) → IfSome o (λ other. least ≤ other) → IfSome o (λ other. at < other)
  later_all at least lt None h = tt
  later_all at least lt (Some other) h = omega (arith, lt, h)

  not_before : (at : ℕ) (o : Option ℕ) → IfSome o (λ other. at < other) → IfSome o (λ other. at ≤ other)
  not_before at None h = tt
  not_before at (Some other) h = omega (arith, h)

  none_some : (P : ℕ → Type 0) (o : Option ℕ) → o ≡ None → IfSome o P
  none_some P o e = subst (λ (p : Option ℕ). IfSome p P) (sym e) tt

  comes : (at : ℕ) → moment_of x ≡ Some at → ((j : ℕ) (d : A) → j < n → IfSome (moment_of (get_or items j d)) (λ other. at < other)) → IsEarliestAt moment_of items (n + 1) at n
  comes at e later = record {
    within = omega arith;
    stands = λ d. here d ∙ e;
    first = later;
    least = more (λ o. IfSome o (λ other. at ≤ other)) (λ j d h. not_before at (moment_of (get_or items j d)) (later j d h)) (subst (λ (o : Option ℕ). IfSome o (λ other. at ≤ other)) (sym e) (omega arith));
  }

  pub earliest_more : (first : Option (ℕ × ℕ)) (o : Option ℕ) → moment_of x ≡ o → IsEarliest moment_of items n first → IsEarliest moment_of items (n + 1) (sooner first o n)
  earliest_more None None e h = more (λ p. p ≡ None) h e
  earliest_more (Some first) None e h = stays first h (none_some (λ other. first.0 ≤ other) (moment_of x) e)
  earliest_more None (Some at) e h = comes at e (λ j d lt. none_some (λ other. at < other) (moment_of (get_or items j d)) (h j d lt))
  earliest_more (Some first) (Some at) e h = by (cases_lt at first.0)
    where
      by : (at < first.0) ⊎ (first.0 ≤ at) → IsEarliest moment_of items (n + 1) (sooner (Some first) (Some at) n)
      by (inl lt) =
          let above : nat_le first.0 at ≡ false = grind (arith, nat_tests, lt) in
          rw above (comes at e (λ j d y. later_all at first.0 lt (moment_of (get_or items j d)) (h.least j d y)))
      by (inr ge) =
          let below : nat_le first.0 at ≡ true = grind (arith, nat_tests, ge) in
          rw below (stays first h (subst (λ (p : Option ℕ). IfSome p (λ other. first.0 ≤ other)) (sym e) ge))

-- ---- who has come

has_not : (moment : ℕ) (s : ConnScript) → has_come moment s ≡ None → nat_le s.arrives moment ≡ false
has_not moment s e = by (nat_le s.arrives moment) refl
  where
    by : (b : Bool) → nat_le s.arrives moment ≡ b → nat_le s.arrives moment ≡ false
    by false f = f
    by true f =
        let g : Some s.arrives ≡ None = sym (ap (λ (b : Bool). if b then Some s.arrives else None) f) ∙ e in absurd (cc)

pub nobody_came : (waiting : List ConnScript) (moment count : ℕ) (first : Option (ℕ × ℕ)) → first ≡ None → count ≡ length waiting → IsEarliest (has_come moment) waiting count first → has_arrived waiting moment ≡ false
nobody_came waiting moment count None e all h = list_any_none (λ (s : ConnScript). nat_le s.arrives moment) waiting (λ k d within. has_not moment (get_or waiting k d) (h k d (omega (arith, all, within))))
nobody_came waiting moment count (Some first) e all h = absurd (cc)

-- ---- what a wait tells

module _ (ws : List ConnScript) (told : Option ℕ) (ls : List MemoryEndpoint) (moment : ℕ) (until : Option ℕ) where
  pub tells_voice : (ws' : List ConnScript) (ls' : List MemoryEndpoint) (b : Bool) (ready : Ready) → ws' ≡ ws → ls' ≡ ls → b ≡ has_caller ws' told moment → b ≡ false → IsToldFirst ls' moment ready
      → Tells ws told ls moment until (Some ready) moment
  tells_voice ws' ls' b ready e f is quiet h =
      Voice (ap (λ (xs : List ConnScript). has_caller xs told moment) (sym e) ∙ (sym is ∙ quiet)) ready (subst (λ (xs : List MemoryEndpoint). IsToldFirst xs moment ready) f h) refl refl

  pub tells_later : (ws' : List ConnScript) (ls' : List MemoryEndpoint) (ws'' : List ConnScript) (ls'' : List MemoryEndpoint) (b : Bool) (caller endpoint : Option (ℕ × ℕ)) (next : Option (ℕ × Ready)) (answer : Option Ready) (now : ℕ)
      → ws' ≡ ws → ls' ≡ ls → ws'' ≡ ws → ls'' ≡ ls → b ≡ has_caller ws' told moment → b ≡ false → AreSilent ls' (length ls') moment
      → IsEarliest (comes_later moment) ws'' (length ws'') caller → IsEarliest (arrives_next moment) ls'' (length ls'') endpoint
      → next ≡ coming caller endpoint → answer ≡ told_after next until → now ≡ moved next until moment
      → Tells ws told ls moment until answer now
  tells_later ws' ls' ws'' ls'' b caller endpoint next answer now e f e' f' is quiet silent callers endpoints n a m =
      Later (ap (λ (xs : List ConnScript). has_caller xs told moment) (sym e) ∙ (sym is ∙ quiet)) (subst (λ (xs : List MemoryEndpoint). AreSilent xs (length xs) moment) f silent) caller endpoint
      (subst (λ (xs : List ConnScript). IsEarliest (comes_later moment) xs (length xs) caller) e' callers) (subst (λ (xs : List MemoryEndpoint). IsEarliest (arrives_next moment) xs (length xs) endpoint) f' endpoints)
      (a ∙ ap (λ (o : Option (ℕ × Ready)). told_after o until) n) (m ∙ ap (λ (o : Option (ℕ × Ready)). moved o until moment) n)
