-- Lists of connections, at one place and elsewhere.
use Rattle.std.proofs.Common.{◌≡◌, ◌≢◌, inl, inr, ℕ, zero, suc, ◌+◌, ◌<◌, ◌≤◌, Bool, true, false, not, cond, List, [], ◌∷◌, ◌++◌, length, set, refl, sym, ap, subst, arith, slice_set, Option, Some, None}
use Rattle.std.specs.List.{All}
use Rattle.std.proofs.lemmas.Bool.{cases_eq}
use Rattle.std.proofs.lemmas.List.{get_or-set_same, get_or-set_other}
use Rattle.std.proofs.lemmas.List.Sums.{sum_by-set, sum_by_push, get_or-le-sum_by}
use Rattle.std.proofs.lemmas.List.Elements.{All-from_get_or, All-get_or}
use Rattle.stream_net.specs.Net.{Connection, connection_at, absent_connection, live_count, is_open}

-- what holds at k and elsewhere holds everywhere
pub everywhere : (k : ℕ) (P : ℕ → Type 0) → P k → ((j : ℕ) → j ≢ k → P j) → (j : ℕ) → P j
everywhere k P here others j = elim (cases_eq j k) [ inl e ↦ subst P (sym e) here | inr n ↦ others j n ]

pub all_from : (P : Connection → Type 0) (cs : List Connection) → ((j : ℕ) → j < length cs → P (connection_at cs j)) → All P cs
all_from P cs h = All-from_get_or P cs absent_connection h

pub at_all : (P : Connection → Type 0) (cs : List Connection) → All P cs → (j : ℕ) → j < length cs → P (connection_at cs j)
at_all P cs h j within = All-get_or P cs j absent_connection within h

pub at_other : (cs : List Connection) (k j : ℕ) (c : Connection) → j ≢ k → connection_at (slice_set cs k c) j ≡ connection_at cs j
at_other cs k j c other = get_or-set_other cs k j c absent_connection other

pub at_same : (cs : List Connection) (k : ℕ) (c : Connection) → k < length cs → connection_at (slice_set cs k c) k ≡ c
at_same cs k c within = get_or-set_same cs k c absent_connection within

pub set_over : {A : Type 0} (xs : List A) (k : ℕ) (x : A) → length xs ≤ k → set xs k x ≡ xs
set_over [] k x h = refl
set_over (y ∷ ys) zero x h = absurd (omega arith)
set_over (y ∷ ys) (suc k) x h = ap (λ (zs : List _). y ∷ zs) (set_over ys k x (omega arith))

abbrev one_if : Bool → ℕ
one_if b = cond b 1 0

count_of : (c : Connection) (b : Bool) → c.closed ≡ b → one_if (is_open c) ≡ one_if (not b)
count_of c b e = ap (λ (x : Bool). one_if (not x)) e

-- the live ones where one changes and stays as open as it was
pub live_kept : (cs : List Connection) (k : ℕ) (c : Connection) → k < length cs → c.closed ≡ (connection_at cs k).closed → live_count (slice_set cs k c) ≡ live_count cs
live_kept cs k c within same =
    let e = sum_by-set (λ (x : Connection). one_if (is_open x)) cs k c absent_connection within in
    let f : one_if (is_open c) ≡ one_if (is_open (connection_at cs k)) = ap (λ (b : Bool). one_if (not b)) same in
    omega (arith, e, f)

-- where one is closed
pub live_closed : (cs : List Connection) (k : ℕ) (c : Connection) → k < length cs → (connection_at cs k).closed ≡ false → c.closed ≡ true → live_count (slice_set cs k c) + 1 ≡ live_count cs
live_closed cs k c within was is =
    let e = sum_by-set (λ (x : Connection). one_if (is_open x)) cs k c absent_connection within in
    let f : one_if (is_open (connection_at cs k)) ≡ 1 = count_of (connection_at cs k) false was in
    let h : one_if (is_open c) ≡ 0 = count_of c true is in
    omega (arith, e, f, h)

-- where one comes
pub live_more_one : (cs : List Connection) (c : Connection) → c.closed ≡ false → live_count (cs ++ c ∷ []) ≡ live_count cs + 1
live_more_one cs c is =
    let e = sum_by_push (λ (x : Connection). one_if (is_open x)) cs c in
    let f : one_if (is_open c) ≡ 1 = count_of c false is in
    omega (arith, e, f)

-- nobody is listed
pub is_absent : {A : Type 0} (listed : ℕ → Option A → Type 0) (k j : ℕ) → j ≡ k → ((s : Option A) → listed k s → s ≡ None) → (a : A) → listed j (Some a) → ⊥
is_absent {A} listed k j same only a row =
    let e : Some a ≡ None = only (Some a) (subst (λ (n : ℕ). listed n (Some a)) same row) in cc

-- where none is live, each is closed
pub none_open : (cs : List Connection) (j : ℕ) → j < length cs → live_count cs ≡ 0 → (connection_at cs j).closed ≡ true
none_open cs j in' none = by (connection_at cs j).closed refl
  where
    by : (b : Bool) → (connection_at cs j).closed ≡ b → (connection_at cs j).closed ≡ true
    by true e = e
    by false e =
        let f : one_if (is_open (connection_at cs j)) ≡ 1 = count_of (connection_at cs j) false e in
        absurd (omega (arith, f, none, get_or-le-sum_by (λ (x : Connection). one_if (is_open x)) cs j absent_connection in'))
