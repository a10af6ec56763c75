-- A name more in a table.
use Rattle.std.proofs.Common.{◌≡◌, refl, sym, ap, ◌∙◌, Bool, true, false, cond, List, [], ◌∷◌, ◌++◌, nat_eq, Option, Some, None}
use Rattle.std.specs.Cmp.Lexicographic.{pointwise, slice_cmp}
use Rattle.std.proofs.lemmas.Bool.{false≢true}
use Rattle.std.proofs.lemmas.Map.Text.{is_eq-slice_cmp}
use Rattle.std.proofs.lemmas.Slice.Eq.{bytes_eq-Decides}
use Rattle.std.specs.BTreeMap.{insert_entry, is_at}
use Rattle.std.proofs.Common.{Ordering, Less, Equal, Greater}
use Rattle.std.specs.Ordering.{is_eq, match_ordering, nat_cmp}
use Rattle.std.specs.Map.{lookup}
use Rattle.std.specs.Option.{is_some}
use Rattle.gv_values.specs.declared.name.Name.{Name}

abbrev pub or_else : {V : Type 0} → Option V → Option V → Option V
or_else (Some v) o = Some v
or_else None o = o

or_cond : {V : Type 0} (b : Bool) (v : V) (o p : Option V) → cond b (Some v) (or_else o p) ≡ or_else (cond b (Some v) o) p
or_cond true v o p = refl
or_cond false v o p = refl

pub one_more : {V : Type 0} (x name : Name) (v : V) (ds : List (Name × V)) →
    lookup (pointwise nat_eq x) (ds ++ (name, v) ∷ []) ≡ or_else (lookup (pointwise nat_eq x) ds) (cond (pointwise nat_eq x name) (Some v) None)
one_more x name v [] = refl
one_more x name v (d ∷ ds) = ap (λ o. cond (pointwise nat_eq x d.0) (Some d.1) o) (one_more x name v ds) ∙ or_cond (pointwise nat_eq x d.0) d.1 _ _

stays : {V : Type 0} (o : Option V) (b : Bool) (v : V) → (b ≡ true → is_some o ≡ true) → o ≡ or_else o (cond b (Some v) None)
stays (Some w) b v h = refl
stays None false v h = refl
stays None true v h = absurd (false≢true (h refl))

grows : {V : Type 0} (o : Option V) (b : Bool) (v : V) → (b ≡ true → o ≡ None) → cond b (Some v) o ≡ or_else o (cond b (Some v) None)
grows None b v h = refl
grows (Some w) false v h = refl
grows (Some w) true v h = absurd (false≢true (sym (ap is_some (h refl))))

-- ---- an entry more in a table whose keys have these bytes

abbrev order : {K : Type 0} → (K → Name) → K → K → Ordering
order bytes a b = slice_cmp nat_cmp (bytes a) (bytes b)

abbrev at : {K : Type 0} → (K → Name) → Name → K → Bool
at bytes x = is_at (λ k. slice_cmp nat_cmp x (bytes k))

same_bytes : (xs ys : Name) → is_eq (slice_cmp nat_cmp xs ys) ≡ true → xs ≡ ys
same_bytes xs ys h = (bytes_eq-Decides xs ys).0 (sym (is_eq-slice_cmp xs ys) ∙ h)

twice : {V : Type 0} (b : Bool) (v w : V) (o : Option V) → cond b (Some v) o ≡ cond b (Some v) (cond b (Some w) o)
twice true v w o = refl
twice false v w o = refl

apart : {V : Type 0} (b c : Bool) (v w : V) (o : Option V) → (b ≡ true → c ≡ true → ⊥) → cond b (Some w) (cond c (Some v) o) ≡ cond c (Some v) (cond b (Some w) o)
apart true true v w o h = absurd (h refl refl)
apart true false v w o h = refl
apart false true v w o h = refl
apart false false v w o h = refl

not_both : (o : Ordering) → o ≡ Greater → is_eq o ≡ true → ⊥
not_both Less h k = false≢true k
not_both Equal h k = not_greater h
  where
    greater : Ordering → Bool
    greater Greater = true
    greater _ = false

    not_greater : Equal ≡ Greater → ⊥
    not_greater e = false≢true (ap greater e)
not_both Greater h k = false≢true k

inserted : {K V : Type 0} (bytes : K → Name) (es : List (K × V)) (k : K) (v : V) (x : Name) →
    lookup (at bytes x) (insert_entry (order bytes) es k v) ≡ cond (at bytes x k) (Some v) (lookup (at bytes x) es)
inserted bytes [] k v x = refl
inserted bytes (e ∷ es) k v x = by (inserted bytes es k v x) (order bytes k e.0) refl
  where
    by : lookup (at bytes x) (insert_entry (order bytes) es k v) ≡ cond (at bytes x k) (Some v) (lookup (at bytes x) es) → (o : Ordering) → order bytes k e.0 ≡ o →
        lookup (at bytes x) (match_ordering o ((k, v) ∷ e ∷ es) ((e.0, v) ∷ es) (e ∷ insert_entry (order bytes) es k v)) ≡ cond (at bytes x k) (Some v) (lookup (at bytes x) (e ∷ es))
    by rest Less h = refl
    by rest Equal h =
        let same : bytes k ≡ bytes e.0 = same_bytes (bytes k) (bytes e.0) (ap is_eq h) in
        twice (at bytes x e.0) v e.1 (lookup (at bytes x) es)
        ∙ ap (λ bs. cond (is_eq (slice_cmp nat_cmp x bs)) (Some v) (cond (at bytes x e.0) (Some e.1) (lookup (at bytes x) es))) (sym same)
    by rest Greater h =
        ap (λ o. cond (at bytes x e.0) (Some e.1) o) rest
        ∙ apart (at bytes x e.0) (at bytes x k) v e.1 (lookup (at bytes x) es)
        (λ p q. not_both (order bytes k e.0) h (ap (λ bs. is_eq (slice_cmp nat_cmp bs (bytes e.0))) (sym (same_bytes x (bytes k) q)) ∙ p))

-- ---- what a table then has

pub none_of : {V : Type 0} (o : Option V) → is_some o ≡ false → o ≡ None
none_of None h = refl
none_of (Some v) h = absurd (false≢true (sym h))

same_name : (x y : Name) → pointwise nat_eq x y ≡ true → x ≡ y
same_name x y h = (bytes_eq-Decides x y).0 h

-- a name that has a value keeps it
pub kept : {V : Type 0} (f : Name → Option V) (name : Name) (v : V) (ds : List (Name × V)) → is_some (f name) ≡ true →
    ((x : Name) → f x ≡ lookup (pointwise nat_eq x) ds) → (x : Name) → f x ≡ lookup (pointwise nat_eq x) (ds ++ (name, v) ∷ [])
kept f name v ds has h x =
    stays (f x) (pointwise nat_eq x name) v (λ same. ap (λ y. is_some (f y)) (same_name x name same) ∙ has)
    ∙ ap (λ o. or_else o (cond (pointwise nat_eq x name) (Some v) None)) (h x) ∙ sym (one_more x name v ds)

-- a name that has none takes it
pub taken : {K V : Type 0} (bytes : K → Name) (es : List (K × V)) (k : K) (name : Name) (v : V) (ds : List (Name × V)) → bytes k ≡ name → lookup (at bytes name) es ≡ None →
    ((x : Name) → lookup (at bytes x) es ≡ lookup (pointwise nat_eq x) ds) →
    (x : Name) → lookup (at bytes x) (insert_entry (order bytes) es k v) ≡ lookup (pointwise nat_eq x) (ds ++ (name, v) ∷ [])
taken bytes es k name v ds named free h x =
    inserted bytes es k v x
    ∙ ap (λ bs. cond (is_eq (slice_cmp nat_cmp x bs)) (Some v) (lookup (at bytes x) es)) named
    ∙ ap (λ b. cond b (Some v) (lookup (at bytes x) es)) (is_eq-slice_cmp x name)
    ∙ grows (lookup (at bytes x) es) (pointwise nat_eq x name) v (λ same. ap (λ y. lookup (at bytes y) es) (same_name x name same) ∙ free)
    ∙ ap (λ o. or_else o (cond (pointwise nat_eq x name) (Some v) None)) (h x) ∙ sym (one_more x name v ds)
