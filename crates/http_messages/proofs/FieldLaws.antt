-- Fields added to an environ one after the other.
use Rattle.std.proofs.Common.{◌≡◌, ◌+◌, ℕ, zero, suc, ◌<◌, ◌≤◌, Bool, true, false, cond, List, [], ◌∷◌, ◌++◌, length, map, filter, fold, refl, sym, ap, ◌∙◌, arith, get_or, set, take, Option, Some, None}
use Rattle.std.specs.Prelude.{◌&&◌, not, slice_get}
use Rattle.std.specs.List.{list_any, position, position_or_len}
use Rattle.std.specs.Str.{bytes_eq}
use Rattle.std.proofs.lemmas.List.{map-append, take_more}
use Rattle.std.proofs.lemmas.List.Elements.{filter-append}
use Rattle.std.proofs.lemmas.Bool.{cond-true, cond-false}
use Rattle.std.proofs.lemmas.Grind.{common_steps}
use Rattle.std.proofs.lemmas.List.Sums.{fails_before_first, fold-append}
use Rattle.std.proofs.lemmas.Option.{slice_get-get_or}
use Rattle.std.proofs.lemmas.Slice.Eq.{bytes_eq-Decides}
use Rattle.http_messages.specs.declared.environ.KeyClass.{KeyClass}
use Rattle.http_messages.specs.declared.environ.KeyClass.TheVariants.{ContentType, ContentLength, Other}
use Rattle.http_messages.specs.Environ.{Pair, environ_of, field_pairs, is_in, is_kept, is_underscore, joint, key_of, pair_of, pairs_of_class, request_pairs, with_pair}
use Rattle.http_messages.specs.Fields.{is_of}

module _ (class : KeyClass) (start : List Pair) where
  -- the environ with the fields of the class
  abbrev pub added : List Pair → List Pair
  added fields = fold with_pair start (pairs_of_class class (field_pairs fields))

  -- one field more
  pub added_one : (fields : List Pair) (p : Pair) → added (fields ++ p ∷ []) ≡ cond (is_of class p.0) (with_pair (added fields) (key_of p.0, p.1)) (added fields)
  added_one fields p =
      ap (λ (l : List Pair). fold with_pair start (filter of_class (map pair_of l))) (filter-append is_kept fields (p ∷ []))
      ∙ ap (λ (l : List Pair). fold with_pair start (filter of_class l)) (map-append pair_of (filter is_kept fields) (filter is_kept (p ∷ [])))
      ∙ ap (fold with_pair start) (filter-append of_class (field_pairs fields) (map pair_of (filter is_kept (p ∷ []))))
      ∙ fold-append with_pair start (pairs_of_class class (field_pairs fields)) (filter of_class (map pair_of (filter is_kept (p ∷ []))))
      ∙ kept (list_any is_underscore p.0)
    where
      of_class : Pair → Bool
      of_class q = is_in class q.0

      in_class : (u : Bool) → fold with_pair (added fields) (cond u (pair_of p ∷ []) []) ≡ cond u (with_pair (added fields) (pair_of p)) (added fields)
      in_class true = refl
      in_class false = refl

      kept : (t : Bool) → fold with_pair (added fields) (filter of_class (map pair_of (cond (not t) (p ∷ []) [])))
          ≡ cond (not t && is_in class (key_of p.0)) (with_pair (added fields) (pair_of p)) (added fields)
      kept true = refl
      kept false = in_class (is_in class (key_of p.0))

-- the classes one after the other
pub in_order_added : (port : ℕ) (method target : List ℕ) (minor : ℕ) (fields : List Pair)
    → added Other (added ContentLength (added ContentType (request_pairs port method target minor) fields) fields) fields ≡ environ_of port method target minor fields
unfolding environ_of
in_order_added port method target minor fields =
    let of : KeyClass → List Pair = λ class. pairs_of_class class (field_pairs fields) in
    let start = request_pairs port method target minor in
    sym (fold-append with_pair start (of ContentType ++ of ContentLength) (of Other)
    ∙ ap (λ (l : List Pair). fold with_pair l (of Other)) (fold-append with_pair start (of ContentType) (of ContentLength)))

-- the fields up to and with the one at a place
pub field_more : (fields : List Pair) (place : ℕ) (p : Pair) → place < length fields → slice_get fields place ≡ Some p → take (place + 1) fields ≡ take place fields ++ p ∷ []
field_more fields place p inside e =
    let here : get_or fields place p ≡ p = ap (λ (o : Option Pair). elim o [ None ↦ p | Some q ↦ q ]) (sym (slice_get-get_or fields place p inside) ∙ e) in
    take_more fields place p inside ∙ ap (λ (q : Pair). take place fields ++ q ∷ []) here

-- ---- a pair that is put

-- the key has no pair: the new one goes to the end
pub put_new : (pairs : List Pair) (new d : Pair) → ((k : ℕ) → k < length pairs → bytes_eq (get_or pairs k d).0 new.0 ≡ false) → pairs ++ new ∷ [] ≡ with_pair pairs new
put_new [] new d none = refl
put_new (p ∷ pairs) new d none =
    ap (λ (l : List Pair). p ∷ l) (put_new pairs new d (λ k lt. none (suc k) (omega arith)))
    ∙ sym (cond-false (bytes_eq p.0 new.0) ((p.0, p.1 ++ joint p.0 ++ new.1) ∷ pairs) (p ∷ with_pair pairs new) (none 0 (omega arith)))

-- the key has its first pair at the place: the value goes on behind that one's
pub put_behind : (pairs : List Pair) (new d : Pair) (place : ℕ) → place < length pairs → bytes_eq (get_or pairs place d).0 new.0 ≡ true
    → ((k : ℕ) → k < place → bytes_eq (get_or pairs k d).0 new.0 ≡ false)
    → set pairs place ((get_or pairs place d).0, (get_or pairs place d).1 ++ joint new.0 ++ new.1) ≡ with_pair pairs new
put_behind [] new d place inside key before = absurd (omega arith)
put_behind (p ∷ pairs) new d zero inside key before =
    ap (λ (k : List ℕ). (p.0, p.1 ++ joint k ++ new.1) ∷ pairs) (sym ((bytes_eq-Decides p.0 new.0).0 key))
    ∙ sym (cond-true (bytes_eq p.0 new.0) ((p.0, p.1 ++ joint p.0 ++ new.1) ∷ pairs) (p ∷ with_pair pairs new) key)
put_behind (p ∷ pairs) new d (suc n) inside key before =
    ap (λ (l : List Pair). p ∷ l) (put_behind pairs new d n (omega arith) key (λ k lt. before (suc k) (omega arith)))
    ∙ sym (cond-false (bytes_eq p.0 new.0) ((p.0, p.1 ++ joint p.0 ++ new.1) ∷ pairs) (p ∷ with_pair pairs new) (before 0 (omega arith)))

-- no key is found: each differs
pub none_found : (pairs : List Pair) (key : List ℕ) (d : Pair) → position (λ (p : Pair). bytes_eq p.0 key) pairs ≡ None
    → (k : ℕ) → k < length pairs → bytes_eq (get_or pairs k d).0 key ≡ false
none_found pairs key d none k inside =
    let test : Pair → Bool = λ p. bytes_eq p.0 key in
    fails_before_first test pairs k d (let all : length pairs ≤ position_or_len test pairs = grind (arith, common_steps) in omega arith)
