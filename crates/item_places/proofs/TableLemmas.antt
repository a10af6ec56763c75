-- What a table keeps when a slot is written.
use Rattle.std.proofs.Common.{◌≡◌, ◌≢◌, ◌⊎◌, ℕ, zero, suc, ◌+◌, ◌<◌, ◌≤◌, List, [], ◌∷◌, ◌++◌, length, Bool, true, false, cond, refl, sym, ap, ◌∙◌, inl, inr, subst, arith, count_by, set, get_or-set_same, get_or-set_other, take}
use Rattle.std.proofs.lemmas.Bool.{cases_eq}
use Rattle.std.proofs.lemmas.List.Sums.{sum_by-cons, sum_by-set, count_by_more_yes, count_by_more_no}
use Rattle.std.proofs.lemmas.List.{get_or_past}
use Rattle.item_places.specs.declared.places.Slot.{Slot}
use Rattle.item_places.specs.declared.places.Slot.TheVariants.{Empty, Dead, Held}
use Rattle.item_places.specs.Table.{Moves, home, slot_at, is_empty, is_held, HeldAt, Has, IsOnce, IsTable, Gains, Loses, SameHeld}

-- among more empty slots than h, one lies at or after h
pub empty_after : (xs : List Slot) (h : ℕ) → h < count_by is_empty xs → (j : ℕ) × (h ≤ j) × (j < length xs) × (slot_at xs j ≡ Empty)
empty_after [] h lt = absurd (omega arith)
empty_after (Empty ∷ xs) zero lt = (0, omega arith, omega arith, refl)
empty_after (Dead ∷ xs) zero lt =
    let more = empty_after xs zero (omega (arith, sum_by-cons (λ x. cond (is_empty x) 1 0) Dead xs)) in
    (suc more.0, omega arith, omega (arith, more.2), more.3)
empty_after (Held q k ∷ xs) zero lt =
    let more = empty_after xs zero (omega (arith, sum_by-cons (λ x. cond (is_empty x) 1 0) (Held q k) xs)) in
    (suc more.0, omega arith, omega (arith, more.2), more.3)
empty_after (x ∷ xs) (suc h) lt =
    let one : cond (is_empty x) 1 0 ≤ 1 = at_most_one (is_empty x) in
    let more = empty_after xs h (omega (arith, sum_by-cons (λ y. cond (is_empty y) 1 0) x xs)) in
    (suc more.0, omega (arith, more.1), omega (arith, more.2), more.3)
  where
    at_most_one : (b : Bool) → cond b 1 0 ≤ 1
    at_most_one true = omega arith
    at_most_one false = omega arith

-- 1 at an empty slot
abbrev pub empty_count : Slot → ℕ
empty_count s = cond (is_empty s) 1 0

pub empty_is_free : (s : Slot) → s ≡ Empty → is_held s ≡ false
empty_is_free s e = ap is_held e

pub held_is_held : (s : Slot) (q k : ℕ) → s ≡ Held q k → is_held s ≡ true
held_is_held s q k e = ap is_held e

-- a held slot is one of the table's
pub held_within : (xs : List Slot) (p q k : ℕ) → HeldAt xs p q k → p < length xs
held_within xs p q k h = grind (arith, get_or_past)

-- what a slot holds after a write
pub held_after : (xs : List Slot) (at : ℕ) (s : Slot) (p q k : ℕ) → at < length xs → HeldAt (set xs at s) p q k → ((p ≡ at) × (s ≡ Held q k)) ⊎ ((p ≢ at) × HeldAt xs p q k)
held_after xs at s p q k lt h =
    elim (cases_eq p at) [
      | inl same ↦ inl (same, sym (get_or-set_same xs at s Empty lt) ∙ ap (slot_at (set xs at s)) (sym same) ∙ h)
      | inr differs ↦ inr (differs, sym (get_or-set_other xs at p s Empty differs) ∙ h)
    ]

-- an item is put into a slot that holds none
module _ (xs : List Slot) (homes free at item place left : ℕ) (is : IsTable xs homes free) (within : at < length xs) (past : home item homes ≤ at) where
  pub table_put : homes ≤ left → left + empty_count (slot_at xs at) ≡ free → ((j : ℕ) → home item homes ≤ j → j < at → is_held (slot_at xs j) ≡ true) → ((p k : ℕ) → HeldAt xs p item k → ⊥) → IsTable (set xs at (Held item place)) homes left
  table_put room count before absent = record {
    free_is = let n = sum_by-set (λ x. cond (is_empty x) 1 0) xs at (Held item place) Empty within in let m = is.free_is in omega arith;
    room = room;
    from_home = λ p q k h. elim (held_after xs at (Held item place) p q k within h) [
      | inl now ↦ let it : item ≡ q = (let e = now.1 in cc) in subst (λ x. home x homes ≤ p) it (subst (λ x. home item homes ≤ x) (sym now.0) past)
      | inr then ↦ is.from_home p q k then.1
    ];
    reached = λ p q k j h lo hi e. elim (cases_eq j at) [
      | inl same ↦ let there : Held item place ≡ Empty = sym (get_or-set_same xs at (Held item place) Empty within) ∙ ap (slot_at (set xs at (Held item place))) (sym same) ∙ e in cc
      | inr differs ↦
          let old : slot_at xs j ≡ Empty = sym (get_or-set_other xs at j (Held item place) Empty differs) ∙ e in
          elim (held_after xs at (Held item place) p q k within h) [
            | inl now ↦
                let it : q ≡ item = (let e' = now.1 in cc) in
                let full : is_held (slot_at xs j) ≡ true = before j (subst (λ x. home x homes ≤ j) it lo) (omega (arith, now.0)) in
                let none : is_held (slot_at xs j) ≡ false = empty_is_free (slot_at xs j) old in
                cc
            | inr then ↦ is.reached p q k j then.1 lo hi old
          ]
    ];
    once = record {
      once = λ p p' q k k' h h'. elim (held_after xs at (Held item place) p q k within h) [
        | inl now ↦ elim (held_after xs at (Held item place) p' q k' within h') [
          | inl now' ↦ now.0 ∙ sym now'.0
          | inr then' ↦ let it : q ≡ item = (let e = now.1 in cc) in absurd (absent p' k' (subst (λ x. HeldAt xs p' x k') it then'.1))
        ]
        | inr then ↦ elim (held_after xs at (Held item place) p' q k' within h') [
          | inl now' ↦ let it : q ≡ item = (let e = now'.1 in cc) in absurd (absent p k (subst (λ x. HeldAt xs p x k) it then.1))
          | inr then' ↦ is.once.once p p' q k k' then.1 then'.1
        ]
      ];
    };
  }

-- an item is taken out of its slot
pub table_dropped : (xs : List Slot) (homes free at item place : ℕ) → IsTable xs homes free → HeldAt xs at item place → IsTable (set xs at Dead) homes free
table_dropped xs homes free at item place is here =
    let within : at < length xs = held_within xs at item place here in
    let old : (p q k : ℕ) → HeldAt (set xs at Dead) p q k → HeldAt xs p q k = λ p q k h. elim (held_after xs at Dead p q k within h) [
      | inl now ↦ let e = now.1 in cc
      | inr then ↦ then.1
    ] in record {
      free_is =
          let n = sum_by-set (λ x. cond (is_empty x) 1 0) xs at Dead Empty within in
          let m = is.free_is in
          let o : empty_count (slot_at xs at) ≡ empty_count (Held item place) = ap empty_count here in
          omega arith;
      room = is.room;
      from_home = λ p q k h. is.from_home p q k (old p q k h);
      reached = λ p q k j h lo hi e. elim (cases_eq j at) [
        | inl same ↦ let there : Dead ≡ Empty = sym (get_or-set_same xs at Dead Empty within) ∙ ap (slot_at (set xs at Dead)) (sym same) ∙ e in cc
        | inr differs ↦ is.reached p q k j (old p q k h) lo hi (sym (get_or-set_other xs at j Dead Empty differs) ∙ e)
      ];
      once = record { once = λ p p' q k k' h h'. is.once.once p p' q k k' (old p q k h) (old p' q k' h') };
    }

pub held_dropped : (xs : List Slot) (at item place : ℕ) → IsOnce xs → HeldAt xs at item place → Loses xs (set xs at Dead) item
held_dropped xs at item place is here =
    let within : at < length xs = held_within xs at item place here in
    record {
      kept = λ q k h differs.
          let away : h.0 ≢ at = λ same. let there : Held item place ≡ Held q k = sym here ∙ ap (slot_at xs) (sym same) ∙ h.1 in differs (let e : item ≡ q = cc in sym e) in
          (h.0, get_or-set_other xs at h.0 Dead Empty away ∙ h.1);
      gone = λ k h. elim (held_after xs at Dead h.0 item k within h.1) [
        | inl now ↦ let e = now.1 in cc
        | inr then ↦ then.0 (is.once h.0 at item k place then.1 here)
      ];
      only = λ q k h. elim (held_after xs at Dead h.0 q k within h.1) [
        | inl now ↦ let e = now.1 in cc
        | inr then ↦ (h.0, then.1)
      ];
    }

pub not_empty : (s : Slot) → (s ≡ Empty → ⊥) → empty_count s ≡ 0
not_empty Empty h = absurd (h refl)
not_empty Dead h = refl
not_empty (Held q k) h = refl

pub empty_counts : (s : Slot) → s ≡ Empty → empty_count s ≡ 1
empty_counts s e = ap empty_count e

-- the slots before `at` are in the new table
pub record IsRefilled (from to : List Slot) (homes at free : ℕ) : Type 0 where
  pub table : IsTable to homes free
  pub kept : (p q k : ℕ) → p < at → HeldAt from p q k → Has to q k
  pub only : (q k : ℕ) → Has to q k → (p : ℕ) × (p < at) × HeldAt from p q k
  pub count : count_by is_held to ≡ count_by is_held (take at from)
  pub left : length to ≤ free + count_by is_held (take at from)

module _ (from to : List Slot) (homes at free : ℕ) (is : IsRefilled from to homes at free) where
  -- the next item is not there yet
  pub refill_fresh : (q k : ℕ) → IsOnce from → HeldAt from at q k → (p j : ℕ) → HeldAt to p q j → ⊥
  refill_fresh q k once here p j h =
      let old = is.only q j (p, h) in
      let same : old.0 ≡ at = once.once old.0 at q j k old.2 here in
      omega (arith, old.1)

  pub refill_held : (to' : List Slot) (free' q k : ℕ) → at < length from → HeldAt from at q k → IsTable to' homes free' → Gains to to' q k → count_by is_held to' ≡ count_by is_held to + 1 → free ≤ free' + 1 → length to' ≡ length to → IsRefilled from to' homes (at + 1) free'
  refill_held to' free' q k lt here table gains count left long =
      let yes : is_held (slot_at from at) ≡ true = held_is_held (slot_at from at) q k here in
      let more = count_by_more_yes is_held from at Empty lt yes in
      let n = is.count in let m = is.left in record {
        table = table;
        kept = λ p q' k' below h. elim (cases_eq p at) [
          | inl same ↦
              let there : Held q k ≡ Held q' k' = sym here ∙ ap (slot_at from) (sym same) ∙ h in
              let eq : q ≡ q' = cc in
              let ek : k ≡ k' = cc in
              subst (λ x. Has to' x k') eq (subst (λ x. Has to' q x) ek gains.here)
          | inr differs ↦ gains.kept q' k' (is.kept p q' k' (omega arith) h)
        ];
        only = λ q' k' h. elim (gains.only q' k' h) [
          | inl old ↦ let o = is.only q' k' old in (o.0, omega (arith, o.1), o.2)
          | inr new ↦ (at, omega arith, here ∙ ap (λ x. Held x k) (sym new.0) ∙ ap (λ x. Held q' x) (sym new.1))
        ];
        count = omega arith;
        left = omega arith;
      }

  pub refill_other : at < length from → is_held (slot_at from at) ≡ false → IsRefilled from to homes (at + 1) free
  refill_other lt unheld =
      let more = count_by_more_no is_held from at Empty lt unheld in
      let n = is.count in let m = is.left in record {
        table = is.table;
        kept = λ p q k below h. elim (cases_eq p at) [
          | inl same ↦ let yes : is_held (slot_at from at) ≡ true = ap (λ x. is_held (slot_at from x)) (sym same) ∙ held_is_held (slot_at from p) q k h in absurd (cc)
          | inr differs ↦ is.kept p q k (omega arith) h
        ];
        only = λ q k h. let o = is.only q k h in (o.0, omega (arith, o.1), o.2);
        count = omega arith;
        left = omega arith;
      }

  pub refill_done : length from ≤ at → SameHeld from to
  refill_done past = record {
    kept = λ q k h. is.kept h.0 q k (omega (arith, held_within from h.0 q k h.1)) h.1;
    only = λ q k h. let o = is.only q k h in (o.0, o.2);
  }

pub not_held : (s : Slot) → ((q k : ℕ) → s ≡ Held q k → ⊥) → is_held s ≡ false
not_held Empty h = refl
not_held Dead h = refl
not_held (Held q k) h = absurd (h q k refl)

pub absent_after : (xs ys zs v : List Slot) (item : ℕ) → SameHeld xs ys → zs ≡ ys → xs ≡ v → ((k : ℕ) → Has v item k → ⊥) → (p k : ℕ) → HeldAt zs p item k → ⊥
absent_after xs ys zs v item same e d absent p k h =
    absent k (subst (λ l. Has l item k) d (same.only item k (p, subst (λ l. HeldAt l p item k) e h)))

pub gains_after : (v xs ys ys' zs zs' : List Slot) (item place : ℕ) → xs ≡ v → SameHeld xs ys → ys' ≡ ys → Gains ys' zs item place → zs' ≡ zs → Gains v zs' item place
gains_after v xs ys ys' zs zs' item place d same e g f =
    let back : (q k : ℕ) → Has ys' q k → Has v q k = λ q k h. subst (λ l. Has l q k) d (same.only q k (subst (λ l. Has l q k) e h)) in
    subst (λ l. Gains v l item place) (sym f) (record {
      kept = λ q k h. g.kept q k (subst (λ l. Has l q k) (sym e) (same.kept q k (subst (λ l. Has l q k) (sym d) h)));
      here = g.here;
      only = λ q k h. elim (g.only q k h) [ inl old ↦ inl (back q k old) | inr new ↦ inr new ];
    })

pub take_own : (xs zs : List Slot) (n : ℕ) → n ≡ length xs → take n (xs ++ zs) ≡ xs
take_own [] zs zero e = refl
take_own [] zs (suc n) e = absurd (omega arith)
take_own (x ∷ xs) zs zero e = absurd (omega arith)
take_own (x ∷ xs) zs (suc n) e = ap (λ l. x ∷ l) (take_own xs zs n (omega arith))

-- 1 at a slot that holds an item
abbrev pub held_count : Slot → ℕ
held_count s = cond (is_held s) 1 0

-- a slot that holds an item counts
pub dropped_counts : (xs : List Slot) (at q k : ℕ) → HeldAt xs at q k → count_by is_held (set xs at Dead) + 1 ≡ count_by is_held xs
dropped_counts xs at q k here =
    let within = held_within xs at q k here in
    let n = sum_by-set (λ x. cond (is_held x) 1 0) xs at Dead Empty within in
    let o : held_count (slot_at xs at) ≡ held_count (Held q k) = ap held_count here in
    omega arith

-- an item gets another place
module _ (xs : List Slot) (at item old place : ℕ) (here : HeldAt xs at item old) where
  within' : at < length xs
  within' = held_within xs at item old here

  was : (p q k : ℕ) → HeldAt (set xs at (Held item place)) p q k → (j : ℕ) × HeldAt xs p q j
  was p q k h = elim (held_after xs at (Held item place) p q k within' h) [
    | inl now ↦
        let it : item ≡ q = (let e = now.1 in cc) in
        (old, ap (slot_at xs) now.0 ∙ here ∙ ap (λ x. Held x old) it)
    | inr then ↦ (k, then.1)
  ]

  pub table_moved : (homes free : ℕ) → IsTable xs homes free → IsTable (set xs at (Held item place)) homes free
  table_moved homes free is = record {
    free_is =
        let n = sum_by-set (λ x. cond (is_empty x) 1 0) xs at (Held item place) Empty within' in
        let m = is.free_is in
        let o : empty_count (slot_at xs at) ≡ empty_count (Held item old) = ap empty_count here in
        omega arith;
    room = is.room;
    from_home = λ p q k h. let w = was p q k h in is.from_home p q w.0 w.1;
    reached = λ p q k j h lo hi e. elim (cases_eq j at) [
      | inl same ↦ let there : Held item place ≡ Empty = sym (get_or-set_same xs at (Held item place) Empty within') ∙ ap (slot_at (set xs at (Held item place))) (sym same) ∙ e in cc
      | inr differs ↦ let w = was p q k h in is.reached p q w.0 j w.1 lo hi (sym (get_or-set_other xs at j (Held item place) Empty differs) ∙ e)
    ];
    once = record { once = λ p p' q k k' h h'. let w = was p q k h in let w' = was p' q k' h' in is.once.once p p' q w.0 w'.0 w.1 w'.1 };
  }

  pub held_moved : IsOnce xs → Moves xs (set xs at (Held item place)) item place
  held_moved is = record {
    kept = λ q k h differs.
        let away : h.0 ≢ at = λ same. let there : Held item old ≡ Held q k = sym here ∙ ap (slot_at xs) (sym same) ∙ h.1 in differs (let e : item ≡ q = cc in sym e) in
        (h.0, get_or-set_other xs at h.0 (Held item place) Empty away ∙ h.1);
    here = (at, get_or-set_same xs at (Held item place) Empty within');
    only = λ q k h. elim (held_after xs at (Held item place) h.0 q k within' h.1) [
      | inl now ↦ inr ((let e = now.1 in cc), (let e = now.1 in cc))
      | inr then ↦ inl ((h.0, then.1), λ same. then.0 (is.once h.0 at item k old (subst (λ x. HeldAt xs h.0 x k) same then.1) here))
    ];
  }

  pub moved_counts : count_by is_held (set xs at (Held item place)) ≡ count_by is_held xs
  moved_counts =
      let n = sum_by-set (λ x. cond (is_held x) 1 0) xs at (Held item place) Empty within' in
      let o : held_count (slot_at xs at) ≡ held_count (Held item old) = ap held_count here in
      omega arith
