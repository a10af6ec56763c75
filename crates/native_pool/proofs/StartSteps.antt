-- What starting the workers comes to.
use Rattle.std.proofs.Common.{◌≡◌, inl, inr, ℕ, zero, suc, ◌+◌, ◌<◌, ◌≤◌, Bool, List, [], ◌∷◌, ◌++◌, map, length, get_or, refl, sym, ap, ◌∙◌, subst, arith, append_assoc}
use Rattle.std.specs.List.{remove}
use Rattle.std.specs.Prelude.{All, Result, Ok, Err, is_ok, IfOk, IfErr, OnErr}
use Rattle.std.proofs.lemmas.List.{map_push}
use Rattle.std.proofs.lemmas.List.Elements.{All-weaker, All-push}
use Rattle.gv_values.specs.Counts.{HasRisen}
use Rattle.native_pool.specs.Pools.{told_cell, numbers_from, RefusedWhereRisen}
use Rattle.native_pool.specs.Views.{start_cell}

pub numbers_push : (b n : ℕ) → numbers_from b (n + 1) ≡ numbers_from b n ++ (b + n) ∷ []
numbers_push b zero = let same : b ≡ b + 0 = omega arith in ap (λ k. k ∷ []) same
numbers_push b (suc n) =
    let more : suc n + 1 ≡ suc (n + 1) = omega arith in let last : suc b + n ≡ b + suc n = omega arith in
    ap (numbers_from b) more ∙ (ap (λ l. b ∷ l) (numbers_push (suc b) n) ∙ ap (λ k. b ∷ (numbers_from (suc b) n ++ k ∷ [])) last)

-- a task more, of the next cell
pub cells_more : {X : Type 0} (f : X → ℕ) (xs ys : List X) (x : X) (n : ℕ) → ys ≡ xs ++ x ∷ [] → map f xs ≡ numbers_from 0 n → f x ≡ n → map f ys ≡ numbers_from 0 (n + 1)
cells_more f xs ys x n more cells one =
    let last : f x ≡ 0 + n = let o = one in omega (arith, o) in
    ap (map f) more ∙ (map_push f xs x ∙ (ap (λ l. l ++ f x ∷ []) cells ∙ (ap (λ k. numbers_from 0 n ++ k ∷ []) last ∙ sym (numbers_push 0 n))))

told_start : {R F : Type 0} (running : R → ℕ) (refused : F → ℕ) (start : Result R F) (n : ℕ) → IfOk start (λ r. running r ≡ n) → IfErr start (λ f. refused f ≡ n)
    → told_cell (start_cell running refused start) ≡ n
told_start running refused (Ok r) n a b = a
told_start running refused (Err f) n a b = b

ok_start : {R F : Type 0} (running : R → ℕ) (refused : F → ℕ) (start : Result R F) → is_ok (start_cell running refused start) ≡ is_ok start
ok_start running refused (Ok r) = refl
ok_start running refused (Err f) = refl

-- the cells of which the starts told, and those of the tasks that are left
pub told_more : {R F X : Type 0} (running : R → ℕ) (refused : F → ℕ) (starts more : List (Result R F)) (start : Result R F) (cell : X → ℕ) (tasks left : List X) (t : X) (all : List ℕ)
    → more ≡ starts ++ start ∷ [] → tasks ≡ t ∷ left → IfOk start (λ r. running r ≡ cell t) → IfErr start (λ f. refused f ≡ cell t)
    → map told_cell (map (start_cell running refused) starts) ++ map cell tasks ≡ all
    → map told_cell (map (start_cell running refused) more) ++ map cell left ≡ all
told_more running refused starts more start cell tasks left t all is taken a b cells =
    let sc = start_cell running refused in
    let told = told_start running refused start (cell t) a b in
    let seen : map told_cell (map sc more) ≡ map told_cell (map sc starts) ++ cell t ∷ [] =
    ap (λ l. map told_cell (map sc l)) is ∙ (ap (map told_cell) (map_push sc starts start) ∙ (map_push told_cell (map sc starts) (sc start) ∙ ap (λ k. map told_cell (map sc starts) ++ k ∷ []) told)) in
    ap (λ l. l ++ map cell left) seen ∙ (append_assoc (map told_cell (map sc starts)) (cell t ∷ []) (map cell left) ∙ (ap (λ l. map told_cell (map sc starts) ++ map cell l) (sym taken) ∙ cells))

pub started_more : {R F : Type 0} (running : R → ℕ) (refused : F → ℕ) (starts more : List (Result R F)) (start : Result R F) (started after : List Bool)
    → more ≡ starts ++ start ∷ [] → after ≡ started ++ is_ok start ∷ [] → started ≡ map (λ (s : Result ℕ ℕ). is_ok s) (map (start_cell running refused) starts)
    → after ≡ map (λ (s : Result ℕ ℕ). is_ok s) (map (start_cell running refused) more)
started_more running refused starts more start started after is pushed h =
    let sc = start_cell running refused in let ok = λ (s : Result ℕ ℕ). is_ok s in
    pushed ∙ (ap (λ l. l ++ is_ok start ∷ []) h ∙ (ap (λ b. map ok (map sc starts) ++ b ∷ []) (sym (ok_start running refused start))
    ∙ (sym (map_push ok (map sc starts) (sc start)) ∙ (ap (map ok) (sym (map_push sc starts start)) ∙ ap (λ l. map ok (map sc l)) (sym is)))))

risen_on : (a b c : ℕ) → a ≤ b → b ≤ c → HasRisen a b → HasRisen a c
risen_on a b c before after risen = grind arith

risen_since : (a b c : ℕ) → a ≤ b → b ≤ c → HasRisen b c → HasRisen a c
risen_since a b c l m (inl h) = inl (omega (arith, l, h))
risen_since a b c l m (inr h) = inr h

refused_on : (a b c : ℕ) → a ≤ b → b ≤ c → (s : Result ℕ ℕ) → IfErr s (λ cell. HasRisen a b) → IfErr s (λ cell. HasRisen a c)
refused_on a b c l m (Ok x) h = h
refused_on a b c l m (Err x) h = risen_on a b c l m h

refused_now : {R F : Type 0} (running : R → ℕ) (refused : F → ℕ) (a b c : ℕ) → a ≤ b → b ≤ c → (start : Result R F) → OnErr start (HasRisen b c)
    → IfErr (start_cell running refused start) (λ cell. HasRisen a c)
refused_now running refused a b c l m (Ok r) h = h
refused_now running refused a b c l m (Err f) h = risen_since a b c l m h

-- a start more, which raised the count where it was refused
pub risen_more : {R F : Type 0} (running : R → ℕ) (refused : F → ℕ) (starts more : List (Result R F)) (start : Result R F) (a b c : ℕ) → more ≡ starts ++ start ∷ [] → a ≤ b → b ≤ c
    → OnErr start (HasRisen b c) → RefusedWhereRisen a b (map (start_cell running refused) starts) → RefusedWhereRisen a c (map (start_cell running refused) more)
risen_more running refused starts more start a b c is l m now h =
    let sc = start_cell running refused in let P = λ (s : Result ℕ ℕ). IfErr s (λ cell. HasRisen a c) in
    subst (All P) (sym (map_push sc starts start) ∙ ap (map sc) (sym is))
    (All-push P (map sc starts) (sc start) (All-weaker (λ (s : Result ℕ ℕ). IfErr s (λ cell. HasRisen a b)) P (refused_on a b c l m) (map sc starts) h)
    (refused_now running refused a b c l m start now))

-- the first of a list, and the others
pub first_off : {X : Type 0} (xs ys : List X) (x : X) → 0 < length xs → x ≡ get_or xs 0 x → ys ≡ remove xs 0 → xs ≡ x ∷ ys
first_off [] ys x l value items = absurd (omega (arith, l))
first_off (z ∷ xs) ys x l value items = ap (λ u. u ∷ xs) (sym value) ∙ ap (λ u. x ∷ u) (sym items)
