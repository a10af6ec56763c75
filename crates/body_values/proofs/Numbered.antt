-- What is looked up in a table of numbers.
use Rattle.std.proofs.Common.{◌≡◌, refl, ap, sym, ◌∙◌, ℕ, ◌+◌, ◌<◌, Bool, true, false, cond, List, [], ◌∷◌, ◌++◌, length, map, take, get_or, nat_eq, Some, unwrap_or, if◌then◌else◌, arith}
use Rattle.std.proofs.lemmas.List.{length-map, length-take, map-append, take_more}
use Rattle.std.specs.Cmp.Lexicographic.{pointwise}
use Rattle.std.specs.Map.{lookup}
use Rattle.gv_values.specs.declared.name.Name.{Name}
use Rattle.scenario_tree.specs.declared.tree.Declaration.{Declaration}
use Rattle.scenario_tree.specs.declared.tree.Function.{Function}
use Rattle.machine.specs.Expressions.{name_eq, object_number, function_number}
use Rattle.name_table.specs.Tables.{found, Holds}
use Rattle.name_table.specs.declared.names.Names.{Names}
use Rattle.body_values.specs.Numbers.{numbered, NumbersObjects, NumbersFunctions}

-- the place of a name in a list, and past the end where there is none
abbrev place : Name → List Name → ℕ
place x [] = 0
place x (y ∷ ys) = if name_eq x y then 0 else place x ys + 1

looked_up : (x : Name) (n : ℕ) (ys : List Name) → unwrap_or (lookup (pointwise nat_eq x) (numbered n ys)) (n + length ys) ≡ n + place x ys
looked_up x n [] = refl
looked_up x n (y ∷ ys) = by (pointwise nat_eq x y) (looked_up x (n + 1) ys)
  where
    by : (b : Bool) → unwrap_or (lookup (pointwise nat_eq x) (numbered (n + 1) ys)) (n + 1 + length ys) ≡ n + 1 + place x ys →
        unwrap_or (cond b (Some n) (lookup (pointwise nat_eq x) (numbered (n + 1) ys))) (n + length (y ∷ ys)) ≡ n + (if b then 0 else place x ys + 1)
    by true h = omega arith
    by false h =
        let all : n + length (y ∷ ys) ≡ n + 1 + length ys = omega arith in
        ap (unwrap_or (lookup (pointwise nat_eq x) (numbered (n + 1) ys))) all ∙ h ∙ omega arith

objects_place : (x : Name) (ds : List Declaration) → place x (map (λ d. d.name) ds) ≡ object_number x ds
objects_place x [] = refl
objects_place x (d ∷ ds) = ap (λ n. if name_eq x d.name then 0 else n + 1) (objects_place x ds)

functions_place : (x : Name) (fs : List Function) → place x (map (λ f. f.name) fs) ≡ function_number x fs
functions_place x [] = refl
functions_place x (f ∷ fs) = ap (λ n. if name_eq x f.name then 0 else n + 1) (functions_place x fs)

-- an object is found by its name
pub object_found : (numbers : Names ℕ) (ds : List Declaration) (x : Name) → NumbersObjects numbers ds → unwrap_or (found numbers x) (length ds) ≡ object_number x ds
object_found numbers ds x holds =
    let own : List Name = map (λ d. d.name) ds in
    let count : length own ≡ length ds = length-map ds (λ d. d.name) in
    let past : length ds ≡ 0 + length own = omega (arith, count) in
    let same : place x own ≡ object_number x ds = objects_place x ds in
    let first : 0 + place x own ≡ object_number x ds = omega (arith, same) in
    ap (λ o. unwrap_or o (length ds)) (holds x) ∙ ap (unwrap_or (lookup (pointwise nat_eq x) (numbered 0 own))) past ∙ looked_up x 0 own ∙ first

-- a function is found by its name
pub function_found : (numbers : Names ℕ) (fs : List Function) (x : Name) → NumbersFunctions numbers fs → unwrap_or (found numbers x) (length fs) ≡ function_number x fs
function_found numbers fs x holds =
    let own : List Name = map (λ f. f.name) fs in
    let count : length own ≡ length fs = length-map fs (λ f. f.name) in
    let past : length fs ≡ 0 + length own = omega (arith, count) in
    let same : place x own ≡ function_number x fs = functions_place x fs in
    let first : 0 + place x own ≡ function_number x fs = omega (arith, same) in
    ap (λ o. unwrap_or o (length fs)) (holds x) ∙ ap (unwrap_or (lookup (pointwise nat_eq x) (numbered 0 own))) past ∙ looked_up x 0 own ∙ first

-- ---- a name more

numbered-push : (n : ℕ) (xs : List Name) (x : Name) → numbered n (xs ++ x ∷ []) ≡ numbered n xs ++ (x, n + length xs) ∷ []
numbered-push n [] x = let same : n ≡ n + 0 = omega arith in ap (λ m. (x, m) ∷ []) same
numbered-push n (y ∷ ys) x =
    let same : n + 1 + length ys ≡ n + length (y ∷ ys) = omega arith in
    ap (λ (ps : List (Name × ℕ)). (y, n) ∷ ps) (numbered-push (n + 1) ys x) ∙ ap (λ m. (y, n) ∷ numbered (n + 1) ys ++ (x, m) ∷ []) same

numbered_more : {X : Type 0} (name : X → Name) (xs : List X) (i : ℕ) (d : X) → i < length xs →
    numbered 0 (map name (take i xs)) ++ (name (get_or xs i d), i) ∷ [] ≡ numbered 0 (map name (take (i + 1) xs))
numbered_more name xs i d h =
    let before : List Name = map name (take i xs) in
    let mapped : length before ≡ length (take i xs) = length-map (take i xs) name in
    let cut = length-take i xs in
    let count : i ≡ 0 + length before = omega (arith, h, mapped, cut) in
    let joined : before ++ name (get_or xs i d) ∷ [] ≡ map name (take (i + 1) xs) = sym (map-append name (take i xs) (get_or xs i d ∷ [])) ∙ ap (map name) (sym (take_more xs i d h)) in
    ap (λ m. numbered 0 before ++ (name (get_or xs i d), m) ∷ []) count ∙ sym (numbered-push 0 before (name (get_or xs i d))) ∙ ap (numbered 0) joined

-- the table has one number more
pub number_given : {X : Type 0} (name : X → Name) (numbers : Names ℕ) (xs : List X) (i : ℕ) (d : X) (x : Name) → i < length xs → x ≡ name (get_or xs i d) →
    Holds numbers (numbered 0 (map name (take i xs)) ++ (x, i) ∷ []) → Holds numbers (numbered 0 (map name (take (i + 1) xs)))
number_given name numbers xs i d x h same holds =
    let more : numbered 0 (map name (take i xs)) ++ (x, i) ∷ [] ≡ numbered 0 (map name (take (i + 1) xs)) =
    ap (λ y. numbered 0 (map name (take i xs)) ++ (y, i) ∷ []) same ∙ numbered_more name xs i d h in
    λ y. holds y ∙ ap (lookup (pointwise nat_eq y)) more
