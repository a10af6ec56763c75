-- One name more of a list.
use Rattle.std.proofs.Common.{◌≡◌, refl, sym, ap, ◌∙◌, ℕ, Bool, true, false, ◌||◌, not, if◌then◌else◌, cond, List, [], ◌∷◌, ◌++◌, map, nat_eq, Some, None, Option, append_assoc, append-nil}
use Rattle.std.specs.Cmp.Lexicographic.{pointwise}
use Rattle.std.specs.Map.{lookup}
use Rattle.std.specs.Option.{is_some, is_none}
use Rattle.gv_values.specs.declared.name.Name.{Name}
use Rattle.scenario_rules.specs.declared.mention.Named.{Named}
use Rattle.scenario_rules.specs.Declarations.{different, is_among, new_after, repeated, repeated_after}
use Rattle.scenario_check.specs.Sorting.{pair}

pub known_by : (x : Name) (ns : List Named) → is_some (lookup (pointwise nat_eq x) (map pair ns)) ≡ is_among x ns
known_by x [] = refl
known_by x (n ∷ ns) = by (pointwise nat_eq x n.name) (lookup (pointwise nat_eq x) (map pair ns)) (is_among x ns) (known_by x ns)
  where
    by : (b : Bool) (o : Option ℕ) (c : Bool) → is_some o ≡ c → is_some (cond b (Some n.line) o) ≡ (b || c)
    by true o c h = refl
    by false o c h = h

pub among_by : (f : Name → Option ℕ) (before : List Named) → ((x : Name) → f x ≡ lookup (pointwise nat_eq x) (map pair before)) → (x : Name) → is_some (f x) ≡ is_among x before
among_by f before h x = ap is_some (h x) ∙ known_by x before

pub pair_more : (before : List Named) (n : Named) → map pair before ++ (n.name, n.line) ∷ [] ≡ map pair (before ++ n ∷ [])
pair_more [] n = refl
pair_more (m ∷ before) n = ap (λ ps. pair m ∷ ps) (pair_more before n)

abbrev new_if : Bool → Named → List Named
new_if b n = if b then [] else n ∷ []

abbrev repeated_if : Bool → Named → List Named
repeated_if b n = if b then n ∷ [] else []

new_more : (b xs : List Named) (n : Named) → new_after b (xs ++ n ∷ []) ≡ new_after b xs ++ new_if (is_among n.name (b ++ xs)) n
new_more b [] n = append-nil (new_if (is_among n.name b) n) ∙ ap (λ ys. new_if (is_among n.name ys) n) (sym (append-nil b))
new_more b (x ∷ xs) n =
    ap (λ ys. new_if (is_among x.name b) x ++ ys) (new_more (b ++ x ∷ []) xs n)
    ∙ ap (λ ys. new_if (is_among x.name b) x ++ (new_after (b ++ x ∷ []) xs ++ new_if (is_among n.name ys) n)) (append_assoc b (x ∷ []) xs)
    ∙ sym (append_assoc (new_if (is_among x.name b) x) (new_after (b ++ x ∷ []) xs) (new_if (is_among n.name (b ++ x ∷ xs)) n))

again_more : (b xs : List Named) (n : Named) → repeated_after b (xs ++ n ∷ []) ≡ repeated_after b xs ++ repeated_if (is_among n.name (b ++ xs)) n
again_more b [] n = append-nil (repeated_if (is_among n.name b) n) ∙ ap (λ ys. repeated_if (is_among n.name ys) n) (sym (append-nil b))
again_more b (x ∷ xs) n =
    ap (λ ys. repeated_if (is_among x.name b) x ++ ys) (again_more (b ++ x ∷ []) xs n)
    ∙ ap (λ ys. repeated_if (is_among x.name b) x ++ (repeated_after (b ++ x ∷ []) xs ++ repeated_if (is_among n.name ys) n)) (append_assoc b (x ∷ []) xs)
    ∙ sym (append_assoc (repeated_if (is_among x.name b) x) (repeated_after (b ++ x ∷ []) xs) (repeated_if (is_among n.name (b ++ x ∷ xs)) n))

not_none : (o : Option ℕ) (b : Bool) → is_none o ≡ b → is_some o ≡ not b
not_none None b h = ap not h
not_none (Some n) b h = ap not h

-- whether the name was new says which list grows
pub new_by : (f : Name → Option ℕ) (before : List Named) (n : Named) (b : Bool) → ((x : Name) → f x ≡ lookup (pointwise nat_eq x) (map pair before)) → is_none (f n.name) ≡ b →
    different (before ++ n ∷ []) ≡ different before ++ new_if (not b) n
new_by f before n b h k = new_more [] before n ∙ ap (λ z. different before ++ new_if z n) (sym (among_by f before h n.name) ∙ not_none (f n.name) b k)

pub repeated_by : (f : Name → Option ℕ) (before : List Named) (n : Named) (b : Bool) → ((x : Name) → f x ≡ lookup (pointwise nat_eq x) (map pair before)) → is_none (f n.name) ≡ b →
    repeated (before ++ n ∷ []) ≡ repeated before ++ repeated_if (not b) n
repeated_by f before n b h k = again_more [] before n ∙ ap (λ z. repeated before ++ repeated_if z n) (sym (among_by f before h n.name) ∙ not_none (f n.name) b k)
