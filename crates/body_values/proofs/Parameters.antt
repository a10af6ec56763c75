-- Parameters by numbers are parameters by names.
use Rattle.std.proofs.Common.{◌≡◌, refl, ap, sym, ◌∙◌, List, [], ◌∷◌, ◌++◌, ℕ, ◌+◌, ◌<◌, get_or, length, map, take}
use Rattle.std.proofs.lemmas.List.{append-nil, map-append, take_more}
use Rattle.gv_values.specs.declared.name.Name.{Name}
use Rattle.gv_values.specs.declared.value.Value.{Value}
use Rattle.scenario_tree.specs.declared.tree.Function.{Function}
use Rattle.machine.specs.declared.state.Local.{Local}
use Rattle.body_locals.specs.declared.locals.Bound.{Bound}
use Rattle.machine.specs.Greenlets.{named}
use Rattle.body_locals.specs.Locals.{locals_of}
use Rattle.body_names.specs.Naming.{name_of}
use Rattle.body_blocks.specs.Trees.{Coded, Grows, joined}
use Rattle.body_blocks.proofs.Growing.{later}
use Rattle.body_values.specs.Parameters.{given}

pub given_named : (names : List Name) (ns : List ℕ) (vs : List Value) → locals_of names (given ns vs) ≡ named (map (name_of names) ns) vs
given_named names [] vs = refl
given_named names (n ∷ ns) [] = refl
given_named names (n ∷ ns) (v ∷ vs) = ap (λ (ls : List Local). record { name = name_of names n; value = v } ∷ ls) (given_named names ns vs)

given_none : (ns : List ℕ) → given ns [] ≡ []
given_none [] = refl
given_none (n ∷ ns) = refl

-- the arguments are at their end
pub given_all : (ns ms : List ℕ) (vs left : List Value) (bs : List Bound) → given ns vs ≡ bs ++ given ms left → left ≡ [] → bs ≡ given ns vs
given_all ns ms vs left bs h none =
    sym (h ∙ ap (λ ls. bs ++ given ms ls) none ∙ ap (λ (xs : List Bound). bs ++ xs) (given_none ms) ∙ append-nil bs)

-- the locals of a function that begins
pub begun_named : (names more : List Name) (ns : List ℕ) (vs : List Value) (bs : List Bound) (f : Function) → bs ≡ given ns vs → more ≡ names → f.parameters ≡ map (name_of names) ns →
    locals_of more bs ≡ named f.parameters vs
begun_named names more ns vs bs f h same own =
    ap (locals_of more) h ∙ ap (λ (xs : List Name). locals_of xs (given ns vs)) same ∙ given_named names ns vs ∙ ap (λ (xs : List Name). named xs vs) (sym own)

-- ---- numbers for names

-- these numbers are of these names, whatever is made after them
abbrev pub AreNumbers : Coded → List ℕ → List Name → Type 0
AreNumbers c ns xs = (more : Coded) → map (name_of (joined c more).names) ns ≡ xs

pub numbers_later : (c d : Coded) (ns : List ℕ) (xs : List Name) → Grows c d → AreNumbers c ns xs → AreNumbers d ns xs
numbers_later c d ns xs grow h = later (λ (e : Coded). map (name_of e.names)) c d ns xs grow h

pub no_numbers : (c : Coded) (ns : List ℕ) → ns ≡ [] → AreNumbers c ns []
no_numbers c ns none more = ap (map (name_of (joined c more).names)) none

pub more_numbers : (c d : Coded) (ns all : List ℕ) (n : ℕ) (xs : List Name) (i : ℕ) (x : Name) → Grows c d → AreNumbers c ns (take i xs) → ((more : Coded) → name_of (joined d more).names n ≡ get_or xs i x) →
    all ≡ ns ++ n ∷ [] → i < length xs → AreNumbers d all (take (i + 1) xs)
more_numbers c d ns all n xs i x grow h same pushed less more =
    ap (map (name_of (joined d more).names)) pushed
    ∙ map-append (name_of (joined d more).names) ns (n ∷ [])
    ∙ ap (λ (y : Name). map (name_of (joined d more).names) ns ++ y ∷ []) (same more)
    ∙ ap (λ (ys : List Name). ys ++ get_or xs i x ∷ []) (numbers_later c d ns (take i xs) grow h more)
    ∙ sym (take_more xs i x less)
