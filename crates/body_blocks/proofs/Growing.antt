-- The code with more names and blocks.
use Prim.Native.Nat.{max}
use denote.Param.Weighed.{most, most-append}
use Rattle.std.proofs.Common.{◌≡◌, refl, ap, sym, subst, ◌∙◌, ℕ, zero, suc, ◌≤◌, List, [], ◌∷◌, ◌++◌, length, map, drop, reverse, Option, Some, None, Result, Ok, Err, IfOk, slice_get, unwrap_or, option_map, arith}
use Rattle.std.proofs.lemmas.List.{append_assoc, append-nil, length-map, map-append, reverse-append}
use Rattle.gv_values.specs.declared.name.Name.{Name}
use Rattle.scenario_tree.specs.declared.tree.Statement.{Statement}
use Rattle.body_names.specs.Naming.{Grows as NamesGrow}
use Rattle.body_blocks.specs.declared.statement.FlatStatement.{FlatStatement}
use Rattle.body_blocks.specs.Trees.{Coded, EachStands, Grows, IsAhead, Stands, block_at, joined, start, statement_of, trees, with_block, with_names}

-- no name and no block
abbrev pub nothing : Coded
nothing = record { names = []; blocks = [] }

-- ---- more behind more

pub joined_assoc : (c d e : Coded) → joined (joined c d) e ≡ joined c (joined d e)
joined_assoc c d e =
    ap (λ (ns : List Name). record { names = ns; blocks = (c.blocks ++ d.blocks) ++ e.blocks }) (append_assoc c.names d.names e.names)
    ∙ ap (λ (bs : List (List Statement)). record { names = c.names ++ (d.names ++ e.names); blocks = bs }) (append_assoc c.blocks d.blocks e.blocks)

pub joined_none : (c : Coded) → joined c nothing ≡ c
joined_none c =
    ap (λ (ns : List Name). record { names = ns; blocks = c.blocks ++ [] }) (append-nil c.names)
    ∙ ap (λ (bs : List (List Statement)). record { names = c.names; blocks = bs }) (append-nil c.blocks)

pub same_grow : (c : Coded) → Grows c c
same_grow c = (nothing, sym (joined_none c))

pub grown : (c d e : Coded) → Grows c d → Grows d e → Grows c e
grown c d e g h = (joined g.0 h.0, h.1 ∙ ap (λ (x : Coded). joined x h.0) g.1 ∙ joined_assoc c g.0 h.0)

pub if_grown : {T E : Type 0} (r : Result T E) (c d e : Coded) → Grows c d → IfOk r (λ _. Grows d e) → IfOk r (λ _. Grows c e)
if_grown (Ok x) c d e g h = grown c d e g h
if_grown (Err u) c d e g h = tt

-- what stands for something whatever is made later, does so still
pub later : {X Y : Type 0} (f : Coded → X → Y) (c d : Coded) (x : X) (y : Y) → Grows c d → ((more : Coded) → f (joined c more) x ≡ y) → (more : Coded) → f (joined d more) x ≡ y
later f c d x y g h more = ap (λ (e : Coded). f (joined e more) x) g.1 ∙ ap (λ (e : Coded). f e x) (joined_assoc c g.0 more) ∙ h (joined g.0 more)

pub stands_later : (c d : Coded) (b : List FlatStatement) (ss : List Statement) → Grows c d → Stands c b ss → Stands d b ss
stands_later c d b ss g h = later (λ e b. map (statement_of e) b) c d b ss g h

-- ---- blocks one after another

pub block_grows : (c : Coded) (b : List FlatStatement) → Grows c (with_block c b)
block_grows c b = (
  record { names = []; blocks = map (statement_of c) b ∷ [] },
  ap (λ (ns : List Name). record { names = ns; blocks = c.blocks ++ map (statement_of c) b ∷ [] }) (sym (append-nil c.names)),
)

pub trees_grow : (c : Coded) (bs : List (List FlatStatement)) → Grows c (trees c bs)
unfolding trees
trees_grow c [] = same_grow c
trees_grow c (b ∷ bs) = grown c (with_block c b) (trees (with_block c b) bs) (block_grows c b) (trees_grow (with_block c b) bs)

pub trees_more : (c : Coded) (bs : List (List FlatStatement)) (b : List FlatStatement) → trees c (bs ++ b ∷ []) ≡ with_block (trees c bs) b
unfolding trees
trees_more c [] b = refl
trees_more c (d ∷ bs) b = trees_more (with_block c d) bs b

pub each_more : (c : Coded) (bs : List (List FlatStatement)) (b : List FlatStatement) → EachStands c bs → Stands (trees c bs) b (map (statement_of (trees c bs)) b) → EachStands c (bs ++ b ∷ [])
unfolding trees EachStands
each_more c [] b h own = (own, tt)
each_more c (d ∷ bs) b h own = (h.0, each_more (with_block c d) bs b h.1 own)

pub none_stand : (c : Coded) (bs : List (List FlatStatement)) → bs ≡ [] → EachStands c bs
unfolding EachStands
none_stand c bs e = subst (EachStands c) (sym e) tt

-- all blocks, where all are made, whatever is made after them
pub all_stand : (c : Coded) (bs : List (List FlatStatement)) → EachStands c bs → (more : Coded) →
    (trees c bs).blocks ≡ c.blocks ++ map (map (statement_of (joined (trees c bs) more))) bs
unfolding trees EachStands
all_stand c [] h more = sym (append-nil c.blocks)
all_stand c (b ∷ bs) h more =
    let all : Coded = trees (with_block c b) bs in
    let own : map (statement_of (joined all more)) b ≡ map (statement_of c) b =
    stands_later c all b (map (statement_of c) b) (trees_grow c (b ∷ bs)) h.0 more in
    all_stand (with_block c b) bs h.1 more
    ∙ append_assoc c.blocks (map (statement_of c) b ∷ []) (map (map (statement_of (joined all more))) bs)
    ∙ ap (λ (ss : List Statement). c.blocks ++ ss ∷ map (map (statement_of (joined all more))) bs) (sym own)

-- ---- more names change no block

named_block : (c : Coded) (b : List FlatStatement) (more : List Name) → Stands c b (map (statement_of c) b) → with_block (with_names c more) b ≡ with_names (with_block c b) more
named_block c b more h =
    let none : joined c (record { names = more; blocks = [] }) ≡ with_names c more =
    ap (λ (bs : List (List Statement)). record { names = c.names ++ more; blocks = bs }) (append-nil c.blocks) in
    let same : map (statement_of (with_names c more)) b ≡ map (statement_of c) b =
    ap (λ (x : Coded). map (statement_of x) b) (sym none) ∙ h (record { names = more; blocks = [] }) in
    ap (λ (ss : List Statement). record { names = c.names ++ more; blocks = c.blocks ++ ss ∷ [] }) same

pub named_trees : (c : Coded) (bs : List (List FlatStatement)) (more : List Name) → EachStands c bs → trees (with_names c more) bs ≡ with_names (trees c bs) more
unfolding trees EachStands
named_trees c [] more h = refl
named_trees c (b ∷ bs) more h = ap (λ (d : Coded). trees d bs) (named_block c b more h.0) ∙ named_trees (with_block c b) bs more h.1

grows_named : (c : Coded) (more : List Name) → Grows c (with_names c more)
grows_named c more = (
  record { names = more; blocks = [] },
  ap (λ (bs : List (List Statement)). record { names = c.names ++ more; blocks = bs }) (sym (append-nil c.blocks)),
)

pub named_each : (c : Coded) (bs : List (List FlatStatement)) (more : List Name) → EachStands c bs → EachStands (with_names c more) bs
unfolding EachStands
named_each c [] more h = tt
named_each c (b ∷ bs) more h =
    let later : Stands (with_names c more) b (map (statement_of c) b) = stands_later c (with_names c more) b (map (statement_of c) b) (grows_named c more) h.0 in
    let none : joined (with_names c more) nothing ≡ with_names c more = joined_none (with_names c more) in
    let same : map (statement_of c) b ≡ map (statement_of (with_names c more)) b =
    sym (later nothing) ∙ ap (λ (x : Coded). map (statement_of x) b) none in (
      subst (Stands (with_names c more) b) same later,
      subst (λ (d : Coded). EachStands d bs) (sym (named_block c b more h.0)) (named_each (with_block c b) bs more h.1),
    )

-- ---- names are met

trees_names : (c : Coded) (bs : List (List FlatStatement)) → (trees c bs).names ≡ c.names
unfolding trees
trees_names c [] = refl
trees_names c (b ∷ bs) = trees_names (with_block c b) bs

-- the code has these names
pub own_names : (names : List Name) (bs : List (List FlatStatement)) (c : Coded) → trees (start names) bs ≡ c → names ≡ c.names
own_names names bs c e = sym (trees_names (start names) bs) ∙ ap (λ (x : Coded). x.names) e

-- the blocks still stand
pub named_stand : (names new : List Name) (bs : List (List FlatStatement)) → NamesGrow names new → EachStands (start names) bs → EachStands (start new) bs
named_stand names new bs g h = subst (λ (ns : List Name). EachStands (start ns) bs) (sym g.1) (named_each (start names) bs g.0 h)

-- and nothing else has changed
pub named_grow : (names new : List Name) (bs : List (List FlatStatement)) → NamesGrow names new → EachStands (start names) bs → Grows (trees (start names) bs) (trees (start new) bs)
named_grow names new bs g h =
    let more : Grows (trees (start names) bs) (trees (with_names (start names) g.0) bs) =
    subst (Grows (trees (start names) bs)) (sym (named_trees (start names) bs g.0 h)) (grows_named (trees (start names) bs) g.0) in
    subst (λ (ns : List Name). Grows (trees (start names) bs) (trees (start ns) bs)) (sym g.1) more

-- so it is where something was made of them
pub if_named_stand : {T E : Type 0} (r : Result T E) (K : Type 0) (names new : List Name) (bs : List (List FlatStatement)) → EachStands (start names) bs → IfOk r (λ _. K) →
    IfOk r (λ _. NamesGrow names new) → IfOk r (λ _. K × EachStands (start new) bs)
if_named_stand (Ok x) K names new bs h k g = (k, named_stand names new bs g h)
if_named_stand (Err e) K names new bs h k g = tt

pub if_named_grow : {T E : Type 0} (r : Result T E) (names new : List Name) (bs : List (List FlatStatement)) → EachStands (start names) bs → IfOk r (λ _. NamesGrow names new) →
    IfOk r (λ _. Grows (trees (start names) bs) (trees (start new) bs))
if_named_grow (Ok x) names new bs h g = named_grow names new bs g h
if_named_grow (Err e) names new bs h g = tt

-- what stands for something whatever names come, does so whatever names and blocks come
pub named_same : {X Y : Type 0} (f : List Name → X → Y) (names : List Name) (bs : List (List FlatStatement)) (x : X) (y : Y) → ((more : List Name) → f (names ++ more) x ≡ y) →
    (more : Coded) → f (joined (trees (start names) bs) more).names x ≡ y
named_same f names bs x y h more = ap (λ (ns : List Name). f (ns ++ more.names) x) (trees_names (start names) bs) ∙ h more.names

pub if_named_same : {X Y E : Type 0} (f : List Name → X → Y) (r : Result X E) (names : List Name) (bs : List (List FlatStatement)) (y : Y) →
    IfOk r (λ x. (more : List Name) → f (names ++ more) x ≡ y) → IfOk r (λ x. (more : Coded) → f (joined (trees (start names) bs) more).names x ≡ y)
if_named_same f (Ok x) names bs y h = named_same f names bs x y h
if_named_same f (Err e) names bs y h = tt

-- ---- one block more

-- the block stands for what it was made of
own_tree : (c : Coded) (b : List FlatStatement) (ss : List Statement) → Stands c b ss → map (statement_of c) b ≡ ss
own_tree c b ss h = subst (λ (x : Coded). map (statement_of x) b ≡ ss) (joined_none c) (h nothing)

pub stand_own : (c : Coded) (b : List FlatStatement) (ss : List Statement) → Stands c b ss → Stands c b (map (statement_of c) b)
stand_own c b ss h = subst (Stands c b) (sym (own_tree c b ss h)) h

-- the last block has the number of those before it
last_block : (bs : List (List Statement)) (ss : List Statement) (more : List (List Statement)) → unwrap_or (slice_get ((bs ++ ss ∷ []) ++ more) (length bs)) [] ≡ ss
last_block [] ss more = refl
last_block (c ∷ bs) ss more = last_block bs ss more

pub pushed_block : (c d : Coded) (b : List FlatStatement) (ss : List Statement) (n : ℕ) → Stands c b ss → d ≡ with_block c b → n ≡ length c.blocks → (more : Coded) →
    block_at n (joined d more) ≡ ss
pushed_block c d b ss n h e k more =
    ap (λ (i : ℕ). block_at i (joined d more)) k ∙ ap (λ (x : Coded). block_at (length c.blocks) (joined x more)) e
    ∙ last_block c.blocks (map (statement_of c) b) more.blocks ∙ own_tree c b ss h

pub pushed_grow : (c d e : Coded) (b : List FlatStatement) → Grows c d → e ≡ with_block d b → Grows c e
pushed_grow c d e b g h = grown c d e g (subst (Grows d) (sym h) (block_grows d b))

pub pushed_stand : (names : List Name) (bs new : List (List FlatStatement)) (b : List FlatStatement) → EachStands (start names) bs →
    Stands (trees (start names) bs) b (map (statement_of (trees (start names) bs)) b) → new ≡ bs ++ b ∷ [] → EachStands (start names) new
pushed_stand names bs new b h own e = subst (EachStands (start names)) (sym e) (each_more (start names) bs b h own)

pub pushed_tree : (names : List Name) (bs new : List (List FlatStatement)) (b : List FlatStatement) → new ≡ bs ++ b ∷ [] →
    trees (start names) new ≡ with_block (trees (start names) bs) b
pushed_tree names bs new b e = ap (trees (start names)) e ∙ trees_more (start names) bs b

-- ---- a block of the code, by the flat one

all_own : (names : List Name) (bs : List (List FlatStatement)) → EachStands (start names) bs → (trees (start names) bs).blocks ≡ map (map (statement_of (trees (start names) bs))) bs
all_own names bs h =
    all_stand (start names) bs h nothing
    ∙ ap (λ (x : Coded). map (map (statement_of x)) bs) (joined_none (trees (start names) bs))

pub as_many : (names : List Name) (bs : List (List FlatStatement)) → EachStands (start names) bs → length bs ≡ length (trees (start names) bs).blocks
as_many names bs h = sym (length-map bs (map (statement_of (trees (start names) bs)))) ∙ ap length (sym (all_own names bs h))

drop_map : {X Y : Type 0} (f : X → Y) (xs : List X) (p : ℕ) → drop p (map f xs) ≡ elim (slice_get xs p) [ None ↦ [] | Some x ↦ f x ∷ drop (suc p) (map f xs) ]
drop_map f [] zero = refl
drop_map f [] (suc p) = refl
drop_map f (x ∷ xs) zero = refl
drop_map f (x ∷ xs) (suc p) = drop_map f xs p

get_map : {X Y : Type 0} (f : X → Y) (xs : List X) (n : ℕ) → slice_get (map f xs) n ≡ option_map f (slice_get xs n)
get_map f [] n = refl
get_map f (x ∷ xs) zero = refl
get_map f (x ∷ xs) (suc n) = get_map f xs n

block_is : (c : Coded) (bs : List (List FlatStatement)) (b : ℕ) → c.blocks ≡ map (map (statement_of c)) bs → block_at b c ≡ map (statement_of c) (unwrap_or (slice_get bs b) [])
block_is c bs b all =
    ap (λ (ts : List (List Statement)). unwrap_or (slice_get ts b) []) all ∙ ap (λ (o : Option (List Statement)). unwrap_or o []) (get_map (map (statement_of c)) bs b) ∙ by (slice_get bs b)
  where
    by : (o : Option (List FlatStatement)) → unwrap_or (option_map (map (statement_of c)) o) [] ≡ map (statement_of c) (unwrap_or o [])
    by None = refl
    by (Some d) = refl

ahead_is : (c : Coded) (bs : List (List FlatStatement)) (b p : ℕ) → c.blocks ≡ map (map (statement_of c)) bs → IsAhead c b p (slice_get (unwrap_or (slice_get bs b) []) p)
ahead_is c bs b p all = by (slice_get flat p) refl
  where
    flat : List FlatStatement
    flat = unwrap_or (slice_get bs b) []

    by : (o : Option FlatStatement) → slice_get flat p ≡ o → IsAhead c b p o
    by None e = ap (drop p) (block_is c bs b all) ∙ drop_map (statement_of c) flat p ∙ rw e refl
    by (Some s) e = ap (drop p) (block_is c bs b all) ∙ drop_map (statement_of c) flat p ∙ rw e (ap (λ (ss : List Statement). statement_of c s ∷ drop (suc p) ss) (sym (block_is c bs b all)))

-- past the last block
pub past_blocks : (names : List Name) (bs : List (List FlatStatement)) (c : Coded) (b p : ℕ) → EachStands (start names) bs → trees (start names) bs ≡ c → slice_get bs b ≡ None → IsAhead c b p None
past_blocks names bs c b p h same e =
    let t : Coded = trees (start names) bs in
    let here : IsAhead t b p (slice_get (unwrap_or (slice_get bs b) []) p) = ahead_is t bs b p (all_own names bs h) in
    let there : IsAhead t b p None = subst (λ (o : Option (List FlatStatement)). IsAhead t b p (slice_get (unwrap_or o []) p)) e here in
    subst (λ (x : Coded). IsAhead x b p None) same there

-- in this block
pub in_block : (names : List Name) (bs : List (List FlatStatement)) (c : Coded) (b p : ℕ) (d : List FlatStatement) (o : Option FlatStatement) → EachStands (start names) bs →
    trees (start names) bs ≡ c → slice_get bs b ≡ Some d → slice_get d p ≡ o → IsAhead c b p o
in_block names bs c b p d o h same e f =
    let t : Coded = trees (start names) bs in
    let here : IsAhead t b p (slice_get (unwrap_or (slice_get bs b) []) p) = ahead_is t bs b p (all_own names bs h) in
    let there : IsAhead t b p (slice_get d p) = subst (λ (x : Option (List FlatStatement)). IsAhead t b p (slice_get (unwrap_or x []) p)) e here in
    subst (λ (x : Coded). IsAhead x b p o) same (subst (λ (x : Option FlatStatement). IsAhead t b p x) f there)

-- ---- a list that is taken from its end

-- what is left, before what these stand for, is the whole list, whatever names and blocks are made after them
abbrev pub Taken : {X Y : Type 0} → (Coded → X → Y) → Coded → List Y → List X → List Y → Type 0
Taken f c left xs whole = (more : Coded) → left ++ reverse (map (f (joined c more)) xs) ≡ whole

pub all_left : {X Y : Type 0} (f : Coded → X → Y) (c : Coded) (xs : List X) (whole : List Y) → xs ≡ [] → Taken f c whole xs whole
all_left f c xs whole none more = ap (λ ys. whole ++ reverse (map (f (joined c more)) ys)) none ∙ append-nil whole

pub taken_more : {X Y : Type 0} (f : Coded → X → Y) (c d : Coded) (old new : List Y) (xs : List X) (x : X) (y : Y) (whole : List Y) → Taken f c old xs whole → Grows c d →
    ((more : Coded) → f (joined d more) x ≡ y) → old ≡ new ++ y ∷ [] → (all : List X) → all ≡ xs ++ x ∷ [] → Taken f d new all whole
taken_more {X} {Y} f c d old new xs x y whole taken g same popped all pushed more =
    let g' : X → Y = f (joined d more) in
    ap (λ ys. new ++ reverse (map g' ys)) pushed
    ∙ ap (λ ys. new ++ reverse ys) (map-append g' xs (x ∷ []))
    ∙ ap (λ ys. new ++ ys) (reverse-append (map g' xs) (g' x ∷ []))
    ∙ ap (λ z. new ++ z ∷ reverse (map g' xs)) (same more)
    ∙ sym (append_assoc new (y ∷ []) (reverse (map g' xs)))
    ∙ ap (λ ys. ys ++ reverse (map g' xs)) (sym popped)
    ∙ ap (λ (e : Coded). old ++ reverse (map (f (joined e more)) xs)) g.1
    ∙ ap (λ (e : Coded). old ++ reverse (map (f e) xs)) (joined_assoc c g.0 more)
    ∙ taken (joined g.0 more)

map-turned : {X Y : Type 0} (f : X → Y) (xs : List X) → map f (reverse xs) ≡ reverse (map f xs)
map-turned f [] = refl
map-turned f (x ∷ xs) =
    ap (map f) (reverse-append (x ∷ []) xs) ∙ map-append f (reverse xs) (x ∷ []) ∙ ap (λ ys. ys ++ f x ∷ []) (map-turned f xs)
    ∙ sym (reverse-append (f x ∷ []) (map f xs))

-- what is taken is no larger than the largest of the list
pub taken_within : {Y : Type 0} (μ : Y → ℕ) (old new rest whole : List Y) (y : Y) → old ++ rest ≡ whole → old ≡ new ++ y ∷ [] → μ y ≤ most μ whole
taken_within μ old new rest whole y all popped =
    let before : most μ old ≡ max (most μ new) (most μ (y ∷ [])) = ap (most μ) popped ∙ most-append μ new (y ∷ []) in
    let both : most μ whole ≡ max (most μ old) (most μ rest) = ap (most μ) (sym all) ∙ most-append μ old rest in
    omega (arith, before, both)

-- all is taken, and stands in its order
pub all_taken : {X Y : Type 0} (f : Coded → X → Y) (c : Coded) (left : List Y) (xs done : List X) (whole : List Y) → Taken f c left xs whole →
    left ≡ [] → done ≡ reverse xs → (more : Coded) → map (f (joined c more)) done ≡ whole
all_taken {X} {Y} f c left xs done whole taken none turned more =
    ap (map (f (joined c more))) turned ∙ map-turned (f (joined c more)) xs
    ∙ ap (λ (ys : List Y). ys ++ reverse (map (f (joined c more)) xs)) (sym none) ∙ taken more

-- the same, where no more is made
pub all_made : {X Y : Type 0} (f : Coded → X → Y) (c : Coded) (left : List Y) (xs done : List X) (whole : List Y) → Taken f c left xs whole →
    left ≡ [] → done ≡ reverse xs → map (f c) done ≡ whole
all_made {X} {Y} f c left xs done whole taken none turned =
    ap (λ (e : Coded). map (f e) done) (sym (joined_none c)) ∙ all_taken f c left xs done whole taken none turned nothing
