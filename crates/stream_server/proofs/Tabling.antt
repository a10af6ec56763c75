-- The structures of a table against one another.
use Rattle.std.proofs.Common.{◌≡◌, ◌≢◌, ◌⊎◌, inl, inr, ℕ, zero, suc, ◌+◌, ◌^◌, ◌<◌, ◌≤◌, ◌==◌, Bool, true, false, cond, List, [], ◌∷◌, length, get_or, Option, Some, None, refl, sym, ap, ◌∙◌, subst, arith, IsSome, is_some, count_by}
use Rattle.std.specs.List.{All, Contains, sum_by}
use Rattle.std.specs.List.Sorted.{IsPermutation}
use Rattle.std.proofs.lemmas.Bool.{cases_eq, eq-eqb, eqb-true}
use Rattle.std.proofs.lemmas.List.{length-map, get_or-map}
use Rattle.std.proofs.lemmas.List.Elements.{All-cons, All-head, All-tail, All-contains, Contains-get_or, Contains-append_right, Contains-append_cases, All-nil}
use Rattle.std.proofs.lemmas.List.Sorted.{All-permutation, Contains-permutation, IsPermutation-map, length_permutation, sum_by-IsPermutation}
use Rattle.std.proofs.lemmas.List.Sums.{sum_by-cons}
use Rattle.slab.specs.Slab.{Slab, get, slab_len, Updates}
use Rattle.item_places.specs.declared.places.Slot.{Slot}
use Rattle.item_places.specs.declared.places.Slot.TheVariants.{Held}
use Rattle.item_places.specs.Table.{Has, Gains, IsOnce, Loses, slot_at}
use Rattle.item_places.specs.Items.{Differ, Lacks}
use Rattle.due_timers.specs.declared.heap.Timer.{Timer}
use Rattle.due_timers.specs.SeenTimers.{items_in}
use Rattle.stream_server.specs.declared.client.Client.{Client}
use Rattle.stream_server.specs.Tables.{SeenTable, IsListed, IsAbsent, Relists}
use Rattle.stream_server.specs.TableParts.{Stands, IsTied, IsSound}
use Rattle.stream_server.specs.declared.table.ClientTable.TheInside.{Inside}

-- ---- items that differ

abbrev one_of : ℕ → ℕ → ℕ
one_of x y = cond (y == x) 1 0

abbrev times : ℕ → List ℕ → ℕ
times x ys = sum_by (one_of x) ys

one_same : (x : ℕ) → one_of x x ≡ 1
one_same x = ap (λ (b : Bool). cond b 1 0) (eq-eqb x x refl)

one_other : (x y : ℕ) → y ≢ x → one_of x y ≡ 0
one_other x y other = by (y == x) refl
  where
    by : (b : Bool) → (y == x) ≡ b → one_of x y ≡ 0
    by true e = absurd (other (eqb-true y x e))
    by false e = ap (λ (b : Bool). cond b 1 0) e

times_lacks : (x : ℕ) (ys : List ℕ) → Lacks x ys → times x ys ≡ 0
times_lacks x [] h = refl
times_lacks x (y ∷ ys) h = sum_by-cons (one_of x) y ys ∙ (let a = one_other x y (λ e. h.0 (sym e)) in let b = times_lacks x ys h.1 in omega (arith, a, b))

times_differ : (x : ℕ) (ys : List ℕ) → Differ ys → times x ys ≤ 1
times_differ x [] h = omega arith
times_differ x (y ∷ ys) h = elim (cases_eq y x) [
  | inl e ↦ (let a : times x ys ≡ 0 = times_lacks x ys (subst (λ (n : ℕ). Lacks n ys) e h.0) in let b : one_of x y ≡ 1 = ap (one_of x) e ∙ one_same x in let c = sum_by-cons (one_of x) y ys in omega (arith, a, b, c))
  | inr n ↦ (let a = times_differ x ys h.1 in let b = one_other x y n in let c = sum_by-cons (one_of x) y ys in omega (arith, a, b, c))
]

-- none of them is x where it occurs no time
lacks_times : (x : ℕ) (ys : List ℕ) → times x ys ≡ 0 → All (λ y. y ≢ x) ys
lacks_times x [] h = All-nil (λ y. y ≢ x)
lacks_times x (y ∷ ys) h =
    let c = sum_by-cons (one_of x) y ys in
    let a : one_of x y ≡ 0 = omega (arith, c, h) in
    let b : times x ys ≡ 0 = omega (arith, c, h) in
    All-cons (λ z. z ≢ x) y ys (λ e. let one : one_of x y ≡ 1 = ap (one_of x) e ∙ one_same x in omega (arith, a, one)) (lacks_times x ys b)

All-unmap : (P : ℕ → Type 0) (ts : List Timer) → All P (items_in ts) → All (λ (t : Timer). P t.item) ts
All-unmap P [] h = All-nil (λ (t : Timer). P t.item)
All-unmap P (t ∷ ts) h = All-cons (λ (u : Timer). P u.item) t ts (All-head P t.item (items_in ts) h) (All-unmap P ts (All-tail P t.item (items_in ts) h))

-- a timer that was taken out leaves none of its item
pub others_left : (x : ℕ) (old new : List Timer) (t : Timer) → Differ (items_in old) → t.item ≡ x → IsPermutation old (t ∷ new) → All (λ (u : Timer). u.item ≢ x) new
others_left x old new t differ is moves =
    let few = times_differ x (items_in old) differ in
    let same = sum_by-IsPermutation (one_of x) (items_in old) (items_in (t ∷ new)) (IsPermutation-map (λ (u : Timer). u.item) old (t ∷ new) moves) in
    let parts = sum_by-cons (one_of x) t.item (items_in new) in
    let one : one_of x t.item ≡ 1 = ap (one_of x) is ∙ one_same x in
    All-unmap (λ n. n ≢ x) new (lacks_times x (items_in new) (omega (arith, few, same, parts, one)))

contains_item : (x : ℕ) (ts : List Timer) → Contains (items_in ts) x → (t : Timer) × Contains ts t × (t.item ≡ x)
contains_item x ts h = (get_or ts h.0 none, Contains-get_or ts h.0 none in', sym at ∙ h.2)
  where
    none : Timer
    none = record { item = x; since = 0; deadline = 0 }

    in' : h.0 < length ts
    in' = subst (λ (n : ℕ). h.0 < n) (length-map ts (λ (u : Timer). u.item)) h.1

    at : get_or (items_in ts) h.0 x ≡ (get_or ts h.0 none).item
    at = get_or-map (λ (u : Timer). u.item) ts h.0 none x in'

-- ---- a table

none_some : {A : Type 0} (o : Option A) (a : A) → o ≡ None → o ≡ Some a → ⊥
none_some o a e f = absurd (cc)

some_same : {A : Type 0} (a b : A) → Some a ≡ Some b → a ≡ b
some_same a b e = cc

-- a client that comes
pub stands_more : {T : Type 0} (old new : List Slot) (clients after : Slab (Client T)) (g : Client T) (key : ℕ) → ((k j : ℕ) → Has old k j → Stands clients k j)
    → Gains old new g.conn key → get clients key ≡ None → Updates clients after key (Some g) → (k j : ℕ) → Has new k j → Stands after k j
stands_more old new clients after g key stands gains vacant updates k j has = by (gains.only k j has)
  where
    by : Has old k j ⊎ ((k ≡ g.conn) × (j ≡ key)) → Stands after k j
    by (inl was) = let s = stands k j was in record { client = s.client; is = updates.others j (λ e. none_some (get clients key) s.client vacant (ap (get clients) (sym e) ∙ s.is)) ∙ s.is; number = s.number }
    by (inr e) = record { client = g; is = ap (get after) e.1 ∙ updates.changed; number = sym e.0 }

-- a client that goes
pub stands_less : {T : Type 0} (old new : List Slot) (clients after : Slab (Client T)) (x key : ℕ) → ((k j : ℕ) → Has old k j → Stands clients k j)
    → Has old x key → Loses old new x → Updates clients after key None → (k j : ℕ) → Has new k j → Stands after k j
stands_less old new clients after x key stands here loses updates k j has =
    let s = stands k j (loses.only k j has) in
    let t = stands x key here in
    record {
      client = s.client;
      is = updates.others j (λ e. absurd (loses.gone j (subst (λ (n : ℕ). Has new n j) (sym s.number ∙ ap (λ (h : Client _). h.conn) (some_same _ _ (sym s.is ∙ ap (get clients) e ∙ t.is)) ∙ t.number) has))) ∙ s.is;
      number = s.number;
    }

first_of : (k x : ℕ) → Contains (x ∷ []) k → x ≡ k
first_of k x h = by h.0 h.1 h.2
  where
    by : (i : ℕ) → i < 1 → get_or (x ∷ []) i k ≡ k → x ≡ k
    by zero lt e = e
    by (suc i) lt e = absurd (omega (arith, lt))

-- a slot that holds one now and isn't the new one held it before
kept_before : {T : Type 0} (clients after : Slab (Client T)) (key j : ℕ) (slot : Option (Client T)) (g : Client T) → Updates clients after key slot → j ≢ key → get after j ≡ Some g → get clients j ≡ Some g
kept_before clients after key j slot g updates other is = sym (updates.others j other) ∙ is

module _ {T : Type 0} (old new : List Slot) (clients after : Slab (Client T)) (g : Client T) (key : ℕ)
    (stands : (k j : ℕ) → Has old k j → Stands clients k j) (absent : (j : ℕ) → Has old g.conn j → ⊥)
    (gains : Gains old new g.conn key) (vacant : get clients key ≡ None) (updates : Updates clients after key (Some g)) where
  -- a place of old isn't the new key
  old_key : (k j : ℕ) → Has old k j → j ≢ key
  old_key k j has e = let s = stands k j has in none_some (get clients key) s.client vacant (ap (get clients) (sym e) ∙ s.is)

  -- who stood under a key stands there still
  still : (j : ℕ) (client : Client T) → get clients j ≡ Some client → get after j ≡ Some client
  still j client is = updates.others j (λ e. none_some (get clients key) client vacant (ap (get clients) (sym e) ∙ is)) ∙ is

  tied_more : (t : Timer) → IsTied old clients t → IsTied new after t
  tied_more t h = record {
    client = h.client;
    is = still t.item h.client h.is;
    placed = gains.kept h.client.conn t.item h.placed;
    only = λ j has. by j (gains.only h.client.conn j has);
    deadline = h.deadline;
  }
    where
      by : (j : ℕ) → Has old h.client.conn j ⊎ ((h.client.conn ≡ g.conn) × (j ≡ key)) → j ≡ t.item
      by j (inl was) = h.only j was
      by j (inr e) = absurd (absent t.item (subst (λ (n : ℕ). Has old n t.item) e.0 h.placed))

  tied_new : (since : ℕ) → IsTied new after record { item = key; since = since; deadline = g.deadline }
  tied_new since = record { client = g; is = updates.changed; placed = gains.here; only = λ j has. by j (gains.only g.conn j has); deadline = refl }
    where
      by : (j : ℕ) → Has old g.conn j ⊎ ((g.conn ≡ g.conn) × (j ≡ key)) → j ≡ key
      by j (inl was) = absurd (absent j was)
      by j (inr e) = e.1

  pub all_tied_more : (since : ℕ) (ts us : List Timer) → IsPermutation (record { item = key; since = since; deadline = g.deadline } ∷ ts) us → All (IsTied old clients) ts → All (IsTied new after) us
  all_tied_more since ts us moves h =
      let t : Timer = record { item = key; since = since; deadline = g.deadline } in
      All-permutation (IsTied new after) (t ∷ ts) us moves (All-cons (IsTied new after) t ts (tied_new since) (λ k d in'. tied_more (get_or ts k d) (h k d in')))

  pub timed_more : (since : ℕ) (ts us : List Timer) → IsPermutation (record { item = key; since = since; deadline = g.deadline } ∷ ts) us
      → ((k j : ℕ) → Has old k j → Contains (items_in ts) j) → (k j : ℕ) → Has new k j → Contains (items_in us) j
  timed_more since ts us moves timed k j has = Contains-permutation (items_in (t ∷ ts)) (items_in us) j (IsPermutation-map (λ (u : Timer). u.item) (t ∷ ts) us moves) (by (gains.only k j has))
    where
      t : Timer
      t = record { item = key; since = since; deadline = g.deadline }

      by : Has old k j ⊎ ((k ≡ g.conn) × (j ≡ key)) → Contains (items_in (t ∷ ts)) j
      by (inl was) = Contains-append_right (key ∷ []) (items_in ts) j (timed k j was)
      by (inr e) = subst (λ (n : ℕ). Contains (items_in (t ∷ ts)) n) (sym e.1) (0, omega arith, refl)

  pub relists_more : (members : List ℕ) (limit : ℕ) → Relists (record { places = old; clients = clients; members = members; limit = limit }) (record { places = new; clients = after; members = members; limit = limit }) g.conn (Some g)
  relists_more members limit = record { here = (key, gains.here, updates.changed); only = only; others = others; members = refl; limit = refl }
    where
      was : SeenTable T
      was = record { places = old; clients = clients; members = members; limit = limit }

      is : SeenTable T
      is = record { places = new; clients = after; members = members; limit = limit }

      only : (s : Option (Client T)) → IsListed is g.conn s → s ≡ Some g
      only None h = absurd (h key gains.here)
      only (Some x) h = by (gains.only g.conn h.0 h.1)
        where
          by : Has old g.conn h.0 ⊎ ((g.conn ≡ g.conn) × (h.0 ≡ key)) → Some x ≡ Some g
          by (inl y) = absurd (absent h.0 y)
          by (inr e) = sym h.2 ∙ ap (get after) e.1 ∙ updates.changed

      others : (j : ℕ) (s : Option (Client T)) → j ≢ g.conn → IsListed is j s → IsListed was j s
      others j None other h = λ k has. h k (gains.kept j k has)
      others j (Some x) other h = by (gains.only j h.0 h.1)
        where
          by : Has old j h.0 ⊎ ((j ≡ g.conn) × (h.0 ≡ key)) → IsListed was j (Some x)
          by (inl y) = (h.0, y, kept_before clients after key h.0 (Some g) x updates (old_key j h.0 y) h.2)
          by (inr e) = absurd (other e.0)

module _ {T : Type 0} (old new : List Slot) (clients after : Slab (Client T)) (x key : ℕ)
    (stands : (k j : ℕ) → Has old k j → Stands clients k j) (here : Has old x key)
    (loses : Loses old new x) (updates : Updates clients after key None) where
  -- what is held now stands elsewhere
  other_key : (j : ℕ) (g : Client T) → get after j ≡ Some g → j ≢ key
  other_key j g is e = none_some (get after key) g updates.changed (ap (get after) (sym e) ∙ is)

  tied_less : (t : Timer) → t.item ≢ key → IsTied old clients t → IsTied new after t
  tied_less t other h = record {
    client = h.client;
    is = updates.others t.item other ∙ h.is;
    placed = loses.kept h.client.conn t.item h.placed (λ e. other (sym (h.only key (subst (λ (n : ℕ). Has old n key) (sym e) here))));
    only = λ j has. h.only j (loses.only h.client.conn j has);
    deadline = h.deadline;
  }

  pub all_tied_less : (ts us : List Timer) (t : Timer) → Differ (items_in ts) → t.item ≡ key → IsPermutation ts (t ∷ us) → All (IsTied old clients) ts → All (IsTied new after) us
  all_tied_less ts us t differ is moves h =
      let left = others_left key ts us t differ is moves in
      let rest = All-tail (IsTied old clients) t us (All-permutation (IsTied old clients) ts (t ∷ us) moves h) in
      λ k d in'. tied_less (get_or us k d) (left k d in') (rest k d in')

  pub timed_less : (ts us : List Timer) (t : Timer) → t.item ≡ key → IsPermutation ts (t ∷ us) → ((k j : ℕ) → Has old k j → Contains (items_in ts) j) → (k j : ℕ) → Has new k j → Contains (items_in us) j
  timed_less ts us t is moves timed k j has =
      by (Contains-append_cases (t.item ∷ []) (items_in us) j (Contains-permutation (items_in ts) (items_in (t ∷ us)) j (IsPermutation-map (λ (u : Timer). u.item) ts (t ∷ us) moves) (timed k j (loses.only k j has))))
    where
      -- who stands under the key has the number
      number : j ≡ key → k ≡ x
      number e =
          let s = stands k j (loses.only k j has) in
          let u = stands x key here in
          sym s.number ∙ ap (λ (h : Client T). h.conn) (some_same s.client u.client (sym s.is ∙ ap (get clients) e ∙ u.is)) ∙ u.number

      by : Contains (t.item ∷ []) j ⊎ Contains (items_in us) j → Contains (items_in us) j
      by (inr y) = y
      by (inl y) = absurd (loses.gone j (subst (λ (n : ℕ). Has new n j) (number (sym (first_of j t.item y) ∙ is)) has))

  pub relists_less : (members : List ℕ) (limit : ℕ) → Relists (record { places = old; clients = clients; members = members; limit = limit }) (record { places = new; clients = after; members = members; limit = limit }) x None
  relists_less members limit = record { here = λ k has. loses.gone k has; only = only; others = others; members = refl; limit = refl }
    where
      was : SeenTable T
      was = record { places = old; clients = clients; members = members; limit = limit }

      is : SeenTable T
      is = record { places = new; clients = after; members = members; limit = limit }

      only : (s : Option (Client T)) → IsListed is x s → s ≡ None
      only None h = refl
      only (Some g) h = absurd (loses.gone h.0 h.1)

      others : (j : ℕ) (s : Option (Client T)) → j ≢ x → IsListed is j s → IsListed was j s
      others j None other h = λ k has. h k (loses.kept j k has other)
      others j (Some g) other h = (h.0, loses.only j h.0 h.1, kept_before clients after key h.0 None g updates (other_key h.0 g h.2) h.2)

-- a key that nobody stands under has no timer
pub no_timer : {T : Type 0} (places : List Slot) (clients : Slab (Client T)) (ts : List Timer) (key : ℕ) → All (IsTied places clients) ts → get clients key ≡ None → Contains (items_in ts) key → ⊥
no_timer places clients ts key tied vacant h =
    let found = contains_item key ts h in
    let t = All-contains (IsTied places clients) ts found.0 tied found.1 in
    none_some (get clients key) t.client vacant (ap (get clients) (sym found.2) ∙ t.is)

-- what holds of the deadline of each timer holds of that of each client
pub listed_deadline : {T : Type 0} (P : ℕ → Type 0) (h : Inside T) (k : ℕ) (client : Client T) → IsSound h → All (λ (t : Timer). P t.deadline) h.timers.timers
    → IsListed (record { places = h.places.slots; clients = h.clients; members = h.members; limit = h.limit }) k (Some client) → P client.deadline
listed_deadline {T} P h k client sound each listed =
    let found = contains_item listed.0 h.timers.timers (sound.timed k listed.0 listed.1) in
    let t = All-contains (IsTied h.places.slots h.clients) h.timers.timers found.0 sound.tied found.1 in
    let same : t.client ≡ client = some_same t.client client (sym t.is ∙ ap (get h.clients) found.2 ∙ listed.2) in
    subst P (sym t.deadline ∙ ap (λ (g : Client T). g.deadline) same) (All-contains (λ (u : Timer). P u.deadline) h.timers.timers found.0 each found.1)

-- the keys in use are below the bound
pub held_more : (old new : List Slot) (conn key most most' : ℕ) → ((k j : ℕ) → Has old k j → j < most) → Gains old new conn key → key < most' → most' ≡ most → (k j : ℕ) → Has new k j → j < most'
held_more old new conn key most most' held gains below same k j has = by (gains.only k j has)
  where
    by : Has old k j ⊎ ((k ≡ conn) × (j ≡ key)) → j < most'
    by (inl was) = let a = held k j was in omega (arith, a, same)
    by (inr e) = let a = e.1 in omega (arith, a, below)

pub no_place : {T : Type 0} (places : List Slot) (clients : Slab (Client T)) (members : List ℕ) (limit x : ℕ) → ((k j : ℕ) → Has places k j → Stands clients k j) → IsAbsent (record { places = places; clients = clients; members = members; limit = limit }) x → (j : ℕ) → Has places x j → ⊥
no_place places clients members limit x stands absent j has = let s = stands x j has in absent s.client (j, has, s.is)

-- ---- the client of a number

same_place : (q i j : ℕ) → Held q i ≡ Held q j → i ≡ j
same_place q i j e = cc

-- an item has one place
one_place : (places : List Slot) (k i j : ℕ) → IsOnce places → Has places k i → Has places k j → i ≡ j
one_place places k i j once h l = same_place k i j (sym h.1 ∙ ap (slot_at places) (once.once h.0 l.0 k i j h.1 l.1) ∙ l.1)

module _ {T : Type 0} (places : List Slot) (clients : Slab (Client T)) (members : List ℕ) (limit k key : ℕ) where
  -- the table of these
  abbrev of_these : SeenTable T
  of_these = record { places = places; clients = clients; members = members; limit = limit }

  -- what stands under its key is listed
  pub here_listed : (o : Option (Client T)) → Has places k key → Stands clients k key → o ≡ get clients key → IsListed of_these k o
  here_listed None has s e = absurd (none_some (get clients key) s.client (sym e) s.is)
  here_listed (Some g) has s e = (key, has, sym e)

  -- and nothing else
  pub only_listed : (o : Option (Client T)) → IsOnce places → Has places k key → o ≡ get clients key → (slot : Option (Client T)) → IsListed of_these k slot → slot ≡ o
  only_listed o once has e None row = absurd (row key has)
  only_listed o once has e (Some g) row = sym row.2 ∙ ap (get clients) (one_place places k row.0 key once row.1 has) ∙ sym e

-- where the number has no place nothing is listed
pub nobody_listed : {T : Type 0} (table : SeenTable T) (k : ℕ) → ((key : ℕ) → Has table.places k key → ⊥) → (slot : Option (Client T)) → IsListed table k slot → slot ≡ None
nobody_listed table k absent None row = refl
nobody_listed table k absent (Some g) row = absurd (absent row.0 row.1)

some_is : {A : Type 0} (o : Option A) (a : A) → o ≡ Some a → IsSome o
some_is o a e = subst IsSome (sym e) refl

pub key_is_held : {T : Type 0} (clients : Slab (Client T)) (k key : ℕ) → Stands clients k key → IsSome (get clients key)
key_is_held clients k key s = some_is (get clients key) s.client s.is

pub its_number : {T : Type 0} (clients : Slab (Client T)) (k key : ℕ) (g : Client T) → Stands clients k key → get clients key ≡ Some g → g.conn ≡ k
its_number clients k key g s is = ap (λ (x : Client _). x.conn) (some_same g s.client (sym is ∙ s.is)) ∙ s.number

-- a table that a client has left
pub less_sound : {T : Type 0} (h i : Inside T) (x key : ℕ) (t : Timer) → IsSound h → Differ (items_in h.timers.timers) → t.item ≡ key → IsPermutation h.timers.timers (t ∷ i.timers.timers)
    → Has h.places.slots x key → Loses h.places.slots i.places.slots x → Updates h.clients i.clients key None → i.limit ≡ h.limit → slab_len i.clients + 1 ≡ slab_len h.clients
    → i.clients.capacity ≡ h.clients.capacity → i.places.spare ≡ h.places.spare + 1 → i.timers.spare ≡ h.timers.spare + 1 → i.timers.reach ≡ h.timers.reach → IsSound i
less_sound h i x key t s differ is moves here loses updates limit len capacity places timers reach =
    let long = length_permutation h.timers.timers (t ∷ i.timers.timers) moves in
    record {
      stands = stands_less h.places.slots i.places.slots h.clients i.clients x key s.stands here loses updates;
      timed = timed_less h.places.slots i.places.slots h.clients i.clients x key s.stands here loses updates h.timers.timers i.timers.timers t is moves s.timed;
      tied = all_tied_less h.places.slots i.places.slots h.clients i.clients x key s.stands here loses updates h.timers.timers i.timers.timers t differ is moves s.tied;
      count = omega (arith, long, s.count, len);
      few = omega (arith, s.few, len, limit);
      room = omega (arith, s.room, capacity, limit);
      places_room = omega (arith, s.places_room, places, len, limit);
      timers_room = omega (arith, s.timers_room, timers, len, limit);
      keys = omega (arith, s.keys, capacity, reach);
      keys_fit = omega (arith, s.keys_fit, capacity);
      held = λ k j has. let a = s.held k j (loses.only k j has) in omega (arith, a, capacity);
    }

-- the client of a timer that was taken
pub record IsDue {T : Type 0} (places : List Slot) (clients : Slab (Client T)) (key now : ℕ) : Type 0 where
  pub client : Client T
  pub is : get clients key ≡ Some client
  pub placed : Has places client.conn key
  pub due : client.deadline ≤ now

pub due_client : {T : Type 0} (places : List Slot) (clients : Slab (Client T)) (ts us : List Timer) (t : Timer) (key now : ℕ) → All (IsTied places clients) ts → IsPermutation ts (t ∷ us)
    → t.item ≡ key → t.deadline ≤ now → IsDue places clients key now
due_client places clients ts us t key now tied moves is due =
    let h : IsTied places clients t = All-head (IsTied places clients) t us (All-permutation (IsTied places clients) ts (t ∷ us) moves tied) in
    let e = h.deadline in record {
      client = h.client;
      is = ap (get clients) (sym is) ∙ h.is;
      placed = subst (λ (n : ℕ). Has places h.client.conn n) is h.placed;
      due = omega (arith, e, due);
    }

pub due_is_held : {T : Type 0} (places : List Slot) (clients : Slab (Client T)) (key now : ℕ) → IsDue places clients key now → IsSome (get clients key)
due_is_held places clients key now d = some_is (get clients key) d.client d.is

-- it is this one
pub due_here : {T : Type 0} (places : List Slot) (clients : Slab (Client T)) (key now : ℕ) (g : Client T) → IsDue places clients key now → get clients key ≡ Some g → Has places g.conn key × (g.deadline ≤ now)
due_here places clients key now g d is =
    let same : d.client ≡ g = some_same d.client g (sym d.is ∙ is) in
    (subst (λ (x : Client _). Has places x.conn key) same d.placed, subst (λ (x : Client _). x.deadline ≤ now) same d.due)

-- an empty table
pub new_sound : {T : Type 0} (h : Inside T) → h.clients.slots ≡ [] → ((q k : ℕ) → Has h.places.slots q k → ⊥) → h.timers.timers ≡ [] → slab_len h.clients + h.limit ≤ h.clients.capacity
    → h.limit ≤ h.places.spare → h.limit ≤ h.timers.spare → h.clients.capacity ≤ h.timers.reach → h.clients.capacity < 2 ^ 32 → IsSound h
new_sound h clients places timers room places_room timers_room keys keys_fit =
    let len : slab_len h.clients ≡ 0 = ap (λ (xs : List (Option _)). count_by is_some xs) clients in
    let long : length h.timers.timers ≡ 0 = ap (λ (ts : List Timer). length ts) timers in
    record {
      stands = λ k key has. absurd (places k key has);
      timed = λ k key has. absurd (places k key has);
      tied = subst (All (IsTied h.places.slots h.clients)) (sym timers) (All-nil (IsTied h.places.slots h.clients));
      count = omega (arith, len, long);
      few = omega (arith, len);
      room = omega (arith, len, room);
      places_room = omega (arith, places_room);
      timers_room = omega (arith, timers_room);
      keys = keys;
      keys_fit = keys_fit;
      held = λ k key has. absurd (places k key has);
    }

-- members come and go
pub members_sound : {T : Type 0} (h : Inside T) (members : List ℕ) → IsSound h → IsSound (record h { members = members })
members_sound h members s = record {
  stands = s.stands;
  timed = s.timed;
  tied = s.tied;
  count = s.count;
  few = s.few;
  room = s.room;
  places_room = s.places_room;
  timers_room = s.timers_room;
  keys = s.keys;
  keys_fit = s.keys_fit;
  held = s.held;
}
