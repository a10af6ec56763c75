-- What one step of the hub or of a worker leaves as it was.
use Rattle.std.proofs.Common.{◌≡◌, ◌≢◌, ℕ, zero, suc, ◌+◌, ◌*◌, ◌<◌, ◌≤◌, List, [], ◌∷◌, ◌++◌, map, length, set, sym, refl, ap, ◌∙◌, subst, get_or, ◌⊎◌, ⊎_elim, inl, inr, arith, length-append, length-set, get_or-set_same, get_or-set_other}
use mathlib.Core.Logic.{dite}
use mathlib.Core.Option.{some, some-injective, some-ne-none}
use native.Mathlib.Decide.{ℕ_discrete}
use lib.ListN.{get_elem?}
use Rattle.std.proofs.lemmas.Grind.{get_or-set_at}
use lib.Seq.{map-set}
use Rattle.atomic_table.proofs.Lists.{at_set}
use Rattle.atomic_table.specs.Table.{State}
use Rattle.native_board.specs.declared.views.HubCell.{HubCell}
use Rattle.native_board.specs.declared.views.HubCell.TheVariants.{Vacant, Sent}
use Rattle.native_board.specs.declared.views.CellState.{CellState}
use Rattle.native_board.specs.declared.views.CellState.TheVariants.{Done}
use Rattle.native_board.specs.declared.views.Signal.{Signal}
use Rattle.native_board.specs.declared.views.Signal.TheVariants.{High}
use Rattle.native_board.specs.declared.views.HubView.{HubView}
use Rattle.native_board.specs.declared.views.WorkerStage.{WorkerStage}
use Rattle.native_board.specs.declared.views.WorkerView.{WorkerView}
use Rattle.native_board.specs.declared.views.View.{View}
use Rattle.native_board.specs.declared.views.View.TheVariants.{Hub, Worker}
use Rattle.native_board.specs.Words.{CellWords, cell_words, signal_in, state_in}
use Rattle.native_board.specs.Rules.{CellRule, NoLost, Fits, signal_of, hub_cell, posts_at, Kept}
use Rattle.native_board.specs.Plays.{lowered, taken, saw}

abbrev pub St : Type 0
St = State (Unit {0}) View

abbrev is_hub : View → Type 0
is_hub (Hub h) = Unit {0}
is_hub (Worker w) = ⊥

abbrev pub hub_or : HubView → View → HubView
hub_or d (Hub h) = h
hub_or d (Worker w) = d

no_hub_there : (ws : List WorkerView) (i : ℕ) (h : HubView) → get_elem? (map (λ w. Worker w) ws) i ≡ some (Hub h) → ⊥
no_hub_there [] i h e = some-ne-none (Hub h) (sym e)
no_hub_there (w ∷ ws) zero h e = subst is_hub (sym (some-injective (Worker w) (Hub h) e)) tt
no_hub_there (w ∷ ws) (suc i) h e = no_hub_there ws i h e

pub hub_seat : (h : HubView) (ws : List WorkerView) (id : ℕ) (v : HubView) → get_elem? (Hub h ∷ map (λ w. Worker w) ws) id ≡ some (Hub v) → (id ≡ 0) × (v ≡ h)
hub_seat h ws zero v e = (refl, sym (ap (hub_or h) (some-injective (Hub h) (Hub v) e)))
hub_seat h ws (suc i) v e = absurd (no_hub_there ws i v e)

-- the signal and the words of every cell but i are as they were
abbrev pub Spares : ℕ → List ℕ → List ℕ → Type 0
Spares i xs ys = (length ys ≡ length xs) × ((j : ℕ) → j ≢ i → cell_words ys j ≡ cell_words xs j) × (signal_of ys ≡ signal_of xs)

pub spares : (xs : List ℕ) (i q at x : ℕ) → at ≡ 4 * i + 1 + q → q < 4 → Spares i xs (set xs at x)
spares xs i q at x is small = (
  length-set xs at x,
  λ j n. let same = λ (k : ℕ) (l : k ≢ at). get_or-set_other xs at k x 0 l in
      λ c. record { state = same (4 * j + 1) (λ e. n (omega arith)) c; order = same (4 * j + 2) (λ e. n (omega arith)) c; argument = same (4 * j + 3) (λ e. n (omega arith)) c; value = same (4 * j + 4) (λ e. n (omega arith)) c },
  ap signal_in (get_or-set_other xs at 0 x 0 (λ e. omega arith)),
)

-- the words of a cell, of which the word q becomes x
abbrev pub put_word : CellWords → ℕ → ℕ → CellWords
put_word c zero x = record c { state = x }
put_word c (suc zero) x = record c { order = x }
put_word c (suc (suc zero)) x = record c { argument = x }
put_word c (suc (suc (suc q))) x = record c { value = x }

pub puts : (xs : List ℕ) (i q at x : ℕ) → at ≡ 4 * i + 1 + q → q < 4 → at < length xs → cell_words (set xs at x) i ≡ put_word (cell_words xs i) q x
puts xs i zero at x is small l = let same = λ (k : ℕ) (n : k ≢ at). get_or-set_other xs at k x 0 n in let here = λ (k : ℕ) (e : k ≡ at). get_or-set_at xs at k x 0 e l in
    λ c. record { state = here (4 * i + 1) (omega arith) c; order = same (4 * i + 2) (omega arith) c; argument = same (4 * i + 3) (omega arith) c; value = same (4 * i + 4) (omega arith) c }
puts xs i (suc zero) at x is small l = let same = λ (k : ℕ) (n : k ≢ at). get_or-set_other xs at k x 0 n in let here = λ (k : ℕ) (e : k ≡ at). get_or-set_at xs at k x 0 e l in
    λ c. record { state = same (4 * i + 1) (omega arith) c; order = here (4 * i + 2) (omega arith) c; argument = same (4 * i + 3) (omega arith) c; value = same (4 * i + 4) (omega arith) c }
puts xs i (suc (suc zero)) at x is small l = let same = λ (k : ℕ) (n : k ≢ at). get_or-set_other xs at k x 0 n in let here = λ (k : ℕ) (e : k ≡ at). get_or-set_at xs at k x 0 e l in
    λ c. record { state = same (4 * i + 1) (omega arith) c; order = same (4 * i + 2) (omega arith) c; argument = here (4 * i + 3) (omega arith) c; value = same (4 * i + 4) (omega arith) c }
puts xs i (suc (suc (suc q))) at x is small l = let same = λ (k : ℕ) (n : k ≢ at). get_or-set_other xs at k x 0 n in let here = λ (k : ℕ) (e : k ≡ at). get_or-set_at xs at k x 0 e l in
    λ c. record { state = same (4 * i + 1) (omega arith) c; order = same (4 * i + 2) (omega arith) c; argument = same (4 * i + 3) (omega arith) c; value = here (4 * i + 4) (omega arith) c }

-- cell i with its worker, as words and hub have it
abbrev FitsAt : List ℕ → HubView → ℕ → WorkerView → Type 0
FitsAt ws h i w = Fits (signal_of ws) (length h.seen) i (cell_words ws i) (hub_cell h i) (posts_at h i) w.stage w.takes

-- the counts of posts of every cell but i are as they were
abbrev pub CountsElse : ℕ → List ℕ → List ℕ → Type 0
CountsElse i ps qs = (length qs ≡ length ps) × ((j : ℕ) → j ≢ i → get_or qs j 0 ≡ get_or ps j 0)

-- the hub's view after a step at cell i
abbrev pub moved : HubView → ℕ → HubCell → List ℕ → HubView
moved h i x ps = record h { cells = set h.cells i x; posts = ps }

fits_else : (xs ys : List ℕ) (h : HubView) (i j : ℕ) (x : HubCell) (ps : List ℕ) (w : WorkerView) → Spares i xs ys → CountsElse i h.posts ps → j ≢ i → FitsAt xs h j w → FitsAt ys (moved h i x ps) j w
fits_else xs ys h i j x ps w sp ce n =
    subst (λ (z : Signal × CellWords × HubCell × ℕ). Fits z.0 (length h.seen) j z.1 z.2 z.3 w.stage w.takes)
    (λ c. (sym sp.2 c, sym (sp.1 j n) c, sym (get_or-set_other h.cells i j x Vacant n) c, sym (ce.1 j n) c))

fits_here : (ys : List ℕ) (h : HubView) (i : ℕ) (x : HubCell) (ps : List ℕ) (w : WorkerView) → i < length h.cells
    → Fits (signal_of ys) (length h.seen) i (cell_words ys i) x (get_or ps i 0) w.stage w.takes → FitsAt ys (moved h i x ps) i w
fits_here ys h i x ps w l =
    subst (λ (z : HubCell). Fits (signal_of ys) (length h.seen) i (cell_words ys i) z (get_or ps i 0) w.stage w.takes) (sym (get_or-set_same h.cells i x Vacant l))

pub is_high : (b : Signal) (reached i : ℕ) (st : CellState) (x : HubCell) (w : WorkerStage) → b ≡ High → NoLost b reached i st x w
is_high b reached i (Done e) (Sent k j) w h = inl h
is_high b reached i st x w h = tt

-- a raised signal is as good
raised_fits : (a b : Signal) (reached i : ℕ) (c : CellWords) (x : HubCell) (p : ℕ) (w : WorkerStage) (t : ℕ) → (b ≡ a) ⊎ (b ≡ High) → Fits a reached i c x p w t → Fits b reached i c x p w t
raised_fits a b reached i c x p w t h f =
    ⊎_elim (λ (e : b ≡ a). subst (λ z. Fits z reached i c x p w t) (sym e) f)
    (λ (e : b ≡ High). (f.0, is_high b reached i (state_in c.state) x w e, f.2)) h

-- the hub's view h, where its seat is, is the rule's
pub hub_there : (s : St) (r : Kept s) (id : ℕ) (h : HubView) → get_elem? s.views id ≡ some (Hub h) → (id ≡ 0) × (h ≡ r.hub)
hub_there s r id h at = hub_seat r.hub r.workers id h (subst (λ vs. get_elem? vs id ≡ some (Hub h)) r.views_are at)

-- how a step of the hub changes what fits at a cell, whatever its worker knows
abbrev Goes : St → HubView → ℕ → List ℕ → HubCell → HubCell → List ℕ → Type 0
Goes s h i ys old x ps =
    (w : WorkerStage) (t : ℕ) → Fits (signal_of s.words) (length h.seen) i (cell_words s.words i) old (posts_at h i) w t
    → Fits (signal_of ys) (length h.seen) i (cell_words ys i) x (get_or ps i 0) w t

hub_at_rule : (s : St) (r : Kept s) (id : ℕ) → id ≡ 0 → (i : ℕ) → i < r.hub.made → (ys : List ℕ) → Spares i s.words ys → (old x : HubCell) (ps : List ℕ) → hub_cell r.hub i ≡ old
    → CountsElse i r.hub.posts ps → Goes s r.hub i ys old x ps → Kept record { words = ys; homes = s.homes; views = set s.views id (Hub (moved r.hub i x ps)) }
hub_at_rule s r id first i low ys sp old x ps is ce go =
    let fit = r.made_fit in let made = r.made_are in let counts = r.posts_fit in
    let len = length-set r.hub.cells i x in
    let apart : (j : ℕ) → r.hub.made ≤ j → j ≢ i = λ j l e. omega arith in record {
      hub = moved r.hub i x ps;
      workers = r.workers;
      views_are = λ c. set (r.views_are c) (first c) (Hub (moved r.hub i x ps));
      made_are = made;
      made_fit = omega arith;
      posts_fit = ce.0 ∙ (counts ∙ sym len);
      wide = sp.0 ∙ (r.wide ∙ ap (λ (n : ℕ). 4 * n + 1) (sym len));
      started = λ j w e. let t = r.started j w e in (
        t.0,
        dite (ℕ_discrete j i)
            (λ here. subst (λ (k : ℕ). FitsAt ys (moved r.hub i x ps) k w) (sym here) (fits_here ys r.hub i x ps w (omega arith)
            (go w.stage w.takes (subst (λ (z : HubCell). Fits (signal_of s.words) (length r.hub.seen) i (cell_words s.words i) z (posts_at r.hub i) w.stage w.takes) is (subst (λ (k : ℕ). FitsAt s.words r.hub k w) here t.1)))))
            (λ n. fits_else s.words ys r.hub i j x ps w sp ce n t.1),
      );
      unstarted = λ j l m. let n : j ≢ i = apart j l in let t = r.unstarted j l (omega arith) in
          (ap (λ (z : CellWords). state_in z.state) (sp.1 j n) ∙ t.0, get_or-set_other r.hub.cells i j x Vacant n ∙ t.1, ce.1 j n ∙ t.2);
    }

-- a step of the hub at cell i, which takes its view of the cell from old to x and its counts of posts to ps
pub hub_at : (s : St) (r : Kept s) (id : ℕ) (h : HubView) → get_elem? s.views id ≡ some (Hub h) → (i : ℕ) → i < h.made → (ys : List ℕ) → Spares i s.words ys → (old x : HubCell) (ps : List ℕ)
    → hub_cell h i ≡ old → CountsElse i h.posts ps → Goes s h i ys old x ps → Kept record { words = ys; homes = s.homes; views = set s.views id (Hub (moved h i x ps)) }
hub_at s r id h at i low ys sp old x ps is ce go =
    let seat = hub_there s r id h at in
    subst (λ (z : HubView). i < z.made → hub_cell z i ≡ old → CountsElse i z.posts ps → Goes s z i ys old x ps → Kept record { words = ys; homes = s.homes; views = set s.views id (Hub (moved z i x ps)) }) (sym seat.1)
    (λ a b d e. hub_at_rule s r id seat.0 i a ys sp old x ps b d e) low is ce go

-- the words of a cell of a started worker lie on the board
pub in_board : (s : St) (r : Kept s) (id : ℕ) (h : HubView) → get_elem? s.views id ≡ some (Hub h) → (i : ℕ) → i < h.made → 4 * i + 4 < length s.words
in_board s r id h at i low = let fit = r.made_fit in let wide = r.wide in let low' : i < r.hub.made = subst (λ (z : HubView). i < z.made) (hub_there s r id h at).1 low in omega arith

-- a started cell has a count of posts
pub has_count : (s : St) (r : Kept s) (id : ℕ) (h : HubView) → get_elem? s.views id ≡ some (Hub h) → (i : ℕ) → i < h.made → i < length h.posts
has_count s r id h at i low = let fit = r.made_fit in let counts = r.posts_fit in let same = (hub_there s r id h at).1 in
    let low' : i < r.hub.made = subst (λ (z : HubView). i < z.made) same low in subst (λ (z : HubView). i < length z.posts) (sym same) (omega arith)

abbrev worker_or : WorkerView → View → WorkerView
worker_or d (Hub h) = d
worker_or d (Worker w) = w

worker_there : (ws : List WorkerView) (i : ℕ) (w : WorkerView) → get_elem? (map (λ v. Worker v) ws) i ≡ some (Worker w) → get_elem? ws i ≡ some w
worker_there [] i w e = absurd (some-ne-none (Worker w) (sym e))
worker_there (v ∷ vs) zero w e = ap (λ (z : View). some (worker_or v z)) (some-injective (Worker v) (Worker w) e)
worker_there (v ∷ vs) (suc i) w e = worker_there vs i w e

pub worker_seat : (h : HubView) (ws : List WorkerView) (id : ℕ) (w : WorkerView) → get_elem? (Hub h ∷ map (λ v. Worker v) ws) id ≡ some (Worker w) → (i : ℕ) × (id ≡ suc i) × (get_elem? ws i ≡ some w)
worker_seat h ws zero w e = absurd (subst is_hub (some-injective (Hub h) (Worker w) e) tt)
worker_seat h ws (suc i) w e = (i, refl, worker_there ws i w e)

get_elem-lt : {A : Type 0} (l : List A) (i : ℕ) (a : A) → get_elem? l i ≡ some a → i < length l
get_elem-lt [] i a e = absurd (some-ne-none a (sym e))
get_elem-lt (x ∷ xs) zero a e = omega arith
get_elem-lt (x ∷ xs) (suc i) a e = let r = get_elem-lt xs i a e in omega arith

-- A step of the worker w, which leaves it as w'. The words of the other cells stay, and the signal stays or is raised
pub worker_at : (s : St) (r : Kept s) (id : ℕ) (w : WorkerView) → get_elem? s.views id ≡ some (Worker w) → (w' : WorkerView) → w'.cell ≡ w.cell → (ys : List ℕ) → length ys ≡ length s.words
    → ((j : ℕ) → j ≢ w.cell → cell_words ys j ≡ cell_words s.words j) → (signal_of ys ≡ signal_of s.words) ⊎ (signal_of ys ≡ High)
    → ((x : HubCell) (p reached : ℕ) → Fits (signal_of s.words) reached w.cell (cell_words s.words w.cell) x p w.stage w.takes → Fits (signal_of ys) reached w.cell (cell_words ys w.cell) x p w'.stage w'.takes)
    → Kept record { words = ys; homes = s.homes; views = set s.views id (Worker w') }
worker_at s r id w at w' stays ys len others raised go =
    let fit = r.made_fit in let made = r.made_are in
    let seat = worker_seat r.hub r.workers id w (subst (λ vs. get_elem? vs id ≡ some (Worker w)) r.views_are at) in
    let i : ℕ = seat.0 in let mine = r.started i w seat.2 in let cell : w.cell ≡ i = mine.0 in
    let within : i < length r.workers = get_elem-lt r.workers i w seat.2 in
    let others' : (j : ℕ) → j ≢ i → cell_words ys j ≡ cell_words s.words j = λ j n. others j (λ e. n (e ∙ cell)) in
    let row : FitsAt ys r.hub i w' =
    subst (λ (k : ℕ). FitsAt ys r.hub k w') cell (go (hub_cell r.hub w.cell) (posts_at r.hub w.cell) (length r.hub.seen) (subst (λ (k : ℕ). FitsAt s.words r.hub k w) (sym cell) mine.1)) in
    record {
      hub = r.hub;
      workers = set r.workers i w';
      views_are = (λ c. set (r.views_are c) (seat.1 c) (Worker w')) ∙ (λ c. Hub r.hub ∷ sym (map-set (λ (v : WorkerView). Worker v) r.workers i w') c);
      made_are = length-set r.workers i w' ∙ made;
      made_fit = fit;
      posts_fit = r.posts_fit;
      wide = len ∙ r.wide;
      started = λ j v e. ⊎_elim
          (λ (t : (j ≡ i) × (w' ≡ v)). subst (λ (z : ℕ × WorkerView). (z.1.cell ≡ z.0) × FitsAt ys r.hub z.0 z.1) (λ c. (sym t.0 c, t.1 c)) (stays ∙ cell, row))
          (λ (t : (j ≢ i) × (get_elem? r.workers j ≡ some v)). let u = r.started j v t.1 in
          (u.0, subst (λ (z : CellWords). Fits (signal_of ys) (length r.hub.seen) j z (hub_cell r.hub j) (posts_at r.hub j) v.stage v.takes) (sym (others' j t.0)) (raised_fits _ _ _ j (cell_words s.words j) (hub_cell r.hub j) _ v.stage _ raised u.1)))
          (at_set r.workers i j w' v e);
      unstarted = λ j l m. let n : j ≢ i = λ e. omega arith in let t = r.unstarted j l m in (ap (λ (z : CellWords). state_in z.state) (others' j n) ∙ t.0, t.1, t.2);
    }

pub own_in_board : (s : St) (r : Kept s) (id : ℕ) (w : WorkerView) → get_elem? s.views id ≡ some (Worker w) → 4 * w.cell + 4 < length s.words
own_in_board s r id w at =
    let fit = r.made_fit in let made = r.made_are in let wide = r.wide in
    let seat = worker_seat r.hub r.workers id w (subst (λ vs. get_elem? vs id ≡ some (Worker w)) r.views_are at) in
    let within = get_elem-lt r.workers seat.0 w seat.2 in let own = (r.started seat.0 w seat.2).0 in omega arith

-- a word of the signal is of no cell
pub off_cells : (xs : List ℕ) (x j : ℕ) → cell_words (set xs 0 x) j ≡ cell_words xs j
off_cells xs x j = let same = λ (k : ℕ) (l : k ≢ 0). get_or-set_other xs 0 k x 0 l in
    λ c. record { state = same (4 * j + 1) (λ e. omega arith) c; order = same (4 * j + 2) (λ e. omega arith) c; argument = same (4 * j + 3) (λ e. omega arith) c; value = same (4 * j + 4) (λ e. omega arith) c }

none_reached : (g : Signal) (i : ℕ) (st : CellState) (x : HubCell) (w : WorkerStage) → NoLost g 0 i st x w
none_reached g i (Done e) (Sent k j) w = inr (inr (omega arith))
none_reached g i st x w = tt

-- a sweep that begins has reached no cell
from_start : (a b : Signal) (n i : ℕ) (c : CellWords) (x : HubCell) (p : ℕ) (w : WorkerStage) (t : ℕ) → Fits a n i c x p w t → Fits b 0 i c x p w t
from_start a b n i c x p w t f = (f.0, none_reached b i (state_in c.state) x w, f.2)

pub lowers : (s : St) (r : Kept s) (id : ℕ) (h : HubView) → get_elem? s.views id ≡ some (Hub h) → (x : ℕ) → Kept record { words = set s.words 0 x; homes = s.homes; views = set s.views id (lowered (Hub h)) }
lowers s r id h at x = let seat = hub_there s r id h at in record {
  hub = record r.hub { sweeps = r.hub.sweeps + 1; seen = [] };
  workers = r.workers;
  views_are = λ c. set (r.views_are c) (seat.0 c) (lowered (Hub (seat.1 c)));
  made_are = r.made_are;
  made_fit = r.made_fit;
  posts_fit = r.posts_fit;
  wide = length-set s.words 0 x ∙ r.wide;
  started = λ j w e. let t = r.started j w e in (
    t.0,
    subst (λ (z : CellWords). Fits (signal_of (set s.words 0 x)) 0 j z (hub_cell r.hub j) (posts_at r.hub j) w.stage w.takes) (sym (off_cells s.words x j))
        (from_start (signal_of s.words) _ (length r.hub.seen) j (cell_words s.words j) (hub_cell r.hub j) _ w.stage _ t.1),
  );
  unstarted = λ j l m. let t = r.unstarted j l m in (ap (λ (z : CellWords). state_in z.state) (off_cells s.words x j) ∙ t.0, t.1, t.2);
}

seen_more : (g : Signal) (n i : ℕ) (st : CellState) (x : HubCell) (w : WorkerStage) → i ≢ n → NoLost g n i st x w → NoLost g (n + 1) i st x w
seen_more g n i (Done e) (Sent k j) w apart t = ⊎_elim (λ a. inl a) (λ a. ⊎_elim (λ b. inr (inl b)) (λ (b : n ≤ i). inr (inr (omega arith))) a) t
seen_more g n i st x w apart t = t

taken_row : (g : Signal) (n i : ℕ) (c : CellWords) (st : CellState) (x : HubCell) (w : WorkerStage) → CellRule c st x w → CellRule c st (taken st x) w × NoLost g n i st (taken st x) w
taken_row g n i c (Done e) (Sent k j) w t = (t, tt)
taken_row g n i c st x w t = (t, tt)

at_lt : {A : Type 0} (l : List A) (i : ℕ) → i < length l → (a : A) × (get_elem? l i ≡ some a)
at_lt [] i h = absurd (omega arith)
at_lt (x ∷ xs) zero h = (x, refl)
at_lt (x ∷ xs) (suc i) h = at_lt xs i (omega arith)

-- what the rule says of a started cell, whose worker may be anywhere
pub started_fits : (s : St) (r : Kept s) (id : ℕ) (h : HubView) → get_elem? s.views id ≡ some (Hub h) → (i : ℕ) → i < h.made
    → (w : WorkerStage) × (t : ℕ) × Fits (signal_of s.words) (length h.seen) i (cell_words s.words i) (hub_cell h i) (posts_at h i) w t
started_fits s r id h at i low = let made = r.made_are in let same = (hub_there s r id h at).1 in let low' : i < r.hub.made = subst (λ (z : HubView). i < z.made) same low in
    let w = at_lt r.workers i (omega arith) in
    (w.0.stage, w.0.takes, subst (λ (z : HubView). Fits (signal_of s.words) (length z.seen) i (cell_words s.words i) (hub_cell z i) (posts_at z i) w.0.stage w.0.takes) (sym same) (r.started i w.0 w.1).1)

pub sees : (s : St) (r : Kept s) (id : ℕ) (h : HubView) → get_elem? s.views id ≡ some (Hub h) → length h.seen < h.made
    → Kept record { words = s.words; homes = s.homes; views = set s.views id (Hub (saw h (state_in (cell_words s.words (length h.seen)).state))) }
sees s r id h at low =
    let fit = r.made_fit in let made = r.made_are in let counts = r.posts_fit in let seat = hub_there s r id h at in let same : h ≡ r.hub = seat.1 in
    let i : ℕ = length r.hub.seen in let low' : i < r.hub.made = subst (λ (z : HubView). length z.seen < z.made) same low in
    let st : CellState = state_in (cell_words s.words i).state in let x : HubCell = taken st (hub_cell r.hub i) in let hub' : HubView = saw r.hub st in
    let len = length-set r.hub.cells i x in let more : length (r.hub.seen ++ st ∷ []) ≡ i + 1 = length-append r.hub.seen (st ∷ []) in record {
      hub = hub';
      workers = r.workers;
      views_are = λ c. set (r.views_are c) (seat.0 c) (Hub (saw (same c) (state_in (cell_words s.words (length (same c).seen)).state)));
      made_are = made;
      made_fit = omega arith;
      posts_fit = counts ∙ sym len;
      wide = r.wide ∙ ap (λ (n : ℕ). 4 * n + 1) (sym len);
      started = λ j w e. let t = r.started j w e in (
        t.0,
        subst (λ (n : ℕ). Fits (signal_of s.words) n j (cell_words s.words j) (hub_cell hub' j) (posts_at r.hub j) w.stage w.takes) (sym more) (dite (ℕ_discrete j i)
            (λ here. subst (λ (k : ℕ). Fits (signal_of s.words) (i + 1) k (cell_words s.words k) (hub_cell hub' k) (posts_at r.hub k) w.stage w.takes) (sym here)
            (subst (λ (z : HubCell). Fits (signal_of s.words) (i + 1) i (cell_words s.words i) z (posts_at r.hub i) w.stage w.takes) (sym (get_or-set_same r.hub.cells i x Vacant (omega arith)))
            (let f = subst (λ (k : ℕ). FitsAt s.words r.hub k w) here t.1 in let g = taken_row (signal_of s.words) (i + 1) i (cell_words s.words i) st (hub_cell r.hub i) w.stage f.0 in (g.0, g.1, f.2))))
            (λ n. subst (λ (z : HubCell). Fits (signal_of s.words) (i + 1) j (cell_words s.words j) z (posts_at r.hub j) w.stage w.takes) (sym (get_or-set_other r.hub.cells i j x Vacant n))
            (t.1.0, seen_more (signal_of s.words) i j (state_in (cell_words s.words j).state) (hub_cell r.hub j) w.stage n t.1.1, t.1.2))),
      );
      unstarted = λ j l m. let n : j ≢ i = λ e. omega arith in let t = r.unstarted j l (omega arith) in (t.0, get_or-set_other r.hub.cells i j x Vacant n ∙ t.1, t.2);
    }
