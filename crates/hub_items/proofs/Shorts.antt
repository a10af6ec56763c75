-- What keeps the waits of items short.
use Rattle.std.proofs.Common.{ℕ, Bool, true, false, cond, List, [], ◌∷◌, ◌++◌, Option, Some, None}
use Rattle.std.specs.Prelude.{◌==◌, filter, nat_lt, IfSome}
use Rattle.machine.specs.declared.items.Item.{Item}
use Rattle.machine.specs.declared.items.Delivery.{Delivery}
use Rattle.machine.specs.Deliveries.{waiting_of, without}
use Rattle.machine.specs.Run.{least_below, nearer, with_this}
use Rattle.machine.specs.Settle.{settled, number_after}
use Rattle.hub_items.specs.Short.{AreShort, DeliversShort, IsShort}

pub short_more : (next : ℕ) (d : Delivery) (items : List Item) → DeliversShort d → AreShort items → AreShort (items ++ record { since = next; delivery = d; ready = None } ∷ [])
short_more next d [] h a = record { here = h; rest = a }
short_more next d (i ∷ items) h a = record { here = a.here; rest = short_more next d items h a.rest }

pub short_filter : (p : Item → Bool) (items : List Item) → AreShort items → AreShort (filter p items)
short_filter p [] a = a
short_filter p (i ∷ items) a = by (p i) (short_filter p items a.rest)
  where
    by : (b : Bool) → AreShort (filter p items) → AreShort (cond b (i ∷ filter p items) (filter p items))
    by true r = record { here = a.here; rest = r }
    by false r = r

pub short_settled : (hs : List Bool) (n : ℕ) (items : List Item) → AreShort items → AreShort (settled hs n items)
short_settled [] n items a = a
short_settled (h ∷ hs) n [] a = a
short_settled (h ∷ hs) n (i ∷ items) a = record { here = a.here; rest = short_settled hs (number_after h i.ready n) items a.rest }

pub short_without : (since : ℕ) (items : List Item) → AreShort items → AreShort (without since items)
short_without since [] a = a
short_without since (i ∷ items) a = by (i.since == since) (short_without since items a.rest)
  where
    by : (b : Bool) → AreShort (without since items) → AreShort (cond b items (i ∷ without since items))
    by true r = a.rest
    by false r = record { here = a.here; rest = r }

-- what is delivered is short, where all waits are
pub short_least : (mark : ℕ) (items : List Item) → AreShort items → IfSome (least_below mark items) (λ i. DeliversShort i.delivery)
short_least mark [] a = search a
short_least mark (i ∷ items) a = by i.ready (least_below mark items) (short_least mark items a.rest)
  where
    Fits : Option Item → Type 0
    Fits o = IfSome o (λ j. DeliversShort j.delivery)

    here : Fits (Some i)
    here = a.here

    near : (n : ℕ) (best : Option Item) → Fits best → Fits (nearer i n best)
    near n None r = here
    near n (Some j) r = of j.ready
      where
        pick : (b : Bool) → Fits (cond b (Some j) (Some i))
        pick true = r
        pick false = here

        of : (m : Option ℕ) → Fits (elim m [ None ↦ Some i | Some k ↦ cond (nat_lt k n) (Some j) (Some i) ])
        of None = here
        of (Some k) = pick (nat_lt k n)

    by : (m : Option ℕ) (best : Option Item) → Fits best → Fits (with_this i mark m best)
    by None best r = r
    by (Some n) best r = pick (nat_lt n mark)
      where
        pick : (b : Bool) → Fits (cond b (nearer i n best) best)
        pick true = near n best r
        pick false = r

-- what a greenlet waits for is short, where all waits are
pub short_wait : (g : ℕ) (items : List Item) → AreShort items → IfSome (waiting_of g items) IsShort
short_wait g [] a = search a
short_wait g (i ∷ items) a = by i.delivery a.here (short_wait g items a.rest)
  where
    by : (d : Delivery) → DeliversShort d → IfSome (waiting_of g items) IsShort → IfSome (waiting_of g (record i { delivery = d } ∷ items)) IsShort
    by (Delivery.Wake h w) here rest = of (g == h)
      where
        of : (b : Bool) → IfSome (cond b (Some w) (waiting_of g items)) IsShort
        of true = here
        of false = rest
    by (Delivery.Start h deadline) here rest = rest
    by (Delivery.Late h deadline n) here rest = rest
    by (Delivery.Timeout h n deadline) here rest = rest
    by (Delivery.Kill h f) here rest = rest
    by (Delivery.Link k h kind f) here rest = rest
