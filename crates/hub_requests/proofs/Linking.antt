-- A link that stands, or is dropped.
use Rattle.std.proofs.Common.{◌≡◌, ap, sym, ◌∙◌, ℕ, ◌+◌, ◌<◌, ◌≤◌, Bool, true, false, Option, Some, None, arith}
use Rattle.std.specs.Prelude.{if◌then◌else◌, nat_lt, pos, ℤ}
use Rattle.std.proofs.lemmas.Bool.Decides.{nat_tests}
use Rattle.gv_values.specs.declared.value.Outcome.{Outcome}
use Rattle.gv_values.specs.declared.value.Value.{Value}
use Rattle.gv_values.specs.declared.value.Whom.{Whom}
use Rattle.trace_text.specs.declared.line.StopCause.{StopCause}
use Rattle.machine.specs.declared.items.Delivery.{Delivery}
use Rattle.gv_values.specs.declared.link.LinkKind.{LinkKind}
use Rattle.machine.specs.Holds.{outcome_of}
use Rattle.gv_values.specs.declared.fault.FaultKind.{FaultKind}
use Rattle.machine.specs.declared.request.Request.{Request}
use Rattle.machine.specs.Items.{add_item, drop_items}
use Rattle.machine.specs.Request.{done, int_operand, is_link, link_stands, links, performs, typed}
use Rattle.machine.specs.State.{State}
use Rattle.machine.specs.Waits.{Performed, raises}
use Rattle.machine.specs.declared.limits.TheConstants.{MOST_LINKS}

-- one more may be made, and this is whether it stands
pub linked : (k : ℕ) (kind : LinkKind) (f n : ℕ) (b : Bool) (s t u : State) → s.links < MOST_LINKS → n ≡ s.links + 1 → t ≡ record s { links = s.links + 1 } →
    b ≡ link_stands kind (outcome_of t (Whom.Greenlet k)) → u ≡ (if b then add_item (Delivery.Link n k kind f) t else t) →
    links k kind f s ≡ Performed.Answers (Outcome.Value (Value.Int (pos n))) u
linked k kind f n b s t u h e z r v =
    let few : nat_lt s.links MOST_LINKS ≡ true = grind (arith, nat_tests) in
    let x = record s { links = s.links + 1 } in
    rw few (ap (λ (m : ℕ). Performed.Answers (Outcome.Value (Value.Int (pos m))) (if link_stands kind (outcome_of x (Whom.Greenlet k)) then add_item (Delivery.Link m k kind f) x else x)) (sym e)
    ∙ ap (λ (y : State). Performed.Answers (Outcome.Value (Value.Int (pos n))) (if link_stands kind (outcome_of y (Whom.Greenlet k)) then add_item (Delivery.Link n k kind f) y else y)) (sym z)
    ∙ ap (λ (c : Bool). Performed.Answers (Outcome.Value (Value.Int (pos n))) (if c then add_item (Delivery.Link n k kind f) t else t)) (sym r)
    ∙ ap (λ (y : State). Performed.Answers (Outcome.Value (Value.Int (pos n))) y) (sym v))

pub too_many : (k : ℕ) (kind : LinkKind) (f : ℕ) (s : State) → MOST_LINKS ≤ s.links → links k kind f s ≡ Performed.Stops StopCause.NoLinks s
too_many k kind f s h = let many : nat_lt s.links MOST_LINKS ≡ false = grind (arith, nat_tests) in rw many

-- ---- a link that goes

pub unlinked : (o : Option ℤ) (n : ℤ) (g : ℕ) (v : Value) (s t : State) → o ≡ int_operand v → o ≡ Some n → t ≡ drop_items (is_link n) s → performs (Request.Unlink v) g s ≡ done t
unfolding performs
unlinked o n g v s t e f h =
    ap (λ (x : Option ℤ). typed x s (λ m. done (drop_items (is_link m) s))) (sym e ∙ f) ∙ ap (λ (x : State). done x) (sym h)

pub not_unlinked : (o : Option ℤ) (g : ℕ) (v : Value) (s : State) → o ≡ int_operand v → o ≡ None → performs (Request.Unlink v) g s ≡ raises FaultKind.TypeError s
unfolding performs
not_unlinked o g v s e f = ap (λ (x : Option ℤ). typed x s (λ m. done (drop_items (is_link m) s))) (sym e ∙ f)
