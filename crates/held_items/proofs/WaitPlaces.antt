-- The places of the table of those who wait.
use Rattle.std.proofs.Common.{◌≡◌, ℕ, ◌+◌, ◌<◌, ◌==◌, ◌&&◌, Bool, true, false, Option, Some, None, refl, sym, ap, ◌∙◌, arith}
use Rattle.std.specs.Prelude.{is_none, option_map}
use Rattle.std.proofs.lemmas.Bool.Decides.{nat_tests}
use Rattle.machine.specs.declared.items.Delivery.{Delivery}
use Rattle.machine.specs.declared.items.Waiting.{Waiting}
use Rattle.machine_settling.specs.Classes.{Class, class_of, class_of_wait, is_at}
use Rattle.hub_items.specs.declared.waits.WaitKind.{WaitKind}
use Rattle.hub_items.specs.Lines.{is_line, waiting_line, line_of_delivery}
use Rattle.hub_items.specs.WaitKinds.{same_kind}
use Rattle.hub_items.proofs.WaitKinds.{wakes_line}
use Rattle.held_items.specs.declared.waits.Target.{Target}
use Rattle.held_items.specs.declared.waits.TheConstants.{COLUMNS}
use Rattle.held_items.specs.Indexed.{has_key, is_key}
use Rattle.held_items.specs.Waits.{ends_key, is_for, line_column, object_place, same_target, target_of, target_of_class, target_place, wait_place, waits_for, waits_in_line, waits_in_none, waits_key}
use Rattle.held_items.proofs.EntryLemmas.{is_other}
use Rattle.held_items.proofs.Owning.{grid}

small : (kind : WaitKind) → line_column kind < 7
small WaitKind.Acquire = omega arith
small WaitKind.Lock = omega arith
small WaitKind.Put = omega arith
small WaitKind.Take = omega arith
small WaitKind.Place = omega arith
small WaitKind.Slot = omega arith
small WaitKind.TakeOffer = omega arith

same_column : (a b : WaitKind) → (line_column a == line_column b) ≡ same_kind a b
same_column WaitKind.Acquire WaitKind.Acquire = refl
same_column WaitKind.Lock WaitKind.Lock = refl
same_column WaitKind.Put WaitKind.Put = refl
same_column WaitKind.Take WaitKind.Take = refl
same_column WaitKind.Place WaitKind.Place = refl
same_column WaitKind.Slot WaitKind.Slot = refl
same_column WaitKind.TakeOffer WaitKind.TakeOffer = refl
same_column a b = refl

one_place : (o p a b : ℕ) → a < COLUMNS → b < COLUMNS → (object_place o a == object_place p b) ≡ ((a == b) && (o == p))
one_place o p a b s t = grid o p a b s t

line_place : (kind other : WaitKind) (o p : ℕ) → (object_place o (line_column kind) == object_place p (line_column other)) ≡ (same_kind kind other && o == p)
line_place kind other o p =
    let s = small kind in
    let t = small other in
    one_place o p (line_column kind) (line_column other) (omega (arith, s)) (omega (arith, t)) ∙ ap (λ b. b && o == p) (same_column kind other)

-- who is in no line is at another place
off_place : (kind : WaitKind) (o p : ℕ) → (object_place o (line_column kind) == object_place p 7) ≡ false
off_place kind o p = let s = small kind in is_other (object_place o (line_column kind)) (object_place p 7) (λ e. omega (arith, s, e))

line_wait : (kind : WaitKind) (o : ℕ) (w : Waiting) → is_key (object_place o (line_column kind)) (wait_place (waiting_line w) (class_of_wait w)) ≡ is_line kind o (waiting_line w)
line_wait kind o (Waiting.Sleep until) = refl
line_wait kind o (Waiting.Join g) = refl
line_wait kind o (Waiting.Get whom) = refl
line_wait kind o (Waiting.Kill gs) = refl
line_wait kind o (Waiting.JoinAll gs need) = refl
line_wait kind o (Waiting.Event p sets) = off_place kind o p
line_wait kind o (Waiting.ResultGet p) = off_place kind o p
line_wait kind o (Waiting.ResultWait p) = off_place kind o p
line_wait kind o (Waiting.Acquire p) = line_place kind WaitKind.Acquire o p
line_wait kind o (Waiting.Lock p) = line_place kind WaitKind.Lock o p
line_wait kind o (Waiting.Put p v) = line_place kind WaitKind.Put o p
line_wait kind o (Waiting.Take p) = line_place kind WaitKind.Take o p
line_wait kind o (Waiting.Peek p) = off_place kind o p
line_wait kind o (Waiting.Tasks p) = off_place kind o p
line_wait kind o (Waiting.Place p f vs) = line_place kind WaitKind.Place o p
line_wait kind o (Waiting.MapPlace p f xs made) = line_place kind WaitKind.Place o p
line_wait kind o (Waiting.MapEnd p made) = refl
line_wait kind o (Waiting.Members p) = off_place kind o p
line_wait kind o (Waiting.Slot p job takes) = line_place kind WaitKind.Slot o p
line_wait kind o (Waiting.Offered p) = off_place kind o p
line_wait kind o (Waiting.TakeOffer p) = line_place kind WaitKind.TakeOffer o p

pub line_key : (kind : WaitKind) (o : ℕ) (d : Delivery) → has_key waits_key (object_place o (line_column kind)) d ≡ waits_in_line kind o d
line_key kind o d = by d ∙ sym (wakes_line kind o d)
  where
    by : (d : Delivery) → has_key waits_key (object_place o (line_column kind)) d ≡ is_line kind o (line_of_delivery d)
    by (Delivery.Start g None) = refl
    by (Delivery.Start g (Some deadline)) = refl
    by (Delivery.Wake g w) = line_wait kind o w
    by (Delivery.Late g deadline n) = refl
    by (Delivery.Timeout g n deadline) = refl
    by (Delivery.Kill g f) = refl
    by (Delivery.Link k g link f) = refl

pub none_key : (o : ℕ) (d : Delivery) → has_key waits_key (object_place o 7) d ≡ waits_in_none o d
none_key o d = by (line_of_delivery d) (class_of d)
  where
    last : (kind : WaitKind) (p : ℕ) → (object_place o 7 == object_place p (line_column kind)) ≡ false
    last kind p = let s = small kind in is_other (object_place o 7) (object_place p (line_column kind)) (λ e. omega (arith, s, e))

    no_and : (b : Bool) → (b && false) ≡ false
    no_and true = refl
    no_and false = refl

    by : (line : Option (WaitKind × ℕ)) (c : Class) → is_key (object_place o 7) (wait_place line c) ≡ (is_at o c && is_none line)
    by line Class.Always = refl
    by line (Class.AtMoment deadline) = refl
    by line (Class.OfEnds targets need) = refl
    by None (Class.AtObject p) = both (o == p) refl
      where
        both : (b : Bool) → (o == p) ≡ b → (object_place o 7 == object_place p 7) ≡ (b && true)
        both true e = one_place o p 7 7 (omega arith) (omega arith) ∙ e
        both false e = one_place o p 7 7 (omega arith) (omega arith) ∙ e
    by (Some line) (Class.AtObject p) = last line.0 p ∙ sym (no_and (o == p))

same_place : (a b : Target) → (target_place a == target_place b) ≡ same_target a b
same_place Target.Several Target.Several = refl
same_place (Target.One m) (Target.One n) = grind (arith, nat_tests)
same_place Target.Several (Target.One n) = is_other 0 (n + 1) (λ e. omega (arith, e))
same_place (Target.One m) Target.Several = is_other (m + 1) 0 (λ e. omega (arith, e))

pub target_key : (target : Target) (d : Delivery) → has_key ends_key (target_place target) d ≡ waits_for target d
target_key target d = by (class_of d)
  where
    by : (c : Class) → is_key (target_place target) (option_map target_place (target_of_class c)) ≡ is_for target c
    by Class.Always = refl
    by (Class.AtMoment deadline) = refl
    by (Class.OfEnds targets need) = same_place target (target_of targets)
    by (Class.AtObject p) = refl
