-- What a turn of a poll makes of the account and of the exchanges.
use Rattle.std.proofs.Common.{◌≡◌, ◌≢◌, ◌⊎◌, inl, inr, ℕ, ◌<◌, List, [], ◌∷◌, ◌++◌, length, Option, Some, None, Result, Ok, Err, refl, sym, ap, ◌∙◌, subst}
use Rattle.std.specs.Prelude.{OnOk}
use Rattle.std.proofs.lemmas.Bool.{cases_eq}
use Rattle.relay_core.specs.declared.reader.Far.{Far}
use Rattle.relay_core.specs.declared.reader.Far.TheVariants as F
use Rattle.stream_net.specs.Net.{Connection, connection_at}
use Rattle.stream_dial.specs.Dials.{DialMeaning, StaysDialled}
use Rattle.stream_server.specs.Keeping.{Listing}
use Rattle.stream_server.specs.Tables.{IsListed, SeenTable}
use Rattle.wsgi_relay.specs.Accounts.{asker_in, given_in}
use Rattle.wsgi_relay.specs.Exchanging.{GoesOnIn, HasShown, IsSameExchange, IsSent as IsSending, OfSlot}
use Rattle.wsgi_relay.specs.Relaying.{Asked, Given}
use Rattle.wsgi_relay.specs.Tied.{HaveAsked, IsKept, IsOver, IsTied, IsUnderWay, Puts, exchange_in}
use Rattle.wsgi_relay.specs.Turns.{turn_of}
use Rattle.wsgi_relay.specs.declared.exchange.Exchange.{Exchange}
use Rattle.wsgi_relay.specs.declared.relay_talk.RelayTalk.{RelayTalk}
use Rattle.wsgi_relay.specs.declared.relays.Turn.{Turn}
use Rattle.wsgi_relay.specs.declared.relays.Turn.TheVariants as T
use Rattle.wsgi_relay.proofs.Keeping.{kept_changed}
use Rattle.wsgi_relay.proofs.Opening.{sending_sent, unopened_kept}
use Rattle.wsgi_relay.proofs.Tying.{goes_on_only, none_some, tied_gone_on, tied_stays}

-- ---- what it led to

pub turn_ok : {E P : Type 0} (slot : ℕ) (r : Result (Option Far) E) → turn_of slot r ≢ T.Memory → OnOk r P → P
turn_ok slot (Ok o) goes h = h
turn_ok slot (Err e) goes h = absurd (goes refl)

abbrev over_slot : Turn → ℕ
over_slot T.Rests = 0
over_slot T.GoesOn = 0
over_slot (T.Over slot far) = slot
over_slot T.Memory = 0

abbrev over_far : Turn → Far
over_far T.Rests = F.GoesOn
over_far T.GoesOn = F.GoesOn
over_far (T.Over slot far) = far
over_far T.Memory = F.GoesOn

pub turn_over : {E : Type 0} (slot : ℕ) (r : Result (Option Far) E) (s : ℕ) (far : Far) → turn_of slot r ≡ T.Over s far → (slot ≡ s) × (r ≡ Ok (Some far))
turn_over slot (Ok None) s far e = absurd (cc e)
turn_over slot (Ok (Some f)) s far e = (ap over_slot e, ap (λ (x : Far). Ok (Some x)) (ap over_far e))
turn_over slot (Err x) s far e = absurd (cc e)

-- ---- nothing was heard

pub kept_moved : (patience : ℕ) (v w : DialMeaning) (asked more : List Asked) (list now : List ((ℕ × ℕ) × Given)) → IsKept patience v asked (given_in list) → StaysDialled v w → more ≡ asked → now ≡ list → IsKept patience w more (given_in now)
kept_moved patience v w asked more list now kept stays asks gives =
    subst (λ (l : List Asked). IsKept patience w l (given_in now)) (sym asks) (subst (λ (l : List ((ℕ × ℕ) × Given)). IsKept patience w asked (given_in l)) (sym gives) (unopened_kept patience v w asked (given_in list) kept stays))

pub tied_moved : (patience : ℕ) (v w : DialMeaning) (asked more : List Asked) (exchanges now : List (Option Exchange)) (listed : Listing RelayTalk) → IsTied v patience asked exchanges listed → StaysDialled v w → more ≡ asked → now ≡ exchanges → IsTied w patience more now listed
tied_moved patience v w asked more exchanges now listed t stays asks same =
    subst (λ (l : List Asked). IsTied w patience l now listed) (sym asks) (subst (λ (xs : List (Option Exchange)). IsTied w patience asked xs listed) (sym same) (tied_stays patience v w asked exchanges listed stays t))

-- the slot is empty
pub tied_less : (patience : ℕ) (m : DialMeaning) (asked : List Asked) (old new : List (Option Exchange)) (listed : Listing RelayTalk) (slot : ℕ) → Puts old new slot None → IsTied m patience asked old listed → IsTied m patience asked new listed
tied_less patience m asked old new listed slot puts t = record {
  each = λ s y e. t.each s y (was s y e);
  apart = λ s r y z es er same. t.apart s r y z (was s y es) (was r z er) same;
}
  where
    elsewhere : (s : ℕ) (y : Exchange) → exchange_in new s ≡ Some y → s ≢ slot
    elsewhere s y e same = none_some (exchange_in new slot) y puts.here (subst (λ (k : ℕ). exchange_in new k ≡ Some y) same e)

    was : (s : ℕ) (y : Exchange) → exchange_in new s ≡ Some y → exchange_in old s ≡ Some y
    was s y e = sym (puts.others s (elsewhere s y e)) ∙ e

-- ---- an exchange went on

-- what was put last stands there
pub puts_twice : (a b c : List (Option Exchange)) (slot : ℕ) (x y : Option Exchange) → Puts a b slot x → Puts b c slot y → Puts a c slot y
puts_twice a b c slot x y p q = record { here = q.here; others = λ other is. q.others other is ∙ p.others other is }

module _ (patience : ℕ) (v w : DialMeaning) (asked : List Asked) (listed : Listing RelayTalk) (slot : ℕ) (x y : Exchange) (u : IsUnderWay v patience asked listed slot x) (only : GoesOnIn v w slot) where
  still_in : w.slots slot ≡ Some u.number
  still_in = ap (λ (slots : ℕ → Option ℕ). slots slot) only.none.slots ∙ u.is

  pub gone_kept : (list : List ((ℕ × ℕ) × Given)) → IsSameExchange x y → ((n : ℕ) → w.slots slot ≡ Some n → IsSending (connection_at w.streams n) y (asker_in asked n).body) → IsKept patience v asked (given_in list) → IsKept patience w asked (given_in list)
  gone_kept list same sends kept =
      kept_changed patience v w asked (given_in list) kept u.number (connection_at w.streams u.number) (only.streams u.number u.is) only.none.opened u.live.accepted u.live.still_open
      (sending_sent (connection_at w.streams u.number) y (asker_in asked u.number) (sends u.number still_in) (ap (λ (head : List ℕ). head ++ (asker_in asked u.number).body) same.head ∙ u.its.message) (kept.sent u.number u.live.accepted).plain)

  pub gone_tied : (old new : List (Option Exchange)) → IsTied v patience asked old listed → exchange_in old slot ≡ Some x → Puts old new slot (Some y) → IsUnderWay w patience asked listed slot y → IsTied w patience asked new listed
  gone_tied old new t here puts now = tied_gone_on patience v w asked old new listed slot x (Some y) t here puts u.number u.is (goes_on_only v w slot u.number only u.is) y refl now

-- it is over
pub gone_over : {E : Type 0} (m : DialMeaning) (exchanges : List (Option Exchange)) (slot : ℕ) (y : Exchange) (r : Result (Option Far) E) (s : ℕ) (far : Far) → exchange_in exchanges slot ≡ Some y → ((f : Far) → r ≡ Ok (Some f) → OfSlot m slot (λ c. HasShown f c y))
    → turn_of slot r ≡ T.Over s far → IsOver m exchanges s far
gone_over m exchanges slot y r s far here come e =
    let is = turn_over slot r s far e in
    subst (λ (k : ℕ). IsOver m exchanges k far) is.0 (record { exchange = y; here = here; come = inl (come far is.1) })

-- ---- the clients

pub asked_same : (old new : List Asked) (t u : SeenTable RelayTalk) (accepted : ℕ) → new ≡ old → u ≡ t → HaveAsked old (IsListed t) accepted → HaveAsked new (IsListed u) accepted
asked_same old new t u accepted e f h = subst (λ (s : SeenTable RelayTalk). HaveAsked new (IsListed s) accepted) (sym f) (subst (λ (l : List Asked). HaveAsked l (IsListed t) accepted) (sym e) h)
