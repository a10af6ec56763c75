-- The exchanges stay tied to their streams and their clients.
use Rattle.std.proofs.Common.{◌≡◌, ◌≢◌, ◌⊎◌, inl, inr, ℕ, ◌+◌, ◌<◌, ◌≤◌, true, false, List, [], ◌∷◌, ◌++◌, length, take, ◌-◌, ◌^◌, Option, Some, None, slice_index_or, slice_set, refl, sym, ap, ◌∙◌, subst, arith}
use Rattle.std.proofs.lemmas.Bool.{cases_eq, false≢true}
use Rattle.std.proofs.lemmas.List.{length-set, get_or-set_same, get_or-set_other}
use Rattle.stream_net.specs.Net.{Connection, IsLive, connection_at, absent_connection}
use Rattle.stream_dial.specs.Dials.{DialMeaning, IsOpen, OpensNone, StaysDialled, net_of}
use Rattle.stream_server.specs.Keeping.{Listing}
use Rattle.stream_server.specs.declared.client.Client.{Client}
use Rattle.wsgi_relay.specs.Accounts.{asker_in, nobody}
use Rattle.wsgi_relay.specs.Exchanging.{GoesOnIn, IsExchanging, IsSameExchange}
use Rattle.wsgi_relay.specs.Relaying.{Asked, owner_of}
use Rattle.wsgi_relay.specs.Tied.{Awaits, HandsOn, HasOneMore, HaveAskedOnce, IsFor, IsKept, IsOf, IsTied, IsTiedBut, IsUnderWay, OpensFor, Puts, exchange_in}
use Rattle.wsgi_relay.specs.declared.exchange.Exchange.{Exchange}
use Rattle.wsgi_relay.specs.declared.relay_talk.RelayTalk.{RelayTalk}
use Rattle.wsgi_relay.proofs.Keeping.{push_before, push_last}
use Rattle.wsgi_relay.proofs.Streaming.{live_still}

pub same_some : {A : Type 0} (o : Option A) (x y : A) → o ≡ Some x → o ≡ Some y → x ≡ y
same_some o x y e f = cc

pub none_some : {A : Type 0} (o : Option A) (x : A) → o ≡ None → o ≡ Some x → ⊥
none_some o x e f = absurd (cc)

-- ---- one exchange

-- of the stream of this number things were changed, and of no other
pub record OnlyStream (v w : DialMeaning) (number : ℕ) : Type 0 where
  pub streams : w.streams ≡ slice_set v.streams number (connection_at w.streams number)
  pub none : OpensNone v w

-- one whose stream, slot and client stay goes on
pub way_at : (patience : ℕ) (v w : DialMeaning) (asked more : List Asked) (listed now : Listing RelayTalk) (slot : ℕ) (x : Exchange) (u : IsUnderWay v patience asked listed slot x) → w.slots slot ≡ v.slots slot → u.number < length w.streams
    → connection_at w.streams u.number ≡ connection_at v.streams u.number → slice_index_or w.opened u.number 0 ≡ slice_index_or v.opened u.number 0 → asker_in more u.number ≡ asker_in asked u.number
    → ((row : Option (Client RelayTalk)) → now x.conn row → listed x.conn row) → IsUnderWay w patience more now slot x
way_at patience v w asked more listed now slot x u slots within at opened asks rows = record {
  number = u.number;
  is = slots ∙ u.is;
  live = record { accepted = within; still_open = ap (λ (c : Connection). c.closed) at ∙ u.live.still_open };
  its = subst (λ (o : ℕ). IsOf (asker_in more u.number) o patience x) (sym opened) (subst (λ (a : Asked). IsOf a (slice_index_or v.opened u.number 0) patience x) (sym asks) u.its);
  exchanging = subst (λ (a : Asked). IsExchanging (connection_at w.streams u.number) x a.body) (sym asks) (subst (λ (c : Connection). IsExchanging c x (asker_in asked u.number).body) (sym at) u.exchanging);
  held = λ row is. subst (λ (a : Asked). IsFor a row) (sym asks) (u.held row (rows row is));
}

-- its stream is open
pub way_open : (patience : ℕ) (m : DialMeaning) (asked : List Asked) (listed : Listing RelayTalk) (slot : ℕ) (x : Exchange) → IsUnderWay m patience asked listed slot x → IsOpen m slot
way_open patience m asked listed slot x u = record { number = u.number; is = u.is; live = u.live }

-- what a slot has is the stream of its exchange
pub way_number : (patience : ℕ) (m : DialMeaning) (asked : List Asked) (listed : Listing RelayTalk) (slot : ℕ) (x : Exchange) (u : IsUnderWay m patience asked listed slot x) (n : ℕ) → m.slots slot ≡ Some n → u.number ≡ n
way_number patience m asked listed slot x u n is = same_some (m.slots slot) u.number n u.is is

pub way_exchanging : (patience : ℕ) (m : DialMeaning) (asked : List Asked) (listed : Listing RelayTalk) (slot : ℕ) (x : Exchange) (u : IsUnderWay m patience asked listed slot x) (n : ℕ) → m.slots slot ≡ Some n → IsExchanging (connection_at m.streams n) x (asker_in asked n).body
way_exchanging patience m asked listed slot x u n is = subst (λ (k : ℕ). IsExchanging (connection_at m.streams k) x (asker_in asked k).body) (way_number patience m asked listed slot x u n is) u.exchanging

-- after a call that changed its stream alone, and left it open
pub way_gone_on : (patience : ℕ) (v w : DialMeaning) (asked : List Asked) (listed : Listing RelayTalk) (slot : ℕ) (x y : Exchange) (u : IsUnderWay v patience asked listed slot x) → GoesOnIn v w slot → IsSameExchange x y
    → IsExchanging (connection_at w.streams u.number) y (asker_in asked u.number).body → IsUnderWay w patience asked listed slot y
way_gone_on patience v w asked listed slot x y u only same e = record {
  number = u.number;
  is = ap (λ (slots : ℕ → Option ℕ). slots slot) only.none.slots ∙ u.is;
  live = live_still v w slot only u.number u.is u.live;
  its = record {
    conn = u.its.conn ∙ sym same.conn;
    message = ap (λ (head : List ℕ). head ++ (asker_in asked u.number).body) same.head ∙ u.its.message;
    is_head = same.is_head ∙ u.its.is_head;
    timely = λ short.
        let timely = u.its.timely (subst (λ (t : ℕ). t < 2 ^ 64 - 1) same.until short) in
        subst (λ (os : List ℕ). slice_index_or os u.number 0 + patience ≤ y.until) (sym only.none.opened) (subst (λ (t : ℕ). slice_index_or v.opened u.number 0 + patience ≤ t) (sym same.until) timely);
  };
  exchanging = e;
  held = λ row is. u.held row (subst (λ (k : ℕ). listed k row) same.conn is);
}

pub goes_on_only : (v w : DialMeaning) (slot number : ℕ) → GoesOnIn v w slot → v.slots slot ≡ Some number → OnlyStream v w number
goes_on_only v w slot number only is = record { streams = only.streams number is; none = only.none }

-- ---- all of them

-- streams that stay as they are
pub tied_stays : (patience : ℕ) (v w : DialMeaning) (asked : List Asked) (exchanges : List (Option Exchange)) (listed : Listing RelayTalk) → StaysDialled v w → IsTied v patience asked exchanges listed → IsTied w patience asked exchanges listed
tied_stays patience v w asked exchanges listed stays t = record {
  each = λ slot x here.
      let u = t.each slot x here in
      way_at patience v w asked asked listed listed slot x u (slots slot) (subst (λ (cs : List Connection). u.number < length cs) (sym stays.streams) u.live.accepted)
      (ap (λ (cs : List Connection). connection_at cs u.number) stays.streams) (ap (λ (os : List ℕ). slice_index_or os u.number 0) stays.none.opened) refl (λ row is. is);
  apart = λ s r x y hs hr same. t.apart s r x y hs hr (sym (slots s) ∙ same ∙ slots r);
}
  where
    slots : (slot : ℕ) → w.slots slot ≡ v.slots slot
    slots slot = ap (λ (f : ℕ → Option ℕ). f slot) stays.none.slots

-- one stream was changed: of the other slots the exchanges go on
module _ (patience : ℕ) (v w : DialMeaning) (asked : List Asked) (old new : List (Option Exchange)) (listed : Listing RelayTalk) (slot : ℕ) (x : Exchange) (put : Option Exchange) (t : IsTied v patience asked old listed) (here : exchange_in old slot ≡ Some x)
    (puts : Puts old new slot put) (number : ℕ) (is : v.slots slot ≡ Some number) (only : OnlyStream v w number) where
  slots_same : (s : ℕ) → w.slots s ≡ v.slots s
  slots_same s = ap (λ (f : ℕ → Option ℕ). f s) only.none.slots

  was : (s : ℕ) (y : Exchange) → s ≢ slot → exchange_in new s ≡ Some y → exchange_in old s ≡ Some y
  was s y other e = sym (puts.others s other) ∙ e

  pub other_way : (now : Listing RelayTalk) (s : ℕ) (y : Exchange) → s ≢ slot → exchange_in new s ≡ Some y → ((row : Option (Client RelayTalk)) → now y.conn row → listed y.conn row) → IsUnderWay w patience asked now s y
  other_way now s y other e rows =
      let u = t.each s y (was s y other e) in
      way_at patience v w asked asked listed now s y u (slots_same s) (subst (λ (n : ℕ). u.number < n) (sym long) u.live.accepted) (at u.number (apart u)) (ap (λ (os : List ℕ). slice_index_or os u.number 0) only.none.opened) refl rows
    where
      long : length w.streams ≡ length v.streams
      long = ap (λ (cs : List Connection). length cs) only.streams ∙ length-set v.streams number (connection_at w.streams number)

      at : (n : ℕ) → n ≢ number → connection_at w.streams n ≡ connection_at v.streams n
      at n is_not = ap (λ (cs : List Connection). connection_at cs n) only.streams ∙ get_or-set_other v.streams number n (connection_at w.streams number) absent_connection is_not

      apart : (u : IsUnderWay v patience asked listed s y) → u.number ≢ number
      apart u same = other (t.apart s slot y x (was s y other e) here (u.is ∙ ap (λ (n : ℕ). Some n) same ∙ sym is))

  apart_still : (s r : ℕ) (y z : Exchange) → s ≢ slot → r ≢ slot → exchange_in new s ≡ Some y → exchange_in new r ≡ Some z → w.slots s ≡ w.slots r → s ≡ r
  apart_still s r y z os or es er same = t.apart s r y z (was s y os es) (was r z or er) (sym (slots_same s) ∙ same ∙ slots_same r)

  -- the exchange in the slot went on
  pub tied_gone_on : (y : Exchange) → put ≡ Some y → IsUnderWay w patience asked listed slot y → IsTied w patience asked new listed
  tied_gone_on y is_put u = record {
    each = λ s z e. each_by s z (cases_eq s slot) e;
    apart = λ s r a b es er same. apart_by s r a b (cases_eq s slot) (cases_eq r slot) es er same;
  }
    where
      now_here : exchange_in new slot ≡ Some y
      now_here = puts.here ∙ is_put

      each_by : (s : ℕ) (z : Exchange) → (s ≡ slot) ⊎ (s ≢ slot) → exchange_in new s ≡ Some z → IsUnderWay w patience asked listed s z
      each_by s z (inl same) e =
          subst (λ (k : ℕ). IsUnderWay w patience asked listed k z) (sym same)
          (subst (λ (a : Exchange). IsUnderWay w patience asked listed slot a) (same_some (exchange_in new slot) y z now_here (subst (λ (k : ℕ). exchange_in new k ≡ Some z) same e)) u)
      each_by s z (inr other) e = other_way listed s z other e (λ row r. r)

      slot_is : (s r : ℕ) (a : Exchange) → r ≢ slot → s ≡ slot → exchange_in new r ≡ Some a → w.slots s ≡ w.slots r → s ≡ r
      slot_is s r a other same er slots =
          same ∙ t.apart slot r x a here (was r a other er) (sym (slots_same slot) ∙ ap (λ (k : ℕ). w.slots k) (sym same) ∙ slots ∙ slots_same r)

      apart_by : (s r : ℕ) (a b : Exchange) → (s ≡ slot) ⊎ (s ≢ slot) → (r ≡ slot) ⊎ (r ≢ slot) → exchange_in new s ≡ Some a → exchange_in new r ≡ Some b → w.slots s ≡ w.slots r → s ≡ r
      apart_by s r a b (inl e) (inl f) es er same = e ∙ sym f
      apart_by s r a b (inl e) (inr f) es er same = slot_is s r b f e er same
      apart_by s r a b (inr e) (inl f) es er same = sym (slot_is r s a e f es (sym same))
      apart_by s r a b (inr e) (inr f) es er same = apart_still s r a b e f es er same

  -- it is over, and its client was taken out
  pub tied_over : (now : Listing RelayTalk) (g : Client RelayTalk) → put ≡ None → HaveAskedOnce asked → length asked ≡ length v.streams → listed x.conn (Some g) → ((j : ℕ) (s : Option (Client RelayTalk)) → j ≢ x.conn → now j s → listed j s) → IsTiedBut w patience asked new now x.conn
  tied_over now g gone once count row others = record {
    tied = record {
      each = λ s y e. other_way now s y (elsewhere s y e) e (λ r is_row. others y.conn r (apart s y e) is_row);
      apart = λ s r y z es er same. apart_still s r y z (elsewhere s y es) (elsewhere r z er) es er same;
    };
    others = apart;
  }
    where
      elsewhere : (s : ℕ) (y : Exchange) → exchange_in new s ≡ Some y → s ≢ slot
      elsewhere s y e same = none_some (exchange_in new slot) y (puts.here ∙ gone) (subst (λ (k : ℕ). exchange_in new k ≡ Some y) same e)

      -- no other exchange is for that client, since its request has one stream
      apart : (s : ℕ) (y : Exchange) → exchange_in new s ≡ Some y → y.conn ≢ x.conn
      apart s y e same =
          let u = t.each s y (was s y (elsewhere s y e) e) in
          let mine = t.each slot x here in
          let a : Awaits (asker_in asked u.number) g = u.held (Some g) (subst (λ (k : ℕ). listed k (Some g)) (sym same) row) in
          let b : Awaits (asker_in asked mine.number) g = mine.held (Some g) row in
          let owners : owner_of (asker_in asked) u.number ≡ owner_of (asker_in asked) mine.number = λ i. ((a.conn ∙ sym b.conn) i, (a.number ∙ sym b.number) i) in
          let numbers : u.number ≡ mine.number =
          once u.number mine.number (subst (λ (n : ℕ). u.number < n) (sym count) u.live.accepted) (subst (λ (n : ℕ). mine.number < n) (sym count) mine.live.accepted) owners in
          elsewhere s y e (t.apart s slot y x (was s y (elsewhere s y e) e) here (u.is ∙ ap (λ (n : ℕ). Some n) numbers ∙ sym mine.is))

-- ---- one more

-- a request was handed on
pub tied_more : (patience : ℕ) (v w : DialMeaning) (asked : List Asked) (old new : List (Option Exchange)) (listed now : Listing RelayTalk) (a : Asked) (g : Client RelayTalk) → IsTiedBut v patience asked old listed a.conn → length asked ≡ length v.streams
    → HandsOn v w patience a old new → length v.opened ≡ length v.streams → Awaits a g → ((s : Option (Client RelayTalk)) → now a.conn s → s ≡ Some g) → ((j : ℕ) (s : Option (Client RelayTalk)) → j ≢ a.conn → now j s → listed j s) → IsTied w patience (asked ++ a ∷ []) new now
tied_more patience v w asked old new listed now a g t count hands timed waits here others = record {
  each = λ s z e. each_by s z (cases_eq s slot) e;
  apart = λ s r b c es er same. apart_by s r b c (cases_eq s slot) (cases_eq r slot) es er same;
}
  where
    slot : ℕ
    slot = hands.slot

    x : Exchange
    x = hands.exchange

    more : HasOneMore v w slot
    more = hands.opens.more

    was : (s : ℕ) (y : Exchange) → s ≢ slot → exchange_in new s ≡ Some y → exchange_in old s ≡ Some y
    was s y other e = sym (hands.puts.others s other) ∙ e

    asker_last : asker_in (asked ++ a ∷ []) (length v.streams) ≡ a
    asker_last = ap (λ (k : ℕ). asker_in (asked ++ a ∷ []) k) (sym count) ∙ push_last asked a nobody

    for_row : (row : Option (Client RelayTalk)) → row ≡ Some g → IsFor a row
    for_row row e = subst (IsFor a) (sym e) waits

    new_way : IsUnderWay w patience (asked ++ a ∷ []) now slot x
    new_way = record {
      number = length v.streams;
      is = more.number;
      live = hands.opens.live;
      its = subst (λ (b : Asked). IsOf b (slice_index_or w.opened (length v.streams) 0) patience x) (sym asker_last) hands.opens.its;
      exchanging = subst (λ (b : Asked). IsExchanging (connection_at w.streams (length v.streams)) x b.body) (sym asker_last) hands.opens.exchanging;
      held = λ row is. subst (λ (b : Asked). IsFor b row) (sym asker_last) (for_row row (here row (subst (λ (k : ℕ). now k row) (sym hands.opens.its.conn) is)));
    }

    old_way : (s : ℕ) (y : Exchange) → s ≢ slot → exchange_in new s ≡ Some y → IsUnderWay w patience (asked ++ a ∷ []) now s y
    old_way s y other e =
        let u = t.tied.each s y (was s y other e) in
        let within = u.live.accepted in
        let m = more.count in
        way_at patience v w asked (asked ++ a ∷ []) listed now s y u (more.others s other) (omega (arith, within, m)) (more.streams u.number within) (more.opened u.number (subst (λ (k : ℕ). u.number < k) (sym timed) within))
        (push_before asked a nobody u.number (subst (λ (k : ℕ). u.number < k) (sym count) within)) (λ row is. others y.conn row (t.others s y (was s y other e)) is)

    each_by : (s : ℕ) (z : Exchange) → (s ≡ slot) ⊎ (s ≢ slot) → exchange_in new s ≡ Some z → IsUnderWay w patience (asked ++ a ∷ []) now s z
    each_by s z (inl same) e =
        subst (λ (k : ℕ). IsUnderWay w patience (asked ++ a ∷ []) now k z) (sym same)
        (subst (λ (b : Exchange). IsUnderWay w patience (asked ++ a ∷ []) now slot b) (same_some (exchange_in new slot) x z hands.puts.here (subst (λ (k : ℕ). exchange_in new k ≡ Some z) same e)) new_way)
    each_by s z (inr other) e = old_way s z other e

    -- its number is new
    elsewhere : (s : ℕ) (y : Exchange) → s ≢ slot → exchange_in new s ≡ Some y → w.slots s ≡ w.slots slot → ⊥
    elsewhere s y other e same =
        let u = t.tied.each s y (was s y other e) in
        let within = u.live.accepted in
        let n : u.number ≡ length v.streams = same_some (w.slots s) u.number (length v.streams) (more.others s other ∙ u.is) (same ∙ more.number) in
        absurd (omega (arith, within, n))

    apart_by : (s r : ℕ) (b c : Exchange) → (s ≡ slot) ⊎ (s ≢ slot) → (r ≡ slot) ⊎ (r ≢ slot) → exchange_in new s ≡ Some b → exchange_in new r ≡ Some c → w.slots s ≡ w.slots r → s ≡ r
    apart_by s r b c (inl e) (inl f) es er same = e ∙ sym f
    apart_by s r b c (inl e) (inr f) es er same = absurd (elsewhere r c f er (sym same ∙ ap (λ (k : ℕ). w.slots k) e))
    apart_by s r b c (inr e) (inl f) es er same = absurd (elsewhere s b e es (same ∙ ap (λ (k : ℕ). w.slots k) f))
    apart_by s r b c (inr e) (inr f) es er same = t.tied.apart s r b c (was s b e es) (was r c f er) (sym (more.others s e) ∙ same ∙ more.others r f)

-- ---- none yet

pub tied_none : (patience : ℕ) (m : DialMeaning) (asked : List Asked) (exchanges : List (Option Exchange)) (listed : Listing RelayTalk) → exchanges ≡ [] → IsTied m patience asked exchanges listed
tied_none patience m asked exchanges listed none = record {
  each = λ slot x here. absurd (nowhere slot x here);
  apart = λ s t x y here there same. absurd (nowhere s x here);
}
  where
    nowhere : (slot : ℕ) (x : Exchange) → exchange_in exchanges slot ≡ Some x → ⊥
    nowhere slot x here = none_some (exchange_in [] slot) x refl (subst (λ (xs : List (Option Exchange)). exchange_in xs slot ≡ Some x) none here)
