-- What a stream that is opened for a request makes of the account and of its exchange.
use Rattle.std.proofs.Common.{◌≡◌, ◌≢◌, ℕ, ◌+◌, ◌-◌, ◌^◌, ◌<◌, ◌≤◌, Bool, true, false, List, [], ◌∷◌, ◌++◌, length, take, drop, min, Option, Some, None, slice_index_or, slice_set, refl, sym, ap, ◌∙◌, subst, arith}
use Rattle.std.specs.List.{list_all}
use Rattle.std.specs.Prelude.{IfSome}
use Rattle.std.proofs.lemmas.List.{length-set, get_or-set_other, take-append-drop}
use Rattle.http_messages.specs.Environ.{Pair}
use Rattle.relay_core.specs.Message.{scgi_message}
use Rattle.scgi_core.specs.Laws.{is_plain}
use Rattle.stream_net.specs.Net.{Connection, connection_at, absent_connection}
use Rattle.stream_dial.specs.Dials.{DialMeaning, Opens, StaysDialled}
use Rattle.stream_server.specs.Serving.{BeginsSo}
use Rattle.wsgi_core.specs.Steps.{answered_of, asked_of}
use Rattle.wsgi_core.specs.declared.session.Session.{Session}
use Rattle.wsgi_relay.specs.Accounts.{asked_on, or_empty}
use Rattle.wsgi_relay.specs.Asking.{CanBeHanded}
use Rattle.wsgi_relay.specs.Exchanging.{GoesOnIn, IsBegun, IsExchanging, IsSameExchange, IsSent as IsSending, OfSlot}
use Rattle.wsgi_relay.specs.Relaying.{Asked, Givings, IsSent}
use Rattle.wsgi_relay.specs.Tied.{HasOneMore, IsKept, IsMadeFor, IsOf, OpensFor}
use Rattle.wsgi_relay.specs.declared.exchange.Exchange.{Exchange}
use Rattle.wsgi_relay.proofs.ExchangeLaws.{begun_exchanging, begun_message}
use Rattle.wsgi_relay.proofs.Keeping.{kept_more, kept_same, push_before, push_last, push_long}
use Rattle.wsgi_relay.proofs.Streaming.{live_still}
use Rattle.wsgi_relay.proofs.Tying.{same_some}

-- ---- what was sent begins the message

begins_so : (o : Option (List ℕ)) (sent : ℕ) (bytes : List ℕ) → IfSome o (λ out. out ≡ take sent bytes) → IfSome o (λ out. BeginsSo bytes out)
begins_so None sent bytes h = tt
begins_so (Some out) sent bytes h = record { tail = drop sent bytes; is = sym (take-append-drop sent bytes) ∙ ap (λ (l : List ℕ). l ++ drop sent bytes) (sym h) }

pub sending_sent : (s : Connection) (x : Exchange) (a : Asked) → IsSending s x a.body → x.head ++ a.body ≡ scgi_message a.environ a.body → list_all is_plain a.environ ≡ true → IsSent a s
sending_sent s x a h message plain = record {
  plain = plain;
  sent = subst (λ (l : List ℕ). IfSome s.written (λ out. BeginsSo l out)) message (begins_so s.written x.sent (x.head ++ a.body) h.written);
}

-- ---- a stream more

pub opens_more : (v w : DialMeaning) (slot : ℕ) → Opens v w slot → HasOneMore v w slot
opens_more v w slot o = record {
  count = ap (λ (cs : List Connection). length cs) o.streams ∙ push_long v.streams o.stream absent_connection;
  streams = λ e within. ap (λ (cs : List Connection). connection_at cs e) o.streams ∙ push_before v.streams o.stream absent_connection e within;
  timed = ap (λ (os : List ℕ). length os) o.opened ∙ push_long v.opened w.moment 0;
  opened = λ e within. ap (λ (os : List ℕ). slice_index_or os e 0) o.opened ∙ push_before v.opened w.moment 0 e within;
  was_free = o.was_free;
  number = o.number;
  others = o.others;
}

pub more_gone_on : (u v w : DialMeaning) (slot : ℕ) → HasOneMore u v slot → GoesOnIn v w slot → HasOneMore u w slot
more_gone_on u v w slot more only = record {
  count = ap (λ (cs : List Connection). length cs) (only.streams (length u.streams) more.number) ∙ length-set v.streams (length u.streams) (connection_at w.streams (length u.streams)) ∙ more.count;
  streams = λ e within.
      ap (λ (cs : List Connection). connection_at cs e) (only.streams (length u.streams) more.number) ∙ get_or-set_other v.streams (length u.streams) e (connection_at w.streams (length u.streams)) absent_connection (λ is. absurd (omega (arith, within, is)))
      ∙ more.streams e within;
  timed = ap (λ (os : List ℕ). length os) only.none.opened ∙ more.timed;
  opened = λ e within. ap (λ (os : List ℕ). slice_index_or os e 0) only.none.opened ∙ more.opened e within;
  was_free = more.was_free;
  number = ap (λ (f : ℕ → Option ℕ). f slot) only.none.slots ∙ more.number;
  others = λ other is_not. ap (λ (f : ℕ → Option ℕ). f other) only.none.slots ∙ more.others other is_not;
}

-- ---- the exchange over it

pub made_until : (a : Asked) (x : Exchange) (until : ℕ) → IsMadeFor a x → IsMadeFor a (record x { until = until })
made_until a x until m = record { conn = m.conn; is_head = m.is_head; begun = record { head = m.begun.head; short = m.begun.short; unsent = m.begun.unsent; unread = m.begun.unread; unfailed = m.begun.unfailed } }

last_stream : (v w : DialMeaning) (slot : ℕ) (o : Opens v w slot) → connection_at w.streams (length v.streams) ≡ o.stream
last_stream v w slot o = ap (λ (cs : List Connection). connection_at cs (length v.streams)) o.streams ∙ push_last v.streams o.stream absent_connection

-- over a stream that was just opened nothing went
pub new_exchanging : (v w : DialMeaning) (slot : ℕ) (a : Asked) (x : Exchange) → Opens v w slot → IsMadeFor a x → IsExchanging (connection_at w.streams (length v.streams)) x a.body
new_exchanging v w slot a x o m = subst (λ (s : Connection). IsExchanging s x a.body) (sym (last_stream v w slot o)) (begun_exchanging o.stream w.moment x a.environ a.body o.is_new m.begun)

-- whatever the body is called, for the one stream in the slot
pub new_in_slot : (v w : DialMeaning) (slot : ℕ) (a : Asked) (x : Exchange) (body : List ℕ) → Opens v w slot → IsMadeFor a x → body ≡ a.body → OfSlot w slot (λ s. IsExchanging s x body)
new_in_slot v w slot a x body o m same number is =
    let at : length v.streams ≡ number = same_some (w.slots slot) (length v.streams) number o.number is in
    subst (λ (n : ℕ). IsExchanging (connection_at w.streams n) x body) at (subst (λ (b : List ℕ). IsExchanging (connection_at w.streams (length v.streams)) x b) (sym same) (new_exchanging v w slot a x o m))

least_below : (sum top : ℕ) → min sum top < top → sum ≤ min sum top
least_below sum top h = omega (arith, h)

-- its time is over so long after the opening
pub new_of : (v w x : DialMeaning) (slot patience top : ℕ) (a : Asked) (old new : Exchange) → Opens v w slot → GoesOnIn w x slot → IsMadeFor a old → IsSameExchange old new → old.until ≡ min (w.moment + patience) top → top ≡ 2 ^ 64 - 1 → length v.opened ≡ length v.streams
    → IsOf a (slice_index_or x.opened (length v.streams) 0) patience new
new_of v w x slot patience top a old new o only b same until top_is timed = record {
  conn = b.conn ∙ sym same.conn;
  message = ap (λ (head : List ℕ). head ++ a.body) same.head ∙ begun_message old a.environ a.body b.begun;
  is_head = same.is_head ∙ b.is_head;
  timely = λ short. subst (λ (t : ℕ). t + patience ≤ new.until) (sym opened)
      (subst (λ (t : ℕ). w.moment + patience ≤ t) (sym is) (least_below (w.moment + patience) top (subst (λ (t : ℕ). t < top) is (subst (λ (n : ℕ). new.until < n) (sym top_is) short))));
}
  where
    is : new.until ≡ min (w.moment + patience) top
    is = same.until ∙ until

    last_of : slice_index_or (v.opened ++ w.moment ∷ []) (length v.streams) 0 ≡ w.moment
    last_of = ap (λ (n : ℕ). slice_index_or (v.opened ++ w.moment ∷ []) n 0) (sym timed) ∙ push_last v.opened w.moment 0

    opened : slice_index_or x.opened (length v.streams) 0 ≡ w.moment
    opened = ap (λ (os : List ℕ). slice_index_or os (length v.streams) 0) (only.none.opened ∙ o.opened)
        ∙ last_of

-- ---- all of it

module _ (patience : ℕ) (u v w : DialMeaning) (slot : ℕ) (a : Asked) (x y : Exchange) (o : Opens u v slot) (m : IsMadeFor a x) (only : GoesOnIn v w slot) (same : IsSameExchange x y) (body : List ℕ) (body_is : body ≡ a.body)
    (over : OfSlot w slot (λ s. IsExchanging s y body)) where
  more : HasOneMore u w slot
  more = more_gone_on u v w slot (opens_more u v slot o) only

  exchanging : IsExchanging (connection_at w.streams (length u.streams)) y a.body
  exchanging = subst (λ (b : List ℕ). IsExchanging (connection_at w.streams (length u.streams)) y b) body_is (over (length u.streams) more.number)

  pub opened_kept : (asked : List Asked) (given : Givings) → IsKept patience u asked given → list_all is_plain a.environ ≡ true → IsKept patience w (asked ++ a ∷ []) given
  opened_kept asked given kept plain =
      kept_more patience u w asked given kept slot a more
      (sending_sent (connection_at w.streams (length u.streams)) y a exchanging.sent (ap (λ (head : List ℕ). head ++ a.body) same.head ∙ begun_message x a.environ a.body m.begun) plain)

  pub opened_for : (top : ℕ) → x.until ≡ min (v.moment + patience) top → top ≡ 2 ^ 64 - 1 → length u.opened ≡ length u.streams → OpensFor u w patience a slot y
  opened_for top until top_is timed = record {
    more = more;
    live = live_still v w slot only (length u.streams) o.number record { accepted = let n = (opens_more u v slot o).count in omega (arith, n); still_open = ap (λ (s : Connection). s.closed) (last_stream u v slot o) ∙ o.is_new.still_open };
    its = new_of u v w slot patience top a x y o only m same until top_is timed;
    exchanging = exchanging;
  }

-- no stream was opened
pub unopened_kept : (patience : ℕ) (v w : DialMeaning) (asked : List Asked) (given : Givings) → IsKept patience v asked given → StaysDialled v w → IsKept patience w asked given
unopened_kept patience v w asked given kept stays = kept_same patience v w asked given kept stays.streams stays.none.opened
