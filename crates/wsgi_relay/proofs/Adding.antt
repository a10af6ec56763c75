-- A request more for which a stream was opened.
use Rattle.std.proofs.Common.{◌≡◌, ◌≢◌, ◌⊎◌, inl, inr, ℕ, ◌+◌, ◌<◌, ◌≤◌, ◌==◌, Bool, true, false, if◌then◌else◌, List, [], ◌∷◌, ◌++◌, length, Option, Some, is_some, slice_index_or, refl, sym, ap, ◌∙◌, subst, arith}
use Rattle.std.proofs.lemmas.Bool.{cases_lt}
use Rattle.std.proofs.lemmas.Bool.Decides.{nat_tests}
use Rattle.std.proofs.lemmas.List.{get_or_past}
use Rattle.stream_server.specs.Keeping.{Listing}
use Rattle.stream_server.specs.Owning.{once_more, owned_more, owned_none}
use Rattle.stream_server.specs.declared.client.Client.{Client}
use Rattle.wsgi_core.specs.Steps.{answered_of, asked_of}
use Rattle.wsgi_core.specs.declared.session.Session.{Session}
use Rattle.wsgi_relay.specs.Accounts.{IsAsked, IsAskedMore, asked_on, asker_in, nobody}
use Rattle.wsgi_relay.specs.Asking.{CanBeHanded}
use Rattle.wsgi_relay.specs.Relaying.{Asked, owner_of}
use Rattle.wsgi_relay.specs.Talks.{next_of}
use Rattle.wsgi_relay.specs.Tied.{Awaits, HaveAsked, HaveAskedBut, HaveAskedOnce}
use Rattle.wsgi_relay.specs.declared.relay_talk.RelayTalk.{RelayTalk}
use Rattle.wsgi_relay.proofs.Keeping.{push_before, push_last, push_long}
use Rattle.wsgi_relay.proofs.Talking.{handed_is}

module _ (asked : List Asked) (a : Asked) where
  abbrev more : List Asked
  more = asked ++ a ∷ []

  -- the request of a stream is the new one, or an old one's
  asker_by : (n : ℕ) (b : Bool) → (length asked == n) ≡ b → (n < length asked) ⊎ (length asked ≤ n) → asker_in more n ≡ (if b then a else asker_in asked n)
  asker_by n true test where_ = let is : length asked ≡ n = grind (arith, nat_tests) in ap (λ (k : ℕ). asker_in more k) (sym is) ∙ push_last asked a nobody
  asker_by n false test (inl within) = push_before asked a nobody n within
  asker_by n false test (inr past) =
      let long = push_long asked a nobody in
      let beyond : length asked + 1 ≤ n = grind (arith, nat_tests) in
      get_or_past more n nobody (omega (arith, long, beyond)) ∙ sym (get_or_past asked n nobody past)

  owns_by : (n : ℕ) (b : Bool) → asker_in more n ≡ (if b then a else asker_in asked n) → owner_of (asker_in more) n ≡ (if b then (a.conn, a.number) else owner_of (asker_in asked) n)
  owns_by n true e = λ i. ((e i).conn, (e i).number)
  owns_by n false e = λ i. ((e i).conn, (e i).number)

  owns : (n : ℕ) → owner_of (asker_in more) n ≡ (if length asked == n then (a.conn, a.number) else owner_of (asker_in asked) n)
  owns n = owns_by n (length asked == n) (asker_by n (length asked == n) refl (cases_lt n (length asked)))

  adds : (n : ℕ) → IsAsked more n → IsAsked asked n ⊎ (length asked ≡ n)
  adds n within = by (cases_lt n (length asked))
    where
      by : (n < length asked) ⊎ (length asked ≤ n) → IsAsked asked n ⊎ (length asked ≡ n)
      by (inl in') = inl in'
      by (inr past) = let long = push_long asked a nobody in inr (omega (arith, long, past, within))

  module _ (listed : Listing RelayTalk) (accepted low : ℕ) (h : HaveAskedBut asked listed accepted a.conn low) (least : low ≤ a.number) where
    pub asked_once : HaveAskedOnce more
    asked_once = once_more next_of (IsAsked asked) (owner_of (asker_in asked)) (IsAsked more) (owner_of (asker_in more)) listed accepted a.conn low (length asked) a.number h adds owns least

    -- where nobody or this one asked
    pub asked_once_either : (new : List Asked) → IsAskedMore asked new a → HaveAskedOnce new
    asked_once_either new (inl same) = subst HaveAskedOnce (sym same) h.once
    asked_once_either new (inr one) = subst HaveAskedOnce (sym one) asked_once

    pub asked_more : (now : Listing RelayTalk) (g : Client RelayTalk) → a.conn < accepted → a.number < next_of g.talk → ((s : Option (Client RelayTalk)) → now a.conn s → s ≡ Some g) → ((j : ℕ) (s : Option (Client RelayTalk)) → j ≢ a.conn → now j s → listed j s) → HaveAsked more now accepted
    asked_more now g within past here others =
        owned_more next_of (IsAsked asked) (owner_of (asker_in asked)) (IsAsked more) (owner_of (asker_in more)) listed accepted a.conn low (length asked) a.number h adds owns least now g within past here others

-- nobody asked yet
pub asked_none : (asked : List Asked) (listed : Listing RelayTalk) (accepted : ℕ) → asked ≡ [] → HaveAsked asked listed accepted
asked_none asked listed accepted none = owned_none next_of (IsAsked asked) (owner_of (asker_in asked)) listed accepted (λ n x. absurd (nowhere n (subst (λ (l : List Asked). n < length l) none x)))
  where
    nowhere : (n : ℕ) → n < length {A = Asked} [] → ⊥
    nowhere n x = omega arith

-- a client that is held for the request that waits at its session
pub awaits_on : (conn deadline : ℕ) (s : Session) (g : Client RelayTalk) → CanBeHanded s → g.talk.session ≡ s → g.talk.held ≡ Some deadline → g.conn ≡ conn → Awaits (asked_on conn s) g
awaits_on conn deadline s g can session held conn_is = record {
  held = ap (λ (o : Option ℕ). is_some o) held;
  request = ap (λ (t : Session). asked_of t) session ∙ handed_is s can;
  number = ap (λ (t : Session). answered_of t) (sym session);
  conn = sym conn_is;
}
