-- The laws of a service whose requests an application server answers.
use Rattle.std.proofs.Common.{◌≡◌, ◌≢◌, ℕ, ◌+◌, ◌<◌, ◌≤◌, Bool, true, false, if◌then◌else◌, List, length, Option, Some, None, is_some, refl, sym, ap, ◌∙◌, subst}
use Rattle.std.specs.List.{list_all}
use Rattle.std.proofs.Math.Nat.{le_of_lt, le_refl, le_trans, lt_irrefl}
use Rattle.std.proofs.Math.Numerals.{lt-add-one}
use Rattle.std.proofs.lemmas.Bool.{false≢true}
use Rattle.http_messages.specs.Environ.{Pair}
use Rattle.relay_core.specs.Faults.{refused_request}
use Rattle.scgi_core.specs.Laws.{is_plain}
use Rattle.stream_dial.specs.Dials.{DialMeaning}
use Rattle.stream_server.specs.Keeping.{Listing}
use Rattle.stream_server.specs.Owning.{owned_again, owned_new, owned_out}
use Rattle.stream_server.specs.Protocols.{IsLawful, side_of}
use Rattle.stream_server.specs.declared.client.Client.{Client}
use Rattle.wsgi_core.specs.Applications.{App}
use Rattle.wsgi_core.specs.Shipped.{shipped}
use Rattle.wsgi_core.specs.Steps.{asked_of, begun_bytes, said_bytes}
use Rattle.wsgi_core.specs.declared.reply.Reply.{Reply}
use Rattle.wsgi_relay.specs.Accounts.{IsAsked, asker_in}
use Rattle.wsgi_relay.specs.Relaying.{Agrees, Asked, Given, Givings, owner_of}
use Rattle.wsgi_relay.specs.Talks.{holds_for, next_behind, next_of, rank_of, relay_protocol}
use Rattle.wsgi_relay.specs.Tied.{Awaits, HaveAsked, HaveAskedBut, IsKept, IsTied, IsTiedBut, IsUnderWay, exchange_in}
use Rattle.wsgi_relay.specs.declared.exchange.Exchange.{Exchange}
use Rattle.wsgi_relay.specs.declared.relay_talk.RelayTalk.{RelayTalk}

-- ---- what is said

pub none_asked : (o : Option (List Pair × List ℕ)) → is_some o ≡ false → o ≡ None
none_asked None e = refl
none_asked (Some r) e = absurd (false≢true (sym e))

pub relay_lawful : (app : App) (port : ℕ) → IsLawful (side_of relay_protocol app port)
relay_lawful app port = record {
  all_said = λ fed ended taken t at quiet. said_bytes app port fed ended taken t.session (record { stands_at = at; quiet = none_asked (asked_of t.session) quiet });
  begun = λ fed ended taken t at. begun_bytes app port fed ended taken t.session at;
}

-- what was given, and where nothing was, what the shipped application answers
abbrev pub reply_by : Option Given → ℕ → List Pair → List ℕ → Reply
reply_by None number environ body = shipped number environ body
reply_by (Some g) number environ body = g.reply

-- an application that agrees
abbrev pub relay_app : Givings → ℕ → App
relay_app given conn number environ body = if list_all is_plain environ then reply_by (given conn number) number environ body else refused_request

pub relay_agrees : (given : Givings) (conn : ℕ) → Agrees given conn (relay_app given conn)
relay_agrees given conn = record {
  given_is = λ i g e plain. ap (λ (b : Bool). if b then reply_by (given conn i) i g.environ g.body else refused_request) plain ∙ ap (λ (o : Option Given). reply_by o i g.environ g.body) e;
  refused = λ i environ body told. ap (λ (b : Bool). if b then reply_by (given conn i) i environ body else refused_request) told;
}

-- ---- the tie

-- a client that isn't held waits for none
not_held : (a : Asked) (g : Client RelayTalk) → holds_for g.talk ≡ false → Awaits a g → ⊥
not_held a g free w = false≢true (sym free ∙ w.held)

-- one that was just accepted waits for none
pub tied_new : (m : DialMeaning) (patience : ℕ) (asked : List Asked) (given : Givings) (exchanges : List (Option Exchange)) (listed now : Listing RelayTalk) (accepted : ℕ) → IsTied m patience asked exchanges listed → IsKept patience m asked given
    → HaveAsked asked listed accepted → ((k : ℕ) (s : Option (Client RelayTalk)) → now k s → listed k s) → IsTiedBut m patience asked exchanges now accepted
tied_new m patience asked given exchanges listed now accepted t kept h same = record {
  tied = record {
    each = λ slot x here. let u = t.each slot x here in record { number = u.number; is = u.is; live = u.live; its = u.its; exchanging = u.exchanging; held = λ row is. u.held row (same x.conn row is) };
    apart = t.apart;
  };
  others = λ slot x here is.
      let u = t.each slot x here in
      let came : (asker_in asked u.number).conn < accepted = h.came u.number (subst (λ (n : ℕ). u.number < n) (sym kept.count) u.live.accepted) in
      lt_irrefl accepted (subst (λ (n : ℕ). n < accepted) (u.its.conn ∙ is) came);
}

-- it is listed, or closed
pub tied_again : (m : DialMeaning) (patience : ℕ) (asked : List Asked) (exchanges : List (Option Exchange)) (listed now : Listing RelayTalk) (k : ℕ) → IsTiedBut m patience asked exchanges listed k
    → ((j : ℕ) (s : Option (Client RelayTalk)) → j ≢ k → now j s → listed j s) → IsTied m patience asked exchanges now
tied_again m patience asked exchanges listed now k t others = record {
  each = λ slot x here.
      let u = t.tied.each slot x here in
      record { number = u.number; is = u.is; live = u.live; its = u.its; exchanging = u.exchanging; held = λ row is. u.held row (others x.conn row (t.others slot x here) is) };
  apart = t.tied.apart;
}

-- one that isn't held is taken out
pub tied_out : (m : DialMeaning) (patience : ℕ) (asked : List Asked) (exchanges : List (Option Exchange)) (listed now : Listing RelayTalk) (k : ℕ) (g : Client RelayTalk) → IsTied m patience asked exchanges listed → listed k (Some g)
    → holds_for g.talk ≡ false → ((j : ℕ) (s : Option (Client RelayTalk)) → j ≢ k → now j s → listed j s) → IsTiedBut m patience asked exchanges now k
tied_out m patience asked exchanges listed now k g t row free beside = record {
  tied = record {
    each = λ slot x here.
        let u = t.each slot x here in
        record { number = u.number; is = u.is; live = u.live; its = u.its; exchanging = u.exchanging; held = λ s is. u.held s (beside x.conn s (apart slot x here) is) };
    apart = t.apart;
  };
  others = apart;
}
  where
    apart : (slot : ℕ) (x : Exchange) → exchange_in exchanges slot ≡ Some x → x.conn ≢ k
    apart slot x here is =
        let u = t.each slot x here in
        not_held (asker_in asked u.number) g free (u.held (Some g) (subst (λ (j : ℕ). listed j (Some g)) (sym is) row))

-- ---- the account

pub next_least : (o : Option ℕ) (answered : ℕ) → answered ≤ next_behind o answered
next_least None answered = le_refl answered
next_least (Some deadline) answered = le_of_lt (lt-add-one answered)

pub next_most : (o : Option ℕ) (answered : ℕ) → next_behind o answered ≤ answered + 1
next_most None answered = le_of_lt (lt-add-one answered)
next_most (Some deadline) answered = le_refl (answered + 1)

next_free : (o : Option ℕ) (answered : ℕ) → is_some o ≡ false → next_behind o answered ≤ answered
next_free None answered free = le_refl answered
next_free (Some deadline) answered free = absurd (false≢true (sym free))

pub asked_new : (asked : List Asked) (listed now : Listing RelayTalk) (accepted : ℕ) → HaveAsked asked listed accepted → ((k : ℕ) (s : Option (Client RelayTalk)) → now k s → listed k s) → HaveAskedBut asked now (accepted + 1) accepted 0
asked_new asked listed now accepted h same = owned_new next_of (IsAsked asked) (owner_of (asker_in asked)) listed now accepted h same

pub asked_again : (asked : List Asked) (listed now : Listing RelayTalk) (accepted k low : ℕ) → HaveAskedBut asked listed accepted k low → ((j : ℕ) (s : Option (Client RelayTalk)) → j ≢ k → now j s → listed j s)
    → ((g : Client RelayTalk) → now k (Some g) → low ≤ rank_of g.talk) → HaveAsked asked now accepted
asked_again asked listed now accepted k low h others from = owned_again next_of (IsAsked asked) (owner_of (asker_in asked)) listed now accepted k low h others (λ g row. le_trans (from g row) (next_least g.talk.held (rank_of g.talk)))

pub asked_out : (asked : List Asked) (listed now : Listing RelayTalk) (accepted k : ℕ) (g : Client RelayTalk) → HaveAsked asked listed accepted → listed k (Some g) → holds_for g.talk ≡ false
    → ((j : ℕ) (s : Option (Client RelayTalk)) → j ≢ k → now j s → listed j s) → HaveAskedBut asked now accepted k (rank_of g.talk)
asked_out asked listed now accepted k g h row free others =
    owned_out next_of (IsAsked asked) (owner_of (asker_in asked)) listed now accepted k (rank_of g.talk) g h row (next_free g.talk.held (rank_of g.talk) free) others
