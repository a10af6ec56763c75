-- What an exchange that is over makes of its client, and of what is known of the replies.
use Rattle.std.proofs.Common.{◌≡◌, ◌≢◌, ◌⊎◌, inl, inr, ℕ, ◌+◌, ◌-◌, ◌^◌, ◌<◌, ◌≤◌, Bool, true, false, List, [], ◌∷◌, length, Option, Some, None, is_some, slice_index_or, slice_set, refl, sym, ap, ◌∙◌, subst, arith}
use Rattle.std.specs.List.{list_all}
use Rattle.std.specs.Prelude.{IfSome, IsSome}
use Rattle.std.proofs.Math.Nat.{le_trans}
use Rattle.std.proofs.lemmas.Bool.{false≢true}
use Rattle.std.proofs.lemmas.List.{length-set, get_or-set_same}
use Rattle.http_messages.specs.Environ.{Pair}
use Rattle.relay_core.specs.declared.reader.Far.{Far}
use Rattle.relay_core.specs.declared.reader.Far.TheVariants.{GoesOn, Ended, Broken, Late}
use Rattle.relay_core.specs.Replies.{IsReading, relayed}
use Rattle.scgi_core.specs.Laws.{is_plain}
use Rattle.stream_net.specs.Net.{Changes, Connection, connection_at, absent_connection, closed_at}
use Rattle.stream_dial.specs.Dials.{ClosesIn, DialMeaning, net_of}
use Rattle.stream_server.specs.Protocols.{Apps}
use Rattle.stream_server.specs.Services.{IsReleased, Polls, TiesAfter}
use Rattle.stream_server.specs.Tables.{IsListed, Relists, SeenTable, client_count}
use Rattle.stream_server.specs.Owning.{owned_out}
use Rattle.stream_server.specs.declared.client.Client.{Client}
use Rattle.stream_server.specs.declared.service.Polled.{Polled}
use Rattle.stream_server.specs.declared.service.Polled.TheVariants.{Nobody, Released, Memory}
use Rattle.wsgi_core.specs.Applications.{App}
use Rattle.wsgi_core.specs.Steps.{IsReplyTo, answered_of, asked_of}
use Rattle.wsgi_core.specs.declared.reply.Reply.{Reply}
use Rattle.wsgi_core.specs.declared.session.Session.{Session}
use Rattle.wsgi_relay.specs.Accounts.{AllAgree, IsAsked, asker_in, given_in, given_on, or_empty}
use Rattle.wsgi_relay.specs.Asking.{HasAsked}
use Rattle.wsgi_relay.specs.Exchanging.{HasShown, IsDecided, OfSlot}
use Rattle.wsgi_relay.specs.Giving.{Gives, IsGivenTo}
use Rattle.wsgi_relay.specs.Laws.{next_most}
use Rattle.wsgi_relay.specs.Relaying.{Agrees, Asked, CameTo, Given, HasStream, IsAnswered, asked_by, is_for_head, owner_of}
use Rattle.wsgi_relay.specs.Talks.{next_of, rank_of, relay_protocol, request_of}
use Rattle.wsgi_relay.specs.Tied.{Awaits, HaveAsked, HaveAskedBut, HaveAskedOnce, IsKept, IsLate, IsOver, IsUnderWay, exchange_in}
use Rattle.wsgi_relay.specs.declared.exchange.Exchange.{Exchange}
use Rattle.wsgi_relay.specs.declared.relay_talk.RelayTalk.{RelayTalk}
use Rattle.wsgi_relay.proofs.Keeping.{given_here, given_stays, kept_changed}
use Rattle.wsgi_relay.proofs.Tying.{OnlyStream, same_some}

-- ---- the stream is closed

-- that one alone is changed
pub closes_only : (v w : DialMeaning) (slot number : ℕ) → ClosesIn v w slot → v.slots slot ≡ Some number → number < length v.streams → OnlyStream v w number
closes_only v w slot number closes is within = record {
  streams = c.connections ∙ ap (λ (s : Connection). slice_set v.streams number s) (sym (at));
  none = closes.none;
}
  where
    c : Changes (net_of v.streams v.moment) (net_of w.streams w.moment) number (closed_at w.moment)
    c = closes.closes number is

    at : connection_at w.streams number ≡ closed_at w.moment (connection_at v.streams number)
    at = ap (λ (cs : List Connection). connection_at cs number) c.connections ∙ get_or-set_same v.streams number (closed_at w.moment (connection_at v.streams number)) absent_connection within

pub closed_is : (v w : DialMeaning) (slot number : ℕ) → ClosesIn v w slot → v.slots slot ≡ Some number → number < length v.streams → connection_at w.streams number ≡ closed_at w.moment (connection_at v.streams number)
closed_is v w slot number closes is within =
    let c = closes.closes number is in
    ap (λ (cs : List Connection). connection_at cs number) c.connections ∙ get_or-set_same v.streams number (closed_at w.moment (connection_at v.streams number)) absent_connection within

came_shown : (far : Far) (opened patience moment : ℕ) (s : Connection) (x : Exchange) → HasShown far s x → CameTo far opened patience (closed_at moment s)
came_shown GoesOn opened patience moment s x shown = tt
came_shown Ended opened patience moment s x shown = shown.0
came_shown Broken opened patience moment s x shown = shown
came_shown Late opened patience moment s x shown = absurd shown

came_late : (far : Far) (m : DialMeaning) (opened patience moment : ℕ) (s : Connection) (x : Exchange) → IsLate far m x → m.moment ≤ moment → (x.until < 2 ^ 64 - 1 → opened + patience ≤ x.until) → CameTo far opened patience (closed_at moment s)
came_late far m opened patience moment s x l later timely =
    let is : CameTo Late opened patience (closed_at moment s) = le_trans (timely l.comes) (le_trans l.over later) in
    subst (λ (f : Far). CameTo f opened patience (closed_at moment s)) (sym l.late) is

-- its end is one that the closed stream shows
came_to : (far : Far) (m : DialMeaning) (slot number opened patience moment : ℕ) (x : Exchange) → m.slots slot ≡ Some number → OfSlot m slot (λ s. HasShown far s x) ⊎ IsLate far m x → m.moment ≤ moment → (x.until < 2 ^ 64 - 1 → opened + patience ≤ x.until)
    → CameTo far opened patience (closed_at moment (connection_at m.streams number))
came_to far m slot number opened patience moment x is (inl shown) later timely = came_shown far opened patience moment (connection_at m.streams number) x (shown number is)
came_to far m slot number opened patience moment x is (inr late) later timely = came_late far m opened patience moment (connection_at m.streams number) x late later timely

-- one that goes on is decided
pub over_decided : (far : Far) (m : DialMeaning) (slot number : ℕ) (x : Exchange) → m.slots slot ≡ Some number → OfSlot m slot (λ s. HasShown far s x) ⊎ IsLate far m x → far ≡ GoesOn → IsDecided x
over_decided far m slot number x is (inl shown) goes_on = subst (λ (f : Far). HasShown f (connection_at m.streams number) x) goes_on (shown number is)
over_decided far m slot number x is (inr late) goes_on = absurd (cc (late.late, goes_on))

-- the request, by what its session says
asked_is : (a : Asked) (conn : ℕ) (g : Client RelayTalk) (reply : Reply) → Awaits a g → g.conn ≡ conn → a ≡ asked_by conn (answered_of g.talk.session) (given_on g.talk.session reply)
asked_is a conn g reply w number_is =
    let request : (a.environ, a.body) ≡ or_empty (asked_of g.talk.session) = sym (ap or_empty w.request) in
    λ i. record { conn = (w.conn ∙ number_is) i; number = w.number i; environ = (request i).0; body = (request i).1 }

-- the reply was read on the stream of the request
pub answered_stream : (patience : ℕ) (v w : DialMeaning) (asked : List Asked) (listed : ℕ → Option (Client RelayTalk) → Type 0) (slot : ℕ) (x : Exchange) (far : Far) (reply : Reply) (g : Client RelayTalk) (u : IsUnderWay v patience asked listed slot x)
    → OfSlot v slot (λ s. HasShown far s x) ⊎ IsLate far v x → ClosesIn v w slot → ((got : List ℕ) → IsReading got x.reader → relayed x.reader.is_head far got ≡ Some reply) → listed x.conn (Some g) → g.conn ≡ x.conn
    → HasStream (asker_in asked) w patience x.conn (answered_of g.talk.session) (given_on g.talk.session reply)
answered_stream patience v w asked listed slot x far reply g u come closes relays row number_is = record {
  stream = u.number;
  opened = subst (λ (n : ℕ). u.number < n) (sym long) within;
  asked = is;
  answered = subst (λ (c : Connection). IsAnswered (asked_by x.conn (answered_of g.talk.session) (given_on g.talk.session reply)) reply (slice_index_or w.opened u.number 0) patience c) (sym at)
      (subst (λ (os : List ℕ). IsAnswered (asked_by x.conn (answered_of g.talk.session) (given_on g.talk.session reply)) reply (slice_index_or os u.number 0) patience (closed_at w.moment s)) (sym only.none.opened)
      (subst (λ (a : Asked). IsAnswered a reply (slice_index_or v.opened u.number 0) patience (closed_at w.moment s)) is record {
        closed = refl;
        far = far;
        came = came_to far v slot u.number (slice_index_or v.opened u.number 0) patience w.moment x u.is come (closes.closes u.number u.is).rest.moment u.its.timely;
        got = u.exchanging.heard.fed;
        reads = u.exchanging.heard.read;
        relays = ap (λ (b : Bool). relayed b far u.exchanging.heard.fed) (sym u.its.is_head) ∙ relays u.exchanging.heard.fed u.exchanging.heard.reading;
      }));
}
  where
    s : Connection
    s = connection_at v.streams u.number

    within : u.number < length v.streams
    within = u.live.accepted

    only : OnlyStream v w u.number
    only = closes_only v w slot u.number closes u.is within

    at : connection_at w.streams u.number ≡ closed_at w.moment s
    at = closed_is v w slot u.number closes u.is within

    long : length w.streams ≡ length v.streams
    long = ap (λ (cs : List Connection). length cs) only.streams ∙ length-set v.streams u.number (connection_at w.streams u.number)

    is : asker_in asked u.number ≡ asked_by x.conn (answered_of g.talk.session) (given_on g.talk.session reply)
    is = asked_is (asker_in asked u.number) x.conn g reply (u.held (Some g) row) number_is

-- nothing was given to it before: that would have come on a closed stream of its own
pub given_new : (patience : ℕ) (v : DialMeaning) (asked : List Asked) (list : List ((ℕ × ℕ) × Given)) (listed : ℕ → Option (Client RelayTalk) → Type 0) (slot : ℕ) (x : Exchange) (g : Client RelayTalk) (u : IsUnderWay v patience asked listed slot x)
    → IsKept patience v asked (given_in list) → HaveAskedOnce asked → listed x.conn (Some g) → g.conn ≡ x.conn → (conn number : ℕ) (old : Given) → given_in list conn number ≡ Some old → x.conn ≡ conn → answered_of g.talk.session ≡ number → ⊥
given_new patience v asked list listed slot x g u kept once row number_is conn number old is same_conn same_number =
    let s = kept.replies conn number old is in
    let w = u.held (Some g) row in
    let owners : owner_of (asker_in asked) s.stream ≡ owner_of (asker_in asked) u.number =
    (λ i. ((s.asked i).conn, (s.asked i).number)) ∙ (λ i. (sym same_conn i, sym same_number i)) ∙ (λ i. ((sym (w.conn ∙ number_is)) i, (sym w.number) i)) in
    let streams : s.stream ≡ u.number = once s.stream u.number (subst (λ (n : ℕ). s.stream < n) (sym kept.count) s.opened) (subst (λ (n : ℕ). u.number < n) (sym kept.count) u.live.accepted) owners in
    false≢true (sym u.live.still_open ∙ ap (λ (n : ℕ). (connection_at v.streams n).closed) (sym streams) ∙ s.answered.closed)

-- what agrees with one reply more agreed before
pub agreed_before : (conn number : ℕ) (g : Given) (list : List ((ℕ × ℕ) × Given)) → ((k i : ℕ) (old : Given) → given_in list k i ≡ Some old → conn ≡ k → number ≡ i → ⊥) → (apps : Apps) → AllAgree (given_in (((conn, number), g) ∷ list)) apps → AllAgree (given_in list) apps
agreed_before conn number g list new apps fits k = record {
  given_is = λ i old is plain. (fits k).given_is i old (given_stays ((conn, number), g) list k i old is (new k i old is)) plain;
  refused = (fits k).refused;
}

-- ---- the client

-- the reply is that of each application that agrees
pub reply_is : (conn : ℕ) (g : Client RelayTalk) (reply : Reply) (list : List ((ℕ × ℕ) × Given)) (a : Asked) → Awaits a g → list_all is_plain a.environ ≡ true → (app : App)
    → Agrees (given_in (((conn, answered_of g.talk.session), given_on g.talk.session reply) ∷ list)) conn app → IsReplyTo app (answered_of g.talk.session) (request_of g.talk) reply
reply_is conn g reply list a w plain app fits =
    let number = answered_of g.talk.session in
    let given = given_on g.talk.session reply in
    let request : (a.environ, a.body) ≡ or_empty (asked_of g.talk.session) = sym (ap or_empty w.request) in
    let is_plain_too : list_all is_plain given.environ ≡ true = ap (λ (r : List Pair × List ℕ). list_all is_plain r.0) (sym request) ∙ plain in
    let told : app number given.environ given.body ≡ reply = fits.given_is number given (given_here conn number given list) is_plain_too in
    subst (λ (o : Option (List Pair × List ℕ)). IsReplyTo app number o reply) (sym w.request) (sym told ∙ (λ i. app number ((sym request) i).0 ((sym request) i).1))

module _ (asked : List Asked) (list : List ((ℕ × ℕ) × Given)) (table now : SeenTable RelayTalk) (conn : ℕ) (reply : Reply) (was : Client RelayTalk) (a : Asked) (awaits : Awaits a was) (plain : list_all is_plain a.environ ≡ true)
    (row : IsListed table conn (Some was)) (number_is : was.conn ≡ conn) (relists : Relists table now conn None) (count : client_count now + 1 ≡ client_count table) where
  abbrev after : List ((ℕ × ℕ) × Given)
  after = ((conn, answered_of was.talk.session), given_on was.talk.session reply) ∷ list

  polled_released : (given : Client RelayTalk) → IsGivenTo reply was given → IsReleased relay_protocol (AllAgree (given_in after)) table now given
  polled_released given is = record {
    was = was;
    listed = subst (λ (n : ℕ). IsListed table n (Some was)) (sym here) row;
    relists = subst (λ (n : ℕ). Relists table now n None) (sym here) relists;
    count = count;
    ended = is.ended;
    held = awaits.held;
    later = is.later;
    free = ap (λ (o : Option ℕ). is_some o) is.free;
    stands = λ apps fits. is.stands (apps given.conn) (reply_is conn was reply list a awaits plain (apps given.conn) (subst (λ (n : ℕ). Agrees (given_in after) n (apps given.conn)) here (fits given.conn)));
  }
    where
      here : given.conn ≡ conn
      here = is.conn ∙ number_is

  pub gives_polled : (r : Polled RelayTalk) → Gives r reply was → Polls r relay_protocol (AllAgree (given_in after)) table now
  gives_polled Nobody is = absurd is
  gives_polled (Released given) is = polled_released given is
  gives_polled Memory is = tt

  -- its stream is one of a request that was answered
  pub gives_tied : (tied : ℕ → Type 0) (r : Polled RelayTalk) (accepted : ℕ) → tied conn → HaveAsked asked (IsListed table) accepted → Gives r reply was
      → TiesAfter r ⊥ (λ given. tied given.conn × HaveAskedBut asked (IsListed now) accepted given.conn (rank_of given.talk))
  gives_tied tied Nobody accepted ties owned is = absurd is
  gives_tied tied (Released given) accepted ties owned is = (
    subst tied (sym (is.conn ∙ number_is)) ties,
    subst (λ (n : ℕ). HaveAskedBut asked (IsListed now) accepted n (rank_of given.talk)) (sym (is.conn ∙ number_is))
        (owned_out next_of (IsAsked asked) (owner_of (asker_in asked)) (IsListed table) (IsListed now) accepted conn (rank_of given.talk) was owned row
        (subst (λ (n : ℕ). next_of was.talk ≤ n) (sym is.answered) (next_most was.talk.held (rank_of was.talk))) relists.others),
  )
  gives_tied tied Memory accepted ties owned is = tt

-- the client that waits has a request
pub awaits_asked : (a : Asked) (g : Client RelayTalk) → Awaits a g → HasAsked g.talk
awaits_asked a g w = subst (λ (o : Option (List Pair × List ℕ)). IsSome o) (sym w.request) refl

-- ---- the exchange that is over

-- it is the one in the slot
pub over_at : (m : DialMeaning) (exchanges : List (Option Exchange)) (slot : ℕ) (far : Far) (x : Exchange) (o : IsOver m exchanges slot far) → exchange_in exchanges slot ≡ Some x → OfSlot m slot (λ s. HasShown far s x) ⊎ IsLate far m x
over_at m exchanges slot far x o here = subst (λ (y : Exchange). OfSlot m slot (λ s. HasShown far s y) ⊎ IsLate far m y) (same_some (exchange_in exchanges slot) o.exchange x o.here here) o.come

-- the account once it is closed
pub closed_kept : (patience : ℕ) (v w : DialMeaning) (asked : List Asked) (list : List ((ℕ × ℕ) × Given)) (listed : ℕ → Option (Client RelayTalk) → Type 0) (slot : ℕ) (x : Exchange) (u : IsUnderWay v patience asked listed slot x) → ClosesIn v w slot
    → IsKept patience v asked (given_in list) → IsKept patience w asked (given_in list)
closed_kept patience v w asked list listed slot x u closes kept =
    let sent = kept.sent u.number u.live.accepted in
    kept_changed patience v w asked (given_in list) kept u.number (closed_at w.moment (connection_at v.streams u.number)) (closes.closes u.number u.is).connections closes.none.opened u.live.accepted u.live.still_open record { plain = sent.plain; sent = sent.sent }

-- what ties the service to its clients, with the account
pub over_ties : {T : Type 0} (kept whole : Type 0) (ties owned : Client T → Type 0) (r : Polled T) → kept → TiesAfter r ⊥ (λ client. ties client × owned client) → TiesAfter r whole (λ client. ties client × kept × owned client)
over_ties kept whole ties owned Nobody k h = absurd h
over_ties kept whole ties owned (Released client) k h = (h.0, k, h.1)
over_ties kept whole ties owned Memory k h = tt
