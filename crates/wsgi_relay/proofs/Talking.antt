-- What a session asks for, and what calls that went well or failed say.
use Rattle.std.proofs.Common.{◌≡◌, ℕ, true, false, List, Option, Some, None, Result, Ok, Err, is_some, refl, sym, ap, ◌∙◌, subst}
use Rattle.std.specs.List.{list_all}
use Rattle.std.specs.Prelude.{IsSome, OnOk, is_err}
use Rattle.std.proofs.lemmas.Bool.{false≢true}
use Rattle.http_messages.specs.Environ.{Pair}
use Rattle.relay_core.specs.Faults.{refused_request}
use Rattle.scgi_core.specs.Laws.{is_plain}
use Rattle.stream_server.specs.Services.{IsHeldFrom}
use Rattle.stream_server.specs.declared.client.Client.{Client}
use Rattle.stream_server.specs.declared.client.TheConstants.{NEVER}
use Rattle.wsgi_core.specs.Applications.{App}
use Rattle.wsgi_core.specs.Steps.{IsReplyTo, StandsAt, asked_of}
use Rattle.wsgi_core.specs.declared.reply.Reply.{Reply}
use Rattle.wsgi_core.specs.declared.session.Session.{Session}
use Rattle.wsgi_relay.specs.Accounts.{or_empty}
use Rattle.wsgi_relay.specs.Asking.{CanBeHanded, IsAskedFor, WantsRelay}
use Rattle.wsgi_relay.specs.Relaying.{Agrees, Givings}
use Rattle.wsgi_relay.specs.Talks.{deadline_in, relay_protocol, request_of}
use Rattle.wsgi_relay.specs.declared.relay_talk.Request.{Request}
use Rattle.wsgi_relay.specs.declared.relay_talk.RelayTalk.{RelayTalk}

-- what a call that went well says
pub at_ok : {T E P : Type 0} (r : Result T E) → false ≡ is_err r → OnOk r P → P
at_ok (Ok x) e h = h
at_ok (Err y) e h = absurd (false≢true e)

-- ---- what is asked for

pub asked_nothing : (o : Option (List Pair × List ℕ)) (a : Request) → a ≡ Request.Nothing → IsAskedFor o a → is_some o ≡ false
asked_nothing o a e h =
    let P : Request → Type 0 = λ x. IsAskedFor o x in
    ap (λ (x : Option (List Pair × List ℕ)). is_some x) (subst P e h)

pub asked_handed : (t : RelayTalk) (a : Request) → a ≡ Request.Handed → IsAskedFor (request_of t) a → WantsRelay t
asked_handed t a e h =
    let P : Request → Type 0 = λ x. IsAskedFor (request_of t) x in
    let is = subst P e h in
    record { request = is.0; asked = is.1; plain = is.2 }

pub asked_waits : (o : Option (List Pair × List ℕ)) (a : Request) → a ≡ Request.Refused → IsAskedFor o a → IsSome o
asked_waits o a e h =
    let P : Request → Type 0 = λ x. IsAskedFor o x in
    let is = subst P e h in
    subst (λ (x : Option (List Pair × List ℕ)). IsSome x) (sym is.1) refl

-- the refusal is the reply of each application that agrees
pub asked_refused : (o : Option (List Pair × List ℕ)) (a : Request) (reply : Reply) → a ≡ Request.Refused → IsAskedFor o a → reply ≡ refused_request → (given : Givings) (conn number : ℕ) (app : App) → Agrees given conn app → IsReplyTo app number o reply
asked_refused o a reply e h told given conn number app agrees =
    let P : Request → Type 0 = λ x. IsAskedFor o x in
    let is = subst P e h in
    subst (λ (x : Option (List Pair × List ℕ)). IsReplyTo app number x reply) (sym is.1) (told ∙ sym (agrees.refused number is.0.0 is.0.1 is.2))

-- ---- the request that waits

-- what can be handed on has no NUL
pub handed_plain : (s : Session) → CanBeHanded s → list_all is_plain (or_empty (asked_of s)).0 ≡ true
handed_plain s can = ap (λ (o : Option (List Pair × List ℕ)). list_all is_plain (or_empty o).0) can.asked ∙ can.plain

-- it waits with its pairs and its body
pub handed_is : (s : Session) → CanBeHanded s → asked_of s ≡ Some ((or_empty (asked_of s)).0, (or_empty (asked_of s)).1)
handed_is s can = can.asked ∙ ap (λ (o : Option (List Pair × List ℕ)). Some ((or_empty o).0, (or_empty o).1)) (sym can.asked)

-- ---- a client that is held

pub is_held : (g h : Client RelayTalk) (deadline : ℕ) → h.conn ≡ g.conn → h.talk.session ≡ g.talk.session → h.talk.held ≡ Some deadline → deadline ≡ g.deadline → h.ended ≡ g.ended → h.deadline ≡ NEVER → IsHeldFrom relay_protocol g h
is_held g h deadline conn session held kept ended never_ = record {
  conn = conn;
  ended = ended;
  never = never_;
  held = ap (λ (o : Option ℕ). is_some o) held;
  kept = ap (λ (o : Option ℕ). deadline_in o) held ∙ kept;
  stands = λ app port fed ended taken at. subst (λ (s : Session). StandsAt app port fed ended taken s) (sym session) at;
}
