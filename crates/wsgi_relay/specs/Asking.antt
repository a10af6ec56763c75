-- What a session asks for.
use Rattle.std.specs.Prelude.{◌≡◌, ℕ, true, false, List, Option, Some, None, IsSome}
use Rattle.std.specs.List.{list_all}
use Rattle.http_messages.specs.Environ.{Pair}
use Rattle.scgi_core.specs.Laws.{is_plain}
use Rattle.wsgi_core.specs.Steps.{asked_of}
use Rattle.wsgi_core.specs.declared.session.Session.{Session}
use Rattle.wsgi_relay.specs.Talks.{request_of}
use Rattle.wsgi_relay.specs.declared.relay_talk.Request.{Request}
use Rattle.wsgi_relay.specs.declared.relay_talk.Request.TheVariants.{Nothing, Handed, Refused}
use Rattle.wsgi_relay.specs.declared.relay_talk.RelayTalk.{RelayTalk}

-- a request waits at the session that can be handed on
pub record CanBeHanded (s : Session) : Type 0 where
  pub request : List Pair × List ℕ
  pub asked : asked_of s ≡ Some request
  pub plain : list_all is_plain request.0 ≡ true

abbrev pub WantsRelay : RelayTalk → Type 0
WantsRelay t = CanBeHanded t.session

-- what is asked for where this request waits, if one does
abbrev pub IsAskedFor : Option (List Pair × List ℕ) → Request → Type 0
IsAskedFor asked Nothing = asked ≡ None
IsAskedFor asked Handed = (request : List Pair × List ℕ) × (asked ≡ Some request) × (list_all is_plain request.0 ≡ true)
IsAskedFor asked Refused = (request : List Pair × List ℕ) × (asked ≡ Some request) × (list_all is_plain request.0 ≡ false)

-- a request waits
abbrev pub HasAsked : RelayTalk → Type 0
HasAsked t = IsSome (request_of t)
