use Rattle.std.proofs.Common.{sym, ◌∙◌}
use Rattle.wsgi_core.specs.Session.{session}
use Rattle.wsgi_core.specs.Steps.{asked_of}
use Rattle.stream_server.proofs.Stepping.{is_closing}
use Rattle.wsgi_relay.specs.Laws.{none_asked}
use Rattle.wsgi_relay.proofs.relays.RelaysServiceRelayTalkAppServer.phase.Goals as goal

pub returns : goal.returns
returns g c = λ e app port fed ended taken at.
    is_closing (session app port fed ended).closes (sym e ∙ c.phase.ensures.said app port fed ended taken record { stands_at = at; quiet = none_asked (asked_of c.args.talk.now.session) c.requires })
