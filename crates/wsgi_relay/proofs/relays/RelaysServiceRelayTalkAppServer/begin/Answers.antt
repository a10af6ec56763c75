use Rattle.wsgi_relay.proofs.relays.RelaysServiceRelayTalkAppServer.begin.Goals as goal

pub returns-clause-begun : goal.returns-clause-begun
returns-clause-begun g c = λ app. (c.new.ensures app).stands_at
