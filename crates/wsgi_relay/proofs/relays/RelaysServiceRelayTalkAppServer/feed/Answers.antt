use Rattle.std.specs.Prelude.{◌++◌}
use Rattle.wsgi_core.specs.Steps.{stopped_bytes}
use Rattle.wsgi_relay.proofs.relays.RelaysServiceRelayTalkAppServer.feed.Goals as goal

pub returns-in-Ok-clause-fed : goal.returns-in-Ok-clause-fed
returns-in-Ok-clause-fed g c = λ w apps conn fits. c.in-Ok.ensures.stands_at (apps conn)

pub returns-in-Err-clause-cut : goal.returns-in-Err-clause-cut
returns-in-Err-clause-cut g c = λ w apps conn fits port fed taken at.
    stopped_bytes (apps conn) port (fed ++ c.args.piece.now) taken c.take_in.new.self (c.in-Err.ensures.stopped (apps conn) port fed taken at)
