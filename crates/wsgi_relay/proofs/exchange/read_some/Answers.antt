use Rattle.wsgi_relay.proofs.Streaming.{open_still, read_goes_on}
use Rattle.wsgi_relay.proofs.exchange.read_some.Goals as goal

pub returns-clause-opened : goal.returns-clause-opened
returns-clause-opened g c =
    let v = g.D.Dial.meaning c.args.dial.now in
    let w = g.D.Dial.meaning c.read.new.self in
    open_still v w c.args.slot (read_goes_on v w c.args.slot c.requires.opened _ _ c.read.ensures.reads) c.requires.opened

pub returns-clause-only : goal.returns-clause-only
returns-clause-only g c =
    read_goes_on (g.D.Dial.meaning c.args.dial.now) (g.D.Dial.meaning c.read.new.self) c.args.slot c.requires.opened _ _ c.read.ensures.reads
