use Rattle.std.proofs.Common.{◌≡◌, ◌++◌, List, ℕ, drop, subst}
use Rattle.stream_dial.specs.Dials.{WritesIn}
use Rattle.wsgi_relay.proofs.Sending.{drop_both}
use Rattle.wsgi_relay.proofs.Streaming.{open_still, write_goes_on}
use Rattle.wsgi_relay.proofs.exchange.write_left.Goals as goal

pub returns-clause-opened : goal.returns-clause-opened
returns-clause-opened g c =
    let v = g.D.Dial.meaning c.args.dial.now in
    let w = g.D.Dial.meaning c.write.new.self in
    open_still v w c.args.slot (write_goes_on v w c.args.slot c.requires.opened _ _ c.write.ensures.writes) c.requires.opened

pub returns-clause-only : goal.returns-clause-only
returns-clause-only g c =
    write_goes_on (g.D.Dial.meaning c.args.dial.now) (g.D.Dial.meaning c.write.new.self) c.args.slot c.requires.opened _ _ c.write.ensures.writes

pub returns-clause-writes : goal.returns-clause-writes
returns-clause-writes g c =
    let x = c.args.exchange.now in
    let both = drop_both x.sent x.head c.args.body.now in
    let is : c.left_of-first.result.now ++ c.left_of-second.result.now ≡ drop x.sent (x.head ++ c.args.body.now) = cc in
    subst (λ (bytes : List ℕ). WritesIn (g.D.Dial.meaning c.args.dial.now) (g.D.Dial.meaning c.write.new.self) c.args.slot c.write.result bytes) is c.write.ensures.writes
