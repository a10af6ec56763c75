use Rattle.std.proofs.Common.{◌∙◌, sym}
use Rattle.wsgi_relay.proofs.Sending.{no_reply}
use Rattle.wsgi_relay.proofs.exchange.close_exchange.Goals as goal

pub unreachable-requires : goal.unreachable-requires
unreachable-requires g c =
    let o = c.requires.opened in
    let heard = c.requires.heard o.number o.is in
    no_reply c.args.exchange c.args.far heard.fed heard.reading c.requires.decided (sym (c.in_ok-reply.ensures heard.fed heard.reading) ∙ c.in-None.is)
