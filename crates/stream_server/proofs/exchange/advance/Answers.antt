use Rattle.std.proofs.Common.{◌≡◌, ◌≤◌, [], refl, sym, subst}
use Rattle.std.proofs.Math.Nat.{le_refl}
use Rattle.stream_net.specs.Net.{connection_at}
use Rattle.stream_server.specs.Protocols.{side_of}
use Rattle.stream_server.proofs.Stepping.{none_left, reply_cut, same_going, was_given}
use Rattle.stream_server.proofs.exchange.advance.Goals as goal

pub returns-in-Asks-clause-none : goal.returns-in-Asks-clause-none
returns-in-Asks-clause-none g c = λ _.
    let P : g.row.T.Denot → Type 0 = λ t. g.V.Service.protocol.due t ≡ [] in
    subst P (sym (c.in-Asks.ensures.asks refl).0) (none_left _ _ _ c.is_empty.ensures c.if-not-is_empty.false c.pending.ensures)

pub listen_on-requires-clause-none : goal.listen_on-requires-clause-none
listen_on-requires-clause-none g c =
    let P : g.row.T.Denot → Type 0 = λ t. g.V.Service.protocol.due t ≡ [] in
    subst P (sym (c.in-NoRequest.ensures.no_request refl).0) (none_left _ _ _ c.is_empty.ensures c.if-not-is_empty.false c.pending.ensures)

pub listen_on-requires-clause-quiet : goal.listen_on-requires-clause-quiet
listen_on-requires-clause-quiet g c = (c.in-NoRequest.ensures.no_request refl).1

pub returns-in-NoRequest-clause-leaves : goal.returns-in-NoRequest-clause-leaves
returns-in-NoRequest-clause-leaves g c = λ w apps conn port fits h.
    let S = side_of g.V.Service.protocol (apps conn) port in
    let c0 = connection_at (g.N.Net.meaning c.args.net.now).connections c.args.client.now.conn in
    c.listen_on.ensures.leaves w apps conn port fits (same_going S c.args.idle 0 c0 c.args.client.now c.reply.new.talk (c.in-NoRequest.ensures.no_request refl).0 h)

pub returns-in-Given-clause-leaves : goal.returns-in-Given-clause-leaves
returns-in-Given-clause-leaves g c = λ w apps conn port fits h.
    was_given (side_of g.V.Service.protocol (apps conn) port) c.args.idle 0 _ c.args.client.now c.reply.new.talk h c.reply.ensures.holds (c.in-Given.ensures.given refl w apps conn fits port)

pub returns-in-Asks-clause-leaves : goal.returns-in-Asks-clause-leaves
returns-in-Asks-clause-leaves g c = λ w apps conn port fits h.
    let S = side_of g.V.Service.protocol (apps conn) port in
    let c0 = connection_at (g.N.Net.meaning c.args.net.now).connections c.args.client.now.conn in
    same_going S c.args.idle 0 c0 c.args.client.now c.reply.new.talk (c.in-Asks.ensures.asks refl).0 h

pub returns-in-Asks-clause-wants : goal.returns-in-Asks-clause-wants
returns-in-Asks-clause-wants g c = λ _. (c.in-Asks.ensures.asks refl).1

pub returns-in-Memory-clause-leaves : goal.returns-in-Memory-clause-leaves
returns-in-Memory-clause-leaves g c = λ w apps conn port fits h.
    reply_cut (side_of g.V.Service.protocol (apps conn) port) c.args.idle 0 _ c.args.client.now (g.V.Service.protocol.due c.reply.new.talk) h (c.in-Memory.ensures.cut refl w apps conn fits port)

pub returns-in-NoRequest-clause-rises : goal.returns-in-NoRequest-clause-rises
returns-in-NoRequest-clause-rises g c = λ enough.
    let P : g.row.T.Denot → Type 0 = λ t. g.V.Service.rank t ≤ g.V.Service.rank c.listen_on.new.client.talk in
    subst P (c.in-NoRequest.ensures.no_request refl).0 (c.listen_on.ensures.rises enough)

pub returns-in-Asks-clause-rises : goal.returns-in-Asks-clause-rises
returns-in-Asks-clause-rises g c = λ enough.
    let P : g.row.T.Denot → Type 0 = λ t. g.V.Service.rank c.args.client.now.talk ≤ g.V.Service.rank t in
    subst P (sym (c.in-Asks.ensures.asks refl).0) (le_refl _)
