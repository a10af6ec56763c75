use Rattle.std.proofs.Common.{◌≡◌, refl, ◌∙◌}
use Rattle.std.proofs.Math.Nat.{le_refl, le_trans}
use Rattle.stream_server.specs.Protocols.{side_of}
use Rattle.stream_server.specs.Steps.{IsGoing, Leaves}
use Rattle.stream_server.specs.declared.exchange.Step.{Step}
use Rattle.stream_server.proofs.Stepping.{only_none, only_more, live_more, live_same, leaves_more}
use Rattle.stream_server.proofs.exchange.proceed.Goals as goal

goes_is_not_memory : Step.Goes ≡ Step.Memory → ⊥
goes_is_not_memory e = cc

pub loop-init : goal.loop-init
loop-init g c = record {
  can = tt;
  finite = tt;
  live = c.requires.live;
  only = only_none _ c.args.client.now.conn;
  same = λ i. c.args.client.now.conn;
  holds = refl;
  rises = le_refl _;
  leaves = λ w apps conn port fits h. h;
}

pub advance-requires : goal.advance-requires
advance-requires g c = record { live = live_same _ c.args.client.now.conn c.loop.client.conn c.loop.invariant.same c.loop.invariant.live }

pub loop-preserved : goal.loop-preserved
loop-preserved g c =
    let was = c.loop.invariant in
    record {
      can = tt;
      finite = tt;
      live = live_more _ _ c.args.client.now.conn c.loop.client.conn was.same c.in-Goes.ensures.only was.live;
      only = only_more _ _ _ c.args.client.now.conn c.loop.client.conn was.same was.only c.in-Goes.ensures.only;
      same = c.in-Goes.ensures.same ∙ was.same;
      holds = c.in-Goes.ensures.holds ∙ was.holds;
      rises = le_trans was.rises (c.in-Goes.ensures.rises goes_is_not_memory);
      leaves = λ w apps conn port fits h.
          let S = side_of g.V.Service.protocol (apps conn) port in
          leaves_more (g.N.Net.meaning c.loop.net) (g.N.Net.meaning c.advance.new.net) c.args.client.now.conn c.loop.client.conn was.same
          (λ d. IsGoing S c.args.idle d c.loop.client) (λ d. IsGoing S c.args.idle d c.advance.new.client) (c.in-Goes.ensures.leaves w apps conn port fits) (was.leaves w apps conn port fits h);
    }

pub returns-in_default : goal.returns-in_default
returns-in_default g c =
    let was = c.loop.invariant in
    record {
      only = only_more _ _ _ c.args.client.now.conn c.loop.client.conn was.same was.only c.advance.ensures.only;
      same = c.advance.ensures.same ∙ was.same;
      holds = c.advance.ensures.holds ∙ was.holds;
      rises = λ enough. le_trans was.rises (c.advance.ensures.rises enough);
      rests = c.in_default.not-Goes;
      leaves = λ w apps conn port fits h.
          let S = side_of g.V.Service.protocol (apps conn) port in
          leaves_more (g.N.Net.meaning c.loop.net) (g.N.Net.meaning c.advance.new.net) c.args.client.now.conn c.loop.client.conn was.same
          (λ d. IsGoing S c.args.idle d c.loop.client) (λ d. Leaves c.advance.result S c.args.idle d c.advance.new.client) (c.advance.ensures.leaves w apps conn port fits) (was.leaves w apps conn port fits h);
      wants = c.advance.ensures.wants;
      none = c.advance.ensures.none;
    }
