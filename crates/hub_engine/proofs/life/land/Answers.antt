use Rattle.std.proofs.Common.{◌-◌, ◌≤◌, ◌∙◌, ap, sym, subst, ℕ, rules, arith}
use Rattle.machine.specs.Landing.{land}
use Rattle.hub_engine.specs.Settlings.{MaySettle, most_hops}
use Rattle.hub_engine.specs.Stands.{hopped}
use Rattle.hub_engine.specs.declared.stand.Hop.{Hop}
use Rattle.hub_engine.proofs.Functions.{declared_landed}
use Rattle.hub_engine.proofs.Landing.{land_step}
use Rattle.hub_engine.proofs.Settlings.{settles_fewer, settles_landed}
use Rattle.hub_engine.proofs.life.land.Goals as goal

-- the number of greenlets is one of 32 bits
pub loop-left-init : goal.loop-left-init
loop-left-init c =
    let fits : c.greenlets_len-left.result ≤ most_hops = search rules in
    record {
      same = ap (λ (n : ℕ). land n c.args.g c.args.input c.args.hub.now) (sym c.greenlets_len-left.ensures);
      declared = c.requires.declared;
      settles = settles_fewer most_hops c.greenlets_len-left.result c.args.hub.now fits c.requires.settles;
    }

pub land_once-requires-clause-settles : goal.land_once-requires-clause-settles
land_once-requires-clause-settles c = settles_fewer c.loop-left.left 1 c.loop-left.hub (omega (arith, c.loop-left-test.true)) c.loop-left.invariant.settles

pub loop-left-preserved : goal.loop-left-preserved
loop-left-preserved c =
    let l = c.loop-left in
    let hop = c.in_ok-stand.field-0 in
    record {
      same = l.invariant.same ∙ land_step l.left l.at l.input l.hub c.loop-left-test.true ∙ c.in_ok-stand.ensures (land (l.left - 1))
          ∙ ap (λ (h : Hop). hopped (land (l.left - 1)) h c.land_once.new.hub) c.in-Up.is;
      declared = declared_landed l.at l.input l.hub c.land_once.new.hub hop l.invariant.declared c.in_ok-stand.ensures;
      settles = settles_landed (l.left - 1) l.at l.input l.hub c.land_once.new.hub hop (subst (λ (n : ℕ). MaySettle n l.hub) (omega (arith, c.loop-left-test.true)) l.invariant.settles) c.in_ok-stand.ensures;
    }
