use Rattle.std.proofs.Common.{◌∙◌, ap, sym}
use Rattle.machine.specs.State.{State}
use Rattle.machine.specs.Landing.{after_end}
use Rattle.body_frames.specs.Standings.{reached_of}
use Rattle.body_frames.specs.declared.places.Reached.{Reached}
use Rattle.hub_engine.specs.Stands.{goes_to}
use Rattle.hub_engine.proofs.Settlings.{settles_dropped}
use Rattle.hub_engine.proofs.life.place_greenlet.Goals as goal

pub go_on_after_end-requires : goal.go_on_after_end-requires
go_on_after_end-requires c = settles_dropped 1 _ c.args.hub.now c.drop_left-in-End.new.hub c.drop_left-in-End.ensures c.requires

pub returns-in_ok-go_on_after_end-in-End : goal.returns-in_ok-go_on_after_end-in-End
returns-in_ok-go_on_after_end-in-End c = λ up.
    ap (λ (r : Reached). goes_to up c.args.g (reached_of r) c.args.hub.now) c.in-End.is
    ∙ ap (λ (s : State). after_end up c.args.g c.in-End.outcome s) (sym c.drop_left-in-End.ensures)
    ∙ c.in_ok-go_on_after_end-in-End.ensures up
