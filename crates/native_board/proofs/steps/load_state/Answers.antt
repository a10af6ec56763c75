use Rattle.std.proofs.Common.{rules, ap, sym, ◌+◌, ◌∙◌, []}
use Rattle.native_board.specs.declared.views.WorkerStage.TheVariants.{Idle}
use Rattle.native_board.specs.declared.views.View.TheVariants.{Worker}
use Rattle.native_board.specs.Plays.{asked, begun_with}
use Rattle.native_board.specs.Passes.{worker_of}
use Rattle.native_board.proofs.StepsKeep.{loads_state, told_look}
use Rattle.native_board.proofs.steps.load_state.Goals as goal

pub load-requires : goal.load-requires
load-requires c = let v = c.requires.idle in (c.requires.board, search rules, loads_state _ _ _ _ _ (ap (λ m. m.0) v.0) v.1)

pub returns : goal.returns
returns c = let v = c.requires.idle in let e = c.load.ensures in let w = worker_of c.args.worker.now in
    record { table = e.0; seat = e.1; knows = told_look _ _ _ _ v.0 v.2 e.2 ∙ (λ k. (Worker (record w { stage = asked (sym c.state_in.ensures k) Idle; looks = w.looks + 1; takes = w.takes + begun_with (sym c.state_in.ensures k) Idle; last = sym c.state_in.ensures k }), [])) }
