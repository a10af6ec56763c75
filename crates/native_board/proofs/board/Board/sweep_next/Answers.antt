use Rattle.std.proofs.Common.{rules, refl, sym, ap, subst, ◌≡◌, ◌∙◌, ◌<◌, ◌++◌, ◌∷◌, [], Some, length, get_or, set, length-set}
use Rattle.std.proofs.lemmas.List.{get_or_read}
use Rattle.std.proofs.lemmas.Int.{to_z-of_z}
use mir.Val.{SFits}
use mir.Syntax.{w64}
use Rattle.native_board.specs.declared.views.CellState.TheVariants.{Done}
use Rattle.native_board.specs.declared.views.HubCell.TheVariants.{Vacant, Sent}
use Rattle.native_board.specs.Words.{job_outcome_of}
use Rattle.world_rules.specs.Evaluate.{eval}
use Rattle.native_board.specs.Rules.{hub_cell}
use Rattle.native_board.specs.Plays.{saw}
use Rattle.native_board.specs.Passes.{hub_in, hub_of, BecomesHub, swept_cell, finished_at, is_sent}
use Rattle.world_rules.proofs.JobEnds.{eval_ends}
use Rattle.native_board.proofs.StepsKeep.{outcome_again}
use Rattle.native_board.proofs.PassesKeep.{settled_set}
use Rattle.native_board.proofs.Sweeping.{took, hub_again}
use Rattle.native_board.proofs.board.Board.sweep_next.Goals as goal

pub invariant_of-hub-2 : goal.invariant_of-hub-2
invariant_of-hub-2 c = let s = c.args.hub.now.seat in let known = c.args.hub.now.known in let cells = c.args.hub.now.cells.items in
    let begun : BecomesHub s c.load_next.new.hub (saw (hub_of s) (Done c.in-Done.ended)) = subst (λ st. BecomesHub s c.load_next.new.hub (saw (hub_of s) st)) c.in-Done.is c.load_next.ensures.seat in
    let me = took s _ _ _ c.args.at c.in-Sent.number c.in-Sent.job c.in-Done.ended c.requires.next.0 begun c.load_value-value.ensures.seat c.store_free.ensures in
    let inside : c.args.at < length cells = search rules in record {
      known = hub_again s _ _ cells _ known (c.store_free.ensures.table ∙ (c.load_value-value.ensures.seat.table ∙ c.load_next.ensures.seat.table)) me refl
          (ap (λ l. set l c.args.at Vacant) known.same_cells) (length-set cells c.args.at Vacant) (λ i. settled_set cells c.args.at i Vacant inside refl (known.settled i));
    }

pub returns-clause-swept : goal.returns-clause-swept
returns-clause-swept c = let s = c.args.hub.now.seat in let h = hub_of s in let e = c.in-Done.ended in let number = c.in-Sent.number in let job = c.in-Sent.job in
    let begun : BecomesHub s c.load_next.new.hub (saw h (Done e)) = subst (λ st. BecomesHub s c.load_next.new.hub (saw h st)) c.in-Done.is c.load_next.ensures.seat in
    let me = took s _ _ _ c.args.at number job e c.requires.next.0 begun c.load_value-value.ensures.seat c.store_free.ensures in
    let known = c.args.hub.now.known in let cells = c.args.hub.now.cells.items in let inside : c.args.at < length cells = search rules in
    let here : hub_cell h c.args.at ≡ Sent number job = ap (λ l. get_or l c.args.at Vacant) known.same_cells ∙ (sym (get_or_read cells _ _ inside c.index.ensures Vacant) ∙ c.in-Sent.is) in let there : hub_cell h (length h.seen) ≡ Sent number job = ap (hub_cell h) (sym c.requires.next.0) ∙ here in
    let fits : SFits w64 c.load_value-value.result = search rules in
    let outcome : c.job_outcome_of.result ≡ eval job = c.job_outcome_of.ensures ∙ (ap (job_outcome_of e) (to_z-of_z w64 _ fits)
    ∙ outcome_again e _ (eval job) (eval_ends job) (c.load_next.ensures.ended _ _ _ here c.in-Done.is) c.load_value-value.ensures.value) in record {
      state = Done e;
      hub = ap (λ v. hub_in v.0) me ∙ (λ k. record h { cells = set h.cells (c.requires.next.0 k) (swept_cell (Done e) (sym there k)); seen = h.seen ++ Done e ∷ [] });
      job = λ d is. ap is_sent there;
      result = (λ k. Some (record { number = number; outcome = outcome k })) ∙ ap (finished_at (Done e)) (sym there);
    }
