-- How a fault is read, word after word.
use Rattle.std.proofs.Common.{◌≡◌, Some, None, codes, ap, sym, ◌∙◌}
use Rattle.gv_values.specs.declared.fault.FaultKind.{FaultKind}
use Rattle.gv_values.specs.Texts.{Text}
use Rattle.trace_reader.specs.Fronts.{or_else, strip}
use Rattle.trace_reader.specs.ValueFronts.{is, call_fault_front, timeout_front, fault_front}
use Rattle.trace_reader.proofs.Readers.{or_else-is, or_else-none}

no_exit : (t : Text) → strip (codes "GreenletExit") t ≡ None →
    fault_front t ≡ or_else (strip (codes "Timeout(") t) timeout_front (or_else (strip (codes "LoopExit") t) (is FaultKind.LoopExit) (call_fault_front t))
unfolding fault_front
no_exit t exit = or_else-none _ _ _ exit

pub timeout_next : (t u rest : Text) → strip (codes "GreenletExit") t ≡ None → u ≡ t → strip (codes "Timeout(") u ≡ Some rest → fault_front t ≡ timeout_front rest
timeout_next t u rest exit same timeout = no_exit t exit ∙ or_else-is _ rest _ _ (ap (strip (codes "Timeout(")) (sym same) ∙ timeout)

no_timeout : (t u : Text) → strip (codes "GreenletExit") t ≡ None → u ≡ t → strip (codes "Timeout(") u ≡ None →
    fault_front t ≡ or_else (strip (codes "LoopExit") t) (is FaultKind.LoopExit) (call_fault_front t)
no_timeout t u exit same timeout = no_exit t exit ∙ or_else-none _ _ _ (ap (strip (codes "Timeout(")) (sym same) ∙ timeout)

pub loop_exit_next : (t u v rest : Text) → strip (codes "GreenletExit") t ≡ None → u ≡ t → strip (codes "Timeout(") u ≡ None → v ≡ u →
    strip (codes "LoopExit") v ≡ Some rest → fault_front t ≡ Some (FaultKind.LoopExit, rest)
loop_exit_next t u v rest exit same timeout again loop =
    no_timeout t u exit same timeout ∙ or_else-is _ rest _ _ (ap (strip (codes "LoopExit")) (sym (again ∙ same)) ∙ loop)

pub call_fault_next : (t u v w : Text) → strip (codes "GreenletExit") t ≡ None → u ≡ t → strip (codes "Timeout(") u ≡ None → v ≡ u →
    strip (codes "LoopExit") v ≡ None → w ≡ v → fault_front t ≡ call_fault_front w
call_fault_next t u v w exit same timeout again loop last =
    no_timeout t u exit same timeout ∙ or_else-none _ _ _ (ap (strip (codes "LoopExit")) (sym (again ∙ same)) ∙ loop)
    ∙ ap call_fault_front (sym (last ∙ again ∙ same))
