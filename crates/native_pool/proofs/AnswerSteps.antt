-- What the answers of a pool come to.
use Rattle.std.proofs.Common.{◌≡◌, inl, inr, ℕ, ◌≤◌, Bool, List, Some, refl, sym, ap, ◌∙◌, subst, arith}
use Rattle.std.specs.List.{list_any}
use Rattle.gv_values.specs.declared.job.Answer.{Answer}
use Rattle.world_rules.specs.declared.question.PostedJob.{PostedJob}
use Rattle.world_rules.specs.declared.question.Question.{Question}
use Rattle.native_board.specs.declared.found.Finished.{Finished}
use Rattle.native_pool.specs.Desks.{DeskView, Balances, Rests, Settles, Hands, HandsDue, Gives, IsDue}
use Rattle.native_pool.proofs.JobLemmas.{result_of, keeps_silent}
use Rattle.native_pool.proofs.DeskSteps.{rests_trans, later_trans}

pub due_done : (d e : DeskView) (f : Finished) (q : Question) (at : ℕ) → HandsDue d e f → IsDue d e q (Answer.Done f.number f.outcome at)
due_done d e f q at due = λ posts answers s. let h = due posts answers s in ((result_of posts f h.0, h.1), h.2 at)

pub due_nothing : (d e : DeskView) (at : ℕ) → Settles d e → IsDue d e Question.Poll (Answer.Nothing at)
due_nothing d e at settled = λ posts answers s. (tt, keeps_silent e.waiting e.hub.cells e.held posts answers (Answer.Nothing at) refl (settled.rests.jobs posts answers s))

pub due_elapsed : (d e : DeskView) (until at : ℕ) → until ≤ at → Settles d e → IsDue d e (Question.Wait (Some until)) (Answer.Elapsed at)
due_elapsed d e until at come settled = λ posts answers s. (come, keeps_silent e.waiting e.hub.cells e.held posts answers (Answer.Elapsed at) refl (settled.rests.jobs posts answers s))

pub balances_as : (d : DeskView) (p q : List PostedJob) (a b : List Answer) → q ≡ p → b ≡ a → Balances d p a → Balances d q b
balances_as d p q a b e f s = subst (λ (r : List PostedJob). Balances d r b) (sym e) (subst (λ (r : List Answer). Balances d p r) (sym f) s)

hands_after : (d m e : DeskView) (f : Finished) → Rests d m → Hands m e f → Hands d e f
hands_after d m e f r (inl h) = inl (h.0 ∙ r.held, later_trans d.waiting m.waiting e.waiting r.order h.1)
hands_after d m e f r (inr (inl h)) =
    inr (inl (record {
      none_held = sym r.held ∙ h.none_held;
      at = h.at;
      rests = rests_trans d m h.at r h.rests;
      after = h.after;
      swept = h.swept;
      seen = h.seen;
      sweeps = h.sweeps;
      found = h.found;
      order = later_trans d.waiting m.waiting e.waiting r.order h.order;
    }))
hands_after d m e f r (inr (inr h)) =
    let idle = ap (list_any (λ (b : Bool). b)) (sym r.same.started) ∙ h.0 in inr (inr (idle, h.1, h.2, sym (r.idle idle) ∙ h.3, h.4))

settles_after : (d m e : DeskView) → Rests d m → Settles m e → Settles d e
settles_after d m e r s =
    let a = r.sweeps in let b = s.swept in record { rests = rests_trans d m e r s.rests; swept = omega (arith, a, b); quiet = s.quiet }

-- an answer that was given after nothing was handed on
pub gives_after : (d m e : DeskView) (answer : Answer) → Rests d m → Gives m e answer → Gives d e answer
gives_after d m e (Answer.Done number outcome at) r h = hands_after d m e (record { number = number; outcome = outcome }) r h
gives_after d m e (Answer.Elapsed at) r h = settles_after d m e r h
gives_after d m e (Answer.Nothing at) r h = settles_after d m e r h
