-- What a list world gives.
use Rattle.std.proofs.Common.{◌≡◌, ℕ, List, [], ◌∷◌, refl, sym, subst, inl, inr}
use Rattle.gv_values.specs.declared.job.Answer.{Answer}
use Rattle.world_rules.specs.declared.question.Question.{Question}
use Rattle.world_rules.specs.Legal.{IsLegal}
use Rattle.world_rules.specs.Script.{scripted}
use Rattle.world_rules.specs.Rules.{RuleState, Gives}

-- the first answer, where that is legal
pub gives_first : (tick : ℕ) (s : RuleState) (listed rest : List Answer) (question : Question) (first : Answer) → listed ≡ first ∷ rest → IsLegal s.posts s.answers question first → Gives tick s listed question first rest
gives_first tick s listed rest question first is legal = subst (λ l. Gives tick s l question first rest) (sym is) (inl (legal, refl, refl))

-- what the script gives, where it isn't
pub gives_script : (tick : ℕ) (s : RuleState) (listed : List Answer) (question : Question) (answer : Answer) → ((first : Answer) (rest : List Answer) → listed ≡ first ∷ rest → ¬ IsLegal s.posts s.answers question first)
    → answer ≡ scripted tick s.jobs s.moment question → Gives tick s listed question answer listed
gives_script tick s [] question answer illegal is = (is, refl)
gives_script tick s (first ∷ rest) question answer illegal is = inr (illegal first rest refl, is, refl)
