use Rattle.std.proofs.Common.{sym, ◌∙◌, subst}
use Rattle.std.specs.Prelude.{nat_eq}
use Rattle.std.specs.HashMap.{get}
use Rattle.std.proofs.lemmas.Bool.{false≢true}
use Rattle.world.specs.Outstanding.{IsFirstOf, has_rank}
use Rattle.world.proofs.Ranking.{no_ranks, none_ranked, least_ranked}
use Rattle.world.proofs.outstanding.OutstandingJobs.first.Goals as goal

pub returns-in_err-rank : goal.returns-in_err-rank
returns-in_err-rank c = let w = c.args.self.now in let found = get nat_eq w.by_number in
    subst (IsFirstOf found) (sym c.from_residual.ensures)
    (none_ranked found (has_rank w.ranks) w.ranked (no_ranks w.ranks (λ h. false≢true (c.in_err-rank.ensures.variant.1 h))))

pub returns : goal.returns
returns c = let w = c.args.self.now in let found = get nat_eq w.by_number in
    subst (IsFirstOf found) (sym (c.copied.ensures ∙ c.get.ensures.value))
    (least_ranked found (has_rank w.ranks) c.in_ok-rank.field-0.now w.named w.ranked c.in_ok-rank.ensures.member c.in_ok-rank.ensures.least)
