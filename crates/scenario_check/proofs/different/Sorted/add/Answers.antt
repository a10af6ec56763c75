use Rattle.std.proofs.Common.{◌≡◌, ap, sym, ◌∙◌, [], ◌∷◌, ◌++◌, map, true, false, nat_eq, append-nil}
use Rattle.std.specs.Cmp.Lexicographic.{pointwise}
use Rattle.std.specs.Map.{lookup}
use Rattle.std.specs.Option.{is_none}
use Rattle.scenario_check.specs.Sorting.{pair}
use Rattle.name_table.specs.Tables.{found}
use Rattle.scenario_check.proofs.Sorting.{pair_more, new_by, repeated_by}
use Rattle.scenario_check.proofs.different.Sorted.add.Goals as goal

pub returns-then-is_new : goal.returns-then-is_new
returns-then-is_new c = λ before h.
    let was_new : is_none (found c.args.self.now.names c.args.named.name) ≡ true =
    ap (λ x. is_none (found c.args.self.now.names x)) (sym c.bytes.ensures.same) ∙ sym c.in_ok-is_new.ensures.was_new ∙ c.if-is_new.true in
    record {
      names = λ x.
          c.in_ok-is_new.ensures.holds (map pair before) h.names x
          ∙ ap (λ z. lookup (pointwise nat_eq x) (map pair before ++ (z, c.args.named.line) ∷ [])) c.bytes.ensures.same
          ∙ ap (λ ps. lookup (pointwise nat_eq x) ps) (pair_more before c.args.named);
      different = c.in_ok-push.ensures.ok ∙ ap (λ z. z ++ c.args.named ∷ []) h.different ∙ sym (new_by (found c.args.self.now.names) before c.args.named true h.names was_new);
      repeated = h.repeated ∙ sym (repeated_by (found c.args.self.now.names) before c.args.named true h.names was_new ∙ append-nil _);
    }

pub returns : goal.returns
returns c = λ before h.
    let was_new : is_none (found c.args.self.now.names c.args.named.name) ≡ false =
    ap (λ x. is_none (found c.args.self.now.names x)) (sym c.bytes.ensures.same) ∙ sym c.in_ok-is_new.ensures.was_new ∙ c.if-is_new.false in
    record {
      names = λ x.
          c.in_ok-is_new.ensures.holds (map pair before) h.names x
          ∙ ap (λ z. lookup (pointwise nat_eq x) (map pair before ++ (z, c.args.named.line) ∷ [])) c.bytes.ensures.same
          ∙ ap (λ ps. lookup (pointwise nat_eq x) ps) (pair_more before c.args.named);
      different = h.different ∙ sym (new_by (found c.args.self.now.names) before c.args.named false h.names was_new ∙ append-nil _);
      repeated = c.in_ok-push-2.ensures.ok ∙ ap (λ z. z ++ c.args.named ∷ []) h.repeated ∙ sym (repeated_by (found c.args.self.now.names) before c.args.named false h.names was_new);
    }
