use Rattle.std.proofs.Common.{arith, [], Some, ap, refl, ◌∙◌}
use Rattle.gv_top.proofs.Tops.{is_answered}
use Rattle.gvr_page.proofs.Told.{readable, roomless, told, unasked}
use Rattle.gvr_page.proofs.GvrProgram.run.Goals as goal

pub returns-in-Some : goal.returns-in-Some
returns-in-Some c = record {
  answered = λ a other scripted of. told _ _ a _ _ _ _ c.from.ensures c.requires.empty.0 c.requires.empty.1
      (is_answered c.in-Some.ensures.answers.ended _ a (ap (λ l. Some l) c.new-input.ensures)
      (unasked _ _ _ _ a (ap (λ w. w.answers.items) (c.in-Some.ensures.untouched scripted) ∙ ap (λ u. u.answers) (c.new-native.ensures.state [])) of));
  read = readable _ _ _ _ _ c.from.ensures refl refl c.in-Some.ensures.borne_out;
  full = roomless _ _ c.args.out.now c.offline-status.new.out c.args.err.now c.offline-status.new.err _ c.from.ensures c.bytes.ensures.full c.bytes-2.ensures.full c.in-Some.ensures.borne_out;
  serves = λ e. absurd (omega arith);
}
