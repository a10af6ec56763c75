use Rattle.std.proofs.Common.{ℕ, ap, arith, inl, refl, ◌∙◌}
use Rattle.gv_io.specs.Streams.{appended}
use Rattle.gv_io.proofs.StreamLaws.{AppendsPrefix-all, AppendsPrefix-nothing, Extends-nothing}
use Rattle.serve_command.specs.Serving.{served}
use Rattle.serve_command.proofs.telling.tell_end.Goals as goal

pub returns-in-Ok-clause-begins : goal.returns-in-Ok-clause-begins
returns-in-Ok-clause-begins g c =
    AppendsPrefix-all (g.K.Sink.written c.args.out.now) (g.K.Sink.written c.write_line.new.out) (served c.args.conns)
    (c.in-Ok.ensures.whole ∙ ap (λ (n : ℕ). appended (g.K.Sink.written c.args.out.now) (served n)) c.from.ensures)

pub returns-in_default : goal.returns-in_default
returns-in_default g c = record {
  told = λ e. absurd (c.in_default.not-Finished e);
  begins = AppendsPrefix-nothing (g.K.Sink.written c.args.out.now) (served c.args.conns);
  silent = λ _ _. refl;
  stays = inl refl;
  handed = λ e _ _. e;
  never_taken_back = Extends-nothing _;
  write_fault = λ e other. absurd (other e);
  unfailed = λ _. refl;
  never_falls = omega arith;
}
