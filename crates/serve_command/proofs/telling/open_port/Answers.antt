use Rattle.std.proofs.Common.{inl, refl}
use Rattle.gv_io.proofs.StreamLaws.{AppendsPrefix-nothing}
use Rattle.serve_command.specs.Serving.{listening}
use Rattle.serve_command.proofs.telling.open_port.Goals as goal

pub returns-in_default-clause-unopened : goal.returns-in_default-clause-unopened
returns-in_default-clause-unopened g c = record {
  port = 0;
  begins = AppendsPrefix-nothing (g.K.Sink.written c.args.out.now) (listening 0);
  listens = inl refl;
  unfinished = λ e. absurd (cc e);
  not_jobs = λ e. absurd (cc e);
}
