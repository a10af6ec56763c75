use Rattle.wsgi_core.specs.Steps.{progress_of}
use Rattle.wsgi_core.proofs.ProgressLaws.{stands_took, settled_took}
use Rattle.wsgi_core.proofs.Cuts.{stopped_took}
use Rattle.wsgi_core.proofs.session.Session.took.Goals as goal

pub returns-clause-stands_at : goal.returns-clause-stands_at
returns-clause-stands_at c = λ app port fed ended taken h. record {
  same_port = h.same_port;
  same_end = h.same_end;
  stands = stands_took app (progress_of c.args.self.now) c.args.n c.skip.new.self c.skip.ensures fed taken h.stands;
  settled = λ quiet. settled_took app (progress_of c.args.self.now) c.args.n c.skip.new.self c.skip.ensures (h.settled quiet);
}

pub returns-clause-is_at : goal.returns-clause-is_at
returns-clause-is_at c = λ app port fed ended taken h. record {
  stands_at = record {
    same_port = h.stands_at.same_port;
    same_end = h.stands_at.same_end;
    stands = stands_took app (progress_of c.args.self.now) c.args.n c.skip.new.self c.skip.ensures fed taken h.stands_at.stands;
    settled = λ quiet. settled_took app (progress_of c.args.self.now) c.args.n c.skip.new.self c.skip.ensures (h.stands_at.settled quiet);
  };
  quiet = h.quiet;
}

pub returns-clause-stopped : goal.returns-clause-stopped
returns-clause-stopped c = λ app port fed taken h. stopped_took app port fed taken c.args.self.now c.args.n c.skip.new.self c.skip.ensures h
