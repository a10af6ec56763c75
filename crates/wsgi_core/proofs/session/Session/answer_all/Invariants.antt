use Rattle.std.proofs.Common.{◌≡◌, None, length}
use Rattle.wsgi_core.specs.Steps.{asked_of, progress_of}
use Rattle.wsgi_core.specs.Progress.{GoesOn, IsSettled}
use Rattle.wsgi_core.proofs.ProgressSteps.{work_if}
use Rattle.wsgi_core.proofs.session.Session.answer_all.Given as goal

abbrev pub invariant-requests : goal.invariant-requests
invariant-requests g l = record {
  goes_on : GoesOn (g.A.Application.answer_of l.app) (progress_of l.initial.self) (progress_of l.self);
  settled : asked_of l.self ≡ None → IsSettled (g.A.Application.answer_of l.app) (progress_of l.self);
  same_port : l.self.port ≡ l.initial.self.port;
  same_end : l.self.ended ≡ l.initial.self.ended;
}

abbrev pub decreases-requests : goal.decreases-requests
decreases-requests g l = work_if (asked_of l.self) (length l.self.kept)
