use Rattle.wsgi_core.proofs.ProgressLaws.{answers-nothing}
use Rattle.wsgi_core.proofs.talk.SessionTalk.is_silent_at_first.Goals as goal

pub returns : goal.returns
returns c = λ app port. answers-nothing app port
