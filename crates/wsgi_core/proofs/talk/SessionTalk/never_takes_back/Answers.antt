use Rattle.wsgi_core.proofs.SessionLaws.{answers-before}
use Rattle.wsgi_core.proofs.talk.SessionTalk.never_takes_back.Goals as goal

pub returns : goal.returns
returns c = λ app port bytes more. answers-before app port bytes more
