use Rattle.wsgi_core.proofs.ProgressSteps.{one_err, one_ok}
use Rattle.wsgi_core.proofs.talk.SessionTalk.feed.Goals as goal

pub returns-clause-fed : goal.returns-clause-fed
returns-clause-fed g c = one_ok c.feed.result _ _ c.feed.ensures.is_at (λ was port fed taken h. was port fed taken h.stands_at)

pub returns-clause-cut : goal.returns-clause-cut
returns-clause-cut g c = one_err c.feed.result _ _ c.feed.ensures.stopped (λ was port fed taken h. was port fed taken h.stands_at)
