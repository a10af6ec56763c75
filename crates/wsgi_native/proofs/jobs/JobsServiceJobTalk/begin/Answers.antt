use Rattle.wsgi_native.proofs.jobs.JobsServiceJobTalk.begin.Goals as goal

pub returns-clause-begun : goal.returns-clause-begun
returns-clause-begun g c = λ app. (c.new.ensures app).stands_at
