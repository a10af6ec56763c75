use Rattle.std.proofs.Common.{refl}
use Rattle.wsgi_core.specs.Steps.{answered_of, begun_bytes, stopped_bytes}
use Rattle.wsgi_native.specs.Talks.{request_of}
use Rattle.wsgi_native.proofs.Talking.{asked_job, asked_nothing, asked_reply, asked_waits}
use Rattle.wsgi_native.proofs.jobs.JobsServiceJobTalk.reply.Goals as goal

pub returns-in_default-clause-cut : goal.returns-in_default-clause-cut
returns-in_default-clause-cut g c = λ e w apps conn fits port fed ended taken at. begun_bytes (apps conn) port fed ended taken c.args.talk.now.session at

pub returns-in-Nothing-clause-no_request : goal.returns-in-Nothing-clause-no_request
returns-in-Nothing-clause-no_request g c = λ e. (refl, asked_nothing (request_of c.args.talk.now) c.in-Ok.asked c.in-Nothing.is c.in-Ok.ensures)

pub returns-in-AJob-clause-asks : goal.returns-in-AJob-clause-asks
returns-in-AJob-clause-asks g c = λ e. (refl, asked_job c.args.talk.now c.in-Ok.asked _ c.in-AJob.is c.in-Ok.ensures)

pub answer-requires : goal.answer-requires
answer-requires g c = asked_waits (request_of c.args.talk.now) c.in-Ok.asked c.in-AReply.reply c.in-AReply.is c.in-Ok.ensures

pub returns-in-Ok-answer-clause-given : goal.returns-in-Ok-answer-clause-given
returns-in-Ok-answer-clause-given g c = λ e w apps conn fits port fed ended taken at.
    c.in-Ok-answer.ensures.stands_at (apps conn) port fed ended taken (asked_reply (request_of c.args.talk.now) c.in-Ok.asked c.in-AReply.reply c.in-AReply.is c.in-Ok.ensures (apps conn) (answered_of c.args.talk.now.session) (fits conn).plain) at

pub returns-in-Err-clause-cut : goal.returns-in-Err-clause-cut
returns-in-Err-clause-cut g c = λ e w apps conn fits port fed ended taken at.
    stopped_bytes (apps conn) port fed taken c.answer.new.self
    (c.in-Err.ensures.stopped (apps conn) port fed ended taken (asked_reply (request_of c.args.talk.now) c.in-Ok.asked c.in-AReply.reply c.in-AReply.is c.in-Ok.ensures (apps conn) (answered_of c.args.talk.now.session) (fits conn).plain) at)
