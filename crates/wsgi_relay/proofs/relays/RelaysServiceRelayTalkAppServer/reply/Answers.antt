use Rattle.std.proofs.Common.{refl}
use Rattle.wsgi_core.specs.Steps.{answered_of, begun_bytes, stopped_bytes}
use Rattle.wsgi_relay.specs.Accounts.{given_in}
use Rattle.wsgi_relay.specs.Talks.{request_of}
use Rattle.wsgi_relay.proofs.Talking.{asked_handed, asked_nothing, asked_refused, asked_waits}
use Rattle.wsgi_relay.proofs.relays.RelaysServiceRelayTalkAppServer.reply.Goals as goal

pub returns-in_default-clause-cut : goal.returns-in_default-clause-cut
returns-in_default-clause-cut g c = λ e w apps conn fits port fed ended taken at. begun_bytes (apps conn) port fed ended taken c.args.talk.now.session at

pub returns-in-Nothing-clause-no_request : goal.returns-in-Nothing-clause-no_request
returns-in-Nothing-clause-no_request g c = λ e. (refl, asked_nothing (request_of c.args.talk.now) c.asked_for.result c.in-Nothing.is c.asked_for.ensures)

pub returns-in-Handed-clause-asks : goal.returns-in-Handed-clause-asks
returns-in-Handed-clause-asks g c = λ e. (refl, asked_handed c.args.talk.now c.asked_for.result c.in-Handed.is c.asked_for.ensures)

pub answer-requires : goal.answer-requires
answer-requires g c = asked_waits (request_of c.args.talk.now) c.asked_for.result c.in-Refused.is c.asked_for.ensures

pub returns-in-Ok-answer-clause-given : goal.returns-in-Ok-answer-clause-given
returns-in-Ok-answer-clause-given g c = λ e w apps conn fits port fed ended taken at.
    c.in-Ok-answer.ensures.stands_at (apps conn) port fed ended taken
    (asked_refused (request_of c.args.talk.now) c.asked_for.result c.in-Ok.reply c.in-Refused.is c.asked_for.ensures c.in-Ok.ensures (given_in c.args.self.now.replies.list) conn (answered_of c.args.talk.now.session) (apps conn) (fits conn)) at

pub returns-in-Err-clause-cut : goal.returns-in-Err-clause-cut
returns-in-Err-clause-cut g c = λ e w apps conn fits port fed ended taken at.
    stopped_bytes (apps conn) port fed taken c.answer.new.self
    (c.in-Err.ensures.stopped (apps conn) port fed ended taken
    (asked_refused (request_of c.args.talk.now) c.asked_for.result c.in-Ok.reply c.in-Refused.is c.asked_for.ensures c.in-Ok.ensures (given_in c.args.self.now.replies.list) conn (answered_of c.args.talk.now.session) (apps conn) (fits conn)) at)
