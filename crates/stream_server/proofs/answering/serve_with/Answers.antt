use Rattle.std.proofs.Common.{◌≡◌, ℕ, refl, sym}
use Rattle.stream_net.specs.Net.{NetMeaning}
use Rattle.wsgi_core.specs.Applications.{App}
use Rattle.wsgi_core.specs.Talk.{said_by}
use Rattle.stream_server.specs.declared.limits.Limits.{Limits}
use Rattle.stream_server.specs.Answering.{answering}
use Rattle.stream_server.specs.Protocols.{Apps, Protocol}
use Rattle.stream_server.specs.Keeping.{IsLeft}
use Rattle.stream_server.proofs.Endings.{all_wait, answered_of, but_wait, cause_of, own_of, whole_of}
use Rattle.stream_server.proofs.answering.serve_with.Goals as goal

pub end_of-requires : goal.end_of-requires
end_of-requires g c = λ spent. (c.serve_on-end.ensures.in_vain spent).spent

-- what is left where every connection has this application, which stayed what it was
left_as : {T : Type 0} (P : Protocol T) (old new : App) (port : ℕ) (limits : Limits) (m : NetMeaning) → ((apps : Apps) → ((conn : ℕ) → apps conn ≡ new) → (conn : ℕ) → apps conn ≡ old)
    → ((apps : Apps) → ((conn : ℕ) → apps conn ≡ new) → IsLeft P apps port limits m) → IsLeft P (λ _. old) port limits m
left_as P old new port limits m knows left = left (λ _. old) (λ conn. sym (knows (λ _. new) (λ _. refl) conn))

pub returns-clause-own : goal.returns-clause-own
returns-clause-own g c = own_of (said_by g.T.Talk.answers (g.A.Application.answer_of c.args.app.now) c.args.port) c.args.limits.idle (g.N.Net.meaning c.serve_on-end.new.net).connections
    (left_as (answering g.T.Talk.answers g.T.Talk.is_at g.T.Talk.due) (g.A.Application.answer_of c.args.app.now) (g.A.Application.answer_of c.serve_on-end.new.service.app.now) c.args.port c.args.limits (g.N.Net.meaning c.serve_on-end.new.net) c.serve_on-end.ensures.knows c.serve_on-end.ensures.left).served

pub returns-clause-whole : goal.returns-clause-whole
returns-clause-whole g c = whole_of (said_by g.T.Talk.answers (g.A.Application.answer_of c.args.app.now) c.args.port) c.args.limits.idle (g.N.Net.meaning c.serve_on-end.new.net).connections
    (left_as (answering g.T.Talk.answers g.T.Talk.is_at g.T.Talk.due) (g.A.Application.answer_of c.args.app.now) (g.A.Application.answer_of c.serve_on-end.new.service.app.now) c.args.port c.args.limits (g.N.Net.meaning c.serve_on-end.new.net) c.serve_on-end.ensures.knows c.serve_on-end.ensures.left).served

pub returns-clause-answered : goal.returns-clause-answered
returns-clause-answered g c = answered_of (said_by g.T.Talk.answers (g.A.Application.answer_of c.args.app.now) c.args.port) c.args.limits.idle (g.N.Net.meaning c.serve_on-end.new.net).connections
    (left_as (answering g.T.Talk.answers g.T.Talk.is_at g.T.Talk.due) (g.A.Application.answer_of c.args.app.now) (g.A.Application.answer_of c.serve_on-end.new.service.app.now) c.args.port c.args.limits (g.N.Net.meaning c.serve_on-end.new.net) c.serve_on-end.ensures.knows c.serve_on-end.ensures.left).served

pub returns-clause-cause : goal.returns-clause-cause
returns-clause-cause g c = cause_of (said_by g.T.Talk.answers (g.A.Application.answer_of c.args.app.now) c.args.port) c.args.limits.idle (g.N.Net.meaning c.serve_on-end.new.net).connections
    (left_as (answering g.T.Talk.answers g.T.Talk.is_at g.T.Talk.due) (g.A.Application.answer_of c.args.app.now) (g.A.Application.answer_of c.serve_on-end.new.service.app.now) c.args.port c.args.limits (g.N.Net.meaning c.serve_on-end.new.net) c.serve_on-end.ensures.knows c.serve_on-end.ensures.left).served

pub returns-clause-most : goal.returns-clause-most
returns-clause-most g c =
    (left_as (answering g.T.Talk.answers g.T.Talk.is_at g.T.Talk.due) (g.A.Application.answer_of c.args.app.now) (g.A.Application.answer_of c.serve_on-end.new.service.app.now) c.args.port c.args.limits (g.N.Net.meaning c.serve_on-end.new.net) c.serve_on-end.ensures.knows c.serve_on-end.ensures.left).most

pub returns-clause-within : goal.returns-clause-within
returns-clause-within g c =
    (left_as (answering g.T.Talk.answers g.T.Talk.is_at g.T.Talk.due) (g.A.Application.answer_of c.args.app.now) (g.A.Application.answer_of c.serve_on-end.new.service.app.now) c.args.port c.args.limits (g.N.Net.meaning c.serve_on-end.new.net) c.serve_on-end.ensures.knows c.serve_on-end.ensures.left).within

pub returns-clause-rest_but : goal.returns-clause-rest_but
returns-clause-rest_but g c = but_wait (answering g.T.Talk.answers g.T.Talk.is_at g.T.Talk.due).holds (λ talk. refl) (g.N.Net.meaning c.serve_on-end.new.net).connections
    (left_as (answering g.T.Talk.answers g.T.Talk.is_at g.T.Talk.due) (g.A.Application.answer_of c.args.app.now) (g.A.Application.answer_of c.serve_on-end.new.service.app.now) c.args.port c.args.limits (g.N.Net.meaning c.serve_on-end.new.net) c.serve_on-end.ensures.knows c.serve_on-end.ensures.left).rest

pub returns-clause-resting : goal.returns-clause-resting
returns-clause-resting g c = λ e.
    all_wait (answering g.T.Talk.answers g.T.Talk.is_at g.T.Talk.due).holds (λ talk. refl) (g.N.Net.meaning c.serve_on-end.new.net).connections (c.serve_on-end.ensures.resting (c.end_of.ensures.listener e))
