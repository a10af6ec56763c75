-- Where a request asks for one more job than have numbers, a server has come to one of two ends.
use Rattle.std.proofs.Common.{◌≡◌, ◌⊎◌, inl, inr, ℕ, ◌+◌, Bool, true, false, List, [], ◌++◌, Some, refl, sym, ap, ◌∙◌, subst}
use Rattle.std.specs.List.{All}
use Rattle.std.proofs.lemmas.Bool.{false≢true}
use Rattle.http_messages.specs.Environ.{Pair}
use Rattle.http_messages.specs.declared.request.HttpRequest.{HttpRequest}
use Rattle.world_rules.specs.Legal.{is_posted}
use Rattle.stream_net.specs.Net.{Connection, IsAtRest, NetMeaning, connection_at}
use Rattle.stream_net.proofs.Lists.{at_all}
use Rattle.stream_server.specs.declared.limits.Terms.{Terms}
use Rattle.stream_server.specs.Protocols.{side_of}
use Rattle.stream_server.specs.Running.{AsksInVain}
use Rattle.stream_server.specs.Serving.{IsAllServed}
use Rattle.stream_server.specs.Steps.{IsGoing}
use Rattle.stream_server.proofs.Endings.{told_is}
use Rattle.world.specs.Outside.{WorldMeaning as World}
use Rattle.wsgi_core.specs.Answer.{◌⨾◌, answer}
use Rattle.wsgi_core.specs.Applications.{App, from}
use Rattle.wsgi_core.specs.Progress.{Stands, sent_from}
use Rattle.wsgi_core.specs.Session.{answers}
use Rattle.wsgi_core.specs.Steps.{answered_of, asked_if_open, progress_of}
use Rattle.wsgi_core.proofs.ProgressLaws.{from_first, from_next}
use Rattle.wsgi_core.specs.declared.session.Session.{Session}
use Rattle.wsgi_core.specs.declared.session.SessionStage.{SessionStage}
use Rattle.wsgi_core.specs.declared.session.SessionStage.TheVariants.{AtHead, InBody, Asked}
use Rattle.stream_server.specs.Owning.{Owner}
use Rattle.wsgi_native.specs.Asking.{AsksForJob}
use Rattle.wsgi_native.specs.Ends.{IsOutOfJobs}
use Rattle.wsgi_native.specs.JobApp.{job_app, job_asked}
use Rattle.wsgi_native.specs.Laws.{job_agrees}
use Rattle.wsgi_native.specs.Owning.{AllAgree}
use Rattle.wsgi_native.specs.Talks.{job_protocol}
use Rattle.wsgi_native.specs.declared.jobs.TheConstants.{LAST_JOB}
use Rattle.wsgi_native.specs.declared.serving.JobsEnd.{JobsEnd}
use Rattle.wsgi_native.specs.declared.serving.JobsEnd.TheVariants.{Finished, Listener, NoJobs, Memory}
use Rattle.wsgi_native.proofs.Earning.{going_at}

-- ---- the request that waits

-- an open session at this request, with this body
record IsAskedAt (closing : Bool) (stage : SessionStage) (asked : List Pair × List ℕ) : Type 0 where
  open_still : closing ≡ false
  request : HttpRequest
  body : List ℕ
  stage_is : stage ≡ Asked request body
  asked_is : asked ≡ (request.environ, body)

is_asked_at : (closing : Bool) (stage : SessionStage) (asked : List Pair × List ℕ) → asked_if_open closing stage ≡ Some asked → IsAskedAt closing stage asked
is_asked_at true stage asked e = absurd (cc e)
is_asked_at false AtHead asked e = absurd (cc e)
is_asked_at false (InBody request awaited) asked e = absurd (cc e)
is_asked_at false (Asked request body) asked e = record { open_still = refl; request = request; body = body; stage_is = refl; asked_is = cc e }

-- where nothing is pending, its answer comes behind what was taken
answer_follows : (app : App) (port : ℕ) (bytes out more : List ℕ) (s : Session) (request : HttpRequest) (body : List ℕ) → s.port ≡ port → s.closing ≡ false → s.stage ≡ Asked request body → s.pending ≡ []
    → Stands app bytes out (progress_of s)
    → answers app port (bytes ++ more) ≡ record { bytes = out; closes = false } ⨾ answer request (app (answered_of s) request.environ body) ⨾ answers (from (answered_of s + 1) app) port (s.kept ++ more)
unfolding sent_from
answer_follows app port bytes out more s request body at opened stage none stands =
    let number = answered_of s in
    sym (λ i. answers app (at i) (bytes ++ more)) ∙ sym (stands more)
    ∙ (λ i. record { bytes = out; closes = false } ⨾ (record { bytes = none i; closes = opened i } ⨾ sent_from (from number app) (at i) (stage i) (s.kept ++ more)))
    ∙ (λ i. record { bytes = out; closes = false } ⨾ answer request (from_first number app i request.environ body) ⨾ answers (from_next number app i) port (s.kept ++ more))

-- ---- the ends

pub out_of_jobs : (owner : Owner) (terms : Terms) (m : NetMeaning) (w : World) → AsksInVain job_protocol (AllAgree owner w) AsksForJob (is_posted LAST_JOB w.posts ≡ true) terms m → IsOutOfJobs terms.port m w
out_of_jobs owner terms m w h = record {
  owner = owner;
  spent = h.spent;
  conn = h.client.conn;
  accepted = h.live.accepted;
  not_at_rest = λ rests. rests h.live.still_open (going.is_open.held ∙ h.free) going.awake;
  asks = λ bytes out reads writes. record {
    number = answered_of s;
    request = waits.request;
    body = waits.body;
    rest = s.kept;
    job = h.wants_it.0;
    asks = ap (λ (asked : List Pair × List ℕ). job_asked asked.0) (sym waits.asked_is) ∙ h.wants_it.1.wants;
    next = λ app more fits.
        let o = (going_at owner w terms m h.client h.going app fits).is_open in
        answer_follows app terms.port bytes out more s waits.request waits.body o.is_at.same_port waits.open_still waits.stage_is h.none_due
        (subst (λ (fed : List ℕ). Stands app fed out (progress_of s)) (sym (told_is c.read bytes o.fed reads o.reads))
        (subst (λ (taken : List ℕ). Stands app o.fed taken (progress_of s)) (sym (told_is c.written out o.taken writes o.writes)) o.is_at.stands));
  };
}
  where
    s : Session
    s = h.client.talk.session

    c : Connection
    c = connection_at m.connections h.client.conn

    going : IsGoing (side_of job_protocol job_app terms.port) terms.limits.idle c h.client
    going = going_at owner w terms m h.client h.going job_app (job_agrees owner w h.client.conn)

    waits : IsAskedAt s.closing s.stage h.wants_it.1.request
    waits = is_asked_at s.closing s.stage h.wants_it.1.request h.wants_it.1.asked

-- what is closed is at rest
closed_at_rest : (c : Connection) → c.closed ≡ true → IsAtRest c
closed_at_rest c closed still = absurd (false≢true (sym still ∙ closed))

pub ends_in_vain : (port conns : ℕ) (m : NetMeaning) (w : World) (r : JobsEnd) → (r ≡ Finished → IsAllServed m conns) → (r ≡ Listener → All IsAtRest m.connections) → IsOutOfJobs port m w
    → (r ≡ NoJobs) ⊎ (r ≡ Memory)
ends_in_vain port conns m w Finished all rest h =
    absurd (h.not_at_rest (closed_at_rest (connection_at m.connections h.conn) (at_all (λ (c : Connection). c.closed ≡ true) m.connections (all refl).closed h.conn h.accepted)))
ends_in_vain port conns m w Listener all rest h = absurd (h.not_at_rest (at_all IsAtRest m.connections (rest refl) h.conn h.accepted))
ends_in_vain port conns m w NoJobs all rest h = inl refl
ends_in_vain port conns m w Memory all rest h = inr refl
