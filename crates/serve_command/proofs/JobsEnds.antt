-- The ends of the command whose requests for jobs native workers answer.
use Rattle.std.proofs.Common.{◌≡◌, ◌≢◌, ◌⊎◌, ℕ, ◌≤◌, true, false, List, [], length, Option, ap, arith}
use Rattle.std.specs.List.{All}
use Rattle.gv_io.specs.Streams.{appended, AppendsPrefix}
use Rattle.wsgi_core.specs.Talk.{said_by}
use Rattle.wsgi_core.specs.Session.{answers, session}
use Rattle.stream_net.specs.Net.{Connection, IsAtRest, NetMeaning, listens_at}
use Rattle.stream_net.specs.declared.net.Quiet.TheVariants.{Awake}
use Rattle.stream_server.specs.declared.limits.Limits.{Limits}
use Rattle.stream_server.specs.Serving.{AllBut, BeginsSo, Cause, EachTold, IsAllServed, IsClosedWell, WaitsToRead}
use Rattle.world.specs.Outside.{WorldMeaning as World}
use Rattle.wsgi_native.specs.Agreeing.{HasEarned}
use Rattle.wsgi_native.specs.Ends.{IsOutOfJobs}
use Rattle.wsgi_native.specs.JobApp.{job_app}
use Rattle.serve_command.specs.declared.serving.Served.{Served}
use Rattle.serve_command.specs.Endings.{Stays}
use Rattle.serve_command.specs.Jobs.{ServesJobsAt}
use Rattle.serve_command.specs.Serving.{listening, served}
use Rattle.serve_command.proofs.Ends.{closed_rest, has_served, no_connection, none_accepted, none_served, serves_so, still_spent}

-- closed ones are at rest
closed_at_rest : (cs : List Connection) → All (λ c. c.closed ≡ true) cs → All IsAtRest cs
closed_at_rest cs closed = closed_rest (λ (c : Connection). c.held ≡ false → c.quiet ≢ Awake) cs closed

-- where nobody was accepted nobody asks for a job
none_asks : (port : ℕ) (w : NetMeaning) (workers : World) (P : Type 0) → w.connections ≡ [] → IsOutOfJobs port w workers → P
none_asks port w workers P none vain = absurd (let e = ap (λ (xs : List Connection). length xs) none in let within = vain.accepted in omega (arith, within, e))

-- and nothing had to be earned, whoever owns the jobs
none_earned : (port : ℕ) (cs : List Connection) (workers : World) → cs ≡ [] → HasEarned port cs workers
none_earned port cs workers none = record {
  owner = λ number. (number, 0);
  once = λ a b x y e. ap (λ (one : ℕ × ℕ). one.0) e;
  own = λ k app bytes out agrees in' reads writes. no_connection cs (λ c read sent. BeginsSo (session app port read c.ended).bytes sent) none k bytes out in' reads writes;
}

-- nobody was accepted
pub none_served_jobs : (end : Served) (asked : ℕ) (limits : Limits) (w : NetMeaning) (workers : World) (out0 out1 : Option (List ℕ)) (port : ℕ) → (end ≡ Served.Finished → ⊥) → (end ≡ Served.NoJobs → ⊥) → w.connections ≡ [] → w.most ≡ 0
    → AppendsPrefix out0 out1 (listening port) → (out1 ≡ out0) ⊎ ((w.listens ≡ listens_at asked port) × (end ≢ Served.WriteFault → out1 ≡ out0)) → ServesJobsAt end asked limits w workers out0 out1
unfolding none_served none_accepted
none_served_jobs end asked limits w workers out0 out1 port unfinished unspent none most begins listens = record {
  serves = none_served IsAtRest (λ at. IsOutOfJobs at w workers) end asked answers job_app limits w out0 out1 port unfinished unspent none most begins listens;
  earned = none_earned port w.connections workers none;
  out_of_jobs = none_asks port w workers ((end ≡ Served.NoJobs) ⊎ (end ≡ Served.Memory)) none;
}

module _ (asked : ℕ) (limits : Limits) (w : NetMeaning) (workers : World) (out0 out1 out2 : Option (List ℕ)) (port : ℕ) (before end : Served) (told : out1 ≡ appended out0 (listening port))
    (own : EachTold w.connections (λ c bytes sent. BeginsSo (said_by answers job_app port bytes c.ended).bytes sent))
    (whole : EachTold w.connections (λ c bytes sent. IsClosedWell c → sent ≡ (said_by answers job_app port bytes c.ended).bytes))
    (answered : EachTold w.connections (λ c bytes sent. WaitsToRead c → sent ≡ (said_by answers job_app port bytes c.ended).bytes)) (rest_but : AllBut IsAtRest w.connections)
    (cause : EachTold w.connections (λ c bytes sent. c.closed ≡ true → Cause (said_by answers job_app port bytes c.ended) sent limits.idle c))
    (most : w.most ≤ limits.pool) (within : length w.connections ≤ limits.conns) (listens : w.listens ≡ listens_at asked port)
    (stays : Stays before end) (no_line : before ≢ Served.WriteFault) (more : AppendsPrefix out1 out2 (served limits.conns)) (last : end ≡ Served.Finished → out2 ≡ appended out1 (served limits.conns))
    (silent : end ≢ Served.Finished → end ≢ Served.WriteFault → out2 ≡ out1) where
  -- the first line was told
  pub serves_jobs_so : (before ≡ Served.Finished → IsAllServed w limits.conns) → (before ≡ Served.Listener → All IsAtRest w.connections) → (before ≡ Served.NoJobs → IsOutOfJobs port w workers)
      → HasEarned port w.connections workers
      → (IsOutOfJobs port w workers → (before ≡ Served.NoJobs) ⊎ (before ≡ Served.Memory)) → ServesJobsAt end asked limits w workers out0 out2
  unfolding serves_so has_served
  serves_jobs_so finished resting spent earned vain = record {
    serves = serves_so IsAtRest (λ at. IsOutOfJobs at w workers) asked answers job_app limits w out0 out1 out2 port before end told own whole answered rest_but cause most within listens stays no_line more last silent
        finished (closed_at_rest w.connections) resting spent;
    earned = earned;
    out_of_jobs = λ none_left. still_spent before end stays (vain none_left);
  }
