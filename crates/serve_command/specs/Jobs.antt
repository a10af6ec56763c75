-- What the command `serve` leaves behind where native workers answer the requests for jobs.
use Rattle.std.specs.Prelude.{◌≡◌, ◌⊎◌, ℕ, List, Option}
use Rattle.stream_net.specs.Net.{IsAtRest, NetMeaning}
use Rattle.stream_server.specs.declared.limits.Limits.{Limits}
use Rattle.world.specs.Outside.{WorldMeaning as World}
use Rattle.wsgi_core.specs.Session.{answers}
use Rattle.wsgi_native.specs.Agreeing.{HasEarned}
use Rattle.wsgi_native.specs.Ends.{IsOutOfJobs}
use Rattle.wsgi_native.specs.JobApp.{job_app}
use Rattle.serve_command.specs.Serving.{ServesSo}
use Rattle.serve_command.specs.declared.serving.Served.{Served}

-- It served over HTTP, with the application that answers what a job comes to, while the workers were asked for the jobs.
pub record ServesJobsAt (end : Served) (asked : ℕ) (limits : Limits) (w : NetMeaning) (workers : World) (out0 out1 : Option (List ℕ)) : Type 0 where
  -- an open connection may be left while it is held for a job; no job is left where the last number was posted, and the
  -- request of a live connection asks for one more
  pub serves : ServesSo IsAtRest (λ port. IsOutOfJobs port w workers) end asked answers job_app limits w out0 out1
  -- each request for a job that was answered has a posted job of its own, which the workers had answered
  pub earned : HasEarned serves.has.port w.connections workers
  -- where no job is left it ends so, or memory ran out
  pub out_of_jobs : IsOutOfJobs serves.has.port w workers → (end ≡ Served.NoJobs) ⊎ (end ≡ Served.Memory)
