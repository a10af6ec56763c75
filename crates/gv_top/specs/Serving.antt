-- What the command `serve` leaves behind, by the words of a call.
use Rattle.std.specs.Prelude.{◌≡◌, ◌≢◌, ◌⊎◌, ℕ, true, List, [], Option}
use Rattle.gv_io.specs.Streams.{appended}
use Rattle.command_words.specs.declared.command.ServeAnswers.{ServeAnswers}
use Rattle.command_words.specs.declared.command.ServeAnswers.TheVariants.{Application, Jobs, Passing}
use Rattle.command_words.specs.declared.command.ServeOptions.{ServeOptions}
use Rattle.wsgi_core.specs.Applications.{App}
use Rattle.stream_dial.specs.Dials.{DialMeaning}
use Rattle.stream_net.specs.Net.{NetMeaning}
use Rattle.stream_server.specs.declared.limits.Limits.{Limits}
use Rattle.world.specs.Outside.{WorldMeaning as World}
use Rattle.world_rules.specs.Legal.{is_answered, is_posted}
use Rattle.world_rules.specs.declared.question.LogEntry.{LogEntry}
use Rattle.world.specs.LegalLogs.{HasLegalLog}
use Rattle.wsgi_native.specs.Tied.{AreNumberedFrom}
use Rattle.serve_command.specs.declared.serving.Served.{Served}
use Rattle.serve_command.specs.Jobs.{ServesJobsAt}
use Rattle.serve_command.specs.Relay.{ServesRelayAt}
use Rattle.serve_command.specs.Serving.{ServesAt}
use Rattle.gv_top.specs.Gateway.{answers_by}
use Rattle.gv_top.specs.Top.{IsStatusOf}
use Rattle.gv_top.specs.Status.{verdict_line, verdict_of_server}

-- how much a server of these options does
abbrev pub limits_of : ServeOptions → Limits
limits_of options = record { pool = options.pool; conns = options.conns; idle = options.idle }

-- so many native workers were begun, they were posted jobs under the numbers from 1, in order, and each job that they
-- answered was posted; each answer is legal, and no job takes any of their own time
pub record HaveWorked (workers : ℕ) (w : World) (stands : List LogEntry → Type 0) : Type 0 where
  pub workers_are : w.workers ≡ workers
  pub numbered : AreNumberedFrom 1 w.posts
  pub posted : (number : ℕ) → is_answered number w.answers ≡ true → is_posted number w.posts ≡ true
  pub logged : HasLegalLog w stands

-- It served with so many native workers for its jobs, each of which was posted before it was answered. Or they were not
-- begun: they are as they were, and nobody was accepted.
pub record ServesNatively (workers : ℕ) (end : Served) (asked : ℕ) (limits : Limits) (w : NetMeaning) (before after : World) (stands : List LogEntry → Type 0) (out0 out1 : Option (List ℕ)) : Type 0 where
  pub serves : ServesJobsAt end asked limits w after out0 out1
  pub begun : HaveWorked workers after stands ⊎ ((after ≡ before) × (w.connections ≡ []))

-- it served so: with this application through this gateway, with native workers for jobs, or with the application server
-- to which the requests are passed
abbrev pub ServesWith : ServeAnswers → Served → ℕ → App → Limits → NetMeaning → DialMeaning → World → World → (List LogEntry → Type 0) → Option (List ℕ) → Option (List ℕ) → Type 0
ServesWith (Application gateway) end asked app limits w v before after stands out0 out1 = ServesAt end asked (answers_by gateway) app limits w out0 out1
ServesWith (Jobs workers) end asked app limits w v before after stands out0 out1 = ServesNatively workers end asked limits w before after stands out0 out1
ServesWith (Passing options) end asked app limits w v before after stands out0 out1 = ServesRelayAt end options.port options.patience asked limits w v out0 out1

-- The server came to an end at which net, dialled streams and out are so, and the status and the line on err are those of its end. What
-- native workers were before it and are after it is said where it has jobs.
pub record Serves (n : ℕ) (app : App) (options : ServeOptions) (w : NetMeaning) (v : DialMeaning) (before after : World) (stands : List LogEntry → Type 0) (out0 out1 err0 err1 : Option (List ℕ)) : Type 0 where
  pub end : Served
  pub serves : ServesWith options.answers end options.port app (limits_of options) w v before after stands out0 out1
  pub status : IsStatusOf n (verdict_of_server end)
  pub err : n ≢ 5 → n ≢ 7 → err1 ≡ appended err0 (verdict_line (verdict_of_server end))
