-- What the command `serve` leaves behind where an application server answers the requests.
use Rattle.std.specs.Prelude.{◌≡◌, ◌⊎◌, ℕ, List, [], Option, Some}
use Rattle.stream_dial.specs.Dials.{DialMeaning}
use Rattle.stream_net.specs.Net.{IsAtRest, NetMeaning}
use Rattle.stream_server.specs.declared.limits.Limits.{Limits}
use Rattle.wsgi_relay.specs.Relaying.{HasRelayed}
use Rattle.serve_command.specs.Serving.{HasServed}
use Rattle.serve_command.specs.declared.serving.Served.{Served}

-- It served over HTTP, and passed the requests on to this port, each over a stream of its own.
pub record ServesRelayAt (end : Served) (pass patience asked : ℕ) (limits : Limits) (w : NetMeaning) (v : DialMeaning) (out0 out1 : Option (List ℕ)) : Type 0 where
  -- an open connection may be left while it is held for a reply; no jobs are asked for
  pub has : HasServed IsAtRest (λ port. ⊥) end asked limits w out0 out1
  -- each request that was answered has a stream of its own, and what was read there is its answer
  pub relayed : HasRelayed has.port limits.idle patience w.connections v
  -- each stream was opened towards that port
  pub towards : (v.streams ≡ []) ⊎ (v.towards ≡ Some pass)
