-- What the command `serve` leaves behind.
use Rattle.std.specs.Prelude.{◌≡◌, ◌≢◌, ◌⊎◌, ℕ, ◌<◌, ◌≤◌, true, List, [], ◌++◌, length, Option, codes}
use Rattle.std.specs.List.{All}
use Rattle.gv_io.specs.Streams.{appended, AppendsPrefix}
use Rattle.wsgi_core.specs.Applications.{App}
use Rattle.wsgi_core.specs.Talk.{Gateway, said_by}
use Rattle.stream_net.specs.Net.{Connection, NetMeaning, listens_at}
use Rattle.stream_server.specs.declared.limits.Limits.{Limits}
use Rattle.stream_server.specs.Serving.{AllBut, BeginsSo, Cause, EachTold, IsAllServed, IsClosedWell, Rests, WaitsToRead}
use Rattle.serve_command.specs.Lines.{number_line}
use Rattle.serve_command.specs.declared.serving.Served.{Served}

-- the line that tells the port, and the line that tells how many connections were served
abbrev pub listening : ℕ → List ℕ
listening port = number_line (codes "listening") port

abbrev pub served : ℕ → List ℕ
served conns = number_line (codes "served") conns

-- What holds of a server whatever it answers: the net was asked for this port, out has the lines, and so many connections
-- were accepted, closed and left. `rests` says of a connection that it may be left, and `is_spent` of the port that the
-- server had no job left.
pub record HasServed (rests : Connection → Type 0) (is_spent : ℕ → Type 0) (end : Served) (asked : ℕ) (limits : Limits) (w : NetMeaning) (out0 out1 : Option (List ℕ)) : Type 0 where
  -- the port that the net took; or nobody was accepted, and out is as it was
  pub port : ℕ
  pub listens : ((out1 ≡ out0) × (w.connections ≡ [])) ⊎ (w.listens ≡ listens_at asked port)
  -- out has the two lines, or a beginning of them; both where all were served
  pub begins : AppendsPrefix out0 out1 (listening port ++ served limits.conns)
  pub both : end ≡ Served.Finished → out1 ≡ appended out0 (listening port ++ served limits.conns)
  -- where the net failed, no job was left or memory ran out, out has the first line, or is as it was
  pub first : (end ≡ Served.Listener) ⊎ (end ≡ Served.NoJobs) ⊎ (end ≡ Served.Memory) → (out1 ≡ out0) ⊎ (out1 ≡ appended out0 (listening port))
  -- the port was told before the first connection was accepted
  pub told : 0 < length w.connections → (rest : List ℕ) × (out1 ≡ appended out0 (listening port ++ rest))
  -- all connections rest, but for one where memory ran out or no job was left
  pub resting : end ≢ Served.NoJobs → end ≢ Served.Memory → All rests w.connections
  pub rest_but : AllBut rests w.connections
  -- no more were open than there are places, nor accepted than asked for
  pub most : w.most ≤ limits.pool
  pub within : length w.connections ≤ limits.conns
  -- as many as asked for were accepted, and all are closed; where a line could not be written, that or nobody was
  pub all : end ≡ Served.Finished → IsAllServed w limits.conns
  pub at_line : end ≡ Served.WriteFault → (w.connections ≡ []) ⊎ IsAllServed w limits.conns
  pub no_jobs : end ≡ Served.NoJobs → is_spent port

-- The net was asked for this port and served each connection by itself at the one that it took, through this gateway
-- and with this application, and out has the lines.
pub record ServesSo (rests : Connection → Type 0) (is_spent : ℕ → Type 0) (end : Served) (asked : ℕ) (answers : Gateway) (app : App) (limits : Limits) (w : NetMeaning) (out0 out1 : Option (List ℕ)) : Type 0 where
  pub has : HasServed rests is_spent end asked limits w out0 out1
  -- what was written to a connection begins what is said to what was read from it, and is all of it where it was closed
  -- well
  pub own : EachTold w.connections (λ c bytes sent. BeginsSo (said_by answers app has.port bytes c.ended).bytes sent)
  pub whole : EachTold w.connections (λ c bytes sent. IsClosedWell c → sent ≡ (said_by answers app has.port bytes c.ended).bytes)
  -- an open one was left to wait for bytes only after all that was due had been written
  pub answered : EachTold w.connections (λ c bytes sent. WaitsToRead c → sent ≡ (said_by answers app has.port bytes c.ended).bytes)
  -- each closed one was closed for a cause
  pub cause : EachTold w.connections (λ c bytes sent. c.closed ≡ true → Cause (said_by answers app has.port bytes c.ended) sent limits.idle c)

-- So it served with an application that gives each reply at once: all that are open wait, by a read or by a write, and
-- it asks for no jobs.
abbrev pub ServesAt : Served → ℕ → Gateway → App → Limits → NetMeaning → Option (List ℕ) → Option (List ℕ) → Type 0
ServesAt = ServesSo Rests (λ port. ⊥)

-- The line that tells the port was handed on before the first connection was accepted. It is said of the end alone, and
-- shows the order too: had a connection come first, a write or a flush that fails would keep the line back.
abbrev pub IsToldFirst : ℕ → NetMeaning → Option (List ℕ) → Option (List ℕ) → Type 0
IsToldFirst asked w out0 handed1 =
    0 < length w.connections → (port : ℕ) × (w.listens ≡ listens_at asked port) × (rest : List ℕ) × (handed1 ≡ appended out0 (listening port ++ rest))
