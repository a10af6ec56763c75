-- A server before the first connection and after the last.
use Rattle.std.specs.Prelude.{◌≡◌, ◌≢◌, ◌⊎◌, ℕ, List, Option}
use Rattle.gv_io.specs.Streams.{AppendsPrefix}
use Rattle.stream_net.specs.Net.{NetMeaning, listens_at}
use Rattle.serve_command.specs.Serving.{listening}
use Rattle.serve_command.specs.declared.serving.Served.{Served}

-- it came to this end before anybody was accepted: it listens nowhere and told nothing, or a line was not written
pub record IsUnopened (end : Served) (asked : ℕ) (w : NetMeaning) (out0 out1 : Option (List ℕ)) : Type 0 where
  pub port : ℕ
  pub begins : AppendsPrefix out0 out1 (listening port)
  pub listens : (out1 ≡ out0) ⊎ ((w.listens ≡ listens_at asked port) × (end ≢ Served.WriteFault → out1 ≡ out0))
  pub unfinished : end ≢ Served.Finished
  pub not_jobs : end ≢ Served.NoJobs

-- the end stays, but where the last line of a server that finished could not be written
abbrev pub Stays : Served → Served → Type 0
Stays before after = (after ≡ before) ⊎ ((before ≡ Served.Finished) × ((after ≡ Served.WriteFault) ⊎ (after ≡ Served.Memory)))
