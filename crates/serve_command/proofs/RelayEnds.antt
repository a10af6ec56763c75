-- The ends of the command whose requests an application server answers.
use Rattle.std.proofs.Common.{◌≡◌, ◌≢◌, ◌⊎◌, inl, inr, ℕ, ◌<◌, ◌≤◌, true, false, List, [], length, Option, Some, None, ap, arith}
use Rattle.std.specs.List.{All}
use Rattle.gv_io.specs.Streams.{appended, AppendsPrefix}
use Rattle.stream_dial.specs.Dials.{DialMeaning}
use Rattle.stream_net.specs.Net.{Connection, IsAtRest, NetMeaning, listens_at}
use Rattle.stream_net.specs.declared.net.Quiet.TheVariants.{Awake}
use Rattle.stream_server.specs.declared.limits.Limits.{Limits}
use Rattle.stream_server.specs.Serving.{AllBut, IsAllServed}
use Rattle.wsgi_relay.specs.Relaying.{HasRelayed}
use Rattle.serve_command.specs.declared.serving.Served.{Served}
use Rattle.serve_command.specs.Endings.{Stays}
use Rattle.serve_command.specs.Relay.{ServesRelayAt}
use Rattle.serve_command.specs.Serving.{listening, served}
use Rattle.serve_command.proofs.Ends.{closed_rest, has_served, none_accepted}

-- closed ones are at rest
closed_at_rest : (cs : List Connection) → All (λ c. c.closed ≡ true) cs → All IsAtRest cs
closed_at_rest cs closed = closed_rest (λ (c : Connection). c.held ≡ false → c.quiet ≢ Awake) cs closed

none_within : (P : Type 0) (cs : List Connection) (k : ℕ) → cs ≡ [] → k < length cs → P
none_within P cs k none within = absurd (let e = ap (λ (xs : List Connection). length xs) none in omega (arith, within, e))

-- where nobody was accepted and no stream was opened nothing was relayed
none_relayed : (port idle patience : ℕ) (cs : List Connection) (v : DialMeaning) → cs ≡ [] → v.streams ≡ [] → HasRelayed port idle patience cs v
none_relayed port idle patience cs v none unopened = record {
  asker = λ e. record { conn = 0; number = e; environ = []; body = [] };
  given = λ conn number. None;
  own = λ k app bytes out agrees within reads writes. none_within _ cs k none within;
  once = λ d e in' _ same. none_within _ v.streams d unopened in';
  exchanges = λ e within. none_within _ v.streams e unopened within;
  replies = λ conn number g e. absurd (cc e);
}

-- nobody was accepted
pub none_served_relay : (end : Served) (pass patience asked : ℕ) (limits : Limits) (w : NetMeaning) (v : DialMeaning) (out0 out1 : Option (List ℕ)) (port : ℕ) → (end ≡ Served.Finished → ⊥) → (end ≡ Served.NoJobs → ⊥) → w.connections ≡ [] → w.most ≡ 0
    → AppendsPrefix out0 out1 (listening port) → (out1 ≡ out0) ⊎ ((w.listens ≡ listens_at asked port) × (end ≢ Served.WriteFault → out1 ≡ out0)) → v.streams ≡ [] → ServesRelayAt end pass patience asked limits w v out0 out1
unfolding none_accepted
none_served_relay end pass patience asked limits w v out0 out1 port unfinished unspent none most begins listens unopened = record {
  has = none_accepted IsAtRest (λ at. ⊥) end asked limits w out0 out1 port unfinished unspent none most begins listens;
  relayed = none_relayed port limits.idle patience w.connections v none unopened;
  towards = inl unopened;
}

module _ (pass patience asked : ℕ) (limits : Limits) (w : NetMeaning) (v : DialMeaning) (out0 out1 out2 : Option (List ℕ)) (port : ℕ) (before end : Served) (told : out1 ≡ appended out0 (listening port))
    (rest_but : AllBut IsAtRest w.connections) (most : w.most ≤ limits.pool) (within : length w.connections ≤ limits.conns) (listens : w.listens ≡ listens_at asked port)
    (stays : Stays before end) (no_line : before ≢ Served.WriteFault) (more : AppendsPrefix out1 out2 (served limits.conns)) (last : end ≡ Served.Finished → out2 ≡ appended out1 (served limits.conns))
    (silent : end ≢ Served.Finished → end ≢ Served.WriteFault → out2 ≡ out1) where
  -- the first line was told
  pub serves_relay_so : (before ≡ Served.Finished → IsAllServed w limits.conns) → (before ≡ Served.Listener → All IsAtRest w.connections) → (before ≡ Served.NoJobs → ⊥)
      → HasRelayed port limits.idle patience w.connections v → v.towards ≡ Some pass → ServesRelayAt end pass patience asked limits w v out0 out2
  unfolding has_served
  serves_relay_so finished resting unspent relayed towards = record {
    has = has_served IsAtRest (λ at. ⊥) asked limits w out0 out1 out2 port before end told rest_but most within listens stays no_line more last silent
        finished (closed_at_rest w.connections) resting unspent;
    relayed = relayed;
    towards = inr towards;
  }
