-- What holds for each family of applications holds for each application on one connection.
use Rattle.std.proofs.Common.{◌≡◌, ℕ, ◌<◌, ◌==◌, Bool, true, false, if◌then◌else◌, List, length, Some, refl, sym, ap, subst, arith}
use Rattle.std.proofs.lemmas.Bool.Decides.{nat_tests}
use Rattle.stream_net.specs.Net.{NetMeaning, connection_at}
use Rattle.stream_dial.specs.Dials.{DialMeaning}
use Rattle.stream_server.specs.declared.limits.Terms.{Terms}
use Rattle.stream_server.specs.Protocols.{Apps}
use Rattle.stream_server.specs.Running.{LeftBy}
use Rattle.stream_server.specs.Speeches.{IsServed}
use Rattle.stream_server.proofs.Endings.{answered_at, cause_at, own_at, whole_at}
use Rattle.wsgi_core.specs.Applications.{App}
use Rattle.wsgi_core.specs.Session.{session}
use Rattle.wsgi_relay.specs.Accounts.{AllAgree, asker_in}
use Rattle.wsgi_relay.specs.Laws.{relay_agrees, relay_app}
use Rattle.wsgi_relay.specs.Relaying.{Agrees, Asked, Givings, HasRelayed}
use Rattle.wsgi_relay.specs.Talks.{relay_protocol}
use Rattle.wsgi_relay.specs.Tied.{HaveAskedOnce, IsKept}

-- this application on one connection, and on all others some that agree
abbrev only : Givings → ℕ → App → Apps
only given conn app j = if j == conn then app else relay_app given j

only_here : (given : Givings) (conn : ℕ) (app : App) → only given conn app conn ≡ app
only_here given conn app = let same : (conn == conn) ≡ true = grind (arith, nat_tests) in ap (λ (b : Bool). if b then app else relay_app given conn) same

only_agrees : (given : Givings) (conn : ℕ) (app : App) → Agrees given conn app → AllAgree given (only given conn app)
only_agrees given conn app fits j = by (j == conn) refl
  where
    by : (b : Bool) → (j == conn) ≡ b → Agrees given j (if b then app else relay_app given j)
    by true e = let same : conn ≡ j = grind (arith, nat_tests) in subst (λ (k : ℕ). Agrees given k app) same fits
    by false e = relay_agrees given j

-- what is left of the connections and the streams
pub relayed_by : (patience : ℕ) (terms : Terms) (m : NetMeaning) (v : DialMeaning) (asked : List Asked) (given : Givings) → IsKept patience v asked given → HaveAskedOnce asked → LeftBy relay_protocol (AllAgree given) terms m
    → HasRelayed terms.port terms.limits.idle patience m.connections v
relayed_by patience terms m v asked given kept once left = record {
  asker = asker_in asked;
  given = given;
  own = λ k app bytes out fits in' reads writes.
      let said = session app terms.port in
      let c = connection_at m.connections k in
      let h = served_at k app fits in' in
      record {
        own = own_at said terms.limits.idle c h bytes out reads writes;
        whole = whole_at said terms.limits.idle c h bytes out reads writes;
        answered = answered_at said terms.limits.idle c h bytes out reads writes;
        cause = cause_at said terms.limits.idle c h bytes out reads writes;
      };
  once = λ a b x y. once a b (subst (λ (n : ℕ). a < n) (sym kept.count) x) (subst (λ (n : ℕ). b < n) (sym kept.count) y);
  exchanges = kept.sent;
  replies = kept.replies;
}
  where
    served_at : (k : ℕ) (app : App) → Agrees given k app → k < length m.connections → IsServed (session app terms.port) terms.limits.idle (connection_at m.connections k)
    served_at k app fits in' = subst (λ (a : App). IsServed (session a terms.port) terms.limits.idle (connection_at m.connections k)) (only_here given k app) ((left (only given k app) (only_agrees given k app fits)).served k in')
