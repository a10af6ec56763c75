-- What holds for each family of applications holds for each application on one connection.
use Rattle.std.proofs.Common.{◌≡◌, ℕ, ◌<◌, ◌==◌, Bool, true, false, if◌then◌else◌, length, refl, ap, subst, arith}
use Rattle.std.proofs.lemmas.Bool.Decides.{nat_tests}
use Rattle.stream_net.specs.Net.{NetMeaning, connection_at}
use Rattle.stream_server.specs.declared.client.Client.{Client}
use Rattle.stream_server.specs.declared.limits.Terms.{Terms}
use Rattle.stream_server.specs.Protocols.{Apps, side_of}
use Rattle.stream_server.specs.Running.{IsUnderWay, LeftBy}
use Rattle.stream_server.specs.Speeches.{IsServed}
use Rattle.stream_server.specs.Steps.{IsGoing}
use Rattle.stream_server.proofs.Endings.{own_at}
use Rattle.world.specs.Outside.{WorldMeaning as World}
use Rattle.wsgi_core.specs.Applications.{App}
use Rattle.wsgi_core.specs.Session.{session}
use Rattle.stream_server.specs.Owning.{OwnOnce, Owner}
use Rattle.wsgi_native.specs.Agreeing.{Agrees, HasEarned, IsPosted}
use Rattle.wsgi_native.specs.JobApp.{job_app}
use Rattle.wsgi_native.specs.Laws.{job_agrees}
use Rattle.wsgi_native.specs.Owning.{AllAgree}
use Rattle.wsgi_native.specs.Talks.{job_protocol}
use Rattle.wsgi_native.specs.declared.job_talk.JobTalk.{JobTalk}

-- this application on one connection, and `job_app` on all others
abbrev only : ℕ → App → Apps
only conn app j = if j == conn then app else job_app

only_here : (conn : ℕ) (app : App) → only conn app conn ≡ app
only_here conn app = let same : (conn == conn) ≡ true = grind (arith, nat_tests) in ap (λ (b : Bool). if b then app else job_app) same

only_agrees : (owner : Owner) (w : World) (conn : ℕ) (app : App) → Agrees owner w conn app → AllAgree owner w (only conn app)
only_agrees owner w conn app fits j = by (j == conn) refl
  where
    by : (b : Bool) → (j == conn) ≡ b → Agrees owner w j (if b then app else job_app)
    by true e = let same : conn ≡ j = grind (arith, nat_tests) in subst (λ (k : ℕ). Agrees owner w k app) same fits
    by false e = job_agrees owner w j

-- a client under way is so for each application that agrees on its connection
pub going_at : (owner : Owner) (w : World) (terms : Terms) (m : NetMeaning) (g : Client JobTalk) → IsUnderWay job_protocol (AllAgree owner w) terms m g → (app : App) → Agrees owner w g.conn app
    → IsGoing (side_of job_protocol app terms.port) terms.limits.idle (connection_at m.connections g.conn) g
going_at owner w terms m g going app fits =
    subst (λ (a : App). IsGoing (side_of job_protocol a terms.port) terms.limits.idle (connection_at m.connections g.conn) g) (only_here g.conn app) (going (only g.conn app) (only_agrees owner w g.conn app fits))

-- so is what is left of each connection
pub earned_by : (owner : Owner) (w : World) (terms : Terms) (m : NetMeaning) → OwnOnce (IsPosted w.posts) owner → LeftBy job_protocol (AllAgree owner w) terms m → HasEarned terms.port m.connections w
earned_by owner w terms m once left = record {
  owner = owner;
  once = once;
  own = λ k app bytes out fits in' reads writes. own_at (session app terms.port) terms.limits.idle (connection_at m.connections k) (served_at k app fits in') bytes out reads writes;
}
  where
    served_at : (k : ℕ) (app : App) → Agrees owner w k app → k < length m.connections → IsServed (session app terms.port) terms.limits.idle (connection_at m.connections k)
    served_at k app fits in' = subst (λ (a : App). IsServed (session a terms.port) terms.limits.idle (connection_at m.connections k)) (only_here k app) ((left (only k app) (only_agrees owner w k app fits)).served k in')
