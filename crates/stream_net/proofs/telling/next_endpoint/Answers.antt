use Rattle.std.proofs.Common.{◌+◌, ℕ, Option, length, subst, sym}
use Rattle.stream_net.specs.Earliest.{IsEarliest}
use Rattle.stream_net.specs.News.{arrives_next}
use Rattle.stream_net.proofs.EarliestLaws.{earliest_more}
use Rattle.stream_net.proofs.telling.next_endpoint.Goals as goal

pub loop-place-preserved : goal.loop-place-preserved
loop-place-preserved c =
    let was = c.loop-place.invariant in
    let endpoints = c.args.endpoints.now in
    record {
      earliest = subst (λ (o : Option (ℕ × ℕ)). IsEarliest (arrives_next c.args.moment) endpoints (c.loop-place.place + 1) o) (sym c.sooner-least.ensures.is)
          (earliest_more (arrives_next c.args.moment) endpoints c.loop-place.place c.index-endpoints-place.result c.loop-place-test.true c.index-endpoints-place.is c.loop-place.least c.arrives_next.result (sym c.arrives_next.ensures.is) was.earliest);
      later = c.sooner-least.ensures.later c.args.moment was.later c.arrives_next.ensures.later;
      within = c.sooner-least.ensures.within (length endpoints) c.loop-place-test.true was.within;
    }
