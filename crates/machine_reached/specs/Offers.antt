-- What is so of the offers of channels wherever the hub comes to stand in a run. This project's own.
use Rattle.std.specs.Prelude.{◌≡◌, ℕ, true, Some, slice_get}
use Rattle.std.specs.List.{list_any}
use Rattle.scenario_tree.specs.declared.tree.Scenario.{Scenario}
use Rattle.scenario_rules.specs.Rules.{IsWellFormed}
use Rattle.machine.specs.declared.state.Offer.{Offer}
use Rattle.machine.specs.State.{State}
use Rattle.machine.specs.Landing.{Next}
use Rattle.machine_offers.specs.Offers.{awaits_taking, offers_at}
use Rattle.machine_trace_laws.specs.Reached.{Reached, state_of_next}

pub record AreOffered (s : State) : Type 0 where
  -- each offer of a channel has the since of a Wake that stands for it on that channel
  pub waited : (o k : ℕ) (offer : Offer) → slice_get (offers_at o s.objects) k ≡ Some offer → list_any (awaits_taking o offer.since) s.items ≡ true
  -- no two offers of a channel have the same since
  pub apart : (o j k : ℕ) (a b : Offer) → slice_get (offers_at o s.objects) j ≡ Some a → slice_get (offers_at o s.objects) k ≡ Some b → a.since ≡ b.since → j ≡ k

-- so it is in every state of a run of a well-formed scenario
abbrev pub OffersStand : Type 0
OffersStand = (c : Scenario) → IsWellFormed c → (next : Next) → Reached c next → AreOffered (state_of_next next)
