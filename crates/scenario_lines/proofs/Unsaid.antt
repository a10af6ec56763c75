-- What is read where a word that may stand there does not, and where it does.
use Rattle.std.proofs.Common.{◌≡◌, ℕ, Bool, true, false, List, ◌∷◌, Option, Some, None, Result, Ok, refl, subst}
use Rattle.scenario_grammar.specs.declared.keyword.Keyword.TheVariants as k
use Rattle.scenario_grammar.specs.declared.token.Token.{Token}
use Rattle.scenario_grammar.specs.declared.token.Token.TheVariants as token
use Rattle.scenario_tree.specs.declared.tree.Wait.TheVariants as wait
use Rattle.scenario_grammar.specs.Reading.{◌<$>◌, after_at, count_of_at, immediate_at, ms_at, now_at, number_at, silent_at, size_at, takes_at, timed_at, under_at, wait_at, with_at}
use Rattle.scenario_lines.specs.declared.refusal.LineRefusal.{LineRefusal}
use Rattle.scenario_lines.specs.Taken.{Lacks, Takes}
use Rattle.scenario_lines.specs.Reads.{Reads}
use Rattle.scenario_grammar.specs.declared.limits.TheConstants.{MOST_QUEUE_PLACES}

timeless : (ts : List Token) → Lacks k.Within ts → timed_at ts ≡ Ok (None, ts)
timeless (token.Fixed k.Within ∷ ts) h = absurd (h ts refl)
timeless ts h = refl

pub no_time : (old new : List Token) → new ≡ old → Lacks k.Within old → timed_at old ≡ Ok (None, new)
no_time old new same h = rw same (timeless old h)

waitless : (ts : List Token) → Lacks k.Within ts → Lacks k.Now ts → wait_at ts ≡ Ok (wait.Block, ts)
waitless (token.Fixed k.Within ∷ ts) h g = absurd (h ts refl)
waitless (token.Fixed k.Now ∷ ts) h g = absurd (g ts refl)
waitless ts h g = refl

pub no_wait : (old mid new : List Token) → mid ≡ old → new ≡ mid → Lacks k.Within old → Lacks k.Now mid → wait_at old ≡ Ok (wait.Block, new)
no_wait old mid new same again h g = rw (again, same) (waitless old h (rw same at g))

faultless : (ts : List Token) → Lacks k.With ts → with_at ts ≡ Ok (None, ts)
faultless (token.Fixed k.With ∷ ts) h = absurd (h ts refl)
faultless ts h = refl

pub no_fault : (old new : List Token) → new ≡ old → Lacks k.With old → with_at old ≡ Ok (None, new)
no_fault old new same h = rw same (faultless old h)

parentless : (ts : List Token) → Lacks k.Under ts → under_at ts ≡ Ok (None, ts)
parentless (token.Fixed k.Under ∷ ts) h = absurd (h ts refl)
parentless ts h = refl

pub no_parent : (old new : List Token) → new ≡ old → Lacks k.Under old → under_at old ≡ Ok (None, new)
no_parent old new same h = rw same (parentless old h)

countless : (ts : List Token) → Lacks k.Count ts → count_of_at ts ≡ Ok (None, ts)
countless (token.Fixed k.Count ∷ ts) h = absurd (h ts refl)
countless ts h = refl

pub no_count : (old new : List Token) → new ≡ old → Lacks k.Count old → count_of_at old ≡ Ok (None, new)
no_count old new same h = rw same (countless old h)

costless : (ts : List Token) → Lacks k.Takes ts → takes_at ts ≡ Ok (None, ts)
costless (token.Fixed k.Takes ∷ ts) h = absurd (h ts refl)
costless ts h = refl

pub no_cost : (old new : List Token) → new ≡ old → Lacks k.Takes old → takes_at old ≡ Ok (None, new)
no_cost old new same h = rw same (costless old h)

-- one of three words that say yes
loud : (ts : List Token) → Lacks k.Silent ts → silent_at ts ≡ Ok (false, ts)
loud (token.Fixed k.Silent ∷ ts) h = absurd (h ts refl)
loud ts h = refl

pub is_silent : (old new : List Token) (said : Bool) → Takes k.Silent old said new → silent_at old ≡ Ok (said, new)
is_silent old new true h = rw h refl
is_silent old new false h = rw (h.0) (loud old h.1)

patient : (ts : List Token) → Lacks k.Now ts → now_at ts ≡ Ok (false, ts)
patient (token.Fixed k.Now ∷ ts) h = absurd (h ts refl)
patient ts h = refl

pub is_now : (old new : List Token) (said : Bool) → Takes k.Now old said new → now_at old ≡ Ok (said, new)
is_now old new true h = rw h refl
is_now old new false h = rw (h.0) (patient old h.1)

orderly : (ts : List Token) → Lacks k.Immediate ts → immediate_at ts ≡ Ok (false, ts)
orderly (token.Fixed k.Immediate ∷ ts) h = absurd (h ts refl)
orderly ts h = refl

pub is_immediate : (old new : List Token) (said : Bool) → Takes k.Immediate old said new → immediate_at old ≡ Ok (said, new)
is_immediate old new true h = rw h refl
is_immediate old new false h = rw (h.0) (orderly old h.1)

-- a number where `none` may stand
size_here : (ts us : List Token) (r : Result (Option ℕ) LineRefusal) → Lacks k.Nothing ts → Reads ((Some <$> number_at 1 MOST_QUEUE_PLACES) ts) r us → Reads (size_at ts) r us
size_here (token.Fixed k.Nothing ∷ ts) us r h e = absurd (h ts refl)
size_here ts us r h e = e

pub size_other : (old new us : List Token) (r : Result (Option ℕ) LineRefusal) → new ≡ old → Lacks k.Nothing old → Reads ((Some <$> number_at 1 MOST_QUEUE_PLACES) new) r us → Reads (size_at old) r us
size_other old new us r same h e = size_here old us r h (subst (λ ts. Reads ((Some <$> number_at 1 MOST_QUEUE_PLACES) ts) r us) same e)

after_here : (ts us : List Token) (r : Result (Option ℕ) LineRefusal) → Lacks k.Nothing ts → Reads ((Some <$> ms_at) ts) r us → Reads (after_at ts) r us
after_here (token.Fixed k.Nothing ∷ ts) us r h e = absurd (h ts refl)
after_here ts us r h e = e

pub after_other : (old new us : List Token) (r : Result (Option ℕ) LineRefusal) → new ≡ old → Lacks k.Nothing old → Reads ((Some <$> ms_at) new) r us → Reads (after_at old) r us
after_other old new us r same h e = after_here old us r h (subst (λ ts. Reads ((Some <$> ms_at) ts) r us) same e)
