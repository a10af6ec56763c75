-- What is left of the connections, by their bytes that are told.
use Rattle.std.proofs.Common.{◌≡◌, ◌≢◌, ℕ, ◌<◌, Bool, true, false, List, ◌++◌, length, Option, Some, IfSome, refl, sym, ap, ◌∙◌, subst, arith}
use Rattle.std.specs.List.{All}
use Rattle.stream_net.specs.Net.{Connection, IsAtRest, connection_at}
use Rattle.stream_net.specs.declared.net.Quiet.{Quiet}
use Rattle.stream_net.specs.declared.net.Quiet.TheVariants.{Awake, ByRead, ByWrite}
use Rattle.stream_server.specs.Speeches.{IsServed, Speech}
use Rattle.stream_server.specs.Serving.{AllBut, BeginsSo, Cause, Closing, EachTold, Ended, Failing, Idle, IsClosedWell, Rests, RestsBy, WaitsToRead}
use Rattle.stream_server.specs.Keeping.{IsStill}
use Rattle.stream_net.proofs.Lists.{all_from, at_all}
use Rattle.stream_server.proofs.Turns.{still_rests, still_waits}

pub told_is : (o : Option (List ℕ)) (bytes all : List ℕ) → o ≡ Some bytes → IfSome o (λ b. b ≡ all) → bytes ≡ all
told_is o bytes all e h = subst (λ (x : Option (List ℕ)). IfSome x (λ b. b ≡ all)) e h

-- one connection, whose bytes are told
module _ (said : Speech) (idle : ℕ) (c : Connection) (h : IsServed said idle c) (bytes out : List ℕ) (reads : c.read ≡ Some bytes) (writes : c.written ≡ Some out) where
  all_read : bytes ≡ h.begun.fed
  all_read = told_is c.read bytes h.begun.fed reads h.begun.reads

  all_written : out ≡ h.begun.taken
  all_written = told_is c.written out h.begun.taken writes h.begun.writes

  pub own_at : BeginsSo (said bytes c.ended).bytes out
  own_at = record { tail = h.begun.tail; is = ap (λ (z : List ℕ). (said z c.ended).bytes) all_read ∙ h.begun.begins ∙ ap (λ (z : List ℕ). z ++ h.begun.tail) (sym all_written) }

  pub cause_at : c.closed ≡ true → Cause (said bytes c.ended) out idle c
  cause_at closed =
      subst (λ (z : List ℕ). Cause (said z c.ended) out idle c) (sym all_read)
      (subst (λ (z : List ℕ). Cause (said h.begun.fed c.ended) z idle c) (sym all_written) (h.cause closed))

  pub answered_at : WaitsToRead c → out ≡ (said bytes c.ended).bytes
  answered_at waits = all_written ∙ (h.calm waits.still_open waits.by_read ∙ ap (λ (z : List ℕ). (said z c.ended).bytes) (sym all_read))

  pub whole_at : IsClosedWell c → out ≡ (said bytes c.ended).bytes
  whole_at well = by (cause_at well.closed)
    where
      rested : (q : Quiet) → q ≢ ByWrite → RestsBy q (out ≡ (said bytes c.ended).bytes) → out ≡ (said bytes c.ended).bytes
      rested Awake n r = absurd r
      rested ByRead n r = r
      rested ByWrite n r = absurd (n refl)

      by : Cause (said bytes c.ended) out idle c → out ≡ (said bytes c.ended).bytes
      by (Closing x all) = all
      by (Ended x all) = all
      by (Failing x) = absurd (omega (arith, x, well.faultless))
      by (Idle x r) = rested c.quiet well.waits_for_no_write r

-- all connections, where the same is said on each
module _ (said : Speech) (idle : ℕ) (cs : List Connection) (h : (k : ℕ) → k < length cs → IsServed said idle (connection_at cs k)) where
  pub own_of : EachTold cs (λ c bytes out. BeginsSo (said bytes c.ended).bytes out)
  own_of k bytes out in' reads writes = own_at said idle (connection_at cs k) (h k in') bytes out reads writes

  pub cause_of : EachTold cs (λ c bytes out. c.closed ≡ true → Cause (said bytes c.ended) out idle c)
  cause_of k bytes out in' reads writes = cause_at said idle (connection_at cs k) (h k in') bytes out reads writes

  pub answered_of : EachTold cs (λ c bytes out. WaitsToRead c → out ≡ (said bytes c.ended).bytes)
  answered_of k bytes out in' reads writes = answered_at said idle (connection_at cs k) (h k in') bytes out reads writes

  pub whole_of : EachTold cs (λ c bytes out. IsClosedWell c → out ≡ (said bytes c.ended).bytes)
  whole_of k bytes out in' reads writes = whole_at said idle (connection_at cs k) (h k in') bytes out reads writes

-- where no talk is held, all that are still wait by a read or by a write
pub all_wait : {T : Type 0} (holds : T → Bool) → ((t : T) → holds t ≡ false) → (cs : List Connection) → All (IsStill holds) cs → All Rests cs
all_wait holds none cs still = all_from Rests cs (λ j in'. still_waits holds none (connection_at cs j) (at_all (IsStill holds) cs still j in'))

pub but_wait : {T : Type 0} (holds : T → Bool) → ((t : T) → holds t ≡ false) → (cs : List Connection) → AllBut (IsStill holds) cs → AllBut Rests cs
but_wait holds none cs still = record { one = still.one; others = λ j other in'. still_waits holds none (connection_at cs j) (still.others j other in') }

-- what is still is at rest
pub all_rest : {T : Type 0} (holds : T → Bool) (cs : List Connection) → All (IsStill holds) cs → All IsAtRest cs
all_rest holds cs still = all_from IsAtRest cs (λ j in'. still_rests holds (connection_at cs j) (at_all (IsStill holds) cs still j in'))

pub but_rest : {T : Type 0} (holds : T → Bool) (cs : List Connection) → AllBut (IsStill holds) cs → AllBut IsAtRest cs
but_rest holds cs still = record { one = still.one; others = λ j other in'. still_rests holds (connection_at cs j) (still.others j other in') }
