-- What the reading functions answer: what the bytes at the front decide, and which bytes are left.
use Rattle.std.specs.Prelude.{◌≡◌, ℕ, ◌<◌, ◌≤◌, List, ◌++◌, length, take, drop}
use Rattle.http_messages.specs.declared.found.Found.{Found}
use Rattle.http_messages.specs.declared.found.Found.TheVariants.{Waits, Refused, Whole}
use Rattle.http_messages.specs.declared.found.Sight.{Sight}
use Rattle.http_messages.specs.declared.found.Sight.TheVariants.{Unseen, Excluded, Ends}
use Rattle.http_messages.specs.declared.found.BodyFound.{BodyFound}
use Rattle.http_messages.specs.declared.found.BodyFound.TheVariants.{BodyWaits, BodyRefused, BodyWhole}
use Rattle.http_messages.specs.declared.found.BodyStep.{BodyStep}
use Rattle.http_messages.specs.declared.found.BodyStep.TheVariants.{Stops, GoesOn}
use Rattle.http_messages.specs.declared.request.AwaitedBody.{AwaitedBody}
use Rattle.http_messages.specs.Cuts.{Cut, waits, refused, whole}
use Rattle.http_messages.specs.Body.{body_left}

-- the answer says what the bytes decide, and where what is there ends
abbrev pub Sees : Sight → List ℕ → Cut (List ℕ) → Type 0
Sees Unseen bytes c = c ≡ waits
Sees (Excluded reason) bytes c = c ≡ refused reason
Sees (Ends n) bytes c = (n ≤ length bytes) × (c ≡ whole (take n bytes) (drop n bytes))

-- whatever bytes follow, the one reading of the old bytes is the other reading of the new ones
abbrev pub ReadsAlike : {A : Type 0} → (List ℕ → Cut A) → (List ℕ → Cut A) → List ℕ → List ℕ → Type 0
ReadsAlike before after old new = (more : List ℕ) → before (old ++ more) ≡ after (new ++ more)

-- Reading the old bytes gave this answer and left the new ones. Where more bytes have to come, those
-- that are left say no more and no less.
abbrev pub Finds : {A : Type 0} → (List ℕ → Cut A) → Found A → List ℕ → List ℕ → Type 0
Finds read Waits old new = (read new ≡ waits) × ReadsAlike read read old new
Finds read (Refused reason) old new = read old ≡ refused reason
Finds read (Whole a) old new = read old ≡ whole a new

-- the same of a body, of which the answer says what is left where more bytes have to come
abbrev pub FindsBody : AwaitedBody → BodyFound → List ℕ → List ℕ → Type 0
FindsBody awaited (BodyWaits left) old new = (body_left left new ≡ waits) × ReadsAlike (body_left awaited) (body_left left) old new
FindsBody awaited (BodyRefused reason) old new = body_left awaited old ≡ refused reason
FindsBody awaited (BodyWhole body) old new = body_left awaited old ≡ whole body new

-- one part of a body was read; where the reading goes on, it took bytes
abbrev pub StepsBody : AwaitedBody → BodyStep → List ℕ → List ℕ → Type 0
StepsBody awaited (Stops found) old new = FindsBody awaited found old new
StepsBody awaited (GoesOn left) old new = ReadsAlike (body_left awaited) (body_left left) old new × (length new < length old)
