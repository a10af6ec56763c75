-- For whom jobs were posted, as a server keeps it.
use Rattle.std.specs.Prelude.{ℕ, ◌==◌, if◌then◌else◌, List, [], ◌∷◌}
use Rattle.stream_server.specs.Protocols.{Apps}
use Rattle.world.specs.Outside.{WorldMeaning as World}
use Rattle.stream_server.specs.Owning.{Owner}
use Rattle.wsgi_native.specs.Agreeing.{Agrees}

-- the owner of the job of this number, by a list of numbers and owners, of which the first one of a number counts
abbrev pub owner_in : List (ℕ × (ℕ × ℕ)) → ℕ → ℕ × ℕ
owner_in [] number = (0, 0)
owner_in (owned ∷ rest) number = if owned.0 == number then owned.1 else owner_in rest number

-- the application of each connection agrees
abbrev pub AllAgree : Owner → World → Apps → Type 0
AllAgree owner w apps = (conn : ℕ) → Agrees owner w conn (apps conn)
