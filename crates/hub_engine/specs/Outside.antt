-- What a part of a run does outside of the hub: the text that it writes to the sink, and what it does with the world.
use Rattle.std.specs.Prelude.{◌≡◌, ℕ, Bool, false, if◌then◌else◌, List, [], ◌∷◌, ◌++◌, map, ⊤, Option, None, Result, Ok, Err}
use Rattle.trace_text.specs.declared.line.Line.{Line}
use Rattle.trace_text.specs.Line.{text_of}
use Rattle.trace_reader.specs.Ranges.{LinesFit}
use Rattle.gv_io.specs.Streams.{appended, AppendsPrefix, Extends}
use Rattle.gv_io.specs.declared.sink.Sink.{Ghosts as Sinks}
use Rattle.world_rules.specs.declared.question.LogEntry.{LogEntry}
use Rattle.world_rules.specs.declared.question.PostedJob.{PostedJob}
use Rattle.world_rules.specs.Legal.{AreLegal, answers_of, is_posted, posted, posts_of}
use Rattle.world.specs.Outside.{WorldGoesOn, WorldMeaning}
use Rattle.world.specs.declared.outside.World.{Ghosts as Worlds}
use Rattle.machine.specs.declared.state.Post.{Post}
use Rattle.machine.specs.Run.{Passed, logged}
use Rattle.hub_engine.specs.declared.broken.Broken.{Broken}

-- what the sink was written, where it is told, and what of it is out; what the world means; and the logs for which it
-- stands
pub record Outside : Type 1 where
  pub written : Option (List ℕ)
  pub out : Option (List ℕ)
  pub means : WorldMeaning
  pub stands : List LogEntry → Type 0

-- what counts as out: what the sink handed on, where the world may wait; else what it was written
abbrev pub out_of : Bool → Option (List ℕ) → Option (List ℕ) → Option (List ℕ)
out_of waits written handed = if waits then handed else written

-- the same, where this was written and handed on
abbrev pub outside_as : Bool → Option (List ℕ) → Option (List ℕ) → WorldMeaning → (List LogEntry → Type 0) → Outside
outside_as waits written handed means stands = record { written = written; out = out_of waits written handed; means = means; stands = stands }

-- world and sink, by what their traits say of them
abbrev pub outside : {W K : Type 0} → Worlds W → Sinks K → W → K → Outside
outside w k world sink = outside_as w.waits (k.written sink) (k.handed sink) (w.meaning world) (w.stands_for world)

-- the world alone, with no sink
abbrev pub world_alone : {W : Type 0} → Worlds W → W → Outside
world_alone w world = outside_as w.waits None None (w.meaning world) (w.stands_for world)

-- each of the posts has a number that was not posted before
abbrev pub ArePostable : List PostedJob → List Post → Type 0
ArePostable before [] = ⊤
ArePostable before (p ∷ posts) = (is_posted p.number before ≡ false) × ArePostable (before ++ posted p.number p.job ∷ []) posts

-- this was done with a world, and each answer was legal; what its rule rests on is as before
pub record DoneWith (v w : WorldMeaning) (old new : List LogEntry → Type 0) (entries : List LogEntry) : Type 0 where
  pub posts : w.posts ≡ v.posts ++ posts_of entries
  pub answers : w.answers ≡ v.answers ++ answers_of entries
  pub legal : AreLegal v.posts v.answers entries
  pub rest : WorldGoesOn v w
  pub log : (before : List LogEntry) → old before → new (before ++ entries)

-- the same, of the world outside
abbrev pub HasDone : Outside → Outside → List LogEntry → Type 0
HasDone v w entries = DoneWith v.means w.means v.stands w.stands entries

-- the first of these posts were made
pub record HasPostedPart (v w : Outside) (posts : List Post) : Type 0 where
  pub part : List Post
  pub later : List Post
  pub is : posts ≡ part ++ later
  pub done : HasDone v w (map logged part)

-- the posts were made, or the first of them where a call was refused
abbrev pub PostsOn : {A E : Type 0} → Result A E → Outside → Outside → List Post → Type 0
PostsOn (Ok x) v w posts = HasDone v w (map logged posts)
PostsOn (Err e) v w posts = HasPostedPart v w posts

-- of these lines the first were tried, each one that its type has: a prefix of their text was written
pub record WritesPart (old new : Option (List ℕ)) (lines : List Line) : Type 0 where
  pub tried : List Line
  pub later : List Line
  pub is : lines ≡ tried ++ later
  pub fit : LinesFit tried
  pub text : AppendsPrefix old new (text_of tried)

-- the text of these lines was written, each one that its type has, and this was done with the world
pub record HasGiven (v w : Outside) (lines : List Line) (entries : List LogEntry) : Type 0 where
  pub text : w.written ≡ appended v.written (text_of lines)
  pub out : Extends v.out w.out
  pub fit : LinesFit lines
  pub done : HasDone v w entries

-- a prefix of the text was written, and the first of these posts were made
pub record HasGivenPart (v w : Outside) (lines : List Line) (posts : List Post) : Type 0 where
  pub text : WritesPart v.written w.written lines
  pub out : Extends v.out w.out
  pub made : HasPostedPart v w posts

-- the lines and posts of a part of a run were given out, or a part of them where it broke off
abbrev pub Gives : {A : Type 0} → Result A Broken → Outside → Outside → List Line → List Post → Type 0
Gives (Ok x) v w lines posts = HasGiven v w lines (map logged posts)
Gives (Err e) v w lines posts = HasGivenPart v w lines posts

-- the same, of all that the part of a run gives out
abbrev pub Passes : {A : Type 0} → Result A Broken → Outside → Outside → Passed → Type 0
Passes r v w p = Gives r v w p.lines p.posts
