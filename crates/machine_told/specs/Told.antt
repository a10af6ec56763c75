-- What the lines of a run tell of its jobs and answers. This project's own.
use Rattle.std.specs.Prelude.{List, [], ◌∷◌}
use Rattle.std.specs.List.{flat_map}
use Rattle.world_rules.specs.declared.question.PostedJob.{PostedJob}
use Rattle.world_rules.specs.Legal.{posted}
use Rattle.trace_text.specs.declared.line.Line.{Line}

-- the job of a job line, with its number
abbrev pub post_told : Line → List PostedJob
post_told (Line.Job number greenlet job) = posted number job ∷ []
post_told line = []

-- the jobs of the job lines, in order
abbrev pub posts_told : List Line → List PostedJob
posts_told lines = flat_map post_told lines
