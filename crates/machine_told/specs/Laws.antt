-- The laws on what the lines of a run tell. This project's own.
use Rattle.std.specs.Prelude.{◌≡◌, ℕ}
use Rattle.world_rules.specs.Legal.{answers_of, posts_of}
use Rattle.scenario_tree.specs.declared.tree.Scenario.{Scenario}
use Rattle.trace_text.specs.Line.{answers_told}
use Rattle.machine.specs.Run.{Source, run_from}
use Rattle.machine_told.specs.Told.{posts_told}

-- the job lines of a run have its posts
abbrev pub PostsAreTold : Type 0
PostsAreTold = (source : Source) (turns moves : ℕ) (c : Scenario) → posts_told (run_from source turns moves c).lines ≡ posts_of (run_from source turns moves c).log

-- its turn lines have the answers that it took
abbrev pub AnswersAreTold : Type 0
AnswersAreTold = (source : Source) (turns moves : ℕ) (c : Scenario) → answers_told (run_from source turns moves c).lines ≡ answers_of (run_from source turns moves c).log
