use Rattle.machine_told.proofs.Telling.{run-answers-told, run-posts-told}
use Rattle.machine_told.proofs.posts_and_answers_are_told.Goals as goal

pub returns-clause-posts : goal.returns-clause-posts
returns-clause-posts c = run-posts-told

pub returns-clause-answers : goal.returns-clause-answers
returns-clause-answers c = run-answers-told
