use Rattle.std.proofs.Common.{rules}
use Rattle.page_answer.proofs.Parts.{copied, said_of}
use Rattle.page_answer.proofs.answer.Goals as goal

pub returns-clause-said : goal.returns-clause-said
returns-clause-said g c = (
  _,
  c.in_ok-words.ensures,
  said_of g.P.Program.says c.run-status.ensures (search rules) (search rules)
      (copied c.run-status.new.out _ _ _ (search rules) c.copy_to_front.ensures.length (search rules)) (copied c.run-status.new.err _ _ _ (search rules) c.copy_to_front-2.ensures.length (search rules)),
)
