use Rattle.machine.specs.Bodies.{around}
use Rattle.body_frames.specs.Steps.{answer_of}
use Rattle.body_frames.specs.Standings.{stepped}
use Rattle.body_frames.proofs.Answered.{answers_fit}
use Rattle.body_frames.proofs.frame.Frame.resume.Goals as goal

pub returns-clause-answers : goal.returns-clause-answers
returns-clause-answers g c =
    answers_fit c.args.moves.now (around c.args.code.now (g.L.Look.answers c.args.look.now)) c.args.self.now (answer_of c.args.input)
    (stepped c.in_ok-resume_body.field-0 c.resume_body.new.self c.resume_body.new.moves) c.in_ok-resume_body.ensures
