use Rattle.std.proofs.Common.{inl, inr, refl}
use Rattle.machine.specs.Run.{Source}
use Rattle.run_command.proofs.InWorlds.{left_as_it_was, logged_natively, ran_natively}
use Rattle.run_command.proofs.running.run_natively.Goals as goal

pub returns-in-Some-clause-native : goal.returns-in-Some-clause-native
returns-in-Some-clause-native g c = λ w m.
    let told = c.posts_and_answers_are_told.ensures in
    ran_natively told.posts told.answers c.in-Some.end c.args.engine.scenario c.args.engine.turns c.args.engine.moves c.args.workers _ _ _ _ _
    (λ log stood. g.met.W.World.log_is c.run_in_world.new.world log stood) c.in-Some.ensures.ran w m

pub returns-in-Some-clause-begun : goal.returns-in-Some-clause-begun
returns-in-Some-clause-begun g c =
    let given = (g.W.World.meaning c.run_in_world.new.world).answers in
    let ran = c.in-Some.ensures.ran in
    inl (c.runs_are_lawful.ensures c.args.engine.scenario (Source.Given given) c.args.engine.turns c.args.engine.moves c.requires.well_formed ran.legal, ran.ahead)

pub returns-in-None-clause-written : goal.returns-in-None-clause-written
returns-in-None-clause-written g c = left_as_it_was _ _ _ c.in-None.ensures.unwritten

pub returns-in-None-clause-begun : goal.returns-in-None-clause-begun
returns-in-None-clause-begun g c = inr (c.in-None.ensures.unwritten, refl)

pub returns-in-Some-clause-began : goal.returns-in-Some-clause-began
returns-in-Some-clause-began g c =
    let ran = c.in-Some.ensures.ran in
    inl (record {
      written = ran.ahead;
      handed = c.in-Some.ensures.ahead;
      logged = logged_natively _ _ _ (λ log stood. g.met.W.World.log_is c.run_in_world.new.world log stood) ran.part ran.legal;
    })

pub returns-in-None-clause-began : goal.returns-in-None-clause-began
returns-in-None-clause-began g c = inr (c.in-None.ensures.kept, (c.in-None.ensures.unwritten, refl))

pub returns-in-Some-clause-hands : goal.returns-in-Some-clause-hands
returns-in-Some-clause-hands g c = c.in-Some.ensures.hands

pub returns-in-None-clause-hands : goal.returns-in-None-clause-hands
returns-in-None-clause-hands g c = λ w m. absurd (m refl)
