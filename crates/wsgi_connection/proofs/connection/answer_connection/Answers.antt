use Rattle.std.proofs.Common.{◌<◌, ◌∙◌, refl, arith}
use Rattle.wsgi_connection.specs.declared.connection.TheConstants.{MOST_CONNECTION}
use Rattle.wsgi_connection.proofs.Exchanges.{begins, handed_all, same_end, too_long, whole_of}
use Rattle.wsgi_connection.proofs.connection.answer_connection.Goals as goal

pub loop-count-init : goal.loop-count-init
loop-count-init g c = record {
  goes = begins _ _ _ c.args.port _ _ _ (c.is_silent_at_first.ensures _ c.args.port) (c.begin-session.ensures (g.A.Application.answer_of c.args.app.now));
  handed = λ e. e;
  most = omega arith;
  input_faults = refl;
  out_faults = refl;
}

pub loop-count-preserved : goal.loop-count-preserved
loop-count-preserved g c = record {
  goes = c.in-Answered.ensures.leaves c.args.port _ _ c.loop-count.invariant.goes;
  handed = λ e. c.in-Answered.ensures.handed (c.loop-count.invariant.handed e) (λ f. cc f) (λ f. cc f);
  most = c.in-Answered.ensures.counts.1;
  input_faults = c.in-Answered.ensures.unfailed_reads (λ e. cc e) ∙ c.loop-count.invariant.input_faults;
  out_faults = c.in-Answered.ensures.unfailed_writes (λ e. cc e) ∙ c.loop-count.invariant.out_faults;
}

pub returns-in-Ended-clause-whole : goal.returns-in-Ended-clause-whole
returns-in-Ended-clause-whole g c = λ left told.
    whole_of c.in-Ended.end _ _ c.args.port (c.never_takes_back.ensures _ c.args.port) left _ (g.S.Source.remaining c.exchange.new.input) _ _ told (c.in-Ended.ensures.leaves c.args.port _ _ c.loop-count.invariant.goes)

pub returns-clause-whole : goal.returns-clause-whole
returns-clause-whole g c = λ left told.
    let many : MOST_CONNECTION < c.loop-count.count = omega (arith, c.loop-count-test.false) in
    whole_of _ _ _ c.args.port (c.never_takes_back.ensures _ c.args.port) left _ _ _ _ told (too_long _ _ _ _ c.loop-count.count _ _ _ _ c.loop-count.session c.loop-count.invariant.goes many c.loop-count.invariant.most)

pub returns-in-Ended-clause-exchanged : goal.returns-in-Ended-clause-exchanged
returns-in-Ended-clause-exchanged g c = c.in-Ended.ensures.leaves c.args.port _ _ c.loop-count.invariant.goes

pub returns-in-Ended-clause-handed : goal.returns-in-Ended-clause-handed
returns-in-Ended-clause-handed g c = λ e w m.
    c.in-Ended.ensures.handed (c.loop-count.invariant.handed e) (λ z. w (same_end _ _ z)) (λ z. m (same_end _ _ z))

pub returns-clause-handed : goal.returns-clause-handed
returns-clause-handed g c = λ e w m. c.loop-count.invariant.handed e

pub returns-in-Ended-clause-handed_ahead : goal.returns-in-Ended-clause-handed_ahead
returns-in-Ended-clause-handed_ahead g c = λ e. c.in-Ended.ensures.handed_ahead c.args.port _ _ c.loop-count.invariant.goes (c.loop-count.invariant.handed e)

pub returns-clause-handed_ahead : goal.returns-clause-handed_ahead
returns-clause-handed_ahead g c = λ e. handed_all _ _ _ c.args.port c.loop-count.count _ _ _ _ _ c.loop-count.session c.loop-count.invariant.goes (c.loop-count.invariant.handed e)

pub returns-clause-exchanged : goal.returns-clause-exchanged
returns-clause-exchanged g c =
    let many : MOST_CONNECTION < c.loop-count.count = omega (arith, c.loop-count-test.false) in
    too_long _ _ _ c.args.port c.loop-count.count _ _ _ _ c.loop-count.session c.loop-count.invariant.goes many c.loop-count.invariant.most
