use Rattle.std.proofs.Common.{◌≡◌, ◌≤◌, ◌+◌, ◌-◌}
use Rattle.wsgi_connection.specs.declared.connection.TheConstants.{MOST_CONNECTION}
use Rattle.wsgi_connection.specs.Pieces.{Goes}
use Rattle.wsgi_connection.proofs.connection.answer_connection.Given as goal

abbrev pub invariant-loop-count : goal.invariant-loop-count
invariant-loop-count g l = record {
  goes : Goes g.T.Talk.answers g.T.Talk.is_at (g.A.Application.answer_of l.app) l.port l.count (g.S.Source.remaining l.initial.input) (g.S.Source.remaining l.input)
      (g.K.Sink.written l.initial.out) (g.K.Sink.written l.out) l.session;
  handed : g.K.Sink.handed l.initial.out ≡ g.K.Sink.written l.initial.out → g.K.Sink.handed l.out ≡ g.K.Sink.written l.out;
  most : l.count ≤ MOST_CONNECTION + 1;
  input_faults : g.S.Source.faults l.input ≡ g.S.Source.faults l.initial.input;
  out_faults : g.K.Sink.faults l.out ≡ g.K.Sink.faults l.initial.out;
}

abbrev pub decreases-loop-count : goal.decreases-loop-count
decreases-loop-count g l = (MOST_CONNECTION + 1) - l.count
