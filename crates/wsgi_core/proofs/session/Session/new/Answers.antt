use Rattle.std.proofs.Common.{refl}
use Rattle.wsgi_core.proofs.ProgressLaws.{stands_begun, settled_begun}
use Rattle.wsgi_core.proofs.session.Session.new.Goals as goal

pub returns : goal.returns
returns c = λ app. record {
  stands_at = record {
    same_port = refl;
    same_end = refl;
    stands = stands_begun app c.args.port c.none.result.count c.new.result c.new-2.result c.none.ensures c.new.ensures c.new-2.ensures;
    settled = λ _. settled_begun app c.args.port c.none.result.count c.new.result c.new-2.result c.new.ensures;
  };
  quiet = refl;
}
