use Rattle.std.proofs.Common.{false, true}
use Rattle.wsgi_connection.specs.Pieces.{said}
use Rattle.wsgi_connection.proofs.Exchanges.{appends_nothing, none_at_end}
use Rattle.wsgi_connection.proofs.connection.end_input.Goals as goal

pub returns-in-Ok-clause-nothing : goal.returns-in-Ok-clause-nothing
returns-in-Ok-clause-nothing g c = λ app port fed h.
    let b = said g.T.Talk.answers app port fed in
    appends_nothing _ _ (g.T.Talk.due c.end.new.self) (none_at_end b _ (g.T.Talk.says app port fed true b c.end.new.self (c.end.ensures.at app port fed false b h))) c.send.ensures.prefix

pub returns-in-Err-clause-nothing : goal.returns-in-Err-clause-nothing
returns-in-Err-clause-nothing g c = λ app port fed h.
    let b = said g.T.Talk.answers app port fed in
    appends_nothing _ _ (g.T.Talk.due c.end.new.self) (none_at_end b _ (g.T.Talk.says app port fed true b c.end.new.self (c.end.ensures.at app port fed false b h))) c.send.ensures.prefix
