use Rattle.std.proofs.Common.{sym, ◌∙◌}
use Rattle.wsgi_core.specs.Talk.{said_by}
use Rattle.stream_server.proofs.Stepping.{is_closing}
use Rattle.stream_server.proofs.answering.AnsweringServiceUnit.phase.Goals as goal

pub returns : goal.returns
returns g c = λ e app port fed ended taken at. is_closing (said_by g.T.Talk.answers app port fed ended).closes (sym e ∙ c.phase.ensures.at app port fed ended taken at)
