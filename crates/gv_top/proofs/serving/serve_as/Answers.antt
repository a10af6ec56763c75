use Rattle.std.proofs.Common.{subst, sym}
use Rattle.stream_server.specs.declared.limits.Limits.{Limits}
use Rattle.stream_server.specs.Ranges.{IsInRange}
use Rattle.gv_top.proofs.Servings.{few_server_workers, served_with_app, served_with_jobs, served_with_relay, some_server_workers}
use Rattle.gv_top.proofs.serving.serve_as.Goals as goal

pub serve_through-requires-clause-in_range : goal.serve_through-requires-clause-in_range
serve_through-requires-clause-in_range g c = subst (λ (l : Limits). IsInRange l) (sym c.limits_of-limits.ensures) c.requires.in_range

pub serve_natively-requires-clause-in_range : goal.serve_natively-requires-clause-in_range
serve_natively-requires-clause-in_range g c = subst (λ (l : Limits). IsInRange l) (sym c.limits_of-limits.ensures) c.requires.in_range

pub serve_relay_command-requires-clause-in_range : goal.serve_relay_command-requires-clause-in_range
serve_relay_command-requires-clause-in_range g c = subst (λ (l : Limits). IsInRange l) (sym c.limits_of-limits.ensures) c.requires.in_range

pub serve_natively-requires-clause-some : goal.serve_natively-requires-clause-some
serve_natively-requires-clause-some g c = some_server_workers c.args.options.answers _ c.in-Jobs.is c.requires.answers_in_range

pub serve_natively-requires-clause-few : goal.serve_natively-requires-clause-few
serve_natively-requires-clause-few g c = few_server_workers c.args.options.answers _ c.in-Jobs.is c.requires.answers_in_range

pub returns-in-Application-clause-serves : goal.returns-in-Application-clause-serves
returns-in-Application-clause-serves g c = served_with_app c.args.options.answers _ _ _ _ _ _ _ _ _ _ _ _ c.in-Application.gateway c.in-Application.is c.limits_of-limits.ensures c.serve_through.ensures.serves

pub returns-in-Jobs-clause-serves : goal.returns-in-Jobs-clause-serves
returns-in-Jobs-clause-serves g c = served_with_jobs c.args.options.answers _ _ _ _ _ _ _ _ _ _ _ _ c.in-Jobs.workers c.in-Jobs.is c.limits_of-limits.ensures c.serve_natively.ensures.serves

pub returns-in-Passing-clause-serves : goal.returns-in-Passing-clause-serves
returns-in-Passing-clause-serves g c = served_with_relay c.args.options.answers _ _ _ _ _ _ _ _ _ _ _ _ c.in-Passing.options c.in-Passing.is c.limits_of-limits.ensures c.serve_relay_command.ensures.serves
