use Rattle.std.proofs.Common.{ap, map, option_and_then, refl, string_bytes, sym, ◌∙◌}
use Rattle.command_words.specs.declared.command.ServeOptions.{ServeOptions}
use Rattle.gv_top.specs.Serving.{ServesWith, limits_of}
use Rattle.gv_top.specs.Words.{is_native_server, is_passing_server, serving}
use Rattle.serve_command.proofs.Ends.{none_told}
use Rattle.serve_command.specs.Serving.{IsToldFirst}
use Rattle.gv_top.proofs.Servings.{by_options, nobody_served, options_in_range}
use Rattle.gv_top.proofs.serving.serve.Goals as goal

pub returns-in_default-clause-serves : goal.returns-in_default-clause-serves
returns-in_default-clause-serves g c = λ options e. nobody_served options.answers _ _ _ _ _ _ _ _ _ _ c.requires.fresh c.requires.undialled.none refl refl

pub serve_as-requires-clause-in_range : goal.serve_as-requires-clause-in_range
serve_as-requires-clause-in_range g c =
    let named = ap (option_and_then serving) (sym c.in-Ok.ensures) ∙ sym c.server_options.ensures ∙ c.in-Some.is in
    (options_in_range (λ w command is. c.commands_are_in_range.ensures w command is) (map string_bytes c.args.words.now) c.in-Some.options named).0

pub serve_as-requires-clause-answers_in_range : goal.serve_as-requires-clause-answers_in_range
serve_as-requires-clause-answers_in_range g c =
    let named = ap (option_and_then serving) (sym c.in-Ok.ensures) ∙ sym c.server_options.ensures ∙ c.in-Some.is in
    (options_in_range (λ w command is. c.commands_are_in_range.ensures w command is) (map string_bytes c.args.words.now) c.in-Some.options named).1

pub returns-clause-serves : goal.returns-clause-serves
returns-clause-serves g c =
    let named = ap (option_and_then serving) (sym c.in-Ok.ensures) ∙ sym c.server_options.ensures ∙ c.in-Some.is in
    by_options (λ (o : ServeOptions). ServesWith o.answers c.serve_as.result o.port (g.A.Application.answer_of c.args.host.now.app.now) (limits_of o) (g.N.Net.meaning c.serve_as.new.net) (g.D.Dial.meaning c.serve_as.new.behind.dial) (g.W.World.meaning c.args.native.now) (g.W.World.meaning c.serve_as.new.native) (g.W.World.stands_for c.serve_as.new.native) (g.K.Sink.written c.args.out.now) (g.K.Sink.written c.serve_as.new.out))
    _ c.in-Some.options named c.serve_as.ensures.serves

pub returns-in_default-clause-told : goal.returns-in_default-clause-told
returns-in_default-clause-told g c = λ options e. none_told _ (g.N.Net.meaning c.args.net.now) _ _ c.requires.fresh.none

pub returns-clause-told : goal.returns-clause-told
returns-clause-told g c =
    let named = ap (option_and_then serving) (sym c.in-Ok.ensures) ∙ sym c.server_options.ensures ∙ c.in-Some.is in
    by_options (λ (o : ServeOptions). IsToldFirst o.port (g.N.Net.meaning c.serve_as.new.net) (g.K.Sink.written c.args.out.now) (g.K.Sink.handed c.serve_as.new.out)) _ c.in-Some.options named c.serve_as.ensures.told

pub returns-clause-untouched : goal.returns-clause-untouched
returns-clause-untouched g c = λ h.
    let named = ap (option_and_then serving) (sym c.in-Ok.ensures) ∙ sym c.server_options.ensures ∙ c.in-Some.is in
    c.serve_as.ensures.untouched (ap is_native_server (sym named) ∙ h)

pub returns-clause-undialled : goal.returns-clause-undialled
returns-clause-undialled g c = λ h.
    let named = ap (option_and_then serving) (sym c.in-Ok.ensures) ∙ sym c.server_options.ensures ∙ c.in-Some.is in
    c.serve_as.ensures.undialled (ap is_passing_server (sym named) ∙ h)
