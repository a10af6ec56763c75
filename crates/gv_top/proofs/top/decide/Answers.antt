use Rattle.std.proofs.Common.{ap, map, option_and_then, refl, string_bytes, sym, ◌∙◌}
use Rattle.gv_top.specs.Words.{built, is_native, reads_input, serving}
use Rattle.gv_top.proofs.Deciding.{nothing_exchanged, nothing_handed_ahead}
use Rattle.gv_top.proofs.Handing.{none_began}
use Rattle.gv_top.proofs.ReadTexts.{spelt_is_judged}
use Rattle.command_words.specs.declared.command.TextCommand.{TextCommand}
use Rattle.gv_top.proofs.Built.{check_in_range, in_range}
use Rattle.gv_top.proofs.Servings.{is_some, none_named}
use Rattle.gv_top.proofs.Tops.{came_as, left_alone, nothing_lawful, out_of_memory_at_once}
use Rattle.gv_top.proofs.top.decide.Goals as goal

pub returns-in_default-clause-came_to : goal.returns-in_default-clause-came_to
returns-in_default-clause-came_to g c = out_of_memory_at_once _ _ _ _ _ _ _ _

pub returns-in_default-clause-connection : goal.returns-in_default-clause-connection
returns-in_default-clause-connection g c = λ gateway named. nothing_exchanged gateway _ _ _

pub returns-in_default-clause-handed_ahead : goal.returns-in_default-clause-handed_ahead
returns-in_default-clause-handed_ahead g c = λ gateway named e. nothing_handed_ahead gateway _ _ _ _ e

pub returns-in_default-clause-lawful : goal.returns-in_default-clause-lawful
returns-in_default-clause-lawful g c = λ options e. nothing_lawful _ _

pub returns-in_default-clause-left_alone : goal.returns-in_default-clause-left_alone
returns-in_default-clause-left_alone g c = left_alone _ _ _ _ refl

pub returns-in-Some-clause-serve : goal.returns-in-Some-clause-serve
returns-in-Some-clause-serve g c = is_some _ _ (ap (option_and_then serving) (sym c.in-Ok.ensures) ∙ sym c.server_options.ensures ∙ c.in-Some.is)

pub answer_command-requires-clause-range : goal.answer_command-requires-clause-range
answer_command-requires-clause-range g c = λ text e.
    in_range (λ w command named. c.commands_are_in_range.ensures w command named) (map string_bytes c.args.words.now) text
    (sym (c.without_a_net-command.ensures ∙ ap (option_and_then built) c.in-Ok.ensures) ∙ e)

pub answer_command-requires-clause-checked : goal.answer_command-requires-clause-checked
answer_command-requires-clause-checked g c = λ check e.
    check_in_range (λ w command named. c.commands_are_in_range.ensures w command named) (map string_bytes c.args.words.now) check
    (sym (c.without_a_net-command.ensures ∙ ap (option_and_then built) c.in-Ok.ensures) ∙ e)

pub returns-in-None-clause-came_to : goal.returns-in-None-clause-came_to
returns-in-None-clause-came_to g c =
    let d = c.answer_command.ensures in
    came_as (c.without_a_net-command.ensures ∙ ap (option_and_then built) c.in-Ok.ensures) (record {
      answer = d.answer;
      checked = d.checked;
      untold = d.untold;
      read_trace = λ check is h4 h7 left told. d.read_trace check is left told h4 h7;
      usage = d.usage;
      reads = d.reads;
      writes = d.writes;
      unread = d.unread;
      unprinted = d.unprinted;
      read_whole = λ text is h4 h7 left told. d.read_whole text is left told h4 h7;
      storm = d.storm;
      ran = λ options s left is told text well. d.ran (TextCommand.Run options) is left told s (spelt_is_judged s _ text well) options refl;
    })

pub returns-in-None-clause-no_command : goal.returns-in-None-clause-no_command
returns-in-None-clause-no_command g c = λ none. c.answer_command.ensures.no_command (c.without_a_net-command.ensures ∙ ap (option_and_then built) c.in-Ok.ensures ∙ none)

pub returns-in-None-clause-lawful : goal.returns-in-None-clause-lawful
returns-in-None-clause-lawful g c = λ options e. c.answer_command.ensures.lawful options (c.without_a_net-command.ensures ∙ ap (option_and_then built) c.in-Ok.ensures ∙ e)

pub returns-in-None-clause-untouched : goal.returns-in-None-clause-untouched
returns-in-None-clause-untouched g c = λ h. c.answer_command.ensures.untouched (ap is_native (c.without_a_net-command.ensures ∙ ap (option_and_then built) c.in-Ok.ensures) ∙ h)

pub returns-in-None-clause-connection : goal.returns-in-None-clause-connection
returns-in-None-clause-connection g c = λ gateway named. c.answer_command.ensures.connection gateway (c.without_a_net-command.ensures ∙ ap (option_and_then built) c.in-Ok.ensures ∙ named)

pub returns-in-None-clause-handed_ahead : goal.returns-in-None-clause-handed_ahead
returns-in-None-clause-handed_ahead g c = λ gateway named. c.answer_command.ensures.handed_ahead gateway (c.without_a_net-command.ensures ∙ ap (option_and_then built) c.in-Ok.ensures ∙ named)

pub returns-in-None-clause-not_serve : goal.returns-in-None-clause-not_serve
returns-in-None-clause-not_serve g c = λ named. none_named _ _ named (ap (option_and_then serving) (sym c.in-Ok.ensures) ∙ sym c.server_options.ensures ∙ c.in-None.is)

pub returns-in-None-clause-input_alone : goal.returns-in-None-clause-input_alone
returns-in-None-clause-input_alone g c = λ named. none_named _ _ named (ap (option_and_then serving) (sym c.in-Ok.ensures) ∙ sym c.server_options.ensures ∙ c.in-None.is)

pub returns-in-None-clause-out_alone : goal.returns-in-None-clause-out_alone
returns-in-None-clause-out_alone g c = λ named. none_named _ _ named (ap (option_and_then serving) (sym c.in-Ok.ensures) ∙ sym c.server_options.ensures ∙ c.in-None.is)

pub returns-in-None-clause-native_alone : goal.returns-in-None-clause-native_alone
returns-in-None-clause-native_alone g c = λ named. none_named _ _ named (ap (option_and_then serving) (sym c.in-Ok.ensures) ∙ sym c.server_options.ensures ∙ c.in-None.is)

pub returns-in-None-clause-untouched_input : goal.returns-in-None-clause-untouched_input
returns-in-None-clause-untouched_input g c = λ h. c.answer_command.ensures.untouched_input (ap reads_input (c.without_a_net-command.ensures ∙ ap (option_and_then built) c.in-Ok.ensures) ∙ h)

pub returns-in_default-clause-began : goal.returns-in_default-clause-began
returns-in_default-clause-began g c = λ text e left told. none_began _ _ _ _ _ _ _

pub returns-in-None-clause-began : goal.returns-in-None-clause-began
returns-in-None-clause-began g c = λ text e. c.answer_command.ensures.began text (c.without_a_net-command.ensures ∙ ap (option_and_then built) c.in-Ok.ensures ∙ e)
