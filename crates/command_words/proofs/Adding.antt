-- Options and commands that are added one after another.
use Rattle.std.proofs.Common.{◌≡◌, ◌||◌, ℕ, suc, ◌+◌, ◌<◌, ◌≤◌, Bool, false, List, drop, map, get_or, length, add-one, ap, ap₂, sym, ◌∙◌}
use Rattle.std.proofs.Math.Seq.{drop-cons}
use Rattle.std.proofs.lemmas.List.{at_drop_all}
use Rattle.clap.specs.Built.{AddsArg}
use Rattle.clap.specs.Simple.{App, with_rule, with_subcommand}
use Rattle.clap.specs.declared.builder.arg.Arg.{Arg}
use Rattle.clap.specs.declared.builder.command.Command.{Command}
use Rattle.clap.specs.declared.builder.command.Command.TheViews.{out-Command}
use Rattle.command_words.specs.declared.table.CommandOption.{CommandOption}
use Rattle.command_words.specs.declared.table.CommandRow.{CommandRow}
use Rattle.command_words.specs.Clap.{command_row, leaf, name_of, option_rule, with_commands, with_options}
use Rattle.command_words.specs.Words.{Word}

-- an option that is not global leaves the command without global ones
pub stays_local : (old new : Command) (option : Arg) → AddsArg old option new → option.global ≡ false
    → (out-Command old).has_globals ≡ false → (out-Command new).has_globals ≡ false
stays_local old new option adds of_option of_old = adds.globals ∙ ap₂ (λ (x y : Bool). x || y) of_old of_option

-- with one option more, fewer are left
pub one_option_more : (now next all : App) (options : List CommandOption) (i : ℕ) (option : CommandOption) (name : Word)
    → with_options now (map name_of (drop i options)) ≡ all → i < length options → name ≡ name_of (get_or options i option)
    → next ≡ with_rule now (option_rule name) → with_options next (map name_of (drop (i + 1) options)) ≡ all
one_option_more now next all options i option name h short named e =
    ap (λ n. with_options next (map name_of (drop n options))) (add-one i)
    ∙ ap (λ a. with_options a (map name_of (drop (suc i) options))) (e ∙ ap (λ n. with_rule now (option_rule n)) named)
    ∙ sym (ap (λ os. with_options now (map name_of os)) (drop-cons options i option short)) ∙ h

-- with no option left, the command is the one with all
pub all_options_added : (now all : App) (options : List CommandOption) (i : ℕ) → with_options now (map name_of (drop i options)) ≡ all
    → length options ≤ i → now ≡ all
all_options_added now all options i h none_left = sym (at_drop_all (λ os. with_options now (map name_of os)) options i none_left) ∙ h

-- with one command more, fewer are left
pub one_more : (now next all : App) (rows : List CommandRow) (i : ℕ) (row : CommandRow) → with_commands now (map command_row (drop i rows)) ≡ all → i < length rows
    → next ≡ with_subcommand now (leaf (command_row (get_or rows i row))) → with_commands next (map command_row (drop (i + 1) rows)) ≡ all
one_more now next all rows i row h short e =
    ap (λ n. with_commands next (map command_row (drop n rows))) (add-one i)
    ∙ ap (λ a. with_commands a (map command_row (drop (suc i) rows))) e
    ∙ sym (ap (λ rs. with_commands now (map command_row rs)) (drop-cons rows i row short)) ∙ h

-- with no command left, the program is the one with all
pub all_added : (now all : App) (rows : List CommandRow) (i : ℕ) → with_commands now (map command_row (drop i rows)) ≡ all → length rows ≤ i → now ≡ all
all_added now all rows i h none_left = sym (at_drop_all (λ rs. with_commands now (map command_row rs)) rows i none_left) ∙ h
