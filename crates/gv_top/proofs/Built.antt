-- The numbers of the commands that words name, of those that are built.
use Rattle.std.proofs.Common.{◌≡◌, List, Option, Some, None, option_and_then, refl, subst}
use Rattle.machine.specs.Budgets.{AreBudgets}
use Rattle.command_words.specs.Words.{Word}
use Rattle.command_words.specs.Words as words
use Rattle.command_words.specs.Ranges.{IsCheckInRange, IsInRange}
use Rattle.command_words.specs.declared.command.NamedCommand.{NamedCommand}
use Rattle.command_words.specs.declared.command.NamedCommand.TheVariants as named
use Rattle.command_words.specs.declared.command.RunOptions.{RunOptions}
use Rattle.command_words.specs.declared.command.TextCommand.{TextCommand}
use Rattle.command_words.specs.declared.command.TextCommand.TheVariants.{Run}
use Rattle.command_words.specs.declared.command.TraceCheck.{TraceCheck}
use Rattle.gv_top.specs.declared.words.OfflineCommand.{OfflineCommand}
use Rattle.gv_top.specs.Words.{built, offline_command_of}

-- the commands that words name are in their ranges
abbrev pub NamedAreInRange : Type 0
NamedAreInRange = (w : List Word) (command : NamedCommand) → words.command_of w ≡ Some command → IsInRange command

same : (a b : TextCommand) → Some (OfflineCommand.Text a) ≡ Some (OfflineCommand.Text b) → a ≡ b
same a b e = cc e

built_in_range : (text : TextCommand) (command : NamedCommand) → built command ≡ Some (OfflineCommand.Text text) → IsInRange command → IsInRange (named.Text text)
built_in_range text (named.Text given) e h = let P : TextCommand → Type 0 = λ c. IsInRange (named.Text c) in subst P (same given text e) h
built_in_range text (named.Wsgi gateway) e h = absurd (cc e)
built_in_range text (named.Serve options) e h = absurd (cc e)
built_in_range text (named.Storm n) e h = absurd (cc e)
built_in_range text (named.Verify check) e h = absurd (cc e)

-- so are those of them that are built
pub in_range : NamedAreInRange → (w : List Word) (text : TextCommand) → offline_command_of w ≡ Some (OfflineCommand.Text text) → IsInRange (named.Text text)
in_range law w text e = by (words.command_of w) refl e
  where
    by : (o : Option NamedCommand) → words.command_of w ≡ o → option_and_then built o ≡ Some (OfflineCommand.Text text) → IsInRange (named.Text text)
    by (Some command) is h = built_in_range text command h (law w command is)
    by None is h = absurd (cc h)

same_check : (a b : TraceCheck) → Some (OfflineCommand.Verify a) ≡ Some (OfflineCommand.Verify b) → a ≡ b
same_check a b e = cc e

built_check : (check : TraceCheck) (command : NamedCommand) → built command ≡ Some (OfflineCommand.Verify check) → IsInRange command → IsCheckInRange check
built_check check (named.Text given) e h = absurd (cc e)
built_check check (named.Wsgi gateway) e h = absurd (cc e)
built_check check (named.Serve options) e h = absurd (cc e)
built_check check (named.Storm n) e h = absurd (cc e)
built_check check (named.Verify given) e h = subst IsCheckInRange (same_check given check e) h

-- and so is a check
pub check_in_range : NamedAreInRange → (w : List Word) (check : TraceCheck) → offline_command_of w ≡ Some (OfflineCommand.Verify check) → IsCheckInRange check
check_in_range law w check e = by (words.command_of w) refl e
  where
    by : (o : Option NamedCommand) → words.command_of w ≡ o → option_and_then built o ≡ Some (OfflineCommand.Verify check) → IsCheckInRange check
    by (Some command) is h = built_check check command h (law w command is)
    by None is h = absurd (cc h)

pub are_budgets : NamedAreInRange → (w : List Word) (options : RunOptions) → offline_command_of w ≡ Some (OfflineCommand.Text (Run options)) → AreBudgets options.turns options.moves
are_budgets law w options e =
    let r : IsInRange (named.Text (Run options)) = in_range law w (Run options) e in
    record { some_turns = r.0.0; few_turns = r.0.1; some_moves = r.1.0; few_moves = r.1.1 }
