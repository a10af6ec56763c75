use Rattle.std.proofs.Common.{◌≡◌, [], true, ap, map, string_bytes, subst, sym, ◌∙◌}
use Rattle.std.proofs.lemmas.Bool.{false≢true}
use Rattle.clap.specs.Faults.{fault_of, is_simple_and_free}
use Rattle.clap.specs.Kinds.{HasKind}
use Rattle.clap.specs.Simple.{App, HasMatchesOf, subcommand_of}
use Rattle.command_words.specs.Clap.{command_in, program}
use Rattle.command_words.proofs.Clapped.{found_is, none_is, program_free, program_simple, some_kind}
use Rattle.command_words.proofs.reading.by_clap.Goals as goal

pub returns-in-Ok : goal.returns-in-Ok
returns-in-Ok c =
    let words = map string_bytes c.args.words.now in
    let found : HasMatchesOf program words c.in-Ok.matches = subst (λ (a : App). HasMatchesOf a words c.in-Ok.matches) c.in_ok-command.ensures c.in-Ok.ensures.matches in
    let none : fault_of program words ≡ [] = subst (λ (a : App). is_simple_and_free a ≡ true → fault_of a words ≡ []) c.in_ok-command.ensures c.in-Ok.ensures.kinds program_free in
    found_is (fault_of program words) (subcommand_of program words) c.command_in.result none (c.command_in.ensures ∙ ap command_in (found program_simple).1)

pub returns : goal.returns
returns c =
    let words = map string_bytes c.args.words.now in
    let fails : HasKind (fault_of program words) c.in-Err.error = subst (λ (a : App). is_simple_and_free a ≡ true → HasKind (fault_of a words) c.in-Err.error) c.in_ok-command.ensures c.in-Err.ensures.kinds program_free in
    none_is (fault_of program words) (subcommand_of program words)
    (some_kind (fault_of program words) c.in-Err.error (λ e. let memory = c.kind.ensures ∙ e in false≢true (sym c.if-eq.false ∙ rw memory at c.eq.ensures)) fails)
