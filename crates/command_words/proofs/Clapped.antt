-- What `clap` answers of the program's words.
use Rattle.std.proofs.Common.{◌≡◌, inl, inr, List, [], ◌∷◌, true, false, if◌then◌else◌, Option, None, refl, subst, arith}
use Rattle.clap.specs.Faults.{is_simple_and_free}
use Rattle.clap.specs.Kinds.{HasKind, IsAmong, Kinds}
use Rattle.clap.specs.Words.{kind_of}
use Rattle.clap.specs.declared.error.Error.{Error}
use Rattle.clap.specs.declared.error.kind.ErrorKind.{ErrorKind}
use Rattle.clap.specs.Simple.{is_simple}
use Rattle.clap.specs.Walk.{Row, Text, is_empty}
use Rattle.command_words.specs.declared.command.NamedCommand.{NamedCommand}
use Rattle.command_words.specs.Clap.{command_in, program}

pub program_simple : is_simple program ≡ true
program_simple = refl

pub program_free : is_simple_and_free program ≡ true
program_free = refl

-- an error that is no want of memory has one of the kinds
pub some_kind : (kinds : Kinds) (e : Error) → (kind_of e ≡ ErrorKind.OutOfMemory → ⊥) → HasKind kinds e → kinds ≡ [] → ⊥
some_kind kinds e other (inl memory) none = other memory
some_kind kinds e other (inr among) none = subst (λ (ks : Kinds). IsAmong (kind_of e) ks) none among

pub found_is : (kinds : Kinds) (sub : Option (Text × List Row)) (r : Option NamedCommand) → kinds ≡ [] → r ≡ command_in sub → r ≡ (if is_empty kinds then command_in sub else None)
found_is [] sub r e f = f
found_is (k ∷ ks) sub r e f = absurd (cc)

pub none_is : (kinds : Kinds) (sub : Option (Text × List Row)) → (kinds ≡ [] → ⊥) → None ≡ (if is_empty kinds then command_in sub else None)
none_is [] sub h = absurd (h refl)
none_is (k ∷ ks) sub h = let some : is_empty (k ∷ ks) ≡ false = grind (arith) in rw some refl
