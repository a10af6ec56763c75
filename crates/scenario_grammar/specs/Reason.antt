-- Why a text or a scenario is refused: the numbers that a refusal shows, and their texts.
use Rattle.std.specs.Prelude.{ℕ, ◌-◌, ◌==◌, if◌then◌else◌, List, [], ◌∷◌, ◌++◌, codes, slice_index_or}
use Rattle.gv_values.specs.Texts.{decimal}
use Rattle.scenario_grammar.specs.declared.limits.TheConstants.{MOST_LEVELS, MOST_LONG_TEXT, MOST_TEXT}
use Rattle.scenario_grammar.specs.declared.reason.TextReason.{TextReason}
use Rattle.scenario_grammar.specs.declared.reason.TextReason.TheVariants as text
use Rattle.scenario_grammar.specs.declared.reason.RuleReason.{RuleReason}
use Rattle.scenario_grammar.specs.declared.reason.RuleReason.TheVariants as rule

-- the number of a reason why bytes are no text
abbrev pub text_number : TextReason → ℕ
text_number text.TooLarge = 1
text_number text.NotPrintable = 2
text_number text.NotEnded = 3
text_number text.BlankOutOfPlace = 4
text_number text.UnknownWord = 5
text_number text.TooShort = 6
text_number text.TooLong = 7
text_number text.MisspelledNumber = 8
text_number text.OutOfRange = 9
text_number text.NotAName = 10
text_number text.BlockWordOutOfPlace = 11
text_number text.NotClosed = 12
text_number text.LineOutOfPlace = 13
text_number text.NoMain = 14
text_number text.NestedTooDeep = 21
text_number text.LongTooLarge = 26

-- the number of a reason why a scenario breaks its rules
abbrev pub rule_number : RuleReason → ℕ
rule_number rule.Undeclared = 15
rule_number rule.DeclaredTwice = 16
rule_number rule.WrongKind = 17
rule_number rule.WrongCount = 18
rule_number rule.HubInRawBody = 19
rule_number rule.TimeoutsTooDeep = 20
rule_number rule.TooMany = 22

-- what the refusal of a text says that is longer than so many bytes
abbrev pub longer_than : ℕ → List ℕ
longer_than most = codes "text longer than " ++ decimal most ++ codes " bytes"

-- what a refusal says, from number 1 on
abbrev pub texts : List (List ℕ)
texts =
    longer_than MOST_TEXT
    ∷ codes "byte that is not printable ASCII"
    ∷ codes "last line not ended"
    ∷ codes "blank out of place"
    ∷ codes "unknown word"
    ∷ codes "line too short"
    ∷ codes "line too long"
    ∷ codes "number not in its one spelling"
    ∷ codes "number out of range"
    ∷ codes "name not allowed"
    ∷ codes "block word out of place"
    ∷ codes "block not closed"
    ∷ codes "line out of place"
    ∷ codes "no main"
    ∷ codes "undeclared name"
    ∷ codes "name declared twice"
    ∷ codes "wrong kind of name"
    ∷ codes "wrong count of parameters or arguments"
    ∷ codes "hub statement in a raw body"
    ∷ codes "timeout blocks nested past 8"
    ∷ (codes "nesting past " ++ decimal MOST_LEVELS)
    ∷ codes "too many declarations"
    ∷ []

-- the text of the reason of this number
abbrev pub reason_text : ℕ → List ℕ
reason_text reason = if reason == 26 then longer_than MOST_LONG_TEXT else slice_index_or texts (reason - 1) []
