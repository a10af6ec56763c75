use Rattle.std.proofs.Common.{rules, ◌≡◌, List, None, sym, ◌∙◌}
use Rattle.scenario_grammar.specs.declared.keyword.Keyword.{Keyword}
use Rattle.scenario_grammar.specs.declared.phrase.Phrase.TheVariants as phrase
use Rattle.scenario_grammar.specs.declared.token.Token.{Token}
use Rattle.scenario_grammar.specs.Reading.{◌<$>◌, giving_by, phrase_by}
use Rattle.scenario_lines.specs.declared.kind.LineKind.TheVariants as kind
use Rattle.scenario_lines.specs.Kinds.{kind_by}
use Rattle.scenario_lines.proofs.phrase.read_by_word.Goals as goal

-- what begins no other line gives a value, or says nothing
other_line : (word : Keyword) (ts : List Token) → kind_by word ≡ kind.Other → phrase_by word ts ≡ (phrase.Giving None <$> giving_by word) ts
other_line word ts h = search rules

pub returns-in-Other : goal.returns-in-Other
returns-in-Other c =
    rw (other_line c.args.word c.args.cursor.now (sym c.line_kind.ensures ∙ c.in-Other.is))
    (c.given_to.ensures (giving_by c.args.word c.args.cursor.now) c.read_giving.new.cursor c.read_giving.ensures)
