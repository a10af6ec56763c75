use Rattle.std.proofs.Common.{rules, ◌≡◌, List, ◌∷◌, sym, ap, ◌∙◌}
use denote.Enum.Bare.{same_true}
use Rattle.scenario_grammar.specs.contracts.keyword.Keyword.{the_type}
use Rattle.scenario_grammar.specs.declared.token.Token.{Token}
use Rattle.scenario_grammar.specs.declared.token.Token.TheVariants as token
use Rattle.scenario_lines.proofs.cursor.Cursor.takes.Goals as goal

pub returns-in-Some-Fixed : goal.returns-in-Some-Fixed
returns-in-Some-Fixed c =
    let same : c.in-Some-Fixed.first ≡ c.args.word = same_true the_type (search rules) c.in-Some-Fixed.first c.args.word (sym c.eq.ensures ∙ c.if-eq.true) in
    let stands : (rest : List Token) → c.args.self.now ≡ token.Fixed c.in-Some-Fixed.first ∷ rest → c.args.self.now ≡ token.Fixed c.args.word ∷ rest = λ rest e. e ∙ ap (λ w. token.Fixed w ∷ rest) same in
    search (rules, stands)
