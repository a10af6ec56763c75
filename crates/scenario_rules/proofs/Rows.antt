-- Scenarios and the places where they are refused, by computation.
use Rattle.std.proofs.Common.{◌≡◌, ◌==◌, ℕ, refl, List, [], ◌∷◌, map, if◌then◌else◌, Option, Some, None, Ok, Err, codes}
use denote.Hole.Carrier.{hidden, out, shown, roll}
use Rattle.scenario_tree.specs.declared.tree.Expression.TheBlock.{shape-the_row-Expression-0, hidden-the_row-Expression-0, shown-the_row-Expression-0, shape-the_row-Expression-1, hidden-the_row-Expression-1, shown-the_row-Expression-1}
use Rattle.scenario_tree.specs.declared.tree.Action.TheBlock.{shown-the_row-Statement-0, shown-the_row-Except-1}
use Rattle.scenario_tree.specs.declared.tree.Action.{out-Action}
use Rattle.scenario_tree.specs.declared.tree.Except.{out-Except, roll-Except}
use Rattle.scenario_grammar.specs.declared.place.Place.{Place}
use Rattle.scenario_grammar.specs.Keyword.{keyword_of, keywords}
use Rattle.scenario_grammar.specs.Layout.{lines}
use Rattle.scenario_grammar.specs.Parsed.{reading, read_lines}
use Rattle.scenario_grammar.specs.Reading.{phrase_of, nested_at, name_at, number_at, integer_at}
use Rattle.scenario_grammar.specs.Token.{token_of}
use Rattle.scenario_rules.specs.Mention.{statement_mentions}
use Rattle.scenario_rules.specs.Rules.{place_of}

abbrev at : ℕ → ℕ → Option Place
at line reason = Some (record { line = line; reason = reason })

abbrev line_end : ℕ → ℕ
line_end b = if b == 124 then 10 else b

-- where the text is refused, by the grammar or by the rules; `|` stands for the end of a line
abbrev refused_at : List ℕ → Option Place
refused_at text = elim (reading (map line_end text)) [ Ok s ↦ place_of s | Err p ↦ Some p ]

-- what a row shows, its text, and where that is refused
record Row : Type 0 where
  shows : List ℕ
  text : List ℕ
  place : Option Place

abbrev row : List ℕ → List ℕ → Option Place → Row
row shows text place = record { shows = shows; text = text; place = place }

abbrev rows : List Row
rows =
    row (codes "undeclared name") (codes "def main|print x|end|") (at 2 15) ∷
    row (codes "local name is declared") (codes "def main|let x 1|print x|end|") None ∷
    row (codes "undeclared object") (codes "def main|set e|end|") (at 2 15) ∷
    row (codes "declared object") (codes "event e|def main|set e|end|") None ∷
    row (codes "local name is no object") (codes "def main|let x 1|set x|end|") (at 3 15) ∷
    row (codes "undeclared function") (codes "def main|spawn w|end|") (at 2 15) ∷
    row (codes "undeclared raw body") (codes "def main|raw w|end|") (at 2 15) ∷
    row (codes "name given later") (codes "def main|print x|let x 1|end|") None ∷
    row (codes "name of an except") (codes "def main|try|except any f|print f|end|end|") None ∷
    row (codes "name taken from a statement") (codes "def w|end|def main|a <- spawn w|join a|end|") None ∷
    row (codes "object twice") (codes "event e|group e|def main|end|") (at 2 16) ∷
    row (codes "function with the name of an object") (codes "event e|def e|end|def main|end|") (at 2 16) ∷
    row (codes "main twice") (codes "def main|end|def main|end|") (at 3 16) ∷
    row (codes "parameter twice") (codes "def w x x|end|def main|end|") (at 1 16) ∷
    row (codes "two parameters") (codes "def w x y|end|def main|end|") None ∷
    row (codes "object as a local name") (codes "event e|def main|print e|end|") (at 3 17) ∷
    row (codes "object given a value") (codes "event e|def main|let e 1|end|") (at 3 17) ∷
    row (codes "object as a parameter") (codes "event e|def w e|end|def main|end|") (at 2 17) ∷
    row (codes "used before it is given") (codes "event e|def main|print e|let e 1|end|") (at 3 17) ∷
    row (codes "group as an event") (codes "group e|def main|set e|end|") (at 3 17) ∷
    row (codes "queue without tasks") (codes "queue q fifo none|def main|qdone q|end|") (at 3 17) ∷
    row (codes "queue of tasks") (codes "queue q join none|def main|qdone q|end|") None ∷
    row (codes "result has no counter") (codes "result r|def main|print counter r|end|") (at 3 17) ∷
    row (codes "counter of a semaphore") (codes "sem r 1|def main|print counter r|end|") None ∷
    row (codes "result may be set") (codes "result r|def main|print isset r|end|") None ∷
    row (codes "raw body spawned") (codes "rawdef r v|end|def main|spawn r 1|end|") (at 4 17) ∷
    row (codes "function as a raw body") (codes "def w v|end|def main|raw w|end|") (at 4 17) ∷
    row (codes "raw body run") (codes "rawdef r v|end|def main|raw r|end|") None ∷
    row (codes "object spawned") (codes "event e|def main|spawn e|end|") (at 3 17) ∷
    row (codes "one argument too many") (codes "def w|end|def main|spawn w 1|end|") (at 4 18) ∷
    row (codes "as many arguments as parameters") (codes "def w x|end|def main|spawn w 1|end|") None ∷
    row (codes "link with a function of none") (codes "def w|end|def main|link self w|end|") (at 4 18) ∷
    row (codes "main with a parameter") (codes "def main x|end|") (at 1 18) ∷
    row (codes "first declaration decides") (codes "def main|spawn w 1|end|def w|end|def w x|end|") (at 2 18) ∷
    row (codes "sleep in a raw body") (codes "rawdef r v|sleep 0|end|def main|end|") (at 2 19) ∷
    row (codes "timeout in a raw body") (codes "rawdef r v|timeout 1|end|end|def main|end|") (at 2 19) ∷
    row (codes "switch in a raw body") (codes "rawdef r v|switch v 1|end|def main|end|") None ∷
    row (codes "nine timeouts") (codes "def main|timeout none|timeout none|timeout none|timeout none|timeout none|timeout none|timeout none|timeout none|timeout none|end|end|end|end|end|end|end|end|end|end|") (at 10 20) ∷
    row (codes "eight timeouts") (codes "def main|timeout none|timeout none|timeout none|timeout none|timeout none|timeout none|timeout none|timeout none|end|end|end|end|end|end|end|end|end|") None ∷
    row (codes "eight timeouts twice") (codes "def main|timeout none|timeout none|timeout none|timeout none|timeout none|timeout none|timeout none|timeout none|end|end|end|end|end|end|end|end|timeout none|timeout none|timeout none|timeout none|timeout none|timeout none|timeout none|timeout none|end|end|end|end|end|end|end|end|end|") None ∷
    row (codes "seventeen parameters") (codes "def w x0 x1 x2 x3 x4 x5 x6 x7 x8 x9 x10 x11 x12 x13 x14 x15 x16|end|def main|end|") (at 1 22) ∷
    row (codes "sixteen parameters") (codes "def w x0 x1 x2 x3 x4 x5 x6 x7 x8 x9 x10 x11 x12 x13 x14 x15|end|def main|end|") None ∷
    row (codes "lesser reason first") (codes "event e|def w e e|end|def main|end|") (at 2 16) ∷
    row (codes "undeclared before wrong kind") (codes "event e|def main|print + e x|end|") (at 3 15) ∷
    row (codes "queue shut") (codes "profile 2|queue q fifo 1|def main|qshut q|qshut q immediate|end|") None ∷
    row (codes "event shut as a queue") (codes "profile 2|event q|def main|qshut q|end|") (at 4 17) ∷
    row (codes "nothing to shut") (codes "profile 2|def main|qshut q|end|") (at 3 15) ∷
    row (codes "channel put and got") (codes "profile 2|channel c|def main|cput c 1|x <- cget c|print x|end|") None ∷
    row (codes "cput on a queue") (codes "profile 2|queue c fifo 1|def main|cput c 1|end|") (at 4 17) ∷
    row (codes "cget on a queue") (codes "profile 2|queue c fifo 1|def main|cget c|end|") (at 4 17) ∷
    row (codes "qput on a channel") (codes "profile 2|channel c|def main|qput c 1|end|") (at 4 17) ∷
    row (codes "qshut on a channel") (codes "profile 2|channel c|def main|qshut c|end|") (at 4 17) ∷
    row (codes "cput on a function") (codes "profile 2|def c|end|def main|cput c 1|end|") (at 5 17) ∷
    row (codes "undeclared channel") (codes "profile 2|def main|cget c|end|") (at 3 15) ∷
    row (codes "channel as a local name") (codes "profile 2|channel c|def main|print c|end|") (at 4 17) ∷
    row (codes "value put is undeclared") (codes "profile 2|channel c|def main|cput c x|end|") (at 4 15) ∷
    row (codes "cput in a raw body") (codes "profile 2|channel c|rawdef r v|cput c v|end|def main|end|") (at 4 19) ∷
    row (codes "cget in a raw body") (codes "profile 2|channel c|rawdef r v|cget c|end|def main|end|") (at 4 19) ∷
    row (codes "qshut in a raw body") (codes "profile 2|queue q fifo 1|rawdef r v|qshut q|end|def main|end|") (at 4 19) ∷
    row (codes "queue as an event in profile 3") (codes "profile 3|queue q fifo 1|def main|set q|end|") (at 4 17) ∷
    row (codes "counter of a queue in profile 3") (codes "profile 3|queue q fifo 1|def main|print counter q|end|") (at 4 17) ∷
    row (codes "function as a value in profile 3") (codes "profile 3|def w|end|def main|print w|end|") (at 5 17) ∷
    row (codes "function as an event in profile 3") (codes "profile 3|def w|end|def main|set w|end|") (at 5 17) ∷
    row (codes "undeclared event in profile 3") (codes "profile 3|def main|set x|end|") (at 3 15) ∷
    row (codes "object given a value in profile 3") (codes "profile 3|event e|def main|let e 1|end|") (at 4 17) ∷
    row (codes "channel twice") (codes "profile 2|channel c|channel c|def main|end|") (at 3 16) ∷
    []

all_rows : map (λ (r : Row). refused_at r.text) rows ≡ map (λ (r : Row). r.place) rows
unfolding place_of statement_mentions reading read_lines lines token_of keyword_of keywords phrase_of nested_at name_at number_at integer_at shape-the_row-Expression-0 hidden-the_row-Expression-0 shown-the_row-Expression-0 shape-the_row-Expression-1 hidden-the_row-Expression-1 shown-the_row-Expression-1 shown-the_row-Statement-0 shown-the_row-Except-1 out-Action out-Except roll-Except hidden out shown roll
all_rows = refl
