-- Texts and their trees, by computation.
use Rattle.std.proofs.Common.{lit≤, ◌≡◌, ℕ, pos, refl, List, [], ◌∷◌, ◌++◌, Some, None, Ok, false, true, codes}
use Rattle.std.specs.List.{flat_map}
use Rattle.std.specs.Fmt.{digits}
use denote.Hole.Carrier.{out, shown, hidden}
use Rattle.scenario_tree.specs.declared.tree.Expression.TheBlock.{shown-the_row-Expression-0, shown-the_row-Expression-1}
use Rattle.scenario_tree.specs.declared.tree.Action.TheBlock.{shown-the_row-Statement-0, shown-the_row-Except-1}
use Rattle.scenario_tree.specs.declared.tree.Action.{Action}
use Rattle.scenario_tree.specs.declared.tree.Giving.TheVariants as giving
use Rattle.scenario_tree.specs.declared.tree.Statement.{Statement}
use Rattle.scenario_tree.specs.declared.tree.Object.TheVariants as object
use Rattle.scenario_tree.specs.declared.tree.QueueKind.TheVariants as queue
use Rattle.scenario_tree.specs.declared.tree.Wait.TheVariants as wait
use Rattle.scenario_tree.specs.declared.tree.Binary.TheVariants as binary
use Rattle.gv_values.specs.declared.arith.Arith.TheVariants as arith
use Rattle.scenario_tree.specs.declared.tree.Query.TheVariants as query
use Rattle.scenario_grammar.specs.Spells.{Spells}
use Rattle.scenario_grammar.specs.Printed.{printed}
use Rattle.scenario_tree.specs.declared.tree.Expression.TheVariants as e
use Rattle.scenario_tree.specs.declared.tree.Expression.{out-Expression}
use Rattle.scenario_tree.specs.declared.tree.Command.TheVariants as command
use Rattle.scenario_tree.specs.declared.tree.Action.TheVariants as a
use Rattle.scenario_tree.specs.declared.tree.Action.{out-Action}
use Rattle.scenario_tree.specs.declared.tree.Scenario.{Scenario}
use Rattle.scenario_grammar.specs.Layout.{lines}
use Rattle.scenario_grammar.specs.Parsed.{reading, read_lines}
use Rattle.scenario_grammar.specs.Reading.{phrase_of, nested_at, name_at, number_at, integer_at}
use Rattle.scenario_grammar.specs.Expressions.{tokens_within}
use Rattle.scenario_grammar.specs.Keyword.{keyword_of, keywords}
use Rattle.scenario_grammar.specs.Token.{name, token_of}
use Rattle.scenario_grammar.specs.Blocks.{scenario_lines, block_within}
use Rattle.scenario_grammar.specs.Phrase.{phrase_tokens}

abbrev text : List (List ℕ) → List ℕ
text = flat_map (λ l. l ++ 10 ∷ [])

abbrev one_text : List ℕ
one_text = text (codes "def main" ∷ codes "print 1" ∷ codes "end" ∷ [])

abbrev one_tree : Scenario
one_tree = record {
  profile = 1;
  objects = [];
  functions = record {
    line = 1;
    is_raw = false;
    name = codes "main";
    parameters = [];
    body = record { line = 2; action = a.Command (command.Print (e.Int (pos 1))) } ∷ [];
  } ∷ [];
}

one_lines : lines one_text ≡ record { number = 1; words = codes "def" ∷ codes "main" ∷ [] }
    ∷ record { number = 2; words = codes "print" ∷ codes "1" ∷ [] } ∷ record { number = 3; words = codes "end" ∷ [] } ∷ []
unfolding lines
one_lines = refl

prints_one : Spells one_tree one_text
unfolding token_of lines scenario_lines block_within phrase_tokens tokens_within keyword_of keywords name out-Expression out-Action out digits
prints_one = record {
  text = record { short = lit≤ tt; printable = refl; ended = refl; spaced = refl };
  has_main = refl;
  tree_lines = ((refl, refl), ((refl, refl), ((refl, tt), tt)));
}

pool_text : List ℕ
pool_text = text (codes "queue q join 4" ∷ codes "pool p 3" ∷ codes "def worker" ∷ codes "while true" ∷ codes "n <- qget q"
    ∷ codes "try" ∷ codes "sleep 10" ∷ codes "print n" ∷ codes "finally" ∷ codes "qdone q" ∷ codes "end" ∷ codes "end" ∷ codes "end"
    ∷ codes "def main" ∷ codes "a <- gspawn p worker" ∷ codes "b <- gspawn p worker" ∷ codes "c <- gspawn p worker" ∷ codes "let i 1"
    ∷ codes "while <= i 4" ∷ codes "qput q i" ∷ codes "let i + i 1" ∷ codes "end" ∷ codes "timeout 100" ∷ codes "qjoin q" ∷ codes "end"
    ∷ codes "gkill p" ∷ codes "print unfinished q" ∷ codes "end" ∷ [])

abbrev at : ℕ → Action → Statement
at n action = record { line = n; action = action }

abbrev pool_tree : Scenario
pool_tree =
    let i = e.Local (codes "i") in
    let q = codes "q" in
    let p = codes "p" in
    let spawned = giving.GroupSpawn p (codes "worker") [] in
    record {
      profile = 1;
      objects = record { line = 1; name = q; object = object.Queue queue.Join (Some 4) } ∷ record { line = 2; name = p; object = object.Pool 3 } ∷ [];
      functions = record {
        line = 3;
        is_raw = false;
        name = codes "worker";
        parameters = [];
        body = at 4 (a.While (e.Bool true)
            (at 5 (a.Giving (Some (codes "n")) (giving.QueueGet q wait.Block))
            ∷ at 6 (a.Try (at 7 (a.Command (command.Sleep 10)) ∷ at 8 (a.Command (command.Print (e.Local (codes "n")))) ∷ []) []
            (Some (at 10 (a.Command (command.QueueDone q)) ∷ [])))
            ∷ [])) ∷ [];
      }
          ∷ record {
            line = 14;
            is_raw = false;
            name = codes "main";
            parameters = [];
            body = at 15 (a.Giving (Some (codes "a")) spawned) ∷ at 16 (a.Giving (Some (codes "b")) spawned) ∷ at 17 (a.Giving (Some (codes "c")) spawned)
                ∷ at 18 (a.Command (command.Let (codes "i") (e.Int (pos 1))))
                ∷ at 19 (a.While (e.Binary binary.AtMost i (e.Int (pos 4)))
                (at 20 (a.Command (command.QueuePut q i wait.Block))
                ∷ at 21 (a.Command (command.Let (codes "i") (e.Binary (binary.Arithmetic arith.Add) i (e.Int (pos 1))))) ∷ []))
                ∷ at 23 (a.Timeout (Some 100) false (at 24 (a.Giving None (giving.QueueJoin q None)) ∷ []))
                ∷ at 26 (a.Command (command.GroupKill p None false))
                ∷ at 27 (a.Command (command.Print (e.Query query.Unfinished q))) ∷ [];
          }
          ∷ [];
    }

pool_printed : lines (printed pool_tree) ≡ lines pool_text
unfolding printed lines scenario_lines block_within phrase_tokens tokens_within keyword_of keywords name out-Expression out-Action out digits pool_text shown-the_row-Expression-0 shown-the_row-Expression-1 shown-the_row-Statement-0 shown-the_row-Except-1 shown hidden
pool_printed = refl

-- the lines of the printed form of the first text, by their blanks
prints_one_again : printed one_tree ≡ text (codes "def main" ∷ codes "  print 1" ∷ codes "end" ∷ [])
unfolding printed scenario_lines block_within phrase_tokens tokens_within keyword_of keywords name out-Expression out-Action out digits
prints_one_again = refl

-- leading blanks, a comment and a line of nothing
abbrev loose_text : List ℕ
loose_text = text (codes "# x" ∷ codes "def main" ∷ codes "     print 1" ∷ [] ∷ codes "end" ∷ [])

abbrev loose_tree : Scenario
loose_tree = record {
  profile = 1;
  objects = [];
  functions = record { line = 2; is_raw = false; name = codes "main"; parameters = []; body = at 3 (a.Command (command.Print (e.Int (pos 1)))) ∷ [] } ∷ [];
}

loose_spelt : Spells loose_tree loose_text
unfolding token_of lines scenario_lines block_within phrase_tokens tokens_within keyword_of keywords name out-Expression out-Action out digits
loose_spelt = record { text = record { short = lit≤ tt; printable = refl; ended = refl; spaced = refl }; has_main = refl; tree_lines = ((refl, refl), ((refl, refl), ((refl, tt), tt))) }

loose_printed : printed loose_tree ≡ text (codes "def main" ∷ codes "  print 1" ∷ codes "end" ∷ [])
unfolding printed scenario_lines block_within phrase_tokens tokens_within keyword_of keywords name out-Expression out-Action out digits
loose_printed = refl

-- the text of the pool is read as its tree
pool_read : reading pool_text ≡ Ok pool_tree
unfolding reading read_lines pool_text lines token_of keyword_of keywords phrase_of nested_at name_at number_at integer_at
pool_read = refl

-- a text of profile 2 with each of its forms
abbrev later_text : List ℕ
later_text = text (codes "# x" ∷ codes "profile 2" ∷ codes "queue q join none" ∷ codes "channel c" ∷ codes "def main" ∷ codes "cput c 1" ∷ codes "x <- cget c"
    ∷ codes "cget c" ∷ codes "qshut q" ∷ codes "qshut q immediate" ∷ codes "end" ∷ [])

abbrev later_tree : Scenario
later_tree =
    let c = codes "c" in
    let q = codes "q" in
    record {
      profile = 2;
      objects = record { line = 3; name = q; object = object.Queue queue.Join None } ∷ record { line = 4; name = c; object = object.Channel } ∷ [];
      functions = record {
        line = 5;
        is_raw = false;
        name = codes "main";
        parameters = [];
        body = at 6 (a.Command (command.ChannelPut c (e.Int (pos 1)))) ∷ at 7 (a.Giving (Some (codes "x")) (giving.ChannelGet c)) ∷ at 8 (a.Giving None (giving.ChannelGet c))
            ∷ at 9 (a.Command (command.QueueShut q false)) ∷ at 10 (a.Command (command.QueueShut q true)) ∷ [];
      }
          ∷ [];
    }

later_read : reading later_text ≡ Ok later_tree
unfolding reading read_lines later_text lines token_of keyword_of keywords phrase_of nested_at name_at number_at integer_at
later_read = refl

-- its printed form begins with the line of the profile
later_printed : printed later_tree ≡ text (codes "profile 2" ∷ codes "queue q join none" ∷ codes "channel c" ∷ codes "def main" ∷ codes "  cput c 1" ∷ codes "  x <- cget c"
    ∷ codes "  cget c" ∷ codes "  qshut q" ∷ codes "  qshut q immediate" ∷ codes "end" ∷ [])
unfolding printed lines scenario_lines block_within phrase_tokens tokens_within keyword_of keywords name out-Expression out-Action out digits shown-the_row-Expression-0 shown-the_row-Expression-1 shown-the_row-Statement-0 shown-the_row-Except-1 shown hidden
later_printed = refl

-- a text of profile 3
abbrev third_text : List ℕ
third_text = text (codes "# x" ∷ codes " profile 3" ∷ codes "event e" ∷ codes "def main" ∷ codes "end" ∷ [])

abbrev third_tree : Scenario
third_tree = record {
  profile = 3;
  objects = record { line = 3; name = codes "e"; object = object.Event } ∷ [];
  functions = record { line = 4; is_raw = false; name = codes "main"; parameters = []; body = [] } ∷ [];
}

third_read : reading third_text ≡ Ok third_tree
unfolding reading read_lines lines token_of keyword_of keywords phrase_of nested_at name_at number_at integer_at
third_read = refl

third_printed : printed third_tree ≡ text (codes "profile 3" ∷ codes "event e" ∷ codes "def main" ∷ codes "end" ∷ [])
unfolding printed scenario_lines block_within phrase_tokens tokens_within keyword_of keywords name out-Expression out-Action out digits
third_printed = refl
