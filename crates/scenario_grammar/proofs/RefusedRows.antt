-- Refused texts and their places, and the same mended, by computation.
use Rattle.std.proofs.Common.{replicate, ◌+◌, ◌≡◌, ◌==◌, ℕ, refl, List, [], ◌∷◌, ◌++◌, map, if◌then◌else◌, Option, Some, None, codes}
use Rattle.std.specs.List.{flat_map}
use Rattle.scenario_grammar.specs.declared.place.Place.{Place}
use Rattle.scenario_grammar.specs.Keyword.{keyword_of, keywords}
use Rattle.scenario_grammar.specs.Layout.{lines}
use Rattle.scenario_grammar.specs.Place.{place, judge_lines}
use Rattle.scenario_grammar.specs.Reading.{phrase_of, nested_at, name_at, number_at, integer_at}
use Rattle.scenario_grammar.specs.Token.{token_of}

abbrev at : ℕ → ℕ → Option Place
at line reason = Some (record { line = line; reason = reason })

-- `|` stands for the end of a line
abbrev line_end : ℕ → ℕ
line_end b = if b == 124 then 10 else b

-- so many blocks in a function
abbrev nested : ℕ → List ℕ
nested n = codes "def main|" ++ flat_map (λ w. w) (replicate n (codes "while true|")) ++ flat_map (λ w. w) (replicate (n + 1) (codes "end|"))

-- so many operators in front of an operand
abbrev negations : ℕ → List ℕ
negations n = codes "def main|print " ++ flat_map (λ w. w) (replicate n (codes "not ")) ++ codes "true|end|"

-- what a row shows, its text, and where that is refused
record Row : Type 0 where
  shows : List ℕ
  text : List ℕ
  place : Option Place

abbrev row : List ℕ → List ℕ → Option Place → Row
row shows text place = record { shows = shows; text = text; place = place }

abbrev rows : List Row
rows =
    row (codes "empty input") [] (at 1 14) ∷
    row (codes "prints one") (codes "def main|print 1|end|") None ∷
    row (codes "two blanks") (codes "def main|print  1|end|") (at 2 4) ∷
    row (codes "blank at the end") (codes "def main|print 1 |end|") (at 2 4) ∷
    row (codes "unknown statement") (codes "def main|foo 1|end|") (at 2 5) ∷
    row (codes "no operand") (codes "def main|print|end|") (at 2 6) ∷
    row (codes "one word too many") (codes "def main|print 1 2|end|") (at 2 7) ∷
    row (codes "leading zeros") (codes "def main|print 007|end|") (at 2 8) ∷
    row (codes "sleep too long") (codes "def main|sleep 1000000001|end|") (at 2 9) ∷
    row (codes "capital name") (codes "def main|let Q 1|end|") (at 2 10) ∷
    row (codes "end twice") (codes "def main|end|end|") (at 3 11) ∷
    row (codes "no value is given") (codes "def main|x <- print 1|end|") (at 2 5) ∷
    row (codes "unknown behind arrow") (codes "def main|x <- foo|end|") (at 2 5) ∷
    row (codes "nothing behind arrow") (codes "def main|x <-|end|") (at 2 6) ∷
    row (codes "number before arrow") (codes "def main|1 <- spawn w|end|") (at 2 10) ∷
    row (codes "no wait follows") (codes "def main|acquire s foo|end|") (at 2 7) ∷
    row (codes "neither mark nor set") (codes "def main|rawlink self foo 1|end|") (at 2 5) ∷
    row (codes "time wanted") (codes "def main|timeout foo|end|") (at 2 8) ∷
    row (codes "minus alone") (codes "def main|print -|end|") (at 2 6) ∷
    row (codes "minus and operand") (codes "def main|print - 1|end|") (at 2 6) ∷
    row (codes "minus and letter") (codes "def main|print -x|end|") (at 2 8) ∷
    row (codes "minus zero") (codes "def main|print -0|end|") (at 2 8) ∷
    row (codes "no word of expressions") (codes "def main|print !|end|") (at 2 5) ∷
    row (codes "statement as operand") (codes "def main|print sleep|end|") (at 2 5) ∷
    row (codes "past 64 bits") (codes "def main|print 9223372036854775808|end|") (at 2 9) ∷
    row (codes "negative time") (codes "def main|sleep -1|end|") (at 2 9) ∷
    row (codes "name wanted") (codes "def main|except any 5|end|") (at 2 11) ∷
    row (codes "too many operands") (codes "def main|list 1 2 3|end|") (at 2 5) ∷
    row (codes "greatest integer") (codes "def main|print 9223372036854775807|end|") None ∷
    row (codes "least integer") (codes "def main|print -9223372036854775808|end|") None ∷
    row (codes "below 64 bits") (codes "def main|print -9223372036854775809|end|") (at 2 9) ∷
    row (codes "name of 24 bytes") (codes "def main|let abcdefghijklmnopqrstuvwx 1|end|") None ∷
    row (codes "name of 25 bytes") (codes "def main|let abcdefghijklmnopqrstuvwxy 1|end|") (at 2 10) ∷
    row (codes "reserved name") (codes "def main|let channel 1|end|") (at 2 10) ∷
    row (codes "capital before arrow") (codes "Q <- spawn w|") (at 1 10) ∷
    row (codes "unknown outside") (codes "x <- foo|") (at 1 5) ∷
    row (codes "no value outside") (codes "x <- print 1|") (at 1 5) ∷
    row (codes "arrow alone") (codes "x <-|") (at 1 6) ∷
    row (codes "spawn outside") (codes "x <- spawn w|") (at 1 13) ∷
    row (codes "print outside") (codes "print|") (at 1 13) ∷
    row (codes "within outside") (codes "within 3|") (at 1 5) ∷
    row (codes "foo outside") (codes "foo|") (at 1 5) ∷
    row (codes "else outside") (codes "else|") (at 1 11) ∷
    row (codes "end outside") (codes "end|") (at 1 11) ∷
    row (codes "declared too late") (codes "def main|end|event e|") (at 3 13) ∷
    row (codes "declared inside") (codes "def main|event e|end|") (at 2 13) ∷
    row (codes "function inside") (codes "def main|def f|end|end|") (at 2 13) ∷
    row (codes "not closed") (codes "def main|print 1|# no end|") (at 3 12) ∷
    row (codes "raw main") (codes "rawdef main x|end|") (at 2 14) ∷
    row (codes "not ended") (codes "def main|end") (at 2 3) ∷
    row (codes "a tab") (codes "def main|" ++ 9 ∷ codes "print 1|end|") (at 2 2) ∷
    row (codes "try without handler") (codes "def main|try|end|end|") (at 3 11) ∷
    row (codes "except behind finally") (codes "def main|try|finally|except any|end|end|") (at 4 11) ∷
    row (codes "else twice") (codes "def main|if true|else|else|end|end|") (at 4 11) ∷
    row (codes "thirty two levels of blocks") (nested 31) None ∷
    row (codes "thirty three levels of blocks") (nested 32) (at 33 21) ∷
    row (codes "thirty two levels of operands") (negations 31) None ∷
    row (codes "thirty three levels of operands") (negations 32) (at 2 21) ∷
    row (codes "profile 4") (codes "profile 4|def main|end|") (at 1 9) ∷
    row (codes "profile 3") (codes "profile 3|def main|end|") None ∷
    row (codes "channel in profile 1") (codes "channel c|def main|end|") (at 1 5) ∷
    row (codes "profile behind a declaration") (codes "event e|profile 2|def main|end|") (at 2 13) ∷
    row (codes "profile 2") (codes "profile 2|def main|end|") None ∷
    row (codes "profile 2 behind what carries nothing") (codes "# x||  profile 2|def main|end|") None ∷
    row (codes "profile alone") (codes "profile|def main|end|") (at 1 6) ∷
    row (codes "profile 1") (codes "profile 1|def main|end|") (at 1 9) ∷
    row (codes "profile 2 and more") (codes "profile 2 3|def main|end|") (at 1 7) ∷
    row (codes "profile 3 and more") (codes "profile 3 4|def main|end|") (at 1 7) ∷
    row (codes "profile 3 behind profile 2") (codes "profile 2|profile 3|def main|end|") (at 2 13) ∷
    row (codes "profile below zero") (codes "profile -2|def main|end|") (at 1 9) ∷
    row (codes "profile past 64 bits") (codes "profile 9999999999999999999999|def main|end|") (at 1 9) ∷
    row (codes "profile of minus zero") (codes "profile -0|def main|end|") (at 1 8) ∷
    row (codes "profile with a zero in front") (codes "profile 02|def main|end|") (at 1 8) ∷
    row (codes "profile and a name") (codes "profile x|def main|end|") (at 1 8) ∷
    row (codes "profile and no number") (codes "profile 2x|def main|end|") (at 1 8) ∷
    row (codes "profile before an arrow") (codes "profile <- x|def main|end|") (at 1 10) ∷
    row (codes "profile with two blanks") (codes "profile  2|def main|end|") (at 1 4) ∷
    row (codes "profile twice") (codes "profile 2|profile 2|def main|end|") (at 2 13) ∷
    row (codes "profile alone behind a declaration") (codes "event e|profile|def main|end|") (at 2 13) ∷
    row (codes "profile and a name behind a declaration") (codes "event e|profile x|def main|end|") (at 2 13) ∷
    row (codes "profile in a function") (codes "def main|profile 2|end|") (at 2 13) ∷
    row (codes "profile alone in a function") (codes "def main|profile|end|") (at 2 13) ∷
    row (codes "profile behind a function") (codes "def main|end|profile 2|") (at 3 13) ∷
    row (codes "profile in a function of profile 2") (codes "profile 2|def main|profile 2|end|") (at 3 13) ∷
    row (codes "profile before an arrow in a function") (codes "def main|profile <- spawn w|end|") (at 2 10) ∷
    row (codes "profile before an arrow behind a declaration") (codes "event e|profile <- x|def main|end|") (at 2 10) ∷
    row (codes "profile with two blanks behind a declaration") (codes "event e|profile  2|def main|end|") (at 2 4) ∷
    row (codes "profile as a name") (codes "def main|let profile 1|end|") (at 2 10) ∷
    row (codes "profile as an operand") (codes "profile 2|def main|print profile|end|") (at 3 5) ∷
    row (codes "profile alone in the text") (codes "profile 2|") (at 1 14) ∷
    row (codes "channel in a function of profile 1") (codes "def main|channel c|end|") (at 2 5) ∷
    row (codes "channel in a function") (codes "profile 2|def main|channel c|end|") (at 3 13) ∷
    row (codes "channel behind a function") (codes "profile 2|def main|end|channel c|") (at 4 13) ∷
    row (codes "channel without a name") (codes "profile 2|channel|def main|end|") (at 2 6) ∷
    row (codes "channel with a size") (codes "profile 2|channel c 1|def main|end|") (at 2 7) ∷
    row (codes "channel") (codes "profile 2|channel c|def main|end|") None ∷
    row (codes "cput in profile 1") (codes "def main|cput c 1|end|") (at 2 5) ∷
    row (codes "cput outside in profile 1") (codes "cput c 1|def main|end|") (at 1 5) ∷
    row (codes "cput outside") (codes "profile 2|cput c 1|def main|end|") (at 2 13) ∷
    row (codes "cput without a value") (codes "profile 2|def main|cput c|end|") (at 3 6) ∷
    row (codes "cput with a wait") (codes "profile 2|def main|cput c 1 now|end|") (at 3 7) ∷
    row (codes "value of cput") (codes "profile 2|def main|x <- cput c 1|end|") (at 3 5) ∷
    row (codes "cget in profile 1") (codes "def main|x <- cget c|end|") (at 2 5) ∷
    row (codes "cget outside in profile 1") (codes "x <- cget c|") (at 1 5) ∷
    row (codes "cget outside") (codes "profile 2|x <- cget c|") (at 2 13) ∷
    row (codes "cget with a wait") (codes "profile 2|def main|cget c within 1|end|") (at 3 7) ∷
    row (codes "cget") (codes "profile 2|def main|cget c|x <- cget c|end|") None ∷
    row (codes "qshut in profile 1") (codes "def main|qshut q|end|") (at 2 5) ∷
    row (codes "qshut and another word") (codes "profile 2|def main|qshut q now|end|") (at 3 7) ∷
    row (codes "qshut immediate and more") (codes "profile 2|def main|qshut q immediate now|end|") (at 3 7) ∷
    row (codes "value of qshut") (codes "profile 2|def main|x <- qshut q|end|") (at 3 5) ∷
    row (codes "qshut") (codes "profile 2|def main|qshut q|qshut q immediate|end|") None ∷
    row (codes "immediate in profile 1") (codes "def main|immediate|end|") (at 2 5) ∷
    row (codes "immediate") (codes "profile 2|def main|immediate|end|") (at 3 5) ∷
    row (codes "immediate as a name") (codes "profile 2|def main|let immediate 1|end|") (at 3 10) ∷
    row (codes "profile 3 has the words of profile 2") (codes "profile 3|channel c|def main|cput c 1|x <- cget c|qshut q immediate|end|") None ∷
    row (codes "names in profile 3 that begin no statement yet") (codes "profile 3|def cancel gadd|print gadd|end|def main|gdrop <- spawn cancel 5|end|") None ∷
    row (codes "let outside a function in profile 3") (codes "profile 3|let n 0|def main|end|") (at 2 13) ∷
    row (codes "cget as a name in profile 1") (codes "def main|let cget 1|end|") (at 2 10) ∷
    []

all_rows : map (λ (r : Row). place (map line_end r.text)) rows ≡ map (λ (r : Row). r.place) rows
unfolding place lines judge_lines token_of keyword_of keywords phrase_of nested_at name_at number_at integer_at
all_rows = refl
