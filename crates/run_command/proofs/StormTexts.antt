-- The text of a storm spells a well-formed scenario, whatever its size.
use Rattle.std.proofs.Common.{◌≡◌, ℕ, zero, suc, ◌+◌, ◌^◌, ◌<◌, ◌≤◌, pos, Bool, true, false, ◌&&◌, not, cond, if◌then◌else◌, nat_le, List, [], ◌∷◌, ◌++◌, length, map, drop, get_or, ◌-◌, append-nil, Some, None, codes, refl, sym, ap, subst, ◌∙◌, arith, append_assoc, length-append}
use Rattle.std.specs.Prelude.{◌==◌}
use Rattle.std.specs.List.{list_all, slice_split, onto_first}
use Rattle.std.specs.Option.{IsSomeAnd}
use Rattle.std.specs.Fmt.{digits}
use Rattle.std.specs.Fmt.{decimal as printed}
use Rattle.std.specs.Str.Parse.{AllDigits, digits_value}
use Rattle.std.proofs.lemmas.Bool.{and_from}
use Rattle.std.proofs.lemmas.Bool.Decides.{nat_tests}
use Rattle.std.proofs.lemmas.Fmt.{decimal_is_IsNumeral, first_decimal, length-decimal-le}
use Rattle.std.proofs.lemmas.List.Folds.{list_all-append}
use Rattle.std.proofs.lemmas.Str.Parse.{digit_from_value}
use denote.Hole.Carrier.{out, shown, hidden, roll}
use Rattle.gv_values.specs.Digits.{is_plain_number}
use Rattle.gv_values.specs.Name.{is_digit}
use Rattle.gv_values.specs.declared.arith.Arith.TheVariants as arithmetic
use Rattle.gv_values.proofs.Decimals.{printed_decimal}
use Rattle.scenario_tree.specs.declared.tree.Action.{Action, out-Action}
use Rattle.scenario_tree.specs.declared.tree.Action.TheBlock.{shown-the_row-Statement-0, shown-the_row-Except-1}
use Rattle.scenario_tree.specs.declared.tree.Action.TheVariants as a
use Rattle.scenario_tree.specs.declared.tree.Binary.TheVariants as binary
use Rattle.scenario_tree.specs.declared.tree.Command.TheVariants as command
use Rattle.scenario_tree.specs.declared.tree.Except.{out-Except, roll-Except}
use Rattle.scenario_tree.specs.declared.tree.Expression.{out-Expression}
use Rattle.scenario_tree.specs.declared.tree.Expression.TheBlock.{shape-the_row-Expression-0, hidden-the_row-Expression-0, shown-the_row-Expression-0, shape-the_row-Expression-1, hidden-the_row-Expression-1, shown-the_row-Expression-1}
use Rattle.scenario_tree.specs.declared.tree.Expression.TheVariants as e
use Rattle.scenario_tree.specs.declared.tree.Giving.TheVariants as giving
use Rattle.scenario_tree.specs.declared.tree.Object.TheVariants as object
use Rattle.scenario_tree.specs.declared.tree.Query.TheVariants as query
use Rattle.scenario_tree.specs.declared.tree.Scenario.{Scenario}
use Rattle.scenario_tree.specs.declared.tree.Statement.{Statement}
use Rattle.scenario_tree.specs.declared.tree.Wait.TheVariants as wait
use Rattle.scenario_grammar.specs.declared.keyword.Keyword.TheVariants as k
use Rattle.scenario_grammar.specs.declared.phrase.Phrase.TheVariants as phrase
use Rattle.scenario_grammar.specs.declared.token.Token.{Token}
use Rattle.scenario_grammar.specs.declared.token.Token.TheVariants as token
use Rattle.scenario_grammar.specs.Blocks.{scenario_lines, block_within}
use Rattle.scenario_grammar.specs.Expressions.{tokens_within}
use Rattle.scenario_grammar.specs.Keyword.{keywords, keyword_of}
use Rattle.scenario_grammar.specs.Layout.{Line, Word, lines, lines_from, is_blank, is_end, is_ended, is_spaced, is_text_byte}
use Rattle.scenario_grammar.specs.Phrase.{phrase_tokens}
use Rattle.scenario_grammar.specs.Spells.{AreTreeLines, Spells}
use Rattle.scenario_grammar.specs.Token.{◌⊕◌, ◌▹◌, only_if, name, token_of, token_in, known_in, number_token, in_64_bits, begins_number}
use Rattle.scenario_grammar.proofs.LongForms.{within_short}
use Rattle.scenario_rules.specs.Mention.{statement_mentions}
use Rattle.scenario_rules.specs.Rules.{IsWellFormed}
use Rattle.run_command.specs.Storming.{storm_text, storm_head, storm_tail}

-- ---- the scenario

abbrev at : ℕ → Action → Statement
at n action = record { line = n; action = action }

-- the scenario of the storm of n greenlets
abbrev pub storm : ℕ → Scenario
storm n =
    let s = codes "s" in
    let g = codes "g" in
    let w = codes "w" in
    let i = codes "i" in
    record {
      profile = 1;
      objects = record { line = 1; name = s; object = object.Semaphore 0 } ∷ record { line = 2; name = g; object = object.Group } ∷ [];
      functions = record {
        line = 3;
        is_raw = false;
        name = w;
        parameters = i ∷ [];
        body = at 4 (a.Giving None (giving.Acquire s (wait.Within 1000))) ∷ at 5 (a.Command (command.Release s)) ∷ [];
      }
          ∷ record {
            line = 7;
            is_raw = false;
            name = codes "main";
            parameters = [];
            body = at 8 (a.Command (command.Let i (e.Int (pos 1))))
                ∷ at 9 (a.While (e.Binary binary.AtMost (e.Local i) (e.Int (pos n)))
                (at 10 (a.Giving None (giving.GroupSpawn g w (e.Local i ∷ [])))
                ∷ at 11 (a.Command (command.Let i (e.Binary (binary.Arithmetic arithmetic.Add) (e.Local i) (e.Int (pos 1))))) ∷ []))
                ∷ at 13 (a.Command (command.Sleep 0))
                ∷ at 14 (a.Command (command.Release s))
                ∷ at 15 (a.Command (command.GroupJoin g None))
                ∷ at 16 (a.Command (command.Print (e.Query query.Counter s))) ∷ [];
          }
          ∷ [];
    }

well_formed : (n : ℕ) → IsWellFormed (storm n)
unfolding IsWellFormed statement_mentions shape-the_row-Expression-0 hidden-the_row-Expression-0 shown-the_row-Expression-0 shape-the_row-Expression-1 hidden-the_row-Expression-1 shown-the_row-Expression-1 shown-the_row-Statement-0 shown-the_row-Except-1 out-Action out-Except roll-Except hidden out shown roll
well_formed n = refl

-- ---- its lines

abbrev words_at : ℕ → List Word → Line
words_at n words = record { number = n; words = words }

-- the lines of the text, of which one ends with these words
abbrev lines_with : List Word → List Line
lines_with last =
    words_at 1 (codes "sem" ∷ codes "s" ∷ codes "0" ∷ [])
    ∷ words_at 2 (codes "group" ∷ codes "g" ∷ [])
    ∷ words_at 3 (codes "def" ∷ codes "w" ∷ codes "i" ∷ [])
    ∷ words_at 4 (codes "acquire" ∷ codes "s" ∷ codes "within" ∷ codes "1000" ∷ [])
    ∷ words_at 5 (codes "release" ∷ codes "s" ∷ [])
    ∷ words_at 6 (codes "end" ∷ [])
    ∷ words_at 7 (codes "def" ∷ codes "main" ∷ [])
    ∷ words_at 8 (codes "let" ∷ codes "i" ∷ codes "1" ∷ [])
    ∷ words_at 9 (codes "while" ∷ codes "<=" ∷ codes "i" ∷ last)
    ∷ words_at 10 (codes "gspawn" ∷ codes "g" ∷ codes "w" ∷ codes "i" ∷ [])
    ∷ words_at 11 (codes "let" ∷ codes "i" ∷ codes "+" ∷ codes "i" ∷ codes "1" ∷ [])
    ∷ words_at 12 (codes "end" ∷ [])
    ∷ words_at 13 (codes "sleep" ∷ codes "0" ∷ [])
    ∷ words_at 14 (codes "release" ∷ codes "s" ∷ [])
    ∷ words_at 15 (codes "gjoin" ∷ codes "g" ∷ [])
    ∷ words_at 16 (codes "print" ∷ codes "counter" ∷ codes "s" ∷ [])
    ∷ words_at 17 (codes "end" ∷ []) ∷ []

-- the pieces of these bytes and of what follows, given the pieces of that
abbrev split_onto : (ℕ → Bool) → List ℕ → List (List ℕ) → List (List ℕ)
split_onto p [] ps = ps
split_onto p (x ∷ xs) ps = cond (p x) ([] ∷ split_onto p xs ps) (onto_first x (split_onto p xs ps))

split_append : (p : ℕ → Bool) (xs ys : List ℕ) → slice_split p (xs ++ ys) ≡ split_onto p xs (slice_split p ys)
split_append p [] ys = refl
split_append p (x ∷ xs) ys = ap (λ ps. cond (p x) ([] ∷ ps) (onto_first x ps)) (split_append p xs ys)

-- bytes at none of which it splits are one piece
split_none : (p : ℕ → Bool) (xs : List ℕ) (q : List ℕ) (ps : List (List ℕ)) → list_all (λ x. not (p x)) xs ≡ true → split_onto p xs (q ∷ ps) ≡ (xs ++ q) ∷ ps
split_none p [] q ps h = refl
split_none p (x ∷ xs) q ps h = by (p x) (split_none p xs q ps) h
  where
    by : (b : Bool) → (list_all (λ x. not (p x)) xs ≡ true → split_onto p xs (q ∷ ps) ≡ (xs ++ q) ∷ ps) → (not b && list_all (λ x. not (p x)) xs) ≡ true
        → cond b ([] ∷ split_onto p xs (q ∷ ps)) (onto_first x (split_onto p xs (q ∷ ps))) ≡ ((x ∷ xs) ++ q) ∷ ps
    by true below h = absurd (cc)
    by false below h = ap (onto_first x) (below h)

-- ---- a word of digits

digits_not : (p : ℕ → Bool) (w : Word) → ((c : ℕ) → 48 ≤ c → c ≤ 57 → p c ≡ true) → AllDigits 10 w → list_all p w ≡ true
digits_not p [] h d = refl
digits_not p (c ∷ cs) h d =
    let range = digit_from_value c d.0 in
    and_from (p c) (list_all p cs) (h c (omega (arith, range)) (omega (arith, range))) (digits_not p cs h d.1)

not_a_blank : (c : ℕ) → 48 ≤ c → c ≤ 57 → not (is_blank c) ≡ true
not_a_blank c h k = let test : (c == 32) ≡ false = grind (arith, nat_tests) in rw test refl

not_an_end : (c : ℕ) → 48 ≤ c → c ≤ 57 → not (is_end c) ≡ true
not_an_end c h k = let test : (c == 10) ≡ false = grind (arith, nat_tests) in rw test refl

a_text_byte : (c : ℕ) → 48 ≤ c → c ≤ 57 → is_text_byte c ≡ true
a_text_byte c h k = grind (arith, nat_tests)

a_digit : (c : ℕ) → 48 ≤ c → c ≤ 57 → is_digit c ≡ true
a_digit c h k = grind (arith, nat_tests)

-- what holds of each digit holds of a byte that is one
ten : (P : ℕ → Type 0) → P 48 → P 49 → P 50 → P 51 → P 52 → P 53 → P 54 → P 55 → P 56 → P 57 → (b : ℕ) → 48 ≤ b → b ≤ 57 → P b
ten P h0 h1 h2 h3 h4 h5 h6 h7 h8 h9 b low high = by (b - 48) (omega arith)
  where
    by : (d : ℕ) → b ≡ 48 + d → P b
    by zero e = subst P (sym e) h0
    by (suc zero) e = subst P (sym e) h1
    by (suc (suc zero)) e = subst P (sym e) h2
    by (suc (suc (suc zero))) e = subst P (sym e) h3
    by (suc (suc (suc (suc zero)))) e = subst P (sym e) h4
    by (suc (suc (suc (suc (suc zero))))) e = subst P (sym e) h5
    by (suc (suc (suc (suc (suc (suc zero)))))) e = subst P (sym e) h6
    by (suc (suc (suc (suc (suc (suc (suc zero))))))) e = subst P (sym e) h7
    by (suc (suc (suc (suc (suc (suc (suc (suc zero)))))))) e = subst P (sym e) h8
    by (suc (suc (suc (suc (suc (suc (suc (suc (suc zero))))))))) e = subst P (sym e) h9
    by (suc (suc (suc (suc (suc (suc (suc (suc (suc (suc d)))))))))) e = absurd (omega arith)

-- a word that begins with a digit is no fixed word and no name
abbrev IsLoose : ℕ → Type 0
IsLoose b = (bs : List ℕ) → token_of (b ∷ bs) ≡ (if begins_number (b ∷ bs) then number_token (b ∷ bs) else token.Unknown)

loose : (b : ℕ) → 48 ≤ b → b ≤ 57 → IsLoose b
unfolding token_of keyword_of keywords
loose = ten IsLoose (λ bs. refl) (λ bs. refl) (λ bs. refl) (λ bs. refl) (λ bs. refl) (λ bs. refl) (λ bs. refl) (λ bs. refl) (λ bs. refl) (λ bs. refl)

-- the token of digits, by whether they are a number in its one spelling
abbrev number_by : Bool → ℕ → Token
number_by plain n = if plain then (if in_64_bits (pos n) then token.Number (pos n) else token.Oversized) else token.Misspelled

abbrev IsNumber : ℕ → Type 0
IsNumber b = (bs : List ℕ) → number_token (b ∷ bs) ≡ number_by (is_plain_number (b ∷ bs)) (digits_value 10 (b ∷ bs))

numbers : (b : ℕ) → 48 ≤ b → b ≤ 57 → IsNumber b
numbers = ten IsNumber (λ bs. refl) (λ bs. refl) (λ bs. refl) (λ bs. refl) (λ bs. refl) (λ bs. refl) (λ bs. refl) (λ bs. refl) (λ bs. refl) (λ bs. refl)

begins : (b : ℕ) (bs : List ℕ) → is_digit b ≡ true → begins_number (b ∷ bs) ≡ true
begins b [] h = h
begins b (c ∷ cs) h = rw h refl

-- digits that begin with none or with another than `0`
begins_plain : (b : ℕ) (bs : List ℕ) → 49 ≤ b → b ≤ 57 → list_all is_digit bs ≡ true → is_plain_number (b ∷ bs) ≡ true
begins_plain b [] low high h = a_digit b (omega arith) high
begins_plain b (c ∷ cs) low high h = and_from (nat_le 49 b && nat_le b 57) (list_all is_digit (c ∷ cs)) (let t : (nat_le 49 b && nat_le b 57) ≡ true = grind (arith, nat_tests) in t) h

plain_word : (w : Word) → AllDigits 10 w → 48 < get_or w 0 0 → is_plain_number w ≡ true
plain_word [] d first = absurd (omega arith)
plain_word (b ∷ bs) d first = let range = digit_from_value b d.0 in begins_plain b bs (omega (arith, first)) (omega (arith, range)) (digits_not is_digit bs a_digit d.1)

-- the decimal digits of a number are in its one spelling
plain : (n : ℕ) → n < 2 ^ 63 → is_plain_number (printed n) ≡ true
unfolding digits
plain zero small = refl
plain (suc n) small = plain_word (printed (suc n)) (decimal_is_IsNumeral (suc n) (omega arith)).0.1 (first_decimal (suc n) (omega arith) (omega arith))

fits_64 : (n : ℕ) → n < 2 ^ 63 → in_64_bits (pos n) ≡ true
fits_64 n h = grind (arith, nat_tests)

number_read : (b : ℕ) (bs : List ℕ) (n : ℕ) → 48 ≤ b → b ≤ 57 → is_plain_number (b ∷ bs) ≡ true → digits_value 10 (b ∷ bs) ≡ n → n < 2 ^ 63 → token_of (b ∷ bs) ≡ token.Number (pos n)
number_read b bs n low high spelling value small =
    loose b low high bs
    ∙ ap (λ t. if t then number_token (b ∷ bs) else token.Unknown) (begins b bs (a_digit b low high))
    ∙ numbers b low high bs
    ∙ (λ i. number_by (spelling i) (value i))
    ∙ ap (λ t. if t then token.Number (pos n) else token.Oversized) (fits_64 n small)

-- ---- the text

abbrev text_with : Word → List ℕ
text_with w = storm_head ++ w ++ storm_tail

-- the tail, behind its first byte
abbrev rest : List ℕ
rest = drop 1 storm_tail

text_lines : (b : ℕ) (bs : List ℕ) → AllDigits 10 (b ∷ bs) → lines (text_with (b ∷ bs)) ≡ lines_with ((b ∷ bs) ∷ [])
unfolding lines
text_lines b bs d =
    let w : Word = b ∷ bs in
    let piece : slice_split is_end (w ++ storm_tail) ≡ w ∷ slice_split is_end rest =
    split_append is_end w storm_tail ∙ split_none is_end w [] (slice_split is_end rest) (digits_not (λ x. not (is_end x)) w not_an_end d) ∙ ap (λ (v : Word). v ∷ slice_split is_end rest) (append-nil w) in
    let word : slice_split is_blank w ≡ w ∷ [] =
    ap (slice_split is_blank) (sym (append-nil w)) ∙ split_append is_blank w [] ∙ split_none is_blank w [] [] (digits_not (λ x. not (is_blank x)) w not_a_blank d) ∙ ap (λ (v : Word). v ∷ []) (append-nil w) in
    ap (lines_from 1) (split_append is_end storm_head (w ++ storm_tail) ∙ ap (split_onto is_end storm_head) piece)
    ∙ ap lines_with word

ended_append : (xs : List ℕ) (t : ℕ) (ts : List ℕ) → is_ended (xs ++ t ∷ ts) ≡ is_ended (t ∷ ts)
ended_append [] t ts = refl
ended_append (x ∷ []) t ts = refl
ended_append (x ∷ y ∷ ys) t ts = ended_append (y ∷ ys) t ts

-- the line with the size
while_says : (n : ℕ) (w : Word) → in_64_bits (pos n) ≡ true → token_of w ≡ token.Number (pos n)
    → phrase_tokens (phrase.While (e.Binary binary.AtMost (e.Local (codes "i")) (e.Int (pos n)))) ≡ Some (map (token_in 1) (codes "while" ∷ codes "<=" ∷ codes "i" ∷ w ∷ []))
unfolding phrase_tokens tokens_within name keyword_of keywords token_of out-Expression out shown-the_row-Expression-0 shown-the_row-Expression-1 shown hidden
while_says n w fits number =
    ap (λ t. k.While ▹ (k.AtMost ▹ (Some (token.Name (codes "i") ∷ []) ⊕ only_if t (Some (token.Number (pos n) ∷ []))))) fits
    ∙ ap (λ t. Some (token.Fixed k.While ∷ token.Fixed k.AtMost ∷ token.Name (codes "i") ∷ known_in 1 t ∷ [])) (sym number)

storm_spelt : (n : ℕ) (w : Word) → 0 < length w → AllDigits 10 w → is_plain_number w ≡ true → digits_value 10 w ≡ n → length w ≤ 19 → n < 2 ^ 63 → Spells (storm n) (text_with w)
unfolding scenario_lines block_within phrase_tokens tokens_within name keyword_of keywords token_of out-Expression out-Action out shown-the_row-Expression-0 shown-the_row-Expression-1 shown-the_row-Statement-0 shown-the_row-Except-1 shown hidden
storm_spelt n [] some d spelling value short small = absurd (omega arith)
storm_spelt n (b ∷ bs) some d spelling value short small =
    let w : Word = b ∷ bs in
    let range = digit_from_value b d.0 in
    let number : token_of w ≡ token.Number (pos n) = number_read b bs n (omega (arith, range)) (omega (arith, range)) spelling value small in
    let fits : in_64_bits (pos n) ≡ true = fits_64 n small in
    let at = text_lines b bs d in
    let long : length (text_with w) ≡ length storm_head + (length w + length storm_tail) = length-append storm_head (w ++ storm_tail) ∙ ap (λ m. length storm_head + m) (length-append w storm_tail) in
    record {
      text = record {
        short = within_short (text_with w) (omega (arith, long, short));
        printable = list_all-append is_text_byte w storm_tail ∙ and_from (list_all is_text_byte w) (list_all is_text_byte storm_tail) (digits_not is_text_byte w a_text_byte d) refl;
        ended = ap is_ended (sym (append_assoc storm_head w storm_tail)) ∙ ended_append (storm_head ++ w) 10 rest;
        spaced = ap (list_all is_spaced) at;
      };
      tree_lines = subst (λ ls. IsSomeAnd (scenario_lines (storm n)) (AreTreeLines 1 ls)) (sym at)
          ((refl, refl), ((refl, refl), ((refl, refl), ((refl, refl), ((refl, refl), ((refl, tt), ((refl, refl), ((refl, refl), ((while_says n w fits number, refl), ((refl, refl), ((refl, refl), ((refl, tt), ((refl, refl), ((refl, refl), ((refl, refl), ((refl, refl), ((refl, tt), tt)))))))))))))))));
      has_main = refl;
    }

-- for every size
pub storm_is : (n : ℕ) → n < 2 ^ 63 → Spells (storm n) (storm_text n) × IsWellFormed (storm n)
unfolding storm_text
storm_is n small =
    let numeral = decimal_is_IsNumeral n (omega arith) in
    let s = storm_spelt n (printed n) numeral.0.0 numeral.0.1 (plain n small) numeral.1 (length-decimal-le 19 n (omega arith) (omega arith) (omega arith)) small in
    (subst (λ w. Spells (storm n) (text_with w)) (printed_decimal n (omega arith)) s, well_formed n)
