-- The printed form of a tree that has a text is a text of it, but for the numbers of its lines.
use Rattle.std.proofs.Common.{◌≡◌, ℕ, zero, suc, ◌+◌, ◌*◌, ◌≤◌, Bool, true, false, ◌&&◌, not, cond, if◌then◌else◌, List, [], ◌∷◌, ◌++◌, length, map, replicate, Option, Some, None, Ok, codes, refl, sym, ap, subst, ◌∙◌, ◌⊎◌, inl, inr, arith}
use Rattle.std.specs.Prelude.{◌==◌}
use Rattle.std.specs.List.{list_all, list_any, slice_split, onto_first, join_with_byte}
use Rattle.std.specs.Option.{IsSomeAnd}
use Rattle.std.proofs.lemmas.List.Splits.{join_with_byte-slice_split}
use Rattle.scenario_tree.specs.declared.tree.Scenario.{Scenario}
use Rattle.scenario_grammar.specs.declared.phrase.Phrase.{Phrase}
use Rattle.scenario_grammar.specs.declared.phrase.Phrase.TheVariants as phrase
use Rattle.scenario_grammar.specs.Bare.{bare}
use Rattle.scenario_grammar.specs.Blocks.{TreeLine, mark, profile_lines, scenario_lines}
use Rattle.scenario_grammar.specs.declared.limits.TheConstants.{MOST_LONG_TEXT}
use Rattle.scenario_grammar.specs.Layout.{Line, lines, lines_from, with_line, drop_blanks, is_blank, is_end, is_spaced, is_ended, is_text_byte, IsText, most_bytes, most_of_profile}
use Rattle.scenario_grammar.specs.Parsed.{nothing_yet, reading, read_lines, scenario}
use Rattle.scenario_grammar.specs.Phrase.{phrase_tokens}
use Rattle.scenario_grammar.specs.Place.{place_in_bytes}
use Rattle.scenario_grammar.specs.Printed.{is_closing, is_opening, less_if, more_if, words_of, printed_tree_lines, printed_if, printed}
use Rattle.scenario_grammar.specs.Spells.{AreTreeLines, IsTreeLine, is_main, Spells}
use Rattle.scenario_grammar.specs.Spelt.{in_profile_3}
use Rattle.scenario_grammar.specs.Keyword.{keyword_of, keywords}
use Rattle.scenario_grammar.specs.Token.{token_in, token_of, token_word}
use Rattle.scenario_grammar.proofs.Atoms.{and_left, and_right}
use Rattle.scenario_grammar.proofs.BareLaws.{SamePhrases, renumbered, functions_bare}
use Rattle.scenario_grammar.proofs.Complete.{behind, built, has_profile, numbered, numbered_said, AreTold, told, scenario_makes, text_full, none_in_bytes, reading_by}
use Rattle.scenario_grammar.proofs.InWords.{is_word, phrase_in_words}
use Rattle.scenario_grammar.proofs.LongForms.{within_form, within_short}
use Rattle.scenario_grammar.proofs.Sound.{sound}
use Rattle.scenario_grammar.proofs.WordsBack.{words_back}
use Rattle.scenario_grammar.proofs.Profiles.{says_later, words_known}

-- a byte that may stand in a line
abbrev is_plain : ℕ → Bool
is_plain b = is_text_byte b && not (is_end b)

abbrev ArePlain : List (List ℕ) → Type 0
ArePlain ps = list_all (list_all is_plain) ps ≡ true

both_true : (a b : Bool) → a ≡ true → b ≡ true → (a && b) ≡ true
both_true true b h k = k
both_true false b h k = cc

plain_onto : (b : ℕ) (ps : List (List ℕ)) → is_plain b ≡ true → ArePlain ps → ArePlain (onto_first b ps)
plain_onto b [] h k = both_true (is_plain b && true) true (both_true (is_plain b) true h refl) refl
plain_onto b (p ∷ ps) h k =
    both_true (is_plain b && list_all is_plain p) (list_all (list_all is_plain) ps)
    (both_true (is_plain b) (list_all is_plain p) h (and_left (list_all is_plain p) (list_all (list_all is_plain) ps) k)) (and_right (list_all is_plain p) (list_all (list_all is_plain) ps) k)

-- the pieces of a printable text between its ends of lines
split_plain : (bs : List ℕ) → list_all is_text_byte bs ≡ true → ArePlain (slice_split is_end bs)
split_plain [] h = refl
split_plain (b ∷ bs) h = by_end (is_end b) refl (split_plain bs (and_right (is_text_byte b) (list_all is_text_byte bs) h))
  where
    text : is_text_byte b ≡ true
    text = and_left (is_text_byte b) (list_all is_text_byte bs) h

    by_end : (e : Bool) → is_end b ≡ e → ArePlain (slice_split is_end bs) → ArePlain (cond e ([] ∷ slice_split is_end bs) (onto_first b (slice_split is_end bs)))
    by_end true e below = below
    by_end false e below = plain_onto b (slice_split is_end bs) (both_true (is_text_byte b) (not (is_end b)) (and_left (is_text_byte b) (list_all is_text_byte bs) h) (ap not e)) below

-- a line that carries something, by its bytes past the leading blanks
record Carries (l : Line) : Type 0 where
  first : ℕ
  others : List ℕ
  words : l.words ≡ slice_split is_blank (first ∷ others)
  solid : is_blank first ≡ false
  no_comment : (first == 35) ≡ false
  plain : list_all is_plain (first ∷ others) ≡ true

abbrev AllCarry : List Line → Type 0
AllCarry [] = Unit {0}
AllCarry (l ∷ ls) = Carries l × AllCarry ls

drop_plain : (bs : List ℕ) → list_all is_plain bs ≡ true → list_all is_plain (drop_blanks bs) ≡ true
drop_plain [] h = refl
drop_plain (b ∷ bs) h = by_blank (is_blank b) (drop_plain bs (and_right (is_plain b) (list_all is_plain bs) h))
  where
    by_blank : (s : Bool) → list_all is_plain (drop_blanks bs) ≡ true → list_all is_plain (if s then drop_blanks bs else b ∷ bs) ≡ true
    by_blank true below = below
    by_blank false below = h

abbrev BeginsSolid : List ℕ → Type 0
BeginsSolid [] = Unit {0}
BeginsSolid (b ∷ bs) = is_blank b ≡ false

drop_solid : (bs : List ℕ) → BeginsSolid (drop_blanks bs)
drop_solid [] = tt
drop_solid (b ∷ bs) = by_blank (is_blank b) refl (drop_solid bs)
  where
    by_blank : (s : Bool) → is_blank b ≡ s → BeginsSolid (drop_blanks bs) → BeginsSolid (if s then drop_blanks bs else b ∷ bs)
    by_blank true e below = below
    by_blank false e below = e

with_carry : (n : ℕ) (ds : List ℕ) (ls : List Line) → list_all is_plain ds ≡ true → BeginsSolid ds → AllCarry ls → AllCarry (with_line n ds ls)
with_carry n [] ls h s k = k
with_carry n (b ∷ bs) ls h s k = by_comment (b == 35) refl
  where
    by_comment : (c : Bool) → (b == 35) ≡ c → AllCarry (if c then ls else record { number = n; words = slice_split is_blank (b ∷ bs) } ∷ ls)
    by_comment true e = k
    by_comment false e = (record { first = b; others = bs; words = refl; solid = s; no_comment = e; plain = h }, k)

lines_carry : (n : ℕ) (ps : List (List ℕ)) → ArePlain ps → AllCarry (lines_from n ps)
lines_carry n [] h = tt
lines_carry n (p ∷ []) h = tt
lines_carry n (p ∷ q ∷ ps) h =
    let here = and_left (list_all is_plain p) (list_all (list_all is_plain) (q ∷ ps)) h in
    let below = and_right (list_all is_plain p) (list_all (list_all is_plain) (q ∷ ps)) h in
    with_carry n (drop_blanks p) (lines_from (n + 1) (q ∷ ps)) (drop_plain p here) (drop_solid p) (lines_carry (n + 1) (q ∷ ps) below)

-- a line without an end, and its end
split_line : (xs tail : List ℕ) → list_all is_plain xs ≡ true → slice_split is_end (xs ++ 10 ∷ tail) ≡ xs ∷ slice_split is_end tail
split_line [] tail h = refl
split_line (x ∷ xs) tail h =
    let plain = and_left (is_plain x) (list_all is_plain xs) h in
    by_end (is_end x) (not_end (is_end x) (and_right (is_text_byte x) (not (is_end x)) plain)) (slice_split is_end (xs ++ 10 ∷ tail)) (split_line xs tail (and_right (is_plain x) (list_all is_plain xs) h))
  where
    not_end : (e : Bool) → not e ≡ true → e ≡ false
    not_end true h = cc
    not_end false h = refl

    by_end : (e : Bool) → e ≡ false → (ps : List (List ℕ)) → ps ≡ xs ∷ slice_split is_end tail → cond e ([] ∷ ps) (onto_first x ps) ≡ (x ∷ xs) ∷ slice_split is_end tail
    by_end false e ps same = ap (onto_first x) same
    by_end true e ps same = cc

onto_cons : (b : ℕ) (ps : List (List ℕ)) → (p : List ℕ) × (qs : List (List ℕ)) × (onto_first b ps ≡ p ∷ qs)
onto_cons b [] = (b ∷ [], [], refl)
onto_cons b (p ∷ ps) = (b ∷ p, ps, refl)

split_cons : (xs : List ℕ) → (p : List ℕ) × (qs : List (List ℕ)) × (slice_split is_end xs ≡ p ∷ qs)
split_cons [] = ([], [], refl)
split_cons (x ∷ xs) = by_end (is_end x)
  where
    by_end : (e : Bool) → (p : List ℕ) × (qs : List (List ℕ)) × (cond e ([] ∷ slice_split is_end xs) (onto_first x (slice_split is_end xs)) ≡ p ∷ qs)
    by_end true = ([], slice_split is_end xs, refl)
    by_end false = onto_cons x (slice_split is_end xs)

solid_kept : (b : ℕ) (bs : List ℕ) (s : Bool) → s ≡ false → (if s then drop_blanks bs else b ∷ bs) ≡ b ∷ bs
solid_kept b bs false e = refl
solid_kept b bs true e = cc

indented : (m b : ℕ) (bs : List ℕ) → is_blank b ≡ false → drop_blanks (replicate m 32 ++ b ∷ bs) ≡ b ∷ bs
indented zero b bs h = solid_kept b bs (is_blank b) h
indented (suc m) b bs h = indented m b bs h

indented_plain : (m : ℕ) (bs : List ℕ) → list_all is_plain bs ≡ true → list_all is_plain (replicate m 32 ++ bs) ≡ true
indented_plain zero bs h = h
indented_plain (suc m) bs h = indented_plain m bs h

-- the lines with numbers from n on
abbrev relined : ℕ → List Line → List Line
relined n [] = []
relined n (l ∷ ls) = record { number = n; words = l.words } ∷ relined (n + 1) ls

-- what is printed of a line is its bytes past the leading blanks
line_text : (l : Line) (profile : ℕ) (p : Phrase) (c : Carries l) → phrase_tokens p ≡ Some (map (token_in profile) l.words) → words_of (phrase_tokens p) ≡ c.first ∷ c.others
line_text l profile p c says =
    let known = phrase_in_words p (map (token_in profile) l.words) says in
    let all = words_known profile l.words known in
    ap words_of says ∙ ap (λ z. join_with_byte 32 (map token_word z)) all ∙ ap (join_with_byte 32) (words_back l.words (ap (list_all is_word) (sym all) ∙ known)) ∙ ap (join_with_byte 32) c.words
    ∙ join_with_byte-slice_split 32 (c.first ∷ c.others)

one_line : (n m b : ℕ) (bs tail : List ℕ) → list_all is_plain (b ∷ bs) ≡ true → is_blank b ≡ false → (b == 35) ≡ false
    → lines_from n (slice_split is_end (replicate m 32 ++ (b ∷ bs) ++ 10 ∷ tail)) ≡ record { number = n; words = slice_split is_blank (b ∷ bs) } ∷ lines_from (n + 1) (slice_split is_end tail)
one_line n m b bs tail plain solid no_comment =
    let text = replicate m 32 ++ (b ∷ bs) in
    let more = split_cons tail in
    ap (lines_from n) (split_line text tail (indented_plain m (b ∷ bs) plain))
    ∙ ap (λ z. lines_from n (text ∷ z)) more.2
    ∙ ap (λ z. with_line n z (lines_from (n + 1) (more.0 ∷ more.1))) (indented m b bs solid)
    ∙ kept_line (b == 35) no_comment
    ∙ ap (λ z. (let l : Line = record { number = n; words = slice_split is_blank (b ∷ bs) } in l) ∷ lines_from (n + 1) z) (sym more.2)
  where
    kept_line : (c : Bool) → c ≡ false → (if c then lines_from (n + 1) ((split_cons tail).0 ∷ (split_cons tail).1) else record { number = n; words = slice_split is_blank (b ∷ bs) } ∷ lines_from (n + 1) ((split_cons tail).0 ∷ (split_cons tail).1))
        ≡ record { number = n; words = slice_split is_blank (b ∷ bs) } ∷ lines_from (n + 1) ((split_cons tail).0 ∷ (split_cons tail).1)
    kept_line false e = refl
    kept_line true e = cc

-- the lines of what is printed are those of the text, one after another
printed_lines : (profile : ℕ) (ls : List Line) (rs : List TreeLine) (level n : ℕ) → AllCarry ls → AreTold profile ls rs → lines_from n (slice_split is_end (printed_tree_lines level rs)) ≡ relined n ls
printed_lines profile [] [] level n c t = refl
printed_lines profile [] (r ∷ rs) level n c t = absurd t
printed_lines profile (l ∷ ls) [] level n c t = absurd t
printed_lines profile (l ∷ ls) (r ∷ rs) level n c t =
    let here = less_if (is_closing r.says) level in
    let tail = printed_tree_lines (more_if (is_opening r.says) here) rs in
    ap (λ z. lines_from n (slice_split is_end (replicate (2 * here) 32 ++ z ++ 10 ∷ tail))) (line_text l profile r.says c.0 t.0)
    ∙ one_line n (2 * here) c.0.first c.0.others tail c.0.plain c.0.solid c.0.no_comment
    ∙ ap (λ w. (let x : Line = record { number = n; words = w } in x) ∷ lines_from (n + 1) (slice_split is_end tail)) (sym c.0.words)
    ∙ ap (λ z. (let x : Line = record { number = n; words = l.words } in x) ∷ z) (printed_lines profile ls rs (more_if (is_opening r.says) here) (n + 1) c.1 t.1)

plain_text : (bs : List ℕ) → list_all is_plain bs ≡ true → list_all is_text_byte bs ≡ true
plain_text [] h = refl
plain_text (b ∷ bs) h =
    both_true (is_text_byte b) (list_all is_text_byte bs) (and_left (is_text_byte b) (not (is_end b)) (and_left (is_plain b) (list_all is_plain bs) h))
    (plain_text bs (and_right (is_plain b) (list_all is_plain bs) h))

text_append : (xs ys : List ℕ) → list_all is_text_byte xs ≡ true → list_all is_text_byte ys ≡ true → list_all is_text_byte (xs ++ ys) ≡ true
text_append [] ys h k = k
text_append (x ∷ xs) ys h k =
    both_true (is_text_byte x) (list_all is_text_byte (xs ++ ys)) (and_left (is_text_byte x) (list_all is_text_byte xs) h) (text_append xs ys (and_right (is_text_byte x) (list_all is_text_byte xs) h) k)

end_text : (xs : List ℕ) → list_all is_text_byte xs ≡ true → list_all is_text_byte (10 ∷ xs) ≡ true
end_text xs h = h

printed_printable : (profile : ℕ) (ls : List Line) (rs : List TreeLine) (level : ℕ) → AllCarry ls → AreTold profile ls rs → list_all is_text_byte (printed_tree_lines level rs) ≡ true
printed_printable profile [] [] level c t = refl
printed_printable profile [] (r ∷ rs) level c t = absurd t
printed_printable profile (l ∷ ls) [] level c t = absurd t
printed_printable profile (l ∷ ls) (r ∷ rs) level c t =
    let here = less_if (is_closing r.says) level in
    let tail = printed_tree_lines (more_if (is_opening r.says) here) rs in
    ap (λ z. list_all is_text_byte (replicate (2 * here) 32 ++ z ++ 10 ∷ tail)) (line_text l profile r.says c.0 t.0)
    ∙ text_append (replicate (2 * here) 32 ++ (c.0.first ∷ c.0.others)) (10 ∷ tail) (plain_text (replicate (2 * here) 32 ++ (c.0.first ∷ c.0.others)) (indented_plain (2 * here) (c.0.first ∷ c.0.others) c.0.plain))
    (end_text tail (printed_printable profile ls rs (more_if (is_opening r.says) here) c.1 t.1))

-- an ended line before what is ended is ended
line_ended : (xs tail : List ℕ) → is_ended tail ≡ true → is_ended (xs ++ 10 ∷ tail) ≡ true
line_ended [] [] h = refl
line_ended [] (b ∷ bs) h = h
line_ended (x ∷ []) tail h = line_ended [] tail h
line_ended (x ∷ y ∷ xs) tail h = line_ended (y ∷ xs) tail h

printed_ended : (level : ℕ) (rs : List TreeLine) → is_ended (printed_tree_lines level rs) ≡ true
printed_ended level [] = refl
printed_ended level (r ∷ rs) =
    let here = less_if (is_closing r.says) level in
    line_ended (replicate (2 * here) 32 ++ words_of (phrase_tokens r.says)) (printed_tree_lines (more_if (is_opening r.says) here) rs) (printed_ended (more_if (is_opening r.says) here) rs)

relined_spaced : (n : ℕ) (ls : List Line) → list_all is_spaced (relined n ls) ≡ list_all is_spaced ls
relined_spaced n [] = refl
relined_spaced n (l ∷ ls) = ap (λ z. is_spaced l && z) (relined_spaced (n + 1) ls)

relined_told : (profile n : ℕ) (ls : List Line) (rs : List TreeLine) → AreTold profile ls rs → AreTold profile (relined n ls) rs
relined_told profile n [] [] t = tt
relined_told profile n [] (r ∷ rs) t = absurd t
relined_told profile n (l ∷ ls) [] t = absurd t
relined_told profile n (l ∷ ls) (r ∷ rs) t = (t.0, relined_told profile (n + 1) ls rs t.1)

relined_same : (n : ℕ) (ls : List Line) (rs : List TreeLine) → SamePhrases (numbered ls rs) (numbered (relined n ls) rs)
relined_same n [] rs = tt
relined_same n (l ∷ ls) [] = tt
relined_same n (l ∷ ls) (r ∷ rs) = (refl, relined_same (n + 1) ls rs)

none_open : {A B : Type 0} (f : A → B) (xs : List A) → [] ≡ map f xs → xs ≡ []
none_open f [] e = refl
none_open f (x ∷ xs) e = cc

record PrintedAgain (s : Scenario) : Type 0 where
  tree : Scenario
  spelt : Spells tree (printed s)
  same : bare s ≡ bare tree

reading_so : (bytes : List ℕ) (t : Scenario) → IsText bytes → read_lines nothing_yet (lines bytes) ≡ Ok (built t) → list_any is_main t.functions ≡ true → reading bytes ≡ Ok t
unfolding reading
reading_so bytes t whole read main = reading_by (place_in_bytes bytes) (read_lines nothing_yet (lines bytes)) bytes t (none_in_bytes bytes whole) read main

-- the printed form of a tree, by lines that say what the tree says
lines_again : (s : Scenario) (ls : List Line) (rs : List TreeLine) → AllCarry ls → list_all is_spaced ls ≡ true → scenario_lines s ≡ Some rs → AreTreeLines s.profile ls rs → list_any is_main s.functions ≡ true
    → length (printed s) ≤ most_bytes (printed s) → PrintedAgain s
unfolding printed lines
lines_again s ls rs carry spaced tree_lines said has_main short =
    let says = told s.profile ls rs said in
    let form : printed s ≡ printed_tree_lines 0 rs = ap printed_if tree_lines in
    let new_lines : lines (printed s) ≡ relined 1 ls = ap (λ z. lines_from 1 (slice_split is_end z)) form ∙ printed_lines s.profile ls rs 0 1 carry says in
    let whole : IsText (printed s) = record {
      short = short;
      printable = ap (list_all is_text_byte) form ∙ printed_printable s.profile ls rs 0 carry says;
      ended = ap is_ended form ∙ printed_ended 0 rs;
      spaced = ap (list_all is_spaced) new_lines ∙ relined_spaced 1 ls ∙ spaced;
    } in
    let made = scenario_makes s rs (numbered ls rs) tree_lines (numbered_said s.profile ls rs said) in
    let again = renumbered (numbered ls rs) (numbered (relined 1 ls) rs) nothing_yet nothing_yet (built s) (relined_same 1 ls rs) refl made in
    let tree = scenario again.made in
    let closed = none_open _ again.made.open_blocks (ap (λ b. b.open_blocks) again.same) in
    let whole_made : again.made ≡ built tree = λ i. record again.made { open_blocks = closed i } in
    let functions = ap (λ b. b.functions) again.same in
    let main = sym (functions_bare tree.functions) ∙ ap (list_any is_main) (sym functions) ∙ functions_bare s.functions ∙ has_main in
    let read : read_lines nothing_yet (lines (printed s)) ≡ Ok (built tree) =
    ap (read_lines nothing_yet) new_lines
    ∙ text_full s (relined 1 ls) rs again.made tree_lines (relined_told s.profile 1 ls rs says) (relined_spaced 1 ls ∙ spaced) again.follows
    ∙ ap (λ b. Ok b) whole_made in
    record {
      tree = tree;
      spelt = sound tree (printed s) (reading_so (printed s) tree whole read main);
      same = λ i. record { profile = (again.same i).profile; objects = (again.same i).objects; functions = functions i };
    }

carry_lines : (bytes : List ℕ) → list_all is_text_byte bytes ≡ true → AllCarry (lines bytes)
unfolding lines
carry_lines bytes printable = lines_carry 1 (slice_split is_end bytes) (split_plain bytes printable)

printed_again : (s : Scenario) (bytes : List ℕ) (rs : List TreeLine) → Spells s bytes → scenario_lines s ≡ Some rs → AreTreeLines s.profile (lines bytes) rs → length (printed s) ≤ most_bytes (printed s) → PrintedAgain s
printed_again s bytes rs h tree_lines said short = lines_again s (lines bytes) rs (carry_lines bytes h.text.printable) h.text.spaced tree_lines said h.has_main short

-- the printed form is no longer than its own beginning lets it be
within : (s : Scenario) (bytes : List ℕ) (rs : List TreeLine) → Spells s bytes → scenario_lines s ≡ Some rs → length (printed s) ≤ most_of_profile s.profile → length (printed s) ≤ most_bytes (printed s)
unfolding printed
within s bytes rs h tree_lines short = by_profile (has_profile s bytes h)
  where
    first : s.profile ≡ 1 → length (printed s) ≤ most_bytes (printed s)
    first one = within_short (printed s) (subst (λ p. length (printed s) ≤ most_of_profile p) one short)

    second : s.profile ≡ 2 → length (printed s) ≤ most_bytes (printed s)
    second two = within_short (printed s) (subst (λ p. length (printed s) ≤ most_of_profile p) two short)

    third : s.profile ≡ 3 → length (printed s) ≤ most_bytes (printed s)
    third three =
        let b = behind s rs tree_lines in
        let tree_line : TreeLine = record { at = None; says = phrase.Profile 3 } in
        let front : profile_lines 3 ≡ Some b.front = subst (λ p. profile_lines p ≡ Some b.front) three b.profile_is in
        let named : tree_line ∷ [] ≡ b.front = cc in
        let all : rs ≡ tree_line ∷ b.rest = sym (ap (λ z. z ++ b.rest) named ∙ b.whole) in
        within_form (printed s) b.rest (ap printed_if (tree_lines ∙ ap (λ z. let w : Option (List TreeLine) = Some z in w) all)) (subst (λ p. length (printed s) ≤ most_of_profile p) three short)

    by_profile : (s.profile ≡ 1) ⊎ ((s.profile ≡ 2) ⊎ (s.profile ≡ 3)) → length (printed s) ≤ most_bytes (printed s)
    by_profile (inl one) = first one
    by_profile (inr (inl two)) = second two
    by_profile (inr (inr three)) = third three

-- The printed form of a tree that has a text, where it is no longer than a text may be, is a text of the tree but for
-- its lines.
pub printing : (s : Scenario) (bytes : List ℕ) → Spells s bytes → length (printed s) ≤ most_of_profile s.profile → (t : Scenario) × Spells t (printed s) × (bare s ≡ bare t)
printing s bytes h short = by_lines (scenario_lines s) refl h.tree_lines
  where
    by_lines : (r : Option (List TreeLine)) → scenario_lines s ≡ r → IsSomeAnd r (AreTreeLines s.profile (lines bytes)) → (t : Scenario) × Spells t (printed s) × (bare s ≡ bare t)
    by_lines None e a = absurd a
    by_lines (Some rs) e a = let again = printed_again s bytes rs h e a (within s bytes rs h e short) in (again.tree, again.spelt, again.same)

-- the line `profile 3`
abbrev third_line : Line
third_line = record { number = 1; words = codes "profile" ∷ codes "3" ∷ [] }

abbrev third_tree_line : TreeLine
third_tree_line = record { at = None; says = phrase.Profile 3 }

third_said : IsTreeLine 3 third_line third_tree_line
unfolding phrase_tokens token_of keyword_of keywords
third_said = (refl, tt)

third_carries : Carries third_line
third_carries = record { first = 112; others = codes "rofile 3"; words = refl; solid = refl; no_comment = refl; plain = refl }

later_tree_lines : (p q : ℕ) (ls : List Line) (rs : List TreeLine) → p ≤ q → AreTreeLines p ls rs → AreTreeLines q ls rs
later_tree_lines p q [] [] l a = tt
later_tree_lines p q [] (r ∷ rs) l a = absurd a
later_tree_lines p q (x ∷ xs) [] l a = absurd a
later_tree_lines p q (x ∷ xs) (r ∷ rs) l a = ((says_later p q r.says x.words l a.0.0, a.0.1), later_tree_lines p q xs rs l a.1)

third_again : (s : Scenario) (ls : List Line) (rest : List TreeLine) → AllCarry ls → list_all is_spaced ls ≡ true → scenario_lines (in_profile_3 s) ≡ Some (third_tree_line ∷ rest) → AreTreeLines 3 ls rest
    → list_any is_main s.functions ≡ true → length (printed (in_profile_3 s)) ≤ MOST_LONG_TEXT → PrintedAgain (in_profile_3 s)
unfolding printed
third_again s ls rest carry spaced e said main short =
    lines_again (in_profile_3 s) (third_line ∷ ls) (third_tree_line ∷ rest) (third_carries, carry) spaced e (third_said, said) main (within_form (printed (in_profile_3 s)) rest (ap printed_if e) short)

least_profile : (s : Scenario) (bytes : List ℕ) → Spells s bytes → s.profile ≤ 3
least_profile s bytes h = by (has_profile s bytes h)
  where
    by : (s.profile ≡ 1) ⊎ ((s.profile ≡ 2) ⊎ (s.profile ≡ 3)) → s.profile ≤ 3
    by (inl one) = omega (arith, one)
    by (inr (inl two)) = omega (arith, two)
    by (inr (inr three)) = omega (arith, three)

third_printed : (s : Scenario) (bytes : List ℕ) (rs : List TreeLine) → Spells s bytes → scenario_lines s ≡ Some rs → AreTreeLines s.profile (lines bytes) rs → length (printed (in_profile_3 s)) ≤ MOST_LONG_TEXT
    → PrintedAgain (in_profile_3 s)
third_printed s bytes rs h tree_lines said short = let b = behind s rs tree_lines in by_first b.front b.rest (s.profile == 1) refl b.profile_is b.whole b.third
  where
    least : s.profile ≤ 3
    least = least_profile s bytes h

    by_lines : (ls : List Line) (rest : List TreeLine) → AllCarry ls → list_all is_spaced ls ≡ true → AreTreeLines s.profile ls (record { at = None; says = phrase.Profile s.profile } ∷ rest)
        → scenario_lines (in_profile_3 s) ≡ Some (third_tree_line ∷ rest) → PrintedAgain (in_profile_3 s)
    by_lines [] rest carry spaced a e = absurd a
    by_lines (l ∷ ls) rest carry spaced a e =
        third_again s ls rest carry.1 (and_right (is_spaced l) (list_all is_spaced ls) spaced) e (later_tree_lines s.profile 3 ls rest least a.1) h.has_main short

    by_first : (front rest : List TreeLine) (first : Bool) → (s.profile == 1) ≡ first → (if first then Some [] else mark (phrase.Profile s.profile)) ≡ Some front → front ++ rest ≡ rs
        → scenario_lines (in_profile_3 s) ≡ Some (third_tree_line ∷ rest) → PrintedAgain (in_profile_3 s)
    by_first front rest true one is whole e =
        let none : [] ≡ front = cc in
        let all : rest ≡ rs = ap (λ z. z ++ rest) none ∙ whole in
        third_again s (lines bytes) rest (carry_lines bytes h.text.printable) h.text.spaced e
        (later_tree_lines s.profile 3 (lines bytes) rest least (subst (λ z. AreTreeLines s.profile (lines bytes) z) (sym all) said)) h.has_main short
    by_first front rest false one is whole e =
        let tree_line : TreeLine = record { at = None; says = phrase.Profile s.profile } in
        let named : tree_line ∷ [] ≡ front = cc in
        let all : tree_line ∷ rest ≡ rs = ap (λ z. z ++ rest) named ∙ whole in
        by_lines (lines bytes) rest (carry_lines bytes h.text.printable) h.text.spaced (subst (λ z. AreTreeLines s.profile (lines bytes) z) (sym all) said) e

-- A tree that has a text is one of profile 3 too.
pub third_spelt : (s : Scenario) (bytes : List ℕ) → Spells s bytes → length (printed (in_profile_3 s)) ≤ MOST_LONG_TEXT
    → (t : Scenario) × Spells t (printed (in_profile_3 s)) × (bare (in_profile_3 s) ≡ bare t)
third_spelt s bytes h short = by_lines (scenario_lines s) refl h.tree_lines
  where
    by_lines : (r : Option (List TreeLine)) → scenario_lines s ≡ r → IsSomeAnd r (AreTreeLines s.profile (lines bytes))
        → (t : Scenario) × Spells t (printed (in_profile_3 s)) × (bare (in_profile_3 s) ≡ bare t)
    by_lines None e a = absurd a
    by_lines (Some rs) e a = let again = third_printed s bytes rs h e a short in (again.tree, again.spelt, again.same)
