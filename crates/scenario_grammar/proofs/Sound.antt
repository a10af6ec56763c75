-- What a text is read as, it spells.
use Rattle.std.proofs.Common.{◌≡◌, ℕ, suc, ◌+◌, ◌≤◌, Bool, true, false, ◌||◌, not, cond, if◌then◌else◌, nat_lt, List, [], ◌∷◌, ◌++◌, length, map, Option, Some, None, Result, Ok, Err, IsTrue, ap, arith, refl, sym, subst, ◌∙◌, append_assoc, append-nil}
use Rattle.std.specs.Prelude.{position, count_by}
use Rattle.std.specs.List.{list_all, list_any, position_from}
use Rattle.std.specs.Option.{IsSomeAnd}
use Rattle.std.proofs.lemmas.Bool.{ltb-false}
use Rattle.std.proofs.lemmas.Iterator.Adapters.{position_from-zero}
use Rattle.scenario_tree.specs.declared.tree.Scenario.{Scenario}
use Rattle.scenario_grammar.specs.declared.phrase.Phrase.{Phrase}
use Rattle.scenario_grammar.specs.declared.building.OpenBlock.{OpenBlock}
use Rattle.scenario_grammar.specs.declared.place.Place.{Place}
use Rattle.scenario_grammar.specs.Blocks.{TreeLine, profile_lines, declaration_lines, function_lines, scenario_lines}
use Rattle.scenario_grammar.specs.Building.{Building, step}
use Rattle.scenario_grammar.specs.Layout.{Line, lines, is_end, is_spaced, is_ended, is_text_byte, may_be_long, most_bytes}
use Rattle.scenario_grammar.specs.declared.limits.TheConstants.{MOST_LEVELS}
use Rattle.scenario_grammar.specs.Parsed.{nothing_yet, standing, read_words, read_line, read_lines, scenario, finished, reading}
use Rattle.scenario_grammar.specs.Phrase.{phrase_tokens}
use Rattle.scenario_grammar.specs.Place.{misplaced, role_of, line_at, last_line, place_in_bytes, too_large}
use Rattle.scenario_grammar.specs.Reading.{phrase_of, ◌>>=◌}
use Rattle.scenario_grammar.specs.Spells.{IsTreeLine, AreTreeLines, is_main, Spells}
use Rattle.scenario_grammar.specs.Token.{◌⊕◌, each, token_in}
use Rattle.scenario_grammar.proofs.Begun.{Kept, steps, open_lines, plus_none}
use Rattle.scenario_grammar.proofs.BlockLaws.{Said}
use Rattle.scenario_grammar.proofs.PhraseLaws.{role, phrase_read, phrase_said, tokens_proper}
use Rattle.scenario_grammar.specs.declared.reason.TextReason.{TextReason}
use Rattle.scenario_grammar.specs.declared.reason.TextReason.TheVariants as reason
use Rattle.scenario_grammar.specs.Reason.{text_number}
use Rattle.scenario_grammar.proofs.Profiles.{says_later, step_grows}

-- one line that was read: its phrase, in its place
pub record LineRead (b c : Building) (l : Line) : Type 0 where
  pub phrase : Phrase
  pub spaced : is_spaced l ≡ true
  pub says : phrase_tokens phrase ≡ Some (map (token_in b.profile) l.words)
  pub placed : misplaced (standing b) (role phrase) ≡ None
  pub made : c ≡ step b l.number phrase

record WordsRead (m : Option TextReason) (q : Result Phrase TextReason) (b c : Building) (n : ℕ) : Type 0 where
  phrase : Phrase
  placed : m ≡ None
  read : q ≡ Ok phrase
  made : c ≡ step b n phrase

words_read : (m : Option TextReason) (q : Result Phrase TextReason) (b c : Building) (n : ℕ) → (let r : Result Building TextReason = elim m [ Some r ↦ Err r | None ↦ q >>= λ p. Ok (step b n p) ] in r) ≡ Ok c → WordsRead m q b c n
words_read (Some r) q b c n e = cc
words_read None (Err r) b c n e = cc
words_read None (Ok p) b c n e = let same : step b n p ≡ c = cc in record { phrase = p; placed = refl; read = refl; made = sym same }

pub line_read : (b c : Building) (l : Line) → read_line b l ≡ Ok c → LineRead b c l
line_read b c l e = by_space (is_spaced l) refl e
  where
    by_words : is_spaced l ≡ true → read_words b l.number (map (token_in b.profile) l.words) ≡ Ok c → LineRead b c l
    by_words spaced e =
        let ts = map (token_in b.profile) l.words in
        let w = words_read (misplaced (standing b) (role_of ts)) (phrase_of ts) b c l.number e in
        let says = phrase_said ts w.phrase (tokens_proper b.profile l.words) w.read in
        let r = phrase_read w.phrase ts says in
        record { phrase = w.phrase; spaced = spaced; says = says; placed = sym (r.place (standing b)) ∙ w.placed; made = w.made }

    by_space : (s : Bool) → is_spaced l ≡ s → (let r : Result Building TextReason = if s then read_words b l.number (map (token_in b.profile) l.words) else Err reason.BlankOutOfPlace in r) ≡ Ok c → LineRead b c l
    by_space true s e = by_words s e
    by_space false s e = cc

record LinesRead (b : Building) (ls : List Line) (c : Building) (before : List TreeLine) : Type 0 where
  spaced : list_all is_spaced ls ≡ true
  left : ℕ
  more : List TreeLine
  grows : b.profile ≤ c.profile
  said : AreTreeLines c.profile ls more
  kept : Kept left c (before ++ more)

pub record First (b c : Building) (l : Line) (ls : List Line) : Type 0 where
  pub between : Building
  pub first : read_line b l ≡ Ok between
  pub others : read_lines between ls ≡ Ok c

first_by : (r : Result Building TextReason) (c : Building) (n : ℕ) (ls : List Line)
    → (let x : Result Building Place = elim r [ Ok d ↦ read_lines d ls | Err r ↦ Err (record { line = n; reason = text_number r }) ] in x) ≡ Ok c
    → (d : Building) × (r ≡ Ok d) × (read_lines d ls ≡ Ok c)
first_by (Ok d) c n ls e = (d, refl, e)
first_by (Err r) c n ls e = cc

pub first_line : (b c : Building) (l : Line) (ls : List Line) → read_lines b (l ∷ ls) ≡ Ok c → First b c l ls
unfolding read_lines
first_line b c l ls e = let f = first_by (read_line b l) c l.number ls e in record { between = f.0; first = f.1; others = f.2 }

last_is : (b c : Building) → read_lines b [] ≡ Ok c → b ≡ c
unfolding read_lines
last_is b c e = cc

said_line : (profile : ℕ) (l : Line) (p : Phrase) (r : TreeLine) → phrase_tokens p ≡ Some (map (token_in profile) l.words) → Said (l.number, p) r → IsTreeLine profile l r
said_line profile l p r says said = (subst (λ q. phrase_tokens q ≡ Some (map (token_in profile) l.words)) said.0 says, said.1)

same_profile : {b c : Building} → b ≡ c → b.profile ≤ c.profile
same_profile e = let same = ap (λ d. d.profile) e in omega (arith, same)

lines_read : (ls : List Line) (b c : Building) (e : ℕ) (before : List TreeLine) → Kept e b before → read_lines b ls ≡ Ok c → LinesRead b ls c before
lines_read [] b c e before k r =
    record { spaced = refl; left = e; more = []; grows = same_profile (last_is b c r); said = tt; kept = subst (λ d. Kept e d (before ++ [])) (last_is b c r) (subst (λ rs. Kept e b rs) (sym (append-nil before)) k) }
lines_read (l ∷ ls) b c e before k r =
    let f = first_line b c l ls r in
    let one = line_read b f.between l f.first in
    let s = steps b e l.number one.phrase (map (token_in b.profile) l.words) before one.says k one.placed in
    let first : b.profile ≤ f.between.profile = subst (λ d. b.profile ≤ d.profile) (sym one.made) (step_grows b l.number one.phrase (map (token_in b.profile) l.words) one.says one.placed) in
    let below = lines_read ls f.between c s.left (before ++ s.tree_line ∷ []) (subst (λ d. Kept s.left d (before ++ s.tree_line ∷ [])) (sym one.made) s.kept) f.others in
    record {
      spaced = rw (one.spaced, below.spaced) refl;
      left = below.left;
      more = s.tree_line ∷ below.more;
      grows = omega (arith, first, below.grows);
      said = (said_line c.profile l one.phrase s.tree_line (says_later b.profile c.profile one.phrase l.words (omega (arith, first, below.grows)) one.says) s.said, below.said);
      kept = subst (λ rs. Kept below.left c rs) (append_assoc before (s.tree_line ∷ []) below.more) below.kept;
    }

-- bytes with no place before their lines are judged
record WholeBytes (long : Bool) (found : Option ℕ) (ends : Bool) : Type 0 where
  short : long ≡ false
  printable : found ≡ None
  ended : ends ≡ true

whole_bytes : (long : Bool) (found : Option ℕ) (ended : Bool) (p q : Place) (f : ℕ → Place)
    → (let r : Option Place = if long then Some p else (elim found [ Some i ↦ Some (f i) | None ↦ if ended then None else Some q ]) in r) ≡ None → WholeBytes long found ended
whole_bytes true found ended p q f e = cc
whole_bytes false (Some i) ended p q f e = cc
whole_bytes false None false p q f e = cc
whole_bytes false None true p q f e = record { short = refl; printable = refl; ended = refl }

byte_by : (t : Bool) (i : ℕ) (x : Option ℕ) → cond (not t) (Some i) x ≡ None → (t ≡ true) × (x ≡ None)
byte_by true i x e = (refl, e)
byte_by false i x e = cc

all_printable : (i : ℕ) (bs : List ℕ) → position_from (λ b. not (is_text_byte b)) i bs ≡ None → list_all is_text_byte bs ≡ true
all_printable i [] e = refl
all_printable i (b ∷ bs) e =
    let s = byte_by (is_text_byte b) i (position_from (λ b. not (is_text_byte b)) (i + 1) bs) e in
    rw (s.0, all_printable (i + 1) bs s.1) refl

record TextBytes (bytes : List ℕ) : Type 0 where
  short : length bytes ≤ most_bytes bytes
  printable : IsTrue (list_all is_text_byte bytes)
  ended : IsTrue (is_ended bytes)

text_bytes : (bytes : List ℕ) → place_in_bytes bytes ≡ None → TextBytes bytes
text_bytes bytes e =
    let w = whole_bytes (nat_lt (most_bytes bytes) (length bytes)) (position (λ b. not (is_text_byte b)) bytes) (is_ended bytes)
    (record { line = line_at (most_bytes bytes) bytes; reason = text_number (too_large (may_be_long bytes)) }) (record { line = count_by is_end bytes + 1; reason = 3 }) (λ i. record { line = line_at i bytes; reason = 2 }) e in
    record {
      short = ltb-false (most_bytes bytes) (length bytes) w.short;
      printable = all_printable 0 bytes (sym (position_from-zero (λ b. not (is_text_byte b)) bytes) ∙ w.printable);
      ended = w.ended;
    }

-- a text that was read to its end
record Finished (b : Building) (s : Scenario) : Type 0 where
  closed : b.open_blocks ≡ []
  has_main : list_any is_main b.functions ≡ true
  made : s ≡ scenario b

ended_by : (m : Bool) (p : Place) (x s : Scenario) → (let r : Result Scenario Place = elim (if m || false then None else Some p) [ Some p ↦ Err p | None ↦ Ok x ] in r) ≡ Ok s → (m ≡ true) × (s ≡ x)
ended_by true p x s e = (refl, cc)
ended_by false p x s e = cc

finished_by : (bytes : List ℕ) (b : Building) (s : Scenario) (os : List OpenBlock) → b.open_blocks ≡ os → finished bytes (record b { open_blocks = os }) ≡ Ok s → Finished b s
finished_by bytes b s [] same e =
    let d = ended_by (list_any is_main b.functions) (record { line = last_line bytes; reason = 14 }) (scenario b) s e in
    record { closed = same; has_main = d.0; made = d.1 }
finished_by bytes b s (o ∷ os) same e = cc

record TextRead (bytes : List ℕ) (s : Scenario) : Type 0 where
  begins : place_in_bytes bytes ≡ None
  building : Building
  lines : read_lines nothing_yet (lines bytes) ≡ Ok building
  ends : finished bytes building ≡ Ok s

text_read_by : (found : Option Place) (r : Result Building Place) (bytes : List ℕ) (s : Scenario)
    → (let x : Result Scenario Place = elim found [ Some p ↦ Err p | None ↦ elim r [ Ok b ↦ finished bytes b | Err p ↦ Err p ] ] in x) ≡ Ok s
    → (b : Building) × (found ≡ None) × (r ≡ Ok b) × (finished bytes b ≡ Ok s)
text_read_by (Some p) r bytes s e = cc
text_read_by None (Err p) bytes s e = cc
text_read_by None (Ok b) bytes s e = (b, refl, refl, e)

text_read : (bytes : List ℕ) (s : Scenario) → reading bytes ≡ Ok s → TextRead bytes s
unfolding reading
text_read bytes s e = let t = text_read_by (place_in_bytes bytes) (read_lines nothing_yet (lines bytes)) bytes s e in record { building = t.0; begins = t.1; lines = t.2; ends = t.3 }

pub nothing_kept : Kept MOST_LEVELS nothing_yet []
unfolding open_lines
nothing_kept = record { levels = refl; stacked = tt; tree_lines = refl }

closed_lines : (b : Building) (e : ℕ) (rs : List TreeLine) → b.open_blocks ≡ [] → Kept e b rs → scenario_lines (scenario b) ≡ Some rs
unfolding scenario_lines open_lines
closed_lines b e rs closed k =
    sym (plus_none (profile_lines b.profile ⊕ each declaration_lines b.objects ⊕ each function_lines b.functions))
    ∙ subst (λ os. (profile_lines b.profile ⊕ each declaration_lines b.objects ⊕ each function_lines b.functions ⊕ open_lines (suc e) os) ≡ Some rs) closed k.tree_lines

-- What a text is read as, it spells.
pub sound : (s : Scenario) (bytes : List ℕ) → reading bytes ≡ Ok s → Spells s bytes
sound s bytes e =
    let t = text_read bytes s e in
    let whole = text_bytes bytes t.begins in
    let f = finished_by bytes t.building s t.building.open_blocks refl t.ends in
    let l = lines_read (lines bytes) nothing_yet t.building MOST_LEVELS [] nothing_kept t.lines in
    let tree_lines = closed_lines t.building l.left l.more f.closed l.kept in
    subst (λ s. Spells s bytes) (sym f.made) (record {
      text = record { short = whole.short; printable = whole.printable; ended = whole.ended; spaced = l.spaced };
      tree_lines = subst (λ r. IsSomeAnd r (AreTreeLines t.building.profile (lines bytes))) (sym tree_lines) l.said;
      has_main = f.has_main;
    })
