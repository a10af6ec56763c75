-- A text that a tree spells is read as that tree.
use Rattle.std.proofs.Common.{◌≡◌, ◌==◌, ℕ, ◌+◌, ◌≤◌, arith, ap, subst, Bool, true, false, ◌&&◌, ◌||◌, not, cond, if◌then◌else◌, nat_lt, List, [], ◌∷◌, ◌++◌, length, map, Option, Some, None, Result, Ok, Err, refl, sym, ◌∙◌, append_assoc, append-nil, ◌⊎◌, inl, inr}
use Rattle.std.specs.Prelude.{position, count_by}
use Rattle.std.specs.List.{list_all, list_any, position_from}
use Rattle.std.specs.Option.{IsSomeAnd}
use Rattle.std.proofs.lemmas.Iterator.Adapters.{position_from-zero}
use Rattle.scenario_tree.specs.declared.tree.Declaration.{Declaration}
use Rattle.scenario_tree.specs.declared.tree.Function.{Function}
use Rattle.scenario_tree.specs.declared.tree.Scenario.{Scenario}
use Rattle.scenario_grammar.specs.declared.phrase.Phrase.{Phrase}
use Rattle.scenario_grammar.specs.declared.phrase.Phrase.TheVariants as phrase
use Rattle.scenario_grammar.specs.declared.building.Opening.TheVariants as opening
use Rattle.scenario_grammar.specs.declared.place.Place.{Place}
use Rattle.scenario_grammar.specs.Blocks.{TreeLine, line, mark, block_within, profile_lines, declaration_lines, function_lines, scenario_lines}
use Rattle.scenario_grammar.specs.Building.{Building, added, ended, opened, step}
use Rattle.scenario_grammar.specs.Layout.{Line, lines, is_end, is_spaced, is_ended, is_text_byte, IsText, may_be_long, most_bytes}
use Rattle.scenario_grammar.specs.declared.limits.TheConstants.{MOST_LEVELS}
use Rattle.scenario_grammar.specs.Parsed.{nothing_yet, standing, read_words, read_line, read_lines, scenario, finished, reading}
use Rattle.scenario_grammar.specs.Phrase.{phrase_tokens}
use Rattle.scenario_grammar.specs.Place.{Profiles, Declares, Defines, misplaced, role_of, line_at, last_line, place_in_bytes, too_large}
use Rattle.std.proofs.lemmas.Bool.{eqb-false, eqb-true, le-ltb}
use Rattle.scenario_grammar.specs.Reading.{phrase_of, ◌>>=◌}
use Rattle.scenario_grammar.specs.Spells.{AreTreeLines, is_main, Spells}
use Rattle.scenario_grammar.specs.Spelt.{in_profile_3}
use Rattle.scenario_grammar.specs.declared.token.Token.{Token}
use Rattle.scenario_grammar.specs.Token.{Written, ◌⊕◌, each, token_in}
use Rattle.scenario_grammar.proofs.BlockLaws.{follow, AreSaid, Makes, then_makes, line_makes, none_makes, mark_makes, makes_as, Inside, Anyway, IsEnding, block_makes, end_makes}
use Rattle.scenario_grammar.proofs.PhraseLaws.{role, phrase_read}
use Rattle.scenario_grammar.specs.declared.reason.TextReason.{TextReason}
use Rattle.scenario_grammar.specs.declared.reason.TextReason.TheVariants as reason
use Rattle.scenario_grammar.specs.Reason.{text_number}
use Rattle.scenario_grammar.proofs.Parts.{both}
use Rattle.scenario_grammar.proofs.Named.{IsNamed, named_profile}
use Rattle.scenario_grammar.proofs.Profiles.{profile_said, says_later, step_grows}

-- no function has begun
abbrev Fresh : Building → Type 0
Fresh b = (b.functions ≡ []) × (b.open_blocks ≡ [])

-- nothing has been read
abbrev Nothing : Building → Type 0
Nothing b = (b.profile ≡ 1) × (b.objects ≡ []) × Fresh b

abbrev AtTop : Building → Type 0
AtTop b = b.open_blocks ≡ []

abbrev profiled : ℕ → Building → Building
profiled profile b = record b { profile = profile }

abbrev declared : List Declaration → Building → Building
declared ds b = record b { objects = b.objects ++ ds }

abbrev defined : List Function → Building → Building
defined fs b = record b { functions = b.functions ++ fs }

declares_here : (b : Building) → Fresh b → misplaced (standing b) Declares ≡ None
declares_here b h = rw (h.0, h.1) refl

defines_here : (b : Building) → AtTop b → misplaced (standing b) Defines ≡ None
defines_here b h = rw h refl

profiles_here : (b : Building) → Nothing b → misplaced (standing b) Profiles ≡ None
profiles_here b h = rw (h.0, h.1, h.2.0, h.2.1) refl

profile_makes : (p : ℕ) → Makes (profile_lines p) Nothing (profiled p)
profile_makes p = by_first (p == 1) refl
  where
    by_first : (first : Bool) → (p == 1) ≡ first → Makes (if first then Some [] else mark (phrase.Profile p)) Nothing (profiled p)
    by_first true e = makes_as (Some []) Nothing (λ b. b) (profiled p) (none_makes Nothing) (λ b h. λ i. record b { profile = (h.0 ∙ sym (eqb-true p 1 e)) i })
    by_first false e = mark_makes (phrase.Profile p) Nothing (profiled p) profiles_here (λ b n. refl)

declarations_make : (ds : List Declaration) → Makes (each declaration_lines ds) Fresh (declared ds)
declarations_make [] = makes_as (Some []) Fresh (λ b. b) (declared []) (none_makes Fresh) (λ b h. λ i. record b { objects = sym (append-nil b.objects) i })
declarations_make (d ∷ ds) =
    makes_as (declaration_lines d ⊕ each declaration_lines ds) Fresh (λ b. declared ds (declared (d ∷ []) b)) (declared (d ∷ ds))
    (then_makes (declaration_lines d) (each declaration_lines ds) Fresh Fresh (declared (d ∷ [])) (declared ds)
    (line_makes d.line (phrase.Declaration d.name d.object) Fresh declares_here) (declarations_make ds) (λ b h. h))
    (λ b h. λ i. record b { objects = append_assoc b.objects (d ∷ []) ds i })

function_makes : (f : Function) → Makes (function_lines f) AtTop (defined (f ∷ []))
function_makes f =
    let head = opening.Function f.is_raw f.name f.parameters in
    let start = phrase.Function f.is_raw f.name f.parameters in
    then_makes (line f.line start ⊕ block_within MOST_LEVELS f.body) (mark phrase.End) AtTop (Inside MOST_LEVELS IsEnding) (λ b. added f.body (opened f.line head b)) ended
    (then_makes (line f.line start) (block_within MOST_LEVELS f.body) AtTop (Inside MOST_LEVELS Anyway) (opened f.line head) (added f.body)
    (line_makes f.line start AtTop defines_here) (block_makes MOST_LEVELS f.body)
    (λ b h. record { inner = record { line = f.line; opening = head; statements = [] }; outer = b.open_blocks; is = refl; kind = tt; levels = rw h refl }))
    (end_makes MOST_LEVELS)
    (λ b h. record { inner = record { line = f.line; opening = head; statements = f.body }; outer = b.open_blocks; is = refl; kind = refl; levels = rw h refl })

functions_make : (fs : List Function) → Makes (each function_lines fs) AtTop (defined fs)
functions_make [] = makes_as (Some []) AtTop (λ b. b) (defined []) (none_makes AtTop) (λ b h. λ i. record b { functions = sym (append-nil b.functions) i })
functions_make (f ∷ fs) =
    makes_as (function_lines f ⊕ each function_lines fs) AtTop (λ b. defined fs (defined (f ∷ []) b)) (defined (f ∷ fs))
    (then_makes (function_lines f) (each function_lines fs) AtTop AtTop (defined (f ∷ [])) (defined fs) (function_makes f) (functions_make fs) (λ b h. h))
    (λ b h. λ i. record b { functions = append_assoc b.functions (f ∷ []) fs i })

abbrev pub built : Scenario → Building
built s = record { profile = s.profile; objects = s.objects; functions = s.functions; open_blocks = [] }

-- the lines of a tree make the tree
pub scenario_makes : (s : Scenario) (rs : List TreeLine) (ls : List (ℕ × Phrase)) → scenario_lines s ≡ Some rs → AreSaid ls rs → follow nothing_yet ls ≡ Some (built s)
unfolding scenario_lines
scenario_makes s rs ls w said =
    then_makes (profile_lines s.profile ⊕ each declaration_lines s.objects) (each function_lines s.functions) Nothing AtTop (λ b. declared s.objects (profiled s.profile b)) (defined s.functions)
    (then_makes (profile_lines s.profile) (each declaration_lines s.objects) Nothing Fresh (profiled s.profile) (declared s.objects)
    (profile_makes s.profile) (declarations_make s.objects) (λ b h. h.2))
    (functions_make s.functions) (λ b h. h.2.1) rs ls nothing_yet w said (refl, refl, (refl, refl))

-- the lines of a text, by their numbers and what the tree_lines say
abbrev pub numbered : List Line → List TreeLine → List (ℕ × Phrase)
numbered [] rs = []
numbered (l ∷ ls) [] = []
numbered (l ∷ ls) (r ∷ rs) = (l.number, r.says) ∷ numbered ls rs

-- the lines say in this profile what the tree_lines say
abbrev pub AreTold : ℕ → List Line → List TreeLine → Type 0
AreTold profile [] [] = Unit {0}
AreTold profile [] (r ∷ rs) = ⊥
AreTold profile (l ∷ ls) [] = ⊥
AreTold profile (l ∷ ls) (r ∷ rs) = (phrase_tokens r.says ≡ Some (map (token_in profile) l.words)) × AreTold profile ls rs

pub told : (profile : ℕ) (ls : List Line) (rs : List TreeLine) → AreTreeLines profile ls rs → AreTold profile ls rs
told profile [] [] h = tt
told profile [] (r ∷ rs) h = absurd h
told profile (l ∷ ls) [] h = absurd h
told profile (l ∷ ls) (r ∷ rs) h = (h.0.0, told profile ls rs h.1)

pub numbered_said : (profile : ℕ) (ls : List Line) (rs : List TreeLine) → AreTreeLines profile ls rs → AreSaid (numbered ls rs) rs
numbered_said profile [] [] h = tt
numbered_said profile [] (r ∷ rs) h = absurd h
numbered_said profile (l ∷ ls) [] h = absurd h
numbered_said profile (l ∷ ls) (r ∷ rs) h = ((refl, h.0.1), numbered_said profile ls rs h.1)

pub record Next (b c : Building) (n : ℕ) (p : Phrase) (ls : List (ℕ × Phrase)) : Type 0 where
  pub placed : misplaced (standing b) (role p) ≡ None
  pub after : follow (step b n p) ls ≡ Some c

next_by : (m : Option TextReason) (x : Option Building) (c : Building) → (let r : Option Building = elim m [ Some r ↦ None | None ↦ x ] in r) ≡ Some c → (m ≡ None) × (x ≡ Some c)
next_by None x c e = (refl, e)
next_by (Some r) x c e = cc

pub next : (b c : Building) (n : ℕ) (p : Phrase) (ls : List (ℕ × Phrase)) → follow b ((n, p) ∷ ls) ≡ Some c → Next b c n p ls
unfolding follow
next b c n p ls e = let x = next_by (misplaced (standing b) (role p)) (follow (step b n p) ls) c e in record { placed = x.0; after = x.1 }

words_by : (m : Option TextReason) (q : Result Phrase TextReason) (b : Building) (n : ℕ) (p : Phrase) → m ≡ None → q ≡ Ok p → (let r : Result Building TextReason = elim m [ Some r ↦ Err r | None ↦ q >>= λ p. Ok (step b n p) ] in r) ≡ Ok (step b n p)
words_by None q b n p m e = rw e refl
words_by (Some r) q b n p m e = cc

-- one line, in its place
pub line_full : (b : Building) (l : Line) (p : Phrase) → is_spaced l ≡ true → phrase_tokens p ≡ Some (map (token_in b.profile) l.words) → misplaced (standing b) (role p) ≡ None → read_line b l ≡ Ok (step b l.number p)
line_full b l p spaced says placed =
    let r = phrase_read p (map (token_in b.profile) l.words) says in
    by_space (is_spaced l) spaced
    (words_by (misplaced (standing b) (role_of (map (token_in b.profile) l.words))) (phrase_of (map (token_in b.profile) l.words)) b l.number p (r.place (standing b) ∙ placed) r.read)
  where
    by_space : (s : Bool) → s ≡ true → read_words b l.number (map (token_in b.profile) l.words) ≡ Ok (step b l.number p) → (if s then read_words b l.number (map (token_in b.profile) l.words) else Err reason.BlankOutOfPlace) ≡ Ok (step b l.number p)
    by_space true e f = f
    by_space false e f = cc

lines_by : (r : Result Building TextReason) (b c : Building) (n : ℕ) (ls : List Line) → r ≡ Ok b → read_lines b ls ≡ Ok c
    → (let x : Result Building Place = elim r [ Ok d ↦ read_lines d ls | Err r ↦ Err (record { line = n; reason = text_number r }) ] in x) ≡ Ok c
lines_by (Ok d) b c n ls e f = let same : d ≡ b = cc in rw same f
lines_by (Err r) b c n ls e f = cc

and_first : (a b : Bool) → (a && b) ≡ true → (a ≡ true) × (b ≡ true)
and_first true b h = (refl, h)
and_first false b h = cc

-- line by line, where the profile is at least the one in which they say so
pub lines_full : (profile : ℕ) (ls : List Line) (rs : List TreeLine) (b c : Building) → profile ≤ b.profile → AreTold profile ls rs → list_all is_spaced ls ≡ true
    → follow b (numbered ls rs) ≡ Some c → read_lines b ls ≡ Ok c
unfolding follow read_lines
lines_full profile [] [] b c least h spaced e = let same : b ≡ c = cc in rw same refl
lines_full profile [] (r ∷ rs) b c least h spaced e = absurd h
lines_full profile (l ∷ ls) [] b c least h spaced e = absurd h
lines_full profile (l ∷ ls) (r ∷ rs) b c least h spaced e =
    let s = and_first (is_spaced l) (list_all is_spaced ls) spaced in
    let n = next b c l.number r.says (numbered ls rs) e in
    let says = says_later profile b.profile r.says l.words least h.0 in
    let grows = step_grows b l.number r.says (map (token_in b.profile) l.words) says n.placed in
    lines_by (read_line b l) (step b l.number r.says) c l.number ls (line_full b l r.says s.0 says n.placed)
    (lines_full profile ls rs (step b l.number r.says) c (omega (arith, least, grows)) h.1 s.1 n.after)

-- the lines of a tree of a later profile, which has this line first
later_full : (p : ℕ) (ls : List Line) (rest : List TreeLine) (c : Building) → AreTold p ls (record { at = None; says = phrase.Profile p } ∷ rest) → list_all is_spaced ls ≡ true
    → follow nothing_yet (numbered ls (record { at = None; says = phrase.Profile p } ∷ rest)) ≡ Some c → read_lines nothing_yet ls ≡ Ok c
unfolding read_lines
later_full p [] rest c h spaced e = absurd h
later_full p (l ∷ ls) rest c h spaced e =
    let s = and_first (is_spaced l) (list_all is_spaced ls) spaced in
    let n = next nothing_yet c l.number (phrase.Profile p) (numbered ls rest) e in
    let b = step nothing_yet l.number (phrase.Profile p) in
    lines_by (read_line nothing_yet l) b c l.number ls (line_full nothing_yet l (phrase.Profile p) s.0 (profile_said p l.words h.0) n.placed)
    (lines_full p ls rest b c (omega arith) h.1 s.1 n.after)

-- the tree_lines behind those of the profile
pub record Behind (s : Scenario) (rs : List TreeLine) : Type 0 where
  pub front : List TreeLine
  pub rest : List TreeLine
  pub profile_is : profile_lines s.profile ≡ Some front
  pub whole : front ++ rest ≡ rs
  pub third : scenario_lines (in_profile_3 s) ≡ Some (record { at = None; says = phrase.Profile 3 } ∷ rest)

third_lines : (objects functions : Written TreeLine) (xs ys : List TreeLine) → objects ≡ Some xs → functions ≡ Some ys → (mark (phrase.Profile 3) ⊕ objects ⊕ functions) ≡ Some (record { at = None; says = phrase.Profile 3 } ∷ (xs ++ ys))
third_lines objects functions xs ys o f = rw (o, f) refl

pub behind : (s : Scenario) (rs : List TreeLine) → scenario_lines s ≡ Some rs → Behind s rs
unfolding scenario_lines
behind s rs w =
    let outer = both (profile_lines s.profile ⊕ each declaration_lines s.objects) (each function_lines s.functions) rs w in
    let inner = both (profile_lines s.profile) (each declaration_lines s.objects) outer.0 outer.2 in
    record {
      front = inner.0;
      rest = inner.1 ++ outer.1;
      profile_is = inner.2;
      whole = sym (append_assoc inner.0 inner.1 outer.1) ∙ ap (λ z. z ++ outer.1) inner.4 ∙ outer.4;
      third = third_lines (each declaration_lines s.objects) (each function_lines s.functions) inner.1 outer.1 inner.3 outer.3;
    }

-- all lines of a tree, of which the first may be that of the profile
pub text_full : (s : Scenario) (ls : List Line) (rs : List TreeLine) (c : Building) → scenario_lines s ≡ Some rs → AreTold s.profile ls rs → list_all is_spaced ls ≡ true
    → follow nothing_yet (numbered ls rs) ≡ Some c → read_lines nothing_yet ls ≡ Ok c
text_full s ls rs c w h spaced e = let b = behind s rs w in by_first b.front b.rest (s.profile == 1) refl b.profile_is b.whole
  where
    by_first : (front rest : List TreeLine) (first : Bool) → (s.profile == 1) ≡ first → (if first then Some [] else mark (phrase.Profile s.profile)) ≡ Some front → front ++ rest ≡ rs
        → read_lines nothing_yet ls ≡ Ok c
    by_first front rest true one is whole = let first = eqb-true s.profile 1 one in lines_full s.profile ls rs nothing_yet c (omega (arith, first)) h spaced e
    by_first front rest false one is whole =
        let tree_line : TreeLine = record { at = None; says = phrase.Profile s.profile } in
        let named : tree_line ∷ [] ≡ front = cc in
        let all : tree_line ∷ rest ≡ rs = ap (λ z. z ++ rest) named ∙ whole in
        later_full s.profile ls rest c (subst (λ z. AreTold s.profile ls z) (sym all) h) spaced (subst (λ z. follow nothing_yet (numbered ls z) ≡ Some c) (sym all) e)

byte_by : (t : Bool) (i : ℕ) (x : Option ℕ) → t ≡ true → cond (not t) (Some i) x ≡ x
byte_by true i x e = refl
byte_by false i x e = cc

none_from : (i : ℕ) (bs : List ℕ) → list_all is_text_byte bs ≡ true → position_from (λ b. not (is_text_byte b)) i bs ≡ None
none_from i [] h = refl
none_from i (b ∷ bs) h =
    let s = and_first (is_text_byte b) (list_all is_text_byte bs) h in
    byte_by (is_text_byte b) i (position_from (λ b. not (is_text_byte b)) (i + 1) bs) s.0 ∙ none_from (i + 1) bs s.1

-- bytes that may be a text have no place before their lines are judged
bytes_by : (long : Bool) (found : Option ℕ) (ended : Bool) (p q : Place) (f : ℕ → Place) → long ≡ false → found ≡ None → ended ≡ true
    → (let r : Option Place = if long then Some p else (elim found [ Some i ↦ Some (f i) | None ↦ if ended then None else Some q ]) in r) ≡ None
bytes_by false None true p q f a b c = refl
bytes_by true found ended p q f a b c = cc
bytes_by false (Some i) ended p q f a b c = cc
bytes_by false None false p q f a b c = cc

pub none_in_bytes : (bytes : List ℕ) → IsText bytes → place_in_bytes bytes ≡ None
none_in_bytes bytes t =
    bytes_by (nat_lt (most_bytes bytes) (length bytes)) (position (λ b. not (is_text_byte b)) bytes) (is_ended bytes)
    (record { line = line_at (most_bytes bytes) bytes; reason = text_number (too_large (may_be_long bytes)) }) (record { line = count_by is_end bytes + 1; reason = 3 }) (λ i. record { line = line_at i bytes; reason = 2 })
    (le-ltb (most_bytes bytes) (length bytes) t.short) (position_from-zero (λ b. not (is_text_byte b)) bytes ∙ none_from 0 bytes t.printable) t.ended

ended_by : (m : Bool) (p : Place) (x : Scenario) → m ≡ true → (let r : Result Scenario Place = elim (if m || false then None else Some p) [ Some p ↦ Err p | None ↦ Ok x ] in r) ≡ Ok x
ended_by true p x e = refl
ended_by false p x e = cc

pub reading_by : (found : Option Place) (lines : Result Building Place) (bytes : List ℕ) (s : Scenario) → found ≡ None → lines ≡ Ok (built s) → list_any is_main s.functions ≡ true
    → (let r : Result Scenario Place = elim found [ Some p ↦ Err p | None ↦ elim lines [ Ok b ↦ finished bytes b | Err p ↦ Err p ] ] in r) ≡ Ok s
reading_by (Some p) lines bytes s a b c = cc
reading_by None (Err p) bytes s a b c = cc
reading_by None (Ok b) bytes s a e c =
    let same : b ≡ built s = cc in
    rw same (ended_by (list_any is_main s.functions) (record { line = last_line bytes; reason = 14 }) (scenario (built s)) c)

-- A text that a tree spells is read as that tree.
pub complete : (s : Scenario) (bytes : List ℕ) → Spells s bytes → reading bytes ≡ Ok s
unfolding reading
complete s bytes h = by_lines (scenario_lines s) refl h.tree_lines
  where
    by_lines : (r : Option (List TreeLine)) → scenario_lines s ≡ r → IsSomeAnd r (AreTreeLines s.profile (lines bytes)) → reading bytes ≡ Ok s
    by_lines None e a = absurd a
    by_lines (Some rs) e a =
        reading_by (place_in_bytes bytes) (read_lines nothing_yet (lines bytes)) bytes s (none_in_bytes bytes h.text)
        (text_full s (lines bytes) rs (built s) e (told s.profile (lines bytes) rs a) h.text.spaced
        (scenario_makes s rs (numbered (lines bytes) rs) e (numbered_said s.profile (lines bytes) rs a)))
        h.has_main

-- A tree that has a text is of a profile that there is.
pub has_profile : (s : Scenario) (bytes : List ℕ) → Spells s bytes → (s.profile ≡ 1) ⊎ ((s.profile ≡ 2) ⊎ (s.profile ≡ 3))
has_profile s bytes h = by_lines (scenario_lines s) refl h.tree_lines
  where
    by_named : (second : Bool) (ts : List Token) → (s.profile == 2) ≡ second → IsNamed s.profile ts → (s.profile ≡ 1) ⊎ ((s.profile ≡ 2) ⊎ (s.profile ≡ 3))
    by_named true ts two n = inr (inl (eqb-true s.profile 2 two))
    by_named false ts two n = let other = eqb-false s.profile 2 two in let least = n.least in let most = n.most in inr (inr (omega (arith, other, least, most)))

    by_front : (ls : List Line) (rest : List TreeLine) → AreTreeLines s.profile ls (record { at = None; says = phrase.Profile s.profile } ∷ rest) → (s.profile ≡ 1) ⊎ ((s.profile ≡ 2) ⊎ (s.profile ≡ 3))
    by_front [] rest a = absurd a
    by_front (l ∷ ls) rest a = by_named (s.profile == 2) (map (token_in s.profile) l.words) refl (named_profile s.profile (map (token_in s.profile) l.words) a.0.0)

    by_first : (first : Bool) (front rest rs : List TreeLine) → (s.profile == 1) ≡ first → (if first then Some [] else mark (phrase.Profile s.profile)) ≡ Some front → front ++ rest ≡ rs
        → AreTreeLines s.profile (lines bytes) rs → (s.profile ≡ 1) ⊎ ((s.profile ≡ 2) ⊎ (s.profile ≡ 3))
    by_first true front rest rs one is whole a = inl (eqb-true s.profile 1 one)
    by_first false front rest rs one is whole a =
        let tree_line : TreeLine = record { at = None; says = phrase.Profile s.profile } in
        let named : tree_line ∷ [] ≡ front = cc in
        let all : tree_line ∷ rest ≡ rs = ap (λ z. z ++ rest) named ∙ whole in
        by_front (lines bytes) rest (subst (λ z. AreTreeLines s.profile (lines bytes) z) (sym all) a)

    by_lines : (r : Option (List TreeLine)) → scenario_lines s ≡ r → IsSomeAnd r (AreTreeLines s.profile (lines bytes)) → (s.profile ≡ 1) ⊎ ((s.profile ≡ 2) ⊎ (s.profile ≡ 3))
    by_lines None e a = absurd a
    by_lines (Some rs) e a = let b = behind s rs e in by_first (s.profile == 1) b.front b.rest rs refl b.profile_is b.whole a
