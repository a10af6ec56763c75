-- What a line's words are in one profile and in another, and that the profile of what is begun only grows.
use Rattle.std.proofs.Common.{◌≡◌, ◌==◌, ℕ, ◌≤◌, Bool, true, false, not, nat_le, if◌then◌else◌, List, [], ◌∷◌, map, Option, Some, None, refl, sym, ap, subst, ◌∙◌, arith}
use Rattle.std.specs.List.{list_all}
use Rattle.std.proofs.lemmas.Bool.{eqb-true, leb-true, le-leb}
use Rattle.scenario_tree.specs.declared.tree.Declaration.{Declaration}
use Rattle.scenario_tree.specs.declared.tree.Function.{Function}
use Rattle.scenario_grammar.specs.declared.building.OpenBlock.{OpenBlock}
use Rattle.scenario_grammar.specs.declared.building.Opening.{Opening}
use Rattle.scenario_grammar.specs.declared.building.Opening.TheVariants as opening
use Rattle.scenario_grammar.specs.declared.phrase.Phrase.{Phrase}
use Rattle.scenario_grammar.specs.declared.phrase.Phrase.TheVariants as phrase
use Rattle.scenario_grammar.specs.declared.reason.TextReason.{TextReason}
use Rattle.scenario_grammar.specs.declared.reason.TextReason.TheVariants as reason
use Rattle.scenario_grammar.specs.declared.token.Token.{Token}
use Rattle.scenario_grammar.specs.declared.token.Token.TheVariants as token
use Rattle.scenario_grammar.specs.Building.{Building, closed_by, step}
use Rattle.scenario_grammar.specs.Keyword.{profile_of}
use Rattle.scenario_grammar.specs.Layout.{Word}
use Rattle.scenario_grammar.specs.Parsed.{standing}
use Rattle.scenario_grammar.specs.Phrase.{phrase_tokens}
use Rattle.scenario_grammar.specs.Place.{Profiles, misplaced}
use Rattle.scenario_grammar.specs.Token.{known_in, token_of, token_in}
use Rattle.scenario_grammar.proofs.Atoms.{and_left, and_right}
use Rattle.scenario_grammar.proofs.Begun.{begun}
use Rattle.scenario_grammar.proofs.InWords.{is_word, phrase_in_words}
use Rattle.scenario_grammar.proofs.Named.{named_profile}
use Rattle.scenario_grammar.proofs.PhraseLaws.{role}

-- the profile knows the word that the token stands for
abbrev knows : ℕ → Token → Bool
knows profile (token.Fixed k) = nat_le (profile_of k) profile
knows profile (token.Name n) = true
knows profile (token.Number z) = true
knows profile token.Oversized = true
knows profile token.Misspelled = true
knows profile token.Unknown = true

-- a word that is a word in one profile is itself there
is_itself : (p : ℕ) (t : Token) → is_word (known_in p t) ≡ true → (known_in p t ≡ t) × (knows p t ≡ true)
is_itself p (token.Fixed k) h = by_profile (nat_le (profile_of k) p) h
  where
    by_profile : (b : Bool) → is_word (if b then token.Fixed k else token.Unknown) ≡ true → ((if b then token.Fixed k else token.Unknown) ≡ token.Fixed k) × (b ≡ true)
    by_profile true h = (refl, refl)
    by_profile false h = cc
is_itself p (token.Name n) h = (refl, refl)
is_itself p (token.Number z) h = (refl, refl)
is_itself p token.Oversized h = cc
is_itself p token.Misspelled h = cc
is_itself p token.Unknown h = cc

-- a word that the profile knows is itself in it
known_itself : (p : ℕ) (t : Token) → knows p t ≡ true → known_in p t ≡ t
known_itself p (token.Fixed k) h = rw h refl
known_itself p (token.Name n) h = refl
known_itself p (token.Number z) h = refl
known_itself p token.Oversized h = refl
known_itself p token.Misspelled h = refl
known_itself p token.Unknown h = refl

knows_later : (p q : ℕ) (t : Token) → p ≤ q → knows p t ≡ true → knows q t ≡ true
knows_later p q (token.Fixed k) l h = let before = leb-true (profile_of k) p h in le-leb (profile_of k) q (omega (arith, l, before))
knows_later p q (token.Name n) l h = refl
knows_later p q (token.Number z) l h = refl
knows_later p q token.Oversized l h = refl
knows_later p q token.Misspelled l h = refl
knows_later p q token.Unknown l h = refl

-- the words of a line, by the profile that knows all
pub words_known : (p : ℕ) (ws : List Word) → list_all is_word (map (token_in p) ws) ≡ true → map (token_in p) ws ≡ map token_of ws
words_known p [] h = refl
words_known p (w ∷ ws) h =
    let here = is_itself p (token_of w) (and_left (is_word (token_in p w)) (list_all is_word (map (token_in p) ws)) h) in
    let below = words_known p ws (and_right (is_word (token_in p w)) (list_all is_word (map (token_in p) ws)) h) in
    λ i. here.0 i ∷ below i

-- the words of a line are the same in a later profile
words_later : (p q : ℕ) (ws : List Word) → p ≤ q → list_all is_word (map (token_in p) ws) ≡ true → map (token_in q) ws ≡ map (token_in p) ws
words_later p q [] l h = refl
words_later p q (w ∷ ws) l h =
    let here = is_itself p (token_of w) (and_left (is_word (token_in p w)) (list_all is_word (map (token_in p) ws)) h) in
    let there = known_itself q (token_of w) (knows_later p q (token_of w) l here.1) in
    let below = words_later p q ws l (and_right (is_word (token_in p w)) (list_all is_word (map (token_in p) ws)) h) in
    λ i. (there ∙ sym here.0) i ∷ below i

-- what a line says in one profile it says in each later one
pub says_later : (p q : ℕ) (says : Phrase) (ws : List Word) → p ≤ q → phrase_tokens says ≡ Some (map (token_in p) ws) → phrase_tokens says ≡ Some (map (token_in q) ws)
says_later p q says ws l h = subst (λ ts. phrase_tokens says ≡ Some ts) (sym (words_later p q ws l (phrase_in_words says (map (token_in p) ws) h))) h

-- profile 1 knows the words of the line of the profile
early_tokens : (named : ℕ) (ts : List Token) → phrase_tokens (phrase.Profile named) ≡ Some ts → list_all (knows 1) ts ≡ true
early_tokens named ts h = ap (list_all (knows 1)) (sym (named_profile named ts h).written)

early_words : (p : ℕ) (ws : List Word) → list_all (knows 1) (map (token_in p) ws) ≡ true → list_all is_word (map (token_in p) ws) ≡ true → map (token_in 1) ws ≡ map (token_in p) ws
early_words p [] h k = refl
early_words p (w ∷ ws) h k =
    let here = is_itself p (token_of w) (and_left (is_word (token_in p w)) (list_all is_word (map (token_in p) ws)) k) in
    let first = known_itself 1 (token_of w) (ap (knows 1) (sym here.0) ∙ and_left (knows 1 (token_in p w)) (list_all (knows 1) (map (token_in p) ws)) h) in
    let below = early_words p ws (and_right (knows 1 (token_in p w)) (list_all (knows 1) (map (token_in p) ws)) h) (and_right (is_word (token_in p w)) (list_all is_word (map (token_in p) ws)) k) in
    λ i. (first ∙ sym here.0) i ∷ below i

-- the line of the profile says so in profile 1 too
profile_words : (p : ℕ) (ws : List Word) → phrase_tokens (phrase.Profile p) ≡ Some (map (token_in p) ws) → map (token_in 1) ws ≡ map (token_in p) ws
profile_words p ws h = early_words p ws (early_tokens p (map (token_in p) ws) h) (phrase_in_words (phrase.Profile p) (map (token_in p) ws) h)

pub profile_said : (p : ℕ) (ws : List Word) → phrase_tokens (phrase.Profile p) ≡ Some (map (token_in p) ws) → phrase_tokens (phrase.Profile p) ≡ Some (map (token_in 1) ws)
profile_said p ws h = subst (λ ts. phrase_tokens (phrase.Profile p) ≡ Some ts) (sym (profile_words p ws h)) h

-- what a block becomes has the profile
closed_profile : (b : Building) (o : OpenBlock) (op : Opening) (os : List OpenBlock) → (closed_by b o op os).profile ≡ b.profile
closed_profile b o (opening.Function is_raw n ps) os = refl
closed_profile b o (opening.If x) os = refl
closed_profile b o (opening.Else x ts) os = refl
closed_profile b o (opening.While x) os = refl
closed_profile b o opening.Try os = refl
closed_profile b o (opening.Except tried es l c t) os = refl
closed_profile b o (opening.Finally tried es) os = refl
closed_profile b o (opening.Timeout t silent) os = refl

ended_profile : (b : Building) (os : List OpenBlock) → (let c : Building = elim os [ [] ↦ b | o ∷ rest ↦ closed_by b o o.opening rest ] in c).profile ≡ b.profile
ended_profile b [] = refl
ended_profile b (o ∷ os) = closed_profile b o o.opening os

-- before the line of the profile a text has profile 1
first_profile : (profile : ℕ) (ds : List Declaration) (fs : List Function) (os : List OpenBlock) → misplaced (standing (begun profile ds fs os)) Profiles ≡ None → profile ≡ 1
first_profile profile [] [] [] h = eqb-true profile 1 (by_first (profile == 1) h)
  where
    by_first : (first : Bool) → (let r : Option TextReason = if not first then Some reason.LineOutOfPlace else None in r) ≡ None → first ≡ true
    by_first true h = refl
    by_first false h = cc
first_profile profile (d ∷ ds) [] [] h = cc
first_profile profile ds [] (o ∷ os) h = cc
first_profile profile ds (f ∷ fs) os h = cc

same_profile : (p q : ℕ) → q ≡ p → p ≤ q
same_profile p q e = omega (arith, e)

-- a line in its place leaves the profile, or says a later one
pub step_grows : (b : Building) (n : ℕ) (p : Phrase) (ts : List Token) → phrase_tokens p ≡ Some ts → misplaced (standing b) (role p) ≡ None → b.profile ≤ (step b n p).profile
step_grows b n (phrase.Profile named) ts w h =
    let first = first_profile b.profile b.objects b.functions b.open_blocks h in
    let later = (named_profile named ts w).least in
    omega (arith, first, later)
step_grows b n (phrase.Declaration name object) ts w h = same_profile b.profile b.profile refl
step_grows b n (phrase.Function is_raw name ps) ts w h = same_profile b.profile b.profile refl
step_grows b n (phrase.Command c) ts w h = same_profile b.profile b.profile refl
step_grows b n (phrase.Giving t g) ts w h = same_profile b.profile b.profile refl
step_grows b n (phrase.If x) ts w h = same_profile b.profile b.profile refl
step_grows b n phrase.Else ts w h = same_profile b.profile b.profile refl
step_grows b n (phrase.While x) ts w h = same_profile b.profile b.profile refl
step_grows b n phrase.Try ts w h = same_profile b.profile b.profile refl
step_grows b n (phrase.Except c t) ts w h = same_profile b.profile b.profile refl
step_grows b n phrase.Finally ts w h = same_profile b.profile b.profile refl
step_grows b n (phrase.Timeout t silent) ts w h = same_profile b.profile b.profile refl
step_grows b n phrase.End ts w h = same_profile b.profile (step b n phrase.End).profile (ended_profile b b.open_blocks)
