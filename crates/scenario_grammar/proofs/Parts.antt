-- What is read was written so, and what was written is read: for the parts of a line, one after another.
use Rattle.std.proofs.Common.{◌≡◌, Bool, true, List, [], ◌++◌, Some, None, Result, Ok, Err, refl, sym, ap, subst, ◌∙◌, append_assoc}
use Rattle.std.specs.List.{list_all}
use Rattle.scenario_grammar.specs.declared.token.Token.{Token}
use Rattle.scenario_grammar.specs.declared.token.Token.TheVariants as token
use Rattle.scenario_grammar.specs.Token.{Written, ◌⊕◌, is_free_name, in_64_bits}
use Rattle.scenario_grammar.specs.Reading.{Reader, ◌>>=◌, ◌<$>◌, ◌<*>◌, pure}
use Rattle.scenario_grammar.specs.declared.reason.TextReason.{TextReason}

-- what `token_of` answers
abbrev pub is_proper : Token → Bool
is_proper (token.Name n) = is_free_name n
is_proper (token.Number z) = in_64_bits z
is_proper _ = true

abbrev pub AreProper : List Token → Type 0
AreProper ts = list_all is_proper ts ≡ true

-- the parts that were read, what was made of them, and how they are written
pub record Built {E C : Type 0} (make : E → C) (writes : E → Written Token) (ts : List Token) (made : C) (rest : List Token) : Type 0 where
  pub parts : E
  pub made_of : make parts ≡ made
  pub front : List Token
  pub written : writes parts ≡ Some front
  pub whole : ts ≡ front ++ rest
  pub proper : AreProper rest

abbrev pub Sound : {E C : Type 0} → (E → C) → (E → Written Token) → Reader C → Type 0
Sound make writes reader = (ts rest : List Token) (made : _) → AreProper ts → reader ts ≡ Ok (made, rest) → Built make writes ts made rest

-- what was written is read, where what follows is as asked
abbrev pub Full : {E C : Type 0} → (E → C) → (E → Written Token) → (List Token → Type 0) → Reader C → Type 0
Full make writes Follows reader = (parts : _) (front rest : List Token) → writes parts ≡ Some front → Follows rest → reader (front ++ rest) ≡ Ok (make parts, rest)

abbrev pub Anything : List Token → Type 0
Anything rest = Unit {0}

-- both parts were written
pub both : {A : Type 0} (x y : Written A) (z : List A) → (x ⊕ y) ≡ Some z → (a : List A) × (b : List A) × (x ≡ Some a) × (y ≡ Some b) × (a ++ b ≡ z)
both None y z e = cc
both (Some a) None z e = cc
both (Some a) (Some b) z e = (a, b, refl, refl, cc)

pub bind_ok : {A B : Type 0} (r : Result A TextReason) (f : A → Result B TextReason) (y : B) → (r >>= f) ≡ Ok y → (x : A) × (r ≡ Ok x) × (f x ≡ Ok y)
bind_ok (Ok x) f y e = (x, refl, e)
bind_ok (Err r) f y e = cc

ok_value : {A : Type 0} (x y : A) → (let r : Result A TextReason = Ok x in r) ≡ Ok y → x ≡ y
ok_value x y e = cc

pub ok_first : {A B : Type 0} (a c : A) (b d : B) → (let r : Result (A × B) TextReason = Ok (a, b) in r) ≡ Ok (c, d) → a ≡ c
ok_first a c b d e = ap (λ p. p.0) (ok_value (a, b) (c, d) e)

pub ok_second : {A B : Type 0} (a c : A) (b d : B) → (let r : Result (A × B) TextReason = Ok (a, b) in r) ≡ Ok (c, d) → b ≡ d
ok_second a c b d e = ap (λ p. p.1) (ok_value (a, b) (c, d) e)

-- proper tokens under another name
pub proper_at : (ts us : List Token) → ts ≡ us → AreProper ts → AreProper us
proper_at ts us e h = let P : List Token → Type 0 = AreProper in subst P e h

pub pure_sound : {C : Type 0} (c : C) → Sound {E = Unit {0}} (λ _. c) (λ _. Some []) (pure c)
pure_sound c ts rest made h e =
    let ends = ok_second c made ts rest e in
    record { parts = tt; made_of = ok_first c made ts rest e; front = []; written = refl; whole = ends; proper = proper_at ts rest ends h }

pub map_sound : {E C D : Type 0} (f : C → D) (make : E → C) (writes : E → Written Token) (reader : Reader C) → Sound make writes reader → Sound (λ p. f (make p)) writes (f <$> reader)
map_sound f make writes reader sound ts rest made h e =
    let read = bind_ok (reader ts) (λ x. Ok (f x.0, x.1)) (made, rest) e in
    let ends = ok_second (f read.0.0) made read.0.1 rest read.2 in
    let got = sound ts read.0.1 read.0.0 h read.1 in
    record {
      parts = got.parts;
      made_of = ap f got.made_of ∙ ok_first (f read.0.0) made read.0.1 rest read.2;
      front = got.front;
      written = got.written;
      whole = got.whole ∙ ap (λ z. got.front ++ z) ends;
      proper = proper_at read.0.1 rest ends got.proper;
    }

pub then_sound : {E F C D : Type 0} (make : E → C → D) (writes : E → Written Token) (before : Reader (C → D)) (part : F → C) (part_writes : F → Written Token) (reader : Reader C)
    → Sound make writes before → Sound part part_writes reader → Sound {E = E × F} (λ p. make p.0 (part p.1)) (λ p. writes p.0 ⊕ part_writes p.1) (before <*> reader)
then_sound make writes before part part_writes reader sound_before sound_part ts rest made h e =
    let first = bind_ok (before ts) (λ f. reader f.1 >>= λ x. Ok (f.0 x.0, x.1)) (made, rest) e in
    let got = sound_before ts first.0.1 first.0.0 h first.1 in
    let second = bind_ok (reader first.0.1) (λ x. Ok (first.0.0 x.0, x.1)) (made, rest) first.2 in
    let more = sound_part first.0.1 second.0.1 second.0.0 got.proper second.1 in
    let ends = ok_second (first.0.0 second.0.0) made second.0.1 rest second.2 in
    record {
      parts = (got.parts, more.parts);
      made_of = ap (make got.parts) more.made_of ∙ (λ i. got.made_of i second.0.0) ∙ ok_first (first.0.0 second.0.0) made second.0.1 rest second.2;
      front = got.front ++ more.front;
      written = rw (got.written, more.written) refl;
      whole = got.whole ∙ ap (λ z. got.front ++ z) (more.whole ∙ ap (λ z. more.front ++ z) ends) ∙ sym (append_assoc got.front more.front rest);
      proper = proper_at second.0.1 rest ends more.proper;
    }

pub map_full : {E C D : Type 0} (f : C → D) (make : E → C) (writes : E → Written Token) (Follows : List Token → Type 0) (reader : Reader C)
    → Full make writes Follows reader → Full (λ p. f (make p)) writes Follows (f <$> reader)
map_full f make writes Follows reader full parts front rest e h = rw (full parts front rest e h) refl

pub then_full : {E F C D : Type 0} (make : E → C → D) (writes : E → Written Token) (Between : List Token → Type 0) (before : Reader (C → D)) (part : F → C) (part_writes : F → Written Token) (Follows : List Token → Type 0) (reader : Reader C)
    → Full make writes Between before → Full part part_writes Follows reader
    → ((p : F) (front rest : List Token) → part_writes p ≡ Some front → Follows rest → Between (front ++ rest))
    → Full {E = E × F} (λ p. make p.0 (part p.1)) (λ p. writes p.0 ⊕ part_writes p.1) Follows (before <*> reader)
then_full make writes Between before part part_writes Follows reader full_before full_part meets parts front rest e h =
    let w = both (writes parts.0) (part_writes parts.1) front e in
    rw (sym w.4, append_assoc w.0 w.1 rest, full_before parts.0 w.0 (w.1 ++ rest) w.2 (meets parts.1 w.1 rest w.3 h), full_part parts.1 w.1 rest w.3 h) refl
