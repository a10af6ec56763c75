-- A line's tokens say a phrase exactly where they are those of the phrase.
use Rattle.std.proofs.Common.{◌≡◌, ℕ, nat_le, Bool, true, false, if◌then◌else◌, List, [], ◌∷◌, ◌++◌, map, Option, Some, None, Result, Ok, Err, is_ok, refl, sym, ap, subst, ◌∙◌, append-nil}
use Rattle.std.specs.List.{list_all}
use Rattle.std.specs.Str.Parse.{signed_digits_value}
use Rattle.gv_values.specs.declared.name.Name.{Name}
use Rattle.gv_values.specs.Name.{is_name}
use Rattle.scenario_tree.specs.declared.tree.Command.{Command}
use Rattle.scenario_tree.specs.declared.tree.Command.TheVariants as command
use Rattle.scenario_tree.specs.declared.tree.Giving.{Giving}
use Rattle.scenario_tree.specs.declared.tree.Object.TheVariants as object
use Rattle.scenario_grammar.specs.declared.keyword.Keyword.{Keyword}
use Rattle.scenario_grammar.specs.declared.keyword.Keyword.TheVariants as k
use Rattle.scenario_grammar.specs.declared.token.Token.{Token}
use Rattle.scenario_grammar.specs.declared.token.Token.TheVariants as token
use Rattle.scenario_grammar.specs.declared.phrase.Phrase.{Phrase}
use Rattle.scenario_grammar.specs.declared.phrase.Phrase.TheVariants as phrase
use Rattle.scenario_grammar.specs.Keyword.{keyword_of, profile_of}
use Rattle.scenario_grammar.specs.Layout.{Word}
use Rattle.scenario_grammar.specs.Place.{Role, Profiles, Declares, Defines, States, Opens, Parts, Catches, Finishes, Ends, Standing, role_by, role_of, misplaced}
use Rattle.scenario_grammar.specs.Token.{Written, ◌⊕◌, ◌▹◌, fixed, name, is_free_name, in_64_bits, is_integer, begins_number, number_token, loose_token, token_of, known_in, token_in}
use Rattle.scenario_grammar.specs.Phrase.{phrase_tokens, giving_tokens, target_tokens}
use Rattle.scenario_grammar.specs.Reading.{Reading, ◌<$>◌, name_at, number_at, nested_at, giving_by, giving_at, phrase_by, is_given, given_at, unmarked_at, whole, phrase_of}
use Rattle.scenario_grammar.proofs.Parts.{is_proper, AreProper, bind_ok, ok_first, ok_second, both}
use Rattle.scenario_grammar.proofs.Atoms.{and_left, and_right, kept}
use Rattle.scenario_grammar.proofs.Words.{inner}
use Rattle.scenario_grammar.proofs.Lines as l
use Rattle.scenario_grammar.specs.declared.reason.TextReason.{TextReason}

-- the part that a phrase has among the blocks
abbrev pub role : Phrase → Role
role (phrase.Profile n) = Profiles
role (phrase.Declaration n o) = Declares
role (phrase.Function is_raw n parameters) = Defines
role (phrase.Command c) = States
role (phrase.Giving target g) = States
role (phrase.If e) = Opens
role phrase.Else = Parts
role (phrase.While e) = Opens
role phrase.Try = Opens
role (phrase.Except c n) = Catches
role phrase.Finally = Finishes
role (phrase.Timeout after silent) = Opens
role phrase.End = Ends

-- every word is read as a token that could be written
loose_proper : (w : Word) → keyword_of w ≡ None → is_proper (loose_token w) ≡ true
loose_proper w none = by_name (is_name w) refl
  where
    by_number : (fits : Bool) → fits ≡ in_64_bits (signed_digits_value 10 w) → is_proper (if fits then token.Number (signed_digits_value 10 w) else token.Oversized) ≡ true
    by_number true e = sym e
    by_number false e = refl

    by_spelling : (spelt : Bool) → is_proper (if spelt then (if in_64_bits (signed_digits_value 10 w) then token.Number (signed_digits_value 10 w) else token.Oversized) else token.Misspelled) ≡ true
    by_spelling true = by_number (in_64_bits (signed_digits_value 10 w)) refl
    by_spelling false = refl

    by_begin : (begins : Bool) → is_proper (if begins then number_token w else token.Unknown) ≡ true
    by_begin true = by_spelling (is_integer w)
    by_begin false = refl

    by_name : (named : Bool) → named ≡ is_name w → is_proper (if named then token.Name w else (if begins_number w then number_token w else token.Unknown)) ≡ true
    by_name true e = rw (sym e, none) refl
    by_name false e = by_begin (begins_number w)

pub token_proper : (w : Word) → is_proper (token_of w) ≡ true
unfolding token_of
token_proper w = by_keyword (keyword_of w) refl
  where
    by_keyword : (found : Option Keyword) → keyword_of w ≡ found → is_proper (elim found [ Some k ↦ token.Fixed k | None ↦ loose_token w ]) ≡ true
    by_keyword (Some word) e = refl
    by_keyword None e = loose_proper w e

known_proper : (profile : ℕ) (t : Token) → is_proper t ≡ true → is_proper (known_in profile t) ≡ true
known_proper profile (token.Fixed k) h = by_profile (nat_le (profile_of k) profile)
  where
    by_profile : (b : Bool) → is_proper (if b then token.Fixed k else token.Unknown) ≡ true
    by_profile true = refl
    by_profile false = refl
known_proper profile (token.Name n) h = h
known_proper profile (token.Number z) h = h
known_proper profile token.Oversized h = h
known_proper profile token.Misspelled h = h
known_proper profile token.Unknown h = h

pub tokens_proper : (profile : ℕ) (ws : List Word) → AreProper (map (token_in profile) ws)
tokens_proper profile [] = refl
tokens_proper profile (w ∷ ws) = rw (known_proper profile (token_of w) (token_proper w)) (tokens_proper profile ws)

-- what stands behind the first word was written as a part of this phrase
record SaidBy (word : Keyword) (ts : List Token) (made : Phrase) (rest : List Token) : Type 0 where
  front : List Token
  written : phrase_tokens made ≡ Some (token.Fixed word ∷ front)
  whole : ts ≡ front ++ rest

abbrev Says : Keyword → Type 0
Says word = (ts rest : List Token) (made : Phrase) → AreProper ts → phrase_by word ts ≡ Ok (made, rest) → SaidBy word ts made rest

line_said : {E : Type 0} {word : Keyword} {make : E → Phrase} {writes : E → Written Token} → l.Line word make writes → Says word
line_said {word = word} x ts rest made h e =
    let b = x.reads.sound ts rest made h e in
    record { front = b.front; written = ap phrase_tokens (sym b.made_of) ∙ x.same b.parts ∙ ap (λ w. word ▹ w) b.written; whole = b.whole }

giving_line_said : (word : Keyword) (ts rest : List Token) (made : Phrase) → AreProper ts → (phrase.Giving None <$> giving_by word) ts ≡ Ok (made, rest) → SaidBy word ts made rest
unfolding phrase_tokens
giving_line_said word ts rest made h e =
    let first = bind_ok (giving_by word ts) (λ x. Ok (phrase.Giving None x.0, x.1)) (made, rest) e in
    let s = l.giving_said word ts first.0.1 first.0.0 h first.1 in
    let ends = ok_second (phrase.Giving None first.0.0) made first.0.1 rest first.2 in
    record {
      front = s.front;
      written = ap phrase_tokens (sym (ok_first (phrase.Giving None first.0.0) made first.0.1 rest first.2)) ∙ (rw s.written refl);
      whole = s.whole ∙ ap (λ z. s.front ++ z) ends;
    }

line_says : (word : Keyword) → Says word
line_says k.Event ts rest made h e = line_said l.event_line ts rest made h e
line_says k.Result ts rest made h e = line_said l.result_line ts rest made h e
line_says k.Sem ts rest made h e = line_said l.sem_line ts rest made h e
line_says k.BoundedSem ts rest made h e = line_said l.bounded_sem_line ts rest made h e
line_says k.Lock ts rest made h e = line_said l.lock_line ts rest made h e
line_says k.Queue ts rest made h e = line_said l.queue_line ts rest made h e
line_says k.Group ts rest made h e = line_said l.group_line ts rest made h e
line_says k.Pool ts rest made h e = line_said l.pool_line ts rest made h e
line_says k.Native ts rest made h e = line_said l.native_line ts rest made h e
line_says k.Channel ts rest made h e = line_said l.channel_line ts rest made h e
line_says k.Profile ts rest made h e = line_said l.profile_line ts rest made h e
line_says k.Function ts rest made h e = line_said l.function_line ts rest made h e
line_says k.RawFunction ts rest made h e = line_said l.raw_function_line ts rest made h e
line_says k.Print ts rest made h e = line_said l.print_line ts rest made h e
line_says k.Let ts rest made h e = line_said l.let_line ts rest made h e
line_says k.Return ts rest made h e = line_said l.return_line ts rest made h e
line_says k.Raise ts rest made h e = line_said l.raise_line ts rest made h e
line_says k.Start ts rest made h e = line_said l.start_line ts rest made h e
line_says k.Sleep ts rest made h e = line_said l.sleep_line ts rest made h e
line_says k.Join ts rest made h e = line_said l.join_line ts rest made h e
line_says k.Kill ts rest made h e = line_said l.kill_line ts rest made h e
line_says k.KillAll ts rest made h e = line_said l.kill_all_line ts rest made h e
line_says k.Unlink ts rest made h e = line_said l.unlink_line ts rest made h e
line_says k.Set ts rest made h e = line_said l.set_line ts rest made h e
line_says k.Clear ts rest made h e = line_said l.clear_line ts rest made h e
line_says k.ResultSet ts rest made h e = line_said l.result_set_line ts rest made h e
line_says k.ResultFail ts rest made h e = line_said l.result_fail_line ts rest made h e
line_says k.Release ts rest made h e = line_said l.release_line ts rest made h e
line_says k.QueuePut ts rest made h e = line_said l.queue_put_line ts rest made h e
line_says k.QueueDone ts rest made h e = line_said l.queue_done_line ts rest made h e
line_says k.GroupJoin ts rest made h e = line_said l.group_join_line ts rest made h e
line_says k.GroupKill ts rest made h e = line_said l.group_kill_line ts rest made h e
line_says k.SetParent ts rest made h e = line_said l.set_parent_line ts rest made h e
line_says k.ChannelPut ts rest made h e = line_said l.channel_put_line ts rest made h e
line_says k.QueueShut ts rest made h e = line_said l.queue_shut_line ts rest made h e
line_says k.If ts rest made h e = line_said l.if_line ts rest made h e
line_says k.Else ts rest made h e = line_said l.else_line ts rest made h e
line_says k.While ts rest made h e = line_said l.while_line ts rest made h e
line_says k.Try ts rest made h e = line_said l.try_line ts rest made h e
line_says k.Except ts rest made h e = line_said l.except_line ts rest made h e
line_says k.Finally ts rest made h e = line_said l.finally_line ts rest made h e
line_says k.Timeout ts rest made h e = line_said l.timeout_line ts rest made h e
line_says k.End ts rest made h e = line_said l.end_line ts rest made h e
line_says word ts rest made h e = giving_line_said word ts rest made h e

-- a line without `<-`, read whole behind its word
record Unmarked (p : Phrase) (ts : List Token) : Type 0 where
  word : Keyword
  front : List Token
  whole : ts ≡ token.Fixed word ∷ front
  read : phrase_by word front ≡ Ok (p, [])
  acts : role_by word ≡ role p

line_read : {E : Type 0} {word : Keyword} {make : E → Phrase} {writes : E → Written Token} → l.Line word make writes → (q : E) (ts : List Token)
    → role_by word ≡ role (make q) → phrase_tokens (make q) ≡ Some ts → Unmarked (make q) ts
line_read {word = word} {make = make} {writes = writes} x q ts acts w =
    let i = inner word (writes q) ts (sym (x.same q) ∙ w) in
    record { word = word; front = i.0; whole = sym i.2; read = subst (λ z. phrase_by word z ≡ Ok (make q, [])) (append-nil i.0) (x.reads.full q i.0 [] i.1 refl); acts = acts }

unmarked_giving : (g : Giving) (ts : List Token) → phrase_tokens (phrase.Giving None g) ≡ Some ts → Unmarked (phrase.Giving None g) ts
unfolding phrase_tokens
unmarked_giving g ts w =
    let r = l.giving_read g ts (nothing_before (giving_tokens g) ts w) in
    record { word = r.word; front = r.front; whole = r.whole; read = r.plain r.front ∙ (rw r.read refl); acts = r.role }
  where
    nothing_before : (x : Written Token) (ts : List Token) → (Some [] ⊕ x) ≡ Some ts → x ≡ Some ts
    nothing_before None ts e = cc
    nothing_before (Some y) ts e = e

command_read : (c : Command) (ts : List Token) → phrase_tokens (phrase.Command c) ≡ Some ts → Unmarked (phrase.Command c) ts
command_read (command.Print a) ts w = line_read l.print_line a ts refl w
command_read (command.Let a b) ts w = line_read l.let_line (a, b) ts refl w
command_read (command.Return a) ts w = line_read l.return_line a ts refl w
command_read (command.Raise a) ts w = line_read l.raise_line a ts refl w
command_read (command.Start a) ts w = line_read l.start_line a ts refl w
command_read (command.Sleep a) ts w = line_read l.sleep_line a ts refl w
command_read (command.Join a b) ts w = line_read l.join_line (a, b) ts refl w
command_read (command.Kill a b c) ts w = line_read l.kill_line ((a, b), c) ts refl w
command_read (command.KillAll a b c) ts w = line_read l.kill_all_line ((a, b), c) ts refl w
command_read (command.Unlink a) ts w = line_read l.unlink_line a ts refl w
command_read (command.Set a) ts w = line_read l.set_line a ts refl w
command_read (command.Clear a) ts w = line_read l.clear_line a ts refl w
command_read (command.ResultSet a b) ts w = line_read l.result_set_line (a, b) ts refl w
command_read (command.ResultFail a b) ts w = line_read l.result_fail_line (a, b) ts refl w
command_read (command.Release a) ts w = line_read l.release_line a ts refl w
command_read (command.QueuePut a b c) ts w = line_read l.queue_put_line ((a, b), c) ts refl w
command_read (command.QueueDone a) ts w = line_read l.queue_done_line a ts refl w
command_read (command.GroupJoin a b) ts w = line_read l.group_join_line (a, b) ts refl w
command_read (command.GroupKill a b c) ts w = line_read l.group_kill_line ((a, b), c) ts refl w
command_read (command.SetParent a b) ts w = line_read l.set_parent_line (a, b) ts refl w
command_read (command.ChannelPut a b) ts w = line_read l.channel_put_line (a, b) ts refl w
command_read (command.QueueShut a b) ts w = line_read l.queue_shut_line (a, b) ts refl w

-- every phrase but one with `<-`
unmarked : (p : Phrase) (ts : List Token) → ((n : Name) (g : Giving) → p ≡ phrase.Giving (Some n) g → ⊥) → phrase_tokens p ≡ Some ts → Unmarked p ts
unfolding phrase_tokens
unmarked (phrase.Declaration n object.Event) ts h w = line_read l.event_line n ts refl w
unmarked (phrase.Declaration n object.Result) ts h w = line_read l.result_line n ts refl w
unmarked (phrase.Declaration n (object.Semaphore x)) ts h w = line_read l.sem_line (n, x) ts refl w
unmarked (phrase.Declaration n (object.BoundedSemaphore x)) ts h w = line_read l.bounded_sem_line (n, x) ts refl w
unmarked (phrase.Declaration n object.Lock) ts h w = line_read l.lock_line n ts refl w
unmarked (phrase.Declaration n (object.Queue kind size)) ts h w = line_read l.queue_line ((n, kind), size) ts refl w
unmarked (phrase.Declaration n object.Group) ts h w = line_read l.group_line n ts refl w
unmarked (phrase.Declaration n (object.Pool x)) ts h w = line_read l.pool_line (n, x) ts refl w
unmarked (phrase.Declaration n (object.Native x)) ts h w = line_read l.native_line (n, x) ts refl w
unmarked (phrase.Declaration n object.Channel) ts h w = line_read l.channel_line n ts refl w
unmarked (phrase.Profile n) ts h w = line_read l.profile_line n ts refl w
unmarked (phrase.Function false n ps) ts h w = line_read l.function_line (n, ps) ts refl w
unmarked (phrase.Function true n []) ts h w = cc
unmarked (phrase.Function true n (p ∷ [])) ts h w = line_read l.raw_function_line (n, p) ts refl w
unmarked (phrase.Function true n (p ∷ q ∷ ps)) ts h w = cc
unmarked (phrase.Command c) ts h w = command_read c ts w
unmarked (phrase.Giving None g) ts h w = unmarked_giving g ts w
unmarked (phrase.Giving (Some n) g) ts h w = absurd (h n g refl)
unmarked (phrase.If e) ts h w = line_read l.if_line e ts refl w
unmarked phrase.Else ts h w = line_read l.else_line tt ts refl w
unmarked (phrase.While e) ts h w = line_read l.while_line e ts refl w
unmarked phrase.Try ts h w = line_read l.try_line tt ts refl w
unmarked (phrase.Except c n) ts h w = line_read l.except_line (c, n) ts refl w
unmarked phrase.Finally ts h w = line_read l.finally_line tt ts refl w
unmarked (phrase.Timeout after silent) ts h w = line_read l.timeout_line (after, silent) ts refl w
unmarked phrase.End ts h w = line_read l.end_line tt ts refl w

-- no line has `<-` behind a fixed word
arrow_refused : (word : Keyword) (us : List Token) → is_ok (whole (phrase_by word (token.Fixed k.Arrow ∷ us))) ≡ false
unfolding name_at number_at nested_at
arrow_refused k.Else us = refl
arrow_refused _ us = refl

no_arrow : (word : Keyword) (us : List Token) (p : Phrase) → phrase_by word (token.Fixed k.Arrow ∷ us) ≡ Ok (p, []) → ⊥
no_arrow word us p e = cc (arrow_refused word us, ap (λ r. is_ok (whole r)) e)

-- of use where there is a case for each word: `cc` in each would be dear
unlike : false ≡ true → ⊥
unlike e = cc

-- the second token is `<-`
given_shape : (ts : List Token) → is_given ts ≡ true → (t : Token) × (us : List Token) × (ts ≡ t ∷ token.Fixed k.Arrow ∷ us)
given_shape (t ∷ token.Fixed k.Arrow ∷ us) e = (t, us, refl)
given_shape _ e = absurd (unlike e)

not_given : (word : Keyword) (front : List Token) (p : Phrase) → phrase_by word front ≡ Ok (p, []) → (b : Bool) → is_given (token.Fixed word ∷ front) ≡ b → b ≡ false
not_given word front p read false e = refl
not_given word front p read true e =
    let shape = given_shape (token.Fixed word ∷ front) e in
    let arrow : front ≡ token.Fixed k.Arrow ∷ shape.1 = cc (shape.2) in
    absurd (no_arrow word shape.1 p (subst (λ z. phrase_by word z ≡ Ok (p, [])) arrow read))

-- the tokens of a phrase are read as it, and have its part among the blocks
pub record PhraseRead (p : Phrase) (ts : List Token) : Type 0 where
  pub read : phrase_of ts ≡ Ok p
  pub place : (s : Standing) → misplaced s (role_of ts) ≡ misplaced s (role p)

unmarked_read : (p : Phrase) (ts : List Token) → Unmarked p ts → PhraseRead p ts
unfolding phrase_of
unmarked_read p ts u =
    let no = not_given u.word u.front p u.read (is_given (token.Fixed u.word ∷ u.front)) refl in
    record { read = rw (u.whole, no, u.read) refl; place = λ s. rw (u.whole, no, u.acts) refl }

given_read : (n : Name) (g : Giving) (ts : List Token) → phrase_tokens (phrase.Giving (Some n) g) ≡ Some ts → PhraseRead (phrase.Giving (Some n) g) ts
unfolding phrase_tokens phrase_of name name_at
given_read n g ts w =
    let parts = both (target_tokens n) (giving_tokens g) ts w in
    let target = both (name n) (fixed k.Arrow) parts.0 parts.2 in
    let free = kept (is_free_name n) (Some (token.Name n ∷ [])) target.0 target.2 in
    let first : token.Name n ∷ [] ≡ target.0 = cc in
    let arrow : token.Fixed k.Arrow ∷ [] ≡ target.1 = cc in
    let r = l.giving_read g parts.1 parts.3 in
    let all : ts ≡ token.Name n ∷ token.Fixed k.Arrow ∷ token.Fixed r.word ∷ r.front = sym parts.4 ∙ ap (λ z. z ++ parts.1) (sym target.4 ∙ ap (λ z. z ++ target.1) (sym first) ∙ ap (λ z. token.Name n ∷ z) (sym arrow)) ∙ ap (λ z. token.Name n ∷ token.Fixed k.Arrow ∷ z) r.whole in
    record { read = rw (all, r.read) refl; place = λ s. rw (all, r.gives) refl }

pub phrase_read : (p : Phrase) (ts : List Token) → phrase_tokens p ≡ Some ts → PhraseRead p ts
phrase_read (phrase.Giving (Some n) g) ts w = given_read n g ts w
phrase_read p ts w = unmarked_read p ts (unmarked p ts (λ n g e. cc) w)

whole_line : (r : Reading Phrase) (p : Phrase) → whole r ≡ Ok p → r ≡ Ok (p, [])
whole_line (Ok (x, [])) p e = ap (λ z. let r : Reading Phrase = Ok (z, []) in r) (ok_same x p e)
  where
    ok_same : (x y : Phrase) → (let r : Result Phrase TextReason = Ok x in r) ≡ Ok y → x ≡ y
    ok_same x y e = cc
whole_line (Ok (x, t ∷ ts)) p e = cc
whole_line (Err r) p e = cc

unmarked_said : (ts : List Token) (p : Phrase) → AreProper ts → unmarked_at ts ≡ Ok (p, []) → phrase_tokens p ≡ Some ts
unmarked_said [] p h e = cc
unmarked_said (token.Fixed word ∷ ts) p h e =
    let s = line_says word ts [] p h e in
    s.written ∙ ap (λ z. let w : Written Token = Some (token.Fixed word ∷ z) in w) (sym (append-nil s.front) ∙ sym s.whole)
unmarked_said (token.Name n ∷ ts) p h e = cc
unmarked_said (token.Number z ∷ ts) p h e = cc
unmarked_said (token.Oversized ∷ ts) p h e = cc
unmarked_said (token.Misspelled ∷ ts) p h e = cc
unmarked_said (token.Unknown ∷ ts) p h e = cc

giving_at_said : (ts : List Token) (g : Giving) → AreProper ts → giving_at ts ≡ Ok (g, []) → giving_tokens g ≡ Some ts
giving_at_said [] g h e = cc
giving_at_said (token.Fixed word ∷ ts) g h e =
    let s = l.giving_said word ts [] g h e in
    s.written ∙ ap (λ z. let w : Written Token = Some (token.Fixed word ∷ z) in w) (sym (append-nil s.front) ∙ sym s.whole)
giving_at_said (token.Name n ∷ ts) g h e = cc
giving_at_said (token.Number z ∷ ts) g h e = cc
giving_at_said (token.Oversized ∷ ts) g h e = cc
giving_at_said (token.Misspelled ∷ ts) g h e = cc
giving_at_said (token.Unknown ∷ ts) g h e = cc

given_said : (t : Token) (us : List Token) (p : Phrase) → AreProper (t ∷ token.Fixed k.Arrow ∷ us) → given_at (t ∷ token.Fixed k.Arrow ∷ us) ≡ Ok (p, []) → phrase_tokens p ≡ Some (t ∷ token.Fixed k.Arrow ∷ us)
unfolding phrase_tokens name name_at
given_said (token.Name n) us p h e =
    let free = and_left (is_free_name n) (list_all is_proper us) h in
    let first = bind_ok (giving_at us) (λ x. Ok (phrase.Giving (Some n) x.0, x.1)) (p, []) e in
    let ends = ok_second (phrase.Giving (Some n) first.0.0) p first.0.1 [] first.2 in
    let said = giving_at_said us first.0.0 (and_right (is_free_name n) (list_all is_proper us) h) (subst (λ z. giving_at us ≡ Ok (first.0.0, z)) ends first.1) in
    ap phrase_tokens (sym (ok_first (phrase.Giving (Some n) first.0.0) p first.0.1 [] first.2)) ∙ (rw (free, said) refl)
given_said (token.Fixed word) us p h e = cc
given_said (token.Number z) us p h e = cc
given_said token.Oversized us p h e = cc
given_said token.Misspelled us p h e = cc
given_said token.Unknown us p h e = cc

-- what a line is read as, it was written as
pub phrase_said : (ts : List Token) (p : Phrase) → AreProper ts → phrase_of ts ≡ Ok p → phrase_tokens p ≡ Some ts
unfolding phrase_of
phrase_said ts p h e = by_arrow (is_given ts) refl (whole_line (if is_given ts then given_at ts else unmarked_at ts) p e)
  where
    by_arrow : (b : Bool) → is_given ts ≡ b → (if b then given_at ts else unmarked_at ts) ≡ Ok (p, []) → phrase_tokens p ≡ Some ts
    by_arrow false g e = unmarked_said ts p h e
    by_arrow true g e =
        let shape = given_shape ts g in
        subst (λ z. phrase_tokens p ≡ Some z) (sym shape.2)
        (given_said shape.0 shape.1 p (subst AreProper shape.2 h) (subst (λ z. given_at z ≡ Ok (p, [])) shape.2 e))
