-- The parts of a line, each read back exactly as it was written.
use Rattle.std.proofs.Common.{◌≡◌, ℕ, zero, suc, ◌≤◌, pos, Bool, true, false, ◌&&◌, nat_le, List, [], ◌∷◌, ◌++◌, length, Option, Some, None, Ok, Err, refl, sym, ap, subst, ◌∙◌, append_assoc, length-append, arith, inl, inr, ◌⊎◌}
use Rattle.gv_values.specs.declared.name.Name.{Name}
use Rattle.gv_values.specs.declared.fault.Class.{Class}
use Rattle.gv_values.specs.declared.fault.Class.TheVariants as class
use Rattle.scenario_tree.specs.declared.tree.Expression.{Expression}
use Rattle.gv_values.specs.declared.job.JobKind.{JobKind}
use Rattle.gv_values.specs.declared.job.JobKind.TheVariants as job
use Rattle.scenario_tree.specs.declared.tree.QueueKind.{QueueKind}
use Rattle.scenario_tree.specs.declared.tree.QueueKind.TheVariants as queue
use Rattle.scenario_tree.specs.declared.tree.Wait.{Wait}
use Rattle.scenario_tree.specs.declared.tree.Wait.TheVariants as wait
use Rattle.scenario_grammar.specs.declared.keyword.Keyword.{Keyword}
use Rattle.scenario_grammar.specs.declared.keyword.Keyword.TheVariants as k
use Rattle.scenario_grammar.specs.declared.token.Token.{Token}
use Rattle.scenario_grammar.specs.declared.token.Token.TheVariants as token
use Rattle.scenario_grammar.specs.Token.{Written, ◌⊕◌, ◌▹◌, each, fixed, name, number, perhaps}
use Rattle.scenario_grammar.specs.Expressions.{expression}
use Rattle.scenario_grammar.specs.Phrase.{ms, timed_tokens, wait_tokens, marked, with_fault, flag, count_tokens, takes_tokens, size_tokens, job_keyword, queue_keyword, class_keyword}
use Rattle.scenario_grammar.specs.declared.limits.TheConstants.{MOST_MS, MOST_NESTED, MOST_QUEUE_PLACES}
use Rattle.scenario_grammar.specs.Reading.{Reader, Reading, ◌<$>◌, ◌<*>◌, name_at, number_at, ms_at, expression_at, wait_at, with_at, timed_at, under_at, count_of_at, takes_at, now_at, silent_at, immediate_at, after_at, word_at, job_kind_of, queue_of, fault_class_of, class_at, binding_at, size_at, to_the_end, all_at}
use Rattle.scenario_grammar.proofs.Parts.{AreProper, Built, Sound, Full, Anything, ok_first, ok_second, proper_at, both, map_sound, then_sound, map_full, then_full}
use Rattle.scenario_grammar.proofs.Atoms.{kept, name_sound, name_full, number_sound, number_full}
use Rattle.scenario_grammar.proofs.ExpressionLaws.{nested_sound, nested_full}
use Rattle.scenario_grammar.specs.declared.reason.TextReason.{TextReason}
use Rattle.scenario_grammar.specs.declared.reason.TextReason.TheVariants as reason
use Rattle.gv_values.specs.declared.limits.TheConstants.{MOST_ELEMENTS}

-- What is read was written so, and what was written is read, where what follows is as asked.
pub record Faithful {E C : Type 0} (make : E → C) (writes : E → Written Token) (Follows : List Token → Type 0) (reader : Reader C) : Type 0 where
  pub sound : Sound make writes reader
  pub full : Full make writes Follows reader

pub made : {E C D : Type 0} {make : E → C} {writes : E → Written Token} {Follows : List Token → Type 0} {reader : Reader C}
    (f : C → D) → Faithful make writes Follows reader → Faithful (λ p. f (make p)) writes Follows (f <$> reader)
made {make = make} {writes = writes} {Follows = Follows} {reader = reader} f r = record {
  sound = map_sound f make writes reader r.sound;
  full = map_full f make writes Follows reader r.full;
}

-- one part and then the next, where the first is not taken further by what follows it
pub joined : {E F C D : Type 0} {make : E → C → D} {writes : E → Written Token} {Between Follows : List Token → Type 0} {before : Reader (C → D)} {part : F → C} {part_writes : F → Written Token} {reader : Reader C}
    → Faithful make writes Between before → Faithful part part_writes Follows reader
    → ((p : F) (front rest : List Token) → part_writes p ≡ Some front → Follows rest → Between (front ++ rest))
    → Faithful {E = E × F} (λ p. make p.0 (part p.1)) (λ p. writes p.0 ⊕ part_writes p.1) Follows (before <*> reader)
joined {make = make} {writes = writes} {Between = Between} {Follows = Follows} {before = before} {part = part} {part_writes = part_writes} {reader = reader} a b meets = record {
  sound = then_sound make writes before part part_writes reader a.sound b.sound;
  full = then_full make writes Between before part part_writes Follows reader a.full b.full meets;
}

pub next : {E F C D : Type 0} {make : E → C → D} {writes : E → Written Token} {Follows : List Token → Type 0} {before : Reader (C → D)} {part : F → C} {part_writes : F → Written Token} {reader : Reader C}
    → Faithful make writes Anything before → Faithful part part_writes Follows reader
    → Faithful {E = E × F} (λ p. make p.0 (part p.1)) (λ p. writes p.0 ⊕ part_writes p.1) Follows (before <*> reader)
next a b = joined a b (λ p f r w h. tt)

abbrev pub Ends : List Token → Type 0
Ends rest = rest ≡ []

-- where any rest will do, the line's end will do
pub ending : {E C : Type 0} {make : E → C} {writes : E → Written Token} {reader : Reader C} → Faithful make writes Anything reader → Faithful make writes Ends reader
ending r = record { sound = r.sound; full = λ p f t w h. r.full p f t w tt }

pub names : Faithful (λ n. n) name Anything name_at
names = record { sound = name_sound; full = name_full }

pub numbers : (least greatest : ℕ) → Faithful (λ n. n) (number least greatest) Anything (number_at least greatest)
numbers least greatest = record { sound = number_sound least greatest; full = number_full least greatest }

pub times : Faithful (λ n. n) ms Anything ms_at
times = numbers 0 MOST_MS

pub expressions : Faithful (λ x. x) expression Anything expression_at
expressions = record { sound = nested_sound MOST_NESTED; full = nested_full MOST_NESTED }

-- nothing, and all tokens are left
pub left_out : {C : Type 0} {writes : C → Written Token} (c : C) (ts rest : List Token) (made : C) → writes c ≡ Some [] → AreProper ts
    → (let r : Reading C = Ok (c, ts) in r) ≡ Ok (made, rest) → Built (λ x. x) writes ts made rest
left_out {writes = writes} c ts rest made none h e =
    let ends = ok_second c made ts rest e in
    record { parts = c; made_of = ok_first c made ts rest e; front = []; written = none; whole = ends; proper = proper_at ts rest ends h }

-- a fixed word, and nothing behind it
pub taken : {C : Type 0} {writes : C → Written Token} (c : C) (word : Keyword) (ts rest : List Token) (made : C) → writes c ≡ fixed word → AreProper ts
    → (let r : Reading C = Ok (c, ts) in r) ≡ Ok (made, rest) → Built (λ x. x) writes (token.Fixed word ∷ ts) made rest
taken {writes = writes} c word ts rest made one h e =
    let ends = ok_second c made ts rest e in
    record { parts = c; made_of = ok_first c made ts rest e; front = token.Fixed word ∷ []; written = one; whole = ap (λ z. token.Fixed word ∷ z) ends; proper = proper_at ts rest ends h }

-- a fixed word, and a part behind it
pub behind_word : {E C : Type 0} {part_writes : E → Written Token} {writes : C → Written Token} {reader : Reader E} (word : Keyword) (f : E → C) (ts rest : List Token) (made : C)
    → ((p : E) → writes (f p) ≡ (word ▹ part_writes p)) → Sound (λ x. x) part_writes reader → AreProper ts → (f <$> reader) ts ≡ Ok (made, rest) → Built (λ x. x) writes (token.Fixed word ∷ ts) made rest
behind_word {part_writes = part_writes} {writes = writes} {reader = reader} word f ts rest made same sound h e =
    let b = map_sound f (λ x. x) part_writes reader sound ts rest made h e in
    record { parts = f b.parts; made_of = b.made_of; front = token.Fixed word ∷ b.front; written = same b.parts ∙ ap (λ w. word ▹ w) b.written; whole = ap (λ z. token.Fixed word ∷ z) b.whole; proper = b.proper }

-- what stands behind a fixed word
pub inner : (word : Keyword) (w : Written Token) (front : List Token) → (word ▹ w) ≡ Some front → (rest : List Token) × (w ≡ Some rest) × (token.Fixed word ∷ rest ≡ front)
inner word None front e = cc
inner word (Some rest) front e = (rest, refl, cc)

some_is : {A : Type 0} (x y : List A) → (let w : Written A = Some x in w) ≡ Some y → x ≡ y
some_is x y e = cc

-- what may follow an optional part: the line's end, or a wait
abbrev pub BeforeWait : List Token → Type 0
BeforeWait rest = (rest ≡ []) ⊎ ((ts : List Token) × (rest ≡ token.Fixed k.Within ∷ ts)) ⊎ ((ts : List Token) × (rest ≡ token.Fixed k.Now ∷ ts))

pub timed_parts : Faithful (λ x. x) timed_tokens Ends timed_at
timed_parts = record { sound = read_so; full = written_so }
  where
    read_so : Sound (λ x. x) timed_tokens timed_at
    read_so (token.Fixed k.Within ∷ ts) rest made h e = behind_word k.Within (λ n. let o : Option ℕ = Some n in o) ts rest made (λ p. refl) times.sound h e
    read_so ts rest made h e = left_out None ts rest made refl h e

    written_so : Full (λ x. x) timed_tokens Ends timed_at
    written_so None front rest w h = rw (sym (some_is [] front w), h) refl
    written_so (Some n) front rest w h =
        let i = inner k.Within (ms n) front w in
        rw (sym i.2) (map_full (λ x. let o : Option ℕ = Some x in o) (λ x. x) ms Anything ms_at times.full n i.0 rest i.1 tt)

pub takes_parts : Faithful (λ x. x) takes_tokens Ends takes_at
takes_parts = record { sound = read_so; full = written_so }
  where
    read_so : Sound (λ x. x) takes_tokens takes_at
    read_so (token.Fixed k.Takes ∷ ts) rest made h e = behind_word k.Takes (λ n. let o : Option ℕ = Some n in o) ts rest made (λ p. refl) times.sound h e
    read_so ts rest made h e = left_out None ts rest made refl h e

    written_so : Full (λ x. x) takes_tokens Ends takes_at
    written_so None front rest w h = rw (sym (some_is [] front w), h) refl
    written_so (Some n) front rest w h =
        let i = inner k.Takes (ms n) front w in
        rw (sym i.2) (map_full (λ x. let o : Option ℕ = Some x in o) (λ x. x) ms Anything ms_at times.full n i.0 rest i.1 tt)

pub under_parts : Faithful (λ x. x) (marked k.Under) Ends under_at
under_parts = record { sound = read_so; full = written_so }
  where
    read_so : Sound (λ x. x) (marked k.Under) under_at
    read_so (token.Fixed k.Under ∷ ts) rest made h e = behind_word k.Under (λ n. let o : Option Expression = Some n in o) ts rest made (λ p. refl) expressions.sound h e
    read_so ts rest made h e = left_out None ts rest made refl h e

    written_so : Full (λ x. x) (marked k.Under) Ends under_at
    written_so None front rest w h = rw (sym (some_is [] front w), h) refl
    written_so (Some x) front rest w h =
        let i = inner k.Under (expression x) front w in
        rw (sym i.2) (map_full (λ x. let o : Option Expression = Some x in o) (λ x. x) expression Anything expression_at expressions.full x i.0 rest i.1 tt)

pub with_parts : Faithful (λ x. x) with_fault BeforeWait with_at
with_parts = record { sound = read_so; full = written_so }
  where
    read_so : Sound (λ x. x) with_fault with_at
    read_so (token.Fixed k.With ∷ ts) rest made h e = behind_word k.With (λ n. let o : Option Expression = Some n in o) ts rest made (λ p. refl) expressions.sound h e
    read_so ts rest made h e = left_out None ts rest made refl h e

    nothing : (rest : List Token) → BeforeWait rest → with_at rest ≡ Ok (None, rest)
    nothing rest (inl h) = rw h refl
    nothing rest (inr (inl h)) = rw h.1 refl
    nothing rest (inr (inr h)) = rw h.1 refl

    written_so : Full (λ x. x) with_fault BeforeWait with_at
    written_so None front rest w h = rw (sym (some_is [] front w)) (nothing rest h)
    written_so (Some x) front rest w h =
        let i = inner k.With (expression x) front w in
        rw (sym i.2) (map_full (λ x. let o : Option Expression = Some x in o) (λ x. x) expression Anything expression_at expressions.full x i.0 rest i.1 tt)

pub count_parts : Faithful (λ x. x) count_tokens BeforeWait count_of_at
count_parts = record { sound = read_so; full = written_so }
  where
    read_so : Sound (λ x. x) count_tokens count_of_at
    read_so (token.Fixed k.Count ∷ ts) rest made h e = behind_word k.Count (λ n. let o : Option ℕ = Some n in o) ts rest made (λ p. refl) (number_sound 0 MOST_ELEMENTS) h e
    read_so ts rest made h e = left_out None ts rest made refl h e

    nothing : (rest : List Token) → BeforeWait rest → count_of_at rest ≡ Ok (None, rest)
    nothing rest (inl h) = rw h refl
    nothing rest (inr (inl h)) = rw h.1 refl
    nothing rest (inr (inr h)) = rw h.1 refl

    written_so : Full (λ x. x) count_tokens BeforeWait count_of_at
    written_so None front rest w h = rw (sym (some_is [] front w)) (nothing rest h)
    written_so (Some n) front rest w h =
        let i = inner k.Count (number 0 MOST_ELEMENTS n) front w in
        rw (sym i.2) (map_full (λ x. let o : Option ℕ = Some x in o) (λ x. x) (number 0 MOST_ELEMENTS) Anything (number_at 0 MOST_ELEMENTS) (number_full 0 MOST_ELEMENTS) n i.0 rest i.1 tt)

pub wait_parts : Faithful (λ x. x) wait_tokens Ends wait_at
wait_parts = record { sound = read_so; full = written_so }
  where
    read_so : Sound (λ x. x) wait_tokens wait_at
    read_so (token.Fixed k.Within ∷ ts) rest made h e = behind_word k.Within (λ a. wait.Within a) ts rest made (λ p. refl) times.sound h e
    read_so (token.Fixed k.Now ∷ ts) rest made h e = taken wait.Now k.Now ts rest made refl h e
    read_so ts rest made h e = left_out wait.Block ts rest made refl h e

    written_so : Full (λ x. x) wait_tokens Ends wait_at
    written_so wait.Block front rest w h = rw (sym (some_is [] front w), h) refl
    written_so wait.Now front rest w h = rw (sym (some_is (token.Fixed k.Now ∷ []) front w)) refl
    written_so (wait.Within n) front rest w h =
        let i = inner k.Within (ms n) front w in
        rw (sym i.2) (map_full (λ a. wait.Within a) (λ x. x) ms Anything ms_at times.full n i.0 rest i.1 tt)

-- a wait, a time or the line's end stands behind an optional part
pub before_wait : (x : Wait) (front rest : List Token) → wait_tokens x ≡ Some front → Ends rest → BeforeWait (front ++ rest)
before_wait wait.Block front rest w h = inl (ap (λ z. z ++ rest) (sym (some_is [] front w)) ∙ h)
before_wait wait.Now front rest w h = inr (inr (rest, ap (λ z. z ++ rest) (sym (some_is (token.Fixed k.Now ∷ []) front w))))
before_wait (wait.Within n) front rest w h = let i = inner k.Within (ms n) front w in inr (inl (i.0 ++ rest, ap (λ z. z ++ rest) (sym i.2)))

pub before_time : (t : Option ℕ) (front rest : List Token) → timed_tokens t ≡ Some front → Ends rest → BeforeWait (front ++ rest)
before_time None front rest w h = inl (ap (λ z. z ++ rest) (sym (some_is [] front w)) ∙ h)
before_time (Some n) front rest w h = let i = inner k.Within (ms n) front w in inr (inl (i.0 ++ rest, ap (λ z. z ++ rest) (sym i.2)))

pub before_now : (b : Bool) (front rest : List Token) → flag k.Now b ≡ Some front → Ends rest → BeforeWait (front ++ rest)
before_now false front rest w h = inl (ap (λ z. z ++ rest) (sym (some_is [] front w)) ∙ h)
before_now true front rest w h = inr (inr (rest, ap (λ z. z ++ rest) (sym (some_is (token.Fixed k.Now ∷ []) front w))))

pub with_at_the_end : Faithful (λ x. x) with_fault Ends with_at
with_at_the_end = record { sound = with_parts.sound; full = λ p f t w h. with_parts.full p f t w (inl h) }

-- a word alone, or nothing: the reader takes the word, and leaves anything else
flag_parts : (word : Keyword) (reader : Reader Bool) → ((ts : List Token) → reader (token.Fixed word ∷ ts) ≡ Ok (true, ts)) → reader [] ≡ Ok (false, []) → Sound (λ x. x) (flag word) reader
    → Faithful (λ x. x) (flag word) Ends reader
flag_parts word reader takes leaves sound = record { sound = sound; full = written_so }
  where
    written_so : Full (λ x. x) (flag word) Ends reader
    written_so false front rest w h = rw (sym (some_is [] front w), h) leaves
    written_so true front rest w h = rw (sym (some_is (token.Fixed word ∷ []) front w)) (takes rest)

pub now_parts : Faithful (λ x. x) (flag k.Now) Ends now_at
now_parts = flag_parts k.Now now_at (λ ts. refl) refl read_so
  where
    read_so : Sound (λ x. x) (flag k.Now) now_at
    read_so (token.Fixed k.Now ∷ ts) rest made h e = taken true k.Now ts rest made refl h e
    read_so ts rest made h e = left_out false ts rest made refl h e

pub silent_parts : Faithful (λ x. x) (flag k.Silent) Ends silent_at
silent_parts = flag_parts k.Silent silent_at (λ ts. refl) refl read_so
  where
    read_so : Sound (λ x. x) (flag k.Silent) silent_at
    read_so (token.Fixed k.Silent ∷ ts) rest made h e = taken true k.Silent ts rest made refl h e
    read_so ts rest made h e = left_out false ts rest made refl h e

pub immediate_parts : Faithful (λ x. x) (flag k.Immediate) Ends immediate_at
immediate_parts = flag_parts k.Immediate immediate_at (λ ts. refl) refl read_so
  where
    read_so : Sound (λ x. x) (flag k.Immediate) immediate_at
    read_so (token.Fixed k.Immediate ∷ ts) rest made h e = taken true k.Immediate ts rest made refl h e
    read_so ts rest made h e = left_out false ts rest made refl h e

-- a time or `none`, and a size or `none`
abbrev pub after_tokens : Option ℕ → Written Token
after_tokens None = fixed k.Nothing
after_tokens (Some n) = ms n

-- a number stands first, and no fixed word
numbered : (least greatest n : ℕ) (front : List Token) → number least greatest n ≡ Some front → token.Number (pos n) ∷ [] ≡ front
numbered least greatest n front w = let x = kept (nat_le least n && nat_le n greatest) (Some (token.Number (pos n) ∷ [])) front w in some_is (token.Number (pos n) ∷ []) front x.1

some_part : {writes : ℕ → Written Token} {written : Option ℕ → Written Token} {reader : Reader ℕ} → ((n : ℕ) → written (Some n) ≡ writes n) → Sound (λ n. n) writes reader
    → (ts rest : List Token) (made : Option ℕ) → AreProper ts → ((λ n. let o : Option ℕ = Some n in o) <$> reader) ts ≡ Ok (made, rest) → Built (λ x. x) written ts made rest
some_part {writes = writes} {reader = reader} same sound ts rest made h e =
    let b = map_sound (λ n. let o : Option ℕ = Some n in o) (λ x. x) writes reader sound ts rest made h e in
    record { parts = Some b.parts; made_of = b.made_of; front = b.front; written = same b.parts ∙ b.written; whole = b.whole; proper = b.proper }

pub after_parts : Faithful (λ x. x) after_tokens Anything after_at
after_parts = record { sound = read_so; full = written_so }
  where
    read_so : Sound (λ x. x) after_tokens after_at
    read_so (token.Fixed k.Nothing ∷ ts) rest made h e = taken None k.Nothing ts rest made refl h e
    read_so ts rest made h e = some_part {writes = ms} {written = after_tokens} {reader = ms_at} (λ n. refl) times.sound ts rest made h e

    written_so : Full (λ x. x) after_tokens Anything after_at
    written_so None front rest w h = rw (sym (some_is (token.Fixed k.Nothing ∷ []) front w)) refl
    written_so (Some n) front rest w h =
        let same = numbered 0 MOST_MS n front w in
        let all = map_full (λ x. let o : Option ℕ = Some x in o) (λ x. x) ms Anything ms_at times.full n front rest w tt in
        subst (λ f. ((λ x. let o : Option ℕ = Some x in o) <$> ms_at) (f ++ rest) ≡ Ok (Some n, rest) → after_at (f ++ rest) ≡ Ok (Some n, rest)) same (λ x. x) all

pub size_parts : Faithful (λ x. x) size_tokens Anything size_at
size_parts = record { sound = read_so; full = written_so }
  where
    read_so : Sound (λ x. x) size_tokens size_at
    read_so (token.Fixed k.Nothing ∷ ts) rest made h e = taken None k.Nothing ts rest made refl h e
    read_so ts rest made h e = some_part {writes = number 1 MOST_QUEUE_PLACES} {written = size_tokens} {reader = number_at 1 MOST_QUEUE_PLACES} (λ n. refl) (number_sound 1 MOST_QUEUE_PLACES) ts rest made h e

    written_so : Full (λ x. x) size_tokens Anything size_at
    written_so None front rest w h = rw (sym (some_is (token.Fixed k.Nothing ∷ []) front w)) refl
    written_so (Some n) front rest w h =
        let same = numbered 1 MOST_QUEUE_PLACES n front w in
        let all = map_full (λ x. let o : Option ℕ = Some x in o) (λ x. x) (number 1 MOST_QUEUE_PLACES) Anything (number_at 1 MOST_QUEUE_PLACES) (number_full 1 MOST_QUEUE_PLACES) n front rest w tt in
        subst (λ f. ((λ x. let o : Option ℕ = Some x in o) <$> number_at 1 MOST_QUEUE_PLACES) (f ++ rest) ≡ Ok (Some n, rest) → size_at (f ++ rest) ≡ Ok (Some n, rest)) same (λ x. x) all

-- what a fixed word means is written as this word
abbrev pub Means : {A : Type 0} → (A → Keyword) → Keyword → Option A → Type 0
Means keyword word None = Unit {0}
Means keyword word (Some x) = word ≡ keyword x

-- one of some fixed words
pub word_parts : {A : Type 0} (meaning : Keyword → Option A) (keyword : A → Keyword) → ((x : A) → meaning (keyword x) ≡ Some x) → ((word : Keyword) → Means keyword word (meaning word))
    → Faithful (λ x. x) (λ x. fixed (keyword x)) Anything (word_at meaning)
word_parts {A = A} meaning keyword back forth = record { sound = read_so; full = written_so }
  where
    found : (word : Keyword) (o : Option A) → Means keyword word o → (ts rest : List Token) (made : A) → AreProper ts
        → (let r : Reading A = elim o [ Some x ↦ Ok (x, ts) | None ↦ Err reason.UnknownWord ] in r) ≡ Ok (made, rest) → Built (λ x. x) (λ x. fixed (keyword x)) (token.Fixed word ∷ ts) made rest
    found word None m ts rest made h e = cc
    found word (Some x) m ts rest made h e = taken x word ts rest made (ap fixed (sym m)) h e

    read_so : Sound (λ x. x) (λ x. fixed (keyword x)) (word_at meaning)
    read_so [] rest made h e = cc
    read_so (token.Fixed word ∷ ts) rest made h e = found word (meaning word) (forth word) ts rest made h e
    read_so (token.Name n ∷ ts) rest made h e = cc
    read_so (token.Number z ∷ ts) rest made h e = cc
    read_so (token.Oversized ∷ ts) rest made h e = cc
    read_so (token.Misspelled ∷ ts) rest made h e = cc
    read_so (token.Unknown ∷ ts) rest made h e = cc

    written_so : Full (λ x. x) (λ x. fixed (keyword x)) Anything (word_at meaning)
    written_so x front rest w h = rw (sym (some_is (token.Fixed (keyword x) ∷ []) front w), back x) refl

pub jobs : Faithful (λ x. x) (λ x. fixed (job_keyword x)) Anything (word_at job_kind_of)
jobs = word_parts job_kind_of job_keyword back forth
  where
    back : (x : JobKind) → job_kind_of (job_keyword x) ≡ Some x
    back job.Sum = refl
    back job.Collatz = refl
    back job.Fail = refl
    back job.Echo = refl

    forth : (word : Keyword) → Means job_keyword word (job_kind_of word)
    forth k.Sum = refl
    forth k.Collatz = refl
    forth k.Fail = refl
    forth k.Echo = refl
    forth _ = tt

pub queues : Faithful (λ x. x) (λ x. fixed (queue_keyword x)) Anything (word_at queue_of)
queues = word_parts queue_of queue_keyword back forth
  where
    back : (x : QueueKind) → queue_of (queue_keyword x) ≡ Some x
    back queue.Fifo = refl
    back queue.Lifo = refl
    back queue.Priority = refl
    back queue.Join = refl

    forth : (word : Keyword) → Means queue_keyword word (queue_of word)
    forth k.Fifo = refl
    forth k.Lifo = refl
    forth k.Priority = refl
    forth k.Join = refl
    forth _ = tt

pub classes : Faithful (λ x. x) (λ x. fixed (class_keyword x)) Anything class_at
classes = word_parts fault_class_of class_keyword back forth
  where
    back : (x : Class) → fault_class_of (class_keyword x) ≡ Some x
    back class.Any = refl
    back class.Exception = refl
    back class.GreenletExit = refl
    back class.Timeout = refl
    back class.LoopExit = refl
    back class.Empty = refl
    back class.Full = refl
    back class.ShutDown = refl
    back class.ValueError = refl
    back class.RuntimeError = refl
    back class.TypeError = refl
    back class.OverflowError = refl
    back class.ZeroDivisionError = refl
    back class.InvalidSwitch = refl
    back class.Error = refl

    forth : (word : Keyword) → Means class_keyword word (fault_class_of word)
    forth k.Any = refl
    forth k.AnException = refl
    forth k.GreenletExit = refl
    forth k.ATimeout = refl
    forth k.LoopExit = refl
    forth k.Empty = refl
    forth k.Full = refl
    forth k.ShutDown = refl
    forth k.ValueError = refl
    forth k.RuntimeError = refl
    forth k.TypeError = refl
    forth k.OverflowError = refl
    forth k.ZeroDivisionError = refl
    forth k.InvalidSwitch = refl
    forth k.Error = refl
    forth _ = tt

no_name : (n : Name) → name_at [] ≡ Ok (n, []) → ⊥
unfolding name_at
no_name n e = cc

-- a name, or nothing at the line's end
pub binding_parts : Faithful (λ x. x) (perhaps name) Ends binding_at
binding_parts = record { sound = read_so; full = written_so }
  where
    read_so : Sound (λ x. x) (perhaps name) binding_at
    read_so [] rest made h e = left_out None [] rest made refl h e
    read_so (t ∷ ts) rest made h e =
        let b = map_sound (λ n. let o : Option Name = Some n in o) (λ x. x) name name_at name_sound (t ∷ ts) rest made h e in
        record { parts = Some b.parts; made_of = b.made_of; front = b.front; written = b.written; whole = b.whole; proper = b.proper }

    some_name : (t : Token) (ts rest : List Token) (n : Name) → ((λ x. let o : Option Name = Some x in o) <$> name_at) ((t ∷ ts) ++ rest) ≡ Ok (Some n, rest) → binding_at ((t ∷ ts) ++ rest) ≡ Ok (Some n, rest)
    some_name t ts rest n e = e

    unwritten : (n : Name) (rest : List Token) → name n ≡ Some [] → binding_at rest ≡ Ok (Some n, rest)
    unwritten n rest w = absurd (no_name n (name_full n [] [] w tt))

    written_so : Full (λ x. x) (perhaps name) Ends binding_at
    written_so None front rest w h = rw (sym (some_is [] front w), h) refl
    written_so (Some n) [] rest w h = unwritten n rest w
    written_so (Some n) (t ∷ ts) rest w h = some_name t ts rest n (map_full (λ x. let o : Option Name = Some x in o) (λ x. x) name Anything name_at name_full n (t ∷ ts) rest w tt)

-- as many parts as the line still has
pub all_parts : {A : Type 0} {writes : A → Written Token} {reader : Reader A} → Faithful (λ x. x) writes Anything reader → (r : TextReason) → reader [] ≡ Err r → Faithful (λ xs. xs) (each writes) Ends (all_at reader)
all_parts {A = A} {writes = writes} {reader = reader} part r none = record { sound = λ ts rest made h e. read_so (length ts) ts rest made h e; full = λ xs front rest w h. written_so (length (front ++ rest)) xs front rest w h (omega (arith, length-append front rest)) }
  where
    read_so : (n : ℕ) → Sound (λ xs. xs) (each writes) (to_the_end reader n)
    read_so n [] rest made h e = left_out [] [] rest made refl h e
    read_so zero (t ∷ ts) rest made h e = left_out [] (t ∷ ts) rest made refl h e
    read_so (suc n) (t ∷ ts) rest made h e =
        let got = then_sound (λ x xs. x ∷ xs) writes ((λ x xs. x ∷ xs) <$> reader) (λ xs. xs) (each writes) (to_the_end reader n)
        (map_sound (λ x xs. x ∷ xs) (λ x. x) writes reader part.sound) (read_so n) (t ∷ ts) rest made h e in
        record { parts = got.parts.0 ∷ got.parts.1; made_of = got.made_of; front = got.front; written = got.written; whole = got.whole; proper = got.proper }

    some_token : (x : A) (a : List Token) → writes x ≡ Some a → 1 ≤ length a
    some_token x [] w = absurd (missing (part.full x [] [] w tt))
      where
        missing : reader [] ≡ Ok (x, []) → ⊥
        missing f = cc (sym none ∙ f)
    some_token x (t ∷ a) w = omega arith

    one_more : (n : ℕ) (x : A) (xs : List A) (a b rest : List Token) → 1 ≤ length a → writes x ≡ Some a → to_the_end reader n (b ++ rest) ≡ Ok (xs, rest) → to_the_end reader (suc n) (a ++ (b ++ rest)) ≡ Ok (x ∷ xs, rest)
    one_more n x xs [] b rest l w e = absurd (omega (arith, l))
    one_more n x xs (t ∷ a) b rest l w e = rw (part.full x (t ∷ a) (b ++ rest) w tt, e) refl

    written_so : (n : ℕ) (xs : List A) (front rest : List Token) → each writes xs ≡ Some front → rest ≡ [] → length front ≤ n → to_the_end reader n (front ++ rest) ≡ Ok (xs, rest)
    written_so n [] front rest w h l = rw (sym (some_is [] front w), h) refl
    written_so zero (x ∷ xs) front rest w h l =
        let parts = both (writes x) (each writes xs) front w in
        let some : 1 ≤ length parts.0 = some_token x parts.0 parts.2 in
        absurd (omega (arith, l, some, length-append parts.0 parts.1, ap length parts.4))
    written_so (suc n) (x ∷ xs) front rest w h l =
        let parts = both (writes x) (each writes xs) front w in
        let some : 1 ≤ length parts.0 = some_token x parts.0 parts.2 in
        rw (sym parts.4, append_assoc parts.0 parts.1 rest)
        (one_more n x xs parts.0 parts.1 rest some parts.2 (written_so n xs parts.1 rest parts.3 h (omega (arith, l, some, length-append parts.0 parts.1, ap length parts.4))))
