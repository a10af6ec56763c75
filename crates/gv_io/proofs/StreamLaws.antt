-- Writes and reads one after another.
use Rattle.std.proofs.Common.{◌≡◌, ℕ, ◌+◌, List, [], ◌++◌, length, take, drop, Option, Some, None, ◌≤◌, refl, ap, sym, ◌∙◌, append_assoc}
use Rattle.std.proofs.lemmas.List.{append-nil, take-append-drop, length-take-le, drop-drop}
use Rattle.std.proofs.Math.Seq.{take-length, take-append_seam, take-append-add}
use Rattle.gv_io.specs.Streams.{appended, prepended, AppendsPrefix, Extends}

pub appended-nothing : (told : Option (List ℕ)) → appended told [] ≡ told
unfolding appended
appended-nothing None = refl
appended-nothing (Some t) = ap (λ (z : List ℕ). Some z) (append-nil t)

pub appended-appended : (told : Option (List ℕ)) (a b : List ℕ) → appended (appended told a) b ≡ appended told (a ++ b)
unfolding appended
appended-appended None a b = refl
appended-appended (Some t) a b = ap (λ (z : List ℕ). Some z) (append_assoc t a b)

pub prepended-nothing : (told : Option (List ℕ)) → prepended [] told ≡ told
unfolding prepended
prepended-nothing None = refl
prepended-nothing (Some t) = refl

pub prepended-prepended : (told : Option (List ℕ)) (a b : List ℕ) → prepended a (prepended b told) ≡ prepended (a ++ b) told
unfolding prepended
prepended-prepended None a b = refl
prepended-prepended (Some t) a b = ap (λ (z : List ℕ). Some z) (sym (append_assoc a b t))

-- ---- prefixes

-- nothing was appended
pub AppendsPrefix-nothing : (old : Option (List ℕ)) (text : List ℕ) → AppendsPrefix old old text
AppendsPrefix-nothing old text = record { count = 0; is = sym (appended-nothing old) }

-- the whole text was appended, and nothing of what follows it
pub AppendsPrefix-whole : (old new : Option (List ℕ)) (a b : List ℕ) → new ≡ appended old a → AppendsPrefix old new (a ++ b)
AppendsPrefix-whole old new a b e = record { count = length a; is = e ∙ ap (appended old) (sym (take-append_seam a b)) }

-- a whole text was appended, and then a prefix of the next
pub AppendsPrefix-after : (old middle new : Option (List ℕ)) (a b : List ℕ) →
    middle ≡ appended old a → AppendsPrefix middle new b → AppendsPrefix old new (a ++ b)
AppendsPrefix-after old middle new a b e p =
    record {
      count = length a + p.count;
      is =
          p.is ∙ ap (λ m. appended m (take p.count b)) e ∙ appended-appended old a (take p.count b)
          ∙ ap (appended old) (sym (take-append-add a b p.count));
    }

-- a prefix of a text is one of a longer text
pub AppendsPrefix-longer : (old new : Option (List ℕ)) (a b : List ℕ) → AppendsPrefix old new a → AppendsPrefix old new (a ++ b)
AppendsPrefix-longer old new a b p =
    let seam : a ++ b ≡ take p.count a ++ (drop p.count a ++ b) =
    ap (λ z. z ++ b) (sym (take-append-drop p.count a)) ∙ append_assoc (take p.count a) (drop p.count a) b in
    record {
      count = length (take p.count a);
      is =
          p.is
          ∙ ap (appended old)
          (sym (ap (take (length (take p.count a))) seam ∙ take-append_seam (take p.count a) (drop p.count a ++ b)));
    }

-- the whole text was appended
pub AppendsPrefix-all : (old new : Option (List ℕ)) (a : List ℕ) → new ≡ appended old a → AppendsPrefix old new a
AppendsPrefix-all old new a e = record { count = length a; is = e ∙ ap (appended old) (sym (take-length a)) }

-- ---- what was handed on

pub Extends-nothing : (old : Option (List ℕ)) → Extends old old
Extends-nothing old = record { more = []; is = sym (appended-nothing old) }

pub Extends-after : (old middle new : Option (List ℕ)) → Extends old middle → Extends middle new → Extends old new
Extends-after old middle new e f =
    record { more = e.more ++ f.more; is = f.is ∙ ap (λ m. appended m f.more) e.is ∙ appended-appended old e.more f.more }

-- for functions that only hand on that no call takes back what was handed on
pub ruleset hands = (Extends-nothing, Extends-after)

-- ----

-- for functions that write one text after another
pub ruleset writes = (appended-nothing, appended-appended, AppendsPrefix-nothing, AppendsPrefix-all, AppendsPrefix-whole, AppendsPrefix-after, AppendsPrefix-longer)

-- for functions that read one piece after another
pub ruleset reads = (prepended-nothing, prepended-prepended)

-- ---- a read from the middle of bytes in memory

-- the n bytes at a place were copied to the front of a buffer, and the place is n further on
pub prepended-copied : (left copied behind bytes : List ℕ) (place n : ℕ) →
    left ≡ drop place bytes → copied ≡ take n left → n ≤ length left →
    Some left ≡ prepended (take n (copied ++ behind)) (Some (drop (place + n) bytes))
unfolding prepended
prepended-copied left copied behind bytes place n at is fits =
    let long : length copied ≡ n = ap length is ∙ length-take-le n left fits in
    let front : take n (copied ++ behind) ≡ take n left =
    ap (λ m. take m (copied ++ behind)) (sym long) ∙ take-append_seam copied behind ∙ is in
    let rest : drop (place + n) bytes ≡ drop n left =
    sym (drop-drop n place bytes) ∙ ap (drop n) (sym at) in
    ap (λ (z : List ℕ). Some z) (sym (take-append-drop n left) ∙ ap (λ z. take n left ++ z) (sym rest) ∙ ap (λ z. z ++ drop (place + n) bytes) (sym front))

-- ---- where the bytes are told

pub appended-told : (old bytes : List ℕ) → appended (Some old) bytes ≡ Some (old ++ bytes)
unfolding appended
appended-told old bytes = refl

pub AppendsPrefix-told : (old new text : List ℕ) (n : ℕ) → new ≡ old ++ take n text → AppendsPrefix (Some old) (Some new) text
AppendsPrefix-told old new text n e =
    record { count = n; is = ap (λ (z : List ℕ). Some z) e ∙ sym (appended-told old (take n text)) }

pub take-past : (xs ys : List ℕ) (room n : ℕ) → room ≡ length xs + n → take room (xs ++ ys) ≡ xs ++ take n ys
take-past xs ys room n e = ap (λ m. take m (xs ++ ys)) e ∙ take-append-add xs ys n

pub Extends-told : (old new text : List ℕ) → new ≡ old ++ text → Extends (Some old) (Some new)
Extends-told old new text e = record { more = text; is = ap (λ (z : List ℕ). Some z) e ∙ sym (appended-told old text) }

-- for a sink that tells its bytes
pub ruleset tells = (appended-told, AppendsPrefix-told, take-past, Extends-told, Extends-nothing)

-- ---- where they are not

pub appended-untold : (bytes : List ℕ) → appended None bytes ≡ None
unfolding appended
appended-untold bytes = refl

pub prepended-untold : (bytes : List ℕ) → prepended bytes None ≡ None
unfolding prepended
prepended-untold bytes = refl

pub AppendsPrefix-untold : (text : List ℕ) → AppendsPrefix None None text
AppendsPrefix-untold text = record { count = 0; is = sym (appended-untold (take 0 text)) }

-- for an object that tells no bytes
pub ruleset untold = (appended-untold, prepended-untold, AppendsPrefix-untold, Extends-nothing)
