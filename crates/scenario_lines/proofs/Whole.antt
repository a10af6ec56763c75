-- A line is read whole where no token is left.
use Rattle.std.proofs.Common.{◌≡◌, Bool, if◌then◌else◌, Result, Ok, Err, List, [], ◌∷◌, refl}
use Rattle.scenario_grammar.specs.declared.phrase.Phrase.{Phrase}
use Rattle.scenario_grammar.specs.declared.token.Token.{Token}
use Rattle.scenario_grammar.specs.Reading.{Reading, given_at, is_given, phrase_of, unmarked_at, whole}
use Rattle.scenario_grammar.specs.declared.reason.TextReason.TheVariants as reason
use Rattle.scenario_lines.specs.declared.refusal.LineRefusal.{LineRefusal}
use Rattle.scenario_lines.specs.declared.refusal.LineRefusal.TheVariants as refusal
use Rattle.scenario_lines.specs.Reads.{IsBoxed, Reads, ReadsWhole}

read_boxed : {A : Type 0} (r : Reading A) (read : Result A LineRefusal) (x : A) (rest : List Token) → Reads r read rest → read ≡ Ok x → r ≡ Ok (x, rest)
read_boxed r read x rest h e = rw e at h

pub whole_end : {A : Type 0} (r : Reading A) (read : Result A LineRefusal) (x : A) (rest : List Token) → Reads r read rest → read ≡ Ok x → rest ≡ [] → whole r ≡ Ok x
whole_end r read x rest h e end = rw (read_boxed r read x rest h e, end) refl

long : {A : Type 0} (x : A) (rest : List Token) → (rest ≡ [] → ⊥) → whole (let r : Reading A = Ok (x, rest) in r) ≡ Err reason.TooLong
long x [] h = absurd (h refl)
long x (t ∷ ts) h = refl

pub whole_long : {A : Type 0} (r : Reading A) (read : Result A LineRefusal) (x : A) (rest : List Token) → Reads r read rest → read ≡ Ok x → (rest ≡ [] → ⊥) → whole r ≡ Err reason.TooLong
whole_long r read x rest h e more = rw (read_boxed r read x rest h e) (long x rest more)

pub whole_refused : {A : Type 0} (r : Reading A) (read : Result A LineRefusal) (e : LineRefusal) (rest : List Token) → Reads r read rest → IsBoxed read (Err e) → ReadsWhole (whole r) (Err e)
whole_refused r read refusal.Memory rest h e = tt
whole_refused r read (refusal.Reason n) rest h e = let g = rw e at h in rw g refl

pub phrase_end : (ts : List Token) (given : Bool) (from : List Token) (read : Result Phrase LineRefusal) (x : Phrase) (rest : List Token) → given ≡ is_given ts → from ≡ ts
    → Reads (if given then given_at from else unmarked_at from) read rest → read ≡ Ok x → rest ≡ [] → phrase_of ts ≡ Ok x
unfolding phrase_of
phrase_end ts given from read x rest e f h o end = whole_end (if is_given ts then given_at ts else unmarked_at ts) read x rest (rw (e, f) at h) o end

pub phrase_long : (ts : List Token) (given : Bool) (from : List Token) (read : Result Phrase LineRefusal) (x : Phrase) (rest : List Token) → given ≡ is_given ts → from ≡ ts
    → Reads (if given then given_at from else unmarked_at from) read rest → read ≡ Ok x → (rest ≡ [] → ⊥) → phrase_of ts ≡ Err reason.TooLong
unfolding phrase_of
phrase_long ts given from read x rest e f h o more = whole_long (if is_given ts then given_at ts else unmarked_at ts) read x rest (rw (e, f) at h) o more

pub phrase_refused : (ts : List Token) (given : Bool) (from : List Token) (read : Result Phrase LineRefusal) (refusal : LineRefusal) (rest : List Token) → given ≡ is_given ts → from ≡ ts
    → Reads (if given then given_at from else unmarked_at from) read rest → IsBoxed read (Err refusal) → ReadsWhole (phrase_of ts) (Err refusal)
unfolding phrase_of
phrase_refused ts given from read refusal rest e f h o = whole_refused (if is_given ts then given_at ts else unmarked_at ts) read refusal rest (rw (e, f) at h) o
