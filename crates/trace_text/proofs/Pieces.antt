-- Pieces of a line, one after another.
use Rattle.std.proofs.Common.{◌≡◌, ℕ, List, [], ◌++◌, Result, Ok, Err, OnOk, OnErr, ap, sym, ◌∙◌, append_assoc, if◌then◌else◌, is_ok}
use Rattle.std.proofs.lemmas.List.{append-nil}
use Rattle.std.specs.Result.{IsErr}
use Rattle.gv_values.specs.Fronts.{BeginsWith}

-- two pieces are one
pub both : {new middle : List ℕ} (front piece more : List ℕ) → middle ≡ front ++ piece → new ≡ middle ++ more → new ≡ front ++ (piece ++ more)
both front piece more e f = f ∙ ap (λ z. z ++ more) e ∙ append_assoc front piece more

-- a last piece, where there was memory for it
pub last : {T E : Type 0} (r : Result T E) (new middle front piece more text : List ℕ) → middle ≡ front ++ piece → piece ++ more ≡ text → OnOk r (new ≡ middle ++ more) → OnOk r (new ≡ front ++ text)
last (Ok x) new middle front piece more text e is f = both front piece more e f ∙ ap (λ z. front ++ z) is
last (Err x) new middle front piece more text e is f = tt

-- where no memory was found
pub no_text : {T E : Type 0} (r : Result T E) (P : Type 0) → IsErr r → OnOk r P
no_text (Ok x) P is = cc
no_text (Err e) P is = tt

pub no_more : {T E P : Type 0} (r : Result T E) → P → OnErr r P
no_more (Ok x) p = tt
no_more (Err e) p = p

pub as_before : {whole front : List ℕ} → whole ≡ front → BeginsWith whole front
as_before {front = front} e = record { rest = []; is = e ∙ sym (append-nil front) }

pub goes_on : {whole middle : List ℕ} (front piece : List ℕ) → middle ≡ front ++ piece → BeginsWith whole middle → BeginsWith whole front
goes_on front piece e b = record { rest = piece ++ b.rest; is = b.is ∙ ap (λ z. z ++ b.rest) e ∙ append_assoc front piece b.rest }

-- the last piece was not appended whole
pub broken : {T E : Type 0} (r : Result T E) (whole middle front piece : List ℕ) → middle ≡ front ++ piece → OnErr r (BeginsWith whole middle) → OnErr r (BeginsWith whole front)
broken (Ok x) whole middle front piece e b = tt
broken (Err x) whole middle front piece e b = goes_on front piece e b

-- a greenlet between blanks
pub with_blanks : (word blank number greenlet call : List ℕ) → (((word ++ blank) ++ number) ++ (blank ++ greenlet ++ blank)) ++ call ≡ ((word ++ blank ++ number) ++ blank ++ greenlet) ++ blank ++ call
with_blanks word blank number greenlet call = simp append_assoc

pub unchanged : {T E : Type 0} (r : Result T E) (new old : List ℕ) → OnErr r (new ≡ old) → OnErr r (BeginsWith new old)
unchanged (Ok x) new old e = tt
unchanged (Err x) new old e = as_before e

-- bytes that were appended, or not
pub bytes_ok : {T E : Type 0} (r : Result T E) (new old bytes : List ℕ) → new ≡ (if is_ok r then old ++ bytes else old) → OnOk r (new ≡ old ++ bytes)
bytes_ok (Ok x) new old bytes e = e
bytes_ok (Err x) new old bytes e = tt

pub bytes_err : {T E : Type 0} (r : Result T E) (new old bytes : List ℕ) → new ≡ (if is_ok r then old ++ bytes else old) → OnErr r (BeginsWith new old)
bytes_err (Ok x) new old bytes e = tt
bytes_err (Err x) new old bytes e = as_before e
