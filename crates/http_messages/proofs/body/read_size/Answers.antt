use Rattle.std.proofs.Common.{refl, ◌≡◌, ◌<◌, ◌∙◌, sym, ap, ℕ, List, length, take, drop, length-drop, arith, subst, Option, Some, None}
use Rattle.std.specs.Prelude.{option_map}
use Rattle.httparse.specs.Grammar.{chunk_size}
use Rattle.http_messages.specs.Body.{chunk_line, body_left}
use Rattle.http_messages.specs.Readings.{ReadsAlike}
use Rattle.http_messages.specs.declared.request.AwaitedBody.TheVariants.{InChunks, InChunk, InTrailers}
use Rattle.http_messages.proofs.BodySteps.{size_waits, size_too_long, size_refused, size_too_large, size_last, size_more}
use Rattle.http_messages.proofs.body.read_size.Goals as goal
use Rattle.http_messages.specs.declared.limits.TheConstants.{MOST_CHUNK_LINE}

none_of : (o : Option ℕ) → ((n : ℕ) → o ≡ Some n → ⊥) → o ≡ None
none_of None h = refl
none_of (Some n) h = absurd (h n refl)

pub returns-then-len-lt-MOST_CHUNK_LINE : goal.returns-then-len-lt-MOST_CHUNK_LINE
returns-then-len-lt-MOST_CHUNK_LINE c =
    let none = sym c.line_end.ensures.end ∙ none_of c.line_end.result c.in_default.not-Some in
    let short : length c.args.kept.now < MOST_CHUNK_LINE = omega (arith, ap length c.line_end.ensures.same) in
    rw c.line_end.ensures.same (size_waits c.args.body c.args.kept.now none short, λ more. refl)

pub returns-else-len-lt-MOST_CHUNK_LINE : goal.returns-else-len-lt-MOST_CHUNK_LINE
returns-else-len-lt-MOST_CHUNK_LINE c =
    let none = sym c.line_end.ensures.end ∙ none_of c.line_end.result c.in_default.not-Some in
    size_too_long c.args.body c.args.kept.now none (omega (arith, ap length c.line_end.ensures.same))

pub returns-in_default-read_chunk_line : goal.returns-in_default-read_chunk_line
returns-in_default-read_chunk_line c =
    let n = c.in-Some.end in
    let read : c.read_chunk_line.result ≡ option_map chunk_size (chunk_line (take n c.args.kept.now)) =
    c.read_chunk_line.ensures ∙ ap (λ (l : List ℕ). option_map chunk_size (chunk_line (take n l))) (c.items.ensures ∙ c.line_end.ensures.same) in
    size_refused c.args.body c.args.kept.now n (sym c.line_end.ensures.end ∙ c.in-Some.is)
    (sym (none_of c.read_chunk_line.result c.in_default-read_chunk_line.not-Some) ∙ read)

pub returns-then-saturating_add : goal.returns-then-saturating_add
returns-then-saturating_add c =
    let n = c.in-Some.end in
    let read : c.read_chunk_line.result ≡ option_map chunk_size (chunk_line (take n c.args.kept.now)) =
    c.read_chunk_line.ensures ∙ ap (λ (l : List ℕ). option_map chunk_size (chunk_line (take n l))) (c.items.ensures ∙ c.line_end.ensures.same) in
    size_too_large c.args.body c.args.kept.now n (sym c.line_end.ensures.end ∙ c.in-Some.is) c.in-Some-read_chunk_line.size
    (sym c.in-Some-read_chunk_line.is ∙ read) (omega (arith, c.saturating_add.ensures, c.len-2.ensures))

pub returns-then-size-eq0 : goal.returns-then-size-eq0
returns-then-size-eq0 c =
    let n = c.in-Some.end in
    let kept = c.args.kept.now in
    let read : c.read_chunk_line.result ≡ option_map chunk_size (chunk_line (take n kept)) =
    c.read_chunk_line.ensures ∙ ap (λ (l : List ℕ). option_map chunk_size (chunk_line (take n l))) (c.items.ensures ∙ c.line_end.ensures.same) in
    let left : c.skip.new.self ≡ drop n kept = c.skip.ensures ∙ ap (drop n) c.line_end.ensures.same in
    let fits = c.in-Some.ensures.within in
    let P : List ℕ → Type 0 = λ l. ReadsAlike (body_left (InChunks c.args.body)) (body_left (InTrailers c.args.body)) kept l × (length l < length kept) in
    subst P (sym left) (
      size_last c.args.body kept n (sym c.line_end.ensures.end ∙ c.in-Some.is) c.in-Some-read_chunk_line.size
          (sym c.in-Some-read_chunk_line.is ∙ read) (omega (arith, c.saturating_add.ensures, c.len-2.ensures)) c.if-size-eq0.true,
      omega (arith, length-drop n kept, fits.0, fits.1),
    )

pub returns-else-size-eq0 : goal.returns-else-size-eq0
returns-else-size-eq0 c =
    let n = c.in-Some.end in
    let kept = c.args.kept.now in
    let read : c.read_chunk_line.result ≡ option_map chunk_size (chunk_line (take n kept)) =
    c.read_chunk_line.ensures ∙ ap (λ (l : List ℕ). option_map chunk_size (chunk_line (take n l))) (c.items.ensures ∙ c.line_end.ensures.same) in
    let left : c.skip.new.self ≡ drop n kept = c.skip.ensures ∙ ap (drop n) c.line_end.ensures.same in
    let fits = c.in-Some.ensures.within in
    let P : List ℕ → Type 0 = λ l. ReadsAlike (body_left (InChunks c.args.body)) (body_left (InChunk c.args.body c.in-Some-read_chunk_line.size)) kept l × (length l < length kept) in
    subst P (sym left) (
      size_more c.args.body kept n (sym c.line_end.ensures.end ∙ c.in-Some.is) c.in-Some-read_chunk_line.size
          (sym c.in-Some-read_chunk_line.is ∙ read) (omega (arith, c.saturating_add.ensures, c.len-2.ensures)) c.if-size-eq0.false,
      omega (arith, length-drop n kept, fits.0, fits.1),
    )
