-- `chunk_line` is the chunk line of the grammar.
use Rattle.std.proofs.Common.{◌≡◌, ℕ, Bool, true, false, ◌&&◌, cond, List, [], ◌∷◌, ◌++◌, length, take, drop, refl, sym, ap, ◌∙◌, subst, arith, append_assoc, append-nil, Option, Some, None, inl, inr, ◌≢◌}
use Rattle.std.proofs.lemmas.Bool.{and_parts, and_from, ltb-true, leb-true, lt-ltb, le-leb, cond_both, cond-true, or_cases, eqb-true}
use Rattle.std.proofs.lemmas.List.Elements.{All-head, All-tail}
use Rattle.std.proofs.lemmas.List.Sums.{AllPass-from_list_all, list_all-from_AllPass}
use Rattle.std.proofs.lemmas.Slice.Eq.{bytes_eq-Decides}
use Rattle.std.proofs.Math.Seq.{take-append_seam}
use Rattle.std.specs.Prelude.{IsTrue, ◌==◌, option_map}
use Rattle.std.specs.List.{prefix_len, take_while, list_all}
use Rattle.std.specs.Char.{is_ascii_hexdigit}
use Rattle.std.specs.Str.{bytes_eq}
use Rattle.httparse.specs.Grammar.{AllPass, is_ows, is_extension_byte, ChunkLine, IsChunkLine, IsExtension, ReadsChunkLine, HasNoChunkLine, NeverHasChunkLine, chunk_size, print_chunk_line, print_extension, print_end, crlf}
use Rattle.httparse.specs.Spans.{IsChunkLineAt}
use Rattle.httparse.proofs.ChunkLemmas.{chunk_line_unique}
use Rattle.http_messages.specs.Body.{extension_of, after_digits, chunk_line_of, is_extension, is_chunk_line, chunk_line}

-- ---- the test and the fact

extension_holds : (e : Option (List ℕ)) → is_extension e ≡ true → IsExtension e
extension_holds None h = tt
extension_holds (Some text) h = AllPass-from_list_all is_extension_byte text h

extension_passes : (e : Option (List ℕ)) → IsExtension e → is_extension e ≡ true
extension_passes None h = refl
extension_passes (Some text) h = list_all-from_AllPass is_extension_byte text h

line_holds : (l : ChunkLine) → is_chunk_line l ≡ true → IsChunkLine l
line_holds l e =
    let p = and_parts _ (is_extension l.extension) e in
    let q = and_parts _ (list_all is_ows l.pad) p.0 in
    let r = and_parts _ (list_all is_ascii_hexdigit l.digits) q.0 in
    let s = and_parts _ _ r.0 in
    record {
      digits = (ltb-true _ _ s.0, leb-true _ _ s.1, AllPass-from_list_all is_ascii_hexdigit l.digits r.1);
      pad = AllPass-from_list_all is_ows l.pad q.1;
      extension = extension_holds l.extension p.1;
    }

line_passes : (l : ChunkLine) → IsChunkLine l → is_chunk_line l ≡ true
line_passes l x =
    and_from _ _
    (and_from _ _
    (and_from _ _ (and_from _ _ (lt-ltb _ _ x.digits.0) (le-leb _ _ x.digits.1)) (list_all-from_AllPass is_ascii_hexdigit l.digits x.digits.2))
    (list_all-from_AllPass is_ows l.pad x.pad))
    (extension_passes l.extension x.extension)

pub chunk_line-sound : (bytes : List ℕ) (l : ChunkLine) → chunk_line bytes ≡ Some l → ReadsChunkLine bytes l []
unfolding chunk_line
chunk_line-sound bytes l e =
    cond_both (is_chunk_line (chunk_line_of bytes) && bytes_eq (print_chunk_line (chunk_line_of bytes)) bytes) (Some (chunk_line_of bytes)) None
    (λ o. o ≡ Some l → ReadsChunkLine bytes l [])
    (λ test same.
    let p = and_parts _ _ test in
    let is : chunk_line_of bytes ≡ l = cc in
    subst (λ (k : ChunkLine). ReadsChunkLine bytes k []) is (
      line_holds (chunk_line_of bytes) p.0,
      sym ((bytes_eq-Decides (print_chunk_line (chunk_line_of bytes)) bytes).0 p.1) ∙ sym (append-nil (print_chunk_line (chunk_line_of bytes))),
    ))
    (λ test same. absurd (cc))
    e

-- ---- what is read it gives

abbrev StopsAt : (ℕ → Bool) → List ℕ → Type 0
StopsAt p [] = ⊥
StopsAt p (b ∷ bytes) = p b ≡ false

run_len : (p : ℕ → Bool) (xs rest : List ℕ) → AllPass p xs → StopsAt p rest → prefix_len p (xs ++ rest) ≡ length xs
run_len p [] [] h s = absurd s
run_len p [] (b ∷ rest) h s = rw s refl
run_len p (x ∷ xs) rest h s = rw (All-head (λ b. IsTrue (p b)) x xs h, run_len p xs rest (All-tail (λ b. IsTrue (p b)) x xs h) s) (omega arith)

drop_seam : (xs ys : List ℕ) → drop (length xs) (xs ++ ys) ≡ ys
drop_seam [] ys = refl
drop_seam (x ∷ xs) ys = drop_seam xs ys

-- what stands after the digits, and after the blanks
ext_stops : (p : ℕ → Bool) → p 59 ≡ false → p 13 ≡ false → (e : Option (List ℕ)) → StopsAt p (print_extension e ++ print_end crlf)
ext_stops p semi cr None = cr
ext_stops p semi cr (Some text) = semi

ows_hex : (b : ℕ) → IsTrue (is_ows b) → is_ascii_hexdigit b ≡ false
ows_hex b h = elim (or_cases (b == 32) (b == 9) h) [
  | inl blank ↦ ap is_ascii_hexdigit (eqb-true b 32 blank)
  | inr tab ↦ ap is_ascii_hexdigit (eqb-true b 9 tab)
]

pad_stops : (pad : List ℕ) (e : Option (List ℕ)) → AllPass is_ows pad → StopsAt is_ascii_hexdigit (pad ++ (print_extension e ++ print_end crlf))
pad_stops [] e h = ext_stops is_ascii_hexdigit refl refl e
pad_stops (b ∷ pad) e h = ows_hex b (All-head (λ b. IsTrue (is_ows b)) b pad h)

text_back : (e : Option (List ℕ)) → IsExtension e → extension_of (print_extension e ++ print_end crlf) ≡ e
text_back None h = refl
text_back (Some text) h =
    ap (λ (n : ℕ). Some (take n (text ++ print_end crlf))) (run_len is_extension_byte text (print_end crlf) h refl)
    ∙ ap (λ (t : List ℕ). Some t) (take-append_seam text (print_end crlf))

line_back : (l : ChunkLine) → IsChunkLine l → chunk_line_of (l.digits ++ (l.pad ++ (print_extension l.extension ++ print_end crlf))) ≡ l
line_back l x =
    let n = run_len is_ascii_hexdigit l.digits (l.pad ++ (print_extension l.extension ++ print_end crlf)) x.digits.2 (pad_stops l.pad l.extension x.pad) in
    let after : after_digits (l.digits ++ (l.pad ++ (print_extension l.extension ++ print_end crlf))) ≡ l.pad ++ (print_extension l.extension ++ print_end crlf) =
    ap (λ (k : ℕ). drop k (l.digits ++ (l.pad ++ (print_extension l.extension ++ print_end crlf)))) n
    ∙ drop_seam l.digits (l.pad ++ (print_extension l.extension ++ print_end crlf)) in
    let m = run_len is_ows l.pad (print_extension l.extension ++ print_end crlf) x.pad (ext_stops is_ows refl refl l.extension) in
    let digits : take_while is_ascii_hexdigit (l.digits ++ (l.pad ++ (print_extension l.extension ++ print_end crlf))) ≡ l.digits =
    ap (λ (k : ℕ). take k (l.digits ++ (l.pad ++ (print_extension l.extension ++ print_end crlf)))) n
    ∙ take-append_seam l.digits (l.pad ++ (print_extension l.extension ++ print_end crlf)) in
    let pad : take_while is_ows (l.pad ++ (print_extension l.extension ++ print_end crlf)) ≡ l.pad =
    ap (λ (k : ℕ). take k (l.pad ++ (print_extension l.extension ++ print_end crlf))) m ∙ take-append_seam l.pad (print_extension l.extension ++ print_end crlf) in
    let ext : extension_of (drop (prefix_len is_ows (l.pad ++ (print_extension l.extension ++ print_end crlf))) (l.pad ++ (print_extension l.extension ++ print_end crlf))) ≡ l.extension =
    ap (λ (k : ℕ). extension_of (drop k (l.pad ++ (print_extension l.extension ++ print_end crlf)))) m
    ∙ ap extension_of (drop_seam l.pad (print_extension l.extension ++ print_end crlf)) ∙ text_back l.extension x.extension in
    (λ i. record { digits = digits i; pad = take_while is_ows (after i); extension = extension_of (drop (prefix_len is_ows (after i)) (after i)) })
    ∙ (λ i. record { digits = l.digits; pad = pad i; extension = ext i })

pub chunk_line-full : (bytes : List ℕ) (l : ChunkLine) → ReadsChunkLine bytes l [] → chunk_line bytes ≡ Some l
unfolding chunk_line print_chunk_line
chunk_line-full bytes l x =
    let spelt : print_chunk_line l ≡ l.digits ++ (l.pad ++ (print_extension l.extension ++ print_end crlf)) =
    append_assoc (l.digits ++ l.pad) (print_extension l.extension) (print_end crlf) ∙ append_assoc l.digits l.pad (print_extension l.extension ++ print_end crlf) in
    let is : bytes ≡ print_chunk_line l = x.1 ∙ append-nil (print_chunk_line l) in
    let back : chunk_line_of bytes ≡ l = ap chunk_line_of (is ∙ spelt) ∙ line_back l x.0 in
    (λ i. cond (is_chunk_line (back i) && bytes_eq (print_chunk_line (back i)) bytes) (Some (back i)) None)
    ∙ cond-true (is_chunk_line l && bytes_eq (print_chunk_line l) bytes) (Some l) None
    (and_from _ _ (line_passes l x.0) ((bytes_eq-Decides (print_chunk_line l) bytes).1 (sym is)))

-- ---- as the parser answers

pub size_found : (line : List ℕ) (n size : ℕ) (l : ChunkLine) → IsChunkLineAt line n size l → n ≡ length line → Some size ≡ option_map chunk_size (chunk_line line)
size_found line n size l at end =
    let rest : drop n line ≡ [] = ap (λ (k : ℕ). drop k line) end ∙ drop_all line in
    let reads : ReadsChunkLine line l [] = subst (λ (r : List ℕ). ReadsChunkLine line l r) rest at.reads in
    ap (λ (k : ℕ). Some k) at.size_is ∙ sym (ap (option_map chunk_size) (chunk_line-full line l reads))
  where
    drop_all : (l : List ℕ) → drop (length l) l ≡ []
    drop_all [] = refl
    drop_all (x ∷ l) = drop_all l

size_none_by : (line : List ℕ) (o : Option ChunkLine) → chunk_line line ≡ o → ((l : ChunkLine) → ReadsChunkLine line l [] → ⊥) → None ≡ option_map chunk_size o
size_none_by line None e h = refl
size_none_by line (Some l) e h = absurd (h l (chunk_line-sound line l e))

pub size_none : (line : List ℕ) → HasNoChunkLine line → None ≡ option_map chunk_size (chunk_line line)
size_none line h = size_none_by line (chunk_line line) refl (λ l reads. h l [] reads)

pub size_longer : (line : List ℕ) (n size : ℕ) (l : ChunkLine) → IsChunkLineAt line n size l → n ≢ length line → None ≡ option_map chunk_size (chunk_line line)
size_longer line n size l at longer = size_none_by line (chunk_line line) refl (λ k reads.
    let same = chunk_line_unique line k l [] (drop n line) reads at.reads in
    let all : length line ≡ length (print_chunk_line k) = ap length (reads.1 ∙ append-nil (print_chunk_line k)) in
    longer (at.len_is ∙ ap (λ (c : ChunkLine). length (print_chunk_line c)) (sym same.0) ∙ sym all))

pub no_line_here : (line : List ℕ) → NeverHasChunkLine line → HasNoChunkLine line
no_line_here line never = subst HasNoChunkLine (append-nil line) (never [])
