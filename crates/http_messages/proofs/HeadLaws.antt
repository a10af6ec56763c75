-- `request_head` is the head of the grammar: what it gives was read so, and what is read so it gives.
use Rattle.std.proofs.Common.{◌≡◌, ◌≢◌, ℕ, ◌+◌, ◌-◌, ◌≤◌, Bool, true, false, ◌&&◌, cond, List, [], ◌∷◌, ◌++◌, length, map, refl, sym, ap, ◌∙◌, subst, arith, append_assoc, append-nil, take, drop, suc, zero, length-append, Option, Some, None, get_or}
use Rattle.std.proofs.lemmas.Bool.{and_parts, and_from, ltb-true, leb-true, lt-ltb, le-leb, ne_eqb, cond_both, cond-true, false≢true}
use Rattle.std.proofs.lemmas.List.Elements.{All-head, All-tail, All-cons, All-nil, All-weaker, All-append}
use Rattle.std.proofs.lemmas.List.Sums.{AllPass-from_list_all, list_all-from_AllPass}
use Rattle.std.proofs.lemmas.List.Splits.{slice_split_at, slice_split_none}
use Rattle.std.proofs.lemmas.Slice.Eq.{bytes_eq-Decides}
use Rattle.std.proofs.lemmas.Str.{IsUtf8-from_is_utf8, is_utf8-from_IsUtf8}
use Rattle.std.proofs.Math.Seq.{take-append_seam, get_or-append_seam}
use Rattle.std.specs.Prelude.{slice_index, not, ◌==◌, All, IsTrue}
use Rattle.std.specs.List.{slice_split, before_first, after_first, list_all, flat_map, position_or_len}
use Rattle.std.specs.Str.{bytes_eq, is_utf8}
use Rattle.httparse.specs.Grammar.{is_token_byte, is_uri_byte, is_value_byte, AllPass, IsToken, is_token, LineEnd, crlf, lf, print_end, print_blank, print_version, Field, print_field, IsField, print_section, RequestHead, print_request, IsRequestHead, ReadsRequest}
use Rattle.httparse.proofs.GrammarLemmas.{print_request-append, cons-append}
use Rattle.http_messages.specs.Cuts.{is_lf}
use Rattle.http_messages.specs.Head.{line_and_end, is_space, is_colon, field_of, fields_of, last_of, head_with, head_of_lines, is_field, is_request_head, if_printed, request_head}

-- ---- the tests and the facts

token_holds : (bs : List ℕ) → is_token bs ≡ true → IsToken bs
token_holds bs h = let p = and_parts _ _ h in (ltb-true _ _ p.0, AllPass-from_list_all is_token_byte bs p.1)

token_passes : (bs : List ℕ) → IsToken bs → is_token bs ≡ true
token_passes bs h = and_from _ _ (lt-ltb _ _ h.0) (list_all-from_AllPass is_token_byte bs h.1)

field_holds : (f : Field) → is_field f ≡ true → IsField f
field_holds f h = let p = and_parts _ _ h in
    record { name = token_holds f.name p.0; raw = AllPass-from_list_all is_value_byte f.raw p.1 }

field_passes : (f : Field) → IsField f → is_field f ≡ true
field_passes f h = and_from _ _ (token_passes f.name h.name) (list_all-from_AllPass is_value_byte f.raw h.raw)

pub request_head_holds : (h : RequestHead) → is_request_head h ≡ true → IsRequestHead h
request_head_holds h e =
    let p = and_parts _ (list_all is_field h.fields) e in
    let q = and_parts _ _ p.0 in
    let r = and_parts _ _ q.0 in
    let s = and_parts _ (is_utf8 h.target) r.1 in
    let t = and_parts _ _ s.0 in
    record {
      method = token_holds h.method r.0;
      target = (ltb-true _ _ t.0, AllPass-from_list_all is_uri_byte h.target t.1);
      target_text = IsUtf8-from_is_utf8 h.target s.1;
      minor = leb-true _ _ q.1;
      fields = All-weaker (λ f. is_field f ≡ true) IsField field_holds h.fields (AllPass-from_list_all is_field h.fields p.1);
    }

pub request_head_passes : (h : RequestHead) → IsRequestHead h → is_request_head h ≡ true
request_head_passes h x =
    and_from _ _
    (and_from _ _
    (and_from _ _ (token_passes h.method x.method)
    (and_from _ _ (and_from _ _ (lt-ltb _ _ x.target.0) (list_all-from_AllPass is_uri_byte h.target x.target.1))
    (is_utf8-from_IsUtf8 h.target x.target_text)))
    (le-leb _ _ x.minor))
    (list_all-from_AllPass is_field h.fields (All-weaker IsField (λ f. is_field f ≡ true) field_passes h.fields x.fields))

-- ---- what it gives is read

printed_holds : (bytes : List ℕ) (o : Option RequestHead) (h : RequestHead) → if_printed bytes o ≡ Some h → ReadsRequest bytes h []
printed_holds bytes None h e = absurd (cc)
printed_holds bytes (Some k) h e =
    cond_both (is_request_head k && bytes_eq (print_request k) bytes) (Some k) None (λ o. o ≡ Some h → ReadsRequest bytes h [])
    (λ test same.
    let p = and_parts _ _ test in
    let hk : k ≡ h = cc in
    subst (λ (r : RequestHead). ReadsRequest bytes r []) hk
    (request_head_holds k p.0, sym ((bytes_eq-Decides (print_request k) bytes).0 p.1) ∙ sym (append-nil (print_request k))))
    (λ test same. absurd (cc))
    e

pub request_head-sound : (bytes : List ℕ) (h : RequestHead) → request_head bytes ≡ Some h → ReadsRequest bytes h []
unfolding request_head
request_head-sound bytes h e = printed_holds bytes (head_of_lines (map line_and_end (slice_split is_lf bytes))) h e

-- ---- what is read it gives

abbrev cr : LineEnd → List ℕ
cr crlf = 13 ∷ []
cr lf = []

abbrev IsInLine : ℕ → Type 0
IsInLine b = (b ≢ 10) × (b ≢ 13)

split_line : (x : List ℕ) (e : LineEnd) (rest : List ℕ) → All IsInLine x
    → slice_split is_lf (x ++ (print_end e ++ rest)) ≡ (x ++ cr e) ∷ slice_split is_lf rest
split_line x crlf rest h =
    ap (slice_split is_lf) (sym (append_assoc x (13 ∷ []) (10 ∷ rest)))
    ∙ slice_split_at is_lf (x ++ 13 ∷ []) 10 rest
    (All-append (λ b. is_lf b ≡ false) x (13 ∷ []) (All-weaker IsInLine (λ b. is_lf b ≡ false) (λ b i. ne_eqb b 10 i.0) x h)
    (All-cons (λ b. is_lf b ≡ false) 13 [] refl (All-nil (λ b. is_lf b ≡ false)))) refl
split_line x lf rest h =
    slice_split_at is_lf x 10 rest (All-weaker IsInLine (λ b. is_lf b ≡ false) (λ b i. ne_eqb b 10 i.0) x h) refl
    ∙ ap (λ (l : List ℕ). l ∷ slice_split is_lf rest) (sym (append-nil x))

line_ends : (x : List ℕ) (e : LineEnd) → All IsInLine x → line_and_end (x ++ cr e) ≡ (x, e)
line_ends [] crlf h = refl
line_ends [] lf h = refl
line_ends (b ∷ []) crlf h = refl
line_ends (b ∷ []) lf h = ap (λ (t : Bool). cond t ([], crlf) (b ∷ [], lf)) (ne_eqb b 13 (All-head IsInLine b [] h).1)
line_ends (b ∷ c ∷ x) e h = ap (λ (l : List ℕ × LineEnd). (b ∷ l.0, l.1)) (line_ends (c ∷ x) e (All-tail IsInLine b (c ∷ x) h))

lines_after : (x : List ℕ) (e : LineEnd) (rest : List ℕ) → All IsInLine x
    → map line_and_end (slice_split is_lf (x ++ (print_end e ++ rest))) ≡ (x, e) ∷ map line_and_end (slice_split is_lf rest)
lines_after x e rest h =
    ap (map line_and_end) (split_line x e rest h) ∙ ap (λ (l : List ℕ × LineEnd). l ∷ map line_and_end (slice_split is_lf rest)) (line_ends x e h)

-- bytes of each class stand in a line
token_in_line : (b : ℕ) → IsTrue (is_token_byte b) → IsInLine b
unfolding is_token_byte
token_in_line b h = (
  λ e. false≢true (subst (λ (v : ℕ). is_token_byte v ≡ true) e h),
  λ e. false≢true (subst (λ (v : ℕ). is_token_byte v ≡ true) e h),
)

value_in_line : (b : ℕ) → IsTrue (is_value_byte b) → IsInLine b
value_in_line b h = (
  λ e. false≢true (subst (λ (v : ℕ). is_value_byte v ≡ true) e h),
  λ e. false≢true (subst (λ (v : ℕ). is_value_byte v ≡ true) e h),
)

uri_in_line : (b : ℕ) → IsTrue (is_uri_byte b) → IsInLine b
uri_in_line b h = (
  λ e. false≢true (subst (λ (v : ℕ). is_uri_byte v ≡ true) e h),
  λ e. false≢true (subst (λ (v : ℕ). is_uri_byte v ≡ true) e h),
)

-- ---- fields

abbrev content : Field → List ℕ × LineEnd
content f = (f.name ++ 58 ∷ f.raw, f.end)

content_in_line : (f : Field) → IsField f → All IsInLine (f.name ++ 58 ∷ f.raw)
content_in_line f h =
    All-append IsInLine f.name (58 ∷ f.raw) (All-weaker _ IsInLine token_in_line f.name h.name.1)
    (All-cons IsInLine 58 f.raw (λ e. omega arith, λ e. omega arith) (All-weaker _ IsInLine value_in_line f.raw h.raw))

section_lines : (fs : List Field) (last : LineEnd) → All IsField fs
    → map line_and_end (slice_split is_lf (print_section fs last)) ≡ map content fs ++ ([], last) ∷ ([], lf) ∷ []
section_lines [] crlf h = refl
section_lines [] lf h = refl
section_lines (f ∷ fs) last h =
    ap (λ (bytes : List ℕ). map line_and_end (slice_split is_lf bytes))
    (append_assoc (print_field f) (flat_map print_field fs) (print_end last)
    ∙ append_assoc (f.name ++ 58 ∷ f.raw) (print_end f.end) (print_section fs last))
    ∙ lines_after (f.name ++ 58 ∷ f.raw) f.end (print_section fs last) (content_in_line f (All-head IsField f fs h))
    ∙ ap (λ (ls : List (List ℕ × LineEnd)). content f ∷ ls) (section_lines fs last (All-tail IsField f fs h))

-- a name has no colon
not_colon : (b : ℕ) → IsTrue (is_token_byte b) → is_colon b ≡ false
unfolding is_token_byte
not_colon b h = ne_eqb b 58 (λ e. false≢true (subst (λ (v : ℕ). is_token_byte v ≡ true) e h))

not_space : (b : ℕ) → IsTrue (is_token_byte b) → is_space b ≡ false
unfolding is_token_byte
not_space b h = ne_eqb b 32 (λ e. false≢true (subst (λ (v : ℕ). is_token_byte v ≡ true) e h))

uri_not_space : (b : ℕ) → IsTrue (is_uri_byte b) → is_space b ≡ false
uri_not_space b h = ne_eqb b 32 (λ e. false≢true (subst (λ (v : ℕ). is_uri_byte v ≡ true) e h))

drop_past : (xs : List ℕ) (y : ℕ) (ys : List ℕ) → drop (length xs + 1) (xs ++ y ∷ ys) ≡ ys
drop_past [] y ys = refl
drop_past (x ∷ xs) y ys = rw (suc_add (length xs)) (drop_past xs y ys)
  where
    suc_add : (n : ℕ) → suc n + 1 ≡ suc (n + 1)
    suc_add n = omega arith

colon_place : (name raw : List ℕ) → All (λ b. is_colon b ≡ false) name → position_or_len is_colon (name ++ 58 ∷ raw) ≡ length name
colon_place [] raw h = refl
colon_place (b ∷ name) raw h =
    rw (All-head (λ b. is_colon b ≡ false) b name h, colon_place name raw (All-tail (λ b. is_colon b ≡ false) b name h)) (omega arith)

field_back : (f : Field) → IsField f → field_of (content f) ≡ f
field_back f h =
    let place : position_or_len is_colon (f.name ++ 58 ∷ f.raw) ≡ length f.name =
    colon_place f.name f.raw (All-weaker _ (λ b. is_colon b ≡ false) not_colon f.name h.name.1) in
    let name : before_first is_colon (f.name ++ 58 ∷ f.raw) ≡ f.name =
    ap (λ (n : ℕ). take n (f.name ++ 58 ∷ f.raw)) place ∙ take-append_seam f.name (58 ∷ f.raw) in
    let raw : after_first is_colon (f.name ++ 58 ∷ f.raw) ≡ f.raw =
    ap (λ (n : ℕ). drop (n + 1) (f.name ++ 58 ∷ f.raw)) place ∙ drop_past f.name 58 f.raw in
    λ i. record { name = name i; raw = raw i; end = f.end }

fields_count : (fs : List Field) (last : LineEnd) → length (map content fs ++ ([], last) ∷ ([], lf) ∷ []) - 2 ≡ length (map content fs)
fields_count fs last = simp length-append (omega arith)

fields_back_each : (fs : List Field) → All IsField fs → map field_of (map content fs) ≡ fs
fields_back_each [] h = refl
fields_back_each (f ∷ fs) h =
    let here = field_back f (All-head IsField f fs h) in
    let there = fields_back_each fs (All-tail IsField f fs h) in
    λ i. here i ∷ there i

fields_back : (fs : List Field) (last : LineEnd) → All IsField fs → fields_of (map content fs ++ ([], last) ∷ ([], lf) ∷ []) ≡ fs
fields_back fs last h =
    ap (λ (n : ℕ). map field_of (take n (map content fs ++ ([], last) ∷ ([], lf) ∷ []))) (fields_count fs last)
    ∙ ap (map field_of) (take-append_seam (map content fs) (([], last) ∷ ([], lf) ∷ []))
    ∙ fields_back_each fs h

last_back : (fs : List Field) (last : LineEnd) → last_of (map content fs ++ ([], last) ∷ ([], lf) ∷ []) ≡ last
last_back fs last =
    ap (λ (n : ℕ). (get_or (map content fs ++ ([], last) ∷ ([], lf) ∷ []) n ([], lf)).1) (fields_count fs last)
    ∙ ap (λ (l : List ℕ × LineEnd). l.1) (get_or-append_seam (map content fs) ([], last) (([], lf) ∷ []) ([], lf))

-- ---- the request line

abbrev is_plain : ℕ → Bool
is_plain b = not (b == 10) && not (b == 13) && not (b == 32)

version_plain : (minor : ℕ) → minor ≤ 1 → AllPass is_plain (print_version minor)
version_plain zero h = AllPass-from_list_all is_plain (print_version 0) refl
version_plain (suc zero) h = AllPass-from_list_all is_plain (print_version 1) refl
version_plain (suc (suc n)) h = absurd (omega arith)

plain_in_line : (b : ℕ) → IsTrue (is_plain b) → IsInLine b
plain_in_line b h = (
  λ e. false≢true (subst (λ (v : ℕ). is_plain v ≡ true) e h),
  λ e. false≢true (subst (λ (v : ℕ). is_plain v ≡ true) e h),
)

plain_not_space : (b : ℕ) → IsTrue (is_plain b) → is_space b ≡ false
plain_not_space b h = ne_eqb b 32 (λ e. false≢true (subst (λ (v : ℕ). is_plain v ≡ true) e h))

words_of : (m t v : List ℕ) → IsToken m → AllPass is_uri_byte t → All (λ b. is_space b ≡ false) v
    → slice_split is_space (m ++ 32 ∷ (t ++ 32 ∷ v)) ≡ m ∷ t ∷ v ∷ []
words_of m t v hm ht hv =
    slice_split_at is_space m 32 (t ++ 32 ∷ v) (All-weaker _ (λ b. is_space b ≡ false) not_space m hm.1) refl
    ∙ ap (λ (l : List (List ℕ)). m ∷ l)
    (slice_split_at is_space t 32 v (All-weaker _ (λ b. is_space b ≡ false) uri_not_space t ht) refl
    ∙ ap (λ (l : List (List ℕ)). t ∷ l) (slice_split_none is_space v hv))

-- ---- the whole

module _ (h : RequestHead) (x : IsRequestHead h) where
  abbrev first : List ℕ
  first = h.method ++ 32 ∷ (h.target ++ 32 ∷ print_version h.minor)

  first_in_line : All IsInLine first
  first_in_line =
      All-append IsInLine h.method (32 ∷ (h.target ++ 32 ∷ print_version h.minor))
      (All-weaker _ IsInLine token_in_line h.method x.method.1)
      (All-cons IsInLine 32 (h.target ++ 32 ∷ print_version h.minor) (λ e. omega arith, λ e. omega arith)
      (All-append IsInLine h.target (32 ∷ print_version h.minor)
      (All-weaker _ IsInLine uri_in_line h.target x.target.1)
      (All-cons IsInLine 32 (print_version h.minor) (λ e. omega arith, λ e. omega arith)
      (All-weaker _ IsInLine plain_in_line (print_version h.minor) (version_plain h.minor x.minor)))))

  abbrev lines : List (List ℕ × LineEnd)
  lines = map content h.fields ++ ([], h.last) ∷ ([], lf) ∷ []

  printed_lines : h.blank ≡ [] → map line_and_end (slice_split is_lf (print_request h ++ [])) ≡ (first, h.line_end) ∷ lines
  printed_lines none =
      ap (λ (bytes : List ℕ). map line_and_end (slice_split is_lf bytes))
      (print_request-append h [] ∙ ap (λ (ends : List LineEnd). print_blank ends ++ (h.method ++ 32 ∷ (h.target ++ 32 ∷ (print_version h.minor
      ++ (print_end h.line_end ++ (print_section h.fields h.last ++ [])))))) none ∙ regroup h.method h.target (print_version h.minor) (print_end h.line_end) (print_section h.fields h.last))
      ∙ lines_after first h.line_end (print_section h.fields h.last) first_in_line
      ∙ ap (λ (ls : List (List ℕ × LineEnd)). (first, h.line_end) ∷ ls) (section_lines h.fields h.last x.fields)
    where
      regroup : (m t v e s : List ℕ) → m ++ 32 ∷ (t ++ 32 ∷ (v ++ (e ++ (s ++ [])))) ≡ (m ++ 32 ∷ (t ++ 32 ∷ v)) ++ (e ++ s)
      regroup m t v e s = simp (append_assoc, cons-append, append-nil)

  minor_back : slice_index (print_version h.minor) 7 - 48 ≡ h.minor
  minor_back = omega arith

  head_back : h.blank ≡ [] → head_of_lines ((first, h.line_end) ∷ lines) ≡ Some h
  head_back none =
      ap (λ (words : List (List ℕ)). head_with words h.line_end lines)
      (words_of h.method h.target (print_version h.minor) x.method x.target.1
      (All-weaker _ (λ b. is_space b ≡ false) plain_not_space (print_version h.minor) (version_plain h.minor x.minor)))
      ∙ (let fields = fields_back h.fields h.last x.fields in
      let last = last_back h.fields h.last in
      λ i. Some (record { blank = sym none i; method = h.method; target = h.target; minor = minor_back i; line_end = h.line_end; fields = fields i; last = last i }))

  back : h.blank ≡ [] → if_printed (print_request h ++ []) (head_of_lines (map line_and_end (slice_split is_lf (print_request h ++ [])))) ≡ Some h
  back none =
      ap (λ (ls : List (List ℕ × LineEnd)). if_printed (print_request h ++ []) (head_of_lines ls)) (printed_lines none)
      ∙ ap (if_printed (print_request h ++ [])) (head_back none)
      ∙ cond-true (is_request_head h && bytes_eq (print_request h) (print_request h ++ [])) (Some h) None
      (and_from _ _ (request_head_passes h x) ((bytes_eq-Decides (print_request h) (print_request h ++ [])).1 (sym (append-nil (print_request h)))))

pub request_head-full : (bytes : List ℕ) (h : RequestHead) → ReadsRequest bytes h [] → h.blank ≡ [] → request_head bytes ≡ Some h
unfolding request_head
request_head-full bytes h x none =
    ap (λ (bs : List ℕ). if_printed bs (head_of_lines (map line_and_end (slice_split is_lf bs)))) x.1 ∙ back h x.0 none
