-- A connection, piece by piece, and the whole of it.
use Rattle.std.proofs.Common.{◌≡◌, ◌≢◌, ℕ, zero, suc, ◌+◌, ◌-◌, ◌<◌, ◌≤◌, Bool, true, false, ◌||◌, List, [], ◌∷◌, ◌++◌, length, take, min, ◌⊎◌, inl, inr, length-take-le, take-take, nat_le, Option, Some, None, IfSome, Result, Ok, Err, OnOk, OnErr, is_err, refl, sym, ap, ◌∙◌, subst, arith, append-nil, length-append, unwrap_or}
use Rattle.std.proofs.lemmas.Grind.{common_steps}
use Rattle.std.proofs.lemmas.List.{append_cancel_left, take-append-le, take_all}
use Rattle.gv_io.specs.Streams.{appended, prepended, AppendsPrefix, Extends}
use Rattle.gv_io.specs.declared.limits.TheConstants.{MOST_PIECE}
use Rattle.gv_io.proofs.StreamLaws.{appended-nothing, appended-appended, prepended-prepended, prepended-nothing, AppendsPrefix-after, AppendsPrefix-longer, AppendsPrefix-all}
use Rattle.wsgi_core.specs.Answer.{Sent, nothing_sent}
use Rattle.wsgi_core.specs.Applications.{App}
use Rattle.wsgi_core.specs.Steps.{phase_by}
use Rattle.wsgi_core.specs.Talk.{Gateway, said_by}
use Rattle.wsgi_core.specs.Standings.{IsBefore, Standing}
use Rattle.wsgi_core.specs.declared.session.SessionPhase.{SessionPhase}
use Rattle.wsgi_connection.specs.declared.connection.TheConstants.{MOST_CONNECTION}
use Rattle.wsgi_connection.specs.declared.connection.ConnectionEnd.{ConnectionEnd}
use Rattle.wsgi_connection.specs.declared.connection.Turn.{Turn}
use Rattle.wsgi_connection.specs.declared.connection.ConnectionEnd.TheVariants.{Closed, TooLong, ReadFault, WriteFault, Memory}
use Rattle.wsgi_connection.specs.Connection.{whole_session, Exchanged, HandedAhead, IsServed, SentAhead, SentFor}
use Rattle.wsgi_connection.specs.Wholes.{IsWhole}
use Rattle.wsgi_connection.specs.Pieces.{Breaks, Goes, IsAtRest, said}

-- ---- results

pub where_err : {T E : Type 0} (r : Result T E) (A P : Type 0) → OnErr r A → is_err r ≡ true → (A → P) → P
where_err (Ok x) A P h e f = absurd (cc)
where_err (Err x) A P h e f = f h

pub where_ok : {T E : Type 0} (r : Result T E) (A P : Type 0) → OnOk r A → is_err r ≡ false → (A → P) → P
where_ok (Ok x) A P h e f = f h
where_ok (Err x) A P h e f = absurd (cc)

pub where_either : {T E : Type 0} (r : Result T E) (A B P : Type 0) → OnOk r A → OnErr r B → (A → P) → (B → P) → P
where_either (Ok x) A B P a b f g = f a
where_either (Err x) A B P a b f g = g b

or_true : (b : Bool) → b || true ≡ true
or_true true = refl
or_true false = refl

-- ---- lists of bytes

-- the first bytes of two lists in a row
pub take-two : (n : ℕ) (xs ys : List ℕ) → take n (xs ++ ys) ≡ take n xs ++ take (n - length xs) ys
take-two zero xs ys = let none : zero - length xs ≡ 0 = omega arith in rw none refl
take-two (suc n) [] ys = let same : suc n - length {A = ℕ} [] ≡ suc n = omega arith in rw same refl
take-two (suc n) (x ∷ xs) ys =
    let less : suc n - suc (length xs) ≡ n - length xs = omega arith in
    rw less (ap (λ (z : List ℕ). x ∷ z) (take-two n xs ys))

take_nil : (n : ℕ) (xs : List ℕ) → xs ≡ [] → take n xs ≡ []
take_nil n xs e = let none : length xs ≡ 0 = ap (λ (z : List ℕ). length z) e in take_all n xs (omega arith) ∙ e

-- of the bytes that came, those that are looked at
pub looked_at_piece : (came room : ℕ) (buf behind : List ℕ) → came ≤ length buf → take room (take came buf) ≡ take (min came room) (buf ++ behind)
looked_at_piece came room buf behind fits = by (le_or_gt came room)
  where
    le_or_gt : (a b : ℕ) → (a ≤ b) ⊎ (b ≤ a)
    le_or_gt a b = grind arith

    by : (came ≤ room) ⊎ (room ≤ came) → take room (take came buf) ≡ take (min came room) (buf ++ behind)
    by (inl few) =
        let least : min came room ≡ came = omega arith in
        let short : length (take came buf) ≤ room = omega (arith, length-take-le came buf fits) in
        rw least (take_all room (take came buf) short ∙ sym (take-append-le came buf behind fits))
    by (inr many) =
        let least : min came room ≡ room = omega arith in
        rw least (take-take room came buf many ∙ sym (take-append-le room buf behind (omega arith)))

pub short_piece : (looked : ℕ) (bytes : List ℕ) → looked ≤ MOST_PIECE → length (take looked bytes) ≤ MOST_PIECE
short_piece looked bytes few = let short : length (take looked bytes) ≤ looked = grind (arith, common_steps) in omega (arith, short, few)

-- what is looked at grows by the piece
pub looked_at_more : (read buf behind : List ℕ) (count came looked : ℕ) → length read ≡ count → came ≤ length buf → looked ≡ min came (MOST_CONNECTION - count)
    → take MOST_CONNECTION (read ++ take came buf) ≡ take MOST_CONNECTION read ++ take looked (buf ++ behind)
looked_at_more read buf behind count came looked e fits f =
    take-two MOST_CONNECTION read (take came buf)
    ∙ ap (λ (n : ℕ). take MOST_CONNECTION read ++ take (MOST_CONNECTION - n) (take came buf)) e
    ∙ ap (λ (z : List ℕ). take MOST_CONNECTION read ++ z) (looked_at_piece came (MOST_CONNECTION - count) buf behind fits)
    ∙ ap (λ (n : ℕ). take MOST_CONNECTION read ++ take n (buf ++ behind)) (sym f)

-- ---- what a session sends

-- where all its bytes were taken, none is pending
pub none_at_end : (all pending : List ℕ) → all ++ pending ≡ all → pending ≡ []
none_at_end all pending e = append_cancel_left all pending [] (e ∙ sym (append-nil all))

-- after the pending bytes were taken all were
pub rests : (P : List ℕ → Type 0) (taken pending all : List ℕ) → taken ++ pending ≡ all → P (taken ++ pending) → P all
rests P taken pending all e h = subst P e h

-- the pending bytes were appended to those that were taken
pub sends : (old mid new : Option (List ℕ)) (taken pending all : List ℕ) → mid ≡ appended old taken → new ≡ appended mid pending → taken ++ pending ≡ all
    → new ≡ appended old all
sends old mid new taken pending all e f g = f ∙ ap (λ m. appended m pending) e ∙ appended-appended old taken pending ∙ ap (appended old) g

-- a prefix of them was
pub sends_prefix : (old mid new : Option (List ℕ)) (taken pending tail all : List ℕ) → mid ≡ appended old taken → AppendsPrefix mid new pending
    → all ≡ taken ++ pending ++ tail → AppendsPrefix old new all
sends_prefix old mid new taken pending tail all e p g =
    let P : List ℕ → Type 0 = λ z. AppendsPrefix old new z in
    subst P (sym g) (AppendsPrefix-longer old new (taken ++ pending) tail (AppendsPrefix-after old mid new taken pending e p))

pub is_closing : (b : Bool) → SessionPhase.Closing ≡ phase_by b → b ≡ true
is_closing true e = refl
is_closing false e = cc

pub is_serving : (b : Bool) → SessionPhase.Serving ≡ phase_by b → b ≡ false
is_serving true e = cc
is_serving false e = refl

-- nothing was appended
pub appends_nothing : (old new : Option (List ℕ)) (text : List ℕ) → text ≡ [] → AppendsPrefix old new text → new ≡ old
appends_nothing old new text e p = p.is ∙ ap (appended old) (take_nil p.count text e) ∙ appended-nothing old

-- a prefix of a text was appended, so what was there is there still
pub extends_by : (old new : Option (List ℕ)) (text : List ℕ) → AppendsPrefix old new text → Extends old new
extends_by old new text p = record { more = take p.count text; is = p.is }

-- the bytes that were read, with those of one more read
pub read_on : (read chunk : List ℕ) (in0 in1 in2 : Option (List ℕ)) → in0 ≡ prepended read in1 → in1 ≡ prepended chunk in2 → in0 ≡ prepended (read ++ chunk) in2
read_on read chunk in0 in1 in2 e f = e ∙ ap (prepended read) f ∙ prepended-prepended in2 read chunk

-- ---- what stood there before the last read

-- all of it
all_ahead : (gw : Gateway) (app : App) (port : ℕ) (bytes : List ℕ) (out0 now : Option (List ℕ)) → now ≡ appended out0 (said gw app port bytes) → SentAhead gw app port bytes out0 now
all_ahead gw app port bytes out0 now e = record {
  before = bytes;
  last = [];
  is = sym (append-nil bytes);
  short = omega arith;
  stands = record { more = []; is = e ∙ sym (appended-nothing (appended out0 (said gw app port bytes))) };
}

-- all but what is due for the piece
piece_ahead : (gw : Gateway) (app : App) (port : ℕ) (bytes before piece : List ℕ) (out0 mid now : Option (List ℕ)) → bytes ≡ before ++ piece → length piece ≤ MOST_PIECE
    → mid ≡ appended out0 (said gw app port before) → Extends mid now → SentAhead gw app port bytes out0 now
piece_ahead gw app port bytes before piece out0 mid now is short e more =
    let P : Option (List ℕ) → Type 0 = λ o. Extends o now in
    record { before = before; last = piece; is = is; short = short; stands = subst P e more }

-- a read that took these bytes came after all that is due for those before it was handed on
pub handed_before : {T : Type 0} (gw : Gateway) (at : Standing T) (app : App) (port count : ℕ) (chunk : List ℕ) (in0 in1 in2 out0 out1 handed1 handed2 : Option (List ℕ)) (s : T) → Goes gw at app port count in0 in1 out0 out1 s
    → in1 ≡ prepended chunk in2 → length chunk ≤ MOST_PIECE → handed1 ≡ out1 → Extends handed1 handed2 → HandedAhead gw app port in0 in2 out0 handed2
handed_before gw at app port count chunk in0 in1 in2 out0 out1 handed1 handed2 s h e short handed more =
    let room = MOST_CONNECTION - length h.read in
    let fits : length (take room chunk) ≤ length chunk = grind (arith, common_steps) in
    record {
      read = h.read ++ chunk;
      is_read = read_on h.read chunk in0 in1 in2 h.is_read e;
      ahead = piece_ahead gw app port (take MOST_CONNECTION (h.read ++ chunk)) (take MOST_CONNECTION h.read) (take room chunk) out0 handed1 handed2 (take-two MOST_CONNECTION h.read chunk) (omega (arith, fits, short))
          (handed ∙ h.served.sent) more;
    }

-- where no more is read, all was
pub handed_all : {T : Type 0} (gw : Gateway) (at : Standing T) (app : App) (port count : ℕ) (in0 in1 out0 out1 handed1 : Option (List ℕ)) (s : T) → Goes gw at app port count in0 in1 out0 out1 s → handed1 ≡ out1
    → HandedAhead gw app port in0 in1 out0 handed1
handed_all gw at app port count in0 in1 out0 out1 handed1 s h handed =
    record { read = h.read; is_read = h.is_read; ahead = all_ahead gw app port (take MOST_CONNECTION h.read) out0 handed1 (handed ∙ h.served.sent) }

-- ---- a turn

-- a read that failed took nothing
pub read_failed : {T : Type 0} (gw : Gateway) (at : Standing T) (app : App) (port count : ℕ) (in0 in1 in2 out0 out1 : Option (List ℕ)) (s : T) → Goes gw at app port count in0 in1 out0 out1 s
    → count ≤ MOST_CONNECTION → in2 ≡ in1 → Exchanged ReadFault gw app port in0 in2 out0 out1
read_failed gw at app port count in0 in1 in2 out0 out1 s h few e =
    let short : length h.read ≤ MOST_CONNECTION = omega (arith, h.is_long) in
    let P : List ℕ → Type 0 = λ z. IsServed gw app port z out0 out1 in
    record {
      read = h.read;
      is_read = h.is_read ∙ ap (prepended h.read) (sym e);
      within = omega (arith, short);
      sent = (short, subst P (take_all MOST_CONNECTION h.read short) h.served);
      ahead = all_ahead gw app port (take MOST_CONNECTION h.read) out0 out1 h.served.sent;
    }

-- at the end of the input all is out
pub input_ended : {T : Type 0} (gw : Gateway) (at : Standing T) (app : App) (port count came : ℕ) (buf : List ℕ) (in0 in1 in2 out0 out1 out2 : Option (List ℕ)) (s : T) (end : ConnectionEnd)
    → Goes gw at app port count in0 in1 out0 out1 s → count ≤ MOST_CONNECTION → came ≡ 0 → in1 ≡ prepended (take came buf) in2 → IfSome in1 (λ left. left ≡ [])
    → out2 ≡ out1 → (end ≡ Closed) ⊎ (end ≡ WriteFault) → Exchanged end gw app port in0 in2 out0 out2
input_ended gw at app port count came buf in0 in1 in2 out0 out1 out2 s end h few none e last same kind =
    record {
      read = h.read;
      is_read = h.is_read ∙ ap (prepended h.read) unchanged;
      within = omega (arith, h.is_long);
      sent = by kind;
      ahead = all_ahead gw app port (take MOST_CONNECTION h.read) out0 out2 sent;
    }
  where
    unchanged : in1 ≡ in2
    unchanged = e ∙ ap (λ n. prepended (take n buf) in2) none ∙ prepended-nothing in2

    Q : Option (List ℕ) → Type 0
    Q o = IfSome o (λ (left : List ℕ). left ≡ [])

    P : ConnectionEnd → Type 0
    P w = SentFor w gw app port h.read in2 out0 out2

    sent : out2 ≡ appended out0 (said gw app port (take MOST_CONNECTION h.read))
    sent = same ∙ h.served.sent

    by : (end ≡ Closed) ⊎ (end ≡ WriteFault) → SentFor end gw app port h.read in2 out0 out2
    by (inl c) = subst P (sym c) (record {
      ended = true;
      sent = sent;
      closes = or_true (gw app port (take MOST_CONNECTION h.read)).closes;
      end = λ _. subst Q unchanged last;
      within = λ _. omega (arith, h.is_long);
    })
    by (inr w) = subst P (sym w) (AppendsPrefix-all out0 out2 (said gw app port (take MOST_CONNECTION h.read)) sent)

-- the piece was not answered whole
pub piece_cut : {T : Type 0} (gw : Gateway) (at : Standing T) (app : App) (port count came : ℕ) (buf piece : List ℕ) (in0 in1 in2 out0 out1 out2 : Option (List ℕ)) (s : T) (end : ConnectionEnd)
    → (h : Goes gw at app port count in0 in1 out0 out1 s) → came ≤ length buf → in1 ≡ prepended (take came buf) in2 → count + came ≤ MOST_CONNECTION + 1
    → take MOST_CONNECTION (h.read ++ take came buf) ≡ take MOST_CONNECTION h.read ++ piece → length piece ≤ MOST_PIECE → Extends out1 out2 → Breaks end gw at app piece s out1 out2 → Exchanged end gw app port in0 in2 out0 out2
piece_cut gw at app port count came buf piece in0 in1 in2 out0 out1 out2 s end h long e fits more small on broke =
    record {
      read = h.read ++ take came buf;
      is_read = read_on h.read (take came buf) in0 in1 in2 h.is_read e;
      within = omega (arith, length-append h.read (take came buf), length-take-le came buf long, h.is_long, fits);
      sent = by end broke;
      ahead = piece_ahead gw app port (take MOST_CONNECTION (h.read ++ take came buf)) (take MOST_CONNECTION h.read) piece out0 out1 out2 more small h.served.sent on;
    }
  where
    P : List ℕ → Type 0
    P z = AppendsPrefix out0 out2 (said gw app port z)

    by : (w : ConnectionEnd) → Breaks w gw at app piece s out1 out2 → SentFor w gw app port (h.read ++ take came buf) in2 out0 out2
    by Closed b = absurd b
    by TooLong b = absurd b
    by ReadFault b = absurd b
    by WriteFault b = subst P (sym more) (b port (take MOST_CONNECTION h.read) out0 h.at_rest h.served.sent)
    by Memory b = subst P (sym more) (b port (take MOST_CONNECTION h.read) out0 h.at_rest h.served.sent)

-- the piece was answered, and the session goes on
pub piece_answered : {T : Type 0} (gw : Gateway) (at : Standing T) (app : App) (port count came : ℕ) (buf piece : List ℕ) (in0 in1 in2 out0 out1 out2 : Option (List ℕ)) (s t : T)
    → (h : Goes gw at app port count in0 in1 out0 out1 s) → came ≤ length buf → in1 ≡ prepended (take came buf) in2
    → take MOST_CONNECTION (h.read ++ take came buf) ≡ take MOST_CONNECTION h.read ++ piece → IsAtRest gw at app port (take MOST_CONNECTION h.read ++ piece) t
    → out2 ≡ appended out0 (said gw app port (take MOST_CONNECTION h.read ++ piece)) → (said_by gw app port (take MOST_CONNECTION h.read ++ piece) false).closes ≡ false
    → Goes gw at app port (count + came) in0 in2 out0 out2 t
piece_answered gw at app port count came buf piece in0 in1 in2 out0 out1 out2 s t h long e more rest sent serves =
    let R : List ℕ → Type 0 = λ z. IsAtRest gw at app port z t in
    let P : List ℕ → Type 0 = λ z. IsServed gw app port z out0 out2 in
    record {
      read = h.read ++ take came buf;
      is_read = read_on h.read (take came buf) in0 in1 in2 h.is_read e;
      is_long = omega (arith, length-append h.read (take came buf), length-take-le came buf long, h.is_long);
      at_rest = subst R (sym more) rest;
      served = subst P (sym more) (record { sent = sent; serves = serves });
    }

-- the piece was answered, and the session closes
pub piece_last : {T : Type 0} (gw : Gateway) (at : Standing T) (app : App) (port count came : ℕ) (buf piece : List ℕ) (in0 in1 in2 out0 out1 out2 : Option (List ℕ)) (s : T)
    → (h : Goes gw at app port count in0 in1 out0 out1 s) → came ≤ length buf → in1 ≡ prepended (take came buf) in2 → count + came ≤ MOST_CONNECTION + 1
    → take MOST_CONNECTION (h.read ++ take came buf) ≡ take MOST_CONNECTION h.read ++ piece → length piece ≤ MOST_PIECE → Extends out1 out2
    → out2 ≡ appended out0 (said gw app port (take MOST_CONNECTION h.read ++ piece)) → (said_by gw app port (take MOST_CONNECTION h.read ++ piece) false).closes ≡ true
    → Exchanged Closed gw app port in0 in2 out0 out2
piece_last gw at app port count came buf piece in0 in1 in2 out0 out1 out2 s h long e fits more small on sent closes =
    let P : List ℕ → Type 0 = λ z. out2 ≡ appended out0 (said gw app port z) in
    let Q : List ℕ → Type 0 = λ z. (said_by gw app port z false).closes ≡ true in
    record {
      read = h.read ++ take came buf;
      is_read = read_on h.read (take came buf) in0 in1 in2 h.is_read e;
      within = omega (arith, length-append h.read (take came buf), length-take-le came buf long, h.is_long, fits);
      sent = record {
        ended = false;
        sent = subst P (sym more) sent;
        closes = subst Q (sym more) closes;
        end = λ t. absurd (cc);
        within = λ t. absurd (cc);
      };
      ahead = piece_ahead gw app port (take MOST_CONNECTION (h.read ++ take came buf)) (take MOST_CONNECTION h.read) piece out0 out1 out2 more small h.served.sent on;
    }

-- ---- the whole

-- the rest of the bytes that were left
record Rest (left read : List ℕ) (in1 : Option (List ℕ)) : Type 0 where
  rest : List ℕ
  is : in1 ≡ Some rest
  all : left ≡ read ++ rest

rest_of : (left read : List ℕ) (in0 in1 : Option (List ℕ)) → in0 ≡ Some left → in0 ≡ prepended read in1 → Rest left read in1
unfolding prepended
rest_of left read in0 None told e = absurd (cc)
rest_of left read in0 (Some rest) told e =
    record { rest = rest; is = refl; all = ap (λ (o : Option (List ℕ)). unwrap_or o left) (sym told ∙ e) }

-- what is looked at of all that was left begins with what is looked at of what was read
looked_at : (left read : List ℕ) (in1 : Option (List ℕ)) (r : Rest left read in1) → take MOST_CONNECTION left ≡ take MOST_CONNECTION read ++ take (MOST_CONNECTION - length read) r.rest
looked_at left read in1 r = ap (take MOST_CONNECTION) r.all ∙ take-two MOST_CONNECTION read r.rest

prefix_of_all : (gw : Gateway) (app : App) (port : ℕ) → ((bytes more : List ℕ) → IsBefore (gw app port bytes) (gw app port (bytes ++ more))) → (fed more all : List ℕ) (out0 out1 : Option (List ℕ)) → all ≡ fed ++ more → AppendsPrefix out0 out1 (said gw app port fed)
    → AppendsPrefix out0 out1 (said gw app port all)
prefix_of_all gw app port before fed more all out0 out1 e p =
    let b = before fed more in
    let P : List ℕ → Type 0 = λ z. AppendsPrefix out0 out1 z in
    subst P (sym b.longer ∙ ap (λ z. said gw app port z) (sym e)) (AppendsPrefix-longer out0 out1 (said gw app port fed) b.tail p)

-- a session that closed says no more
closed_all : (gw : Gateway) (app : App) (port : ℕ) → ((bytes more : List ℕ) → IsBefore (gw app port bytes) (gw app port (bytes ++ more))) → (fed more all : List ℕ) → all ≡ fed ++ more → (gw app port fed).closes ≡ true → gw app port all ≡ gw app port fed
closed_all gw app port before fed more all e c = ap (gw app port) e ∙ (before fed more).done c

or_false : (b : Bool) → b || false ≡ b
or_false true = refl
or_false false = refl

true_or : (a b : Bool) → a ≡ true → a || b ≡ true
true_or true b e = refl
true_or false b e = absurd (cc)

le_true : (n m : ℕ) → n ≤ m → nat_le n m ≡ true
le_true n m h = grind arith

le_false : (n m : ℕ) → m < n → nat_le n m ≡ false
le_false n m h = grind arith

no_rest : (rest : List ℕ) (in1 : Option (List ℕ)) → in1 ≡ Some rest → IfSome in1 (λ left. left ≡ []) → rest ≡ []
no_rest rest in1 e h = let P : Option (List ℕ) → Type 0 = λ o. IfSome o (λ left. left ≡ []) in subst P e h

closed_whole : (gw : Gateway) (app : App) (port : ℕ) → ((bytes more : List ℕ) → IsBefore (gw app port bytes) (gw app port (bytes ++ more))) → (left read : List ℕ) (in1 out0 out1 : Option (List ℕ)) (r : Rest left read in1) (ended : Bool)
    → out1 ≡ appended out0 (said gw app port (take MOST_CONNECTION read)) → (said_by gw app port (take MOST_CONNECTION read) ended).closes ≡ true
    → (ended ≡ true → IfSome in1 (λ left. left ≡ [])) → (ended ≡ true → length read ≤ MOST_CONNECTION) → IsWhole Closed (whole_session gw app port left) out0 out1
closed_whole gw app port before left read in1 out0 out1 r true sent closes end within =
    let same : left ≡ read = r.all ∙ ap (λ (z : List ℕ). read ++ z) (no_rest r.rest in1 r.is (end refl)) ∙ append-nil read in
    let few : length left ≤ MOST_CONNECTION = omega (arith, ap (λ (z : List ℕ). length z) same, within refl) in
    let x = (gw app port (take MOST_CONNECTION left)).closes in
    (sent ∙ ap (λ z. appended out0 (said gw app port (take MOST_CONNECTION z))) (sym same), ap (λ b. x || b) (le_true (length left) MOST_CONNECTION few) ∙ or_true x)
closed_whole gw app port before left read in1 out0 out1 r false sent closes end within =
    let done : (gw app port (take MOST_CONNECTION read)).closes ≡ true = sym (or_false _) ∙ closes in
    let all = closed_all gw app port before (take MOST_CONNECTION read) (take (MOST_CONNECTION - length read) r.rest) (take MOST_CONNECTION left) (looked_at left read in1 r) done in
    (sent ∙ ap (λ (s : Sent). appended out0 s.bytes) (sym all), true_or _ _ (ap (λ (s : Sent). s.closes) all ∙ done))

long_whole : (gw : Gateway) (app : App) (port : ℕ) (left read : List ℕ) (in1 out0 out1 : Option (List ℕ)) → Rest left read in1 → length read ≡ MOST_CONNECTION + 1
    → IsServed gw app port (take MOST_CONNECTION read) out0 out1 → IsWhole TooLong (whole_session gw app port left) out0 out1
long_whole gw app port left read in1 out0 out1 r long s =
    let same : take MOST_CONNECTION left ≡ take MOST_CONNECTION read = ap (take MOST_CONNECTION) r.all ∙ take-append-le MOST_CONNECTION read r.rest (omega (arith, long)) in
    let more : length left ≡ length read + length r.rest = ap (λ (z : List ℕ). length z) r.all ∙ length-append read r.rest in
    let many : MOST_CONNECTION < length left = omega (arith, more, long) in
    let x = (gw app port (take MOST_CONNECTION left)).closes in (
      s.sent ∙ ap (λ z. appended out0 (said gw app port z)) (sym same),
      ap (λ b. x || b) (le_false (length left) MOST_CONNECTION many) ∙ ap (λ z. (said_by gw app port z false).closes) same ∙ s.serves,
    )

-- by all the bytes that were left
pub whole_of : (end : ConnectionEnd) (gw : Gateway) (app : App) (port : ℕ) → ((bytes more : List ℕ) → IsBefore (gw app port bytes) (gw app port (bytes ++ more))) → (left : List ℕ) (in0 in1 out0 out1 : Option (List ℕ)) → in0 ≡ Some left
    → Exchanged end gw app port in0 in1 out0 out1 → IsWhole end (whole_session gw app port left) out0 out1
whole_of end gw app port before left in0 in1 out0 out1 told x = by end x.sent
  where
    r : Rest left x.read in1
    r = rest_of left x.read in0 in1 told x.is_read

    cut : AppendsPrefix out0 out1 (said gw app port (take MOST_CONNECTION x.read)) → AppendsPrefix out0 out1 (said gw app port (take MOST_CONNECTION left))
    cut p = prefix_of_all gw app port before (take MOST_CONNECTION x.read) (take (MOST_CONNECTION - length x.read) r.rest) (take MOST_CONNECTION left) out0 out1 (looked_at left x.read in1 r) p

    P : List ℕ → Type 0
    P z = AppendsPrefix out0 out1 (said gw app port z)

    by : (w : ConnectionEnd) → SentFor w gw app port x.read in1 out0 out1 → IsWhole w (whole_session gw app port left) out0 out1
    by Closed s = closed_whole gw app port before left x.read in1 out0 out1 r s.ended s.sent s.closes s.end s.within
    by TooLong s = long_whole gw app port left x.read in1 out0 out1 r s.0 s.1
    by ReadFault s = cut (subst P (sym (take_all MOST_CONNECTION x.read s.0)) (AppendsPrefix-all out0 out1 (said gw app port x.read) s.1.sent))
    by WriteFault s = cut s
    by Memory s = cut s

-- ---- the first turn and the last

-- nothing is sent for no bytes
pub begins : {T : Type 0} (gw : Gateway) (at : Standing T) (app : App) (port : ℕ) (s : T) (in0 out0 : Option (List ℕ)) → gw app port [] ≡ nothing_sent → at app port [] false [] s
    → Goes gw at app port 0 in0 in0 out0 out0 s
begins gw at app port s in0 out0 e h =
    let x = gw app port [] in
    let none : x.bytes ≡ [] = ap (λ (t : Sent). t.bytes) e in
    let P : List ℕ → Type 0 = λ z. at app port [] false z s in
    record {
      read = [];
      is_read = sym (prepended-nothing in0);
      is_long = refl;
      at_rest = subst P (sym none) h;
      served = record { sent = sym (appended-nothing out0) ∙ ap (appended out0) (sym none); serves = or_false x.closes ∙ ap (λ (t : Sent). t.closes) e };
    }

-- one byte more than those that are looked at was read
pub too_long : {T : Type 0} (gw : Gateway) (at : Standing T) (app : App) (port count : ℕ) (in0 in1 out0 out1 : Option (List ℕ)) (s : T) → Goes gw at app port count in0 in1 out0 out1 s
    → MOST_CONNECTION < count → count ≤ MOST_CONNECTION + 1 → Exchanged TooLong gw app port in0 in1 out0 out1
too_long gw at app port count in0 in1 out0 out1 s h many few =
    record { read = h.read; is_read = h.is_read; within = omega (arith, h.is_long, few); sent = (omega (arith, h.is_long, many, few), h.served); ahead = all_ahead gw app port (take MOST_CONNECTION h.read) out0 out1 h.served.sent }

-- ---- what was handed on

-- an input that ended leaves nothing kept back, unless the write failed
pub was_closed : (end : ConnectionEnd) → (end ≡ Closed) ⊎ (end ≡ WriteFault) → Turn.Ended end ≢ Turn.Ended WriteFault → end ≡ Closed
was_closed end (inl e) w = e
was_closed end (inr e) w = absurd (w (ap Turn.Ended e))

-- a piece is cut by a write that failed or by want of memory alone
pub cut_only : {T : Type 0} (end : ConnectionEnd) (gw : Gateway) (at : Standing T) (app : App) (piece : List ℕ) (s : T) (old new : Option (List ℕ)) (P : Type 0) → Breaks end gw at app piece s old new
    → Turn.Ended end ≢ Turn.Ended WriteFault → Turn.Ended end ≢ Turn.Ended Memory → P
cut_only Closed gw at app piece s old new P b w m = absurd b
cut_only TooLong gw at app piece s old new P b w m = absurd b
cut_only ReadFault gw at app piece s old new P b w m = absurd b
cut_only WriteFault gw at app piece s old new P b w m = absurd (w refl)
cut_only Memory gw at app piece s old new P b w m = absurd (m refl)

pub same_end : (a b : ConnectionEnd) → Turn.Ended a ≡ Turn.Ended b → a ≡ b
same_end a b e = cc e
