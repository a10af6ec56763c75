-- The account of streams and of what was given stays true.
use Rattle.std.proofs.Common.{◌≡◌, ◌≢◌, ◌⊎◌, inl, inr, ℕ, ◌+◌, ◌<◌, ◌≤◌, ◌==◌, ◌&&◌, Bool, true, false, if◌then◌else◌, List, [], ◌∷◌, ◌++◌, length, Option, Some, None, slice_index_or, slice_set, refl, sym, ap, ◌∙◌, subst, arith}
use Rattle.std.specs.List.{list_all}
use Rattle.std.proofs.lemmas.Bool.{cases_eq, cases_lt, false≢true}
use Rattle.std.proofs.lemmas.Bool.Decides.{nat_tests}
use Rattle.std.proofs.lemmas.List.{length-append, length-set, get_or-set_same, get_or-set_other, get_or-append-add, get_or_append_left}
use Rattle.scgi_core.specs.Laws.{is_plain}
use Rattle.stream_net.specs.Net.{Connection, connection_at, absent_connection}
use Rattle.stream_dial.specs.Dials.{DialMeaning, HasOpenedNone}
use Rattle.wsgi_relay.specs.Accounts.{asker_in, given_in, nobody}
use Rattle.wsgi_relay.specs.Relaying.{Asked, Asker, Given, Givings, HasStream, IsAnswered, IsSent, asked_by}
use Rattle.wsgi_relay.specs.Tied.{HasOneMore, IsKept}

-- ---- lists that are longer by one

module _ {A : Type 0} (xs : List A) (x d : A) where
  pub push_long : length (xs ++ x ∷ []) ≡ length xs + 1
  push_long = length-append xs (x ∷ [])

  pub push_last : slice_index_or (xs ++ x ∷ []) (length xs) d ≡ x
  push_last = ap (λ (n : ℕ). slice_index_or (xs ++ x ∷ []) n d) (omega arith) ∙ get_or-append-add xs (x ∷ []) 0 d

  pub push_before : (i : ℕ) → i < length xs → slice_index_or (xs ++ x ∷ []) i d ≡ slice_index_or xs i d
  push_before i within = get_or_append_left xs (x ∷ []) d i within

-- ---- the account

module _ (patience : ℕ) (v w : DialMeaning) (asked : List Asked) (given : Givings) (h : IsKept patience v asked given) where
  -- a reply is still what was read on its stream, if that one stays as it is
  still_answered : (asker : Asker) (conn number : ℕ) (g : Given) (s : HasStream (asker_in asked) v patience conn number g) → asker s.stream ≡ asker_in asked s.stream → s.stream < length w.streams
      → connection_at w.streams s.stream ≡ connection_at v.streams s.stream → slice_index_or w.opened s.stream 0 ≡ slice_index_or v.opened s.stream 0 → HasStream asker w patience conn number g
  still_answered asker conn number g s same within at opened = record {
    stream = s.stream;
    opened = within;
    asked = same ∙ s.asked;
    answered = subst (λ (c : Connection). IsAnswered (asked_by conn number g) g.reply (slice_index_or w.opened s.stream 0) patience c) (sym at)
        (subst (λ (o : ℕ). IsAnswered (asked_by conn number g) g.reply o patience (connection_at v.streams s.stream)) (sym opened) s.answered);
  }

  -- where no stream changed
  pub kept_same : w.streams ≡ v.streams → w.opened ≡ v.opened → IsKept patience w asked given
  kept_same streams opened = record {
    count = h.count ∙ ap (λ (cs : List Connection). length cs) (sym streams);
    timed = ap (λ (os : List ℕ). length os) opened ∙ h.timed ∙ ap (λ (cs : List Connection). length cs) (sym streams);
    sent = λ e within. subst (λ (c : Connection). IsSent (asker_in asked e) c) (ap (λ (cs : List Connection). connection_at cs e) (sym streams)) (h.sent e (subst (λ (cs : List Connection). e < length cs) streams within));
    replies = λ conn number g is.
        let s = h.replies conn number g is in
        still_answered (asker_in asked) conn number g s refl (subst (λ (cs : List Connection). s.stream < length cs) (sym streams) s.opened) (ap (λ (cs : List Connection). connection_at cs s.stream) streams)
        (ap (λ (os : List ℕ). slice_index_or os s.stream 0) opened);
  }

  -- where one that was open did
  pub kept_changed : (n : ℕ) (c : Connection) → w.streams ≡ slice_set v.streams n c → w.opened ≡ v.opened → n < length v.streams → (connection_at v.streams n).closed ≡ false → IsSent (asker_in asked n) c → IsKept patience w asked given
  kept_changed n c streams opened within still sends = record {
    count = h.count ∙ sym long;
    timed = ap (λ (os : List ℕ). length os) opened ∙ h.timed ∙ sym long;
    sent = λ e in'. sent_by e (subst (λ (m : ℕ). e < m) long in') (cases_eq e n);
    replies = λ conn number g is.
        let s = h.replies conn number g is in
        still_answered (asker_in asked) conn number g s refl (subst (λ (m : ℕ). s.stream < m) (sym long) s.opened) (other s.stream (apart s.stream s.answered.closed))
        (ap (λ (os : List ℕ). slice_index_or os s.stream 0) opened);
  }
    where
      long : length w.streams ≡ length v.streams
      long = ap (λ (cs : List Connection). length cs) streams ∙ length-set v.streams n c

      other : (e : ℕ) → e ≢ n → connection_at w.streams e ≡ connection_at v.streams e
      other e is_not = ap (λ (cs : List Connection). connection_at cs e) streams ∙ get_or-set_other v.streams n e c absent_connection is_not

      here : connection_at w.streams n ≡ c
      here = ap (λ (cs : List Connection). connection_at cs n) streams ∙ get_or-set_same v.streams n c absent_connection within

      apart : (e : ℕ) → (connection_at v.streams e).closed ≡ true → e ≢ n
      apart e closed is = false≢true (sym still ∙ ap (λ (k : ℕ). (connection_at v.streams k).closed) (sym is) ∙ closed)

      sent_by : (e : ℕ) → e < length v.streams → (e ≡ n) ⊎ (e ≢ n) → IsSent (asker_in asked e) (connection_at w.streams e)
      sent_by e in' (inl is) = subst (λ (k : ℕ). IsSent (asker_in asked k) (connection_at w.streams k)) (sym is) (subst (λ (s : Connection). IsSent (asker_in asked n) s) (sym here) sends)
      sent_by e in' (inr is_not) = subst (λ (s : Connection). IsSent (asker_in asked e) s) (sym (other e is_not)) (h.sent e in')

  -- where one more was opened
  pub kept_more : (slot : ℕ) (a : Asked) → HasOneMore v w slot → IsSent a (connection_at w.streams (length v.streams)) → IsKept patience w (asked ++ a ∷ []) given
  kept_more slot a more sends = record {
    count = let n = push_long asked a a in let m = more.count in let k = h.count in omega (arith, n, m, k);
    timed = let n = more.timed in let m = more.count in let k = h.timed in omega (arith, n, m, k);
    sent = λ e in'. sent_by e (cases_lt e (length v.streams)) in';
    replies = λ conn number g is.
        let s = h.replies conn number g is in
        let m = more.count in
        let within = s.opened in
        still_answered (asker_in (asked ++ a ∷ [])) conn number g s (asker_before s.stream s.opened) (omega (arith, m, within)) (more.streams s.stream s.opened) (more.opened s.stream (subst (λ (k : ℕ). s.stream < k) (sym h.timed) s.opened));
  }
    where
      asker_before : (e : ℕ) → e < length v.streams → asker_in (asked ++ a ∷ []) e ≡ asker_in asked e
      asker_before e in' = push_before asked a nobody e (subst (λ (k : ℕ). e < k) (sym h.count) in')

      sent_last : (e : ℕ) → e ≡ length v.streams → IsSent (asker_in (asked ++ a ∷ []) e) (connection_at w.streams e)
      sent_last e is =
          subst (λ (k : ℕ). IsSent (asker_in (asked ++ a ∷ []) k) (connection_at w.streams k)) (sym is)
          (subst (λ (b : Asked). IsSent b (connection_at w.streams (length v.streams))) (sym (ap (λ (k : ℕ). asker_in (asked ++ a ∷ []) k) (sym h.count) ∙ push_last asked a nobody)) sends)

      sent_by : (e : ℕ) → (e < length v.streams) ⊎ (length v.streams ≤ e) → e < length w.streams → IsSent (asker_in (asked ++ a ∷ []) e) (connection_at w.streams e)
      sent_by e (inl in') last =
          subst (λ (s : Connection). IsSent (asker_in (asked ++ a ∷ []) e) s) (sym (more.streams e in')) (subst (λ (b : Asked). IsSent b (connection_at v.streams e)) (sym (asker_before e in')) (h.sent e in'))
      sent_by e (inr past) last = sent_last e (let m = more.count in omega (arith, m, past, last))

-- ---- a reply more

both_true : (a b : Bool) → (a && b) ≡ true → (a ≡ true) × (b ≡ true)
both_true true b e = (refl, e)
both_true false b e = absurd (false≢true e)

-- the first of those that are given is the new one, or an old one is
pub given_cases : (entry : (ℕ × ℕ) × Given) (list : List ((ℕ × ℕ) × Given)) (conn number : ℕ) (g : Given) → given_in (entry ∷ list) conn number ≡ Some g
    → ((entry.0.0 ≡ conn) × (entry.0.1 ≡ number) × (entry.1 ≡ g)) ⊎ (given_in list conn number ≡ Some g)
given_cases entry list conn number g is = by (entry.0.0 == conn && entry.0.1 == number) refl is
  where
    by : (b : Bool) → (entry.0.0 == conn && entry.0.1 == number) ≡ b → (if b then Some entry.1 else given_in list conn number) ≡ Some g → ((entry.0.0 ≡ conn) × (entry.0.1 ≡ number) × (entry.1 ≡ g)) ⊎ (given_in list conn number ≡ Some g)
    by true test e =
        let both = both_true (entry.0.0 == conn) (entry.0.1 == number) test in
        let first = both.0 in
        let second = both.1 in
        inl (grind (arith, nat_tests, first), grind (arith, nat_tests, second), cc)
    by false test e = inr e

-- an old one stays, but where the new one was given to the same request
pub given_stays : (entry : (ℕ × ℕ) × Given) (list : List ((ℕ × ℕ) × Given)) (conn number : ℕ) (g : Given) → given_in list conn number ≡ Some g → (entry.0.0 ≡ conn → entry.0.1 ≡ number → ⊥) → given_in (entry ∷ list) conn number ≡ Some g
given_stays entry list conn number g is apart = by (entry.0.0 == conn && entry.0.1 == number) refl
  where
    by : (b : Bool) → (entry.0.0 == conn && entry.0.1 == number) ≡ b → (if b then Some entry.1 else given_in list conn number) ≡ Some g
    by true test =
        let both = both_true (entry.0.0 == conn) (entry.0.1 == number) test in
        let first = both.0 in
        let second = both.1 in
        absurd (apart (grind (arith, nat_tests, first)) (grind (arith, nat_tests, second)))
    by false test = is

-- the new one is there
pub given_here : (conn number : ℕ) (g : Given) (list : List ((ℕ × ℕ) × Given)) → given_in (((conn, number), g) ∷ list) conn number ≡ Some g
given_here conn number g list =
    let first : (conn == conn) ≡ true = grind (arith, nat_tests) in
    let second : (number == number) ≡ true = grind (arith, nat_tests) in
    ap (λ (b : Bool). if b && number == number then Some g else given_in list conn number) first ∙ ap (λ (b : Bool). if b then Some g else given_in list conn number) second

-- the account with a reply more, which was read on a stream of its request
pub kept_given : (patience : ℕ) (m : DialMeaning) (asked : List Asked) (list : List ((ℕ × ℕ) × Given)) (conn number : ℕ) (g : Given) → IsKept patience m asked (given_in list) → HasStream (asker_in asked) m patience conn number g
    → IsKept patience m asked (given_in (((conn, number), g) ∷ list))
kept_given patience m asked list conn number g h new = record {
  count = h.count;
  timed = h.timed;
  sent = h.sent;
  replies = λ k i other is. by k i other (given_cases ((conn, number), g) list k i other is);
}
  where
    by : (k i : ℕ) (other : Given) → ((conn ≡ k) × (number ≡ i) × (g ≡ other)) ⊎ (given_in list k i ≡ Some other) → HasStream (asker_in asked) m patience k i other
    by k i other (inl e) =
        subst (λ (x : Given). HasStream (asker_in asked) m patience k i x) e.2 (subst (λ (n : ℕ). HasStream (asker_in asked) m patience k n g) e.1 (subst (λ (n : ℕ). HasStream (asker_in asked) m patience n number g) e.0 new))
    by k i other (inr is) = h.replies k i other is

-- no stream was opened yet
pub kept_none : (patience : ℕ) (m : DialMeaning) (asked : List Asked) (list : List ((ℕ × ℕ) × Given)) → HasOpenedNone m → asked ≡ [] → list ≡ [] → IsKept patience m asked (given_in list)
kept_none patience m asked list none none_asked none_given = record {
  count = ap (λ (l : List Asked). length l) none_asked ∙ sym empty;
  timed = ap (λ (l : List ℕ). length l) none.none_at ∙ sym empty;
  sent = λ e within. absurd (let long = empty in omega (arith, long, within));
  replies = λ conn number g is. absurd (nothing conn number g (subst (λ (l : List ((ℕ × ℕ) × Given)). given_in l conn number ≡ Some g) none_given is));
}
  where
    empty : length m.streams ≡ 0
    empty = ap (λ (l : List Connection). length l) none.none

    nothing : (conn number : ℕ) (g : Given) → ◌≡◌ {A = Option Given} None (Some g) → ⊥
    nothing conn number g e = absurd (cc)
