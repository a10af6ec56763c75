-- One exchange, step by step.
use Rattle.std.proofs.Common.{◌≡◌, inl, inr, ℕ, zero, suc, ◌+◌, ◌-◌, ◌^◌, ◌<◌, ◌≤◌, Bool, true, false, List, [], ◌∷◌, ◌++◌, length, take, drop, Option, Some, None, IfSome, refl, sym, ap, ◌∙◌, subst, arith, length-append, is_some, if◌then◌else◌}
use Rattle.std.proofs.Math.Seq.{take-add}
use Rattle.gv_values.specs.Counts.{HasRisen}
use Rattle.gv_io.specs.Streams.{appended}
use Rattle.stream_net.specs.declared.net.ReadEnd.{ReadEnd}
use Rattle.stream_net.specs.declared.net.ReadEnd.TheVariants as R
use Rattle.stream_net.specs.declared.net.WriteEnd.TheVariants as W
use Rattle.stream_net.specs.declared.net.Quiet.TheVariants.{ByRead, ByWrite}
use Rattle.stream_net.specs.Net.{Connection}
use Rattle.stream_net.specs.Reads.{after_read}
use Rattle.stream_net.specs.Writes.{after_write}
use Rattle.stream_dial.specs.Dials.{DialMeaning, IsOpen, ReadsIn, WritesIn}
use Rattle.relay_core.specs.Replies.{IsReading, relayed}
use Rattle.relay_core.specs.declared.limits.TheConstants.{MOST_REPLY_BODY, MOST_REPLY_HEAD}
use Rattle.wsgi_core.specs.declared.reply.Reply.{Reply}
use Rattle.relay_core.specs.declared.reader.Far.{Far}
use Rattle.relay_core.specs.declared.reader.Far.TheVariants.{GoesOn, Ended, Broken, Late}
use Rattle.relay_core.specs.declared.reader.ReplyReader.{ReplyReader}
use Rattle.relay_core.proofs.ReplyLaws.{over-decided, undecided-small}
use Rattle.wsgi_relay.specs.declared.exchange.Exchange.{Exchange}
use Rattle.wsgi_relay.specs.Exchanging.{HasFed, HasShown, IsDecided, IsExchanging, IsHeard, IsNoted, IsSameExchange, IsSent, OfSlot}
use Rattle.wsgi_relay.proofs.Streaming.{of_read, of_written}

-- ---- what is left

pub drop_both : (n : ℕ) (xs ys : List ℕ) → drop n (xs ++ ys) ≡ drop n xs ++ drop (n - length xs) ys
drop_both zero [] ys = refl
drop_both (suc n) [] ys = let all : suc n - 0 ≡ suc n = omega arith in ap (λ (k : ℕ). drop k ys) (sym all)
drop_both zero (x ∷ xs) ys = let none : 0 - suc (length xs) ≡ 0 = omega arith in ap (λ (k : ℕ). x ∷ (xs ++ drop k ys)) (sym none)
drop_both (suc n) (x ∷ xs) ys =
    let less : suc n - suc (length xs) ≡ n - length xs = omega arith in drop_both n xs ys ∙ ap (λ (k : ℕ). drop n xs ++ drop k ys) (sym less)

-- ---- writes

-- told bytes with a piece after them
told_more : (o : Option (List ℕ)) (all piece more : List ℕ) → all ++ piece ≡ more → IfSome o (λ l. l ≡ all) → IfSome (appended o piece) (λ l. l ≡ more)
unfolding appended
told_more None all piece more is e = e
told_more (Some l) all piece more is e = ap (λ (z : List ℕ). z ++ piece) e ∙ is

risen_some : (old new : ℕ) → HasRisen old new → 0 < new
risen_some old new (inl less) = omega arith
risen_some old new (inr last) = omega arith

-- so much was sent of the same message
sent_same : (s : Connection) (x y : Exchange) (body : List ℕ) → y.head ≡ x.head → y.sent ≡ x.sent → IsSent s x body → IsSent s y body
sent_same s x y body same_head same_sent i = record {
  short = subst (λ (h : List ℕ). length h + length body < 2 ^ 64) (sym same_head) i.short;
  within = subst (λ (h : List ℕ). y.sent ≤ length h + length body) (sym same_head) (subst (λ (n : ℕ). n ≤ length x.head + length body) (sym same_sent) i.within);
  written = subst (λ (h : List ℕ). IfSome s.written (λ out. out ≡ take y.sent (h ++ body))) (sym same_head)
      (subst (λ (n : ℕ). IfSome s.written (λ out. out ≡ take n (x.head ++ body))) (sym same_sent) i.written);
}

module _ (s : Connection) (x : Exchange) where
  -- as many faults as before are noted
  same_noted : (faults : ℕ) → faults ≡ s.faults → IsHeard s x → IsNoted x.failed faults
  same_noted faults e i = subst (λ (n : ℕ). IsNoted x.failed n) (sym e) i.noted

  module _ (body : List ℕ) (i : IsExchanging s x body) (bytes : List ℕ) (moment faults : ℕ) where
    took_here : (n : ℕ) → bytes ≡ drop x.sent (x.head ++ body) → x.sent + n ≤ length x.head + length body → faults ≡ s.faults
        → IsExchanging (after_write (W.Took n) bytes moment faults s) (record x { sent = x.sent + n }) body
    took_here n left fits e = record {
      sent = record {
        short = i.sent.short;
        within = fits;
        written = told_more s.written (take x.sent (x.head ++ body)) (take n bytes) (take (x.sent + n) (x.head ++ body))
            (ap (λ (l : List ℕ). take x.sent (x.head ++ body) ++ take n l) left ∙ sym (take-add x.sent n (x.head ++ body))) i.sent.written;
      };
      heard = record { fed = i.heard.fed; read = i.heard.read; reading = i.heard.reading; noted = same_noted faults e i.heard };
    }

    write_blocked_here : faults ≡ s.faults → IsExchanging (after_write W.WouldBlock bytes moment faults s) x body
    write_blocked_here e = record {
      sent = record { short = i.sent.short; within = i.sent.within; written = i.sent.written };
      heard = record { fed = i.heard.fed; read = i.heard.read; reading = i.heard.reading; noted = same_noted faults e i.heard };
    }

    write_lacked_here : faults ≡ s.faults → IsExchanging (after_write W.Memory bytes moment faults s) x body
    write_lacked_here e = record {
      sent = record { short = i.sent.short; within = i.sent.within; written = i.sent.written };
      heard = record { fed = i.heard.fed; read = i.heard.read; reading = i.heard.reading; noted = same_noted faults e i.heard };
    }

    write_failed_here : HasRisen s.faults faults → IsExchanging (after_write W.Failed bytes moment faults s) (record x { failed = true }) body
    write_failed_here rises = record {
      sent = record { short = i.sent.short; within = i.sent.within; written = i.sent.written };
      heard = record { fed = i.heard.fed; read = i.heard.read; reading = i.heard.reading; noted = risen_some s.faults faults rises };
    }

  -- ---- reads

  read_sent_here : (body : List ℕ) (end : ReadEnd) (bytes : List ℕ) (moment faults : ℕ) → IsSent s x body → IsSent (after_read end bytes moment faults s) x body
  read_sent_here body (R.Got n) bytes moment faults i = record { short = i.short; within = i.within; written = i.written }
  read_sent_here body R.End bytes moment faults i = record { short = i.short; within = i.within; written = i.written }
  read_sent_here body R.WouldBlock bytes moment faults i = record { short = i.short; within = i.within; written = i.written }
  read_sent_here body R.Failed bytes moment faults i = record { short = i.short; within = i.within; written = i.written }

  module _ (i : IsHeard s x) (bytes : List ℕ) (moment faults : ℕ) where
    -- the reader was fed what came
    got_more_here : (n : ℕ) (r : ReplyReader) → ((fed : List ℕ) → IsReading fed x.reader → IsReading (fed ++ take n bytes) r) → faults ≡ s.faults
        → IsHeard (after_read (R.Got n) bytes moment faults s) (record x { reader = r })
    got_more_here n r feeds e = record {
      fed = i.fed ++ take n bytes;
      read = told_more s.read i.fed (take n bytes) (i.fed ++ take n bytes) refl i.read;
      reading = feeds i.fed i.reading;
      noted = same_noted faults e i;
    }

    read_ended_here : faults ≡ s.faults → IsHeard (after_read R.End bytes moment faults s) x
    read_ended_here e = record { fed = i.fed; read = i.read; reading = i.reading; noted = same_noted faults e i }

    read_blocked_here : faults ≡ s.faults → IsHeard (after_read R.WouldBlock bytes moment faults s) x
    read_blocked_here e = record { fed = i.fed; read = i.read; reading = i.reading; noted = same_noted faults e i }

    read_failed_here : HasRisen s.faults faults → IsHeard (after_read R.Failed bytes moment faults s) (record x { failed = true })
    read_failed_here rises = record { fed = i.fed; read = i.read; reading = i.reading; noted = risen_some s.faults faults rises }

-- ---- over a slot

module _ (v w : DialMeaning) (slot : ℕ) (o : IsOpen v slot) (x : Exchange) where
  module _ (body : List ℕ) (i : OfSlot v slot (λ s. IsExchanging s x body)) (bytes : List ℕ) where
    pub took : (n : ℕ) → WritesIn v w slot (W.Took n) bytes → bytes ≡ drop x.sent (x.head ++ body) → x.sent + n ≤ length x.head + length body
        → OfSlot w slot (λ s. IsExchanging s (record x { sent = x.sent + n }) body)
    took n h left fits =
        of_written v w slot o (W.Took n) bytes h (λ s. IsExchanging s x body) (λ s. IsExchanging s (record x { sent = x.sent + n }) body)
        (λ s faults failed unfailed e. took_here s x body e bytes w.moment faults n left fits (unfailed (λ same. cc))) i

    pub write_blocked : WritesIn v w slot W.WouldBlock bytes → OfSlot w slot (λ s. IsExchanging s x body)
    write_blocked h =
        of_written v w slot o W.WouldBlock bytes h (λ s. IsExchanging s x body) (λ s. IsExchanging s x body)
        (λ s faults failed unfailed e. write_blocked_here s x body e bytes w.moment faults (unfailed (λ same. cc))) i

    pub write_lacked : WritesIn v w slot W.Memory bytes → OfSlot w slot (λ s. IsExchanging s x body)
    write_lacked h =
        of_written v w slot o W.Memory bytes h (λ s. IsExchanging s x body) (λ s. IsExchanging s x body)
        (λ s faults failed unfailed e. write_lacked_here s x body e bytes w.moment faults (unfailed (λ same. cc))) i

    pub write_rests : WritesIn v w slot W.WouldBlock bytes → OfSlot w slot (λ s. s.quiet ≡ ByWrite)
    write_rests h = of_written v w slot o W.WouldBlock bytes h (λ s. IsExchanging s x body) (λ s. s.quiet ≡ ByWrite) (λ s faults failed unfailed e. refl) i

    pub write_failed : WritesIn v w slot W.Failed bytes → OfSlot w slot (λ s. IsExchanging s (record x { failed = true }) body)
    write_failed h =
        of_written v w slot o W.Failed bytes h (λ s. IsExchanging s x body) (λ s. IsExchanging s (record x { failed = true }) body)
        (λ s faults failed unfailed e. write_failed_here s x body e bytes w.moment faults (failed refl)) i

  pub read_sent : (y : Exchange) (end : ReadEnd) (bytes : List ℕ) → ReadsIn v w slot end bytes → y.head ≡ x.head → y.sent ≡ x.sent → (body : List ℕ) → OfSlot v slot (λ s. IsSent s x body)
      → OfSlot w slot (λ s. IsSent s y body)
  read_sent y end bytes h same_head same_sent body i =
      of_read v w slot o end bytes h (λ s. IsSent s x body) (λ s. IsSent s y body)
      (λ s faults failed unfailed e. sent_same (after_read end bytes w.moment faults s) x y body same_head same_sent (read_sent_here s x body end bytes w.moment faults e)) i

  module _ (i : OfSlot v slot (λ s. IsHeard s x)) (bytes : List ℕ) where
    pub got_more : (n : ℕ) (r : ReplyReader) → ReadsIn v w slot (R.Got n) bytes → ((fed : List ℕ) → IsReading fed x.reader → IsReading (fed ++ take n bytes) r)
        → OfSlot w slot (λ s. IsHeard s (record x { reader = r }))
    got_more n r h feeds =
        of_read v w slot o (R.Got n) bytes h (λ s. IsHeard s x) (λ s. IsHeard s (record x { reader = r }))
        (λ s faults failed unfailed e. got_more_here s x e bytes w.moment faults n r feeds (unfailed (λ same. cc))) i

    pub read_ended : ReadsIn v w slot R.End bytes → OfSlot w slot (λ s. IsHeard s x)
    read_ended h =
        of_read v w slot o R.End bytes h (λ s. IsHeard s x) (λ s. IsHeard s x) (λ s faults failed unfailed e. read_ended_here s x e bytes w.moment faults (unfailed (λ same. cc))) i

    pub read_blocked : ReadsIn v w slot R.WouldBlock bytes → OfSlot w slot (λ s. IsHeard s x)
    read_blocked h =
        of_read v w slot o R.WouldBlock bytes h (λ s. IsHeard s x) (λ s. IsHeard s x) (λ s faults failed unfailed e. read_blocked_here s x e bytes w.moment faults (unfailed (λ same. cc))) i

    pub read_rests : ReadsIn v w slot R.WouldBlock bytes → OfSlot w slot (λ s. s.quiet ≡ ByRead)
    read_rests h = of_read v w slot o R.WouldBlock bytes h (λ s. IsHeard s x) (λ s. s.quiet ≡ ByRead) (λ s faults failed unfailed e. refl) i

    pub read_failed : ReadsIn v w slot R.Failed bytes → OfSlot w slot (λ s. IsHeard s (record x { failed = true }))
    read_failed h =
        of_read v w slot o R.Failed bytes h (λ s. IsHeard s x) (λ s. IsHeard s (record x { failed = true })) (λ s faults failed unfailed e. read_failed_here s x e bytes w.moment faults (failed refl)) i

    -- what the stream shows at its end
    pub shown_at_end : ReadsIn v w slot R.End bytes → OfSlot w slot (λ s. HasShown (if x.failed then Broken else Ended) s x)
    shown_at_end h =
        of_read v w slot o R.End bytes h (λ s. IsHeard s x) (λ s. HasShown (if x.failed then Broken else Ended) s x)
        (λ s faults failed unfailed e. shown_by x.failed (after_read R.End bytes w.moment faults s) x refl (same_noted s x faults (unfailed (λ same. cc)) e)) i
      where
        shown_by : (b : Bool) (s : Connection) (y : Exchange) → s.ended ≡ true → IsNoted b s.faults → HasShown (if b then Broken else Ended) s y
        shown_by true s y ended noted = noted
        shown_by false s y ended noted = (ended, noted)

    pub shown_broken : ReadsIn v w slot R.Failed bytes → OfSlot w slot (λ s. HasShown Broken s (record x { failed = true }))
    shown_broken h =
        of_read v w slot o R.Failed bytes h (λ s. IsHeard s x) (λ s. HasShown Broken s (record x { failed = true })) (λ s faults failed unfailed e. risen_some s.faults faults (failed refl)) i

-- ---- the same exchange

pub same_none : (x : Exchange) → IsSameExchange x x
same_none x = record { conn = refl; head = refl; is_head = refl; until = refl }

pub same_twice : (x y z : Exchange) → IsSameExchange x y → IsSameExchange y z → IsSameExchange x z
same_twice x y z h g = record { conn = g.conn ∙ h.conn; head = g.head ∙ h.head; is_head = g.is_head ∙ h.is_head; until = g.until ∙ h.until }

-- ---- what is fed without a decision

pub fed_none : (x : Exchange) (fed : List ℕ) → IsReading fed x.reader → HasFed x 0
fed_none x fed reading = record { fed = fed; reading = reading; many = omega arith; undecided = λ some. absurd (omega arith) }

none_some : {T : Type 0} (o : Option T) → false ≡ is_some o → o ≡ None
none_some None e = refl
none_some (Some a) e = absurd (cc)

pub fed_more : (x y : Exchange) (piece : List ℕ) (n : ℕ) → HasFed x n → ((fed : List ℕ) → IsReading fed x.reader → IsReading (fed ++ piece) y.reader) → 0 < length piece
    → ((fed : List ℕ) → IsReading fed y.reader → false ≡ is_some (relayed y.reader.is_head GoesOn fed)) → HasFed y (n + 1)
fed_more x y piece n h feeds some undecided =
    let long : length (h.fed ++ piece) ≡ length h.fed + length piece = length-append h.fed piece in
    record {
      fed = h.fed ++ piece;
      reading = feeds h.fed h.reading;
      many = omega (arith, long, h.many, some);
      undecided = λ _. none_some (relayed y.reader.is_head GoesOn (h.fed ++ piece)) (undecided (h.fed ++ piece) (feeds h.fed h.reading));
    }

-- so many bytes decide each reply
pub too_many : (x : Exchange) (n : ℕ) → MOST_REPLY_HEAD + MOST_REPLY_BODY < n → HasFed x n → ⊥
too_many x n long h =
    let small = undecided-small x.reader.is_head h.fed (h.undecided (omega (arith, long))) in
    let many = h.many in
    omega (arith, small, many, long)

-- a server that goes on no more has a reply, and one that is decided is there
pub no_reply : (x : Exchange) (far : Far) (fed : List ℕ) → IsReading fed x.reader → (far ≡ GoesOn → IsDecided x) → relayed x.reader.is_head far fed ≡ None → ⊥
no_reply x far fed reading decided e = by far decided e
  where
    none_there : (o : Option Reply) → is_some o ≡ true → o ≡ None → ⊥
    none_there o there none = let no : is_some o ≡ false = ap is_some none in absurd (cc)

    by : (f : Far) → (f ≡ GoesOn → IsDecided x) → relayed x.reader.is_head f fed ≡ None → ⊥
    by GoesOn decided e = none_there _ (decided refl fed reading) e
    by Ended decided e = none_there _ (over-decided x.reader.is_head Ended fed (λ same. cc)) e
    by Broken decided e = none_there _ (over-decided x.reader.is_head Broken fed (λ same. cc)) e
    by Late decided e = none_there _ (over-decided x.reader.is_head Late fed (λ same. cc)) e
