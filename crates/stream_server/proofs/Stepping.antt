-- A client under way, step by step.
use Rattle.std.proofs.Common.{◌≡◌, ◌==◌, ℕ, zero, suc, ◌+◌, ◌<◌, ◌≤◌, min, Bool, true, false, List, [], ◌∷◌, ◌++◌, length, take, set, Option, Some, None, IfSome, refl, sym, ap, ◌∙◌, subst, arith, slice_set, append_assoc}
use Rattle.std.proofs.lemmas.List.{get_or-set_same, set-get_or, length-set}
use Rattle.gv_io.specs.Streams.{appended}
use Rattle.wsgi_core.specs.Steps.{phase_by}
use Rattle.wsgi_core.specs.declared.session.SessionPhase.{SessionPhase}
use Rattle.stream_net.specs.Net.{Connection, NetMeaning, Changes, NetGoesOn, IsLive, connection_at, absent_connection}
use Rattle.stream_net.specs.declared.net.ReadEnd.TheVariants.{Got, End as AtEnd}
use Rattle.stream_net.specs.declared.net.WriteEnd.TheVariants.{Took, Memory as NoMemory}
use Rattle.stream_net.specs.Reads.{after_read, Reads}
use Rattle.stream_net.specs.Writes.{after_write, Writes}
use Rattle.stream_server.specs.Protocols.{IsLawful, Side}
use Rattle.stream_server.specs.Steps.{Closes, HasEnded, IsCut, IsGoing, IsOpen, IsOver, OnlyAt}
use Rattle.stream_server.specs.declared.client.Client.{Client}
use Rattle.stream_server.specs.declared.client.TheConstants.{NEVER}

-- what stands at a place that was changed
pub changed_at : (v w : NetMeaning) (k : ℕ) (change : Connection → Connection) → Changes v w k change → k < length v.connections
    → connection_at w.connections k ≡ change (connection_at v.connections k)
changed_at v w k change h within =
    ap (λ (cs : List Connection). connection_at cs k) h.connections ∙ get_or-set_same v.connections k (change (connection_at v.connections k)) absent_connection within

pub changed_length : (v w : NetMeaning) (k : ℕ) (change : Connection → Connection) → Changes v w k change → length w.connections ≡ length v.connections
changed_length v w k change h =
    ap (λ (cs : List Connection). length cs) h.connections ∙ length-set v.connections k (change (connection_at v.connections k))

-- told bytes with a piece after them
told_more : (told : Option (List ℕ)) (all piece : List ℕ) → IfSome told (λ bytes. bytes ≡ all) → IfSome (appended told piece) (λ bytes. bytes ≡ all ++ piece)
unfolding appended
told_more None all piece h = h
told_more (Some bytes) all piece h = ap (λ (z : List ℕ). z ++ piece) h

pub timely_after : (moment idle deadline : ℕ) → deadline ≡ min (moment + idle) NEVER → deadline < NEVER → moment + idle ≤ deadline
timely_after moment idle deadline e h = omega (arith, e, h)

-- ---- one connection alone

set_twice : {A : Type 0} (xs : List A) (k : ℕ) (x y : A) → set (set xs k x) k y ≡ set xs k y
set_twice [] k x y = refl
set_twice (z ∷ xs) zero x y = refl
set_twice (z ∷ xs) (suc k) x y = ap (λ (zs : List _). z ∷ zs) (set_twice xs k x y)

pub only_none : (v : NetMeaning) (k : ℕ) → OnlyAt v v k
only_none v k = record {
  connections = sym (set-get_or v.connections k absent_connection);
  same_closed = refl;
  rest = record { most = refl; moment = omega arith; listens = refl; faults = refl; blocked = refl };
}

pub goes_on_twice : (u v w : NetMeaning) → NetGoesOn u v → NetGoesOn v w → NetGoesOn u w
goes_on_twice u v w h g = record { most = g.most ∙ h.most; moment = omega (arith, h.moment, g.moment); listens = g.listens ∙ h.listens; faults = g.faults ∙ h.faults; blocked = g.blocked ∙ h.blocked }

pub only_twice : (u v w : NetMeaning) (k : ℕ) → OnlyAt u v k → OnlyAt v w k → OnlyAt u w k
only_twice u v w k h g =
    let d = connection_at w.connections k in
    record {
      connections = g.connections ∙ ap (λ (cs : List Connection). slice_set cs k d) h.connections ∙ set_twice u.connections k (connection_at v.connections k) d;
      same_closed = g.same_closed ∙ h.same_closed;
      rest = goes_on_twice u v w h.rest g.rest;
    }

pub only_length : (v w : NetMeaning) (k : ℕ) → OnlyAt v w k → length w.connections ≡ length v.connections
only_length v w k h = ap (λ (cs : List Connection). length cs) h.connections ∙ length-set v.connections k (connection_at w.connections k)

pub still_live : (v w : NetMeaning) (k : ℕ) → OnlyAt v w k → IsLive v k → IsLive w k
still_live v w k h live = record { accepted = omega (arith, only_length v w k h, live.accepted); still_open = h.same_closed ∙ live.still_open }

-- ---- several steps, where the client keeps its number

pub only_more : (u v w : NetMeaning) (k j : ℕ) → j ≡ k → OnlyAt u v k → OnlyAt v w j → OnlyAt u w k
only_more u v w k j same h g = only_twice u v w k h (subst (λ (n : ℕ). OnlyAt v w n) same g)

pub live_more : (v w : NetMeaning) (k j : ℕ) → j ≡ k → OnlyAt v w j → IsLive v k → IsLive w k
live_more v w k j same g live = still_live v w k (subst (λ (n : ℕ). OnlyAt v w n) same g) live

pub live_same : (v : NetMeaning) (k j : ℕ) → j ≡ k → IsLive v k → IsLive v j
live_same v k j same live = subst (λ (n : ℕ). IsLive v n) (sym same) live

-- what a step leaves, by the number at the start
pub leaves_more : (v w : NetMeaning) (k j : ℕ) → j ≡ k → (P Q : Connection → Type 0) → (P (connection_at v.connections j) → Q (connection_at w.connections j))
    → P (connection_at v.connections k) → Q (connection_at w.connections k)
leaves_more v w k j same P Q f =
    let F : ℕ → Type 0 = λ n. P (connection_at v.connections n) → Q (connection_at w.connections n) in
    subst F same f

pub none_left : (b : Bool) (bytes pending : List ℕ) → b ≡ (length bytes == 0) → b ≡ true → bytes ≡ pending → pending ≡ []
none_left b [] pending e f p = sym p
none_left b (x ∷ bytes) pending e f p = absurd (grind (arith))

pub is_closing : (b : Bool) → SessionPhase.Closing ≡ phase_by b → b ≡ true
is_closing true e = refl
is_closing false e = cc

-- ---- what a step makes of a client

module _ {T : Type 0} (S : Side T) (idle k : ℕ) where
  -- a piece was read
  pub was_read : (v w : NetMeaning) (g : Client T) (t : T) (n moment deadline : ℕ) (bytes piece : List ℕ) → Reads v w k (Got n) bytes
      → k < length v.connections → IsOpen S idle (connection_at v.connections k) g → g.ended ≡ false
      → moment ≡ w.moment → deadline ≡ min (moment + idle) NEVER → piece ≡ take n bytes → S.holds t ≡ S.holds g.talk
      → ((fed taken : List ℕ) → S.at fed false taken g.talk → S.at (fed ++ piece) false taken t)
      → IsGoing S idle (connection_at w.connections k) record { conn = g.conn; talk = t; ended = g.ended; deadline = deadline }
  was_read v w g t n moment deadline bytes piece r within h goes now at_last is held feeds =
      let c = connection_at v.connections k in
      let client : Client T = record { conn = g.conn; talk = t; ended = g.ended; deadline = deadline } in
      let P : Connection → Type 0 = λ d. IsGoing S idle d client in
      let still : c.ended ≡ false = sym h.same_end ∙ goes in
      let before : S.at h.fed false h.taken g.talk = subst (λ (b : Bool). S.at h.fed b h.taken g.talk) still h.is_at in
      let after : S.at (h.fed ++ take n bytes) false h.taken t = subst (λ (z : List ℕ). S.at (h.fed ++ z) false h.taken t) is (feeds h.fed h.taken before) in
      let last : deadline ≡ min (w.moment + idle) NEVER = at_last ∙ ap (λ (m : ℕ). min (m + idle) NEVER) now in
      subst P (sym (changed_at v w k (after_read (Got n) bytes w.moment r.faults) r.changes within)) record {
        is_open = record {
          fed = h.fed ++ take n bytes;
          taken = h.taken;
          reads = told_more c.read h.fed (take n bytes) h.reads;
          writes = h.writes;
          still_open = h.still_open;
          held = h.held ∙ sym held;
          same_end = h.same_end;
          timely = timely_after w.moment idle deadline last;
          is_at = subst (λ (b : Bool). S.at (h.fed ++ take n bytes) b h.taken t) (sym still) after;
        };
        awake = refl;
      }

  -- the end was read
  pub was_ended : (v w : NetMeaning) (g : Client T) (t : T) (bytes : List ℕ) → Reads v w k AtEnd bytes
      → k < length v.connections → IsOpen S idle (connection_at v.connections k) g → S.holds t ≡ S.holds g.talk
      → ((fed : List ℕ) (ended : Bool) (taken : List ℕ) → S.at fed ended taken g.talk → S.at fed true taken t)
      → IsGoing S idle (connection_at w.connections k) record { conn = g.conn; talk = t; ended = true; deadline = g.deadline }
  was_ended v w g t bytes r within h held ends =
      let c = connection_at v.connections k in
      let client : Client T = record { conn = g.conn; talk = t; ended = true; deadline = g.deadline } in
      let P : Connection → Type 0 = λ d. IsGoing S idle d client in
      subst P (sym (changed_at v w k (after_read AtEnd bytes w.moment r.faults) r.changes within)) record {
        is_open = record {
          fed = h.fed;
          taken = h.taken;
          reads = h.reads;
          writes = h.writes;
          still_open = h.still_open;
          held = h.held ∙ sym held;
          same_end = refl;
          timely = h.timely;
          is_at = ends h.fed c.ended h.taken h.is_at;
        };
        awake = refl;
      }

  -- a piece was read for which memory ran out
  pub was_cut : (v w : NetMeaning) (g : Client T) (n : ℕ) (bytes piece pending : List ℕ) → Reads v w k (Got n) bytes
      → k < length v.connections → IsOpen S idle (connection_at v.connections k) g → g.ended ≡ false → piece ≡ take n bytes
      → ((fed taken : List ℕ) → S.at fed false taken g.talk → (tail : List ℕ) × ((S.said (fed ++ piece) false).bytes ≡ taken ++ pending ++ tail))
      → IsCut S.said (connection_at w.connections k)
  was_cut v w g n bytes piece pending r within h goes is feeds =
      let c = connection_at v.connections k in
      let P : Connection → Type 0 = λ d. IsCut S.said d in
      let still : c.ended ≡ false = sym h.same_end ∙ goes in
      let before : S.at h.fed false h.taken g.talk = subst (λ (b : Bool). S.at h.fed b h.taken g.talk) still h.is_at in
      let x = feeds h.fed h.taken before in
      let e : (S.said (h.fed ++ take n bytes) c.ended).bytes ≡ h.taken ++ (pending ++ x.0) =
      ap (λ (b : Bool). (S.said (h.fed ++ take n bytes) b).bytes) still ∙ ap (λ (z : List ℕ). (S.said (h.fed ++ z) false).bytes) (sym is) ∙ x.1 ∙ append_assoc h.taken pending x.0 in
      subst P (sym (changed_at v w k (after_read (Got n) bytes w.moment r.faults) r.changes within)) record {
        begun = record {
          fed = h.fed ++ take n bytes;
          taken = h.taken;
          reads = told_more c.read h.fed (take n bytes) h.reads;
          writes = h.writes;
          tail = pending ++ x.0;
          begins = e;
        };
        still_open = h.still_open;
        awake = refl;
      }

  -- memory ran out at a client that goes on, before anything came of it
  pub goes_cut : (law : IsLawful S) (c : Connection) (g : Client T) → IsGoing S idle c g → IsCut S.said c
  goes_cut law c g h =
      let o = h.is_open in
      let b = law.begun o.fed c.ended o.taken g.talk o.is_at in
      record {
        begun = record { fed = o.fed; taken = o.taken; reads = o.reads; writes = o.writes; tail = S.due g.talk ++ b.0; begins = b.1 ∙ append_assoc o.taken (S.due g.talk) b.0 };
        still_open = o.still_open;
        awake = h.awake;
      }

  -- memory ran out as a reply was given
  pub reply_cut : (c : Connection) (g : Client T) (pending : List ℕ) → IsGoing S idle c g
      → ((fed : List ℕ) (ended : Bool) (taken : List ℕ) → S.at fed ended taken g.talk → (tail : List ℕ) × ((S.said fed ended).bytes ≡ taken ++ pending ++ tail))
      → IsCut S.said c
  reply_cut c g pending h cuts =
      let o = h.is_open in
      let b = cuts o.fed c.ended o.taken o.is_at in
      record {
        begun = record { fed = o.fed; taken = o.taken; reads = o.reads; writes = o.writes; tail = pending ++ b.0; begins = b.1 ∙ append_assoc o.taken pending b.0 };
        still_open = o.still_open;
        awake = h.awake;
      }

  -- nothing was done to its talk
  pub same_going : (c : Connection) (g : Client T) (t : T) → t ≡ g.talk → IsGoing S idle c g → IsGoing S idle c record { conn = g.conn; talk = t; ended = g.ended; deadline = g.deadline }
  same_going c g t same h = subst (λ (x : T). IsGoing S idle c record { conn = g.conn; talk = x; ended = g.ended; deadline = g.deadline }) (sym same) h

  -- a reply was given
  pub was_given : (c : Connection) (g : Client T) (t : T) → IsGoing S idle c g → S.holds t ≡ S.holds g.talk
      → ((fed : List ℕ) (ended : Bool) (taken : List ℕ) → S.at fed ended taken g.talk → S.at fed ended taken t)
      → IsGoing S idle c record { conn = g.conn; talk = t; ended = g.ended; deadline = g.deadline }
  was_given c g t h held gives = let o = h.is_open in record {
    is_open = record {
      fed = o.fed;
      taken = o.taken;
      reads = o.reads;
      writes = o.writes;
      still_open = o.still_open;
      held = o.held ∙ sym held;
      same_end = o.same_end;
      timely = o.timely;
      is_at = gives o.fed c.ended o.taken o.is_at;
    };
    awake = h.awake;
  }

  -- there was no memory to write
  pub was_refused : (law : IsLawful S) (v w : NetMeaning) (g : Client T) (bytes : List ℕ) → Writes v w k NoMemory bytes
      → k < length v.connections → IsOpen S idle (connection_at v.connections k) g → IsCut S.said (connection_at w.connections k)
  was_refused law v w g bytes r within h =
      let c = connection_at v.connections k in
      let P : Connection → Type 0 = λ d. IsCut S.said d in
      let b = law.begun h.fed c.ended h.taken g.talk h.is_at in
      subst P (sym (changed_at v w k (after_write NoMemory bytes w.moment r.faults) r.changes within)) record {
        begun = record {
          fed = h.fed;
          taken = h.taken;
          reads = h.reads;
          writes = h.writes;
          tail = S.due g.talk ++ b.0;
          begins = b.1 ∙ append_assoc h.taken (S.due g.talk) b.0;
        };
        still_open = h.still_open;
        awake = refl;
      }

  -- some of what was pending was written
  pub was_written : (v w : NetMeaning) (g : Client T) (t : T) (n moment deadline : ℕ) (bytes pending : List ℕ) → Writes v w k (Took n) bytes
      → k < length v.connections → IsOpen S idle (connection_at v.connections k) g
      → moment ≡ w.moment → deadline ≡ min (moment + idle) NEVER → bytes ≡ pending → S.holds t ≡ S.holds g.talk
      → ((fed : List ℕ) (ended : Bool) (taken : List ℕ) → S.at fed ended taken g.talk → S.at fed ended (taken ++ take n pending) t)
      → IsGoing S idle (connection_at w.connections k) record { conn = g.conn; talk = t; ended = g.ended; deadline = deadline }
  was_written v w g t n moment deadline bytes pending r within h now at_last is held takes =
      let c = connection_at v.connections k in
      let client : Client T = record { conn = g.conn; talk = t; ended = g.ended; deadline = deadline } in
      let P : Connection → Type 0 = λ d. IsGoing S idle d client in
      let last : deadline ≡ min (w.moment + idle) NEVER = at_last ∙ ap (λ (m : ℕ). min (m + idle) NEVER) now in
      let after : S.at h.fed c.ended (h.taken ++ take n bytes) t = subst (λ (z : List ℕ). S.at h.fed c.ended (h.taken ++ take n z) t) (sym is) (takes h.fed c.ended h.taken h.is_at) in
      subst P (sym (changed_at v w k (after_write (Took n) bytes w.moment r.faults) r.changes within)) record {
        is_open = record {
          fed = h.fed;
          taken = h.taken ++ take n bytes;
          reads = h.reads;
          writes = told_more c.written h.taken (take n bytes) h.writes;
          still_open = h.still_open;
          held = h.held ∙ sym held;
          same_end = h.same_end;
          timely = timely_after w.moment idle deadline last;
          is_at = after;
        };
        awake = refl;
      }

  -- a side that is done
  pub side_done : (c : Connection) (g : Client T) → IsOpen S idle c g → S.due g.talk ≡ [] → S.asks g.talk ≡ false
      → ((fed : List ℕ) (ended : Bool) (taken : List ℕ) → S.at fed ended taken g.talk → (S.said fed ended).closes ≡ true) → IsOver S idle c g
  side_done c g h none quiet closes = record { is_open = h; why = Closes (closes h.fed c.ended h.taken h.is_at) none quiet }

  -- a side whose input ended
  pub input_done : (c : Connection) (g : Client T) → IsOpen S idle c g → S.due g.talk ≡ [] → S.asks g.talk ≡ false → g.ended ≡ true → IsOver S idle c g
  input_done c g h none quiet ended = record { is_open = h; why = HasEnded (sym h.same_end ∙ ended) none quiet }
