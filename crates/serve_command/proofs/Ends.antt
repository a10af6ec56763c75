-- The command's ends, one by one.
use Rattle.std.proofs.Common.{◌≡◌, ◌≢◌, ◌⊎◌, inl, inr, ℕ, ◌≤◌, true, false, List, [], length, Option, refl, ap, sym, ◌∙◌, subst, arith, take}
use Rattle.std.specs.List.{All}
use Rattle.std.proofs.lemmas.List.Elements.{All-nil, All-weaker}
use Rattle.gv_io.specs.Streams.{appended, AppendsPrefix, Extends}
use Rattle.gv_io.proofs.StreamLaws.{appended-appended, AppendsPrefix-after, AppendsPrefix-longer}
use Rattle.wsgi_core.specs.Applications.{App}
use Rattle.wsgi_core.specs.Talk.{Gateway, said_by}
use Rattle.stream_net.specs.Net.{Connection, NetMeaning, listens_at}
use Rattle.stream_server.specs.declared.limits.Limits.{Limits}
use Rattle.stream_server.specs.Serving.{AllBut, BeginsSo, Cause, EachTold, IsAllServed, IsClosedWell, WaitsToRead}
use Rattle.serve_command.specs.declared.serving.Served.{Served}
use Rattle.serve_command.specs.Endings.{Stays}
use Rattle.serve_command.specs.Serving.{HasServed, IsToldFirst, ServesSo, listening, served}

-- nothing is said of no connections
pub no_connection : (cs : List Connection) (P : Connection → List ℕ → List ℕ → Type 0) → cs ≡ [] → EachTold cs P
no_connection cs P none = λ k bytes out within. absurd (let e = ap (λ (xs : List Connection). length xs) none in omega (arith, within, e))

pub nobody_rests : (P : Connection → Type 0) (cs : List Connection) → cs ≡ [] → AllBut P cs
nobody_rests P cs none = record { one = 0; others = λ k other within. absurd (let e = ap (λ (xs : List Connection). length xs) none in omega (arith, within, e)) }

-- closed ones rest, of whichever connections that are open that says more
pub closed_rest : (P : Connection → Type 0) (cs : List Connection) → All (λ c. c.closed ≡ true) cs → All (λ c. c.closed ≡ false → P c) cs
closed_rest P cs closed = All-weaker (λ (c : Connection). c.closed ≡ true) (λ (c : Connection). c.closed ≡ false → P c) (λ c is still. absurd (cc)) cs closed

pub memory_unfinished : Served.Memory ≡ Served.Finished → ⊥
memory_unfinished e = absurd (cc)

pub memory_no_jobs : Served.Memory ≡ Served.NoJobs → ⊥
memory_no_jobs e = absurd (cc)

pub at_no_line : (end : Served) → (end ≡ Served.Listener) ⊎ (end ≡ Served.NoJobs) ⊎ (end ≡ Served.Memory) → end ≢ Served.WriteFault
at_no_line end (inl e) f = absurd (cc)
at_no_line end (inr (inl e)) f = absurd (cc)
at_no_line end (inr (inr e)) f = absurd (cc)

pub at_unfinished : (end : Served) → (end ≡ Served.Listener) ⊎ (end ≡ Served.NoJobs) ⊎ (end ≡ Served.Memory) → end ≢ Served.Finished
at_unfinished end (inl e) f = absurd (cc)
at_unfinished end (inr (inl e)) f = absurd (cc)
at_unfinished end (inr (inr e)) f = absurd (cc)

-- ---- what was handed on

pub none_told : (asked : ℕ) (w : NetMeaning) (out0 handed1 : Option (List ℕ)) → w.connections ≡ [] → IsToldFirst asked w out0 handed1
none_told asked w out0 handed1 none some = absurd (let e = ap (λ (xs : List Connection). length xs) none in omega (arith, some, e))

-- the first line was handed on, and nothing of it is taken back
pub told_first : (asked port : ℕ) (w : NetMeaning) (out0 out1 handed1 handed2 : Option (List ℕ)) → out1 ≡ appended out0 (listening port) → handed1 ≡ out1 → Extends handed1 handed2 → w.listens ≡ listens_at asked port
    → IsToldFirst asked w out0 handed2
told_first asked port w out0 out1 handed1 handed2 told all kept listens some = (
  port,
  listens,
  kept.more,
  kept.is ∙ ap (λ o. appended o kept.more) (all ∙ told) ∙ appended-appended out0 (listening port) kept.more,
)

-- ---- the ends

-- nobody was accepted
unfoldable pub none_accepted : (rests : Connection → Type 0) (is_spent : ℕ → Type 0) (end : Served) (asked : ℕ) (limits : Limits) (w : NetMeaning) (out0 out1 : Option (List ℕ)) (port : ℕ) → (end ≡ Served.Finished → ⊥) → (end ≡ Served.NoJobs → ⊥) → w.connections ≡ [] → w.most ≡ 0
    → AppendsPrefix out0 out1 (listening port) → (out1 ≡ out0) ⊎ ((w.listens ≡ listens_at asked port) × (end ≢ Served.WriteFault → out1 ≡ out0)) → HasServed rests is_spent end asked limits w out0 out1
none_accepted rests is_spent end asked limits w out0 out1 port unfinished unspent none most begins listens = record {
  port = port;
  listens = told listens;
  begins = AppendsPrefix-longer out0 out1 (listening port) (served limits.conns) begins;
  both = λ e. absurd (unfinished e);
  first = λ e. inl (at_once listens (at_no_line end e));
  told = λ some. absurd (let e = ap (λ (xs : List Connection). length xs) none in omega (arith, some, e));
  resting = λ _ _. subst (All rests) (sym none) (All-nil rests);
  rest_but = nobody_rests rests w.connections none;
  most = omega (arith, most);
  within = let e = ap (λ (xs : List Connection). length xs) none in omega (arith, e);
  all = λ e. absurd (unfinished e);
  at_line = λ _. inl none;
  no_jobs = λ e. absurd (unspent e);
}
  where
    told : (out1 ≡ out0) ⊎ ((w.listens ≡ listens_at asked port) × (end ≢ Served.WriteFault → out1 ≡ out0)) → ((out1 ≡ out0) × (w.connections ≡ [])) ⊎ (w.listens ≡ listens_at asked port)
    told (inl e) = inl (e, none)
    told (inr h) = inr h.0

    at_once : (out1 ≡ out0) ⊎ ((w.listens ≡ listens_at asked port) × (end ≢ Served.WriteFault → out1 ≡ out0)) → end ≢ Served.WriteFault → out1 ≡ out0
    at_once (inl same) e = same
    at_once (inr h) e = h.1 e

unfoldable pub none_served : (rests : Connection → Type 0) (is_spent : ℕ → Type 0) (end : Served) (asked : ℕ) (answers : Gateway) (app : App) (limits : Limits) (w : NetMeaning) (out0 out1 : Option (List ℕ)) (port : ℕ) → (end ≡ Served.Finished → ⊥) → (end ≡ Served.NoJobs → ⊥) → w.connections ≡ [] → w.most ≡ 0
    → AppendsPrefix out0 out1 (listening port) → (out1 ≡ out0) ⊎ ((w.listens ≡ listens_at asked port) × (end ≢ Served.WriteFault → out1 ≡ out0)) → ServesSo rests is_spent end asked answers app limits w out0 out1
unfolding none_accepted
none_served rests is_spent end asked answers app limits w out0 out1 port unfinished unspent none most begins listens = record {
  has = none_accepted rests is_spent end asked limits w out0 out1 port unfinished unspent none most begins listens;
  own = no_connection w.connections (λ c bytes sent. BeginsSo (said_by answers app port bytes c.ended).bytes sent) none;
  whole = no_connection w.connections (λ c bytes sent. IsClosedWell c → sent ≡ (said_by answers app port bytes c.ended).bytes) none;
  answered = no_connection w.connections (λ c bytes sent. WaitsToRead c → sent ≡ (said_by answers app port bytes c.ended).bytes) none;
  cause = no_connection w.connections (λ c bytes sent. c.closed ≡ true → Cause (said_by answers app port bytes c.ended) sent limits.idle c) none;
}

-- ---- where something else says that no job was left

unfoldable pub spent_as : (rests : Connection → Type 0) (was_spent is_spent : ℕ → Type 0) (end : Served) (asked : ℕ) (answers : Gateway) (app : App) (limits : Limits) (w : NetMeaning) (out0 out1 : Option (List ℕ))
    → ((port : ℕ) → was_spent port → is_spent port) → ServesSo rests was_spent end asked answers app limits w out0 out1 → ServesSo rests is_spent end asked answers app limits w out0 out1
spent_as rests was_spent is_spent end asked answers app limits w out0 out1 follows h = record {
  has = record {
    port = h.has.port;
    listens = h.has.listens;
    begins = h.has.begins;
    both = h.has.both;
    first = h.has.first;
    told = h.has.told;
    resting = h.has.resting;
    rest_but = h.has.rest_but;
    most = h.has.most;
    within = h.has.within;
    all = h.has.all;
    at_line = h.has.at_line;
    no_jobs = λ e. follows h.has.port (h.has.no_jobs e);
  };
  own = h.own;
  whole = h.whole;
  answered = h.answered;
  cause = h.cause;
}

-- ---- ends that stay

pub was_finished : (before after : Served) → Stays before after → after ≡ Served.Finished → before ≡ Served.Finished
was_finished before after (inl same) e = sym same ∙ e
was_finished before after (inr h) e = h.0

pub was_at_line : (before after : Served) → Stays before after → before ≢ Served.WriteFault → after ≡ Served.WriteFault → before ≡ Served.Finished
was_at_line before after (inl same) other e = absurd (other (sym same ∙ e))
was_at_line before after (inr h) other e = h.0

pub had_no_jobs : (before after : Served) → Stays before after → after ≡ Served.NoJobs → before ≡ Served.NoJobs
had_no_jobs before after (inl same) e = sym same ∙ e
had_no_jobs before after (inr (finished, inl line)) e = absurd (cc)
had_no_jobs before after (inr (finished, inr memory)) e = absurd (cc)

pub still_spent : (before after : Served) → Stays before after → (before ≡ Served.NoJobs) ⊎ (before ≡ Served.Memory) → (after ≡ Served.NoJobs) ⊎ (after ≡ Served.Memory)
still_spent before after (inl same) (inl e) = inl (same ∙ e)
still_spent before after (inl same) (inr e) = inr (same ∙ e)
still_spent before after (inr h) (inl e) = absurd (let f = h.0 in cc)
still_spent before after (inr h) (inr e) = absurd (let f = h.0 in cc)

-- R holds where the listener failed and where the server finished, so it holds but where no job was left or memory ran out
pub rests_after : (R : Type 0) (before after : Served) → Stays before after → before ≢ Served.WriteFault → (before ≡ Served.Listener → R) → (before ≡ Served.Finished → R) → after ≢ Served.NoJobs → after ≢ Served.Memory → R
rests_after R before after (inl same) other listener finished no_jobs memory = by before same other listener finished
  where
    by : (end : Served) → after ≡ end → end ≢ Served.WriteFault → (end ≡ Served.Listener → R) → (end ≡ Served.Finished → R) → R
    by Served.Finished e o l f = f refl
    by Served.Listener e o l f = l refl
    by Served.NoJobs e o l f = absurd (no_jobs e)
    by Served.WriteFault e o l f = absurd (o refl)
    by Served.Memory e o l f = absurd (memory e)
rests_after R before after (inr h) other listener finished no_jobs memory = finished h.0

-- ---- where the first line was told

module _ (rests : Connection → Type 0) (is_spent : ℕ → Type 0) (asked : ℕ) (limits : Limits) (w : NetMeaning) (out0 out1 out2 : Option (List ℕ)) (port : ℕ) (before end : Served) (told : out1 ≡ appended out0 (listening port))
    (rest_but : AllBut rests w.connections) (most : w.most ≤ limits.pool) (within : length w.connections ≤ limits.conns) (listens : w.listens ≡ listens_at asked port)
    (stays : Stays before end) (no_line : before ≢ Served.WriteFault) (more : AppendsPrefix out1 out2 (served limits.conns)) (last : end ≡ Served.Finished → out2 ≡ appended out1 (served limits.conns))
    (silent : end ≢ Served.Finished → end ≢ Served.WriteFault → out2 ≡ out1) where
  unfoldable pub has_served : (before ≡ Served.Finished → IsAllServed w limits.conns) → (All (λ c. c.closed ≡ true) w.connections → All rests w.connections) → (before ≡ Served.Listener → All rests w.connections)
      → (before ≡ Served.NoJobs → is_spent port) → HasServed rests is_spent end asked limits w out0 out2
  has_served finished closed resting spent = record {
    port = port;
    listens = inr listens;
    begins = AppendsPrefix-after out0 out1 out2 (listening port) (served limits.conns) told more;
    both = λ e. last e ∙ ap (λ (o : Option (List ℕ)). appended o (served limits.conns)) told ∙ appended-appended out0 (listening port) (served limits.conns);
    first = λ e. inr (silent (at_unfinished end e) (at_no_line end e) ∙ told);
    told = λ _. (take more.count (served limits.conns), more.is ∙ ap (λ (o : Option (List ℕ)). appended o (take more.count (served limits.conns))) told ∙ appended-appended out0 (listening port) (take more.count (served limits.conns)));
    resting = rests_after (All rests w.connections) before end stays no_line resting (λ e. closed (finished e).closed);
    rest_but = rest_but;
    most = most;
    within = within;
    all = λ e. finished (was_finished before end stays e);
    at_line = λ e. inr (finished (was_at_line before end stays no_line e));
    no_jobs = λ e. spent (had_no_jobs before end stays e);
  }

module _ (rests : Connection → Type 0) (is_spent : ℕ → Type 0) (asked : ℕ) (answers : Gateway) (app : App) (limits : Limits) (w : NetMeaning) (out0 out1 out2 : Option (List ℕ)) (port : ℕ) (before end : Served) (told : out1 ≡ appended out0 (listening port))
    (own : EachTold w.connections (λ c bytes sent. BeginsSo (said_by answers app port bytes c.ended).bytes sent))
    (whole : EachTold w.connections (λ c bytes sent. IsClosedWell c → sent ≡ (said_by answers app port bytes c.ended).bytes))
    (answered : EachTold w.connections (λ c bytes sent. WaitsToRead c → sent ≡ (said_by answers app port bytes c.ended).bytes)) (rest_but : AllBut rests w.connections)
    (cause : EachTold w.connections (λ c bytes sent. c.closed ≡ true → Cause (said_by answers app port bytes c.ended) sent limits.idle c))
    (most : w.most ≤ limits.pool) (within : length w.connections ≤ limits.conns) (listens : w.listens ≡ listens_at asked port)
    (stays : Stays before end) (no_line : before ≢ Served.WriteFault) (more : AppendsPrefix out1 out2 (served limits.conns)) (last : end ≡ Served.Finished → out2 ≡ appended out1 (served limits.conns))
    (silent : end ≢ Served.Finished → end ≢ Served.WriteFault → out2 ≡ out1) where
  unfoldable pub serves_so : (before ≡ Served.Finished → IsAllServed w limits.conns) → (All (λ c. c.closed ≡ true) w.connections → All rests w.connections) → (before ≡ Served.Listener → All rests w.connections)
      → (before ≡ Served.NoJobs → is_spent port) → ServesSo rests is_spent end asked answers app limits w out0 out2
  unfolding has_served
  serves_so finished closed resting spent = record {
    has = has_served rests is_spent asked limits w out0 out1 out2 port before end told rest_but most within listens stays no_line more last silent finished closed resting spent;
    own = own;
    whole = whole;
    answered = answered;
    cause = cause;
  }
