-- How a run is given out part after part, whatever answers are still to come.
use Rattle.std.proofs.Common.{◌≡◌, refl, ap, sym, ◌∙◌, subst, ℕ, zero, suc, ◌-◌, ◌<◌, ◌≤◌, List, [], ◌∷◌, ◌++◌, append_assoc, map, take, Option, Some, None, arith}
use Rattle.std.specs.Prelude.{Result, Ok, Err}
use Rattle.std.proofs.lemmas.List.{append-nil}
use Rattle.trace_text.specs.declared.line.Line.{Line}
use Rattle.trace_text.specs.declared.line.StopCause.{StopCause}
use Rattle.trace_text.specs.Line.{text_of}
use Rattle.trace_reader.specs.Ranges.{LinesFit}
use Rattle.gv_io.specs.Streams.{appended, Extends}
use Rattle.gv_io.proofs.StreamLaws.{appended-appended, Extends-after, Extends-nothing}
use Rattle.gv_values.specs.declared.fault.FaultKind.{FaultKind}
use Rattle.gv_values.specs.declared.job.Answer.{Answer}
use Rattle.world_rules.specs.declared.question.LogEntry.{LogEntry}
use Rattle.world_rules.specs.declared.question.Question.{Question}
use Rattle.world_rules.specs.Legal.{IsLegal, answers_of}
use Rattle.world.specs.Outside.{Stores}
use Rattle.scenario_tree.specs.declared.tree.Scenario.{Scenario}
use Rattle.machine.specs.declared.state.Post.{Post}
use Rattle.machine.specs.Landing.{Next, lands, starts}
use Rattle.machine.specs.Deliveries.{interrupts}
use Rattle.machine.specs.Questions.{block_line, question, take_answer}
use Rattle.machine.specs.Run.{GoingOn, Passed, Ran, Source, blocked_at, after_exit, after_question, after_start, after_turn, asks, first_state, logged, loop_exit, run, run_turns, runs, silent, stopped, turn}
use Rattle.machine.specs.State.{State}
use Rattle.hub_engine.specs.declared.broken.Broken.{Broken}
use Rattle.hub_engine.specs.declared.run.EngineEnd.{EngineEnd as Ended}
use Rattle.hub_engine.specs.declared.stand.Came.{Came}
use Rattle.hub_engine.specs.declared.stand.Stand.{Stand}
use Rattle.hub_engine.specs.Ends.{end_of}
use Rattle.hub_engine.specs.Outside.{HasDone, HasGiven, HasGivenPart, Outside, WritesPart}
use Rattle.hub_engine.specs.Stands.{next_at}
use Rattle.hub_engine.specs.Written.{AreLike, CameTo, HasBroken, HasEnded, IsOutAhead, IsRunning, IsStopping, RunsTo, Rounds, Runs, WritesAll, finished, from_turn, preceded}
use Rattle.hub_engine.proofs.Giving.{answers_of_append, answers_of_logged, done_asked, done_nothing, done_then, given_nothing, given_then, logged_then}
use Rattle.hub_engine.proofs.Passing.{like}
use Rattle.hub_engine.proofs.Posting.{done_refused}
use Rattle.hub_engine.proofs.Texts.{text_of_append}
use Rattle.hub_engine.proofs.Trying.{part-prefix, tried-after, tried-longer, tried-nothing}

-- ---- one part after another

preceded_preceded : (lines more : List Line) (entries later : List LogEntry) (blocked others : List State) (r : Ran) →
    preceded lines entries blocked (preceded more later others r) ≡ preceded (lines ++ more) (entries ++ later) (blocked ++ others) r
preceded_preceded lines more entries later blocked others r =
    ap (λ x. record { lines = x; log = entries ++ (later ++ r.log); blocked = blocked ++ (others ++ r.blocked); end = r.end; state = r.state }) (sym (append_assoc lines more r.lines))
    ∙ ap (λ x. record { lines = (lines ++ more) ++ r.lines; log = x; blocked = blocked ++ (others ++ r.blocked); end = r.end; state = r.state }) (sym (append_assoc entries later r.log))
    ∙ ap (λ x. record { lines = (lines ++ more) ++ r.lines; log = (entries ++ later) ++ r.log; blocked = x; end = r.end; state = r.state }) (sym (append_assoc blocked others r.blocked))

-- no answers have a last one
none_last : {A : Type 0} (before : List A) (last : A) → [] ≡ before ++ last ∷ [] → ⊥
none_last [] last e = cc e
none_last (x ∷ before) last e = cc e

-- a list is empty or has a last element
data HasLast {A : Type 0} (xs : List A) : Type 0 where
  Empty : xs ≡ [] → HasLast xs
  Ends : (before : List A) (last : A) → xs ≡ before ++ last ∷ [] → HasLast xs

has_last : {A : Type 0} (xs : List A) → HasLast xs
has_last [] = HasLast.Empty refl
has_last (x ∷ xs) = by (has_last xs)
  where
    by : HasLast xs → HasLast (x ∷ xs)
    by (HasLast.Empty e) = HasLast.Ends [] x (ap (λ ys. x ∷ ys) e)
    by (HasLast.Ends before last e) = HasLast.Ends (x ∷ before) last (ap (λ ys. x ∷ ys) e)

-- what stands before the last is told by the list
same_before : {A : Type 0} (xs ys : List A) (x y : A) → xs ++ x ∷ [] ≡ ys ++ y ∷ [] → xs ≡ ys
same_before [] [] x y e = refl
same_before [] (z ∷ ys) x y e = absurd (none_last ys y (let f : [] ≡ ys ++ y ∷ [] = cc e in f))
same_before (z ∷ xs) [] x y e = absurd (none_last xs x (let f : [] ≡ xs ++ x ∷ [] = cc e in f))
same_before (z ∷ xs) (w ∷ ys) x y e =
    let first : z ≡ w = cc e in
    let rest : xs ++ x ∷ [] ≡ ys ++ y ∷ [] = cc e in
    ap (λ v. v ∷ xs) first ∙ ap (λ zs. w ∷ zs) (same_before xs ys x y rest)

-- ---- what was said before the last answer

-- the lines begin with those of the run under these answers
abbrev pub BeginWith : Runs → List Answer → List Line → Type 0
BeginWith whole before lines = (more : List Line) × (lines ≡ (whole before).lines ++ more)

ahead_then : (whole left : Runs) (lines more : List Line) (entries later : List LogEntry) (blocked : List State) →
    ((rest : List Answer) → whole (answers_of entries ++ rest) ≡ preceded lines entries blocked (left rest)) →
    ((before : List Answer) (last : Answer) → answers_of entries ≡ before ++ last ∷ [] → BeginWith whole before lines) →
    ((before : List Answer) (last : Answer) → answers_of later ≡ before ++ last ∷ [] → BeginWith left before more) →
    (before : List Answer) (last : Answer) → answers_of (entries ++ later) ≡ before ++ last ∷ [] → BeginWith whole before (lines ++ more)
ahead_then whole left lines more entries later blocked is f g before last e = by (has_last (answers_of later))
  where
    both : answers_of entries ++ answers_of later ≡ before ++ last ∷ []
    both = sym (answers_of_append entries later) ∙ e

    by : HasLast (answers_of later) → BeginWith whole before (lines ++ more)
    by (HasLast.Empty none) =
        let own = f before last (sym (append-nil (answers_of entries)) ∙ ap (λ z. answers_of entries ++ z) (sym none) ∙ both) in
        (own.0 ++ more, ap (λ ls. ls ++ more) own.1 ∙ append_assoc (whole before).lines own.0 more)
    by (HasLast.Ends front end is_end) =
        let own = g front end is_end in
        let same : answers_of entries ++ front ≡ before =
        same_before (answers_of entries ++ front) before end last (append_assoc (answers_of entries) front (end ∷ []) ∙ ap (λ z. answers_of entries ++ z) (sym is_end) ∙ both) in
        let whole_lines : (whole before).lines ≡ lines ++ (left front).lines = ap (λ z. (whole z).lines) (sym same) ∙ ap (λ (r : Ran). r.lines) (is front) in
        (own.0, ap (λ ls. lines ++ ls) own.1 ∙ sym (append_assoc lines (left front).lines own.0) ∙ ap (λ ls. ls ++ own.0) (sym whole_lines))

-- ---- what was out before the last answer

-- what was out stays out
out_later : (u v w : Outside) (whole : Runs) (before : List Answer) → Extends v.out w.out → IsOutAhead u v whole before → IsOutAhead u w whole before
out_later u v w whole before k own = (
  own.0 ++ k.more,
  k.is ∙ ap (λ m. appended m k.more) own.1 ∙ appended-appended u.written (text_of (whole before).lines ++ own.0) k.more
      ∙ ap (appended u.written) (append_assoc (text_of (whole before).lines) own.0 k.more),
)

out_then : (u v w : Outside) (whole left : Runs) (lines : List Line) (entries later : List LogEntry) (blocked : List State) →
    ((rest : List Answer) → whole (answers_of entries ++ rest) ≡ preceded lines entries blocked (left rest)) →
    v.written ≡ appended u.written (text_of lines) → Extends v.out w.out →
    ((before : List Answer) (last : Answer) → answers_of entries ≡ before ++ last ∷ [] → IsOutAhead u v whole before) →
    ((before : List Answer) (last : Answer) → answers_of later ≡ before ++ last ∷ [] → IsOutAhead v w left before) →
    (before : List Answer) (last : Answer) → answers_of (entries ++ later) ≡ before ++ last ∷ [] → IsOutAhead u w whole before
out_then u v w whole left lines entries later blocked is text k f g before last e = by (has_last (answers_of later))
  where
    both : answers_of entries ++ answers_of later ≡ before ++ last ∷ []
    both = sym (answers_of_append entries later) ∙ e

    by : HasLast (answers_of later) → IsOutAhead u w whole before
    by (HasLast.Empty none) =
        out_later u v w whole before k (f before last (sym (append-nil (answers_of entries)) ∙ ap (λ z. answers_of entries ++ z) (sym none) ∙ both))
    by (HasLast.Ends front end is_end) =
        let own = g front end is_end in
        let same : answers_of entries ++ front ≡ before =
        same_before (answers_of entries ++ front) before end last (append_assoc (answers_of entries) front (end ∷ []) ∙ ap (λ z. answers_of entries ++ z) (sym is_end) ∙ both) in
        let said : text_of (whole before).lines ≡ text_of lines ++ text_of (left front).lines =
        ap (λ z. text_of (whole z).lines) (sym same) ∙ ap (λ (x : Ran). text_of x.lines) (is front) ∙ text_of_append lines (left front).lines in (
          own.0,
          own.1 ∙ ap (λ m. appended m (text_of (left front).lines ++ own.0)) text ∙ appended-appended u.written (text_of lines) (text_of (left front).lines ++ own.0)
              ∙ ap (appended u.written) (sym (append_assoc (text_of lines) (text_of (left front).lines) own.0) ∙ ap (λ z. z ++ own.0) (sym said)),
        )

-- ---- a run

pub running : (v : Outside) (whole : Runs) → IsRunning v v whole whole
running v whole = record { lines = []; entries = []; blocked = []; given = given_nothing v; is = λ later. refl; ahead = λ before last e. absurd (none_last before last e); out_ahead = λ before last e. absurd (none_last before last e) }

pub running_then : (u v w : Outside) (whole left next : Runs) → IsRunning u v whole left → IsRunning v w left next → IsRunning u w whole next
running_then u v w whole left next r q = record {
  lines = r.lines ++ q.lines;
  entries = r.entries ++ q.entries;
  blocked = r.blocked ++ q.blocked;
  given = given_then u v w r.lines q.lines r.entries q.entries r.given q.given;
  is = λ later.
      ap (λ z. whole (z ++ later)) (answers_of_append r.entries q.entries) ∙ ap whole (append_assoc (answers_of r.entries) (answers_of q.entries) later)
      ∙ r.is (answers_of q.entries ++ later) ∙ ap (preceded r.lines r.entries r.blocked) (q.is later)
      ∙ preceded_preceded r.lines q.lines r.entries q.entries r.blocked q.blocked (next later);
  ahead = ahead_then whole left r.lines q.lines r.entries q.entries r.blocked r.is r.ahead q.ahead;
  out_ahead = out_then u v w whole left r.lines r.entries q.entries r.blocked r.is r.given.text q.given.out r.out_ahead q.out_ahead;
}

-- the run under the answers of both parts
whole_at : (u v : Outside) (whole left : Runs) (r : IsRunning u v whole left) (later : List LogEntry) →
    whole (answers_of (r.entries ++ later)) ≡ preceded r.lines r.entries r.blocked (left (answers_of later))
whole_at u v whole left r later = ap whole (answers_of_append r.entries later) ∙ r.is (answers_of later)

pub running_broken : (u v w : Outside) (whole left : Runs) → IsRunning u v whole left → HasBroken v w left → HasBroken u w whole
running_broken u v w whole left r b =
    let here = whole_at u v whole left r b.entries in
    record {
      entries = r.entries ++ b.entries;
      later = b.later;
      done = done_then u v w r.entries b.entries r.given.done b.done;
      is = ap (λ (x : Ran). x.log) here ∙ ap (λ z. r.entries ++ z) b.is ∙ sym (append_assoc r.entries b.entries b.later);
      text = subst (WritesPart u.written w.written) (sym (ap (λ (x : Ran). x.lines) here))
          (tried-after u.written v.written w.written r.lines (left (answers_of b.entries)).lines r.given.text r.given.fit b.text);
      ahead = λ before last e. by before last e (has_last (answers_of b.entries));
      out = Extends-after u.out v.out w.out r.given.out b.out;
      out_ahead = out_then u v w whole left r.lines r.entries b.entries r.blocked r.is r.given.text b.out r.out_ahead b.out_ahead;
    }
  where
    by : (before : List Answer) (last : Answer) → answers_of (r.entries ++ b.entries) ≡ before ++ last ∷ [] → HasLast (answers_of b.entries) →
        (more : List ℕ) × (w.written ≡ appended u.written (text_of (whole before).lines ++ more))
    by before last e (HasLast.Empty none) =
        let own = r.ahead before last (sym (append-nil (answers_of r.entries)) ∙ ap (λ z. answers_of r.entries ++ z) (sym none) ∙ sym (answers_of_append r.entries b.entries) ∙ e) in
        let p = part-prefix v.written w.written (left (answers_of b.entries)).lines b.text in
        let rest = take p.count (text_of (left (answers_of b.entries)).lines) in (
          text_of own.0 ++ rest,
          p.is ∙ ap (λ m. appended m rest) r.given.text ∙ appended-appended u.written (text_of r.lines) rest
              ∙ ap (λ z. appended u.written (z ++ rest)) (ap text_of own.1 ∙ text_of_append (whole before).lines own.0)
              ∙ ap (appended u.written) (append_assoc (text_of (whole before).lines) (text_of own.0) rest),
        )
    by before last e (HasLast.Ends front end is_end) =
        let own = b.ahead front end is_end in
        let same : answers_of r.entries ++ front ≡ before =
        same_before (answers_of r.entries ++ front) before end last
        (append_assoc (answers_of r.entries) front (end ∷ []) ∙ ap (λ z. answers_of r.entries ++ z) (sym is_end) ∙ sym (answers_of_append r.entries b.entries) ∙ e) in
        let lines : text_of (whole before).lines ≡ text_of r.lines ++ text_of (left front).lines =
        ap (λ z. text_of (whole z).lines) (sym same) ∙ ap (λ (x : Ran). text_of x.lines) (r.is front) ∙ text_of_append r.lines (left front).lines in (
          own.0,
          own.1 ∙ ap (λ m. appended m (text_of (left front).lines ++ own.0)) r.given.text ∙ appended-appended u.written (text_of r.lines) (text_of (left front).lines ++ own.0)
              ∙ ap (appended u.written) (sym (append_assoc (text_of r.lines) (text_of (left front).lines) own.0) ∙ ap (λ z. z ++ own.0) (sym lines)),
        )

-- nothing of it was done
pub broken_first : (v : Outside) (whole : Runs) → HasBroken v v whole
broken_first v whole = record {
  entries = [];
  later = (whole []).log;
  done = done_nothing v;
  is = refl;
  text = tried-nothing v.written (whole []).lines;
  ahead = λ before last e. absurd (none_last before last e);
  out = Extends-nothing v.out;
  out_ahead = λ before last e. absurd (none_last before last e);
}

-- ---- a part without answers

pub part_run : (v w : Outside) (whole left : Runs) (lines : List Line) (posts : List Post) (blocked : List State) →
    ((later : List Answer) → whole later ≡ preceded lines (map logged posts) blocked (left later)) → HasGiven v w lines (map logged posts) → IsRunning v w whole left
part_run v w whole left lines posts blocked is g = record {
  lines = lines;
  entries = map logged posts;
  blocked = blocked;
  given = g;
  is = λ later. ap (λ z. whole (z ++ later)) (answers_of_logged posts) ∙ is later;
  ahead = λ before last e. absurd (none_last before last (sym (answers_of_logged posts) ∙ e));
  out_ahead = λ before last e. absurd (none_last before last (sym (answers_of_logged posts) ∙ e));
}

pub part_broken : (v w : Outside) (whole left : Runs) (lines : List Line) (posts : List Post) (blocked : List State) →
    ((later : List Answer) → whole later ≡ preceded lines (map logged posts) blocked (left later)) → HasGivenPart v w lines posts → HasBroken v w whole
part_broken v w whole left lines posts blocked is g =
    let part = g.made.part in
    let here : whole (answers_of (map logged part)) ≡ preceded lines (map logged posts) blocked (left []) = ap whole (answers_of_logged part) ∙ is [] in
    record {
      entries = map logged part;
      later = map logged g.made.later ++ (left []).log;
      done = g.made.done;
      is = ap (λ (x : Ran). x.log) here ∙ ap (λ ps. map logged ps ++ (left []).log) g.made.is ∙ ap (λ z. z ++ (left []).log) (logged_then part g.made.later)
          ∙ append_assoc (map logged part) (map logged g.made.later) (left []).log;
      text = subst (WritesPart v.written w.written) (sym (ap (λ (x : Ran). x.lines) here)) (tried-longer v.written w.written lines (left []).lines g.text);
      ahead = λ before last e. absurd (none_last before last (sym (answers_of_logged part) ∙ e));
      out = g.out;
      out_ahead = λ before last e. absurd (none_last before last (sym (answers_of_logged part) ∙ e));
    }

-- ---- a question

-- the answer was stored, and its turn line was given out
pub answered_on : (v w x : Outside) (go : GoingOn) (q : Question) (a : Answer) (s t u : State) → v.written ≡ w.written → v.out ≡ w.out → v.out ≡ v.written → IsLegal v.means.posts v.means.answers q a → Stores v.means w.means a →
    ((before : List LogEntry) → v.stands before → w.stands (before ++ LogEntry.Asked q a ∷ [])) → t ≡ take_answer a s → t.posts ≡ [] → HasGiven w x t.lines (map logged t.posts) → u ≡ silent t →
    IsRunning v x (λ later. asks go q (Source.Given later) s) (λ later. go (Source.Given later) u)
answered_on v w x go q a s t u same kept out legal stored log e none g f =
    let d = done_asked v w q a legal stored log in
    let h : HasGiven w x t.lines [] = subst (λ ps. HasGiven w x t.lines (map logged ps)) none g in
    record {
      lines = t.lines;
      entries = LogEntry.Asked q a ∷ [];
      blocked = [];
      given = record { text = h.text ∙ ap (λ m. appended m (text_of t.lines)) (sym same); out = subst (λ m. Extends m x.out) (sym kept) h.out; fit = h.fit; done = done_then v w x (LogEntry.Asked q a ∷ []) [] d h.done };
      is = λ later. goes later;
      ahead = λ before last z. (t.lines, ap (λ b. (asks go q (Source.Given b) s).lines ++ t.lines) (sym (single before last z)));
      out_ahead = λ before last z. (
        h.out.more,
        h.out.is ∙ ap (λ m. appended m h.out.more) (sym kept ∙ out) ∙ ap (λ b. appended v.written (text_of (asks go q (Source.Given b) s).lines ++ h.out.more)) (sym (single before last z)),
      );
    }
  where
    single : (before : List Answer) (last : Answer) → a ∷ [] ≡ before ++ last ∷ [] → before ≡ []
    single [] last z = refl
    single (b ∷ before) last z = absurd (none_last before last (let r : [] ≡ before ++ last ∷ [] = cc z in r))

    goes : (later : List Answer) → asks go q (Source.Given (a ∷ later)) s ≡ preceded t.lines (LogEntry.Asked q a ∷ []) [] (go (Source.Given later) u)
    goes later = subst (λ (y : State). asks go q (Source.Given (a ∷ later)) s ≡ preceded t.lines (LogEntry.Asked q a ∷ []) [] (go (Source.Given later) y)) (sym f)
        (subst (λ (y : State). asks go q (Source.Given (a ∷ later)) s ≡ preceded y.lines (LogEntry.Asked q a ∷ []) [] (go (Source.Given later) (silent y))) (sym e) refl)

-- the answer was stored, and a part of its turn line was given out, or nothing
pub answered_broken : (v w x : Outside) (go : GoingOn) (q : Question) (a : Answer) (s t : State) → v.written ≡ w.written → v.out ≡ w.out → v.out ≡ v.written → IsLegal v.means.posts v.means.answers q a → Stores v.means w.means a →
    ((before : List LogEntry) → v.stands before → w.stands (before ++ LogEntry.Asked q a ∷ [])) → t ≡ take_answer a s → WritesPart w.written x.written t.lines → Extends w.out x.out → HasDone w x [] →
    HasBroken v x (λ later. asks go q (Source.Given later) s)
answered_broken v w x go q a s t same kept out legal stored log e p k d =
    let whole = λ (later : List Answer). asks go q (Source.Given later) s in
    let first = done_asked v w q a legal stored log in
    let lines : (whole (a ∷ [])).lines ≡ t.lines ++ (go (Source.Given []) (silent (take_answer a s))).lines = ap (λ (y : State). y.lines ++ (go (Source.Given []) (silent (take_answer a s))).lines) (sym e) in
    record {
      entries = LogEntry.Asked q a ∷ [];
      later = (go (Source.Given []) (silent (take_answer a s))).log;
      done = done_then v w x (LogEntry.Asked q a ∷ []) [] first d;
      is = refl;
      text = subst (WritesPart v.written x.written) (sym lines)
          (tried-longer v.written x.written t.lines (go (Source.Given []) (silent (take_answer a s))).lines (subst (λ m. WritesPart m x.written t.lines) (sym same) p));
      ahead = λ before last z. begun before (single before last z);
      out = subst (λ m. Extends m x.out) (sym kept) k;
      out_ahead = λ before last z. (
        k.more,
        k.is ∙ ap (λ m. appended m k.more) (sym kept ∙ out) ∙ ap (λ b. appended v.written (text_of (asks go q (Source.Given b) s).lines ++ k.more)) (sym (single before last z)),
      );
    }
  where
    single : (before : List Answer) (last : Answer) → a ∷ [] ≡ before ++ last ∷ [] → before ≡ []
    single [] last z = refl
    single (b ∷ before) last z = absurd (none_last before last (let r : [] ≡ before ++ last ∷ [] = cc z in r))

    begun : (before : List Answer) → before ≡ [] → (more : List ℕ) × (x.written ≡ appended v.written (text_of (asks go q (Source.Given before) s).lines ++ more))
    begun before z =
        let k = part-prefix w.written x.written t.lines p in (
          take k.count (text_of t.lines),
          k.is ∙ ap (λ m. appended m (take k.count (text_of t.lines))) (sym same)
              ∙ ap (λ b. appended v.written (text_of (asks go q (Source.Given b) s).lines ++ take k.count (text_of t.lines))) (sym z),
        )

-- the question was refused
pub asked_refused : (v w : Outside) (go : GoingOn) (q : Question) (s : State) → v.written ≡ w.written → v.out ≡ w.out → w.means ≡ v.means → ((l : List LogEntry) → v.stands l → w.stands l) →
    HasBroken v w (λ later. asks go q (Source.Given later) s)
asked_refused v w go q s same kept e f = record {
  entries = [];
  later = [];
  done = done_refused v v w [] e f (done_nothing v);
  is = refl;
  text = subst (λ m. WritesPart v.written m []) same (tried-nothing v.written []);
  ahead = λ before last z. absurd (none_last before last z);
  out = subst (Extends v.out) kept (Extends-nothing v.out);
  out_ahead = λ before last z. absurd (none_last before last z);
}

-- the block line before it
question_part : (go : GoingOn) (b : ℕ) (q : Question) (s t u : State) → t ≡ block_line s → u ≡ silent t → (later : List Answer) →
    after_question go b (Some q) (Source.Given later) s ≡ preceded t.lines [] (blocked_at q s) (asks go q (Source.Given later) u)
question_part go b q s t u e f later =
    subst (λ (y : State). after_question go b (Some q) (Source.Given later) s ≡ preceded t.lines [] (blocked_at q s) (asks go q (Source.Given later) y)) (sym f)
    (subst (λ (y : State). after_question go b (Some q) (Source.Given later) s ≡ preceded y.lines [] (blocked_at q s) (asks go q (Source.Given later) (silent y))) (sym e) refl)

pub blocked_on : (v w : Outside) (go : GoingOn) (b : ℕ) (q : Question) (s t u : State) → t ≡ block_line s → t.posts ≡ [] → u ≡ silent t → HasGiven v w t.lines (map logged t.posts) →
    IsRunning v w (λ later. after_question go b (Some q) (Source.Given later) s) (λ later. asks go q (Source.Given later) u)
blocked_on v w go b q s t u e none f g =
    part_run v w (λ later. after_question go b (Some q) (Source.Given later) s) (λ later. asks go q (Source.Given later) u) t.lines [] (blocked_at q s) (question_part go b q s t u e f)
    (subst (λ ps. HasGiven v w t.lines (map logged ps)) none g)

pub blocked_broken : (v w : Outside) (go : GoingOn) (b : ℕ) (q : Question) (s t : State) → t ≡ block_line s → t.posts ≡ [] → HasGivenPart v w t.lines t.posts →
    HasBroken v w (λ later. after_question go b (Some q) (Source.Given later) s)
blocked_broken v w go b q s t e none g =
    part_broken v w (λ later. after_question go b (Some q) (Source.Given later) s) (λ later. asks go q (Source.Given later) (silent t)) t.lines [] (blocked_at q s)
    (question_part go b q s t (silent t) e refl) (subst (λ ps. HasGivenPart v w t.lines ps) none g)

-- ---- what a part came to

-- a part of the run was given out, and it goes on as `after` says
pub rounded : (v w : Outside) (whole : Runs) (after : Next → Runs) (goes : State → Runs) (came : Came) (p : Passed) (s : State) (blocked : List State) →
    ((later : List Answer) → whole later ≡ preceded p.lines (map logged p.posts) blocked (after p.next later)) →
    ((t : State) → after (Next.Resting t) ≡ goes t) → ((c : StopCause) (t : State) → after (Next.Over c t) ≡ (λ later. stopped c t)) →
    CameTo came p.next s → HasGiven v w p.lines (map logged p.posts) → Rounds (Ok came) v w whole goes s
rounded v w whole after goes Came.ToRest p s blocked is rest over c g =
    let r = part_run v w whole (after p.next) p.lines p.posts blocked is g in
    subst (IsRunning v w whole) (ap after c ∙ rest s) r
rounded v w whole after goes (Came.ToAnEnd cause) p s blocked is rest over c g =
    let r = part_run v w whole (after p.next) p.lines p.posts blocked is g in
    record { last = c.0; like = c.2; running = subst (IsRunning v w whole) (ap after c.1 ∙ over cause c.0) r }

-- ---- LoopExit

exit_part : (go : GoingOn) (b : ℕ) (s t : State) → t ≡ block_line s → (later : List Answer) →
    after_question go b None (Source.Given later) s ≡ preceded (loop_exit b t).lines (map logged (loop_exit b t).posts) (s ∷ []) (after_exit go (Source.Given later) (loop_exit b t).next)
exit_part go b s t e later =
    subst (λ (y : State). after_question go b None (Source.Given later) s ≡ preceded (loop_exit b y).lines (map logged (loop_exit b y).posts) (s ∷ []) (after_exit go (Source.Given later) (loop_exit b y).next))
    (sym e) refl

pub exited : (v w : Outside) (go : GoingOn) (b : ℕ) (came : Came) (s t u : State) → t ≡ block_line s →
    CameTo came (loop_exit b t).next u → HasGiven v w (loop_exit b t).lines (map logged (loop_exit b t).posts) →
    Rounds (Ok came) v w (λ later. after_question go b None (Source.Given later) s) (λ x later. go (Source.Given later) x) u
exited v w go b came s t u e c g =
    rounded v w (λ later. after_question go b None (Source.Given later) s) (λ next later. after_exit go (Source.Given later) next) (λ x later. go (Source.Given later) x) came (loop_exit b t) u (s ∷ [])
    (exit_part go b s t e) (λ x. refl) (λ k x. refl) c g

pub exited_broken : (v w : Outside) (go : GoingOn) (b : ℕ) (s t : State) → t ≡ block_line s → HasGivenPart v w (loop_exit b t).lines (loop_exit b t).posts →
    HasBroken v w (λ later. after_question go b None (Source.Given later) s)
exited_broken v w go b s t e g =
    part_broken v w (λ later. after_question go b None (Source.Given later) s) (λ later. after_exit go (Source.Given later) (loop_exit b t).next) (loop_exit b t).lines (loop_exit b t).posts (s ∷ [])
    (exit_part go b s t e) g

-- the same from where LoopExit was thrown
thrown : (b left : ℕ) (at : Stand) (t x : State) → left ≡ b - t.moves → interrupts 0 FaultKind.LoopExit t ≡ next_at at x → loop_exit b t ≡ runs left (next_at at x)
thrown b left at t x e f = ap (runs (b - t.moves)) f ∙ ap (λ n. runs n (next_at at x)) (sym e)

pub exited_at : (v w : Outside) (go : GoingOn) (b left : ℕ) (at : Stand) (came : Came) (s t x u : State) → t ≡ block_line s → left ≡ b - t.moves → interrupts 0 FaultKind.LoopExit t ≡ next_at at x →
    CameTo came (runs left (next_at at x)).next u → HasGiven v w (runs left (next_at at x)).lines (map logged (runs left (next_at at x)).posts) →
    Rounds (Ok came) v w (λ later. after_question go b None (Source.Given later) s) (λ y later. go (Source.Given later) y) u
exited_at v w go b left at came s t x u e f k c g =
    let here = sym (thrown b left at t x f k) in
    exited v w go b came s t u e (subst (λ (p : Passed). CameTo came p.next u) here c) (subst (λ (p : Passed). HasGiven v w p.lines (map logged p.posts)) here g)

pub exit_broken_at : (v w : Outside) (go : GoingOn) (b left : ℕ) (at : Stand) (s t x : State) → t ≡ block_line s → left ≡ b - t.moves → interrupts 0 FaultKind.LoopExit t ≡ next_at at x →
    HasGivenPart v w (runs left (next_at at x)).lines (runs left (next_at at x)).posts → HasBroken v w (λ later. after_question go b None (Source.Given later) s)
exit_broken_at v w go b left at s t x e f k g =
    exited_broken v w go b s t e (subst (λ (p : Passed). HasGivenPart v w p.lines p.posts) (sym (thrown b left at t x f k)) g)

-- ---- what is asked at the end of a turn

pub asked_at_end : (v w : Outside) (go : GoingOn) (b : ℕ) (q : Question) (s u : State) → Some q ≡ question s →
    IsRunning v w (λ later. after_question go b (Some q) (Source.Given later) s) (λ later. go (Source.Given later) u) →
    IsRunning v w (λ later. after_question go b (question s) (Source.Given later) s) (λ later. go (Source.Given later) u)
asked_at_end v w go b q s u e r = subst (λ (o : Option Question). IsRunning v w (λ later. after_question go b o (Source.Given later) s) (λ later. go (Source.Given later) u)) e r

pub ask_broken : (v w : Outside) (go : GoingOn) (b : ℕ) (q : Question) (s : State) → Some q ≡ question s →
    HasBroken v w (λ later. after_question go b (Some q) (Source.Given later) s) → HasBroken v w (λ later. after_question go b (question s) (Source.Given later) s)
ask_broken v w go b q s e r = subst (λ (o : Option Question). HasBroken v w (λ later. after_question go b o (Source.Given later) s)) e r

pub none_asked : (v w : Outside) (go : GoingOn) (b : ℕ) (result : Result Came Broken) (s u : State) → None ≡ question s →
    Rounds result v w (λ later. after_question go b None (Source.Given later) s) (λ y later. go (Source.Given later) y) u →
    Rounds result v w (λ later. after_question go b (question s) (Source.Given later) s) (λ y later. go (Source.Given later) y) u
none_asked v w go b result s u e r =
    subst (λ (o : Option Question). Rounds result v w (λ later. after_question go b o (Source.Given later) s) (λ y later. go (Source.Given later) y) u) e r

-- ---- turns

-- what was left came to this
pub rounds_then : (u v w : Outside) (result : Result Came Broken) (whole left : Runs) (goes : State → Runs) (s : State) → IsRunning u v whole left → Rounds result v w left goes s → Rounds result u w whole goes s
rounds_then u v w (Ok Came.ToRest) whole left goes s r q = running_then u v w whole left (goes s) r q
rounds_then u v w (Ok (Came.ToAnEnd cause)) whole left goes s r q =
    record { last = q.last; like = q.like; running = running_then u v w whole left (λ later. stopped cause q.last) r q.running }
rounds_then u v w (Err e) whole left goes s r q = running_broken u v w whole left r q

pub rests_on : (v w : Outside) (came : Came) (whole : Runs) (goes : State → Runs) (s : State) → came ≡ Came.ToRest → Rounds (Ok came) v w whole goes s → IsRunning v w whole (goes s)
rests_on v w came whole goes s e r = subst (λ (x : Came). Rounds (Ok x) v w whole goes s) e r

pub stops_at : (v w : Outside) (came : Came) (cause : StopCause) (whole : Runs) (goes : State → Runs) (s : State) → came ≡ Came.ToAnEnd cause → Rounds (Ok came) v w whole goes s → IsStopping v w whole cause s
stops_at v w came cause whole goes s e r = subst (λ (x : Came). Rounds (Ok x) v w whole goes s) e r

-- the end of a turn that came to rest
abbrev pub at_turn_end : ℕ → ℕ → State → Runs
at_turn_end n b t later = after_question (run_turns n b) b (question t) (Source.Given later) t

pub turned : (v w : Outside) (n b : ℕ) (came : Came) (s t : State) → CameTo came (turn b s).next t → HasGiven v w (turn b s).lines (map logged (turn b s).posts) →
    Rounds (Ok came) v w (from_turn (suc n) b s) (at_turn_end n b) t
turned v w n b came s t c g =
    rounded v w (from_turn (suc n) b s) (λ next later. after_turn (run_turns n b) b (Source.Given later) next) (at_turn_end n b) came (turn b s) t [] (λ later. refl) (λ x. refl) (λ k x. refl) c g

pub turned_broken : (v w : Outside) (n b : ℕ) (s : State) → HasGivenPart v w (turn b s).lines (turn b s).posts → HasBroken v w (from_turn (suc n) b s)
turned_broken v w n b s g =
    part_broken v w (from_turn (suc n) b s) (λ later. after_turn (run_turns n b) b (Source.Given later) (turn b s).next) (turn b s).lines (turn b s).posts [] (λ later. refl) g

-- the end of the turn comes to what the turn comes to
pub round_ended : (u v w : Outside) (n b : ℕ) (came : Came) (result : Result Came Broken) (s t x : State) → came ≡ Came.ToRest → Rounds (Ok came) u v (from_turn (suc n) b s) (at_turn_end n b) t →
    Rounds result v w (λ later. after_question (run_turns n b) b (question t) (Source.Given later) t) (λ y later. run_turns n b (Source.Given later) y) x →
    Rounds result u w (from_turn (suc n) b s) (from_turn n b) x
round_ended u v w n b came result s t x e r q = rounds_then u v w result (from_turn (suc n) b s) (at_turn_end n b t) (from_turn n b) x (rests_on u v came (from_turn (suc n) b s) (at_turn_end n b) t e r) q

-- one turn less is left
pub turns_left : (n b : ℕ) (s : State) → 0 < n → from_turn n b s ≡ from_turn (suc (n - 1)) b s
turns_left zero b s h = grind arith
turns_left (suc n) b s h = let one : suc n - 1 ≡ n = omega arith in rw one refl

pub next_round : (u v w : Outside) (n b : ℕ) (result : Result Came Broken) (whole : Runs) (s t : State) → 0 < n → IsRunning u v whole (from_turn n b s) →
    ((turns : ℕ) → Rounds result v w (from_turn (suc turns) b s) (from_turn turns b) t) → Rounds result u w whole (from_turn (n - 1) b) t
next_round u v w n b result whole s t h r q =
    rounds_then u v w result whole (from_turn (suc (n - 1)) b s) (from_turn (n - 1) b) t (subst (IsRunning u v whole) (turns_left n b s h) r) (q (n - 1))

pub out_of_turns : (u v : Outside) (n b : ℕ) (whole : Runs) (s : State) → n ≤ 0 → IsRunning u v whole (from_turn n b s) → IsStopping u v whole StopCause.NoTurns s
out_of_turns u v zero b whole s h r = record { last = s; like = like s; running = r }
out_of_turns u v (suc n) b whole s h r = grind arith

-- ---- the beginning

start_part : (turns moves : ℕ) (c : Scenario) (next : Next) → starts lands 0 [] (first_state c) ≡ next → (later : List Answer) →
    run c turns moves later ≡ preceded (runs moves next).lines (map logged (runs moves next).posts) [] (after_start (Source.Given later) turns moves (runs moves next).next)
start_part turns moves c next e later =
    subst (λ (x : Next). run c turns moves later ≡ preceded (runs moves x).lines (map logged (runs moves x).posts) [] (after_start (Source.Given later) turns moves (runs moves x).next)) e refl

begun_at : (c : Scenario) (at : Stand) (s t : State) → s ≡ first_state c → starts lands 0 [] s ≡ next_at at t → starts lands 0 [] (first_state c) ≡ next_at at t
begun_at c at s t e f = ap (starts lands 0 []) (sym e) ∙ f

pub began : (v w : Outside) (turns moves : ℕ) (c : Scenario) (at : Stand) (came : Came) (s t u : State) → s ≡ first_state c → starts lands 0 [] s ≡ next_at at t →
    CameTo came (runs moves (next_at at t)).next u → HasGiven v w (runs moves (next_at at t)).lines (map logged (runs moves (next_at at t)).posts) →
    Rounds (Ok came) v w (run c turns moves) (from_turn turns moves) u
began v w turns moves c at came s t u e f k g =
    rounded v w (run c turns moves) (λ next later. after_start (Source.Given later) turns moves next) (from_turn turns moves) came (runs moves (next_at at t)) u []
    (start_part turns moves c (next_at at t) (begun_at c at s t e f)) (λ x. refl) (λ k x. refl) k g

pub began_broken : (v w : Outside) (turns moves : ℕ) (c : Scenario) (at : Stand) (s t : State) → s ≡ first_state c → starts lands 0 [] s ≡ next_at at t →
    HasGivenPart v w (runs moves (next_at at t)).lines (runs moves (next_at at t)).posts → HasBroken v w (run c turns moves)
began_broken v w turns moves c at s t e f g =
    part_broken v w (run c turns moves) (λ later. after_start (Source.Given later) turns moves (runs moves (next_at at t)).next) (runs moves (next_at at t)).lines (runs moves (next_at at t)).posts []
    (start_part turns moves c (next_at at t) (begun_at c at s t e f)) g

-- the turns after it
pub ran_then : (u v w : Outside) (result : Result Ended Broken) (whole left : Runs) (s : State) → IsRunning u v whole left → RunsTo result v w left s → RunsTo result u w whole s
ran_then u v w (Ok end) whole left s r q =
    record { cause = q.cause; is_end = q.is_end; last = q.last; like = q.like; running = running_then u v w whole left (λ later. finished q.cause q.last) r q.running }
ran_then u v w (Err e) whole left s r q = running_broken u v w whole left r q

-- ---- the stop

stop_lines : (cause : StopCause) (s t : State) → AreLike s t → (stopped cause s).lines ≡ (stopped cause t).lines
stop_lines cause s t same = ap (λ (n : ℕ). Line.Stop cause n s.moves ∷ []) same.turns ∙ ap (λ (n : ℕ). Line.Stop cause t.turns n ∷ []) same.moves

-- the stop line was written
pub stopped_on : (u v w : Outside) (whole : Runs) (cause : StopCause) (end : Ended) (s : State) → IsStopping u v whole cause s →
    WritesAll v.written w.written (stopped cause s).lines → Extends v.out w.out → HasDone v w [] → end ≡ end_of cause → HasEnded u w whole end s
stopped_on u v w whole cause end s r e k d f =
    let lines = (stopped cause r.last).lines in
    let same = sym (stop_lines cause r.last s r.like) in
    let given : HasGiven v w lines [] = record { text = e.text ∙ ap (λ ls. appended v.written (text_of ls)) same; out = k; fit = subst LinesFit same e.fit; done = d } in
    let last = part_run v w (λ later. stopped cause r.last) (λ later. finished cause r.last) lines [] [] (λ later. refl) given in
    record {
      cause = cause;
      is_end = f;
      last = r.last;
      like = r.like;
      running = running_then u v w whole (λ later. stopped cause r.last) (λ later. finished cause r.last) r.running last;
    }

pub stop_broken : (u v w : Outside) (whole : Runs) (cause : StopCause) (s : State) → IsStopping u v whole cause s →
    WritesPart v.written w.written (stopped cause s).lines → Extends v.out w.out → HasDone v w [] → HasBroken u w whole
stop_broken u v w whole cause s r p k d =
    let lines = (stopped cause r.last).lines in
    let given : HasGivenPart v w lines [] = record {
      text = subst (WritesPart v.written w.written) (sym (stop_lines cause r.last s r.like)) p;
      out = k;
      made = record { part = []; later = []; is = refl; done = d };
    } in
    running_broken u v w whole (λ later. stopped cause r.last) r.running
    (part_broken v w (λ later. stopped cause r.last) (λ later. finished cause r.last) lines [] [] (λ later. refl) given)
