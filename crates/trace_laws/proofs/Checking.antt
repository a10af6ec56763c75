-- What it says of a trace that the run under the answers of a list departs from it.
use Rattle.std.proofs.Common.{◌≡◌, ◌≢◌, refl, ap, sym, ◌∙◌, subst, ℕ, ◌+◌, ◌<◌, ◌≤◌, List, [], ◌∷◌, ◌++◌, length, take, append_assoc, arith, inl, inr}
use Rattle.std.proofs.lemmas.List.{append-nil}
use Rattle.std.proofs.Math.Seq.{take-append_seam}
use Rattle.gv_values.specs.declared.job.Answer.{Answer}
use Rattle.gv_values.specs.Texts.{Text}
use Rattle.world_rules.specs.declared.question.LogEntry.{LogEntry}
use Rattle.world_rules.specs.declared.question.Question.{Question}
use Rattle.world_rules.specs.Legal.{AreLegal, IsLegal, posts_of, answers_of as answers_in}
use Rattle.world_rules.specs.Rules.{Follows, RuleState, start}
use Rattle.trace_text.specs.declared.line.Line.{Line}
use Rattle.trace_text.specs.Line.{answer_text, answers_told, line_text, text_of}
use Rattle.trace_reader.specs.Ranges.{LineFits, LinesFit}
use Rattle.machine.specs.Run.{GoOnFrom, End, Ran}
use Rattle.trace_laws.specs.Traces.{BeginsWithLine}
use Rattle.trace_laws.specs.Reads.{NamesAnswers, blanks}
use Rattle.trace_laws.specs.Check.{AreFirst, AreWhole, IsCause, IsIllegal, IsVerified, IsWrong, Runs, named_run}
use Rattle.trace_laws.specs.Seen.{IsSeen}
use Rattle.trace_laws.specs.declared.refusal.Cause.{Cause}
use Rattle.trace_laws.proofs.Answering.{AsksNext, Continues}
use Rattle.trace_laws.proofs.Judging.{AreTold, Onward, TakesInTurn, legal_front, legal_next, lines_before, not_longer, onward, stays, told_front}
use Rattle.trace_laws.proofs.Listing.{answers_log, follows_parts, listed_left, next_given}
use Rattle.trace_laws.proofs.Locating.{head_matched, head_two, located, turn_head, turn_text, turn_told}
use Rattle.trace_laws.proofs.Pieces.{NotNext, Reach, common_front, reach}
use Rattle.trace_laws.proofs.Lines.{Compared, answers_append, answers_last, compared, fit_append, fit_back, fit_front, line_last, same_back, same_turn}

-- the answers of a list that were taken, where what was taken has them all
pub all_taken : (answers taken more left : List Answer) → answers ≡ taken ++ left → taken ≡ answers ++ more → taken ≡ answers
all_taken answers taken more left e f =
    let g : [] ≡ more ++ left = same_back answers [] (more ++ left) (append-nil answers ∙ e ∙ ap (λ z. z ++ left) f ∙ append_assoc answers more left) in
    f ∙ ap (λ z. answers ++ z) (none more left g) ∙ append-nil answers
  where
    none : (xs ys : List Answer) → [] ≡ xs ++ ys → xs ≡ []
    none [] ys g = refl
    none (x ∷ xs) ys g = absurd (let z : ⊥ = cc g in z)

-- the run under these answers, which were all given by a world that answers from this list, has lines whose text
-- departs from the trace behind the matched bytes
pub record Departs (whole : Runs) (answers listed : List Answer) (matched after : Text) (byte : ℕ) : Type 0 where
  pub not_next : NotNext byte after
  pub tried : List Line
  pub later : List Line
  pub rest : Text
  pub lines_are : (whole answers).lines ≡ tried ++ later
  pub fit : LinesFit tried
  pub text_is : matched ++ byte ∷ rest ≡ text_of tried
  pub legal : AreLegal [] [] (whole answers).log
  pub part : List LogEntry
  pub others : List LogEntry
  pub log_is : (whole answers).log ≡ part ++ others
  pub answers_are : answers_in part ≡ answers
  pub state : RuleState
  pub follows : Follows 0 (start listed) part state

-- in which line
pub record DepartsAt (whole : Runs) (answers : List Answer) (matched after : Text) (byte : ℕ) (before : List Line) (front : Text) : Type 0 where
  pub next : Line
  pub tail : List Line
  pub back : Text
  pub matched_is : matched ≡ text_of before ++ front
  pub byte_is : line_text next ++ 10 ∷ [] ≡ front ++ byte ∷ back
  pub lines_are : (whole answers).lines ≡ before ++ next ∷ tail
  pub fit : LinesFit before
  pub fits : LineFits next
  pub answers_are : answers ≡ answers_told before ++ answers_told (next ∷ tail)
  pub told : AreTold whole before

pub departs_at : (whole : Runs) → TakesInTurn whole → (answers listed : List Answer) (matched after : Text) (byte : ℕ) → Departs whole answers listed matched after byte →
    (before : List Line) × (front : Text) × DepartsAt whole answers matched after byte before front
departs_at whole t answers listed matched after byte d =
    let l = located matched byte d.rest d.tried d.text_is in
    let tail = l.after ++ d.later in
    let lines : (whole answers).lines ≡ l.before ++ l.next ∷ tail = d.lines_are ∙ ap (λ ls. ls ++ d.later) l.is ∙ append_assoc l.before (l.next ∷ l.after) d.later in
    let fits = subst LinesFit l.is d.fit in
    let all : answers_told (whole answers).lines ≡ answers =
    t.told answers
    ∙ all_taken answers (answers_in (whole answers).log) (answers_in d.others) (t.takes answers).left (t.takes answers).are
    (ap answers_in d.log_is ∙ answers_log d.part d.others ∙ ap (λ z. z ++ answers_in d.others) d.answers_are) in
    let own : named_run whole (whole answers).lines ≡ whole answers = ap whole all in
    let whole_told : AreTold whole (whole answers).lines = record {
      first = record { rest = []; is = ap (λ (r : Ran). r.lines) own ∙ sym (append-nil (whole answers).lines) };
      legal = subst (λ (r : Ran). AreLegal [] [] r.log) (sym own) d.legal;
    } in (
      l.before,
      l.front,
      record {
        next = l.next;
        tail = tail;
        back = l.back;
        matched_is = l.matched;
        byte_is = l.byte;
        lines_are = lines;
        fit = fit_front l.before (l.next ∷ l.after) fits;
        fits = (fit_back l.before (l.next ∷ l.after) fits).0;
        answers_are = sym all ∙ ap answers_told lines ∙ answers_append l.before (l.next ∷ tail);
        told = told_front whole t l.before (l.next ∷ tail) (subst (AreTold whole) lines whole_told);
      },
    )

-- ---- where the run departs

-- the run has not stopped there
goes_on : (whole : Runs) → TakesInTurn whole → (answers : List Answer) (matched after : Text) (byte : ℕ) (before : List Line) (front : Text) →
    DepartsAt whole answers matched after byte before front → ¬ AreWhole whole before
goes_on whole t answers matched after byte before front d w =
    let same : whole answers ≡ named_run whole before = ap whole d.answers_are ∙ stays whole t (answers_told before) (answers_told (d.next ∷ d.tail)) w.stops in
    not_longer before d.next d.tail (sym w.lines_are ∙ ap (λ (r : Ran). r.lines) (sym same) ∙ d.lines_are)

-- the next line is not that of the run
other_line : (whole : Runs) (answers : List Answer) (matched after : Text) (byte : ℕ) (before : List Line) (front : Text) → NotNext byte after →
    (d : DepartsAt whole answers matched after byte before front) (l : Line) → BeginsWithLine (front ++ after) l → l ≢ d.next
other_line whole answers matched after byte before front n d l b e =
    let text : front ++ after ≡ (front ++ byte ∷ d.back) ++ b.more =
    b.is ∙ ap (λ (z : Line). line_text z ++ 10 ∷ b.more) e ∙ sym (append_assoc (line_text d.next) (10 ∷ []) b.more) ∙ ap (λ z. z ++ b.more) d.byte_is in
    n (d.back ++ b.more) (same_back front after (byte ∷ (d.back ++ b.more)) (text ∙ append_assoc front (byte ∷ d.back) b.more))

-- more answers only lengthen the lines
lengthens : (whole : Runs) → TakesInTurn whole → (answers more : List Answer) → GoOnFrom (whole (answers ++ more)).lines (whole answers).lines
lengthens whole t answers more = by (whole answers).end (t.goes answers) more
  where
    by : (end : End) → Continues end answers (whole answers) (λ later. whole (answers ++ later)) → (more : List Answer) → GoOnFrom (whole (answers ++ more)).lines (whole answers).lines
    by (End.Stopped cause) h more = record { rest = []; is = ap (λ (r : Ran). r.lines) (h more) ∙ sym (append-nil (whole answers).lines) }
    by End.Asking h [] = record { rest = []; is = ap (λ z. (whole z).lines) (append-nil answers) ∙ sym (append-nil (whole answers).lines) }
    by End.Asking h (a ∷ more) = record { rest = Line.Turn h.number a ∷ (h.next a more).lines; is = (h.next a more).lines_are }

-- the head of what stands behind the same lines
same_next : (before : List Line) (l m : Line) (xs ys : List Line) → before ++ l ∷ xs ≡ before ++ m ∷ ys → l ≡ m
same_next before l m xs ys e = let f : l ∷ xs ≡ m ∷ ys = same_back before (l ∷ xs) (m ∷ ys) e in let z : l ≡ m = cc f in z

-- a line that is not a turn line of the run's number is not the first of the run
not_first : (whole : Runs) → TakesInTurn whole → (answers : List Answer) (matched after : Text) (byte : ℕ) (before : List Line) (front : Text) → NotNext byte after →
    DepartsAt whole answers matched after byte before front → (l : Line) → BeginsWithLine (front ++ after) l →
    ((k : ℕ) (a : Answer) → l ≡ Line.Turn k a → blanks front < 2) → ¬ AreFirst whole (before ++ l ∷ [])
not_first whole t answers matched after byte before front n d l b near g = by (onward whole t before l)
  where
    other : l ≢ d.next
    other = other_line whole answers matched after byte before front n d l b

    same : named_run whole (before ++ l ∷ []) ≡ named_run whole before → ⊥
    same e =
        let more = lengthens whole t (answers_told before) (answers_told (d.next ∷ d.tail)) in
        let lines : before ++ d.next ∷ d.tail ≡ before ++ l ∷ (g.rest ++ more.rest) =
        sym d.lines_are ∙ ap (λ z. (whole z).lines) d.answers_are ∙ more.is
        ∙ ap (λ ls. ls ++ more.rest) (ap (λ (r : Ran). r.lines) (sym e) ∙ g.is ∙ append_assoc before (l ∷ []) g.rest) ∙ append_assoc before (l ∷ g.rest) more.rest in
        other (sym (same_next before d.next l d.tail (g.rest ++ more.rest) lines))

    -- the run goes on with a turn line of this number
    turn : (k : ℕ) (a c : Answer) → l ≡ Line.Turn k a → d.next ≡ Line.Turn k c → ⊥
    turn k a c e f =
        let q = answer_text c ++ 10 ∷ [] in
        let p = answer_text a ++ 10 ∷ b.more in
        let run : front ++ byte ∷ d.back ≡ (turn_head k ++ 32 ∷ []) ++ q =
        sym d.byte_is ∙ ap (λ (z : Line). line_text z ++ 10 ∷ []) f ∙ turn_text k c (10 ∷ []) ∙ sym (append_assoc (turn_head k) (32 ∷ []) q) in
        let trace : front ++ after ≡ (turn_head k ++ 32 ∷ []) ++ p =
        b.is ∙ ap (λ (z : Line). line_text z ++ 10 ∷ b.more) e ∙ turn_text k a (10 ∷ b.more) ∙ sym (append_assoc (turn_head k) (32 ∷ []) p) in
        let m = common_front front byte d.back after (turn_head k ++ 32 ∷ []) p q n run trace in
        let far : 2 ≤ blanks front = subst (λ z. 2 ≤ blanks z) (sym (m.1 ∙ append_assoc (turn_head k) (32 ∷ []) m.0)) (head_two k m.0) in
        let few : blanks front < 2 = near k a e in
        absurd (omega arith)

    asked : (k : ℕ) (a : Answer) → l ≡ Line.Turn k a → (h : AsksNext (answers_told before) (named_run whole before) (λ more. whole (answers_told before ++ more))) →
        (named_run whole before).lines ≡ before → h.number ≡ k → (rest : List Answer) → answers ≡ answers_told before ++ rest → ⊥
    asked k a e h same number [] f =
        not_longer before d.next d.tail (sym same ∙ ap (λ z. (whole z).lines) (sym (append-nil (answers_told before)) ∙ sym f) ∙ d.lines_are)
    asked k a e h same number (c ∷ rest) f =
        let s = h.next c rest in
        let lines : before ++ d.next ∷ d.tail ≡ before ++ Line.Turn k c ∷ s.lines =
        sym d.lines_are ∙ ap (λ z. (whole z).lines) f ∙ s.lines_are ∙ ap (λ ls. ls ++ Line.Turn h.number c ∷ s.lines) same
        ∙ ap (λ i. before ++ Line.Turn i c ∷ s.lines) number in
        turn k a c e (same_next before d.next (Line.Turn k c) d.tail s.lines lines)

    by : Onward whole before l → ⊥
    by (Onward.Silent x e) = same e
    by (Onward.Stopped x e) = same e
    by (Onward.Asked k a e end h f) =
        let s = lines_before whole t before l k a e h g.rest (ap (λ (r : Ran). r.lines) (sym f) ∙ g.is) in
        asked k a e h s.0 s.1 (answers_told (d.next ∷ d.tail)) d.answers_are

-- ---- an answer that is not legal

-- no list is a front of itself with more
no_more : (w left : List Answer) (a : Answer) (rest : List Answer) → w ≡ (w ++ left) ++ a ∷ rest → ⊥
no_more w left a rest e =
    let f : [] ≡ left ++ a ∷ rest = same_back w [] (left ++ a ∷ rest) (append-nil w ∙ e ∙ append_assoc w left (a ∷ rest)) in
    nothing left f
  where
    nothing : (xs : List Answer) → [] ≡ xs ++ a ∷ rest → ⊥
    nothing [] f = cc f
    nothing (x ∷ xs) f = cc f

-- the run under fewer answers than the run took asks
asks_there : (whole : Runs) → TakesInTurn whole → (answers : List Answer) (a : Answer) (rest : List Answer) →
    answers_told (whole (answers ++ a ∷ rest)).lines ≡ answers ++ a ∷ rest → AsksNext answers (whole answers) (λ more. whole (answers ++ more))
asks_there whole t answers a rest all = by (whole answers).end (t.goes answers)
  where
    by : (end : End) → Continues end answers (whole answers) (λ more. whole (answers ++ more)) → AsksNext answers (whole answers) (λ more. whole (answers ++ more))
    by End.Asking h = h
    by (End.Stopped cause) h =
        let own = t.takes answers in
        let w = answers_in (whole answers).log in
        let e : w ≡ answers ++ a ∷ rest = sym (t.told answers) ∙ ap (λ (r : Ran). answers_told r.lines) (sym (h (a ∷ rest))) ∙ all in
        absurd (no_more w own.left a rest (e ∙ ap (λ z. z ++ a ∷ rest) own.are))

-- the list goes on behind these lines with the answer of the next one
listed_next : (trace : Text) (listed : List Answer) (n : NamesAnswers trace listed) (before : List Line) (l : Line) (more : Text) → LinesFit before → LineFits l →
    trace ≡ text_of before ++ (line_text l ++ 10 ∷ more) → (rest : List Answer) × (listed ≡ answers_told (before ++ l ∷ []) ++ rest)
listed_next trace listed n before l more h k e =
    by (compared (before ++ l ∷ []) more n.lines n.rest (fit_append before (l ∷ []) h (k, tt)) n.fit (line_last before l more ∙ sym e ∙ n.is))
  where
    by : Compared (before ++ l ∷ []) more n.lines n.rest → (rest : List Answer) × (listed ≡ answers_told (before ++ l ∷ []) ++ rest)
    by (Compared.Same f g) = ([], n.answers_are ∙ ap answers_told (sym f) ∙ sym (append-nil (answers_told (before ++ l ∷ []))))
    by (Compared.Longer m ms f b) = (answers_told (m ∷ ms), n.answers_are ∙ ap answers_told f ∙ answers_append (before ++ l ∷ []) (m ∷ ms))
    by (Compared.Shorter m ms f b) = absurd (n.none m b)

-- a world that answers from a list, and gave c behind this log in place of the listed a, found that this is not legal
given_other : (whole : Runs) (answers listed : List Answer) (matched after : Text) (byte : ℕ) → Departs whole answers listed matched after byte → (q : Question) (log later : List LogEntry)
    (c a : Answer) (rest more : List Answer) → (whole answers).log ≡ log ++ LogEntry.Asked q c ∷ later → answers ≡ answers_in log ++ c ∷ rest → listed ≡ answers_in log ++ a ∷ more → c ≢ a →
    ¬ IsLegal (posts_of log) (answers_in log) q a
given_other whole answers listed matched after byte d q log later c a rest more is all next other legal =
    by (reach d.part d.others log (LogEntry.Asked q c) later (sym d.log_is ∙ is))
  where
    by : Reach d.part log (LogEntry.Asked q c) → ⊥
    by (Reach.Within others g) =
        let w = answers_in log in
        no_more w [] c (rest ++ answers_in others)
        (ap answers_in g ∙ answers_log d.part others ∙ ap (λ z. z ++ answers_in others) (d.answers_are ∙ all) ∙ append_assoc w (c ∷ rest) (answers_in others)
        ∙ ap (λ z. z ++ c ∷ (rest ++ answers_in others)) (sym (append-nil w)))
    by (Reach.Past others g) =
        let f = follows_parts 0 (start listed) log (LogEntry.Asked q c ∷ others) d.state (subst (λ z. Follows 0 (start listed) z d.state) g d.follows) in
        let before = legal_front [] [] log (LogEntry.Asked q c ∷ later) (subst (λ z. AreLegal [] [] z) is d.legal) in
        let s = listed_left 0 log (start listed) f.0 (a ∷ more) f.1 before next in
        elim (next_given 0 f.0 d.state q c others a more f.2 s.listed) [
          | inl same ↦ other same
          | inr illegal ↦ illegal (subst (λ ps. IsLegal ps f.0.answers q a) (sym s.posts) (subst (λ z. IsLegal (posts_of log) z q a) (sym s.answers) legal))
        ]

-- the turn line is the run's, also under its own answer, and that answer is not legal
pub not_legal : (whole : Runs) → TakesInTurn whole → (trace : Text) (answers listed : List Answer) (matched after : Text) (byte : ℕ) (before : List Line) (front : Text) →
    NamesAnswers trace listed → Departs whole answers listed matched after byte → DepartsAt whole answers matched after byte before front → trace ≡ text_of before ++ (front ++ after) →
    (k : ℕ) (a : Answer) → BeginsWithLine (front ++ after) (Line.Turn k a) → 2 ≤ blanks front → IsIllegal whole before (front ++ after)
not_legal whole t trace answers listed matched after byte before front n d at e k a b far = turned told.0 told.1
  where
    l : Line
    l = Line.Turn k a

    -- the line of the run has the same number
    reached : (more : Text) × (front ≡ turn_head k ++ 32 ∷ more)
    reached = head_matched front after k (answer_text a ++ 10 ∷ b.more) (b.is ∙ turn_text k a (10 ∷ b.more)) far

    told : (c : Answer) × (at.next ≡ Line.Turn k c)
    told =
        turn_told at.next k (reached.0 ++ byte ∷ at.back) at.fits b.fits.0
        (at.byte_is ∙ ap (λ z. z ++ byte ∷ at.back) reached.1 ∙ append_assoc (turn_head k) (32 ∷ reached.0) (byte ∷ at.back))

    other : l ≢ at.next
    other = other_line whole answers matched after byte before front d.not_next at l b

    here : (rest : List Answer) × (listed ≡ answers_told (before ++ l ∷ []) ++ rest)
    here = listed_next trace listed n before l b.more at.fit b.fits (e ∙ ap (λ z. text_of before ++ z) b.is)

    more : List Answer
    more = here.0

    next_listed : listed ≡ answers_told before ++ a ∷ more
    next_listed = here.1 ∙ ap (λ z. z ++ more) (answers_last before l) ∙ append_assoc (answers_told before) (a ∷ []) more

    turned : (c : Answer) → at.next ≡ Line.Turn k c → IsIllegal whole before (front ++ after)
    turned c f =
        let alpha = answers_told before in
        let rest = answers_told at.tail in
        let all : answers ≡ alpha ++ c ∷ rest = at.answers_are ∙ ap (λ (z : Line). alpha ++ answers_told (z ∷ at.tail)) f in
        let lines : (whole (alpha ++ c ∷ rest)).lines ≡ before ++ Line.Turn k c ∷ at.tail = ap (λ z. (whole z).lines) (sym all) ∙ at.lines_are ∙ ap (λ (z : Line). before ++ z ∷ at.tail) f in
        let h = asks_there whole t alpha c rest (ap answers_told lines ∙ answers_append before (Line.Turn k c ∷ at.tail)) in
        let run = h.next c rest in
        let same = same_turn (whole alpha).lines before run.lines at.tail h.number k c c (sym run.lines_are ∙ lines) (t.told alpha ∙ h.taken) in
        let own = h.next a [] in
        let named : named_run whole (before ++ l ∷ []) ≡ whole (alpha ++ a ∷ []) = ap whole (answers_last before l) in
        record {
          line = l;
          begins = b;
          first = record {
            rest = own.lines;
            is = ap (λ (r : Ran). r.lines) named ∙ own.lines_are ∙ ap (λ ls. ls ++ Line.Turn h.number a ∷ own.lines) same.0 ∙ ap (λ i. before ++ Line.Turn i a ∷ own.lines) same.1
                ∙ sym (append_assoc before (l ∷ []) own.lines);
          };
          illegal = λ legal.
              let posts = posts_of (whole alpha).log in
              let given = answers_in (whole alpha).log in
              let is_legal : IsLegal posts given h.question a =
              legal_next [] [] (whole alpha).log h.question a own.later (subst (λ log. AreLegal [] [] log) own.log_is (subst (λ (r : Ran). AreLegal [] [] r.log) named legal)) in
              let log : (whole answers).log ≡ (whole alpha).log ++ LogEntry.Asked h.question c ∷ run.later = ap (λ z. (whole z).log) all ∙ run.log_is in
              given_other whole answers listed matched after byte d h.question (whole alpha).log run.later c a rest more log (all ∙ ap (λ z. z ++ c ∷ rest) (sym h.taken))
              (next_listed ∙ ap (λ z. z ++ a ∷ more) (sym h.taken)) (λ same. other (ap (λ z. Line.Turn k z) (sym same) ∙ sym f)) is_legal;
        }

-- ---- what is seen

-- the line at which the run departs from the trace is wrong, and its cause is as it is seen
pub seen_wrong : (whole : Runs) → TakesInTurn whole → (trace : Text) (answers listed : List Answer) (matched after : Text) (byte : ℕ) (before : List Line) (front : Text) (cause : Cause) →
    NamesAnswers trace listed → Departs whole answers listed matched after byte → DepartsAt whole answers matched after byte before front → trace ≡ text_of before ++ (front ++ after) →
    IsSeen (front ++ after) (length front) cause → IsWrong whole trace (length before + 1) cause
seen_wrong whole t trace answers listed matched after byte before front cause n d at e seen = record {
  before = before;
  rest = front ++ after;
  fit = at.fit;
  text = e;
  first = at.told.first;
  legal = at.told.legal;
  line_is = refl;
  cause_is = by cause seen;
}
  where
    onwards : ¬ AreWhole whole before
    onwards = goes_on whole t answers matched after byte before front at

    matched_front : take (length front) (front ++ after) ≡ front
    matched_front = take-append_seam front after

    by : (c : Cause) → IsSeen (front ++ after) (length front) c → IsCause whole before (front ++ after) c
    by Cause.TooShort s = (s, onwards)
    by Cause.PastEnd s = absurd s
    by Cause.NotALine s = (s.0, onwards, s.1)
    by Cause.NotLegal s =
        (onwards, not_legal whole t trace answers listed matched after byte before front n d at e s.number s.answer s.begins (subst (λ z. 2 ≤ blanks z) matched_front s.far))
    by Cause.OtherLine s = (
      onwards,
      record {
        line = s.line;
        begins = s.begins;
        other = not_first whole t answers matched after byte before front d.not_next at s.line s.begins (λ k a f. subst (λ z. blanks z < 2) matched_front (s.near k a f));
      },
    )

-- ---- a run that stopped

-- the whole run stands at the front of the trace
pub record Stands (whole : Runs) (answers : List Answer) (trace rest : Text) : Type 0 where
  pub text_is : trace ≡ text_of (whole answers).lines ++ rest
  pub fit : LinesFit (whole answers).lines
  pub stops : (whole answers).end ≢ End.Asking
  pub legal : AreLegal [] [] (whole answers).log
  pub taken : answers_in (whole answers).log ≡ answers

own_run : (whole : Runs) → TakesInTurn whole → (answers : List Answer) (trace rest : Text) → Stands whole answers trace rest → named_run whole (whole answers).lines ≡ whole answers
own_run whole t answers trace rest s = ap whole (t.told answers ∙ s.taken)

are_whole : (whole : Runs) → TakesInTurn whole → (answers : List Answer) (trace rest : Text) → Stands whole answers trace rest → AreWhole whole (whole answers).lines
are_whole whole t answers trace rest s =
    let own = own_run whole t answers trace rest s in
    record { lines_are = ap (λ (r : Ran). r.lines) own; stops = subst (λ (r : Ran). r.end ≢ End.Asking) (sym own) s.stops }

pub verified : (whole : Runs) → TakesInTurn whole → (answers : List Answer) (trace rest : Text) → Stands whole answers trace rest → rest ≡ [] →
    IsVerified whole trace (length (whole answers).lines)
verified whole t answers trace rest s e = record {
  lines = (whole answers).lines;
  fit = s.fit;
  text = s.text_is ∙ ap (λ r. text_of (whole answers).lines ++ r) e ∙ append-nil (text_of (whole answers).lines);
  count_is = refl;
  are_whole = are_whole whole t answers trace rest s;
  legal = subst (λ (r : Ran). AreLegal [] [] r.log) (sym (own_run whole t answers trace rest s)) s.legal;
}

pub past_end : (whole : Runs) → TakesInTurn whole → (answers : List Answer) (trace rest : Text) → Stands whole answers trace rest → rest ≢ [] →
    IsWrong whole trace (length (whole answers).lines + 1) Cause.PastEnd
past_end whole t answers trace rest s n =
    let own = own_run whole t answers trace rest s in
    record {
      before = (whole answers).lines;
      rest = rest;
      fit = s.fit;
      text = s.text_is;
      first = record { rest = []; is = ap (λ (r : Ran). r.lines) own ∙ sym (append-nil (whole answers).lines) };
      legal = subst (λ (r : Ran). AreLegal [] [] r.log) (sym own) s.legal;
      line_is = refl;
      cause_is = (n, are_whole whole t answers trace rest s);
    }
