-- What is read of the text of a line.
use Rattle.std.proofs.Common.{◌≡◌, ℕ, ◌^◌, ◌<◌, true, [], ◌∷◌, ◌++◌, Option, Some, None, codes, refl, ap, sym, ◌∙◌, append_assoc}
use Rattle.std.proofs.lemmas.List.{append-nil}
use Rattle.gv_values.specs.declared.fault.FaultKind.{FaultKind}
use Rattle.gv_values.specs.declared.value.Value.{Value}
use Rattle.gv_values.specs.declared.value.Outcome.{Outcome}
use Rattle.gv_values.specs.declared.value.Whom.{Whom}
use Rattle.gv_values.specs.declared.job.Answer.{Answer}
use Rattle.gv_values.specs.declared.job.Job.{Job}
use Rattle.gv_values.specs.declared.job.JobOutcome.{JobOutcome}
use Rattle.gv_values.specs.Texts.{Text, decimal, int_text, fault_text, value_text, outcome_text, greenlet_text, job_text, whom_text}
use Rattle.trace_text.specs.declared.line.Awaited.{Awaited}
use Rattle.trace_text.specs.declared.line.Blocked.{Blocked}
use Rattle.trace_text.specs.declared.line.Line.{Line}
use Rattle.trace_text.specs.declared.line.LinkCall.{LinkCall}
use Rattle.trace_text.specs.declared.line.Resumed.{Resumed}
use Rattle.trace_text.specs.declared.line.StopCause.{StopCause}
use Rattle.trace_text.specs.Line.{line_text, awaited_text, until_text, link_call_text, job_call_text, blocked_text, job_outcome_text, answer_text, cause_text}
use Rattle.trace_reader.specs.Ranges.{FaultFits, ValueFits, OutcomeFits, WhomFits, NameFits, AwaitedFits, UntilFits, LinkCallFits, JobFits, BlockedFits, JobOutcomeFits, AnswerFits, CauseFits, LineFits}
use Rattle.trace_reader.specs.Fronts.{Front, and_then, after, or_else, strip, number_front, small_front, greenlet_front, job_front, int_front, name_front}
use Rattle.trace_reader.specs.ValueFronts.{fault_front, starts_numeral, value_front, outcome_front}
use Rattle.trace_reader.specs.LineFronts.{whom_front, awaited_front, joined_front, named_front, queued_front, grouped_front, channel_front, until_front, link_call_front, job_call_front, blocked_front, job_outcome_front, done_front, answer_front, cause_front, limit_front, of_greenlet, start_front, print_front, park_front, throw_front, into_front, end_front, link_front, job_line_front, turn_front, stop_front, greenlet_line_front, resumed_line_front, line_front}
use Rattle.trace_reader.proofs.Readers.{Stops, Ends, and_then-is, number_read, small_read, greenlet_read, job_read, int_read, name_read, decimal_start}
use Rattle.trace_reader.proofs.ValueReaders.{digit_starts, fault_read, value_read, outcome_read}

-- what ends a word stops a number
ends_stop : (r : Text) → Ends r → Stops r
ends_stop [] e = tt
ends_stop (b ∷ bs) e = rw e

spaced : (a b r : Text) → ((a ++ codes " ") ++ b) ++ r ≡ a ++ 32 ∷ (b ++ r)
spaced a b r = append_assoc (a ++ codes " ") b r ∙ append_assoc a (codes " ") (b ++ r)

spaced_twice : (a b c r : Text) → ((((a ++ codes " ") ++ b) ++ codes " ") ++ c) ++ r ≡ a ++ 32 ∷ (b ++ 32 ∷ (c ++ r))
spaced_twice a b c r = spaced ((a ++ codes " ") ++ b) c r ∙ spaced a b (32 ∷ (c ++ r))

whom_read : (w : Whom) (r : Text) → WhomFits w → Stops r → whom_front (whom_text w ++ r) ≡ Some (w, r)
unfolding whom_front or_else after strip
whom_read (Whom.Greenlet g) r h e = and_then-is (small_front (decimal g ++ r)) g r _ (small_read g r h e)
whom_read (Whom.Job j) r h e = and_then-is (small_front (decimal j ++ r)) j r _ (small_read j r h e)

awaited_read : (a : Awaited) (r : Text) → AwaitedFits a → Ends r → awaited_front (awaited_text a ++ r) ≡ Some (a, r)
unfolding awaited_front joined_front named_front queued_front grouped_front channel_front or_else after strip
awaited_read Awaited.Sleep r h e = refl
awaited_read (Awaited.Join w) r h e = and_then-is (whom_front (whom_text w ++ r)) w r _ (whom_read w r h (ends_stop r e))
awaited_read (Awaited.Get w) r h e = and_then-is (whom_front (whom_text w ++ r)) w r _ (whom_read w r h (ends_stop r e))
awaited_read (Awaited.Kill w) r h e = and_then-is (whom_front (whom_text w ++ r)) w r _ (whom_read w r h (ends_stop r e))
awaited_read Awaited.JoinAll r h e = refl
awaited_read Awaited.KillAll r h e = refl
awaited_read (Awaited.Wait n) r h e = and_then-is (name_front (n ++ r)) n r _ (name_read n r h e)
awaited_read (Awaited.ResultGet n) r h e = and_then-is (name_front (n ++ r)) n r _ (name_read n r h e)
awaited_read (Awaited.ResultWait n) r h e = and_then-is (name_front (n ++ r)) n r _ (name_read n r h e)
awaited_read (Awaited.Acquire n) r h e = and_then-is (name_front (n ++ r)) n r _ (name_read n r h e)
awaited_read (Awaited.QueuePut n) r h e = and_then-is (name_front (n ++ r)) n r _ (name_read n r h e)
awaited_read (Awaited.QueueGet n) r h e = and_then-is (name_front (n ++ r)) n r _ (name_read n r h e)
awaited_read (Awaited.QueuePeek n) r h e = and_then-is (name_front (n ++ r)) n r _ (name_read n r h e)
awaited_read (Awaited.QueueJoin n) r h e = and_then-is (name_front (n ++ r)) n r _ (name_read n r h e)
awaited_read (Awaited.GroupSpawn n) r h e = and_then-is (name_front (n ++ r)) n r _ (name_read n r h e)
awaited_read (Awaited.GroupJoin n) r h e = and_then-is (name_front (n ++ r)) n r _ (name_read n r h e)
awaited_read (Awaited.GroupKill n) r h e = and_then-is (name_front (n ++ r)) n r _ (name_read n r h e)
awaited_read (Awaited.Map n) r h e = and_then-is (name_front (n ++ r)) n r _ (name_read n r h e)
awaited_read (Awaited.NativeSpawn n) r h e = and_then-is (name_front (n ++ r)) n r _ (name_read n r h e)
awaited_read (Awaited.ChannelPut n) r h e = and_then-is (name_front (n ++ r)) n r _ (name_read n r h e)
awaited_read (Awaited.ChannelGet n) r h e = and_then-is (name_front (n ++ r)) n r _ (name_read n r h e)

until_ends : (u : Option ℕ) → Ends (until_text u ++ [])
until_ends None = tt
until_ends (Some t) = refl

until_read : (u : Option ℕ) → UntilFits u → until_front (until_text u ++ []) ≡ Some (u, [])
unfolding until_front or_else strip
until_read None h = refl
until_read (Some t) h = and_then-is (number_front (decimal t ++ [])) t [] _ (number_read t [] h tt)

link_call_read : (c : LinkCall) → LinkCallFits c → link_call_front (link_call_text c ++ []) ≡ Some (c, [])
unfolding link_call_front or_else strip
link_call_read (LinkCall.Greenlet g) h = and_then-is (greenlet_front (greenlet_text g ++ [])) g [] _ (greenlet_read g [] h tt)
link_call_read (LinkCall.Mark n) h = and_then-is (small_front (decimal n ++ [])) n [] _ (small_read n [] h tt)
link_call_read (LinkCall.Set n) h = and_then-is (name_front (n ++ [])) n [] _ (name_read n [] h tt)

job_call_read : (j : Job) → JobFits j → job_call_front (job_call_text j ++ []) ≡ Some (j, [])
unfolding job_call_front or_else after strip
job_call_read (Job.Sum z) h = and_then-is (int_front (int_text z ++ [])) z [] _ (int_read z [] h tt)
job_call_read (Job.Collatz z) h = and_then-is (int_front (int_text z ++ [])) z [] _ (int_read z [] h tt)
job_call_read (Job.Fail z) h = and_then-is (int_front (int_text z ++ [])) z [] _ (int_read z [] h tt)
job_call_read (Job.Echo z) h = and_then-is (int_front (int_text z ++ [])) z [] _ (int_read z [] h tt)

block_number : (t : ℕ) → blocked_front (decimal t ++ []) ≡ and_then (number_front (decimal t ++ [])) (λ n rest. Some (Blocked.Until n, rest))
unfolding blocked_front
block_number t = let digit : starts_numeral (decimal t ++ []) ≡ true = digit_starts (decimal t ++ []) (decimal_start t []) in rw digit

block_word : (b : Blocked) → BlockedFits b → blocked_front (blocked_text b ++ []) ≡ Some (b, [])
unfolding blocked_front or_else after strip starts_numeral
block_word (Blocked.Until t) h = block_number t ∙ and_then-is (number_front (decimal t ++ [])) t [] _ (number_read t [] h tt)
block_word Blocked.Jobs h = refl
block_word Blocked.Nothing h = refl

job_outcome_read : (o : JobOutcome) → JobOutcomeFits o → job_outcome_front (job_outcome_text o ++ []) ≡ Some (o, [])
unfolding job_outcome_front or_else after strip
job_outcome_read (JobOutcome.Int z) h = and_then-is (int_front (int_text z ++ [])) z [] _ (int_read z [] h tt)
job_outcome_read (JobOutcome.Fault f) h = and_then-is (fault_front (fault_text f ++ [])) f [] _ (fault_read f [] h)

done_read : (j : ℕ) (o : JobOutcome) (at : ℕ) → j < 2 ^ 32 → JobOutcomeFits o → at < 2 ^ 64 →
    done_front (job_text j ++ 32 ∷ (decimal at ++ 32 ∷ (job_outcome_text o ++ []))) ≡ Some (Answer.Done j o at, [])
unfolding done_front after strip
done_read j o at hj ho ha =
    and_then-is (job_front (job_text j ++ 32 ∷ (decimal at ++ 32 ∷ (job_outcome_text o ++ [])))) j (32 ∷ (decimal at ++ 32 ∷ (job_outcome_text o ++ []))) _ (job_read j (32 ∷ (decimal at ++ 32 ∷ (job_outcome_text o ++ []))) hj refl)
    ∙ and_then-is (number_front (decimal at ++ 32 ∷ (job_outcome_text o ++ []))) at (32 ∷ (job_outcome_text o ++ [])) _ (number_read at (32 ∷ (job_outcome_text o ++ [])) ha refl)
    ∙ and_then-is (job_outcome_front (job_outcome_text o ++ [])) o [] _ (job_outcome_read o ho)

answer_read : (a : Answer) → AnswerFits a → answer_front (answer_text a ++ []) ≡ Some (a, [])
unfolding answer_front or_else after strip
answer_read (Answer.Nothing at) h = and_then-is (number_front (decimal at ++ [])) at [] _ (number_read at [] h tt)
answer_read (Answer.Elapsed at) h = and_then-is (number_front (decimal at ++ [])) at [] _ (number_read at [] h tt)
answer_read (Answer.Done j o at) h = ap done_front (spaced_twice (job_text j) (decimal at) (job_outcome_text o) []) ∙ done_read j o at h.0 h.1 h.2

cause_read : (c : StopCause) (r : Text) → CauseFits c → Stops r → cause_front (cause_text c ++ r) ≡ Some (c, r)
unfolding cause_front limit_front or_else after strip
cause_read (StopCause.Value v) r h e = and_then-is (value_front (value_text v ++ r)) v r _ (value_read v r h e)
cause_read (StopCause.Fault f) r h e = and_then-is (fault_front (fault_text f ++ r)) f r _ (fault_read f r h)
cause_read StopCause.NoTurns r h e = refl
cause_read StopCause.NoMoves r h e = refl
cause_read StopCause.NoGreenlets r h e = refl
cause_read StopCause.NoLinks r h e = refl
cause_read StopCause.NoKills r h e = refl

of_greenlet_read : {B : Type 0} (next : ℕ → Text → Front B) (g : ℕ) (t : Text) → g < 2 ^ 32 → of_greenlet next (greenlet_text g ++ 32 ∷ t) ≡ next g t
unfolding after strip
of_greenlet_read next g t h = and_then-is (greenlet_front (greenlet_text g ++ 32 ∷ t)) g (32 ∷ t) _ (greenlet_read g (32 ∷ t) h refl)

start_read : (g : ℕ) (n : Text) → NameFits n → start_front g (n ++ []) ≡ Some (Line.Start g n, [])
unfolding start_front
start_read g n h = and_then-is (name_front (n ++ [])) n [] _ (name_read n [] h tt)

print_read : (g : ℕ) (v : Value) → ValueFits v → print_front g (value_text v ++ []) ≡ Some (Line.Print g v, [])
unfolding print_front
print_read g v h = and_then-is (value_front (value_text v ++ [])) v [] _ (value_read v [] h tt)

park_read : (g : ℕ) (a : Awaited) (u : Option ℕ) → AwaitedFits a → UntilFits u → park_front g (awaited_text a ++ (until_text u ++ [])) ≡ Some (Line.Park g a u, [])
unfolding park_front
park_read g a u ha hu =
    and_then-is (awaited_front (awaited_text a ++ (until_text u ++ []))) a (until_text u ++ []) _ (awaited_read a (until_text u ++ []) ha (until_ends u))
    ∙ and_then-is (until_front (until_text u ++ [])) u [] _ (until_read u hu)

throw_read : (g : ℕ) (f : FaultKind) → FaultFits f → throw_front g (fault_text f ++ []) ≡ Some (Line.Throw g f, [])
unfolding throw_front
throw_read g f h = and_then-is (fault_front (fault_text f ++ [])) f [] _ (fault_read f [] h)

into_read : (g : ℕ) (o : Outcome) → OutcomeFits o → into_front g (outcome_text o ++ []) ≡ Some (Line.Into g o, [])
unfolding into_front
into_read g o h = and_then-is (outcome_front (outcome_text o ++ [])) o [] _ (outcome_read o [] h tt)

end_read : (g : ℕ) (o : Outcome) → OutcomeFits o → end_front g (outcome_text o ++ []) ≡ Some (Line.End g o, [])
unfolding end_front
end_read g o h = and_then-is (outcome_front (outcome_text o ++ [])) o [] _ (outcome_read o [] h tt)

link_read : (k g : ℕ) (c : LinkCall) → k < 2 ^ 32 → g < 2 ^ 32 → LinkCallFits c →
    link_front (decimal k ++ 32 ∷ (greenlet_text g ++ 32 ∷ (link_call_text c ++ []))) ≡ Some (Line.Link k g c, [])
unfolding link_front after strip
link_read k g c hk hg hc =
    and_then-is (small_front (decimal k ++ 32 ∷ (greenlet_text g ++ 32 ∷ (link_call_text c ++ [])))) k (32 ∷ (greenlet_text g ++ 32 ∷ (link_call_text c ++ []))) _ (small_read k (32 ∷ (greenlet_text g ++ 32 ∷ (link_call_text c ++ []))) hk refl)
    ∙ of_greenlet_read (λ g rest. and_then (link_call_front rest) (λ c rest. Some (Line.Link k g c, rest))) g (link_call_text c ++ []) hg
    ∙ and_then-is (link_call_front (link_call_text c ++ [])) c [] _ (link_call_read c hc)

job_line_read : (j g : ℕ) (c : Job) → j < 2 ^ 32 → g < 2 ^ 32 → JobFits c →
    job_line_front (job_text j ++ 32 ∷ (greenlet_text g ++ 32 ∷ (job_call_text c ++ []))) ≡ Some (Line.Job j g c, [])
unfolding job_line_front after strip
job_line_read j g c hj hg hc =
    and_then-is (job_front (job_text j ++ 32 ∷ (greenlet_text g ++ 32 ∷ (job_call_text c ++ [])))) j (32 ∷ (greenlet_text g ++ 32 ∷ (job_call_text c ++ []))) _ (job_read j (32 ∷ (greenlet_text g ++ 32 ∷ (job_call_text c ++ []))) hj refl)
    ∙ of_greenlet_read (λ g rest. and_then (job_call_front rest) (λ c rest. Some (Line.Job j g c, rest))) g (job_call_text c ++ []) hg
    ∙ and_then-is (job_call_front (job_call_text c ++ [])) c [] _ (job_call_read c hc)

turn_read : (k : ℕ) (a : Answer) → k < 2 ^ 64 → AnswerFits a → turn_front (decimal k ++ 32 ∷ (answer_text a ++ [])) ≡ Some (Line.Turn k a, [])
unfolding turn_front after strip
turn_read k a hk ha =
    and_then-is (number_front (decimal k ++ 32 ∷ (answer_text a ++ []))) k (32 ∷ (answer_text a ++ [])) _ (number_read k (32 ∷ (answer_text a ++ [])) hk refl)
    ∙ and_then-is (answer_front (answer_text a ++ [])) a [] _ (answer_read a ha)

stop_read : (c : StopCause) (t m : ℕ) → CauseFits c → t < 2 ^ 64 → m < 2 ^ 64 →
    stop_front (cause_text c ++ (codes " turns " ++ (decimal t ++ (codes " moves " ++ (decimal m ++ []))))) ≡ Some (Line.Stop c t m, [])
unfolding stop_front after strip
stop_read c t m hc ht hm =
    and_then-is (cause_front (cause_text c ++ (codes " turns " ++ (decimal t ++ (codes " moves " ++ (decimal m ++ [])))))) c (codes " turns " ++ (decimal t ++ (codes " moves " ++ (decimal m ++ [])))) _ (cause_read c (codes " turns " ++ (decimal t ++ (codes " moves " ++ (decimal m ++ [])))) hc refl)
    ∙ and_then-is (number_front (decimal t ++ (codes " moves " ++ (decimal m ++ [])))) t (codes " moves " ++ (decimal m ++ [])) _ (number_read t (codes " moves " ++ (decimal m ++ [])) ht refl)
    ∙ and_then-is (number_front (decimal m ++ [])) m [] _ (number_read m [] hm tt)

stop_spaced : (c t m : Text) →
    ((((((((c ++ codes " ") ++ codes "turns") ++ codes " ") ++ t) ++ codes " ") ++ codes "moves") ++ codes " ") ++ m) ++ []
    ≡ c ++ (codes " turns " ++ (t ++ (codes " moves " ++ (m ++ []))))
stop_spaced c t m = simp append_assoc

read_of : (l : Line) → LineFits l → line_front (line_text l ++ []) ≡ Some (l, [])
unfolding line_front greenlet_line_front resumed_line_front or_else after strip
read_of (Line.Start g n) h = ap (of_greenlet start_front) (spaced (greenlet_text g) n []) ∙ of_greenlet_read start_front g (n ++ []) h.0 ∙ start_read g n h.1
read_of (Line.Print g v) h = ap (of_greenlet print_front) (spaced (greenlet_text g) (value_text v) []) ∙ of_greenlet_read print_front g (value_text v ++ []) h.0 ∙ print_read g v h.1
read_of (Line.Park g a u) h =
    ap (of_greenlet park_front) (append_assoc ((greenlet_text g ++ codes " ") ++ awaited_text a) (until_text u) [] ∙ spaced (greenlet_text g) (awaited_text a) (until_text u ++ []))
    ∙ of_greenlet_read park_front g (awaited_text a ++ (until_text u ++ [])) h.0 ∙ park_read g a u h.1 h.2
read_of (Line.Resume g Resumed.Wake) h = and_then-is (greenlet_front (greenlet_text g ++ [])) g [] _ (greenlet_read g [] h tt)
read_of (Line.Resume g Resumed.Late) h = and_then-is (greenlet_front (greenlet_text g ++ [])) g [] _ (greenlet_read g [] h tt)
read_of (Line.Throw g f) h = ap (of_greenlet throw_front) (spaced (greenlet_text g) (fault_text f) []) ∙ of_greenlet_read throw_front g (fault_text f ++ []) h.0 ∙ throw_read g f h.1
read_of (Line.Into g o) h = ap (of_greenlet into_front) (spaced (greenlet_text g) (outcome_text o) []) ∙ of_greenlet_read into_front g (outcome_text o ++ []) h.0 ∙ into_read g o h.1
read_of (Line.End g o) h = ap (of_greenlet end_front) (spaced (greenlet_text g) (outcome_text o) []) ∙ of_greenlet_read end_front g (outcome_text o ++ []) h.0 ∙ end_read g o h.1
read_of (Line.Link k g c) h = ap link_front (spaced_twice (decimal k) (greenlet_text g) (link_call_text c) []) ∙ link_read k g c h.0 h.1 h.2
read_of (Line.Job j g c) h = ap job_line_front (spaced_twice (job_text j) (greenlet_text g) (job_call_text c) []) ∙ job_line_read j g c h.0 h.1 h.2
read_of (Line.Block b) h = and_then-is (blocked_front (blocked_text b ++ [])) b [] _ (block_word b h)
read_of (Line.Turn k a) h = ap turn_front (spaced (decimal k) (answer_text a) []) ∙ turn_read k a h.0 h.1
read_of (Line.Stop c t m) h = ap stop_front (stop_spaced (cause_text c) (decimal t) (decimal m)) ∙ stop_read c t m h.0 h.1 h.2

-- a line is read of its own text
pub line_read : (l : Line) → LineFits l → line_front (line_text l) ≡ Some (l, [])
line_read l h = ap line_front (sym (append-nil (line_text l))) ∙ read_of l h

same_read : {A B : Type 0} (front : Text → Option (A × B)) (s t : Text) (a b : A) (rest : B) →
    front s ≡ Some (a, rest) → front t ≡ Some (b, rest) → s ≡ t → a ≡ b
same_read {A = A} {B = B} front s t a b rest first second same =
    let pairs : (a, rest) ≡ (b, rest) = cc in
    let left : A × B → A = λ p. p.0 in
    ap left pairs

-- two lines of one text are one line
pub line_told : (l m : Line) → LineFits l → LineFits m → line_text l ≡ line_text m → l ≡ m
line_told l m hl hm same = same_read line_front (line_text l) (line_text m) l m [] (line_read l hl) (line_read m hm) same
