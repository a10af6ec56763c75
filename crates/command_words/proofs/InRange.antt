-- The numbers of a command that words name are those that its options take.
use Rattle.std.proofs.Common.{◌≡◌, ◌&&◌, ℕ, ◌≤◌, Bool, true, false, if◌then◌else◌, List, [], ◌∷◌, Option, Some, None, option_map, is_some, nat_le, codes, refl, subst, leb-true}
use Rattle.std.proofs.lemmas.Bool.{and_parts}
use Rattle.std.specs.Str.{bytes_eq}
use Rattle.std.specs.Str.Parse.{digits_value}
use Rattle.gv_values.specs.Digits.{is_plain_number}
use Rattle.command_words.specs.declared.command.NamedCommand.{NamedCommand}
use Rattle.command_words.specs.declared.command.NamedCommand.TheVariants.{Text, Wsgi, Storm, Verify}
use Rattle.command_words.specs.declared.command.GatewayKind.{GatewayKind}
use Rattle.command_words.specs.declared.command.GatewayKind.TheVariants.{Http, Scgi}
use Rattle.command_words.specs.declared.command.RunWorld.{RunWorld}
use Rattle.command_words.specs.declared.command.RunWorld.TheVariants.{Script}
use Rattle.command_words.specs.declared.command.ResultOrder.{ResultOrder}
use Rattle.command_words.specs.declared.command.ResultOrder.TheVariants as results
use Rattle.command_words.specs.declared.command.ServeAnswers.{ServeAnswers}
use Rattle.command_words.specs.declared.command.PassOptions.{PassOptions}
use Rattle.command_words.specs.declared.command.ServeAnswers.TheVariants.{Application}
use Rattle.command_words.specs.declared.command.TextCommand.TheVariants.{Format}
use Rattle.command_words.specs.declared.command.TraceCheck.{TraceCheck}
use Rattle.command_words.specs.Words.{LookUp, OptionRow, Word, server_answers_by, check, check_by, check_named, command_by, command_of, conns, gateway_by, given, idle, jobs, jobs_by, jobs_in, laws_check, moves, native, number_by, number_in, options, order, order_by, pass, pass_by, pass_in, passed_by, patience, pool, port, row_of, run, run_by, run_check, format, wsgi, serve, serve_by, size, storm, storm_by, tick, turns, value_in, verify, verify_by, workers_by, workers_in, world_by, wsgi_by}
use Rattle.command_words.specs.Ranges.{AreAnswersInRange, IsCheckInRange, IsInRange, IsWorldInRange, TakesNumber, takes_usual}

-- ---- what gave a value

record Given {A B : Type 0} (o : Option A) (f : A → Option B) (b : B) : Type 0 where
  value : A
  is : o ≡ Some value
  gives : f value ≡ Some b

some_given : {A B : Type 0} (o : Option A) (f : A → Option B) (b : B) → given o f ≡ Some b → Given o f b
some_given None f b e = absurd (cc e)
some_given (Some a) f b e = record { value = a; is = refl; gives = e }

record Mapped {A B : Type 0} (o : Option A) (f : A → B) (b : B) : Type 0 where
  value : A
  is : o ≡ Some value
  gives : f value ≡ b

some_mapped : {A B : Type 0} (o : Option A) (f : A → B) (b : B) → option_map f o ≡ Some b → Mapped o f b
some_mapped None f b e = absurd (cc e)
some_mapped (Some a) f b e = record { value = a; is = refl; gives = cc e }

-- ---- numbers

from_test : (least most n m : ℕ) (b : Bool) → (if b && nat_le least n && nat_le n most then Some n else None) ≡ Some m → (least ≤ m) × (m ≤ most)
from_test least most n m b e = by (nat_le least n) (nat_le n most) b refl refl e
  where
    by : (l u p : Bool) → nat_le least n ≡ l → nat_le n most ≡ u → (if p && l && u then Some n else None) ≡ Some m → (least ≤ m) × (m ≤ most)
    by true true true el eu h = let same : n ≡ m = cc h in subst (λ k. (least ≤ k) × (k ≤ most)) same (leb-true least n el, leb-true n most eu)
    by l u false el eu h = absurd (cc h)
    by false u true el eu h = absurd (cc h)
    by true false true el eu h = absurd (cc h)

usual_takes : (o : OptionRow) (n : ℕ) → takes_usual o ≡ true → o.usual ≡ Some n → TakesNumber o n
usual_takes o n h e =
    let P : Option ℕ → Type 0 = λ u. (elim u [ Some n ↦ nat_le o.least n && nat_le n o.most | None ↦ true ]) ≡ true in
    let p = and_parts _ _ (subst P e h) in (leb-true o.least n p.0, leb-true n o.most p.1)

number_takes : (o : OptionRow) (look : LookUp) (n : ℕ) → takes_usual o ≡ true → number_by o look ≡ Some n → TakesNumber o n
number_takes o look n h e = by (look o.name) e
  where
    by : (w : Option Word) → (elim w [ Some word ↦ number_in o.least o.most word | None ↦ o.usual ]) ≡ Some n → TakesNumber o n
    by (Some word) f = from_test o.least o.most (digits_value 10 word) n (is_plain_number word) f
    by None f = usual_takes o n h f

-- ---- commands

ordered_takes : (o : ResultOrder) (n : ℕ) → TakesNumber native n → IsWorldInRange (workers_in o n)
ordered_takes results.Free n h = h
ordered_takes results.Held n h = h

workers_take : (look : LookUp) (w : RunWorld) → workers_by look ≡ Some w → IsWorldInRange w
workers_take look w e = by (is_some (look tick.name)) e
  where
    by : (t : Bool) → (if t then None else given (order_by look) (λ o. option_map (workers_in o) (number_by native look))) ≡ Some w → IsWorldInRange w
    by true f = absurd (cc f)
    by false f =
        let o = some_given (order_by look) (λ o. option_map (workers_in o) (number_by native look)) w f in
        let m = some_mapped (number_by native look) (workers_in o.value) w o.gives in
        subst IsWorldInRange m.gives (ordered_takes o.value m.value (number_takes native look m.value refl m.is))

world_takes : (look : LookUp) (w : RunWorld) → world_by look ≡ Some w → IsWorldInRange w
world_takes look w e = by (is_some (look native.name)) (is_some (look order)) e
  where
    by : (n o : Bool) → (if n then workers_by look else (if o then None else option_map (λ k. Script k) (number_by tick look))) ≡ Some w → IsWorldInRange w
    by true o f = workers_take look w f
    by false true f = absurd (cc f)
    by false false f = let m = some_mapped (number_by tick look) (λ k. Script k) w f in subst IsWorldInRange m.gives (number_takes tick look m.value refl m.is)

same_some : {A : Type 0} (a b : A) → Some a ≡ Some b → a ≡ b
same_some a b e = cc e

run_takes : (look : LookUp) (c : NamedCommand) → run_by look ≡ Some c → IsInRange c
run_takes look c e =
    let t = some_given (number_by turns look) _ c e in
    let m = some_given (number_by moves look) _ c t.gives in
    let w = some_given (world_by look) _ c m.gives in
    subst IsInRange (same_some _ _ w.gives) (number_takes turns look t.value refl t.is, number_takes moves look m.value refl m.is, world_takes look w.value w.is)

workers_fit : (g : GatewayKind) (n : ℕ) (a : ServeAnswers) → TakesNumber jobs n → jobs_in g n ≡ Some a → AreAnswersInRange a
workers_fit Http n a h e = subst AreAnswersInRange (same_some _ _ e) h
workers_fit Scgi n a h e = absurd (cc e)

jobs_take : (look : LookUp) (a : ServeAnswers) → jobs_by look ≡ Some a → AreAnswersInRange a
jobs_take look a e =
    let g = some_given (gateway_by look) (λ g. given (number_by jobs look) (jobs_in g)) a e in
    let n = some_given (number_by jobs look) (jobs_in g.value) a g.gives in
    workers_fit g.value n.value a (number_takes jobs look n.value refl n.is) n.gives

passed_take : (look : LookUp) (a : ServeAnswers) → passed_by look ≡ Some a → AreAnswersInRange a
passed_take look a e = by (is_some (look patience.name)) (is_some (look jobs.name)) e
  where
    by : (p j : Bool) → (if p then None else if j then jobs_by look else option_map (λ g. Application g) (gateway_by look)) ≡ Some a → AreAnswersInRange a
    by true j f = absurd (cc f)
    by false true f = jobs_take look a f
    by false false f = let g = some_mapped (gateway_by look) (λ g. Application g) a f in subst AreAnswersInRange g.gives tt

server_fits : (g : GatewayKind) (options : PassOptions) (a : ServeAnswers) → TakesNumber pass options.port × TakesNumber patience options.patience → pass_in g options ≡ Some a → AreAnswersInRange a
server_fits Http options a h e = subst AreAnswersInRange (same_some _ _ e) h
server_fits Scgi options a h e = absurd (cc e)

pass_takes : (look : LookUp) (a : ServeAnswers) → pass_by look ≡ Some a → AreAnswersInRange a
pass_takes look a e = by (is_some (look jobs.name)) e
  where
    by : (j : Bool) → (if j then None else given (gateway_by look) (λ g. given (number_by pass look) (λ port. given (number_by patience look) (λ patience. pass_in g (record { port = port; patience = patience }))))) ≡ Some a → AreAnswersInRange a
    by true f = absurd (cc f)
    by false f =
        let g = some_given (gateway_by look) _ a f in
        let p = some_given (number_by pass look) _ a g.gives in
        let t = some_given (number_by patience look) _ a p.gives in
        server_fits g.value (record { port = p.value; patience = t.value }) a (number_takes pass look p.value refl p.is, number_takes patience look t.value refl t.is) t.gives

answers_take : (look : LookUp) (a : ServeAnswers) → server_answers_by look ≡ Some a → AreAnswersInRange a
answers_take look a e = by (is_some (look pass.name)) e
  where
    by : (p : Bool) → (if p then pass_by look else passed_by look) ≡ Some a → AreAnswersInRange a
    by true f = pass_takes look a f
    by false f = passed_take look a f

serve_takes : (look : LookUp) (c : NamedCommand) → serve_by look ≡ Some c → IsInRange c
serve_takes look c e =
    let p = some_given (number_by port look) _ c e in
    let n = some_given (number_by conns look) _ c p.gives in
    let m = some_given (number_by pool look) _ c n.gives in
    let i = some_given (number_by idle look) _ c m.gives in
    let a = some_given (server_answers_by look) _ c i.gives in
    subst IsInRange (same_some _ _ a.gives)
    (number_takes port look p.value refl p.is, number_takes conns look n.value refl n.is, number_takes pool look m.value refl m.is, number_takes idle look i.value refl i.is, answers_take look a.value a.is)

wsgi_takes : (look : LookUp) (c : NamedCommand) → wsgi_by look ≡ Some c → IsInRange c
wsgi_takes look c e = let g = some_mapped (gateway_by look) (λ k. Wsgi k) c e in subst IsInRange g.gives tt

storm_takes : (look : LookUp) (c : NamedCommand) → storm_by look ≡ Some c → IsInRange c
storm_takes look c e = let s = some_mapped (number_by size look) (λ n. Storm n) c e in subst IsInRange s.gives (number_takes size look s.value refl s.is)

run_check_takes : (look : LookUp) (c : TraceCheck) → run_check look ≡ Some c → IsCheckInRange c
run_check_takes look c e =
    let t = some_given (number_by turns look) _ c e in
    let m = some_given (number_by moves look) _ c t.gives in
    subst IsCheckInRange (same_some _ _ m.gives) (number_takes turns look t.value refl t.is, number_takes moves look m.value refl m.is)

laws_check_takes : (look : LookUp) (c : TraceCheck) → laws_check look ≡ Some c → IsCheckInRange c
laws_check_takes look c e = by (is_some (look turns.name)) (is_some (look moves.name)) e
  where
    by : (t m : Bool) → (if t then None else if m then None else Some TraceCheck.Laws) ≡ Some c → IsCheckInRange c
    by true m f = absurd (cc f)
    by false true f = absurd (cc f)
    by false false f = subst IsCheckInRange (same_some _ _ f) tt

check_takes : (look : LookUp) (c : TraceCheck) → check_by look ≡ Some c → IsCheckInRange c
check_takes look c e = by (look check) e
  where
    named : (r l : Bool) → (if r then run_check look else if l then laws_check look else None) ≡ Some c → IsCheckInRange c
    named true l f = run_check_takes look c f
    named false true f = laws_check_takes look c f
    named false false f = absurd (cc f)

    by : (o : Option Word) → (elim o [ Some word ↦ check_named word look | None ↦ run_check look ]) ≡ Some c → IsCheckInRange c
    by (Some word) f = named (bytes_eq word (codes "run")) (bytes_eq word (codes "laws")) f
    by None f = run_check_takes look c f

verify_takes : (look : LookUp) (c : NamedCommand) → verify_by look ≡ Some c → IsInRange c
verify_takes look c e = let v = some_mapped (check_by look) (λ k. Verify k) c e in subst IsInRange v.gives (check_takes look v.value v.is)

by_name : (name : Word) (look : LookUp) (c : NamedCommand) → command_by name look ≡ Some c → IsInRange c
by_name name look c e =
    by (bytes_eq name run.name) (bytes_eq name format.name) (bytes_eq name wsgi.name) (bytes_eq name serve.name) (bytes_eq name storm.name) (bytes_eq name verify.name) e
  where
    by : (r f w s t v : Bool)
        → (if r then run_by look else if f then Some (Text Format) else if w then wsgi_by look else if s then serve_by look else if t then storm_by look else if v then verify_by look else None) ≡ Some c
        → IsInRange c
    by true f w s t v h = run_takes look c h
    by false true w s t v h = subst IsInRange (same_some _ _ h) tt
    by false false true s t v h = wsgi_takes look c h
    by false false false true t v h = serve_takes look c h
    by false false false false true v h = storm_takes look c h
    by false false false false false true h = verify_takes look c h
    by false false false false false false h = absurd (cc h)

pub in_range : (words : List Word) (c : NamedCommand) → command_of words ≡ Some c → IsInRange c
in_range [] c e = absurd (cc e)
in_range (name ∷ words) c e =
    let r = some_given (row_of name) (λ row. given (options row.options words None []) (λ said. command_by row.name (value_in said))) c e in
    let s = some_given (options r.value.options words None []) (λ said. command_by r.value.name (value_in said)) c r.gives in
    by_name r.value.name (value_in s.value) c s.gives
