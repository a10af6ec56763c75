-- Of words that name `serve`, and of what a server came to.
use Rattle.std.proofs.Common.{◌≡◌, ◌≢◌, ◌⊎◌, ◌↔◌, inl, inr, refl, ap, sym, ◌∙◌, ℕ, ◌<◌, ◌≤◌, false, List, [], Option, Some, None, IsSome, option_and_then, subst, arith}
use Rattle.gv_values.specs.Counts.{HasRisen}
use Rattle.gv_io.specs.Streams.{appended}
use Rattle.command_words.specs.Ranges.{AreAnswersInRange, IsInRange as IsCommandInRange}
use Rattle.command_words.specs.Words.{Word}
use Rattle.command_words.specs.Words as words
use Rattle.command_words.specs.declared.command.NamedCommand.{NamedCommand}
use Rattle.command_words.specs.declared.command.NamedCommand.TheVariants as named
use Rattle.command_words.specs.declared.command.GatewayKind.{GatewayKind}
use Rattle.command_words.specs.declared.command.PassOptions.{PassOptions}
use Rattle.command_words.specs.declared.command.ServeAnswers.{ServeAnswers}
use Rattle.command_words.specs.declared.command.ServeOptions.{ServeOptions}
use Rattle.wsgi_core.specs.Applications.{App}
use Rattle.wsgi_core.specs.Session.{answers}
use Rattle.world.specs.LegalLogs.{HasLegalLog}
use Rattle.world.specs.Outside.{WorldMeaning as World}
use Rattle.world_rules.specs.declared.question.LogEntry.{LogEntry}
use Rattle.stream_dial.specs.Dials.{DialMeaning}
use Rattle.stream_net.specs.Net.{Connection, IsAtRest, IsFresh, NetMeaning}
use Rattle.stream_server.specs.declared.limits.Limits.{Limits}
use Rattle.stream_server.specs.Owning.{Owner}
use Rattle.stream_server.specs.Ranges.{IsInRange}
use Rattle.stream_server.specs.Serving.{Rests}
use Rattle.wsgi_native.specs.Agreeing.{Agrees, HasEarned}
use Rattle.wsgi_native.specs.Ends.{IsAtJob, IsOutOfJobs}
use Rattle.wsgi_native.specs.JobApp.{job_app}
use Rattle.wsgi_native.specs.Tied.{HasPosted, IsInOrder}
use Rattle.serve_command.specs.declared.serving.Served.{Served}
use Rattle.serve_command.specs.Jobs.{ServesJobsAt}
use Rattle.serve_command.specs.Relay.{ServesRelayAt}
use Rattle.serve_command.specs.Serving.{ServesAt, listening}
use Rattle.serve_command.proofs.Ends.{memory_no_jobs, memory_unfinished, none_served, spent_as}
use Rattle.serve_command.proofs.JobsEnds.{none_served_jobs}
use Rattle.serve_command.proofs.RelayEnds.{none_served_relay}
use Rattle.gv_top.specs.declared.status.Verdict.{Verdict}
use Rattle.gv_top.specs.declared.words.OfflineCommand.{OfflineCommand}
use Rattle.gv_top.specs.Gateway.{answers_by}
use Rattle.gv_top.specs.Serving.{Serves, ServesNatively, ServesWith, limits_of}
use Rattle.gv_top.specs.Answers.{memory_line, read_fault_line}
use Rattle.gv_top.specs.Top.{IsStatusOf, IsVerdictTold}
use Rattle.gv_top.specs.Inner.{IsOr}
use Rattle.gv_top.specs.Status.{verdict_line, verdict_of_server, verdict_status}
use Rattle.gv_top.specs.Words.{built, offline_command_of, serve_of, serving}
use Rattle.gv_top.proofs.Built.{NamedAreInRange}
use Rattle.run_command.proofs.InWorlds.{left_as_it_was}
use Rattle.gv_top.proofs.Tops.{HasFailed, fails, no_memory_line, read_line, status_or}
use Rattle.gv_values.specs.declared.limits.TheConstants.{MOST_WORKERS}

-- ---- words that name it

-- words that name a command without a net name no server
serves_none : (o : Option NamedCommand) (command : OfflineCommand) → option_and_then built o ≡ Some command → option_and_then serving o ≡ None
serves_none (Some (named.Text text)) command e = refl
serves_none (Some (named.Wsgi gateway)) command e = refl
serves_none (Some (named.Storm n)) command e = refl
serves_none (Some (named.Verify check)) command e = refl
serves_none (Some (named.Serve options)) command e = absurd (cc e)
serves_none None command e = absurd (cc e)

pub names_one : (w : List Word) (command : OfflineCommand) → offline_command_of w ≡ Some command → serve_of w ≡ None
names_one w command e = serves_none (words.command_of w) command e

pub is_some : (o : Option ServeOptions) (options : ServeOptions) → o ≡ Some options → IsSome o
is_some o options e = rw e refl

pub none_named : (P : Type 0) (o : Option ServeOptions) → IsSome o → o ≡ None → P
none_named P None h e = absurd (cc h)
none_named P (Some options) h e = absurd (cc e)

pub is_none : (o : Option ServeOptions) → (IsSome o → ⊥) → o ≡ None
is_none None h = refl
is_none (Some options) h = absurd (h refl)

-- ---- the status of an end

-- want of memory is told by its own status, or by that of its line
pub no_memory_status : (n : ℕ) (v w : Verdict) (old new : Option (List ℕ)) (e0 e1 : ℕ) → IsOr v w → IsVerdictTold n w old new e0 e1 → verdict_status v ≡ 7 → (n ≡ 5) ⊎ (n ≡ 7)
no_memory_status n v w old new e0 e1 o l e = by (status_or n v w old new e0 e1 o l)
  where
    by : IsStatusOf n v → (n ≡ 5) ⊎ (n ≡ 7)
    by (inl p) = inr (p ∙ e)
    by (inr p) = p.1

pub no_network_fault : (n : ℕ) (v w : Verdict) (old new : Option (List ℕ)) (e0 e1 : ℕ) → IsOr v w → IsVerdictTold n w old new e0 e1 → verdict_status v ≢ 10 → n ≢ 10
no_network_fault n v w old new e0 e1 o l h = by (status_or n v w old new e0 e1 o l)
  where
    by : IsStatusOf n v → n ≢ 10
    by (inl p) = λ z. h (sym p ∙ z)
    by (inr (_, inl p)) = λ z. absurd (let q = sym p ∙ z in omega arith)
    by (inr (_, inr p)) = λ z. absurd (let q = sym p ∙ z in omega arith)

-- where words that name `serve` lead to want of memory, any other status is of words that don't
pub names_no_server : (n : ℕ) (v w : Verdict) (o : Option ServeOptions) (old new : Option (List ℕ)) (e0 e1 : ℕ) → IsOr v w → IsVerdictTold n w old new e0 e1 →
    (IsSome o → verdict_status v ≡ 7) → n ≢ 5 → n ≢ 7 → o ≡ None
names_no_server n v w o old new e0 e1 r l h h5 h7 = is_none o (λ named. by (no_memory_status n v w old new e0 e1 r l (h named)))
  where
    by : (n ≡ 5) ⊎ (n ≡ 7) → ⊥
    by (inl e) = h5 e
    by (inr e) = h7 e

-- ---- how much a server does

-- the limits and the answers of a server are in their ranges
abbrev pub FitsServer : ServeOptions → Type 0
FitsServer options = IsInRange (limits_of options) × AreAnswersInRange options.answers

server_fits : (options : ServeOptions) → IsCommandInRange (named.Serve options) → FitsServer options
server_fits options h = (
  record {
    some_place = h.2.0;
    few_places = h.2.1;
    some_connection = h.1.0;
    few_connections = h.1.1;
    some_time = h.3.0;
    short_time = h.3.1;
  },
  h.4,
)

same_options : (a b : ServeOptions) → Some a ≡ Some b → a ≡ b
same_options a b e = cc e

serving_in_range : (options : ServeOptions) (command : NamedCommand) → serving command ≡ Some options → IsCommandInRange command → FitsServer options
serving_in_range options (named.Serve given) e h = subst FitsServer (same_options given options e) (server_fits given h)
serving_in_range options (named.Text text) e h = absurd (cc e)
serving_in_range options (named.Wsgi gateway) e h = absurd (cc e)
serving_in_range options (named.Storm n) e h = absurd (cc e)
serving_in_range options (named.Verify check) e h = absurd (cc e)

-- so are those of the server that words ask for
pub options_in_range : NamedAreInRange → (w : List Word) (options : ServeOptions) → serve_of w ≡ Some options → FitsServer options
options_in_range law w options e = by (words.command_of w) refl e
  where
    by : (o : Option NamedCommand) → words.command_of w ≡ o → option_and_then serving o ≡ Some options → FitsServer options
    by (Some command) is h = serving_in_range options command h (law w command is)
    by None is h = absurd (cc h)

pub some_server_workers : (answers : ServeAnswers) (workers : ℕ) → answers ≡ ServeAnswers.Jobs workers → AreAnswersInRange answers → 0 < workers
some_server_workers answers workers e h = let r : (1 ≤ workers) × (workers ≤ MOST_WORKERS) = subst AreAnswersInRange e h in omega (arith, r.0)

pub few_server_workers : (answers : ServeAnswers) (workers : ℕ) → answers ≡ ServeAnswers.Jobs workers → AreAnswersInRange answers → workers ≤ MOST_WORKERS
few_server_workers answers workers e h = let r : (1 ≤ workers) × (workers ≤ MOST_WORKERS) = subst AreAnswersInRange e h in r.1

-- what holds by these options holds by those that the words ask for
pub by_options : (P : ServeOptions → Type 0) (o : Option ServeOptions) (given : ServeOptions) → o ≡ Some given → P given → (options : ServeOptions) → o ≡ Some options → P options
by_options P o given is h = λ options e. subst P (same_options given options (sym is ∙ e)) h

-- ---- where memory ran out before it listened

pub nobody_served_natively : (workers asked : ℕ) (limits : Limits) (w : NetMeaning) (before after : World) (stands : List LogEntry → Type 0) (out0 out1 : Option (List ℕ)) → IsFresh w → after ≡ before → out1 ≡ out0
    → ServesNatively workers Served.Memory asked limits w before after stands out0 out1
nobody_served_natively workers asked limits w before after stands out0 out1 fresh kept same = record {
  serves = none_served_jobs Served.Memory asked limits w after out0 out1 0 memory_unfinished memory_no_jobs fresh.none fresh.none_live (left_as_it_was out0 out1 (listening 0) same) (inl same);
  begun = inr (kept, fresh.none);
}

pub nobody_served : (answers : ServeAnswers) (asked : ℕ) (app : App) (limits : Limits) (w : NetMeaning) (v : DialMeaning) (before after : World) (stands : List LogEntry → Type 0) (out0 out1 : Option (List ℕ)) → IsFresh w → v.streams ≡ [] → after ≡ before → out1 ≡ out0
    → ServesWith answers Served.Memory asked app limits w v before after stands out0 out1
nobody_served (ServeAnswers.Application gateway) asked app limits w v before after stands out0 out1 fresh undialled kept same =
    none_served Rests (λ port. ⊥) Served.Memory asked (answers_by gateway) app limits w out0 out1 0 memory_unfinished memory_no_jobs fresh.none fresh.none_live (left_as_it_was out0 out1 (listening 0) same) (inl same)
nobody_served (ServeAnswers.Jobs workers) asked app limits w v before after stands out0 out1 fresh undialled kept same = nobody_served_natively workers asked limits w before after stands out0 out1 fresh kept same
nobody_served (ServeAnswers.Passing options) asked app limits w v before after stands out0 out1 fresh undialled kept same =
    none_served_relay Served.Memory options.port options.patience asked limits w v out0 out1 0 memory_unfinished memory_no_jobs fresh.none fresh.none_live (left_as_it_was out0 out1 (listening 0) same) (inl same) undialled

-- ---- where native workers served

-- it is the same of workers that are finished
abbrev stopped : World → World
stopped v = record v { runs = false }

agrees_before : (owner : Owner) (v : World) (conn : ℕ) (app : App) → Agrees owner (stopped v) conn app → Agrees owner v conn app
agrees_before owner v conn app a = record { plain = a.plain; done = a.done }

agrees_after : (owner : Owner) (v : World) (conn : ℕ) (app : App) → Agrees owner v conn app → Agrees owner (stopped v) conn app
agrees_after owner v conn app a = record { plain = a.plain; done = a.done }

earned_after : (port : ℕ) (cs : List Connection) (v : World) → HasEarned port cs v → HasEarned port cs (stopped v)
earned_after port cs v h = record { owner = h.owner; once = h.once; own = λ k app bytes out agrees. h.own k app bytes out (agrees_before h.owner v k app agrees) }

at_job_after : (owner : Owner) (port : ℕ) (v : World) (conn : ℕ) (bytes out : List ℕ) → IsAtJob owner port v conn bytes out → IsAtJob owner port (stopped v) conn bytes out
at_job_after owner port v conn bytes out h = record {
  number = h.number;
  request = h.request;
  body = h.body;
  rest = h.rest;
  job = h.job;
  asks = h.asks;
  next = λ app more fits. h.next app more (agrees_before owner v conn app fits);
}

at_job_before : (owner : Owner) (port : ℕ) (v : World) (conn : ℕ) (bytes out : List ℕ) → IsAtJob owner port (stopped v) conn bytes out → IsAtJob owner port v conn bytes out
at_job_before owner port v conn bytes out h = record {
  number = h.number;
  request = h.request;
  body = h.body;
  rest = h.rest;
  job = h.job;
  asks = h.asks;
  next = λ app more fits. h.next app more (agrees_after owner v conn app fits);
}

vain_after : (port : ℕ) (w : NetMeaning) (v : World) → IsOutOfJobs port w v → IsOutOfJobs port w (stopped v)
vain_after port w v h = record {
  owner = h.owner;
  spent = h.spent;
  conn = h.conn;
  accepted = h.accepted;
  not_at_rest = h.not_at_rest;
  asks = λ bytes out reads writes. at_job_after h.owner port v h.conn bytes out (h.asks bytes out reads writes);
}

vain_before : (port : ℕ) (w : NetMeaning) (v : World) → IsOutOfJobs port w (stopped v) → IsOutOfJobs port w v
vain_before port w v h = record {
  owner = h.owner;
  spent = h.spent;
  conn = h.conn;
  accepted = h.accepted;
  not_at_rest = h.not_at_rest;
  asks = λ bytes out reads writes. at_job_before h.owner port v h.conn bytes out (h.asks bytes out reads writes);
}

serves_after : (end : Served) (asked : ℕ) (limits : Limits) (w : NetMeaning) (v : World) (out0 out1 : Option (List ℕ)) → ServesJobsAt end asked limits w v out0 out1 → ServesJobsAt end asked limits w (stopped v) out0 out1
unfolding spent_as
serves_after end asked limits w v out0 out1 h = record {
  serves = spent_as IsAtRest (λ port. IsOutOfJobs port w v) (λ port. IsOutOfJobs port w (stopped v)) end asked answers job_app limits w out0 out1 (λ port vain. vain_after port w v vain) h.serves;
  earned = earned_after h.serves.has.port w.connections v h.earned;
  out_of_jobs = λ vain. h.out_of_jobs (vain_before h.serves.has.port w v vain);
}

logged_after : (v : World) (stood stands : List LogEntry → Type 0) → ((log : List LogEntry) → stood log ↔ stands log) → HasLegalLog v stood → HasLegalLog (stopped v) stands
logged_after v stood stands same h = record {
  log = h.log;
  stood = (same h.log).0 h.stood;
  posts = h.posts;
  answers = h.answers;
  legal = h.legal;
  untimed = h.untimed;
}

pub served_natively : (workers : ℕ) (end : Served) (asked : ℕ) (limits : Limits) (w : NetMeaning) (before v after : World) (stood stands : List LogEntry → Type 0) (out0 out1 : Option (List ℕ)) → after ≡ record v { runs = false }
    → ((log : List LogEntry) → stood log ↔ stands log) → IsInOrder v → HasPosted v stood → v.workers ≡ workers
    → ServesJobsAt end asked limits w v out0 out1 → ServesNatively workers end asked limits w before after stands out0 out1
served_natively workers end asked limits w before v after stood stands out0 out1 is law order posted same h =
    subst (λ (x : World). ServesNatively workers end asked limits w before x stands out0 out1) (sym is) (record {
      serves = serves_after end asked limits w v out0 out1 h;
      begun = inl (record { workers_are = same; numbered = posted.numbered; posted = order.done; logged = logged_after v stood stands law posted.logged });
    })

-- ---- what these answers serve with

module _ (given : ServeAnswers) (end : Served) (asked : ℕ) (app : App) (limits whole : Limits) (w : NetMeaning) (v : DialMeaning) (before after : World) (stands : List LogEntry → Type 0) (out0 out1 : Option (List ℕ)) where
  pub served_with_app : (gateway : GatewayKind) → given ≡ ServeAnswers.Application gateway → limits ≡ whole → ServesAt end asked (answers_by gateway) app limits w out0 out1
      → ServesWith given end asked app whole w v before after stands out0 out1
  served_with_app gateway is fit h = subst (λ (a : ServeAnswers). ServesWith a end asked app whole w v before after stands out0 out1) (sym is) (subst (λ (l : Limits). ServesAt end asked (answers_by gateway) app l w out0 out1) fit h)

  pub served_with_jobs : (workers : ℕ) → given ≡ ServeAnswers.Jobs workers → limits ≡ whole → ServesNatively workers end asked limits w before after stands out0 out1
      → ServesWith given end asked app whole w v before after stands out0 out1
  served_with_jobs workers is fit h = subst (λ (a : ServeAnswers). ServesWith a end asked app whole w v before after stands out0 out1) (sym is) (subst (λ (l : Limits). ServesNatively workers end asked l w before after stands out0 out1) fit h)

  pub served_with_relay : (options : PassOptions) → given ≡ ServeAnswers.Passing options → limits ≡ whole → ServesRelayAt end options.port options.patience asked limits w v out0 out1
      → ServesWith given end asked app whole w v before after stands out0 out1
  served_with_relay options is fit h = subst (λ (a : ServeAnswers). ServesWith a end asked app whole w v before after stands out0 out1) (sym is) (subst (λ (l : Limits). ServesRelayAt end options.port options.patience asked l w v out0 out1) fit h)

-- ---- what a server came to, and its line

-- the line of the verdict is there, with a status that tells no line that failed and no want of memory
told_whole : (n : ℕ) (v w : Verdict) (old new : Option (List ℕ)) (e0 e1 : ℕ) → IsOr v w → IsVerdictTold n w old new e0 e1 → n ≢ 5 → n ≢ 7 → new ≡ appended old (verdict_line v)
told_whole n v w old new e0 e1 (inl e) (inl p) h5 h7 = p.1 ∙ ap (λ x. appended old (verdict_line x)) e
told_whole n v w old new e0 e1 (inr q) (inl p) h5 h7 = absurd (h7 (p.0 ∙ ap verdict_status q.0))
told_whole n v w old new e0 e1 o (inr p) h5 h7 = absurd (h5 p.0)

pub serves_so : (n : ℕ) (app : App) (options : ServeOptions) (end : Served) (w : Verdict) (m : NetMeaning) (v : DialMeaning) (before rested after : World) (stands : List LogEntry → Type 0) (out0 begun out1 err0 silent err1 : Option (List ℕ)) (e0 e1 : ℕ) →
    rested ≡ before → begun ≡ out0 → silent ≡ err0 → ServesWith options.answers end options.port app (limits_of options) m v rested after stands begun out1 → IsOr (verdict_of_server end) w → IsVerdictTold n w silent err1 e0 e1 →
    Serves n app options m v before after stands out0 out1 err0 err1
serves_so n app options end w m v before rested after stands out0 begun out1 err0 silent err1 e0 e1 kept same quiet h o l =
    let P : Option (List ℕ) → Type 0 = λ x. ServesWith options.answers end options.port app (limits_of options) m v before after stands x out1 in
    let R : World → Type 0 = λ x. ServesWith options.answers end options.port app (limits_of options) m v x after stands begun out1 in
    let Q : Option (List ℕ) → Type 0 = λ x. err1 ≡ appended x (verdict_line (verdict_of_server end)) in
    record {
      end = end;
      serves = subst P same (subst R kept h);
      status = status_or n (verdict_of_server end) w silent err1 e0 e1 o l;
      err = λ h5 h7. subst Q quiet (told_whole n (verdict_of_server end) w silent err1 e0 e1 o l h5 h7);
    }

-- where memory ran out as the words were read
pub serves_nobody : (n : ℕ) (app : App) (options : ServeOptions) (m : NetMeaning) (v : DialMeaning) (before after : World) (stands : List LogEntry → Type 0) (out0 out1 err0 err1 : Option (List ℕ)) →
    IsFresh m → v.streams ≡ [] → after ≡ before → out1 ≡ out0 → (n ≡ 5) ⊎ (n ≡ 7) → Serves n app options m v before after stands out0 out1 err0 err1
serves_nobody n app options m v before after stands out0 out1 err0 err1 fresh undialled kept same e = record {
  end = Served.Memory;
  serves = nobody_served options.answers options.port app (limits_of options) m v before after stands out0 out1 fresh undialled kept same;
  status = inr ((λ z. absurd (omega (arith, z))), e);
  err = by e;
}
  where
    by : (n ≡ 5) ⊎ (n ≡ 7) → n ≢ 5 → n ≢ 7 → err1 ≡ appended err0 (verdict_line (verdict_of_server Served.Memory))
    by (inl e) h5 h7 = absurd (h5 e)
    by (inr e) h5 h7 = absurd (h7 e)

-- ---- its status

listener_of : (end : Served) → verdict_status (verdict_of_server end) ≡ 10 → end ≡ Served.Listener
listener_of Served.Finished e = absurd (omega arith)
listener_of Served.Listener e = refl
listener_of Served.NoJobs e = absurd (omega arith)
listener_of Served.WriteFault e = absurd (omega arith)
listener_of Served.Memory e = absurd (omega arith)

write_fault_of : (end : Served) → verdict_status (verdict_of_server end) ≡ 5 → end ≡ Served.WriteFault
write_fault_of Served.Finished e = absurd (omega arith)
write_fault_of Served.Listener e = absurd (omega arith)
write_fault_of Served.NoJobs e = absurd (omega arith)
write_fault_of Served.WriteFault e = refl
write_fault_of Served.Memory e = absurd (omega arith)

-- status 10 is told of a listener that failed alone
pub is_listener : (n : ℕ) (end : Served) → IsStatusOf n (verdict_of_server end) → n ≡ 10 → end ≡ Served.Listener
is_listener n end (inl p) e = listener_of end (sym p ∙ e)
is_listener n end (inr (_, inl p)) e = absurd (let q = sym p ∙ e in omega arith)
is_listener n end (inr (_, inr p)) e = absurd (let q = sym p ∙ e in omega arith)

other_number : (end : Served) (m : ℕ) → m ≢ 0 → m ≢ 5 → m ≢ 7 → m ≢ 8 → m ≢ 10 → verdict_status (verdict_of_server end) ≡ m → ⊥
other_number Served.Finished m h0 h5 h7 h8 h10 e = h0 (sym e)
other_number Served.Listener m h0 h5 h7 h8 h10 e = h10 (sym e)
other_number Served.NoJobs m h0 h5 h7 h8 h10 e = h8 (sym e)
other_number Served.WriteFault m h0 h5 h7 h8 h10 e = h5 (sym e)
other_number Served.Memory m h0 h5 h7 h8 h10 e = h7 (sym e)

-- a server has the statuses 0, 5, 7, 8 and 10 alone
pub no_other_status : (P : Type 0) (n m : ℕ) (end : Served) → IsStatusOf n (verdict_of_server end) → n ≡ m → m ≢ 0 → m ≢ 5 → m ≢ 7 → m ≢ 8 → m ≢ 10 → P
no_other_status P n m end (inl p) e h0 h5 h7 h8 h10 = absurd (other_number end m h0 h5 h7 h8 h10 (sym p ∙ e))
no_other_status P n m end (inr (_, inl p)) e h0 h5 h7 h8 h10 = absurd (h5 (sym e ∙ p))
no_other_status P n m end (inr (_, inr p)) e h0 h5 h7 h8 h10 = absurd (h7 (sym e ∙ p))

-- a status that is not 5 is not that of a server that failed to write
pub not_write_fault : (n : ℕ) (end : Served) (w : Verdict) (old new : Option (List ℕ)) (e0 e1 : ℕ) → IsOr (verdict_of_server end) w → IsVerdictTold n w old new e0 e1 → n ≢ 5 → end ≢ Served.WriteFault
not_write_fault n end w old new e0 e1 (inl e) (inl p) h5 = λ z. h5 (p.0 ∙ ap verdict_status e ∙ ap (λ x. verdict_status (verdict_of_server x)) z)
not_write_fault n end w old new e0 e1 (inr q) (inl p) h5 = λ z. q.3 (ap (λ x. verdict_status (verdict_of_server x)) z)
not_write_fault n end w old new e0 e1 o (inr p) h5 = absurd (h5 p.0)

-- one that is neither 5 nor 10 is not that of one whose listener failed
pub not_listener : (n : ℕ) (end : Served) (w : Verdict) (old new : Option (List ℕ)) (e0 e1 : ℕ) → IsOr (verdict_of_server end) w → IsVerdictTold n w old new e0 e1 → n ≢ 5 → n ≢ 10 → end ≢ Served.Listener
not_listener n end w old new e0 e1 (inl e) (inl p) h5 h10 = λ z. h10 (p.0 ∙ ap verdict_status e ∙ ap (λ x. verdict_status (verdict_of_server x)) z)
not_listener n end w old new e0 e1 (inr q) (inl p) h5 h10 = λ z. q.4 (ap (λ x. verdict_status (verdict_of_server x)) z)
not_listener n end w old new e0 e1 o (inr p) h5 h10 = absurd (h5 p.0)

-- the lines of faults, where the call had left err as it was
pub fault_lines : (n : ℕ) (w : Verdict) (err0 silent err1 : Option (List ℕ)) (e0 e1 : ℕ) → silent ≡ err0 → IsVerdictTold n w silent err1 e0 e1 →
    (n ≡ 4 → err1 ≡ appended err0 read_fault_line) × (n ≡ 7 → err1 ≡ appended err0 memory_line)
fault_lines n w err0 silent err1 e0 e1 quiet l =
    let P : Option (List ℕ) → Type 0 = λ x. (n ≡ 4 → err1 ≡ appended x read_fault_line) × (n ≡ 7 → err1 ≡ appended x memory_line) in
    subst P quiet (read_line n w silent err1 e0 e1 l, no_memory_line n w silent err1 e0 e1 l)

-- a verdict that is a write fault is that of the server
written_off : (end : Served) (w : Verdict) → IsOr (verdict_of_server end) w → verdict_status w ≡ 5 → end ≡ Served.WriteFault
written_off end w (inl e) h = write_fault_of end (sym (ap verdict_status e) ∙ h)
written_off end w (inr q) h = absurd (let z = sym (ap verdict_status q.0) ∙ h in omega arith)

pub fails_at_a_line : (n : ℕ) (end : Served) (w : Verdict) (err0 silent err1 : Option (List ℕ)) (w0 begun w1 e0 still e1 : ℕ) → begun ≡ w0 → silent ≡ err0 → still ≡ e0 →
    (end ≡ Served.WriteFault → HasRisen begun w1) → IsOr (verdict_of_server end) w → IsVerdictTold n w silent err1 still e1 → n ≡ 5 → HasFailed err0 err1 w0 w1 e0 e1
fails_at_a_line n end w err0 silent err1 w0 begun w1 e0 still e1 out_as_it_was quiet faultless risen o l e =
    let P : ℕ → Type 0 = λ x. HasFailed err0 err1 x w1 e0 e1 in
    let Q : Option (List ℕ) → Type 0 = λ x. HasFailed x err1 begun w1 e0 e1 in
    let R : ℕ → Type 0 = λ x. HasFailed silent err1 begun w1 x e1 in
    subst P out_as_it_was (subst Q quiet (subst R faultless (fails n w silent err1 begun w1 still e1 (λ h. risen (written_off end w o h)) l e)))
