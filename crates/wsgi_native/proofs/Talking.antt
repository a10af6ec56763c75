-- A session that may wait for a job is a lawful side of a connection.
use Rattle.std.proofs.Common.{◌≡◌, ℕ, false, List, Option, IsSome, is_some, refl, sym, ap, ◌∙◌, subst}
use Rattle.http_messages.specs.Environ.{Pair}
use Rattle.gv_values.specs.declared.job.Job.{Job}
use Rattle.wsgi_core.specs.Applications.{App}
use Rattle.wsgi_core.specs.declared.reply.Reply.{Reply}
use Rattle.wsgi_core.specs.Steps.{IsReplyTo}
use Rattle.wsgi_native.specs.Agreeing.{IsPlain}
use Rattle.wsgi_native.specs.Asking.{AsksForJob, IsAskedFor}
use Rattle.wsgi_native.specs.declared.job_talk.Asked.{Asked}
use Rattle.wsgi_native.specs.Talks.{request_of}
use Rattle.wsgi_native.specs.declared.job_talk.JobTalk.{JobTalk}

-- ---- what is asked for

pub asked_nothing : (o : Option (List Pair × List ℕ)) (a : Asked) → a ≡ Asked.Nothing → IsAskedFor o a → is_some o ≡ false
asked_nothing o a e h =
    let P : Asked → Type 0 = λ x. IsAskedFor o x in
    ap (λ (x : Option (List Pair × List ℕ)). is_some x) (subst P e h)

pub asked_job : (t : JobTalk) (a : Asked) (job : Job) → a ≡ Asked.AJob job → IsAskedFor (request_of t) a → AsksForJob t
asked_job t a job e h =
    let P : Asked → Type 0 = λ x. IsAskedFor (request_of t) x in
    let is = subst P e h in
    (job, record { request = is.0; asked = is.1; wants = is.2 })

pub asked_waits : (o : Option (List Pair × List ℕ)) (a : Asked) (reply : Reply) → a ≡ Asked.AReply reply → IsAskedFor o a → IsSome o
asked_waits o a reply e h =
    let P : Asked → Type 0 = λ x. IsAskedFor o x in
    let is = subst P e h in
    subst (λ (x : Option (List Pair × List ℕ)). IsSome x) (sym is.1) refl

pub asked_reply : (o : Option (List Pair × List ℕ)) (a : Asked) (reply : Reply) → a ≡ Asked.AReply reply → IsAskedFor o a → (app : App) (number : ℕ) → IsPlain app → IsReplyTo app number o reply
asked_reply o a reply e h app number plain =
    let P : Asked → Type 0 = λ x. IsAskedFor o x in
    let is = subst P e h in
    subst (λ (x : Option (List Pair × List ℕ)). IsReplyTo app number x reply) (sym is.1) (is.3 number ∙ sym (plain number is.0.0 is.0.1 is.2))
