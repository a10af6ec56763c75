use Rattle.std.proofs.Common.{true, refl, sym, ap, ◌∙◌, ◌++◌, ℕ, List, subst}
use Rattle.http_messages.specs.declared.request.AwaitedBody.{AwaitedBody}
use Rattle.wsgi_core.specs.declared.session.SessionStage.TheVariants.{InBody}
use Rattle.http_messages.specs.Cuts.{whole}
use Rattle.http_messages.specs.Readings.{ReadsAlike}
use Rattle.http_messages.specs.Requests.{request_at}
use Rattle.wsgi_core.specs.Answer.{if_continues}
use Rattle.wsgi_core.specs.Steps.{progress_of}
use Rattle.wsgi_core.proofs.ProgressLaws.{progress_at, closed_settled, head_shorter}
use Rattle.wsgi_core.proofs.ProgressSteps.{at_head-waits, at_head-refused, at_head-whole, settled_head, quiet_at_head}
use Rattle.wsgi_core.proofs.session.Session.read_head.Goals as goal

pub returns-in-Waits-clause-goes_on : goal.returns-in-Waits-clause-goes_on
returns-in-Waits-clause-goes_on c =
    let s = c.args.self.now in
    let found = rw c.in-Waits.is at c.in_ok-read_request.ensures in
    let P : List ℕ → Type 0 = λ l. ReadsAlike (request_at s.port) (request_at s.port) s.kept l in
    λ app. at_head-waits app (progress_of s) (progress_at s.port s.answered.count s.stage c.give_back_with.new.self c.give_back_with.new.gone s.closing)
    c.requires.is_open c.requires.at_head refl refl c.requires.at_head c.give_back_with.ensures.gone c.requires.is_open (subst P (sym c.give_back_with.ensures.own) found.1)

pub returns-in-Waits-clause-settled : goal.returns-in-Waits-clause-settled
returns-in-Waits-clause-settled c =
    let s = c.args.self.now in
    let found = rw c.in-Waits.is at c.in_ok-read_request.ensures in
    λ _ app. settled_head app (progress_at s.port s.answered.count s.stage c.give_back_with.new.self c.give_back_with.new.gone s.closing) c.requires.at_head c.requires.is_open
    (ap (request_at s.port) c.give_back_with.ensures.own ∙ found.0)

pub returns-in-Waits-clause-quiet : goal.returns-in-Waits-clause-quiet
returns-in-Waits-clause-quiet c = λ _. quiet_at_head c.args.self.now.closing c.args.self.now.stage c.requires.at_head

pub returns-in_ok-append-in-Refused-clause-goes_on : goal.returns-in_ok-append-in-Refused-clause-goes_on
returns-in_ok-append-in-Refused-clause-goes_on c =
    let s = c.args.self.now in
    let found = rw c.in-Refused.is at c.in_ok-read_request.ensures in
    λ app. at_head-refused app (progress_of s) (record (progress_of s) { kept = c.read_request.new.kept; pending = c.append.new.self; closing = true })
    c.requires.is_open c.requires.at_head c.in-Refused.reason found refl refl
    (c.in_ok-append-in-Refused.ensures.ok ∙ ap (λ (l : List ℕ). s.pending ++ l) c.refusal_text.ensures) refl

pub returns-in_ok-append-in-Refused-clause-settled : goal.returns-in_ok-append-in-Refused-clause-settled
returns-in_ok-append-in-Refused-clause-settled c =
    let s = c.args.self.now in
    λ _ app. closed_settled app (progress_at s.port s.answered.count s.stage c.read_request.new.kept c.append.new.self true) refl

pub returns-in_ok-push_continue-in-Whole-clause-goes_on : goal.returns-in_ok-push_continue-in-Whole-clause-goes_on
returns-in_ok-push_continue-in-Whole-clause-goes_on c =
    let s = c.args.self.now in
    let q = c.in-Whole.request in
    let found = rw c.in-Whole.is at c.in_ok-read_request.ensures in
    λ app. at_head-whole app (progress_of s) (progress_at s.port s.answered.count (InBody q c.awaited_by-awaited.result) c.take_room_of.new.self c.push_continue.new.pending s.closing)
    c.requires.is_open c.requires.at_head q (found ∙ ap (λ (l : List ℕ). whole q l) (sym c.take_room_of.ensures.own)) refl refl
    (ap (λ (a : AwaitedBody). InBody q a) c.awaited_by-awaited.ensures)
    (c.in_ok-push_continue-in-Whole.ensures.sent ∙ ap (λ (l : List ℕ). l ++ (if_continues q).bytes) c.take_room_of.ensures.gone) c.requires.is_open

pub returns-in_ok-push_continue-in-Whole-clause-shorter : goal.returns-in_ok-push_continue-in-Whole-clause-shorter
returns-in_ok-push_continue-in-Whole-clause-shorter c =
    let found = rw c.in-Whole.is at c.in_ok-read_request.ensures in
    λ _. head_shorter c.args.self.now.port c.args.self.now.kept c.in-Whole.request c.take_room_of.new.self
    (found ∙ ap (λ (l : List ℕ). whole c.in-Whole.request l) (sym c.take_room_of.ensures.own))
