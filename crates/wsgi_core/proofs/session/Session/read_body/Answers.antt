use Rattle.std.proofs.Common.{true, refl, sym, ap, ◌∙◌, ◌++◌, ℕ, List}
use Rattle.wsgi_core.specs.declared.session.SessionStage.TheVariants.{AtHead, InBody, Asked}
use Rattle.wsgi_core.specs.Steps.{progress_of}
use Rattle.wsgi_core.proofs.ProgressLaws.{progress_at, body_shorter}
use Rattle.wsgi_core.proofs.ProgressSteps.{at_body-waits, at_body-refused, at_body-whole, settled_body}
use Rattle.wsgi_core.proofs.session.Session.read_body.Goals as goal

pub returns-in-BodyWaits-clause-goes_on : goal.returns-in-BodyWaits-clause-goes_on
returns-in-BodyWaits-clause-goes_on c =
    let s = c.args.self.now in
    let found = rw c.in-BodyWaits.is at c.in_ok-left-in-InBody.ensures in
    λ app. at_body-waits app (progress_of s) (progress_at s.port s.answered.count (InBody c.in-InBody.request c.in-BodyWaits.left) c.read_body.new.kept s.pending s.closing)
    c.requires.is_open c.in-InBody.request c.in-InBody.awaited (sym c.replace.ensures.value ∙ c.in-InBody.is) c.in-BodyWaits.left found.1 refl refl refl refl c.requires.is_open

pub returns-in-BodyWaits-clause-settled : goal.returns-in-BodyWaits-clause-settled
returns-in-BodyWaits-clause-settled c =
    let s = c.args.self.now in
    let found = rw c.in-BodyWaits.is at c.in_ok-left-in-InBody.ensures in
    λ _ app. settled_body app (progress_at s.port s.answered.count (InBody c.in-InBody.request c.in-BodyWaits.left) c.read_body.new.kept s.pending s.closing)
    c.in-InBody.request c.in-BodyWaits.left refl c.requires.is_open found.0

pub returns-in_ok-append-in-BodyRefused-clause-goes_on : goal.returns-in_ok-append-in-BodyRefused-clause-goes_on
returns-in_ok-append-in-BodyRefused-clause-goes_on c =
    let s = c.args.self.now in
    let found = rw c.in-BodyRefused.is at c.in_ok-left-in-InBody.ensures in
    λ app. at_body-refused app (progress_of s) (record (progress_of s) { stage = AtHead; kept = c.read_body.new.kept; pending = c.append.new.self; closing = true })
    c.requires.is_open c.in-InBody.request c.in-InBody.awaited (sym c.replace.ensures.value ∙ c.in-InBody.is) c.in-BodyRefused.reason found refl refl
    (c.in_ok-append-in-BodyRefused.ensures.ok ∙ ap (λ (l : List ℕ). s.pending ++ l) c.refusal_text.ensures) refl

pub returns-in-BodyWhole-clause-goes_on : goal.returns-in-BodyWhole-clause-goes_on
returns-in-BodyWhole-clause-goes_on c =
    let s = c.args.self.now in
    let found = rw c.in-BodyWhole.is at c.in_ok-left-in-InBody.ensures in
    λ app. at_body-whole app (progress_of s) (progress_at s.port s.answered.count (Asked c.in-InBody.request c.in-BodyWhole.body) c.read_body.new.kept s.pending s.closing)
    c.requires.is_open c.in-InBody.request c.in-InBody.awaited (sym c.replace.ensures.value ∙ c.in-InBody.is) c.in-BodyWhole.body found refl refl refl refl c.requires.is_open

pub returns-in-BodyWhole-clause-shorter : goal.returns-in-BodyWhole-clause-shorter
returns-in-BodyWhole-clause-shorter c =
    let found = rw c.in-BodyWhole.is at c.in_ok-left-in-InBody.ensures in
    λ _. body_shorter c.in-InBody.awaited c.args.self.now.kept c.in-BodyWhole.body c.read_body.new.kept found
