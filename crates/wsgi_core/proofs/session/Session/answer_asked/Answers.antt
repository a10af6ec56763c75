use Rattle.std.proofs.Common.{◌≡◌, ◌∙◌, ◌++◌, ℕ, List, refl, sym, ap}
use Rattle.wsgi_core.specs.declared.session.SessionStage.TheVariants.{Asked}
use Rattle.wsgi_core.specs.Answer.{answer}
use Rattle.wsgi_core.specs.Steps.{progress_of}
use Rattle.wsgi_core.proofs.ProgressLaws.{progress_at}
use Rattle.wsgi_core.proofs.ProgressSteps.{open_where_asked, reply_there, at_asked}
use Rattle.wsgi_core.proofs.session.Session.answer_asked.Goals as goal

pub returns-clause-goes_on : goal.returns-clause-goes_on
returns-clause-goes_on c =
    let s = c.args.self.now in
    let q = c.in-Asked.request in
    let body = c.in-Asked.body in
    let is_open = open_where_asked s.closing s.stage c.requires in
    let waits_for : s.stage ≡ Asked q body = sym c.replace.ensures.value ∙ c.in-Asked.is in
    λ app is. at_asked app (progress_of s) (progress_at s.port c.and_one-self.result.count c.replace.new.dest s.kept c.push_answer.new.out c.in_ok-closes-in-Asked.closes) is_open
    q body c.args.reply waits_for (reply_there app s.answered.count s.closing s.stage q body c.args.reply is_open waits_for is)
    refl c.and_one-self.ensures c.replace.ensures.after refl
    (c.in_ok-closes-in-Asked.ensures.sent ∙ ap (λ (l : List ℕ). l ++ (answer q c.args.reply).bytes) c.take_room.ensures) c.in_ok-closes-in-Asked.ensures.closes
