use Rattle.std.proofs.Common.{◌≡◌, ℕ, List, Option, ap₂, refl, sym, subst, ◌∙◌}
use Rattle.stream_server.specs.Services.{Polls}
use Rattle.stream_server.specs.Tables.{IsListed, SeenTable}
use Rattle.wsgi_relay.specs.Accounts.{AllAgree, given_in}
use Rattle.wsgi_relay.specs.Relaying.{Given}
use Rattle.wsgi_relay.specs.Talks.{relay_protocol}
use Rattle.wsgi_relay.specs.Tied.{HaveAskedOnce}
use Rattle.wsgi_relay.specs.declared.relay_talk.RelayTalk.{RelayTalk}
use Rattle.wsgi_relay.proofs.Releasing.{over_ties}
use Rattle.wsgi_relay.proofs.Turning.{asked_same}
use Rattle.wsgi_relay.proofs.relays.RelaysServiceRelayTalkAppServer.poll.Goals as goal

pub loop-init : goal.loop-init
loop-init g c = record { tied = c.requires.1.0; kept = c.requires.1.1; askers = refl; replies = refl; patience = refl; towards = refl; table = refl }

pub turn-requires-clause-tied : goal.turn-requires-clause-tied
turn-requires-clause-tied g c = c.loop.invariant.tied

pub turn-requires-clause-kept : goal.turn-requires-clause-kept
turn-requires-clause-kept g c = c.loop.invariant.kept

pub loop-preserved : goal.loop-preserved
loop-preserved g c = record {
  tied = c.turn.ensures.tied (λ e. absurd (cc (c.in-GoesOn.is, e)));
  kept = c.turn.ensures.kept;
  askers = c.turn.ensures.askers ∙ c.loop.invariant.askers;
  replies = c.turn.ensures.replies ∙ c.loop.invariant.replies;
  patience = c.turn.ensures.patience ∙ c.loop.invariant.patience;
  towards = c.turn.ensures.towards ∙ c.loop.invariant.towards;
  table = c.loop.invariant.table;
}

pub release-requires-clause-tied : goal.release-requires-clause-tied
release-requires-clause-tied g c = c.turn.ensures.tied (λ e. absurd (cc (c.in-Over.is, e)))

pub release-requires-clause-kept : goal.release-requires-clause-kept
release-requires-clause-kept g c = c.turn.ensures.kept

pub release-requires-clause-once : goal.release-requires-clause-once
release-requires-clause-once g c = subst HaveAskedOnce (sym (c.turn.ensures.askers ∙ c.loop.invariant.askers)) c.requires.1.2.once

pub release-requires-clause-over : goal.release-requires-clause-over
release-requires-clause-over g c = c.turn.ensures.over c.in-Over.slot c.in-Over.far c.in-Over.is

pub returns-in-Over-clause-tied : goal.returns-in-Over-clause-tied
returns-in-Over-clause-tied g c = λ accepted tied.
    over_ties _ _ _ _ c.release.result c.release.ensures.kept (c.release.ensures.tied accepted (asked_same c.args.self.now.askers.list c.turn.new.self.askers.list c.args.table.now c.loop.table accepted (c.turn.ensures.askers ∙ c.loop.invariant.askers) c.loop.invariant.table tied.2))

pub returns-in-Over-clause-fits : goal.returns-in-Over-clause-fits
returns-in-Over-clause-fits g c = λ apps fits.
    subst (λ (l : List ((ℕ × ℕ) × Given)). AllAgree (given_in l) apps) (c.turn.ensures.replies ∙ c.loop.invariant.replies) (c.release.ensures.fits apps fits)

pub returns-in-Over-clause-sound : goal.returns-in-Over-clause-sound
returns-in-Over-clause-sound g c = (c.release.ensures.kept, subst HaveAskedOnce (sym (c.release.ensures.askers ∙ c.turn.ensures.askers ∙ c.loop.invariant.askers)) c.requires.1.2.once)

pub returns-in-Over-clause-lasting : goal.returns-in-Over-clause-lasting
returns-in-Over-clause-lasting g c = ap₂ (λ (p : ℕ) (t : Option ℕ). (p, t)) (c.release.ensures.patience ∙ c.turn.ensures.patience ∙ c.loop.invariant.patience) (c.release.ensures.towards ∙ c.turn.ensures.towards ∙ c.loop.invariant.towards)

pub returns-in-Rests-clause-tied : goal.returns-in-Rests-clause-tied
returns-in-Rests-clause-tied g c = λ accepted tied. (
  c.turn.ensures.tied (λ e. absurd (cc (c.in-Rests.is, e))),
  c.turn.ensures.kept,
  asked_same c.args.self.now.askers.list c.turn.new.self.askers.list c.args.table.now c.loop.table accepted (c.turn.ensures.askers ∙ c.loop.invariant.askers) c.loop.invariant.table tied.2,
)

pub returns-clause-tied : goal.returns-clause-tied
returns-clause-tied g c = λ accepted tied. (c.loop.invariant.tied, c.loop.invariant.kept, asked_same c.args.self.now.askers.list c.loop.self.askers.list c.args.table.now c.loop.table accepted c.loop.invariant.askers c.loop.invariant.table tied.2)

pub returns-clause-fits : goal.returns-clause-fits
returns-clause-fits g c = λ apps fits. subst (λ (l : List ((ℕ × ℕ) × Given)). AllAgree (given_in l) apps) c.loop.invariant.replies fits

pub returns-clause-sound : goal.returns-clause-sound
returns-clause-sound g c = (c.loop.invariant.kept, subst HaveAskedOnce (sym c.loop.invariant.askers) c.requires.1.2.once)

pub returns-clause-lasting : goal.returns-clause-lasting
returns-clause-lasting g c = ap₂ (λ (p : ℕ) (t : Option ℕ). (p, t)) c.loop.invariant.patience c.loop.invariant.towards

pub returns-in-Rests-clause-fits : goal.returns-in-Rests-clause-fits
returns-in-Rests-clause-fits g c = λ apps fits. subst (λ (l : List ((ℕ × ℕ) × Given)). AllAgree (given_in l) apps) (c.turn.ensures.replies ∙ c.loop.invariant.replies) fits

pub returns-in-Rests-clause-sound : goal.returns-in-Rests-clause-sound
returns-in-Rests-clause-sound g c = (c.turn.ensures.kept, subst HaveAskedOnce (sym (c.turn.ensures.askers ∙ c.loop.invariant.askers)) c.requires.1.2.once)

pub returns-in-Rests-clause-lasting : goal.returns-in-Rests-clause-lasting
returns-in-Rests-clause-lasting g c = ap₂ (λ (p : ℕ) (t : Option ℕ). (p, t)) (c.turn.ensures.patience ∙ c.loop.invariant.patience) (c.turn.ensures.towards ∙ c.loop.invariant.towards)

pub returns-in-Memory-clause-fits : goal.returns-in-Memory-clause-fits
returns-in-Memory-clause-fits g c = λ apps fits. subst (λ (l : List ((ℕ × ℕ) × Given)). AllAgree (given_in l) apps) (c.turn.ensures.replies ∙ c.loop.invariant.replies) fits

pub returns-in-Memory-clause-sound : goal.returns-in-Memory-clause-sound
returns-in-Memory-clause-sound g c = (c.turn.ensures.kept, subst HaveAskedOnce (sym (c.turn.ensures.askers ∙ c.loop.invariant.askers)) c.requires.1.2.once)

pub returns-in-Memory-clause-lasting : goal.returns-in-Memory-clause-lasting
returns-in-Memory-clause-lasting g c = ap₂ (λ (p : ℕ) (t : Option ℕ). (p, t)) (c.turn.ensures.patience ∙ c.loop.invariant.patience) (c.turn.ensures.towards ∙ c.loop.invariant.towards)

pub returns-in-Rests-clause-polled : goal.returns-in-Rests-clause-polled
returns-in-Rests-clause-polled g c = c.loop.invariant.table

pub returns-in-Over-clause-polled : goal.returns-in-Over-clause-polled
returns-in-Over-clause-polled g c = subst (λ (t : SeenTable RelayTalk). Polls c.release.result relay_protocol (AllAgree (given_in c.release.new.self.replies.list)) t c.release.new.table) c.loop.invariant.table c.release.ensures.polled

pub returns-clause-polled : goal.returns-clause-polled
returns-clause-polled g c = c.loop.invariant.table
