use Rattle.std.proofs.Common.{rules, ◌≡◌, ◌≤◌, refl, sym, ap, ◌∙◌, subst, ℕ, length, Result, Ok, Err}
use Rattle.gv_values.specs.Counts.{HasRisen}
use Rattle.stream_server.specs.declared.rounds.RoundFault.{RoundFault}
use Rattle.stream_server.specs.declared.rounds.Round.{Round}
use Rattle.stream_server.proofs.Rounding.{running_first}
use Rattle.stream_server.proofs.rounds.serve_on.Goals as goal

pub loop-init : goal.loop-init
loop-init g c = record {
  can = tt;
  finite = tt;
  running = running_first g.V.Service.protocol g.met.V.Service.lawful c.args.terms (g.V.Service.fits c.args.service.now c.args.world.now) (g.V.Service.tied c.args.service.now c.args.world.now) (g.N.Net.meaning c.args.net.now) c.in-Ok.table c.requires.fresh c.requires.listens c.in-Ok.ensures.count c.in-Ok.ensures.limit c.in-Ok.ensures.members c.in-Ok.ensures.nobody c.requires.tied;
  service = record { sound = c.requires.sound; knows = λ apps fits. fits; as_before = refl };
  accepted = sym (ap length c.requires.fresh.none);
  listens = refl;
  faults = refl;
}

is_fault : (f one : RoundFault) → f ≡ one → ◌≡◌ {A = Result Round RoundFault} (Err f) (Err one)
is_fault f one e = ap (λ (x : RoundFault). Err x) e

is_round : (r one : Round) → r ≡ one → ◌≡◌ {A = Result Round RoundFault} (Ok r) (Ok one)
is_round r one e = ap (λ (x : Round). Ok x) e

no_fault : (r : Round) → ◌≡◌ {A = Result Round RoundFault} (Ok r) (Err RoundFault.Listener) → ⊥
no_fault r h = absurd (cc)

spent_fault : (f : RoundFault) → f ≡ RoundFault.Spent → ◌≡◌ {A = Result Round RoundFault} (Err f) (Err RoundFault.Listener) → ⊥
spent_fault f e h = absurd (cc)

memory_fault : (f : RoundFault) → f ≡ RoundFault.Memory → ◌≡◌ {A = Result Round RoundFault} (Err f) (Err RoundFault.Listener) → ⊥
memory_fault f e h = absurd (cc)

pub loop-preserved : goal.loop-preserved
loop-preserved g c =
    let was = c.loop.invariant in
    let now = c.in-Ok-GoesOn.ensures in
    record {
      can = tt;
      finite = tt;
      running = now.running;
      service = record {
        sound = now.service.sound;
        knows = λ apps fits. was.service.knows apps (now.service.knows apps fits);
        as_before = now.service.as_before ∙ was.service.as_before;
      };
      accepted = now.accepted c.in-Ok-GoesOn.count (is_round c.in-Ok-GoesOn.field-0 (Round.GoesOn c.in-Ok-GoesOn.count) c.in-Ok-GoesOn.field-0-is);
      listens = now.fares.listens ∙ was.listens;
      faults = now.fares.unfailed (no_fault c.in-Ok-GoesOn.field-0) ∙ was.faults;
    }

pub returns-in-Ok-Finished : goal.returns-in-Ok-Finished
returns-in-Ok-Finished g c =
    let was = c.loop.invariant in
    let now = c.in-Ok-Finished.ensures in
    record {
      left = now.left;
      finished = λ _. now.finished (is_round c.in-Ok-Finished.field-0 Round.Finished c.in-Ok-Finished.field-0-is);
      resting = search rules;
      listener = search rules;
      unfailed = λ _. now.fares.unfailed (no_fault c.in-Ok-Finished.field-0) ∙ was.faults;
      listens = now.fares.listens ∙ was.listens;
      never_falls = subst (λ (n : ℕ). n ≤ (g.N.Net.meaning c.turn.new.net).faults) was.faults now.fares.never_falls;
      sound = now.service.sound;
      knows = λ apps fits. was.service.knows apps (now.service.knows apps fits);
      lasting = now.service.as_before ∙ was.service.as_before;
      in_vain = search rules;
    }

pub returns-in-Err-Listener : goal.returns-in-Err-Listener
returns-in-Err-Listener g c =
    let was = c.loop.invariant in
    let now = c.in-Err-Listener.ensures in
    record {
      left = now.left;
      finished = search rules;
      resting = λ _. now.fares.resting (is_fault c.in-Err-Listener.field-0 RoundFault.Listener c.in-Err-Listener.field-0-is);
      listener = λ _. subst (λ (n : ℕ). HasRisen n (g.N.Net.meaning c.turn.new.net).faults) was.faults (now.fares.listener (is_fault c.in-Err-Listener.field-0 RoundFault.Listener c.in-Err-Listener.field-0-is));
      unfailed = λ other. absurd (other refl);
      listens = now.fares.listens ∙ was.listens;
      never_falls = subst (λ (n : ℕ). n ≤ (g.N.Net.meaning c.turn.new.net).faults) was.faults now.fares.never_falls;
      sound = now.service.sound;
      knows = λ apps fits. was.service.knows apps (now.service.knows apps fits);
      lasting = now.service.as_before ∙ was.service.as_before;
      in_vain = search rules;
    }

pub returns-in-Err-Spent : goal.returns-in-Err-Spent
returns-in-Err-Spent g c =
    let was = c.loop.invariant in
    let now = c.in-Err-Spent.ensures in
    record {
      left = now.left;
      finished = search rules;
      resting = search rules;
      listener = search rules;
      unfailed = λ _. now.fares.unfailed (spent_fault c.in-Err-Spent.field-0 c.in-Err-Spent.field-0-is) ∙ was.faults;
      listens = now.fares.listens ∙ was.listens;
      never_falls = subst (λ (n : ℕ). n ≤ (g.N.Net.meaning c.turn.new.net).faults) was.faults now.fares.never_falls;
      sound = now.service.sound;
      knows = λ apps fits. was.service.knows apps (now.service.knows apps fits);
      lasting = now.service.as_before ∙ was.service.as_before;
      in_vain = λ _. now.in_vain (is_fault c.in-Err-Spent.field-0 RoundFault.Spent c.in-Err-Spent.field-0-is);
    }

pub returns-in-Err-Memory : goal.returns-in-Err-Memory
returns-in-Err-Memory g c =
    let was = c.loop.invariant in
    let now = c.in-Err-Memory.ensures in
    record {
      left = now.left;
      finished = search rules;
      resting = search rules;
      listener = search rules;
      unfailed = λ _. now.fares.unfailed (memory_fault c.in-Err-Memory.field-0 c.in-Err-Memory.field-0-is) ∙ was.faults;
      listens = now.fares.listens ∙ was.listens;
      never_falls = subst (λ (n : ℕ). n ≤ (g.N.Net.meaning c.turn.new.net).faults) was.faults now.fares.never_falls;
      sound = now.service.sound;
      knows = λ apps fits. was.service.knows apps (now.service.knows apps fits);
      lasting = now.service.as_before ∙ was.service.as_before;
      in_vain = search rules;
    }
