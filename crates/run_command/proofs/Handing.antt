-- What was handed on, and whether native workers were begun.
use Rattle.std.proofs.Common.{◌≡◌, ◌≢◌, ◌⊎◌, inl, inr, refl, ap, sym, subst, ◌∙◌, ℕ, Bool, true, List, ◌++◌, Option, append_assoc}
use Rattle.gv_values.specs.declared.job.Answer.{Answer}
use Rattle.gv_io.specs.Streams.{appended, Extends}
use Rattle.gv_io.proofs.StreamLaws.{appended-appended}
use Rattle.trace_text.specs.Line.{text_of}
use Rattle.scenario_tree.specs.declared.tree.Scenario.{Scenario}
use Rattle.world.specs.Outside.{WorldMeaning}
use Rattle.machine.specs.Run.{Ran, run}
use Rattle.hub_engine.specs.declared.run.EngineEnd.{EngineEnd}
use Rattle.hub_engine.specs.Run.{WroteAhead}
use Rattle.hub_engine.specs.Prepared.{Prepared}
use Rattle.command_words.specs.declared.command.RunOptions.{RunOptions}
use Rattle.command_words.specs.declared.command.RunWorld.{RunWorld}
use Rattle.run_command.specs.Ends.{HadNoMemory, is_broken_off}
use Rattle.run_command.specs.Faults.{Counts}
use Rattle.run_command.specs.Running.{BeganSo, IsHeldAhead, IsNativeAhead}

-- ---- what was handed on

-- a run that was broken off has one of two ends
pub broken_kept : (end : EngineEnd) (P : Type 0) → is_broken_off end ≡ true → end ≢ EngineEnd.WriteFault → end ≢ EngineEnd.Memory → P
broken_kept EngineEnd.WriteFault P e w m = absurd (w refl)
broken_kept EngineEnd.Memory P e w m = absurd (m refl)
broken_kept EngineEnd.MainValue P e w m = absurd (cc e)
broken_kept (EngineEnd.MainFault f) P e w m = absurd (cc e)
broken_kept EngineEnd.NoTurns P e w m = absurd (cc e)
broken_kept EngineEnd.NoMoves P e w m = absurd (cc e)
broken_kept EngineEnd.NoGreenlets P e w m = absurd (cc e)
broken_kept EngineEnd.NoLinks P e w m = absurd (cc e)
broken_kept EngineEnd.NoKills P e w m = absurd (cc e)

-- ---- what was handed on ahead of a question

pub ahead_later : (whole : List Answer → Ran) (ran after : List Answer) (out0 h1 h2 : Option (List ℕ)) → after ≡ ran → WroteAhead whole ran out0 h1 → Extends h1 h2 → WroteAhead whole after out0 h2
ahead_later whole ran after out0 h1 h2 same ahead kept before last e =
    let own = ahead before last (sym same ∙ e) in (
      own.0 ++ kept.more,
      kept.is ∙ ap (λ m. appended m kept.more) own.1 ∙ appended-appended out0 (text_of (whole before).lines ++ own.0) kept.more
          ∙ ap (appended out0) (append_assoc (text_of (whole before).lines) own.0 kept.more),
    )

-- ---- whether native workers were begun

native_is_not_held : (a b : ℕ) → RunWorld.Native a ≡ RunWorld.Held b → ⊥
native_is_not_held a b z = cc z

held_is_not_native : (a b : ℕ) → RunWorld.Held a ≡ RunWorld.Native b → ⊥
held_is_not_native a b z = cc z

script_is_not_native : (a b : ℕ) → RunWorld.Script a ≡ RunWorld.Native b → ⊥
script_is_not_native a b z = cc z

script_is_not_held : (a b : ℕ) → RunWorld.Script a ≡ RunWorld.Held b → ⊥
script_is_not_held a b z = cc z

memory_is_no_write_fault : EngineEnd.Memory ≡ EngineEnd.WriteFault → ⊥
memory_is_no_write_fault z = cc z

-- where memory ran out no write failed
none_failed : (end : EngineEnd) (faults0 faults1 : ℕ) → end ≡ EngineEnd.Memory → Counts (end ≡ EngineEnd.WriteFault) faults0 faults1 → faults1 ≡ faults0
none_failed end faults0 faults1 is counts = counts.unfailed (λ z. memory_is_no_write_fault (sym is ∙ z))

-- a script asks none
pub began_script : (waits : Bool) (options : RunOptions) (tick : ℕ) (s : Scenario) (before after : WorldMeaning) (out0 out1 handed1 : Option (List ℕ)) (faults0 faults1 : ℕ) → options.world ≡ RunWorld.Script tick →
    BeganSo waits options s before after out0 out1 handed1 faults0 faults1
began_script waits options tick s before after out0 out1 handed1 faults0 faults1 script = inl (record {
  native = λ workers e. absurd (script_is_not_native tick workers (sym script ∙ e));
  held = λ workers e. absurd (script_is_not_held tick workers (sym script ∙ e));
})

-- the engine that is prepared with these options has asked them as the options say
pub began_natively : (waits : Bool) (options : RunOptions) (workers : ℕ) (s : Scenario) (before after : WorldMeaning) (engine : Prepared) (end : EngineEnd) (out0 out1 handed1 : Option (List ℕ)) (faults0 faults1 : ℕ) →
    engine ≡ record { scenario = s; turns = options.turns; moves = options.moves } → options.world ≡ RunWorld.Native workers → Counts (end ≡ EngineEnd.WriteFault) faults0 faults1 →
    IsNativeAhead waits (run engine.scenario engine.turns engine.moves) after out0 out1 handed1 ⊎ ((after ≡ before) × HadNoMemory end out0 out1)
    → BeganSo waits options s before after out0 out1 handed1 faults0 faults1
began_natively waits options workers s before after engine end out0 out1 handed1 faults0 faults1 is natively counts (inl h) =
    let P : Prepared → Type 0 = λ p. IsNativeAhead waits (run p.scenario p.turns p.moves) after out0 out1 handed1 in
    inl (record { native = λ others e. subst P is h; held = λ others e. absurd (native_is_not_held workers others (sym natively ∙ e)) })
began_natively waits options workers s before after engine end out0 out1 handed1 faults0 faults1 is natively counts (inr (same, u)) =
    inr (record { unwritten = u.0; untried = none_failed end faults0 faults1 u.1 counts; kept = λ others e. same })

-- so has it with held order
pub began_held : (waits : Bool) (options : RunOptions) (workers : ℕ) (s : Scenario) (before after : WorldMeaning) (engine : Prepared) (end : EngineEnd) (out0 out1 handed1 : Option (List ℕ)) (faults0 faults1 : ℕ) →
    engine ≡ record { scenario = s; turns = options.turns; moves = options.moves } → options.world ≡ RunWorld.Held workers → Counts (end ≡ EngineEnd.WriteFault) faults0 faults1 →
    IsHeldAhead waits (run engine.scenario engine.turns engine.moves) after out0 out1 handed1 ⊎ HadNoMemory end out0 out1 → BeganSo waits options s before after out0 out1 handed1 faults0 faults1
began_held waits options workers s before after engine end out0 out1 handed1 faults0 faults1 is held counts (inl h) =
    let P : Prepared → Type 0 = λ p. IsHeldAhead waits (run p.scenario p.turns p.moves) after out0 out1 handed1 in
    inl (record { native = λ others e. absurd (held_is_not_native workers others (sym held ∙ e)); held = λ others e. subst P is h })
began_held waits options workers s before after engine end out0 out1 handed1 faults0 faults1 is held counts (inr u) =
    inr (record { unwritten = u.0; untried = none_failed end faults0 faults1 u.1 counts; kept = λ others e. absurd (held_is_not_native workers others (sym held ∙ e)) })
