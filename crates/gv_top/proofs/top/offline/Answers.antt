use Rattle.std.proofs.Common.{refl, arith}
use Rattle.command_words.specs.declared.command.TextCommand.{TextCommand}
use Rattle.gv_top.proofs.ChecksTold.{answers_check}
use Rattle.gv_top.proofs.ReadTexts.{answered_so, headline, refuses_the_rest, spelt_is_answered, spelt_is_judged}
use Rattle.gv_top.proofs.Tops.{answers_connection, ended, fails_to_write, is_answered, lawful_told, left_alone_told, no_memory_told, prints_nothing, read_fault_told, read_unfailed, reads_whole, status_is, unfailed, usage_status}
use Rattle.gv_top.proofs.Handing.{told_hands}
use Rattle.gv_top.proofs.InWorlds.{quiet_blocks}
use Rattle.gv_top.proofs.Servings.{names_no_server, no_memory_status, no_network_fault}
use Rattle.gv_top.proofs.Storms.{answers_storm}
use Rattle.gv_top.proofs.top.offline.Goals as goal

pub returns-in-Some-clause-answers : goal.returns-in-Some-clause-answers
returns-in-Some-clause-answers g c =
    let t = c.tell.ensures.told in
    let h = ended _ c.in-Some.verdict t.0 _ _ _ _ _ _ _ _ _ _ c.in-Some.ensures.came_to t.1 t.2 in
    record {
      run = λ options s left runs told text well. headline options s left h runs told text well (quiet_blocks c.blocks_are_told.ensures c.blocks_are_quiet.ensures options _ s well);
      lawful = λ options runs. lawful_told _ c.in-Some.verdict t.0 _ _ _ _ _ _ t.1 t.2 (c.in-Some.ensures.lawful options runs);
      formatted = λ s left formats told text well.
          answered_so _ _ _ TextCommand.Format _ _ left _ _ _ _ formats (spelt_is_answered TextCommand.Format _ s _ text well) (λ b of. is_answered h left b told of);
      refused = λ command left wanted told none.
          let r = refuses_the_rest command _ _ none in
          (r.0, r.1, answered_so _ _ _ command _ _ left _ _ _ _ wanted r.2 (λ b of. is_answered h left b told of));
      connection = λ gateway named. answers_connection _ _ t.0 gateway _ _ _ _ _ _ _ _ _ t.1 t.2 (c.in-Some.ensures.connection gateway named);
      storm = λ size named. answers_storm size h named;
      ended = h;
      unread = λ command wanted e. h.came_to.unread command wanted (status_is 4 h e (λ z. omega arith));
      unprinted = λ formats h0 h5. prints_nothing h formats h0 h5;
      usage_always = λ none. usage_status _ _ t.0 _ _ _ _ t.1 t.2 (c.in-Some.ensures.no_command none);
      read_whole = λ command wanted h4 h5 h7 left told. reads_whole command h wanted h4 h5 h7 left told;
    }

pub returns-in-Some-clause-checks : goal.returns-in-Some-clause-checks
returns-in-Some-clause-checks g c = let t = c.tell.ensures.told in answers_check (ended _ c.in-Some.verdict t.0 _ _ _ _ _ _ _ _ _ _ c.in-Some.ensures.came_to t.1 t.2)

pub returns-in-Some-clause-borne_out : goal.returns-in-Some-clause-borne_out
returns-in-Some-clause-borne_out g c =
    let t = c.tell.ensures.told in
    let h = ended _ c.in-Some.verdict t.0 _ _ _ _ _ _ _ _ _ _ c.in-Some.ensures.came_to t.1 t.2 in
    record {
      read_line = λ e. read_fault_told h e;
      memory_line = λ e. no_memory_told h e;
      read_fault = λ e. h.came_to.reads.failed (status_is 4 h e (λ z. omega arith));
      read_unfailed = λ h4 h5. read_unfailed h h4 h5;
      write_fault = λ e. fails_to_write h e;
      unfailed = λ h5. unfailed h h5;
    }

pub returns-in-Some-clause-usage_only : goal.returns-in-Some-clause-usage_only
returns-in-Some-clause-usage_only g c = λ e.
    let t = c.tell.ensures.told in
    let h = ended _ c.in-Some.verdict t.0 _ _ _ _ _ _ _ _ _ _ c.in-Some.ensures.came_to t.1 t.2 in
    (h.came_to.usage (status_is 2 h e (λ z. omega arith)), names_no_server _ _ t.0 _ _ _ _ _ t.1 t.2 c.in-Some.ensures.not_serve (λ z. omega (arith, e, z)) (λ z. omega (arith, e, z)))

pub returns-in-Some-clause-not_serve : goal.returns-in-Some-clause-not_serve
returns-in-Some-clause-not_serve g c = λ named. let t = c.tell.ensures.told in no_memory_status _ _ t.0 _ _ _ _ t.1 t.2 (c.in-Some.ensures.not_serve named)

pub returns-in-Some-clause-no_net : goal.returns-in-Some-clause-no_net
returns-in-Some-clause-no_net g c = let t = c.tell.ensures.told in no_network_fault _ _ t.0 _ _ _ _ t.1 t.2 c.in-Some.ensures.no_net

pub returns-in-Some-clause-left_alone : goal.returns-in-Some-clause-left_alone
returns-in-Some-clause-left_alone g c = let t = c.tell.ensures.told in left_alone_told _ _ t.0 _ _ _ _ _ _ _ t.1 t.2 c.in-Some.ensures.left_alone

pub returns-in-Some-clause-began : goal.returns-in-Some-clause-began
returns-in-Some-clause-began g c = λ options s left named told text well.
    c.in-Some.ensures.began (TextCommand.Run options) named left told options s refl (spelt_is_judged s _ text well)

pub returns-in-Some-clause-handed : goal.returns-in-Some-clause-handed
returns-in-Some-clause-handed g c = let t = c.tell.ensures.told in told_hands _ c.in-Some.verdict t.0 _ _ _ _ _ _ _ _ t.1 t.2 c.in-Some.ensures.hands
