use Rattle.std.proofs.Common.{ap, arith, map, string_bytes, sym, ◌∙◌}
use Rattle.serve_command.proofs.Ends.{none_told}
use Rattle.gv_top.specs.Status.{verdict_of_server}
use Rattle.gv_top.proofs.Handing.{hands_from, serving_hands, told_from, told_hands}
use Rattle.gv_top.proofs.Servings.{fails_at_a_line, fault_lines, is_listener, is_some, names_one, no_other_status, none_named, not_listener, not_write_fault, serves_nobody, serves_so}
use Rattle.gv_top.proofs.Tops.{err_unfailed, left_alone, server_explained, status_or, told_as}
use Rattle.gv_top.proofs.serving.gvr.Goals as goal

-- ---- where the words were answered without a net

pub returns-in-Some-clause-answers : goal.returns-in-Some-clause-answers
returns-in-Some-clause-answers g c = λ none. c.in-Some.ensures.answers

pub returns-in-Some-clause-checks : goal.returns-in-Some-clause-checks
returns-in-Some-clause-checks g c = λ none. c.in-Some.ensures.checks

pub returns-in-Some-clause-served : goal.returns-in-Some-clause-served
returns-in-Some-clause-served g c = λ options e.
    let named = is_some _ options e in
    serves_nobody c.in-Some.status _ options _ _ _ _ _ _ _ _ _ c.requires.fresh c.requires.undialled.none (ap g.W.World.meaning (c.offline.ensures.native_alone named)) (ap g.K.Sink.written (c.offline.ensures.out_alone named)) (c.in-Some.ensures.not_serve named)

pub returns-in-Some-clause-network_fault : goal.returns-in-Some-clause-network_fault
returns-in-Some-clause-network_fault g c = λ e. absurd (c.in-Some.ensures.no_net e)

-- ---- where it left the call to the server

pub returns-in-None-clause-answers : goal.returns-in-None-clause-answers
returns-in-None-clause-answers g c = λ none. none_named _ _ c.in-None.ensures.serve none

pub returns-in-None-clause-checks : goal.returns-in-None-clause-checks
returns-in-None-clause-checks g c = λ none. none_named _ _ c.in-None.ensures.serve none

pub returns-in-None-clause-borne_out : goal.returns-in-None-clause-borne_out
returns-in-None-clause-borne_out g c =
    let t = told_as c.verdict_of_server.ensures c.tell.ensures.told in
    record {
      read_line = (fault_lines _ t.0 _ _ _ _ _ (ap g.E.Sink.written c.in-None.ensures.err_alone) t.2).0;
      memory_line = (fault_lines _ t.0 _ _ _ _ _ (ap g.E.Sink.written c.in-None.ensures.err_alone) t.2).1;
      read_fault = λ e.
          no_other_status _ _ 4 c.serve-end.result (status_or _ _ t.0 _ _ _ _ t.1 t.2) e (λ z. omega arith) (λ z. omega arith) (λ z. omega arith) (λ z. omega arith) (λ z. omega arith);
      read_unfailed = λ h4 h5. ap g.S.Source.faults (c.offline.ensures.input_alone c.in-None.ensures.serve);
      unfailed = λ h5. (
        c.serve-end.ensures.writes.unfailed (not_write_fault _ c.serve-end.result t.0 _ _ _ _ t.1 t.2 h5) ∙ ap g.K.Sink.faults (c.offline.ensures.out_alone c.in-None.ensures.serve),
        err_unfailed _ t.0 _ _ _ _ t.2 h5 ∙ ap g.E.Sink.faults c.in-None.ensures.err_alone,
      );
      write_fault = λ e.
          fails_at_a_line _ c.serve-end.result t.0 _ _ _ _ _ _ _ _ _ (ap g.K.Sink.faults (c.offline.ensures.out_alone c.in-None.ensures.serve)) (ap g.E.Sink.written c.in-None.ensures.err_alone) (ap g.E.Sink.faults c.in-None.ensures.err_alone)
          c.serve-end.ensures.writes.failed t.1 t.2 e;
    }

pub returns-in-None-clause-usage_only : goal.returns-in-None-clause-usage_only
returns-in-None-clause-usage_only g c = λ e.
    let t = told_as c.verdict_of_server.ensures c.tell.ensures.told in
    no_other_status _ _ 2 c.serve-end.result (status_or _ _ t.0 _ _ _ _ t.1 t.2) e (λ z. omega arith) (λ z. omega arith) (λ z. omega arith) (λ z. omega arith) (λ z. omega arith)

pub returns-in-None-clause-served : goal.returns-in-None-clause-served
returns-in-None-clause-served g c = λ options e.
    let t = told_as c.verdict_of_server.ensures c.tell.ensures.told in
    serves_so _ _ options c.serve-end.result t.0 _ _ _ _ _ _ _ _ _ _ _ _ _ _ (ap g.W.World.meaning (c.offline.ensures.native_alone c.in-None.ensures.serve)) (ap g.K.Sink.written (c.offline.ensures.out_alone c.in-None.ensures.serve)) (ap g.E.Sink.written c.in-None.ensures.err_alone)
    (c.serve-end.ensures.serves options e) t.1 t.2

pub returns-in-None-clause-network_fault : goal.returns-in-None-clause-network_fault
returns-in-None-clause-network_fault g c = λ e.
    let t = told_as c.verdict_of_server.ensures c.tell.ensures.told in
    (c.in-None.ensures.serve, c.serve-end.ensures.listens.failed (is_listener _ c.serve-end.result (status_or _ _ t.0 _ _ _ _ t.1 t.2) e))

pub returns-in-None-clause-behind_alone : goal.returns-in-None-clause-behind_alone
returns-in-None-clause-behind_alone g c = c.serve-end.ensures.undialled

pub returns-in-None-clause-net_alone : goal.returns-in-None-clause-net_alone
returns-in-None-clause-net_alone g c = λ none. none_named _ _ c.in-None.ensures.serve none

pub returns-in-None-clause-left_alone : goal.returns-in-None-clause-left_alone
returns-in-None-clause-left_alone g c = λ h. left_alone _ _ _ _ (c.serve-end.ensures.untouched h ∙ c.offline.ensures.native_alone c.in-None.ensures.serve)

pub returns-in-Some-clause-left_alone : goal.returns-in-Some-clause-left_alone
returns-in-Some-clause-left_alone g c = λ h. c.in-Some.ensures.left_alone

pub returns-in-None-clause-untouched : goal.returns-in-None-clause-untouched
returns-in-None-clause-untouched g c = λ none h. c.serve-end.ensures.untouched h ∙ c.offline.ensures.native_alone c.in-None.ensures.serve

pub returns-in-Some-clause-untouched : goal.returns-in-Some-clause-untouched
returns-in-Some-clause-untouched g c = λ none h. c.offline.ensures.untouched none

pub returns-in-None-clause-net_unfailed : goal.returns-in-None-clause-net_unfailed
returns-in-None-clause-net_unfailed g c = λ h5 h10.
    let t = told_as c.verdict_of_server.ensures c.tell.ensures.told in c.serve-end.ensures.listens.unfailed (not_listener _ c.serve-end.result t.0 _ _ _ _ t.1 t.2 h5 h10)

-- ---- what was handed on

pub returns-in-Some-clause-told : goal.returns-in-Some-clause-told
returns-in-Some-clause-told g c = λ options e. none_told _ (g.N.Net.meaning c.args.net.now) _ _ c.requires.fresh.none

pub returns-in-None-clause-told : goal.returns-in-None-clause-told
returns-in-None-clause-told g c = λ options e.
    told_from _ (g.N.Net.meaning c.serve-end.new.net) _ _ _ (ap g.K.Sink.written (c.offline.ensures.out_alone c.in-None.ensures.serve)) (c.serve-end.ensures.told options e)

pub returns-in-None-clause-began : goal.returns-in-None-clause-began
returns-in-None-clause-began g c = λ options s left named told text well. none_named _ _ c.in-None.ensures.serve (names_one (map string_bytes c.args.words.now) _ named)

pub returns-in-None-clause-handed_ahead : goal.returns-in-None-clause-handed_ahead
returns-in-None-clause-handed_ahead g c = λ gateway named e. none_named _ _ c.in-None.ensures.serve (names_one (map string_bytes c.args.words.now) _ named)

pub returns-in-None-clause-handed : goal.returns-in-None-clause-handed
returns-in-None-clause-handed g c =
    let t = told_as c.verdict_of_server.ensures c.tell.ensures.told in
    let same = c.offline.ensures.out_alone c.in-None.ensures.serve in
    hands_from (ap g.K.Sink.written same) (ap g.K.Sink.handed same) (told_hands _ (verdict_of_server c.serve-end.result) t.0 _ _ _ _ _ _ _ _ t.1 t.2 (serving_hands c.serve-end.result _ _ _ _ c.serve-end.ensures.handed))

pub returns-in-None-clause-err_handed : goal.returns-in-None-clause-err_handed
returns-in-None-clause-err_handed g c = λ h5 e.
    let same = c.in-None.ensures.err_alone in c.tell.ensures.handed h5 (ap g.E.Sink.handed same ∙ e ∙ sym (ap g.E.Sink.written same))

pub tell-requires : goal.tell-requires
tell-requires g c = server_explained c.serve-end.result _ c.verdict_of_server.ensures
