use Rattle.std.proofs.Common.{codes, ap, sym}
use Rattle.gv_values.specs.Texts.{fault_text, value_text}
use Rattle.trace_text.specs.Line.{cause_text}
use Rattle.trace_text.proofs.Pieces.{as_before, broken, bytes_err, bytes_ok, last, no_more, no_text, unchanged}
use Rattle.trace_text.proofs.write.push_cause.Goals as goal

pub returns-in_err-extend_from_slice-in-Value : goal.returns-in_err-extend_from_slice-in-Value
returns-in_err-extend_from_slice-in-Value c =
    let r = c.from_residual.result in
    record { ok = no_text r _ c.from_residual.ensures.0; err = no_more r (as_before c.in_err-extend_from_slice-in-Value.ensures.items) }

pub returns-in_err-extend_from_slice-in-Fault : goal.returns-in_err-extend_from_slice-in-Fault
returns-in_err-extend_from_slice-in-Fault c =
    let r = c.from_residual-in_err-extend_from_slice-in-Fault.result in
    record {
      ok = no_text r _ c.from_residual-in_err-extend_from_slice-in-Fault.ensures.0;
      err = no_more r (as_before c.in_err-extend_from_slice-in-Fault.ensures.items);
    }

pub returns-in_ok-extend_from_slice-in-Value : goal.returns-in_ok-extend_from_slice-in-Value
returns-in_ok-extend_from_slice-in-Value c =
    let r = c.value_text.result in
    let out = c.args.out.now.items in
    let word = codes "value " in
    let front = c.in_ok-extend_from_slice-in-Value.ensures.items in
    record {
      ok = last r _ _ out word (value_text c.in-Value.value) _ front (ap cause_text (sym c.in-Value.is)) c.value_text.ensures.ok;
      err = broken r _ _ out word front (unchanged r _ _ c.value_text.ensures.err);
    }

pub returns-in_ok-extend_from_slice-in-Fault : goal.returns-in_ok-extend_from_slice-in-Fault
returns-in_ok-extend_from_slice-in-Fault c =
    let r = c.fault_text.result in
    let out = c.args.out.now.items in
    let word = codes "fault " in
    let front = c.in_ok-extend_from_slice-in-Fault.ensures.items in
    record {
      ok = last r _ _ out word (fault_text c.in-Fault.fault) _ front (ap cause_text (sym c.in-Fault.is)) c.fault_text.ensures.ok;
      err = broken r _ _ out word front (unchanged r _ _ c.fault_text.ensures.err);
    }

pub returns-in-NoTurns : goal.returns-in-NoTurns
returns-in-NoTurns c =
    let out = c.args.out.now.items in
    let r = c.extend_from_slice-in-NoTurns.result in
    record { ok = rw c.in-NoTurns.is (bytes_ok r _ out (codes "no-turns") c.extend_from_slice-in-NoTurns.ensures.items); err = bytes_err r _ out (codes "no-turns") c.extend_from_slice-in-NoTurns.ensures.items }

pub returns-in-NoMoves : goal.returns-in-NoMoves
returns-in-NoMoves c =
    let out = c.args.out.now.items in
    let r = c.extend_from_slice-in-NoMoves.result in
    record { ok = rw c.in-NoMoves.is (bytes_ok r _ out (codes "no-moves") c.extend_from_slice-in-NoMoves.ensures.items); err = bytes_err r _ out (codes "no-moves") c.extend_from_slice-in-NoMoves.ensures.items }

pub returns-in-NoGreenlets : goal.returns-in-NoGreenlets
returns-in-NoGreenlets c =
    let out = c.args.out.now.items in
    let r = c.extend_from_slice-in-NoGreenlets.result in
    record { ok = rw c.in-NoGreenlets.is (bytes_ok r _ out (codes "no-greenlets") c.extend_from_slice-in-NoGreenlets.ensures.items); err = bytes_err r _ out (codes "no-greenlets") c.extend_from_slice-in-NoGreenlets.ensures.items }

pub returns-in-NoLinks : goal.returns-in-NoLinks
returns-in-NoLinks c =
    let out = c.args.out.now.items in
    let r = c.extend_from_slice-in-NoLinks.result in
    record { ok = rw c.in-NoLinks.is (bytes_ok r _ out (codes "no-links") c.extend_from_slice-in-NoLinks.ensures.items); err = bytes_err r _ out (codes "no-links") c.extend_from_slice-in-NoLinks.ensures.items }

pub returns-in-NoKills : goal.returns-in-NoKills
returns-in-NoKills c =
    let out = c.args.out.now.items in
    let r = c.extend_from_slice-in-NoKills.result in
    record { ok = rw c.in-NoKills.is (bytes_ok r _ out (codes "no-kills") c.extend_from_slice-in-NoKills.ensures.items); err = bytes_err r _ out (codes "no-kills") c.extend_from_slice-in-NoKills.ensures.items }
