use Rattle.std.proofs.Common.{◌≡◌, None, refl, sym, arith}
use Rattle.trace_laws.proofs.Matching.{differs_compares, differs_next, differs_told, fits_next, fits_told, from_place, none_there, prefix_extends, shorter, stuck_told, whole_extends}
use Rattle.trace_laws.proofs.compare.CompareSinkSink.write_all.Goals as goal

pub returns-then-is_some-clause-err : goal.returns-then-is_some-clause-err
returns-then-is_some-clause-err c = stuck_told c.self.inside.trace.now c.args.bytes.now c.self.inside.matched c.self.inside.faults c.saturating_add-self-inside.result c.args.self.now c.self.inside.other (sym c.self.view_is)

pub returns-then-same-bytes-clause-ok : goal.returns-then-same-bytes-clause-ok
returns-then-same-bytes-clause-ok c =
    let none : c.self.inside.other ≡ None = none_there c.self.inside.other c.is_some.result c.is_some.ensures c.if-is_some.false in
    fits_told c.self.inside.trace.now c.args.bytes.now c.self.inside.matched c.common_len-same.result c.self.inside.faults c.self.inside.faults c.args.self.now c.self.inside.other (sym c.self.view_is) none
    c.if-same-bytes.true (from_place c.self.inside.trace.now c.self.inside.matched c.args.bytes.now c.common_len-same.result c.common_len-same.ensures)

pub returns-then-same-bytes-clause-next : goal.returns-then-same-bytes-clause-next
returns-then-same-bytes-clause-next c =
    let none : c.self.inside.other ≡ None = none_there c.self.inside.other c.is_some.result c.is_some.ensures c.if-is_some.false in
    fits_next c.self.inside.trace.now c.args.bytes.now c.self.inside.matched c.common_len-same.result c.self.inside.faults c.args.self.now c.self.inside.other (sym c.self.view_is) none
    c.if-same-bytes.true (from_place c.self.inside.trace.now c.self.inside.matched c.args.bytes.now c.common_len-same.result c.common_len-same.ensures)

pub invariant_of-self-2 : goal.invariant_of-self-2
invariant_of-self-2 c =
    let common = from_place c.self.inside.trace.now c.self.inside.matched c.args.bytes.now c.common_len-same.result c.common_len-same.ensures in
    differs_compares c.self.inside.trace.now c.args.bytes.now c.self.inside.matched c.common_len-same.result c.self.inside.faults _ _ c.self.inside.other c.self.invariant (omega arith)
    (shorter c.args.bytes.now c.common_len-same.result common.in_bytes c.if-same-bytes.false) refl common

pub returns-clause-err : goal.returns-clause-err
returns-clause-err c =
    let none : c.self.inside.other ≡ None = none_there c.self.inside.other c.is_some.result c.is_some.ensures c.if-is_some.false in
    let common = from_place c.self.inside.trace.now c.self.inside.matched c.args.bytes.now c.common_len-same.result c.common_len-same.ensures in
    differs_told c.self.inside.trace.now c.args.bytes.now c.self.inside.matched c.common_len-same.result c.self.inside.faults c.saturating_add-self-inside-2.result _ c.args.self.now c.self.inside.other (sym c.self.view_is) none
    (shorter c.args.bytes.now c.common_len-same.result common.in_bytes c.if-same-bytes.false) refl common

pub returns-clause-not_next : goal.returns-clause-not_next
returns-clause-not_next c =
    let common = from_place c.self.inside.trace.now c.self.inside.matched c.args.bytes.now c.common_len-same.result c.common_len-same.ensures in
    differs_next c.self.inside.trace.now c.args.bytes.now c.self.inside.matched c.common_len-same.result c.self.inside.faults c.args.self.now c.self.inside.other (sym c.self.view_is)
    (shorter c.args.bytes.now c.common_len-same.result common.in_bytes c.if-same-bytes.false) common

pub returns-then-is_some-clause-never_taken_back : goal.returns-then-is_some-clause-never_taken_back
returns-then-is_some-clause-never_taken_back c =
    prefix_extends _ _ _
    (stuck_told c.self.inside.trace.now c.args.bytes.now c.self.inside.matched c.self.inside.faults c.saturating_add-self-inside.result c.args.self.now c.self.inside.other (sym c.self.view_is))

pub returns-then-same-bytes-clause-never_taken_back : goal.returns-then-same-bytes-clause-never_taken_back
returns-then-same-bytes-clause-never_taken_back c =
    let none : c.self.inside.other ≡ None = none_there c.self.inside.other c.is_some.result c.is_some.ensures c.if-is_some.false in
    whole_extends _ _ _
    (fits_told c.self.inside.trace.now c.args.bytes.now c.self.inside.matched c.common_len-same.result c.self.inside.faults c.self.inside.faults c.args.self.now c.self.inside.other (sym c.self.view_is) none
    c.if-same-bytes.true (from_place c.self.inside.trace.now c.self.inside.matched c.args.bytes.now c.common_len-same.result c.common_len-same.ensures))

pub returns-clause-never_taken_back : goal.returns-clause-never_taken_back
returns-clause-never_taken_back c =
    let none : c.self.inside.other ≡ None = none_there c.self.inside.other c.is_some.result c.is_some.ensures c.if-is_some.false in
    let common = from_place c.self.inside.trace.now c.self.inside.matched c.args.bytes.now c.common_len-same.result c.common_len-same.ensures in
    prefix_extends _ _ _
    (differs_told c.self.inside.trace.now c.args.bytes.now c.self.inside.matched c.common_len-same.result c.self.inside.faults c.saturating_add-self-inside-2.result _ c.args.self.now c.self.inside.other (sym c.self.view_is) none
    (shorter c.args.bytes.now c.common_len-same.result common.in_bytes c.if-same-bytes.false) refl common)
