use Rattle.std.proofs.Common.{◌+◌, ◌≤◌, ℕ, Ok, [], false, ap, sym, ◌∙◌, length, length-take-le, take, arith}
use Rattle.std.proofs.lemmas.Grind.{common_steps}
use Rattle.gv_io.proofs.StreamLaws.{Extends-nothing, prepended-nothing}
use Rattle.gv_io.specs.declared.limits.TheConstants.{MOST_PIECE}
use Rattle.wsgi_connection.specs.declared.connection.TheConstants.{MOST_CONNECTION}
use Rattle.wsgi_connection.proofs.Exchanges.{cut_only, handed_before, read_failed, input_ended, piece_cut, piece_answered, piece_last, looked_at_more, short_piece, is_closing, is_serving, was_closed}
use Rattle.wsgi_connection.proofs.connection.exchange.Goals as goal

pub returns-in_default-clause-leaves : goal.returns-in_default-clause-leaves
returns-in_default-clause-leaves g c = λ port in0 out0 h.
    read_failed _ _ _ port c.args.count in0 _ _ out0 _ _ h c.requires c.in_default.ensures.same

pub returns-then-came-eq0-clause-leaves : goal.returns-then-came-eq0-clause-leaves
returns-then-came-eq0-clause-leaves g c = λ port in0 out0 h.
    input_ended _ _ _ port c.args.count c.in-Ok.came c.read.new.buf in0 _ _ out0 _ _ _ c.end_input.result h c.requires c.if-came-eq0.true c.in-Ok.ensures.next
    (c.in-Ok.ensures.end (ap (λ (n : ℕ). Ok n) c.if-came-eq0.true)) (c.end_input.ensures.nothing _ port (take MOST_CONNECTION h.read) h.at_rest) c.end_input.ensures.ended

pub returns-in-Err-clause-leaves : goal.returns-in-Err-clause-leaves
returns-in-Err-clause-leaves g c = λ port in0 out0 h.
    let few : c.min-looked_at.result ≤ MOST_PIECE = grind (arith, common_steps) in
    let fits : c.args.count + c.in-Ok.came ≤ MOST_CONNECTION + 1 = grind (arith, common_steps) in
    let more = looked_at_more h.read c.read.new.buf _ c.args.count c.in-Ok.came c.min-looked_at.result h.is_long c.in-Ok.ensures.count c.min-looked_at.ensures in
    piece_cut _ _ _ port c.args.count c.in-Ok.came c.read.new.buf _ in0 _ _ out0 _ _ _ c.in-Err.end h c.in-Ok.ensures.count c.in-Ok.ensures.next fits more (short_piece c.min-looked_at.result _ few) c.answer_piece.ensures.written c.in-Err.ensures.broke

pub returns-in-Serving-clause-leaves : goal.returns-in-Serving-clause-leaves
returns-in-Serving-clause-leaves g c = λ port in0 out0 h.
    let more = looked_at_more h.read c.read.new.buf _ c.args.count c.in-Ok.came c.min-looked_at.result h.is_long c.in-Ok.ensures.count c.min-looked_at.ensures in
    let rest = c.in-Ok-answer_piece.ensures.at_rest port (take MOST_CONNECTION h.read) h.at_rest in
    piece_answered _ _ _ port c.args.count c.in-Ok.came c.read.new.buf _ in0 _ _ out0 _ _ _ c.answer_piece.new.session h c.in-Ok.ensures.count c.in-Ok.ensures.next more rest
    (c.in-Ok-answer_piece.ensures.sent port (take MOST_CONNECTION h.read) out0 h.at_rest h.served.sent)
    (is_serving _ (c.in-Serving.ensures.at _ port _ false _ rest))

pub returns-in-Closing-clause-leaves : goal.returns-in-Closing-clause-leaves
returns-in-Closing-clause-leaves g c = λ port in0 out0 h.
    let few : c.min-looked_at.result ≤ MOST_PIECE = grind (arith, common_steps) in
    let fits : c.args.count + c.in-Ok.came ≤ MOST_CONNECTION + 1 = grind (arith, common_steps) in
    let more = looked_at_more h.read c.read.new.buf _ c.args.count c.in-Ok.came c.min-looked_at.result h.is_long c.in-Ok.ensures.count c.min-looked_at.ensures in
    let rest = c.in-Ok-answer_piece.ensures.at_rest port (take MOST_CONNECTION h.read) h.at_rest in
    piece_last _ _ _ port c.args.count c.in-Ok.came c.read.new.buf _ in0 _ _ out0 _ _ _ h c.in-Ok.ensures.count c.in-Ok.ensures.next fits more (short_piece c.min-looked_at.result _ few) c.answer_piece.ensures.written
    (c.in-Ok-answer_piece.ensures.sent port (take MOST_CONNECTION h.read) out0 h.at_rest h.served.sent)
    (is_closing _ (c.in-Closing.ensures.at _ port _ false _ rest))

pub returns-in_default-clause-handed : goal.returns-in_default-clause-handed
returns-in_default-clause-handed g c = λ e w m. e

pub returns-then-came-eq0-clause-handed : goal.returns-then-came-eq0-clause-handed
returns-then-came-eq0-clause-handed g c = λ e w m. c.end_input.ensures.handed (was_closed c.end_input.result c.end_input.ensures.ended w)

pub returns-in-Err-clause-handed : goal.returns-in-Err-clause-handed
returns-in-Err-clause-handed g c = λ e w m. cut_only c.in-Err.end _ _ _ _ _ _ _ _ c.in-Err.ensures.broke w m

pub returns-in-Serving-clause-handed : goal.returns-in-Serving-clause-handed
returns-in-Serving-clause-handed g c = λ e w m. c.in-Ok-answer_piece.ensures.handed

pub returns-in-Closing-clause-handed : goal.returns-in-Closing-clause-handed
returns-in-Closing-clause-handed g c = λ e w m. c.in-Ok-answer_piece.ensures.handed

pub returns-in_default-clause-handed_ahead : goal.returns-in_default-clause-handed_ahead
returns-in_default-clause-handed_ahead g c = λ port in0 out0 h e.
    handed_before _ _ _ port c.args.count [] in0 _ _ out0 _ _ _ _ h (sym c.in_default.ensures.same ∙ sym (prepended-nothing _)) (omega arith) e (Extends-nothing _)

pub returns-then-came-eq0-clause-handed_ahead : goal.returns-then-came-eq0-clause-handed_ahead
returns-then-came-eq0-clause-handed_ahead g c = λ port in0 out0 h e.
    let came : length (take c.in-Ok.came c.read.new.buf) ≤ MOST_PIECE = omega (arith, length-take-le c.in-Ok.came c.read.new.buf c.in-Ok.ensures.count, c.if-came-eq0.true) in
    handed_before _ _ _ port c.args.count (take c.in-Ok.came c.read.new.buf) in0 _ _ out0 _ _ _ _ h c.in-Ok.ensures.next came e c.end_input.ensures.never_taken_back

pub returns-in-Err-clause-handed_ahead : goal.returns-in-Err-clause-handed_ahead
returns-in-Err-clause-handed_ahead g c = λ port in0 out0 h e.
    let few : c.in-Ok.came ≤ MOST_PIECE = grind (arith, common_steps) in
    let came : length (take c.in-Ok.came c.read.new.buf) ≤ MOST_PIECE = omega (arith, length-take-le c.in-Ok.came c.read.new.buf c.in-Ok.ensures.count, few) in
    handed_before _ _ _ port c.args.count (take c.in-Ok.came c.read.new.buf) in0 _ _ out0 _ _ _ _ h c.in-Ok.ensures.next came e c.answer_piece.ensures.never_taken_back

pub returns-in-Serving-clause-handed_ahead : goal.returns-in-Serving-clause-handed_ahead
returns-in-Serving-clause-handed_ahead g c = λ port in0 out0 h e.
    let few : c.in-Ok.came ≤ MOST_PIECE = grind (arith, common_steps) in
    let came : length (take c.in-Ok.came c.read.new.buf) ≤ MOST_PIECE = omega (arith, length-take-le c.in-Ok.came c.read.new.buf c.in-Ok.ensures.count, few) in
    handed_before _ _ _ port c.args.count (take c.in-Ok.came c.read.new.buf) in0 _ _ out0 _ _ _ _ h c.in-Ok.ensures.next came e c.answer_piece.ensures.never_taken_back

pub returns-in-Closing-clause-handed_ahead : goal.returns-in-Closing-clause-handed_ahead
returns-in-Closing-clause-handed_ahead g c = λ port in0 out0 h e.
    let few : c.in-Ok.came ≤ MOST_PIECE = grind (arith, common_steps) in
    let came : length (take c.in-Ok.came c.read.new.buf) ≤ MOST_PIECE = omega (arith, length-take-le c.in-Ok.came c.read.new.buf c.in-Ok.ensures.count, few) in
    handed_before _ _ _ port c.args.count (take c.in-Ok.came c.read.new.buf) in0 _ _ out0 _ _ _ _ h c.in-Ok.ensures.next came e c.answer_piece.ensures.never_taken_back
