use Rattle.std.proofs.Common.{◌++◌, append-nil, sym, ◌∙◌, [], false}
use Rattle.wsgi_connection.specs.Pieces.{said}
use Rattle.wsgi_connection.proofs.Exchanges.{where_either, where_err, where_ok, rests, sends, sends_prefix}
use Rattle.wsgi_connection.proofs.connection.answer_piece.Goals as goal

pub returns-then-is_err-clause-broke : goal.returns-then-is_err-clause-broke
returns-then-is_err-clause-broke g c = λ port fed out0 h told.
    let app = g.A.Application.answer_of c.args.app.now in
    let pending = g.T.Talk.due c.feed-fed.new.self in
    where_either c.feed-fed.result _ _ _ c.feed-fed.ensures.fed c.feed-fed.ensures.cut
    (λ is_at. let all = g.T.Talk.says app port (fed ++ c.args.piece.now) false (said g.T.Talk.answers app port fed) c.feed-fed.new.self (is_at port fed (said g.T.Talk.answers app port fed) h) in
    sends_prefix out0 _ _ (said g.T.Talk.answers app port fed) pending [] _ told c.send-sent.ensures.prefix (sym all ∙ sym (append-nil (said g.T.Talk.answers app port fed ++ pending))))
    (λ stopped. let s = g.T.Talk.begins app port _ _ c.feed-fed.new.self (stopped port fed (said g.T.Talk.answers app port fed) h) in
    sends_prefix out0 _ _ (said g.T.Talk.answers app port fed) pending s.0 _ told c.send-sent.ensures.prefix s.1)

pub returns-then-is_err-2-clause-broke : goal.returns-then-is_err-2-clause-broke
returns-then-is_err-2-clause-broke g c = λ port fed out0 h told.
    let app = g.A.Application.answer_of c.args.app.now in
    where_err c.feed-fed.result _ _ c.feed-fed.ensures.cut (sym c.is_err-2.ensures.value ∙ c.if-is_err-2.true)
    (λ stopped. let s = g.T.Talk.begins app port _ _ c.feed-fed.new.self (stopped port fed (said g.T.Talk.answers app port fed) h) in
    sends_prefix out0 _ _ (said g.T.Talk.answers app port fed) (g.T.Talk.due c.feed-fed.new.self) s.0 _ told c.send-sent.ensures.prefix s.1)

pub returns-clause-at_rest : goal.returns-clause-at_rest
returns-clause-at_rest g c = λ port fed h.
    let app = g.A.Application.answer_of c.args.app.now in
    let whole = fed ++ c.args.piece.now in
    where_ok c.feed-fed.result _ _ c.feed-fed.ensures.fed (sym c.is_err-2.ensures.value ∙ c.if-is_err-2.false)
    (λ is_at. let at = is_at port fed (said g.T.Talk.answers app port fed) h in
    where_ok c.send-sent.result _ _ c.send-sent.ensures.taken (sym c.is_err.ensures.value ∙ c.if-is_err.false)
    (λ taken. rests (λ z. g.T.Talk.is_at app port whole false z c.send-sent.new.session) (said g.T.Talk.answers app port fed) (g.T.Talk.due c.feed-fed.new.self) _
    (g.T.Talk.says app port whole false (said g.T.Talk.answers app port fed) c.feed-fed.new.self at) (taken app port whole (said g.T.Talk.answers app port fed) at)))

pub returns-clause-sent : goal.returns-clause-sent
returns-clause-sent g c = λ port fed out0 h told.
    let app = g.A.Application.answer_of c.args.app.now in
    where_ok c.feed-fed.result _ _ c.feed-fed.ensures.fed (sym c.is_err-2.ensures.value ∙ c.if-is_err-2.false)
    (λ is_at. let all = g.T.Talk.says app port (fed ++ c.args.piece.now) false (said g.T.Talk.answers app port fed) c.feed-fed.new.self (is_at port fed (said g.T.Talk.answers app port fed) h) in
    where_ok c.send-sent.result _ _ c.send-sent.ensures.sent (sym c.is_err.ensures.value ∙ c.if-is_err.false)
    (λ sent. sends out0 _ _ (said g.T.Talk.answers app port fed) (g.T.Talk.due c.feed-fed.new.self) _ told sent all))

pub returns-clause-handed : goal.returns-clause-handed
returns-clause-handed g c = where_ok c.send-sent.result _ _ c.send-sent.ensures.handed (sym c.is_err.ensures.value ∙ c.if-is_err.false) (λ e. e)
