use Rattle.std.proofs.Common.{ap, arith, ◌∙◌}
use Rattle.stream_server.proofs.Tabling.{new_sound}
use Rattle.stream_server.proofs.table.ClientTable.new.Goals as goal

pub invariant_of-result : goal.invariant_of-result
invariant_of-result g c =
    new_sound _ (ap (λ s. s.slots) c.in_ok-reserve.ensures.rest_kept ∙ c.new-clients.ensures.empty)
    (λ q k has. c.new-places.ensures.empty q k (c.in_ok-reserve-2.ensures.same.only q k has)) (c.in_ok-reserve-3.ensures.kept ∙ c.new-timers.ensures.none)
    c.in_ok-reserve.ensures.room c.in_ok-reserve-2.ensures.room c.in_ok-reserve-3.ensures.room
    (let a = c.in_ok-reserve-3.ensures.within in let b = c.capacity-reach.ensures.value in omega (arith, a, b)) (let a = c.if-reach.false in let b = c.capacity-reach.ensures.value in omega (arith, a, b))

pub returns-clause-nobody : goal.returns-clause-nobody
returns-clause-nobody g c = λ k key has. c.new-places.ensures.empty k key (c.in_ok-reserve-2.ensures.same.only k key has)
