use Rattle.hub_engine.proofs.Delivered.{delivered_as, delivered_declared, may_deliver, taken_declared, taken_fits}
use Rattle.hub_engine.proofs.Readily.{ready_delivered}
use Rattle.hub_engine.proofs.Within.{taken_room}
use Rattle.hub_engine.proofs.deliver.deliver_item.Goals as goal

pub deliver_content-requires-clause-may_go_on : goal.deliver_content-requires-clause-may_go_on
deliver_content-requires-clause-may_go_on c =
    let item = c.take_below-since in
    may_deliver c.args.mark item.result c.args.hub.now item.new.self item.ensures.item item.ensures.gone c.requires.ready

pub deliver_content-requires-clause-fits : goal.deliver_content-requires-clause-fits
deliver_content-requires-clause-fits c =
    let item = c.take_below-since in
    taken_fits c.args.mark item.result c.args.hub.now item.new.self item.ensures.item item.ensures.gone c.requires.ready

pub deliver_content-requires-clause-short : goal.deliver_content-requires-clause-short
deliver_content-requires-clause-short c = c.take_below-since.ensures.short

pub deliver_content-requires-clause-declared : goal.deliver_content-requires-clause-declared
deliver_content-requires-clause-declared c =
    let item = c.take_below-since in
    taken_declared item.result c.args.hub.now item.new.self item.ensures.gone c.requires.ready

pub deliver_content-requires-clause-room : goal.deliver_content-requires-clause-room
deliver_content-requires-clause-room c =
    let item = c.take_below-since in
    taken_room c.args.mark item.result c.args.hub.now item.new.self item.ensures.item item.ensures.gone c.requires.within

pub deliver_content-requires-clause-after : goal.deliver_content-requires-clause-after
deliver_content-requires-clause-after c =
    let item = c.take_below-since in
    delivered_declared c.args.mark item.result c.args.hub.now item.new.self item.ensures.item item.ensures.gone c.requires.ready

pub returns-clause-delivered : goal.returns-clause-delivered
returns-clause-delivered c = λ i there.
    let item = c.take_below-since in
    delivered_as c.args.mark i item.result c.args.hub.now item.new.self c.deliver_content.new.hub c.in_ok-deliver_content.field-0 item.ensures.item item.ensures.gone c.in_ok-deliver_content.ensures there

pub returns-clause-ready : goal.returns-clause-ready
returns-clause-ready c =
    let item = c.take_below-since in
    ready_delivered c.args.mark c.args.hub.now c.deliver_content.new.hub c.in_ok-deliver_content.field-0 c.requires.there c.requires.ready
    (λ i e. delivered_as c.args.mark i item.result c.args.hub.now item.new.self c.deliver_content.new.hub c.in_ok-deliver_content.field-0 item.ensures.item item.ensures.gone c.in_ok-deliver_content.ensures e)
