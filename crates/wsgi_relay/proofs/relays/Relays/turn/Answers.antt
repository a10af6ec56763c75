use Rattle.std.proofs.Common.{◌≢◌, ℕ, Option, refl, sym, subst, ◌∙◌}
use Rattle.std.specs.Prelude.{Some, None}
use Rattle.stream_server.specs.Tables.{IsListed}
use Rattle.wsgi_relay.specs.Accounts.{given_in}
use Rattle.wsgi_relay.specs.Tied.{IsKept, IsTied}
use Rattle.wsgi_relay.specs.declared.relays.Turn.{Turn}
use Rattle.wsgi_relay.proofs.Turning.{gone_kept, gone_over, gone_tied, kept_moved, puts_twice, tied_less, tied_moved, turn_ok}
use Rattle.wsgi_relay.proofs.relays.Relays.turn.Goals as goal

pub returns-in_default-next-clause-kept : goal.returns-in_default-next-clause-kept
returns-in_default-next-clause-kept g c =
    let p = c.args.upstream.now.patience in
    let v = g.D.Dial.meaning c.args.upstream.now.dial in
    let m = g.D.Dial.meaning c.next.new.self in
    let s = c.late_slot.new.self in
    let e = c.late_slot.ensures in
    (kept_moved p v m c.args.self.now.askers.list s.askers.list c.args.self.now.replies.list s.replies.list c.requires.kept c.next.ensures e.askers e.replies)

pub returns-in_default-next-clause-tied : goal.returns-in_default-next-clause-tied
returns-in_default-next-clause-tied g c = λ goes.
    let p = c.args.upstream.now.patience in
    let v = g.D.Dial.meaning c.args.upstream.now.dial in
    let m = g.D.Dial.meaning c.next.new.self in
    let s = c.late_slot.new.self in
    let e = c.late_slot.ensures in
    (tied_moved p v m c.args.self.now.askers.list s.askers.list c.args.self.now.exchanges.items s.exchanges.items (IsListed c.args.table.now) c.requires.tied c.next.ensures e.askers e.exchanges)

pub returns-in_default-take-clause-kept : goal.returns-in_default-take-clause-kept
returns-in_default-take-clause-kept g c =
    let p = c.args.upstream.now.patience in
    let v = g.D.Dial.meaning c.args.upstream.now.dial in
    let m = g.D.Dial.meaning c.next.new.self in
    let s = c.late_slot.new.self in
    let e = c.late_slot.ensures in
    (kept_moved p v m c.args.self.now.askers.list s.askers.list c.args.self.now.replies.list s.replies.list c.requires.kept c.next.ensures e.askers e.replies)

pub returns-in_default-take-clause-tied : goal.returns-in_default-take-clause-tied
returns-in_default-take-clause-tied g c = λ goes.
    let p = c.args.upstream.now.patience in
    let v = g.D.Dial.meaning c.args.upstream.now.dial in
    let m = g.D.Dial.meaning c.next.new.self in
    let s = c.late_slot.new.self in
    let e = c.late_slot.ensures in
    tied_less p m s.askers.list s.exchanges.items c.take.new.exchanges.items (IsListed c.args.table.now) c.in-Some-next.slot c.take.ensures.puts
    (tied_moved p v m c.args.self.now.askers.list s.askers.list c.args.self.now.exchanges.items s.exchanges.items (IsListed c.args.table.now) c.requires.tied c.next.ensures e.askers e.exchanges)

pub go_on-far-requires : goal.go_on-far-requires
go_on-far-requires g c =
    let p = c.args.upstream.now.patience in
    let v = g.D.Dial.meaning c.args.upstream.now.dial in
    let m = g.D.Dial.meaning c.next.new.self in
    let s = c.late_slot.new.self in
    let e = c.late_slot.ensures in
    (tied_moved p v m c.args.self.now.askers.list s.askers.list c.args.self.now.exchanges.items s.exchanges.items (IsListed c.args.table.now) c.requires.tied c.next.ensures e.askers e.exchanges).each c.in-Some-next.slot c.in-Some-take.exchange (sym c.take.ensures.took ∙ c.in-Some-take.is)

pub returns-clause-kept : goal.returns-clause-kept
returns-clause-kept g c =
    let p = c.args.upstream.now.patience in
    let v = g.D.Dial.meaning c.args.upstream.now.dial in
    let m = g.D.Dial.meaning c.next.new.self in
    let s = c.late_slot.new.self in
    let e = c.late_slot.ensures in
    let w = g.D.Dial.meaning c.go_on-far.new.upstream.dial in
    let t = (tied_moved p v m c.args.self.now.askers.list s.askers.list c.args.self.now.exchanges.items s.exchanges.items (IsListed c.args.table.now) c.requires.tied c.next.ensures e.askers e.exchanges) in
    let u = t.each c.in-Some-next.slot c.in-Some-take.exchange (sym c.take.ensures.took ∙ c.in-Some-take.is) in
    subst (λ (k : ℕ). IsKept k w s.askers.list (given_in s.replies.list)) (sym c.go_on-far.ensures.patience)
    (gone_kept p m w s.askers.list (IsListed c.args.table.now) c.in-Some-next.slot c.in-Some-take.exchange c.go_on-far.new.exchange u c.go_on-far.ensures.only s.replies.list c.go_on-far.ensures.same c.go_on-far.ensures.sent
    (kept_moved p v m c.args.self.now.askers.list s.askers.list c.args.self.now.replies.list s.replies.list c.requires.kept c.next.ensures e.askers e.replies))

pub returns-clause-tied : goal.returns-clause-tied
returns-clause-tied g c = λ goes.
    let p = c.args.upstream.now.patience in
    let v = g.D.Dial.meaning c.args.upstream.now.dial in
    let m = g.D.Dial.meaning c.next.new.self in
    let s = c.late_slot.new.self in
    let e = c.late_slot.ensures in
    let w = g.D.Dial.meaning c.go_on-far.new.upstream.dial in
    let t = (tied_moved p v m c.args.self.now.askers.list s.askers.list c.args.self.now.exchanges.items s.exchanges.items (IsListed c.args.table.now) c.requires.tied c.next.ensures e.askers e.exchanges) in
    let u = t.each c.in-Some-next.slot c.in-Some-take.exchange (sym c.take.ensures.took ∙ c.in-Some-take.is) in
    subst (λ (k : ℕ). IsTied w k s.askers.list c.put.new.exchanges.items (IsListed c.args.table.now)) (sym c.go_on-far.ensures.patience)
    (gone_tied p m w s.askers.list (IsListed c.args.table.now) c.in-Some-next.slot c.in-Some-take.exchange c.go_on-far.new.exchange u c.go_on-far.ensures.only s.exchanges.items c.put.new.exchanges.items t (sym c.take.ensures.took ∙ c.in-Some-take.is)
    (puts_twice s.exchanges.items c.take.new.exchanges.items c.put.new.exchanges.items c.in-Some-next.slot None (Some c.go_on-far.new.exchange) c.take.ensures.puts c.put.ensures)
    (turn_ok c.in-Some-next.slot c.go_on-far.result (subst (λ (x : Turn). x ≢ Turn.Memory) c.turn_of.ensures goes) c.go_on-far.ensures.way))

pub returns-clause-over : goal.returns-clause-over
returns-clause-over g c = λ slot far e.
    gone_over (g.D.Dial.meaning c.go_on-far.new.upstream.dial) c.put.new.exchanges.items c.in-Some-next.slot c.go_on-far.new.exchange c.go_on-far.result slot far c.put.ensures.here c.go_on-far.ensures.come (sym c.turn_of.ensures ∙ e)

pub returns-in_default-next-clause-towards : goal.returns-in_default-next-clause-towards
returns-in_default-next-clause-towards g c = c.next.ensures.none.towards

pub returns-in_default-take-clause-towards : goal.returns-in_default-take-clause-towards
returns-in_default-take-clause-towards g c = c.next.ensures.none.towards

pub returns-clause-towards : goal.returns-clause-towards
returns-clause-towards g c = c.go_on-far.ensures.only.none.towards ∙ c.next.ensures.none.towards
