use Rattle.std.proofs.Common.{refl}
use Rattle.hub_items.specs.declared.waits.WaitKind.{WaitKind}
use Rattle.hub_state.specs.Over.{whole}
use Rattle.hub_state.proofs.Conditions.{told}
use Rattle.hub_state.proofs.base.Base.wait_holds.Goals as goal

pub returns-in-Acquire : goal.returns-in-Acquire
returns-in-Acquire c = λ held. told WaitKind.Acquire _ (whole c.args.self.now held) c.args.since c.args.before _ _ _ refl refl c.in-Acquire.is c.holds_in_line.ensures

pub returns-in-Lock : goal.returns-in-Lock
returns-in-Lock c = λ held. told WaitKind.Lock _ (whole c.args.self.now held) c.args.since c.args.before _ _ _ refl refl c.in-Lock.is c.holds_in_line-in-Lock.ensures

pub returns-in-Put : goal.returns-in-Put
returns-in-Put c = λ held. told WaitKind.Put _ (whole c.args.self.now held) c.args.since c.args.before _ _ _ refl refl c.in-Put.is c.holds_in_line-in-Put.ensures

pub returns-in-Take : goal.returns-in-Take
returns-in-Take c = λ held. told WaitKind.Take _ (whole c.args.self.now held) c.args.since c.args.before _ _ _ refl refl c.in-Take.is c.holds_in_line-in-Take.ensures

pub returns-in-Peek : goal.returns-in-Peek
returns-in-Peek c = λ held. told WaitKind.Take _ (whole c.args.self.now held) c.args.since c.args.before _ _ _ refl refl c.in-Peek.is c.holds_in_line-in-Peek.ensures

pub returns-in-Place : goal.returns-in-Place
returns-in-Place c = λ held. told WaitKind.Place _ (whole c.args.self.now held) c.args.since c.args.before _ _ _ refl refl c.in-Place.is c.holds_in_line-in-Place.ensures

pub returns-in-MapPlace : goal.returns-in-MapPlace
returns-in-MapPlace c = λ held. told WaitKind.Place _ (whole c.args.self.now held) c.args.since c.args.before _ _ _ refl refl c.in-MapPlace.is c.holds_in_line-in-MapPlace.ensures

pub returns-in-Slot : goal.returns-in-Slot
returns-in-Slot c = λ held. told WaitKind.Slot _ (whole c.args.self.now held) c.args.since c.args.before _ _ _ refl refl c.in-Slot.is c.holds_in_line-in-Slot.ensures

pub returns-in-TakeOffer : goal.returns-in-TakeOffer
returns-in-TakeOffer c = λ held. told WaitKind.TakeOffer _ (whole c.args.self.now held) c.args.since c.args.before _ _ _ refl refl c.in-TakeOffer.is c.holds_in_line-in-TakeOffer.ensures
