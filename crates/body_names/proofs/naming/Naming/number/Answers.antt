use Rattle.std.proofs.Common.{◌≡◌, ◌∙◌, ◌++◌, ◌∷◌, [], ap, length, subst, sym, arith}
use Rattle.gv_values.specs.declared.name.Name.{Name}
use Rattle.name_table.specs.Tables.{Holds, found}
use Rattle.body_names.specs.Naming.{numbered}
use Rattle.body_names.proofs.Numbers.{found_named, kept_more, new_named}
use Rattle.body_names.proofs.naming.Naming.number.Goals as goal

pub returns-in-Some-clause-same : goal.returns-in-Some-clause-same
returns-in-Some-clause-same c = λ more.
    found_named c.args.self.now.numbers c.args.self.now.names more c.args.name.now c.in-Some.number c.requires.kept
    (ap (found c.args.self.now.numbers) (sym c.bytes.ensures.same) ∙ sym c.find.ensures ∙ c.in-Some.is)

pub returns-in_ok-push-in-None-clause-kept : goal.returns-in_ok-push-in-None-clause-kept
returns-in_ok-push-in-None-clause-kept c =
    let names = c.args.self.now.names in
    let count : c.in-Ok.number ≡ length names = omega (arith, c.in-Ok.ensures, c.len.ensures) in
    let holds : Holds c.give.new.self (numbered 0 names ++ (c.args.name.now, c.in-Ok.number) ∷ []) =
    subst (λ (x : Name). Holds c.give.new.self (numbered 0 names ++ (x, c.in-Ok.number) ∷ [])) c.bytes-in-None.ensures.same
    (c.in_ok-give-in-None.ensures.holds (numbered 0 names) c.requires.kept.0) in
    kept_more c.args.self.now.numbers c.give.new.self names c.push.new.self c.args.name.now c.in-Ok.number c.requires.kept
    (ap (found c.args.self.now.numbers) (sym c.bytes.ensures.same) ∙ sym c.find.ensures ∙ c.in-None.is) c.bytes.ensures.name holds count c.in_ok-push-in-None.ensures.ok

pub returns-in_ok-push-in-None-clause-same : goal.returns-in_ok-push-in-None-clause-same
returns-in_ok-push-in-None-clause-same c = λ more.
    let names = c.args.self.now.names in
    let count : c.in-Ok.number ≡ length names = omega (arith, c.in-Ok.ensures, c.len.ensures) in
    new_named names c.push.new.self more c.args.name.now c.in-Ok.number c.in_ok-push-in-None.ensures.ok count
