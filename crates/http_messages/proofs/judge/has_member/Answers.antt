use Rattle.std.proofs.Common.{◌≡◌, ◌-◌, ◌+◌, ◌∙◌, sym, ap, arith, ℕ, List, length, take, drop, length-drop}
use Rattle.std.proofs.lemmas.List.{take_all}
use Rattle.std.specs.Str.{str_eq_ignore_ascii_case}
use Rattle.httparse.specs.Grammar.{trim_ows}
use Rattle.http_messages.specs.Requests.{has_member}
use Rattle.http_messages.proofs.JudgeLaws.{member_true, member_later, member_last}
use Rattle.http_messages.proofs.judge.has_member.Goals as goal

take_rest : (bytes : List ℕ) (at : ℕ) → take (length bytes - at) (drop at bytes) ≡ drop at bytes
take_rest bytes at = take_all (length bytes - at) (drop at bytes) (rw length-drop (omega arith))

pub returns-then-eq_any_case : goal.returns-then-eq_any_case
returns-then-eq_any_case c =
    let option = c.args.option.now in
    let rest = c.loop-rest.rest.now in
    member_true option rest
    (c.if-eq_any_case.ensures
    ∙ ap (λ (t : List ℕ). str_eq_ignore_ascii_case t option) (c.trim_ows.ensures ∙ ap (λ (n : ℕ). trim_ows (take n rest)) c.find_byte-end.ensures.position))
    ∙ sym c.loop-rest.invariant

pub returns-then-end-rest : goal.returns-then-end-rest
returns-then-end-rest c =
    let option = c.args.option.now in
    let rest = c.loop-rest.rest.now in
    member_last option rest _ (omega (arith, c.find_byte-end.ensures.position))
    (c.if-eq_any_case.ensures
    ∙ ap (λ (t : List ℕ). str_eq_ignore_ascii_case t option) (c.trim_ows.ensures ∙ ap (λ (n : ℕ). trim_ows (take n rest)) c.find_byte-end.ensures.position))
    ∙ sym c.loop-rest.invariant

pub overflow_add-rest : goal.overflow_add-rest
overflow_add-rest c = omega (arith, c.find_byte-end.ensures.within, c.find_byte-end.ensures.fits)

pub loop-rest-preserved : goal.loop-rest-preserved
loop-rest-preserved c =
    let option = c.args.option.now in
    let rest = c.loop-rest.rest.now in
    let end = c.find_byte-end.result in
    c.loop-rest.invariant
    ∙ member_later option rest (omega (arith, c.find_byte-end.ensures.position, c.find_byte-end.ensures.within))
    (c.if-eq_any_case.ensures
    ∙ ap (λ (t : List ℕ). str_eq_ignore_ascii_case t option) (c.trim_ows.ensures ∙ ap (λ (n : ℕ). trim_ows (take n rest)) c.find_byte-end.ensures.position))
    ∙ ap (λ (n : ℕ). has_member option (drop (n + 1) rest)) (sym c.find_byte-end.ensures.position)
    ∙ ap (has_member option) (sym (take_rest rest (end + 1)))
