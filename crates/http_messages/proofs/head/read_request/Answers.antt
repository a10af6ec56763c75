use Rattle.std.proofs.Common.{◌≡◌, ◌∙◌, sym, ap, subst, ℕ, List, take, drop, Ok, Err}
use Rattle.http_messages.specs.Cuts.{waits, whole, empty_line, drop_empty_lines}
use Rattle.http_messages.specs.Head.{request_head}
use Rattle.http_messages.specs.Readings.{ReadsAlike}
use Rattle.http_messages.specs.Requests.{judged, request_at}
use Rattle.http_messages.proofs.RequestSteps.{no_line_in, request_waits, request_excluded, request_judged}
use Rattle.http_messages.proofs.head.read_request.Goals as goal

dropped : (blank : ℕ) (items kept mid : List ℕ) → items ≡ kept → drop blank items ≡ drop_empty_lines items → mid ≡ drop blank kept → mid ≡ drop_empty_lines kept
dropped blank items kept mid e rest skipped = let P : List ℕ → Type 0 = λ l. drop blank l ≡ drop_empty_lines l in skipped ∙ subst P e rest

fresh_there : (blank : ℕ) (items kept mid : List ℕ) → items ≡ kept → empty_line (drop blank items) ≡ 0 → mid ≡ drop blank kept → empty_line mid ≡ 0
fresh_there blank items kept mid e none skipped = ap empty_line (skipped ∙ ap (drop blank) (sym e)) ∙ none

pub request_of_head-requires : goal.request_of_head-requires
request_of_head-requires c =
    let fresh = fresh_there c.empty_lines_len-blank.result c.items.result.now c.args.kept.now c.skip.new.self c.items.ensures c.empty_lines_len-blank.ensures.line c.skip.ensures in
    ap (λ (l : List ℕ). empty_line (take c.in-Ends.end l)) (c.items-in-Ends.ensures ∙ c.head_end.ensures.same) ∙ no_line_in c.in-Ends.end c.skip.new.self fresh

pub returns-in-Unseen : goal.returns-in-Unseen
returns-in-Unseen c =
    let is = dropped c.empty_lines_len-blank.result c.items.result.now c.args.kept.now c.skip.new.self c.items.ensures c.empty_lines_len-blank.ensures.rest c.skip.ensures in
    let fresh = fresh_there c.empty_lines_len-blank.result c.items.result.now c.args.kept.now c.skip.new.self c.items.ensures c.empty_lines_len-blank.ensures.line c.skip.ensures in
    let P : List ℕ → Type 0 = λ l. (request_at c.args.port l ≡ waits) × ReadsAlike (request_at c.args.port) (request_at c.args.port) c.args.kept.now l in
    subst P (sym c.head_end.ensures.same) (request_waits c.args.port c.args.kept.now c.skip.new.self is fresh c.in-Unseen.ensures.sees)

pub returns-in-Excluded : goal.returns-in-Excluded
returns-in-Excluded c =
    let is = dropped c.empty_lines_len-blank.result c.items.result.now c.args.kept.now c.skip.new.self c.items.ensures c.empty_lines_len-blank.ensures.rest c.skip.ensures in
    let fresh = fresh_there c.empty_lines_len-blank.result c.items.result.now c.args.kept.now c.skip.new.self c.items.ensures c.empty_lines_len-blank.ensures.line c.skip.ensures in
    request_excluded c.args.port c.args.kept.now c.skip.new.self is fresh c.in-Excluded.reason c.in-Excluded.ensures.sees

pub returns-in-Ok : goal.returns-in-Ok
returns-in-Ok c =
    let n = c.in-Ends.end in
    let is = dropped c.empty_lines_len-blank.result c.items.result.now c.args.kept.now c.skip.new.self c.items.ensures c.empty_lines_len-blank.ensures.rest c.skip.ensures in
    let fresh = fresh_there c.empty_lines_len-blank.result c.items.result.now c.args.kept.now c.skip.new.self c.items.ensures c.empty_lines_len-blank.ensures.line c.skip.ensures in
    let read = c.in_ok-request-in-Ends.ensures ∙ ap (λ (l : List ℕ). judged c.args.port (request_head (take n l))) (c.items-in-Ends.ensures ∙ c.head_end.ensures.same) in
    let left : drop n c.skip.new.self ≡ c.skip-in-Ok.new.self = sym (c.skip-in-Ok.ensures ∙ ap (drop n) c.head_end.ensures.same) in
    request_judged c.args.port c.args.kept.now c.skip.new.self is fresh n (Ok c.in-Ok.request) c.in-Ends.ensures.sees.1 (sym c.in-Ok.is ∙ read)
    ∙ ap (whole c.in-Ok.request) left

pub returns-in-Err : goal.returns-in-Err
returns-in-Err c =
    let n = c.in-Ends.end in
    let is = dropped c.empty_lines_len-blank.result c.items.result.now c.args.kept.now c.skip.new.self c.items.ensures c.empty_lines_len-blank.ensures.rest c.skip.ensures in
    let fresh = fresh_there c.empty_lines_len-blank.result c.items.result.now c.args.kept.now c.skip.new.self c.items.ensures c.empty_lines_len-blank.ensures.line c.skip.ensures in
    let read = c.in_ok-request-in-Ends.ensures ∙ ap (λ (l : List ℕ). judged c.args.port (request_head (take n l))) (c.items-in-Ends.ensures ∙ c.head_end.ensures.same) in
    request_judged c.args.port c.args.kept.now c.skip.new.self is fresh n (Err c.in-Err.reason) c.in-Ends.ensures.sees.1 (sym c.in-Err.is ∙ read)
