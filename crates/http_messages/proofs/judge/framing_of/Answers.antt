use Rattle.std.proofs.Common.{◌∙◌}
use Rattle.http_messages.specs.Requests.{framing_by}
use Rattle.http_messages.proofs.judge.framing_of.Goals as goal

pub returns : goal.returns
returns c = c.framing_by.ensures ∙ (λ i. framing_by c.args.head.now.minor (c.in_ok-lengths.ensures i) (c.in_ok-codings.ensures i))
