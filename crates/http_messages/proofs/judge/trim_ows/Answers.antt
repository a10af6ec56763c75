use Rattle.std.proofs.Common.{◌∙◌, ap, ℕ, List, reverse}
use Rattle.httparse.specs.Grammar.{skip_ows, trim_ows}
use Rattle.http_messages.proofs.judge.trim_ows.Goals as goal

pub returns : goal.returns
unfolding trim_ows
returns c = c.skip_ows_back.ensures ∙ ap (λ (l : List ℕ). reverse (skip_ows (reverse l))) c.skip_ows.ensures
