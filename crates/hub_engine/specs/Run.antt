-- What a run says before an answer.
use Rattle.std.specs.Prelude.{◌≡◌, ℕ, List, [], ◌∷◌, ◌++◌, Option}
use Rattle.trace_text.specs.Line.{text_of}
use Rattle.gv_io.specs.Streams.{appended}
use Rattle.gv_values.specs.declared.job.Answer.{Answer}
use Rattle.machine.specs.Run.{Ran}

-- What the run says before its last question stood in the sink when that was answered. The sink at the end shows the
-- order too: had a question come before its lines, a failing write would leave them out.
abbrev pub WroteAhead : (List Answer → Ran) → List Answer → Option (List ℕ) → Option (List ℕ) → Type 0
WroteAhead whole answers old new =
    (before : List Answer) (last : Answer) → answers ≡ before ++ last ∷ [] → (more : List ℕ) × (new ≡ appended old (text_of (whole before).lines ++ more))
