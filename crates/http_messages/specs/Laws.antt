-- Laws of the definitions, which functions of src/laws.rt prove.
use Rattle.std.specs.Prelude.{◌≡◌, ◌↔◌, List, ℕ, [], Some}
use Rattle.httparse.specs.Grammar.{RequestHead, ReadsRequest, ChunkLine, ReadsChunkLine}
use Rattle.http_messages.specs.Head.{request_head}
use Rattle.http_messages.specs.Body.{chunk_line}

-- `request_head` gives exactly the heads of the parser's grammar
abbrev pub HeadsAreOfTheGrammar : Type 0
HeadsAreOfTheGrammar =
    (bytes : List ℕ) (h : RequestHead) → h.blank ≡ [] → (request_head bytes ≡ Some h) ↔ ReadsRequest bytes h []

-- and `chunk_line` exactly its chunk lines
abbrev pub ChunkLinesAreOfTheGrammar : Type 0
ChunkLinesAreOfTheGrammar = (bytes : List ℕ) (l : ChunkLine) → (chunk_line bytes ≡ Some l) ↔ ReadsChunkLine bytes l []
