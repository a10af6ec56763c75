use Rattle.http_messages.proofs.ChunkLaws.{chunk_line-sound, chunk_line-full}
use Rattle.http_messages.proofs.laws.chunk_lines_are_of_the_grammar.Goals as goal

pub returns : goal.returns
returns c = λ bytes l. (λ e. chunk_line-sound bytes l e, λ reads. chunk_line-full bytes l reads)
