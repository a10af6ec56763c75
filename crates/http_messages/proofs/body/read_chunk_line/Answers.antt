use Rattle.http_messages.proofs.ChunkLaws.{size_found, size_none, size_longer, no_line_here}
use Rattle.http_messages.proofs.body.read_chunk_line.Goals as goal

pub returns-then-found-line : goal.returns-then-found-line
returns-then-found-line c =
    let found = rw c.in-Ok-Complete.field-0-is at c.in-Ok-Complete.ensures.complete in
    size_found c.args.line.now c.in-Ok-Complete.found.0 c.in-Ok-Complete.found.1 found.0 found.1 c.if-found-line.true

pub returns-else-found-line : goal.returns-else-found-line
returns-else-found-line c =
    let found = rw c.in-Ok-Complete.field-0-is at c.in-Ok-Complete.ensures.complete in
    size_longer c.args.line.now c.in-Ok-Complete.found.0 c.in-Ok-Complete.found.1 found.0 found.1 c.if-found-line.false

pub returns-in-Ok-Partial : goal.returns-in-Ok-Partial
returns-in-Ok-Partial c = size_none c.args.line.now (rw c.in-Ok-Partial.field-0-is at c.in-Ok-Partial.ensures.partial)

pub returns-in-Err : goal.returns-in-Err
returns-in-Err c = size_none c.args.line.now (no_line_here c.args.line.now c.in-Err.ensures.invalid)
