use Rattle.trace_reader.proofs.LineReaders.{line_read, line_told}
use Rattle.trace_reader.proofs.laws.texts_tell_lines.Goals as goal

pub returns-clause-differ : goal.returns-clause-differ
returns-clause-differ c l m hl hm same = line_told l m hl hm same

pub returns-clause-read : goal.returns-clause-read
returns-clause-read c l h = line_read l h
