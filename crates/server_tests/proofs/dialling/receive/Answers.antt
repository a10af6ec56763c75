use Rattle.stream_dial.proofs.Dialling.{open_read}
use Rattle.server_tests.proofs.dialling.receive.Goals as goal

pub returns-in_err-extend_from_slice-in-Got : goal.returns-in_err-extend_from_slice-in-Got
returns-in_err-extend_from_slice-in-Got g c = open_read _ _ _ _ _ c.loop.invariant c.read.ensures.reads

pub returns-in-End : goal.returns-in-End
returns-in-End g c = open_read _ _ _ _ _ c.loop.invariant c.read.ensures.reads

pub returns-in-WouldBlock : goal.returns-in-WouldBlock
returns-in-WouldBlock g c = open_read _ _ _ _ _ c.loop.invariant c.read.ensures.reads

pub returns-in-Failed : goal.returns-in-Failed
returns-in-Failed g c = open_read _ _ _ _ _ c.loop.invariant c.read.ensures.reads

pub loop-preserved : goal.loop-preserved
loop-preserved g c = open_read _ _ _ _ _ c.loop.invariant c.read.ensures.reads
