use Rattle.stream_dial.proofs.Dialling.{open_written}
use Rattle.server_tests.proofs.dialling.send.Goals as goal

pub returns-in-WouldBlock : goal.returns-in-WouldBlock
returns-in-WouldBlock g c = open_written _ _ _ _ _ c.loop.invariant c.write.ensures.writes

pub returns-in-Failed : goal.returns-in-Failed
returns-in-Failed g c = open_written _ _ _ _ _ c.loop.invariant c.write.ensures.writes

pub loop-preserved : goal.loop-preserved
loop-preserved g c = open_written _ _ _ _ _ c.loop.invariant c.write.ensures.writes
