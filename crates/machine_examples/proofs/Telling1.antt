-- Runs in which a small change of the definitions shows.
use Rattle.std.proofs.Common.{◌≡◌, refl, List, [], ◌∷◌, map, codes, true}
use Rattle.std.specs.List.{list_all}
use Rattle.gv_values.specs.declared.job.Answer.{Answer}
use Rattle.machine_examples.proofs.Row.{Row, row, answered, told, comes_to, is_lawful, usual_moves, usual_turns}
use denote.Hole.Carrier.{hidden, out, shown, roll}
use Rattle.scenario_tree.specs.declared.tree.Expression.TheBlock.{shape-the_row-Expression-0, hidden-the_row-Expression-0, shown-the_row-Expression-0, shape-the_row-Expression-1, hidden-the_row-Expression-1, shown-the_row-Expression-1}
use Rattle.scenario_tree.specs.declared.tree.Action.TheBlock.{shown-the_row-Statement-0, shown-the_row-Except-1}
use Rattle.scenario_tree.specs.declared.tree.Action.{out-Action}
use Rattle.scenario_tree.specs.declared.tree.Except.{out-Except, roll-Except}
use Rattle.scenario_grammar.specs.Keyword.{keyword_of, keywords}
use Rattle.scenario_grammar.specs.Layout.{lines}
use Rattle.scenario_grammar.specs.Parsed.{reading, read_lines}
use Rattle.scenario_grammar.specs.Reading.{phrase_of, nested_at, name_at, number_at, integer_at}
use Rattle.scenario_grammar.specs.Token.{token_of}
use Rattle.machine.specs.Holds.{has_set_since, has_result, has_unit, is_free, has_room, has_item, all_finished, has_place, is_deserted, has_slot, is_taken, has_offer}
use Rattle.machine.specs.Moves.{move}
use Rattle.machine.specs.Request.{performs}
use Rattle.machine.specs.Deliveries.{deliver, interrupts}
use Rattle.machine.specs.Questions.{take_answer}
use Rattle.gv_values.specs.Arithmetic.{rounds}
use Rattle.world_rules.specs.Evaluate.{collatz, eval}

abbrev rows : List Row
rows =
    -- settle at a throw
    row (codes "sem s 0|def w|acquire s|end|def j h|join h|print self|end|def main|a <- spawn w|b <- spawn j a|c <- spawn w|sleep 0|kill a now|release s|sleep 0|sleep 0|end|")
    (codes "start g0 main|park g0 sleep until 0|start g1 w|park g1 acquire s|start g2 j|park g2 join g1|start g3 w|park g3 acquire s|wake g0|park g0 sleep until 0|turn 1 nothing 0|throw g1 GreenletExit|end g1 value GreenletExit|wake g0|park g0 sleep until 0|turn 2 nothing 0|wake g3|end g3 value none|wake g2|print g2 g2|end g2 value none|wake g0|end g0 value none|stop value none turns 3 moves 12|")
    0 (codes "") ∷
    -- settle at a Late
    row (codes "sem s 0|def r|sleep 5|release s|end|def t|x <- acquire s within 5|end|def w|acquire s|end|def j h|join h|print self|end|def main|z <- spawn r|a <- spawn t|b <- spawn j a|c <- spawn w|sleep 9|end|")
    (codes "start g0 main|park g0 sleep until 9|start g1 r|park g1 sleep until 5|start g2 t|park g2 acquire s until 5|start g3 j|park g3 join g2|start g4 w|park g4 acquire s|block 5|turn 1 elapsed 5|wake g1|end g1 value none|late g2|end g2 value none|turn 2 nothing 5|wake g4|end g4 value none|wake g3|print g3 g3|end g3 value none|block 9|turn 3 elapsed 9|wake g0|end g0 value none|stop value none turns 4 moves 11|")
    0 (codes "") ∷
    -- settle at a completion
    row (codes "queue q fifo 1|def g|x <- qget q|end|def j h|join h|print self|end|def main|a <- spawn g|b <- spawn j a|sleep 0|qput q 1|qput q 2|print 1|sleep 0|end|")
    (codes "start g0 main|park g0 sleep until 0|start g1 g|park g1 qget q|start g2 j|park g2 join g1|wake g0|park g0 qput q|turn 1 nothing 0|wake g1|end g1 value none|turn 2 nothing 0|wake g0|print g0 1|park g0 sleep until 0|wake g2|print g2 g2|end g2 value none|turn 3 nothing 0|wake g0|end g0 value none|stop value none turns 4 moves 10|")
    0 (codes "") ∷
    -- settle at each end inside one killall
    row (codes "def w|end|def j h|join h|print self|end|def main|a <- new w|b <- new w|c <- spawn j a|e <- spawn j b|sleep 0|killall list 2 b a now|sleep 0|end|")
    (codes "start g0 main|park g0 sleep until 0|start g3 j|park g3 join g1|start g4 j|park g4 join g2|wake g0|throw g2 GreenletExit|end g2 value GreenletExit|throw g1 GreenletExit|end g1 value GreenletExit|park g0 sleep until 0|turn 1 nothing 0|wake g4|print g4 g4|end g4 value none|wake g3|print g3 g3|end g3 value none|wake g0|end g0 value none|stop value none turns 2 moves 11|")
    0 (codes "") ∷
    -- settle at a raw link that sets
    row (codes "queue q fifo 1|event e|def a|end|def g|x <- qget q|end|def p|qput q 2|end|def v|wait e|end|def h|b <- spawn p|c <- spawn v|end|def m x|start x|sleep 0|qput q 1|end|def main|x <- new a|rawlink x set e|b <- spawn g|c <- spawn m x|z <- spawn h|sleep 5|end|")
    (codes "start g0 main|park g0 sleep until 5|start g2 g|park g2 qget q|start g3 m|park g3 sleep until 0|start g4 h|end g4 value none|turn 1 nothing 0|start g1 a|end g1 value none|wake g3|end g3 value none|start g5 p|park g5 qput q|start g6 v|park g6 wait e|turn 2 nothing 0|link 1 g1 set e|wake g2|end g2 value none|turn 3 nothing 0|wake g6|end g6 value none|wake g5|end g5 value none|block 5|turn 4 elapsed 5|wake g0|end g0 value none|stop value none turns 5 moves 14|")
    0 (codes "") ∷
    -- settle after each statement
    row (codes "event e|sem s 0|def u|acquire s|print 1|end|def v|wait e|print 2|end|def main|b <- spawn u|c <- spawn v|sleep 0|set e|release s|sleep 0|end|")
    (codes "start g0 main|park g0 sleep until 0|start g1 u|park g1 acquire s|start g2 v|park g2 wait e|wake g0|park g0 sleep until 0|turn 1 nothing 0|wake g2|print g2 2|end g2 value none|wake g1|print g1 1|end g1 value none|wake g0|end g0 value none|stop value none turns 2 moves 10|")
    0 (codes "") ∷
    -- order of since at one Settle: an answer of the world
    answered usual_turns usual_moves (Answer.Elapsed 5 ∷ Answer.Elapsed 14 ∷ []) (codes "def a|sleep 3|print 1|end|def b|sleep 2|print 2|end|def main|x <- spawn a|y <- spawn b|sleep 1|sleep 9|end|")
    (codes "start g0 main|park g0 sleep until 1|start g1 a|park g1 sleep until 3|start g2 b|park g2 sleep until 2|block 1|turn 1 elapsed 5|wake g0|park g0 sleep until 14|wake g1|print g1 1|end g1 value none|wake g2|print g2 2|end g2 value none|block 14|turn 2 elapsed 14|wake g0|end g0 value none|stop value none turns 3 moves 8|")
    0 (codes "") ∷
    -- kill self, then go on with now
    row (codes "def main|kill self now|print 1|try|sleep 0|finally|print 2|end|end|")
    (codes "start g0 main|print g0 1|park g0 sleep until 0|throw g0 GreenletExit|print g0 2|end g0 value GreenletExit|stop value GreenletExit turns 1 moves 5|")
    0 (codes "") ∷
    -- kill self with a wait
    row (codes "def main|kill self with Error 3|end|")
    (codes "start g0 main|park g0 kill g0|throw g0 Error(3)|end g0 fault Error(3)|stop fault Error(3) turns 1 moves 1|")
    1 (codes "gvr: main ended by Error(3)|") ∷
    -- a self-kill within, whose Late comes in the same turn
    row (codes "def main|try|kill self within 0|except GreenletExit|print 1|end|print 2|end|")
    (codes "start g0 main|park g0 kill g0 until 0|throw g0 GreenletExit|print g0 1|print g0 2|end g0 value none|stop value none turns 1 moves 4|")
    0 (codes "") ∷
    -- a kill that is outlived by its target items go
    row (codes "def w|kill self now|kill self now|print 1|end|def main|a <- spawn w|join a|print 2|end|")
    (codes "start g0 main|park g0 join g1|start g1 w|print g1 1|end g1 value none|turn 1 nothing 0|wake g0|print g0 2|end g0 value none|stop value none turns 2 moves 6|")
    0 (codes "") ∷
    -- gkill is a snapshot and may hold the killer
    row (codes "group g|def k|try|gkill g|finally|x <- gspawn g w|print members g|end|end|def w|sleep 5|print 7|end|def main|a <- gspawn g w|b <- gspawn g k|gjoin g|print 1|end|")
    (codes "start g0 main|park g0 gjoin g|start g1 w|park g1 sleep until 5|start g2 k|park g2 gkill g|turn 1 nothing 0|throw g1 GreenletExit|end g1 value GreenletExit|throw g2 GreenletExit|print g2 2|end g2 value GreenletExit|turn 2 nothing 0|start g3 w|park g3 sleep until 5|block 5|turn 3 elapsed 5|wake g3|print g3 7|end g3 value none|turn 4 nothing 5|wake g0|print g0 1|end g0 value none|stop value none turns 5 moves 11|")
    0 (codes "") ∷
    -- gkill of members that never ran
    row (codes "pool p 2|def w|print 7|end|def main|a <- gspawn p w|b <- gspawn p w|gkill p with Error 1|print members p|print exception b|end|")
    (codes "start g0 main|throw g1 Error(1)|end g1 fault Error(1)|throw g2 Error(1)|end g2 fault Error(1)|print g0 0|print g0 Error(1)|end g0 value none|stop value none turns 0 moves 5|")
    0 (codes "") ∷
    -- two kills, the first outlived
    row (codes "def w|try|sleep 9|except any|sleep 8|end|end|def main|a <- spawn w|sleep 0|kill a now|kill a with Full now|join a|end|")
    (codes "start g0 main|park g0 sleep until 0|start g1 w|park g1 sleep until 9|wake g0|park g0 join g1|turn 1 nothing 0|throw g1 GreenletExit|park g1 sleep until 8|throw g1 Full|end g1 fault Full|turn 2 nothing 0|wake g0|end g0 value none|stop value none turns 3 moves 8|")
    0 (codes "") ∷
    -- a kill and the Wake in one turn: the kill is first, the unit goes on
    row (codes "sem s 0|def w|acquire s|print self|end|def main|a <- spawn w|b <- spawn w|sleep 0|kill a now|release s|sleep 0|print counter s|sleep 0|end|")
    (codes "start g0 main|park g0 sleep until 0|start g1 w|park g1 acquire s|start g2 w|park g2 acquire s|wake g0|park g0 sleep until 0|turn 1 nothing 0|throw g1 GreenletExit|end g1 value GreenletExit|wake g0|print g0 1|park g0 sleep until 0|turn 2 nothing 0|wake g2|print g2 g2|end g2 value none|wake g0|end g0 value none|stop value none turns 3 moves 11|")
    0 (codes "") ∷
    -- a raw target of killall: TypeError before any kill
    row (codes "rawdef r x|end|def w|sleep 1|end|def main|a <- raw r|b <- spawn w|killall list 2 b a|end|")
    (codes "start g0 main|end g0 fault TypeError|stop fault TypeError turns 0 moves 3|")
    1 (codes "gvr: main ended by TypeError|") ∷
    -- timeout 0 fires at the first parking
    row (codes "def main|timeout 0 silent|print 1|sleep 0|print 2|end|print 3|end|")
    (codes "start g0 main|print g0 1|park g0 sleep until 0|throw g0 Timeout(1)|print g0 3|end g0 value none|stop value none turns 1 moves 4|")
    0 (codes "") ∷
    -- a Timeout caught and raised again is still its own
    row (codes "def main|timeout 1 silent|try|sleep 5|except Timeout t|sleep 0|raise t|end|end|print 2|end|")
    (codes "start g0 main|park g0 sleep until 5|block 1|turn 1 elapsed 1|throw g0 Timeout(1)|park g0 sleep until 1|turn 2 nothing 1|wake g0|print g0 2|end g0 value none|stop value none turns 3 moves 6|")
    0 (codes "") ∷
    -- return leaves try, finally and a silent timeout
    row (codes "def f|timeout 5 silent|try|return 1|finally|print 2|sleep 1|end|end|print 3|end|def main|a <- spawn f|x <- get a|print x|end|")
    (codes "start g0 main|park g0 get g1|start g1 f|print g1 2|park g1 sleep until 1|block 1|turn 1 elapsed 1|wake g1|end g1 value 1|turn 2 nothing 1|wake g0|print g0 1|end g0 value none|stop value none turns 3 moves 8|")
    0 (codes "") ∷
    -- a silent Timeout replaces a return under way in a finally
    row (codes "def f|timeout 1 silent|try|return 1|finally|sleep 9|end|end|print 3|end|def main|a <- spawn f|x <- get a|print x|end|")
    (codes "start g0 main|park g0 get g1|start g1 f|park g1 sleep until 9|block 1|turn 1 elapsed 1|throw g1 Timeout(1)|print g1 3|end g1 value none|turn 2 nothing 1|wake g0|print g0 none|end g0 value none|stop value none turns 3 moves 8|")
    0 (codes "") ∷
    -- get draws its number at parking, and under now at the raise
    row (codes "def w|sleep 5|end|def main|a <- spawn w|try|x <- get a now|except Timeout t|print t|end|timeout 9|try|x <- get a within 1|except Timeout t|print t|end|end|get a within 9|end|")
    (codes "start g0 main|print g0 Timeout(1)|park g0 get g1 until 1|start g1 w|park g1 sleep until 5|block 1|turn 1 elapsed 1|late g0|print g0 Timeout(3)|park g0 get g1 until 10|block 5|turn 2 elapsed 5|wake g1|end g1 value none|turn 3 nothing 5|wake g0|end g0 value none|stop value none turns 4 moves 10|")
    0 (codes "") ∷
    -- joinall with a place twice, at its Late
    row (codes "def w n|if == n 1|sleep 9|end|end|def main|a <- spawn w 1|b <- spawn w 0|x <- joinall list 3 a b b count 3 within 3|print x|end|")
    (codes "start g0 main|park g0 joinall until 3|start g1 w|park g1 sleep until 9|start g2 w|end g2 value none|block 3|turn 1 elapsed 3|late g0|print g0 [g2, g2]|end g0 value none|stop value none turns 2 moves 7|")
    0 (codes "") ∷
    -- joinall with a place twice has its count by places
    row (codes "def w|end|def z|sleep 9|end|def main|a <- spawn z|b <- spawn w|x <- joinall list 3 a b b count 2|print x|end|")
    (codes "start g0 main|park g0 joinall|start g1 z|park g1 sleep until 9|start g2 w|end g2 value none|turn 1 nothing 0|wake g0|print g0 [g2, g2]|end g0 value none|stop value none turns 2 moves 5|")
    0 (codes "") ∷
    -- LoopExit caught, main parks again, and again
    row (codes "def main|try|sleep 0|join self|except LoopExit|try|join self|except LoopExit e|print e|end|end|end|")
    (codes "start g0 main|park g0 sleep until 0|wake g0|park g0 join g0|block none|throw g0 LoopExit|park g0 join g0|block none|throw g0 LoopExit|print g0 LoopExit|end g0 value none|stop value none turns 2 moves 6|")
    0 (codes "") ∷
    -- links in order of since among waiters
    row (codes "def w|end|def f g|print 1|end|def j h|join h|print self|end|def main|a <- new w|b <- spawn j a|sleep 0|k <- link a f|c <- spawn j a|sleep 0|start a|sleep 0|sleep 0|end|")
    (codes "start g0 main|park g0 sleep until 0|start g2 j|park g2 join g1|wake g0|park g0 sleep until 0|turn 1 nothing 0|start g3 j|park g3 join g1|wake g0|park g0 sleep until 0|turn 2 nothing 0|start g1 w|end g1 value none|wake g0|park g0 sleep until 0|turn 3 nothing 0|wake g2|print g2 g2|end g2 value none|link 1 g1 g4|start g4 f|print g4 1|end g4 value none|wake g3|print g3 g3|end g3 value none|wake g0|end g0 value none|stop value none turns 4 moves 14|")
    0 (codes "") ∷
    -- a dropped link takes its number; unlink of what is none does nothing
    row (codes "def f g|end|def w|end|def main|a <- spawn w|join a|k <- linkfault a f|print k|k <- rawlink a mark 4|print k|unlink k|unlink k|unlink -1|unlink 7|sleep 0|end|")
    (codes "start g0 main|park g0 join g1|start g1 w|end g1 value none|turn 1 nothing 0|wake g0|print g0 1|print g0 2|park g0 sleep until 0|turn 2 nothing 0|wake g0|end g0 value none|stop value none turns 3 moves 11|")
    0 (codes "") ∷
    -- map waits in line behind a gspawn
    row (codes "pool p 1|def f x|sleep 1|return x|end|def o|x <- gspawn p f 5|print x|end|def main|b <- spawn o|r <- map p f list 2 1 2|print r|end|")
    (codes "start g0 main|park g0 map p|start g1 o|park g1 gspawn p|start g2 f|park g2 sleep until 1|block 1|turn 1 elapsed 1|wake g2|end g2 value 1|turn 2 nothing 1|wake g0|park g0 map p|turn 3 nothing 1|start g3 f|park g3 sleep until 2|block 2|turn 4 elapsed 2|wake g3|end g3 value 2|turn 5 nothing 2|wake g1|print g1 g4|end g1 value none|wake g0|print g0 [1, 2]|end g0 value none|stop value none turns 6 moves 9|")
    0 (codes "") ∷
    -- map raises the first fault in argument order
    row (codes "group g|def f x|if == x 1|sleep 3|raise Error 1|end|raise Error 2|end|def main|r <- map g f list 2 1 2|end|")
    (codes "start g0 main|park g0 map g|start g1 f|park g1 sleep until 3|start g2 f|end g2 fault Error(2)|block 3|turn 1 elapsed 3|wake g1|end g1 fault Error(1)|turn 2 nothing 3|wake g0|end g0 fault Error(1)|stop fault Error(1) turns 3 moves 6|")
    1 (codes "gvr: main ended by Error(1)|") ∷
    -- a member whose value is a list: TypeError at the end of map
    row (codes "group g|def f x|return list 0|end|def main|try|r <- map g f list 1 1|except TypeError e|print e|end|end|")
    (codes "start g0 main|park g0 map g|start g1 f|end g1 value []|turn 1 nothing 0|wake g0|print g0 TypeError|end g0 value none|stop value none turns 2 moves 4|")
    0 (codes "") ∷
    -- a killed map leaves the members it made
    row (codes "pool p 1|def f x|sleep 2|print x|end|def m|r <- map p f list 2 1 2|end|def main|a <- spawn m|sleep 0|kill a|sleep 9|print members p|end|")
    (codes "start g0 main|park g0 sleep until 0|start g1 m|park g1 map p|wake g0|park g0 kill g1|turn 1 nothing 0|start g2 f|park g2 sleep until 2|throw g1 GreenletExit|end g1 value GreenletExit|turn 2 nothing 0|wake g0|park g0 sleep until 9|block 2|turn 3 elapsed 2|wake g2|print g2 1|end g2 value none|block 9|turn 4 elapsed 9|wake g0|print g0 0|end g0 value none|stop value none turns 5 moves 8|")
    0 (codes "") ∷
    -- a raw chain: the parent is New and starts with the value
    row (codes "rawdef i x|print x|return 5|end|rawdef o x|print x|return 6|end|def main|a <- raw o|b <- raw i under a|x <- switch b 1|print x|end|")
    (codes "start g0 main|start g2 i|print g2 1|end g2 value 5|start g1 o|print g1 5|end g1 value 6|into g0 value 6|print g0 6|end g0 value none|stop value none turns 0 moves 8|")
    0 (codes "") ∷
    -- a raw chain: a fault ends a New parent unrun and goes on
    row (codes "rawdef i x|raise Error 1|end|rawdef o x|print x|end|def main|a <- raw o|b <- raw i under a|try|x <- switch b 1|except Error e|print e|end|end|")
    (codes "start g0 main|start g2 i|end g2 fault Error(1)|end g1 fault Error(1)|into g0 fault Error(1)|print g0 Error(1)|end g0 value none|stop value none turns 0 moves 6|")
    0 (codes "") ∷
    -- throw into a dead raw greenlet: GreenletExit goes on as a value
    row (codes "rawdef r x|end|def main|a <- raw r|x <- switch a 1|x <- throw a|print x|try|x <- throw a with Full|except Full e|print e|end|end|")
    (codes "start g0 main|start g1 r|end g1 value none|into g0 value none|into g0 value GreenletExit|print g0 GreenletExit|into g0 fault Full|print g0 Full|end g0 value none|stop value none turns 0 moves 7|")
    0 (codes "") ∷
    -- switch and throw to oneself
    row (codes "def main|x <- switch self 4|print x|try|throw self with Full|except Full e|print e|end|end|")
    (codes "start g0 main|into g0 value 4|print g0 4|into g0 fault Full|print g0 Full|end g0 value none|stop value none turns 0 moves 5|")
    0 (codes "") ∷
    -- a raw greenlet of another host
    row (codes "rawdef r x|end|def w a|print ready a|try|switch a 1|except InvalidSwitch e|print e|end|try|raw r under a|except InvalidSwitch e|print e|end|try|join a|except TypeError e|print e|end|end|def main|a <- raw r|b <- spawn w a|join b|end|")
    (codes "start g0 main|park g0 join g2|start g2 w|print g2 false|print g2 InvalidSwitch|print g2 InvalidSwitch|print g2 TypeError|end g2 value none|turn 1 nothing 0|wake g0|end g0 value none|stop value none turns 2 moves 13|")
    0 (codes "") ∷
    -- setparent moves what comes after an end
    row (codes "rawdef i x|return x|end|rawdef o x|y <- switch x 7|print y|return 9|end|def main|a <- raw o|b <- raw i|setparent b a|x <- switch a self|print x|y <- switch b 3|print y|end|")
    (codes "start g0 main|start g1 o|into g0 value 7|print g0 7|start g2 i|end g2 value 3|into g1 value 3|print g1 3|end g1 value 9|into g0 value 9|print g0 9|end g0 value none|stop value none turns 0 moves 11|")
    0 (codes "") ∷
    -- setparent: TypeError, ValueError, in this order of tests
    row (codes "rawdef r x|end|def main|a <- raw r|b <- raw r under a|try|setparent self a|except any e|print e|end|try|setparent a b|except any e|print e|end|try|setparent a a|except any e|print e|end|setparent b self|setparent a b|end|")
    (codes "start g0 main|print g0 TypeError|print g0 ValueError|print g0 ValueError|end g0 value none|stop value none turns 0 moves 13|")
    0 (codes "") ∷
    -- the host ends while a raw greenlet stands in a finally: it never runs again
    row (codes "rawdef r x|try|switch x 1|finally|print 9|end|end|def main|a <- raw r|x <- switch a self|print x|print ready a|end|")
    (codes "start g0 main|start g1 r|into g0 value 1|print g0 1|print g0 false|end g0 value none|stop value none turns 0 moves 6|")
    0 (codes "") ∷
    -- a bsem at its bound refuses, though a waiter has its grant
    row (codes "bsem b 1|def w|acquire b|print 1|release b|end|def main|acquire b|a <- spawn w|sleep 0|release b|try|release b|except ValueError e|print e|end|join a|end|")
    (codes "start g0 main|park g0 sleep until 0|start g1 w|park g1 acquire b|wake g0|print g0 ValueError|park g0 join g1|turn 1 nothing 0|wake g1|print g1 1|end g1 value none|turn 2 nothing 0|wake g0|end g0 value none|stop value none turns 3 moves 11|")
    0 (codes "") ∷
    []

pub come_to : map comes_to rows ≡ map told rows
unfolding reading read_lines lines token_of keyword_of keywords phrase_of nested_at name_at number_at integer_at shape-the_row-Expression-0 hidden-the_row-Expression-0 shown-the_row-Expression-0 shape-the_row-Expression-1 hidden-the_row-Expression-1 shown-the_row-Expression-1 shown-the_row-Statement-0 shown-the_row-Except-1 out-Action out-Except roll-Except has_set_since has_result has_unit is_free has_room has_item all_finished has_place is_deserted has_slot is_taken has_offer move performs deliver interrupts take_answer rounds eval collatz hidden out shown roll
come_to = refl

pub are_lawful : list_all is_lawful rows ≡ true
unfolding reading read_lines lines token_of keyword_of keywords phrase_of nested_at name_at number_at integer_at shape-the_row-Expression-0 hidden-the_row-Expression-0 shown-the_row-Expression-0 shape-the_row-Expression-1 hidden-the_row-Expression-1 shown-the_row-Expression-1 shown-the_row-Statement-0 shown-the_row-Except-1 out-Action out-Except roll-Except has_set_since has_result has_unit is_free has_room has_item all_finished has_place is_deserted has_slot is_taken has_offer move performs deliver interrupts take_answer rounds eval collatz hidden out shown roll
are_lawful = refl
