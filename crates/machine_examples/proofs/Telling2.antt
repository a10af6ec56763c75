-- Runs in which a small change of the definitions shows.
use Rattle.std.proofs.Common.{◌≡◌, refl, List, [], ◌∷◌, map, codes, true}
use Rattle.std.specs.List.{list_all}
use Rattle.gv_values.specs.declared.job.Answer.{Answer}
use Rattle.machine_examples.proofs.Row.{Row, row, within, answered, told, comes_to, is_lawful, usual_moves, usual_turns}
use denote.Hole.Carrier.{hidden, out, shown, roll}
use Rattle.scenario_tree.specs.declared.tree.Expression.TheBlock.{shape-the_row-Expression-0, hidden-the_row-Expression-0, shown-the_row-Expression-0, shape-the_row-Expression-1, hidden-the_row-Expression-1, shown-the_row-Expression-1}
use Rattle.scenario_tree.specs.declared.tree.Action.TheBlock.{shown-the_row-Statement-0, shown-the_row-Except-1}
use Rattle.scenario_tree.specs.declared.tree.Action.{out-Action}
use Rattle.scenario_tree.specs.declared.tree.Except.{out-Except, roll-Except}
use Rattle.scenario_grammar.specs.Keyword.{keyword_of, keywords}
use Rattle.scenario_grammar.specs.Layout.{lines}
use Rattle.scenario_grammar.specs.Parsed.{reading, read_lines}
use Rattle.scenario_grammar.specs.Reading.{phrase_of, nested_at, name_at, number_at, integer_at}
use Rattle.scenario_grammar.specs.Token.{token_of}
use Rattle.machine.specs.Holds.{has_set_since, has_result, has_unit, is_free, has_room, has_item, all_finished, has_place, is_deserted, has_slot, is_taken, has_offer}
use Rattle.machine.specs.Moves.{move}
use Rattle.machine.specs.Request.{performs}
use Rattle.machine.specs.Deliveries.{deliver, interrupts}
use Rattle.machine.specs.Questions.{take_answer}
use Rattle.gv_values.specs.Arithmetic.{rounds}
use Rattle.world_rules.specs.Evaluate.{collatz, eval}

abbrev rows : List Row
rows =
    -- an rlock: depth, owner and RuntimeError
    row (codes "rlock l|def w|x <- acquire l now|print x|try|release l|except RuntimeError e|print e|end|acquire l|print 2|release l|end|def main|acquire l|x <- acquire l now|print x|a <- spawn w|sleep 0|release l|sleep 0|release l|x <- acquire l now|print x|join a|end|")
    (codes "start g0 main|print g0 true|park g0 sleep until 0|start g1 w|print g1 false|print g1 RuntimeError|park g1 acquire l|wake g0|park g0 sleep until 0|turn 1 nothing 0|wake g0|print g0 false|park g0 join g1|turn 2 nothing 0|wake g1|print g1 2|end g1 value none|turn 3 nothing 0|wake g0|end g0 value none|stop value none turns 4 moves 19|")
    0 (codes "") ∷
    -- a peeker before a getter on one item: the getter takes, the peeker loses its number
    row (codes "queue q fifo none|def g|x <- qget q|print x|end|def k|x <- qpeek q|print x|end|def main|a <- spawn g|b <- spawn k|sleep 0|qput q 1|sleep 0|sleep 0|qput q 2|sleep 0|sleep 0|end|")
    (codes "start g0 main|park g0 sleep until 0|start g1 g|park g1 qget q|start g2 k|park g2 qpeek q|wake g0|park g0 sleep until 0|turn 1 nothing 0|wake g1|print g1 1|end g1 value none|wake g0|park g0 sleep until 0|turn 2 nothing 0|wake g0|park g0 sleep until 0|turn 3 nothing 0|wake g2|print g2 2|end g2 value none|wake g0|park g0 sleep until 0|turn 4 nothing 0|wake g0|end g0 value none|stop value none turns 5 moves 13|")
    0 (codes "") ∷
    -- an event that is set, cleared and set while one waits; a newcomer after clear
    row (codes "event e|def w n|x <- wait e within 3|print n|end|def main|a <- spawn w 1|sleep 0|set e|clear e|b <- spawn w 2|sleep 0|set e|sleep 9|end|")
    (codes "start g0 main|park g0 sleep until 0|start g1 w|park g1 wait e until 3|wake g0|park g0 sleep until 0|turn 1 nothing 0|wake g1|print g1 1|end g1 value none|start g2 w|park g2 wait e until 3|wake g0|park g0 sleep until 9|turn 2 nothing 0|wake g2|print g2 2|end g2 value none|block 9|turn 3 elapsed 9|wake g0|end g0 value none|stop value none turns 4 moves 12|")
    0 (codes "") ∷
    -- rget takes what stands when it is delivered, also a fault that replaced a value
    row (codes "result r|def w|try|x <- rget r|except Error e|print e|end|end|def main|a <- spawn w|sleep 0|rset r 1|rfail r Error 2|join a|x <- rwait r|print x|end|")
    (codes "start g0 main|park g0 sleep until 0|start g1 w|park g1 rget r|wake g0|park g0 join g1|turn 1 nothing 0|wake g1|print g1 Error(2)|end g1 value none|turn 2 nothing 0|wake g0|print g0 none|end g0 value none|stop value none turns 3 moves 10|")
    0 (codes "") ∷
    -- a full queue: the getter frees a place for the oldest putter only
    row (codes "queue q lifo 1|def p n|qput q n|print n|end|def main|qput q 0|a <- spawn p 1|b <- spawn p 2|sleep 0|x <- qget q|try|y <- qget q now|except Empty e|print e|end|sleep 0|end|")
    (codes "start g0 main|park g0 sleep until 0|start g1 p|park g1 qput q|start g2 p|park g2 qput q|wake g0|print g0 Empty|park g0 sleep until 0|turn 1 nothing 0|wake g1|print g1 1|end g1 value none|wake g0|end g0 value none|stop value none turns 2 moves 12|")
    0 (codes "") ∷
    -- qshut: getters within their rank take, the others get ShutDown, putters are dropped
    row (codes "profile 2|queue q fifo none|def g n|try|x <- qget q|print x|except ShutDown e|print e|end|end|def main|a <- spawn g 1|b <- spawn g 2|sleep 0|qput q 5|qshut q|joinall list 2 a b|try|qput q 1|except ShutDown e|print e|end|end|")
    (codes "start g0 main|park g0 sleep until 0|start g1 g|park g1 qget q|start g2 g|park g2 qget q|wake g0|park g0 joinall|turn 1 nothing 0|wake g1|print g1 5|end g1 value none|wake g2|print g2 ShutDown|end g2 value none|turn 2 nothing 0|wake g0|print g0 ShutDown|end g0 value none|stop value none turns 3 moves 15|")
    0 (codes "") ∷
    -- a channel: main parks in cput and LoopExit takes the offer away
    row (codes "profile 2|channel c|def g|x <- cget c|print x|end|def main|try|cput c 1|except LoopExit e|print e|end|a <- spawn g|sleep 0|cput c 2|sleep 0|end|")
    (codes "start g0 main|park g0 cput c|block none|throw g0 LoopExit|print g0 LoopExit|park g0 sleep until 0|start g1 g|park g1 cget c|wake g0|park g0 cput c|turn 2 nothing 0|wake g1|print g1 2|end g1 value none|turn 3 nothing 0|wake g0|park g0 sleep until 0|turn 4 nothing 0|wake g0|end g0 value none|stop value none turns 5 moves 9|")
    0 (codes "") ∷
    -- a native slot: the waiter in line posts when an answer frees it
    row (codes "native n 1|def w i|j <- nspawn n echo i takes 1|x <- get j|print x|end|def main|a <- spawn w 1|b <- spawn w 2|joinall list 2 a b|end|")
    (codes "start g0 main|park g0 joinall|start g1 w|job j1 g1 echo 1|park g1 get j1|start g2 w|park g2 nspawn n|block jobs|turn 1 done j1 1 value 1|wake g1|print g1 1|end g1 value none|wake g2|job j2 g2 echo 2|park g2 get j2|block jobs|turn 2 done j2 2 value 2|wake g2|print g2 2|end g2 value none|turn 3 nothing 2|wake g0|end g0 value none|stop value none turns 4 moves 9|")
    0 (codes "") ∷
    -- a gjoin that holds loses its number where a member comes
    row (codes "group g|def w|sleep 1|end|def j|gjoin g|print 1|end|def m|sleep 1|x <- gspawn g w|end|def main|a <- gspawn g w|b <- spawn j|c <- spawn m|join b|end|")
    (codes "start g0 main|park g0 join g2|start g1 w|park g1 sleep until 1|start g2 j|park g2 gjoin g|start g3 m|park g3 sleep until 1|block 1|turn 1 elapsed 1|wake g1|end g1 value none|wake g3|end g3 value none|turn 2 nothing 1|start g4 w|park g4 sleep until 2|block 2|turn 3 elapsed 2|wake g4|end g4 value none|turn 4 nothing 2|wake g2|print g2 1|end g2 value none|turn 5 nothing 2|wake g0|end g0 value none|stop value none turns 6 moves 10|")
    0 (codes "") ∷
    -- a qjoin that holds loses its number at a put
    row (codes "queue q join none|def j|qjoin q|print 1|end|def main|qput q 1|a <- spawn j|sleep 0|qdone q|qput q 2|sleep 0|x <- qget q|x <- qget q|qdone q|sleep 0|end|")
    (codes "start g0 main|park g0 sleep until 0|start g1 j|park g1 qjoin q|wake g0|park g0 sleep until 0|turn 1 nothing 0|wake g0|park g0 sleep until 0|turn 2 nothing 0|wake g1|print g1 1|end g1 value none|wake g0|end g0 value none|stop value none turns 3 moves 12|")
    0 (codes "") ∷
    -- a cget that holds loses its number where the offering greenlet is killed
    row (codes "profile 2|channel c|def p n|kill self now|cput c n|end|def g|x <- cget c|print x|end|def main|b <- spawn g|a <- spawn p 1|sleep 0|sleep 0|cput c 2|end|")
    (codes "start g0 main|park g0 sleep until 0|start g1 g|park g1 cget c|start g2 p|park g2 cput c|wake g0|park g0 sleep until 0|turn 1 nothing 0|throw g2 GreenletExit|end g2 value GreenletExit|wake g0|park g0 cput c|turn 2 nothing 0|wake g1|print g1 2|end g1 value none|turn 3 nothing 0|wake g0|end g0 value none|stop value none turns 4 moves 9|")
    0 (codes "") ∷
    -- a host of another greenlet under setparent: TypeError is tested first
    row (codes "rawdef r x|end|def w|sleep 1|end|def main|a <- raw r|b <- spawn w|try|setparent b a|except any e|print e|end|try|setparent a b|except any e|print e|end|try|throw b with 5|except any e|print e|end|end|")
    (codes "start g0 main|print g0 TypeError|print g0 InvalidSwitch|print g0 TypeError|end g0 value none|stop value none turns 0 moves 11|")
    0 (codes "") ∷
    -- kinds after operands: the fault of the second operand comes first
    row (codes "def main|print + true / 1 0|end|")
    (codes "start g0 main|end g0 fault ZeroDivisionError|stop fault ZeroDivisionError turns 0 moves 1|")
    1 (codes "gvr: main ended by ZeroDivisionError|") ∷
    -- a deadline past 2^62 - 1: the block line writes it
    answered 3 usual_moves (Answer.Elapsed 4611686018427387903 ∷ Answer.Elapsed 4611686018427387903 ∷ Answer.Elapsed 4611686018427387903 ∷ []) (codes "def main|sleep 1|sleep 9|end|")
    (codes "start g0 main|park g0 sleep until 1|block 1|turn 1 elapsed 4611686018427387903|wake g0|park g0 sleep until 4611686018427387912|block 4611686018427387912|turn 2 elapsed 4611686018427387903|block 4611686018427387912|turn 3 elapsed 4611686018427387903|stop no-turns turns 3 moves 2|")
    6 (codes "gvr: budget of turns spent|") ∷
    -- the moves budget: an end needs no move
    within usual_turns 2 0 (codes "def w|end|def main|a <- spawn w|join a|end|")
    (codes "start g0 main|park g0 join g1|start g1 w|end g1 value none|turn 1 nothing 0|wake g0|end g0 value none|stop value none turns 2 moves 2|")
    0 (codes "") ∷
    -- list_equality
    row (codes "def main|print == list 1 1 list 2 1 2|print == list 2 1 2 list 2 1 2|print == list 0 list 0|print == list 1 Error 1 list 1 Error 2|print == Error 1 Error 1|print == 1 true|print == list 1 true list 1 1|print != none none|print == self self|end|")
    (codes "start g0 main|print g0 false|print g0 true|print g0 true|print g0 false|print g0 true|print g0 false|print g0 false|print g0 false|print g0 true|end g0 value none|stop value none turns 0 moves 9|")
    0 (codes "") ∷
    -- operands_first
    row (codes "def main|try|print + true / 1 0|except any f|print f|end|try|print at 1 / 1 0|except any f|print f|end|try|print push 1 list 0|except any f|print f|end|try|print list 2 list 0 / 1 0|except any f|print f|end|try|print and 1 / 1 0|except any f|print f|end|try|print or true / 1 0|except any f|print f|end|try|print or false 3|except any f|print f|end|print and false 3|end|")
    (codes "start g0 main|print g0 ZeroDivisionError|print g0 ZeroDivisionError|print g0 TypeError|print g0 ZeroDivisionError|print g0 TypeError|print g0 true|print g0 TypeError|print g0 false|end g0 value none|stop value none turns 0 moves 21|")
    0 (codes "") ∷
    -- least_by_minus_one
    row (codes "def main|print % -9223372036854775808 -1|try|print / -9223372036854775808 -1|except any f|print f|end|print / -7 -2|print % -7 -2|print / 7 -2|print % 7 -2|print % -6 3|print / -6 3|end|")
    (codes "start g0 main|print g0 0|print g0 OverflowError|print g0 3|print g0 -1|print g0 -4|print g0 -1|print g0 0|print g0 -2|end g0 value none|stop value none turns 0 moves 10|")
    0 (codes "") ∷
    -- silent_of_other
    row (codes "def main|timeout 5 silent|timeout 3 silent|sleep 10|end|print 1|sleep 10|end|print 2|end|")
    (codes "start g0 main|park g0 sleep until 10|block 3|turn 1 elapsed 3|throw g0 Timeout(2)|print g0 1|park g0 sleep until 13|block 5|turn 2 elapsed 5|throw g0 Timeout(1)|print g0 2|end g0 value none|stop value none turns 3 moves 6|")
    0 (codes "") ∷
    -- timeout_raised_again
    row (codes "def main|let t none|timeout 2 silent|try|sleep 5|except Timeout f|let t f|end|raise t|end|print 1|try|raise t|except Timeout g|print g|end|end|")
    (codes "start g0 main|park g0 sleep until 5|block 2|turn 1 elapsed 2|throw g0 Timeout(1)|print g0 1|print g0 Timeout(1)|end g0 value none|stop value none turns 2 moves 10|")
    0 (codes "") ∷
    -- return_through_silent_finally
    row (codes "def f|try|timeout 1 silent|try|return 1|finally|sleep 5|end|end|print 3|finally|print 4|end|return 6|end|def main|a <- spawn f|x <- get a|print x|end|")
    (codes "start g0 main|park g0 get g1|start g1 f|park g1 sleep until 5|block 1|turn 1 elapsed 1|throw g1 Timeout(1)|print g1 3|print g1 4|end g1 value 6|turn 2 nothing 1|wake g0|print g0 6|end g0 value none|stop value none turns 3 moves 11|")
    0 (codes "") ∷
    -- finally_replaces
    row (codes "def f|try|raise Error 1|finally|raise Error 2|end|end|def g|try|try|raise Error 1|finally|return 5|end|finally|print 9|end|end|def main|a <- spawn f|b <- spawn g|joinall list 2 a b|print exception a|print value b|end|")
    (codes "start g0 main|park g0 joinall|start g1 f|end g1 fault Error(2)|start g2 g|print g2 9|end g2 value 5|turn 1 nothing 0|wake g0|print g0 Error(2)|print g0 5|end g0 value none|stop value none turns 2 moves 13|")
    0 (codes "") ∷
    -- except_then_finally_then_outer
    row (codes "def f|try|try|raise Error 1|except Error e|raise Full|except Full|print 0|finally|print 1|end|except Full|print 2|finally|print 3|end|end|def main|a <- spawn f|join a|end|")
    (codes "start g0 main|park g0 join g1|start g1 f|print g1 1|print g1 2|print g1 3|end g1 value none|turn 1 nothing 0|wake g0|end g0 value none|stop value none turns 2 moves 9|")
    0 (codes "") ∷
    -- kill_in_finally
    row (codes "def w|try|sleep 5|finally|sleep 5|print 1|end|end|def main|a <- spawn w|sleep 0|kill a now|kill a with Error 3 now|join a|print exception a|print value a|end|")
    (codes "start g0 main|park g0 sleep until 0|start g1 w|park g1 sleep until 5|wake g0|park g0 join g1|turn 1 nothing 0|throw g1 GreenletExit|park g1 sleep until 5|throw g1 Error(3)|end g1 fault Error(3)|turn 2 nothing 0|wake g0|print g0 Error(3)|print g0 none|end g0 value none|stop value none turns 3 moves 10|")
    0 (codes "") ∷
    -- many_kills_to_new
    row (codes "event e|def w|print 1|end|def l g|print value g|end|def main|a <- new w|rawlink a set e|link a l|kill a with Error 3 now|kill a now|x <- wait e within 5|print x|print exception a|start a|sleep 1|end|")
    (codes "start g0 main|throw g1 Error(3)|end g1 fault Error(3)|park g0 wait e until 5|link 1 g1 set e|link 2 g1 g2|start g2 l|print g2 none|end g2 value none|turn 1 nothing 0|wake g0|print g0 true|print g0 Error(3)|park g0 sleep until 1|block 1|turn 2 elapsed 1|wake g0|end g0 value none|stop value none turns 3 moves 11|")
    0 (codes "") ∷
    -- killall_mixed
    row (codes "group g|def w|sleep 3|end|def main|a <- spawn w|b <- gspawn g w|sleep 0|c <- gspawn g w|killall list 4 a b c c with Full within 2|print members g|print list 3 ready a ready b ready c|end|")
    (codes "start g0 main|park g0 sleep until 0|start g1 w|park g1 sleep until 3|start g2 w|park g2 sleep until 3|wake g0|throw g3 Full|end g3 fault Full|park g0 killall until 2|turn 1 nothing 0|throw g1 Full|end g1 fault Full|throw g2 Full|end g2 fault Full|turn 2 nothing 0|wake g0|print g0 0|print g0 [true, true, true]|end g0 value none|stop value none turns 3 moves 9|")
    0 (codes "") ∷
    -- gkill_self_member
    row (codes "group g|def w|gkill g now|print 1|sleep 1|print 2|end|def v|sleep 4|end|def main|b <- gspawn g v|a <- gspawn g w|gjoin g|print members g|end|")
    (codes "start g0 main|park g0 gjoin g|start g1 v|park g1 sleep until 4|start g2 w|print g2 1|park g2 sleep until 1|turn 1 nothing 0|throw g1 GreenletExit|end g1 value GreenletExit|throw g2 GreenletExit|end g2 value GreenletExit|turn 2 nothing 0|wake g0|print g0 0|end g0 value none|stop value none turns 3 moves 8|")
    0 (codes "") ∷
    -- start_twice
    row (codes "def w n|print n|end|def main|a <- new w 1|start a|start a|b <- spawnlater 5 w 2|start b|sleep 9|end|")
    (codes "start g0 main|park g0 sleep until 9|start g1 w|print g1 1|end g1 value none|block 5|turn 1 elapsed 5|start g2 w|print g2 2|end g2 value none|block 9|turn 2 elapsed 9|wake g0|end g0 value none|stop value none turns 3 moves 8|")
    0 (codes "") ∷
    -- spawnlater_killed
    row (codes "def w n|print n|end|def main|b <- spawnlater 5 w 2|kill b now|x <- get b|print x|sleep 9|end|")
    (codes "start g0 main|throw g1 GreenletExit|end g1 value GreenletExit|print g0 GreenletExit|park g0 sleep until 9|block 9|turn 1 elapsed 9|wake g0|end g0 value none|stop value none turns 2 moves 5|")
    0 (codes "") ∷
    -- unlink_ready
    row (codes "def w|return 1|end|def l g|print 5|end|def main|a <- spawn w|k <- link a l|join a|unlink k|m <- link a l|unlink m|n <- linkfault a l|unlink 3|unlink -1|try|unlink none|except TypeError|print 3|end|o <- rawlink a mark 7|print o|sleep 0|end|")
    (codes "start g0 main|park g0 join g1|start g1 w|end g1 value 1|turn 1 nothing 0|link 1 g1 g2|start g2 l|print g2 5|end g2 value none|wake g0|print g0 3|print g0 4|park g0 sleep until 0|turn 2 nothing 0|link 4 g1 mark 7|wake g0|end g0 value none|stop value none turns 3 moves 17|")
    0 (codes "") ∷
    -- lock_owner_within
    row (codes "rlock l|def w|x <- acquire l within 3|print x|end|def main|acquire l|acquire l now|a <- spawn w|sleep 0|acquire l within 1|release l|release l|release l|x <- acquire l now|print x|try|release l|except RuntimeError|print 1|end|join a|end|")
    (codes "start g0 main|park g0 sleep until 0|start g1 w|park g1 acquire l until 3|wake g0|print g0 false|print g0 1|park g0 join g1|turn 1 nothing 0|wake g1|print g1 true|end g1 value none|turn 2 nothing 0|wake g0|end g0 value none|stop value none turns 3 moves 16|")
    0 (codes "") ∷
    -- bsem_bound_grant
    row (codes "bsem s 1|def w|acquire s|print 1|end|def main|acquire s|a <- spawn w|sleep 0|release s|try|release s|except ValueError|print 2|end|join a|release s|end|")
    (codes "start g0 main|park g0 sleep until 0|start g1 w|park g1 acquire s|wake g0|print g0 2|park g0 join g1|turn 1 nothing 0|wake g1|print g1 1|end g1 value none|turn 2 nothing 0|wake g0|end g0 value none|stop value none turns 3 moves 11|")
    0 (codes "") ∷
    -- prio_negative
    row (codes "queue q prio none|def main|qput q 3|qput q -5|qput q 3|qput q -5|try|qput q true now|except TypeError|print 1|end|a <- qget q|b <- qpeek q|c <- qget q|d <- qget q now|print list 4 a b c d|print qsize q|end|")
    (codes "start g0 main|print g0 1|print g0 [-5, -5, -5, 3]|print g0 1|end g0 value none|stop value none turns 0 moves 13|")
    0 (codes "") ∷
    -- lifo_peek
    row (codes "queue q lifo 2|def p n|qput q n|end|def k|x <- qpeek q|print x|end|def main|qput q 1|qput q 2|a <- spawn p 3|b <- spawn k|sleep 0|x <- qget q|print x|sleep 0|sleep 0|y <- qget q|print y|end|")
    (codes "start g0 main|park g0 sleep until 0|start g1 p|park g1 qput q|start g2 k|print g2 2|end g2 value none|wake g0|print g0 2|park g0 sleep until 0|turn 1 nothing 0|wake g1|end g1 value none|wake g0|park g0 sleep until 0|turn 2 nothing 0|wake g0|print g0 3|end g0 value none|stop value none turns 3 moves 14|")
    0 (codes "") ∷
    -- peekers_and_getters
    row (codes "queue q fifo none|def k|x <- qpeek q within 3|print x|end|def t|x <- qget q|print x|end|def main|a <- spawn k|b <- spawn t|c <- spawn k|d <- spawn t|e <- spawn k|sleep 0|qput q 1|qput q 2|try|x <- qpeek q now|except Empty|print 9|end|sleep 5|end|")
    (codes "start g0 main|park g0 sleep until 0|start g1 k|park g1 qpeek q until 3|start g2 t|park g2 qget q|start g3 k|park g3 qpeek q until 3|start g4 t|park g4 qget q|start g5 k|park g5 qpeek q until 3|wake g0|print g0 9|park g0 sleep until 5|turn 1 nothing 0|wake g1|print g1 1|end g1 value none|wake g2|print g2 1|end g2 value none|wake g3|print g3 2|end g3 value none|wake g4|print g4 2|end g4 value none|block 3|turn 2 elapsed 3|late g5|end g5 fault Empty|block 5|turn 3 elapsed 5|wake g0|end g0 value none|stop value none turns 4 moves 21|")
    0 (codes "") ∷
    -- map_parks_each
    row (codes "pool p 2|def f x|if == x 1|sleep 1|else|sleep 3|end|return x|end|def h|x <- map p f list 2 1 1|print x|end|def main|a <- spawn h|x <- map p f list 4 3 1 1 2|print x|join a|end|")
    (codes "start g0 main|park g0 map p|start g1 h|park g1 map p|start g2 f|park g2 sleep until 3|start g3 f|park g3 sleep until 1|block 1|turn 1 elapsed 1|wake g3|end g3 value 1|turn 2 nothing 1|wake g0|park g0 map p|turn 3 nothing 1|start g4 f|park g4 sleep until 2|block 2|turn 4 elapsed 2|wake g4|end g4 value 1|turn 5 nothing 2|wake g1|park g1 map p|turn 6 nothing 2|start g5 f|park g5 sleep until 3|block 3|turn 7 elapsed 3|wake g2|end g2 value 3|wake g5|end g5 value 1|turn 8 nothing 3|wake g0|park g0 map p|wake g1|park g1 map p|turn 9 nothing 3|start g6 f|park g6 sleep until 6|start g7 f|park g7 sleep until 4|block 4|turn 10 elapsed 4|wake g7|end g7 value 1|turn 11 nothing 4|wake g1|print g1 [1, 1]|end g1 value none|block 6|turn 12 elapsed 6|wake g6|end g6 value 2|turn 13 nothing 6|wake g0|print g0 [3, 1, 1, 2]|end g0 value none|stop value none turns 14 moves 24|")
    0 (codes "") ∷
    -- map_list_member
    row (codes "pool p 2|def f x|if == x 2|return list 1 x|end|return x|end|def g x|if == x 1|raise Error 1|end|return list 0|end|def main|try|x <- map p f list 3 1 2 3|except TypeError|print 1|end|try|x <- map p g list 2 0 1|except Error e|print e|end|x <- map p f list 2 none GreenletExit|print x|end|")
    (codes "start g0 main|park g0 map p|start g1 f|end g1 value 1|start g2 f|end g2 value [2]|turn 1 nothing 0|wake g0|park g0 map p|turn 2 nothing 0|start g3 f|end g3 value 3|turn 3 nothing 0|wake g0|print g0 1|park g0 map p|turn 4 nothing 0|start g4 g|end g4 value []|start g5 g|end g5 fault Error(1)|turn 5 nothing 0|wake g0|print g0 Error(1)|park g0 map p|turn 6 nothing 0|start g6 f|end g6 value none|start g7 f|end g7 value GreenletExit|turn 7 nothing 0|wake g0|print g0 [none, GreenletExit]|end g0 value none|stop value none turns 8 moves 22|")
    0 (codes "") ∷
    -- map_killed
    row (codes "pool p 1|def f x|sleep 2|return x|end|def h|try|x <- map p f list 3 1 2 3|finally|print members p|end|end|def main|a <- spawn h|sleep 3|kill a|print members p|gjoin p|end|")
    (codes "start g0 main|park g0 sleep until 3|start g1 h|park g1 map p|turn 1 nothing 0|start g2 f|park g2 sleep until 2|block 2|turn 2 elapsed 2|wake g2|end g2 value 1|turn 3 nothing 2|wake g1|park g1 map p|turn 4 nothing 2|start g3 f|park g3 sleep until 4|block 3|turn 5 elapsed 3|wake g0|park g0 kill g1|turn 6 nothing 3|throw g1 GreenletExit|print g1 1|end g1 value GreenletExit|turn 7 nothing 3|wake g0|print g0 1|park g0 gjoin p|block 4|turn 8 elapsed 4|wake g3|end g3 value 2|turn 9 nothing 4|wake g0|end g0 value none|stop value none turns 10 moves 12|")
    0 (codes "") ∷
    -- gspawn_behind_map
    row (codes "pool p 1|def f x|sleep 1|return x|end|def h|x <- map p f list 2 1 2|print x|end|def main|a <- spawn h|sleep 0|b <- gspawn p f 9|c <- gspawn p f 8|print c|gjoin p within 1|gjoin p|end|")
    (codes "start g0 main|park g0 sleep until 0|start g1 h|park g1 map p|wake g0|park g0 gspawn p|turn 1 nothing 0|start g2 f|park g2 sleep until 1|block 1|turn 2 elapsed 1|wake g2|end g2 value 1|turn 3 nothing 1|wake g1|park g1 map p|turn 4 nothing 1|start g3 f|park g3 sleep until 2|block 2|turn 5 elapsed 2|wake g3|end g3 value 2|turn 6 nothing 2|wake g0|park g0 gspawn p|wake g1|print g1 [1, 2]|end g1 value none|turn 7 nothing 2|start g4 f|park g4 sleep until 3|block 3|turn 8 elapsed 3|wake g4|end g4 value 9|turn 9 nothing 3|wake g0|print g0 g5|park g0 gjoin p until 4|turn 10 nothing 3|start g5 f|park g5 sleep until 4|block 4|turn 11 elapsed 4|late g0|park g0 gjoin p|wake g5|end g5 value 8|turn 12 nothing 4|wake g0|end g0 value none|stop value none turns 13 moves 17|")
    0 (codes "") ∷
    []

pub come_to : map comes_to rows ≡ map told rows
unfolding reading read_lines lines token_of keyword_of keywords phrase_of nested_at name_at number_at integer_at shape-the_row-Expression-0 hidden-the_row-Expression-0 shown-the_row-Expression-0 shape-the_row-Expression-1 hidden-the_row-Expression-1 shown-the_row-Expression-1 shown-the_row-Statement-0 shown-the_row-Except-1 out-Action out-Except roll-Except has_set_since has_result has_unit is_free has_room has_item all_finished has_place is_deserted has_slot is_taken has_offer move performs deliver interrupts take_answer rounds eval collatz hidden out shown roll
come_to = refl

pub are_lawful : list_all is_lawful rows ≡ true
unfolding reading read_lines lines token_of keyword_of keywords phrase_of nested_at name_at number_at integer_at shape-the_row-Expression-0 hidden-the_row-Expression-0 shown-the_row-Expression-0 shape-the_row-Expression-1 hidden-the_row-Expression-1 shown-the_row-Expression-1 shown-the_row-Statement-0 shown-the_row-Except-1 out-Action out-Except roll-Except has_set_since has_result has_unit is_free has_room has_item all_finished has_place is_deserted has_slot is_taken has_offer move performs deliver interrupts take_answer rounds eval collatz hidden out shown roll
are_lawful = refl
