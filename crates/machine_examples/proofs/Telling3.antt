-- Runs in which a small change of the definitions shows.
use Rattle.std.proofs.Common.{◌≡◌, refl, List, [], ◌∷◌, map, codes, true, pos}
use Rattle.std.specs.List.{list_all}
use Rattle.gv_values.specs.declared.job.Answer.{Answer}
use Rattle.gv_values.specs.declared.job.JobOutcome.{JobOutcome}
use Rattle.machine_examples.proofs.Row.{Row, row, within, answered, told, comes_to, is_lawful, usual_moves, usual_turns}
use denote.Hole.Carrier.{hidden, out, shown, roll}
use Rattle.scenario_tree.specs.declared.tree.Expression.TheBlock.{shape-the_row-Expression-0, hidden-the_row-Expression-0, shown-the_row-Expression-0, shape-the_row-Expression-1, hidden-the_row-Expression-1, shown-the_row-Expression-1}
use Rattle.scenario_tree.specs.declared.tree.Action.TheBlock.{shown-the_row-Statement-0, shown-the_row-Except-1}
use Rattle.scenario_tree.specs.declared.tree.Action.{out-Action}
use Rattle.scenario_tree.specs.declared.tree.Except.{out-Except, roll-Except}
use Rattle.scenario_grammar.specs.Keyword.{keyword_of, keywords}
use Rattle.scenario_grammar.specs.Layout.{lines}
use Rattle.scenario_grammar.specs.Parsed.{reading, read_lines}
use Rattle.scenario_grammar.specs.Reading.{phrase_of, nested_at, name_at, number_at, integer_at}
use Rattle.scenario_grammar.specs.Token.{token_of}
use Rattle.machine.specs.Holds.{has_set_since, has_result, has_unit, is_free, has_room, has_item, all_finished, has_place, is_deserted, has_slot, is_taken, has_offer}
use Rattle.machine.specs.Moves.{move}
use Rattle.machine.specs.Request.{performs}
use Rattle.machine.specs.Deliveries.{deliver, interrupts}
use Rattle.machine.specs.Questions.{take_answer}
use Rattle.gv_values.specs.Arithmetic.{rounds}
use Rattle.world_rules.specs.Evaluate.{collatz, eval}

abbrev rows : List Row
rows =
    -- joinall_counts
    row (codes "def w n|if == n 1|sleep 1|else|sleep 2|end|return n|end|def main|a <- spawn w 1|b <- spawn w 2|r <- joinall list 3 a a b count 2|print r|r <- joinall list 2 a b count 0|print r|r <- joinall list 2 b b count 9 within 0|print r|r <- joinall list 0|print r|end|")
    (codes "start g0 main|park g0 joinall|start g1 w|park g1 sleep until 1|start g2 w|park g2 sleep until 2|block 1|turn 1 elapsed 1|wake g1|end g1 value 1|turn 2 nothing 1|wake g0|print g0 [g1, g1]|print g0 [g1]|park g0 joinall until 1|turn 3 nothing 1|late g0|print g0 []|print g0 []|end g0 value none|stop value none turns 4 moves 15|")
    0 (codes "") ∷
    -- get_now_numbers
    row (codes "result r|def w|sleep 2|return 4|end|def main|a <- spawn w|timeout none|try|x <- get a now|except Timeout t|print t|end|try|x <- rget r now|except Timeout t|print t|end|try|x <- get a within 1|except Timeout t|print t|end|x <- get a within 5|print x|x <- get a within 5|try|x <- rget r within 1|except Timeout t|print t|end|end|end|")
    (codes "start g0 main|print g0 Timeout(2)|print g0 Timeout(3)|park g0 get g1 until 1|start g1 w|park g1 sleep until 2|block 1|turn 1 elapsed 1|late g0|print g0 Timeout(4)|park g0 get g1 until 6|block 2|turn 2 elapsed 2|wake g1|end g1 value 4|turn 3 nothing 2|wake g0|print g0 4|park g0 rget r until 3|block 3|turn 4 elapsed 3|late g0|print g0 Timeout(6)|end g0 value none|stop value none turns 5 moves 19|")
    0 (codes "") ∷
    -- rget_fault_at_delivery
    row (codes "result r|def w|x <- rget r|print x|end|def v|x <- rwait r|print x|end|def main|a <- spawn w|b <- spawn v|sleep 0|rset r 1|rfail r Full|join a|print exception a|join b|rfail r GreenletExit|try|x <- rget r|except any f|print f|end|x <- rwait r|print x|end|")
    (codes "start g0 main|park g0 sleep until 0|start g1 w|park g1 rget r|start g2 v|park g2 rwait r|wake g0|park g0 join g1|turn 1 nothing 0|wake g1|end g1 fault Full|wake g2|print g2 none|end g2 value none|turn 2 nothing 0|wake g0|print g0 Full|print g0 GreenletExit|print g0 none|end g0 value none|stop value none turns 3 moves 17|")
    0 (codes "") ∷
    -- event_counts
    row (codes "event e|def w|x <- wait e|print 1|end|def main|set e|clear e|a <- spawn w|sleep 0|sleep 0|set e|set e|clear e|sleep 0|x <- wait e within 0|print x|set e|x <- wait e within 0|print x|end|")
    (codes "start g0 main|park g0 sleep until 0|start g1 w|park g1 wait e|wake g0|park g0 sleep until 0|turn 1 nothing 0|wake g0|park g0 sleep until 0|turn 2 nothing 0|wake g1|print g1 1|end g1 value none|wake g0|park g0 wait e until 0|turn 3 nothing 0|late g0|print g0 false|print g0 true|end g0 value none|stop value none turns 4 moves 16|")
    0 (codes "") ∷
    -- native_slots
    row (codes "native n 1|def w k|j <- nspawn n echo k takes 2|x <- get j within 3|print x|end|def main|a <- spawn w 1|b <- spawn w 2|c <- spawn w 3|sleep 1|kill b now|j <- nspawn n fail -4|print ready j|try|x <- get j|except Error e|print e|end|print list 3 successful j value j exception j|joinall list 3 a b c|end|")
    (codes "start g0 main|park g0 sleep until 1|start g1 w|job j1 g1 echo 1|park g1 get j1 until 3|start g2 w|park g2 nspawn n|start g3 w|park g3 nspawn n|block 1|turn 1 elapsed 1|wake g0|park g0 nspawn n|turn 2 nothing 1|throw g2 GreenletExit|end g2 value GreenletExit|block 3|turn 3 done j1 2 value 1|wake g1|print g1 1|end g1 value none|wake g3|job j2 g3 echo 3|park g3 get j2 until 5|block 5|turn 4 done j2 4 value 3|wake g0|job j3 g0 fail -4|print g0 false|park g0 get j3|wake g3|print g3 3|end g3 value none|block jobs|turn 5 done j3 4 fault Error(-4)|wake g0|print g0 Error(-4)|print g0 [false, none, Error(-4)]|end g0 value none|stop value none turns 6 moves 19|")
    0 (codes "") ∷
    -- native_faults
    row (codes "native n 64|def main|a <- nspawn n sum -1|b <- nspawn n collatz 0|c <- nspawn n collatz 27|d <- nspawn n sum 1000000000|e <- nspawn n collatz 9223372036854775807|f <- nspawn n sum 1000000001|sleep 1|print list 6 exception a exception b value c value d exception e exception f|end|")
    (codes "start g0 main|job j1 g0 sum -1|job j2 g0 collatz 0|job j3 g0 collatz 27|job j4 g0 sum 1000000000|job j5 g0 collatz 9223372036854775807|job j6 g0 sum 1000000001|park g0 sleep until 1|block 1|turn 1 done j1 0 fault ValueError|block 1|turn 2 done j2 0 fault ValueError|block 1|turn 3 done j3 0 value 111|block 1|turn 4 done j4 0 value 500000000500000000|block 1|turn 5 done j5 0 fault OverflowError|block 1|turn 6 done j6 0 fault ValueError|block 1|turn 7 elapsed 1|wake g0|print g0 [ValueError, ValueError, 111, 500000000500000000, OverflowError, ValueError]|end g0 value none|stop value none turns 8 moves 8|")
    0 (codes "") ∷
    -- raw_new_parent
    row (codes "rawdef r v|print v|return 7|end|rawdef q v|raise Error 4|end|def main|a <- raw r|b <- raw q under a|try|x <- switch b 1|except Error e|print e|end|c <- raw r|d <- raw r under c|x <- switch d 1|print x|x <- switch d 5|print x|end|")
    (codes "start g0 main|start g2 q|end g2 fault Error(4)|end g1 fault Error(4)|into g0 fault Error(4)|print g0 Error(4)|start g4 r|print g4 1|end g4 value 7|start g3 r|print g3 7|end g3 value 7|into g0 value 7|print g0 7|into g0 value 5|print g0 5|end g0 value none|stop value none turns 0 moves 16|")
    0 (codes "") ∷
    -- raw_throw_cases
    row (codes "rawdef r v|try|x <- switch v 3|except any f|print f|y <- switch v f|end|return y|end|def main|a <- raw r|x <- switch a self|print x|x <- throw a with Full|print x|x <- throw a|print x|x <- throw a with GreenletExit|print x|try|x <- throw a with Error 1|except Error e|print e|end|end|")
    (codes "start g0 main|start g1 r|into g0 value 3|print g0 3|into g1 fault Full|print g1 Full|into g0 value Full|print g0 Full|into g1 fault GreenletExit|end g1 value GreenletExit|into g0 value GreenletExit|print g0 GreenletExit|into g0 value GreenletExit|print g0 GreenletExit|into g0 fault Error(1)|print g0 Error(1)|end g0 value none|stop value none turns 0 moves 16|")
    0 (codes "") ∷
    -- raw_setparent
    row (codes "rawdef r v|x <- switch v 1|return 5|end|def w|sleep 1|end|def main|a <- raw r|b <- raw r|setparent a b|x <- switch a self|print x|try|setparent b a|except ValueError|print 1|end|try|setparent a a|except ValueError|print 2|end|try|setparent self a|except TypeError|print 3|end|c <- spawn w|try|setparent a c|except InvalidSwitch|print 4|end|try|setparent c a|except TypeError|print 5|end|x <- switch a 2|print x|end|")
    (codes "start g0 main|start g1 r|into g0 value 1|print g0 1|print g0 1|print g0 2|print g0 3|print g0 4|print g0 5|into g1 value 2|end g1 value 5|start g2 r|end g2 fault TypeError|into g0 fault TypeError|end g0 fault TypeError|stop fault TypeError turns 0 moves 25|")
    1 (codes "gvr: main ended by TypeError|") ∷
    -- raw_foreign
    row (codes "result r|rawdef q v|return v|end|def w|a <- raw q|rset r a|sleep 5|end|def main|b <- spawn w|a <- rget r|try|x <- switch a 1|except InvalidSwitch|print 1|end|try|c <- raw q under a|except InvalidSwitch|print 2|end|try|join a|except TypeError|print 3|end|try|kill a now|except TypeError|print 4|end|try|x <- throw a with 3|except TypeError|print 5|end|print ready a|join b|print ready a|end|")
    (codes "start g0 main|park g0 rget r|start g1 w|park g1 sleep until 5|turn 1 nothing 0|wake g0|print g0 1|print g0 2|print g0 3|print g0 4|print g0 5|print g0 false|park g0 join g1|block 5|turn 2 elapsed 5|wake g1|end g1 value none|turn 3 nothing 5|wake g0|print g0 false|end g0 value none|stop value none turns 4 moves 23|")
    0 (codes "") ∷
    -- raw_self
    row (codes "rawdef r v|x <- switch self 4|print x|try|throw self with Full|except Full f|print f|end|return self|end|def main|a <- raw r|x <- switch a 1|print x|x <- switch self 3|print x|try|throw self|except GreenletExit f|print f|end|end|")
    (codes "start g0 main|start g1 r|into g1 value 4|print g1 4|into g1 fault Full|print g1 Full|end g1 value g1|into g0 value g1|print g0 g1|into g0 value 3|print g0 3|into g0 fault GreenletExit|print g0 GreenletExit|end g0 value none|stop value none turns 0 moves 14|")
    0 (codes "") ∷
    -- kill_self_in_host_of_raw
    row (codes "rawdef r v|x <- switch v 1|return 5|end|def main|a <- raw r|x <- switch a self|kill self with Full now|try|sleep 1|except Full f|print f|end|x <- switch a 3|print x|end|")
    (codes "start g0 main|start g1 r|into g0 value 1|park g0 sleep until 1|throw g0 Full|print g0 Full|into g1 value 3|end g1 value 5|into g0 value 5|print g0 5|end g0 value none|stop value none turns 1 moves 10|")
    0 (codes "") ∷
    -- timeout_in_host_of_raw
    row (codes "rawdef r v|let i 0|while < i 3|let i + i 1|x <- switch v i|end|return 5|end|def main|a <- raw r|timeout 1|x <- switch a self|x <- switch a 0|try|sleep 2|except Timeout t|print t|end|end|x <- switch a 3|print x|x <- switch a 3|print x|end|")
    (codes "start g0 main|start g1 r|into g0 value 1|into g1 value 0|into g0 value 2|park g0 sleep until 2|block 1|turn 1 elapsed 1|throw g0 Timeout(1)|print g0 Timeout(1)|into g1 value 3|into g0 value 3|print g0 3|into g1 value 3|end g1 value 5|into g0 value 5|print g0 5|end g0 value none|stop value none turns 2 moves 23|")
    0 (codes "") ∷
    -- loop_exit_again
    row (codes "event e|def main|try|wait e|except LoopExit|print 1|end|try|x <- wait e within 2|print x|finally|print 2|end|end|")
    (codes "start g0 main|park g0 wait e|block none|throw g0 LoopExit|print g0 1|park g0 wait e until 2|block 2|turn 2 elapsed 2|late g0|print g0 false|print g0 2|end g0 value none|stop value none turns 3 moves 7|")
    0 (codes "") ∷
    -- loop_exit_leaves_others
    row (codes "sem s 0|def w|acquire s|print 1|end|def main|a <- spawn w|try|join a|except LoopExit f|print f|end|release s|join a|end|")
    (codes "start g0 main|park g0 join g1|start g1 w|park g1 acquire s|block none|throw g0 LoopExit|print g0 LoopExit|park g0 join g1|wake g1|print g1 1|end g1 value none|turn 2 nothing 0|wake g0|end g0 value none|stop value none turns 3 moves 8|")
    0 (codes "") ∷
    -- waits_without_values
    row (codes "event e|queue q join none|def main|x <- wait e within 1|print x|qput q 1|x <- qjoin q within 1|print x|x <- qget q|qdone q|x <- qjoin q|print x|try|qdone q|except ValueError|print 7|end|end|")
    (codes "start g0 main|park g0 wait e until 1|block 1|turn 1 elapsed 1|late g0|print g0 false|park g0 qjoin q until 2|block 2|turn 2 elapsed 2|late g0|print g0 false|print g0 true|print g0 7|end g0 value none|stop value none turns 3 moves 12|")
    0 (codes "") ∷
    -- gjoin_number_lost
    row (codes "group g|def w|sleep 1|end|def v|sleep 1|gspawn g w|end|def j|gjoin g|print 1|end|def main|a <- gspawn g w|b <- spawn v|c <- spawn j|sleep 5|end|")
    (codes "start g0 main|park g0 sleep until 5|start g1 w|park g1 sleep until 1|start g2 v|park g2 sleep until 1|start g3 j|park g3 gjoin g|block 1|turn 1 elapsed 1|wake g1|end g1 value none|wake g2|end g2 value none|turn 2 nothing 1|start g4 w|park g4 sleep until 2|block 2|turn 3 elapsed 2|wake g4|end g4 value none|turn 4 nothing 2|wake g3|print g3 1|end g3 value none|block 5|turn 5 elapsed 5|wake g0|end g0 value none|stop value none turns 6 moves 10|")
    0 (codes "") ∷
    -- moves_end
    within usual_turns 7 0 (codes "def main|while true|sleep 0|end|end|")
    (codes "start g0 main|park g0 sleep until 0|wake g0|park g0 sleep until 0|turn 1 nothing 0|wake g0|park g0 sleep until 0|turn 2 nothing 0|wake g0|stop no-moves turns 3 moves 7|")
    6 (codes "gvr: budget of moves spent|") ∷
    -- turns_end
    within 4 usual_moves 0 (codes "def w|while true|sleep 1|end|end|def main|a <- spawn w|join a|end|")
    (codes "start g0 main|park g0 join g1|start g1 w|park g1 sleep until 1|block 1|turn 1 elapsed 1|wake g1|park g1 sleep until 2|block 2|turn 2 elapsed 2|wake g1|park g1 sleep until 3|block 3|turn 3 elapsed 3|wake g1|park g1 sleep until 4|block 4|turn 4 elapsed 4|stop no-turns turns 4 moves 10|")
    6 (codes "gvr: budget of turns spent|") ∷
    -- moves_in_finally
    within usual_turns 3 0 (codes "def main|try|sleep 1|print 1|finally|print 2|print 3|end|end|")
    (codes "start g0 main|park g0 sleep until 1|block 1|turn 1 elapsed 1|wake g0|print g0 1|stop no-moves turns 2 moves 3|")
    6 (codes "gvr: budget of moves spent|") ∷
    -- tick
    within usual_turns usual_moves 2 (codes "native n 2|def main|j <- nspawn n echo 1 takes 7|k <- nspawn n echo 2 takes 3|sleep 0|sleep 0|sleep 0|print ready k|x <- get j within 2|print x|end|")
    (codes "start g0 main|job j1 g0 echo 1|job j2 g0 echo 2|park g0 sleep until 0|wake g0|park g0 sleep until 0|turn 1 nothing 2|wake g0|park g0 sleep until 2|turn 2 done j2 4 value 2|wake g0|print g0 true|park g0 get j1 until 6|block 6|turn 3 elapsed 6|late g0|end g0 fault Timeout(1)|stop fault Timeout(1) turns 4 moves 7|")
    1 (codes "gvr: main ended by Timeout(1)|") ∷
    -- far_deadline
    row (codes "def main|timeout 1000000000|sleep 1000000000|print 1|end|sleep 1000000000|end|")
    (codes "start g0 main|park g0 sleep until 1000000000|block 1000000000|turn 1 elapsed 1000000000|throw g0 Timeout(1)|end g0 fault Timeout(1)|stop fault Timeout(1) turns 2 moves 2|")
    1 (codes "gvr: main ended by Timeout(1)|") ∷
    -- param_shadow_and_none
    row (codes "def w a b|print list 2 a b|let b a|print b|print c|let c 1|end|def main|x <- spawn w 1 2|join x|try|print y|join y|except TypeError|print 4|end|let y 3|end|")
    (codes "start g0 main|park g0 join g1|start g1 w|print g1 [1, 2]|print g1 1|print g1 none|end g1 value none|turn 1 nothing 0|wake g0|print g0 none|print g0 4|end g0 value none|stop value none turns 2 moves 12|")
    0 (codes "") ∷
    -- while_type_error
    row (codes "def w|while 1|print 1|end|end|def v|if none|print 1|else|print 2|end|end|def main|a <- spawn w|b <- spawn v|joinall list 2 a b|print list 2 exception a exception b|end|")
    (codes "start g0 main|park g0 joinall|start g1 w|end g1 fault TypeError|start g2 v|end g2 fault TypeError|turn 1 nothing 0|wake g0|print g0 [TypeError, TypeError]|end g0 value none|stop value none turns 2 moves 6|")
    0 (codes "") ∷
    -- spawn_main
    row (codes "def main|if == self self|print self|end|end|")
    (codes "start g0 main|print g0 g0|end g0 value none|stop value none turns 0 moves 2|")
    0 (codes "") ∷
    -- link_function_is_empty
    row (codes "def w|end|def l g|end|def main|a <- spawn w|link a l|linkvalue a l|linkfault a l|join a|sleep 1|end|")
    (codes "start g0 main|park g0 join g1|start g1 w|end g1 value none|turn 1 nothing 0|link 1 g1 g2|start g2 l|end g2 value none|link 2 g1 g3|start g3 l|end g3 value none|wake g0|park g0 sleep until 1|block 1|turn 2 elapsed 1|wake g0|end g0 value none|stop value none turns 3 moves 6|")
    0 (codes "") ∷
    -- link_of_killed_new_in_order
    row (codes "def w|end|def l g|print value g|end|def main|a <- new w|b <- new w|link b l|link a l|killall list 2 a b now|sleep 0|end|")
    (codes "start g0 main|throw g1 GreenletExit|end g1 value GreenletExit|throw g2 GreenletExit|end g2 value GreenletExit|park g0 sleep until 0|link 2 g1 g3|start g3 l|print g3 GreenletExit|end g3 value none|link 1 g2 g4|start g4 l|print g4 GreenletExit|end g4 value none|wake g0|end g0 value none|stop value none turns 1 moves 8|")
    0 (codes "") ∷
    -- gspawn_behind_granted_map
    row (codes "pool p 1|def f x|sleep 1|return x|end|def m|r <- map p f list 2 1 2|print r|end|def w|sleep 0|sleep 0|sleep 1|g <- gspawn p f 7|print g|end|def main|a <- spawn m|b <- spawn w|joinall list 2 a b|gjoin p|end|")
    (codes "start g0 main|park g0 joinall|start g1 m|park g1 map p|start g2 w|park g2 sleep until 0|turn 1 nothing 0|start g3 f|park g3 sleep until 1|wake g2|park g2 sleep until 0|turn 2 nothing 0|wake g2|park g2 sleep until 1|block 1|turn 3 elapsed 1|wake g3|end g3 value 1|wake g2|park g2 gspawn p|turn 4 nothing 1|wake g1|park g1 map p|turn 5 nothing 1|start g4 f|park g4 sleep until 2|block 2|turn 6 elapsed 2|wake g4|end g4 value 2|turn 7 nothing 2|wake g2|print g2 g5|end g2 value none|wake g1|print g1 [1, 2]|end g1 value none|turn 8 nothing 2|start g5 f|park g5 sleep until 3|wake g0|park g0 gjoin p|block 3|turn 9 elapsed 3|wake g5|end g5 value 7|turn 10 nothing 3|wake g0|end g0 value none|stop value none turns 11 moves 17|")
    0 (codes "") ∷
    -- map_behind_granted_gspawn
    row (codes "pool p 1|def f x|sleep 1|return x|end|def m|sleep 0|sleep 0|sleep 1|r <- map p f list 1 1|print r|end|def w|g <- gspawn p f 7|h <- gspawn p f 8|print h|end|def main|a <- spawn w|b <- spawn m|joinall list 2 a b|gjoin p|end|")
    (codes "start g0 main|park g0 joinall|start g1 w|park g1 gspawn p|start g2 m|park g2 sleep until 0|turn 1 nothing 0|start g3 f|park g3 sleep until 1|wake g2|park g2 sleep until 0|turn 2 nothing 0|wake g2|park g2 sleep until 1|block 1|turn 3 elapsed 1|wake g3|end g3 value 7|wake g2|park g2 map p|turn 4 nothing 1|wake g1|print g1 g4|end g1 value none|turn 5 nothing 1|start g4 f|park g4 sleep until 2|block 2|turn 6 elapsed 2|wake g4|end g4 value 8|turn 7 nothing 2|wake g2|park g2 map p|turn 8 nothing 2|start g5 f|park g5 sleep until 3|block 3|turn 9 elapsed 3|wake g5|end g5 value 1|turn 10 nothing 3|wake g2|print g2 [1]|end g2 value none|turn 11 nothing 3|wake g0|end g0 value none|stop value none turns 12 moves 18|")
    0 (codes "") ∷
    -- newcomers_behind_granted
    row (codes "queue q fifo 1|queue r fifo none|rlock l|def p|qput q 2|end|def t|x <- qget r|print x|end|def w|acquire l|print 5|release l|end|def main|qput q 1|acquire l|a <- spawn p|b <- spawn t|c <- spawn w|sleep 0|x <- qget q|try|qput q 3 now|except Full f|print f|end|qput r 4|try|x <- qget r now|except Empty f|print f|end|try|x <- qpeek r now|except Empty f|print f|end|release l|x <- acquire l now|print x|joinall list 3 a b c|x <- qget q|print x|end|")
    (codes "start g0 main|park g0 sleep until 0|start g1 p|park g1 qput q|start g2 t|park g2 qget r|start g3 w|park g3 acquire l|wake g0|print g0 Full|print g0 Empty|print g0 Empty|print g0 false|park g0 joinall|turn 1 nothing 0|wake g1|end g1 value none|wake g2|print g2 4|end g2 value none|wake g3|print g3 5|end g3 value none|turn 2 nothing 0|wake g0|print g0 2|end g0 value none|stop value none turns 3 moves 29|")
    0 (codes "") ∷
    -- nspawn_behind_granted
    row (codes "native n 1|def w|j <- nspawn n echo 2|x <- get j|print x|end|def main|a <- spawn w|j <- nspawn n echo 1|x <- get j|k <- nspawn n echo 3|print k|join a|end|")
    (codes "start g0 main|job j1 g0 echo 1|park g0 get j1|start g1 w|park g1 nspawn n|block jobs|turn 1 done j1 0 value 1|wake g0|park g0 nspawn n|wake g1|job j2 g1 echo 2|park g1 get j2|block jobs|turn 2 done j2 0 value 2|wake g0|job j3 g0 echo 3|print g0 j3|park g0 join g1|wake g1|print g1 2|end g1 value none|turn 3 done j3 0 value 3|wake g0|end g0 value none|stop value none turns 4 moves 9|")
    0 (codes "") ∷
    -- count_above_length
    row (codes "def w n|sleep 1|return n|end|def v|sleep 3|raise Full|end|def main|a <- spawn w 1|b <- spawn v|r <- joinall list 2 a b count 64|print r|r <- joinall list 3 a b a count 4|print r|r <- joinall list 0 count 5|print r|end|")
    (codes "start g0 main|park g0 joinall|start g1 w|park g1 sleep until 1|start g2 v|park g2 sleep until 3|block 1|turn 1 elapsed 1|wake g1|end g1 value 1|block 3|turn 2 elapsed 3|wake g2|end g2 fault Full|turn 3 nothing 3|wake g0|print g0 [g1, g2]|print g0 [g1, g2, g1]|print g0 []|end g0 value none|stop value none turns 4 moves 12|")
    0 (codes "") ∷
    -- tight_chain
    row (codes "rawdef r v|end|def main|a <- raw r|b <- raw r under a|x <- switch b 1|print x|c <- raw r|d <- raw r under c|e <- raw r under d|x <- throw e|print x|x <- switch e 4|print x|end|")
    (codes "start g0 main|start g2 r|end g2 value none|start g1 r|end g1 value none|into g0 value none|print g0 none|end g5 value GreenletExit|start g4 r|end g4 value none|start g3 r|end g3 value none|into g0 value none|print g0 none|into g0 value 4|print g0 4|end g0 value none|stop value none turns 0 moves 11|")
    0 (codes "") ∷
    -- close_and_dead_chain
    row (codes "rawdef r v|x <- switch v none|raise GreenletExit|end|def main|a <- raw r|b <- raw r under a|c <- raw r under b|x <- switch b self|x <- switch a self|x <- switch c self|x <- switch c 9|print x|x <- throw c with GreenletExit|print x|x <- throw b|print x|end|")
    (codes "start g0 main|start g2 r|into g0 value none|start g1 r|into g0 value none|start g3 r|into g0 value none|into g3 value 9|end g3 value GreenletExit|into g2 value GreenletExit|end g2 value GreenletExit|into g1 value GreenletExit|end g1 value GreenletExit|into g0 value GreenletExit|print g0 GreenletExit|into g0 value GreenletExit|print g0 GreenletExit|into g0 value GreenletExit|print g0 GreenletExit|end g0 value none|stop value none turns 0 moves 18|")
    0 (codes "") ∷
    -- timeout_of_other_greenlet
    row (codes "def w|timeout 3|sleep 2|print 1|end|sleep 5|print 2|end|def main|a <- spawn w|timeout 9|timeout 8 silent|sleep 4|end|join a|end|print 3|end|")
    (codes "start g0 main|park g0 sleep until 4|start g1 w|park g1 sleep until 2|block 2|turn 1 elapsed 2|wake g1|print g1 1|park g1 sleep until 7|block 4|turn 2 elapsed 4|wake g0|park g0 join g1|block 7|turn 3 elapsed 7|wake g1|print g1 2|end g1 value none|turn 4 nothing 7|wake g0|print g0 3|end g0 value none|stop value none turns 5 moves 11|")
    0 (codes "") ∷
    -- left_outer_and_inner
    row (codes "def main|try|timeout 2|timeout 1 silent|timeout 3|sleep 9|end|print 0|end|sleep 9|end|except Timeout t|print t|end|sleep 5|print 1|end|")
    (codes "start g0 main|park g0 sleep until 9|block 1|turn 1 elapsed 1|throw g0 Timeout(2)|park g0 sleep until 10|block 2|turn 2 elapsed 2|throw g0 Timeout(1)|print g0 Timeout(1)|park g0 sleep until 7|block 7|turn 3 elapsed 7|wake g0|print g0 1|end g0 value none|stop value none turns 4 moves 9|")
    0 (codes "") ∷
    -- two_links_one_settle
    row (codes "event e|def w|return 1|end|def l g|print 5|end|def x|wait e|print 6|end|def main|a <- spawn w|b <- spawn x|sleep 0|rawlink a set e|link a l|rawlink a mark 9|linkfault a l|linkvalue a l|clear e|sleep 0|sleep 0|end|")
    (codes "start g0 main|park g0 sleep until 0|start g1 w|end g1 value 1|start g2 x|park g2 wait e|wake g0|park g0 sleep until 0|turn 1 nothing 0|link 1 g1 set e|link 2 g1 g3|start g3 l|print g3 5|end g3 value none|link 3 g1 mark 9|link 5 g1 g4|start g4 l|print g4 5|end g4 value none|wake g0|park g0 sleep until 0|turn 2 nothing 0|wake g2|print g2 6|end g2 value none|wake g0|end g0 value none|stop value none turns 3 moves 16|")
    0 (codes "") ∷
    -- done_past_its_deadline
    answered usual_turns usual_moves (Answer.Done 1 (JobOutcome.Int (pos 4)) 7 ∷ Answer.Nothing 7 ∷ []) (codes "native n 2|event e|def w|x <- wait e within 3|print x|end|def main|a <- spawn w|j <- nspawn n echo 4 takes 9|try|x <- get j within 5|print x|except Timeout t|print t|end|set e|join a|end|")
    (codes "start g0 main|job j1 g0 echo 4|park g0 get j1 until 5|start g1 w|park g1 wait e until 3|block 3|turn 1 done j1 7 value 4|wake g0|print g0 4|park g0 join g1|late g1|print g1 false|end g1 value none|turn 2 nothing 7|wake g0|end g0 value none|stop value none turns 3 moves 9|")
    0 (codes "") ∷
    -- slot_and_timeout_at_once
    answered usual_turns usual_moves (Answer.Done 1 (JobOutcome.Int (pos 4)) 7 ∷ Answer.Nothing 7 ∷ []) (codes "native n 1|def main|j <- nspawn n echo 4 takes 9|timeout 3|try|k <- nspawn n echo 5|print k|except Timeout t|print t|end|end|sleep 0|end|")
    (codes "start g0 main|job j1 g0 echo 4|park g0 nspawn n|block 3|turn 1 done j1 7 value 4|throw g0 Timeout(1)|print g0 Timeout(1)|park g0 sleep until 7|turn 2 nothing 7|wake g0|end g0 value none|stop value none turns 3 moves 6|")
    0 (codes "") ∷
    []

pub come_to : map comes_to rows ≡ map told rows
unfolding reading read_lines lines token_of keyword_of keywords phrase_of nested_at name_at number_at integer_at shape-the_row-Expression-0 hidden-the_row-Expression-0 shown-the_row-Expression-0 shape-the_row-Expression-1 hidden-the_row-Expression-1 shown-the_row-Expression-1 shown-the_row-Statement-0 shown-the_row-Except-1 out-Action out-Except roll-Except has_set_since has_result has_unit is_free has_room has_item all_finished has_place is_deserted has_slot is_taken has_offer move performs deliver interrupts take_answer rounds eval collatz hidden out shown roll
come_to = refl

pub are_lawful : list_all is_lawful rows ≡ true
unfolding reading read_lines lines token_of keyword_of keywords phrase_of nested_at name_at number_at integer_at shape-the_row-Expression-0 hidden-the_row-Expression-0 shown-the_row-Expression-0 shape-the_row-Expression-1 hidden-the_row-Expression-1 shown-the_row-Expression-1 shown-the_row-Statement-0 shown-the_row-Except-1 out-Action out-Except roll-Except has_set_since has_result has_unit is_free has_room has_item all_finished has_place is_deserted has_slot is_taken has_offer move performs deliver interrupts take_answer rounds eval collatz hidden out shown roll
are_lawful = refl
