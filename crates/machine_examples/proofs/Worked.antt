-- Worked runs: what is told of them, and what their texts come to.
use Rattle.std.proofs.Common.{◌≡◌, refl, List, [], ◌∷◌, map, codes, true, pos}
use Rattle.std.specs.List.{list_all}
use Rattle.gv_values.specs.declared.job.Answer.{Answer}
use Rattle.gv_values.specs.declared.job.JobOutcome.{JobOutcome}
use Rattle.machine_examples.proofs.Row.{Row, row, within, answered, told, comes_to, is_lawful, usual_moves, usual_turns}
use denote.Hole.Carrier.{hidden, out, shown, roll}
use Rattle.scenario_tree.specs.declared.tree.Expression.TheBlock.{shape-the_row-Expression-0, hidden-the_row-Expression-0, shown-the_row-Expression-0, shape-the_row-Expression-1, hidden-the_row-Expression-1, shown-the_row-Expression-1}
use Rattle.scenario_tree.specs.declared.tree.Action.TheBlock.{shown-the_row-Statement-0, shown-the_row-Except-1}
use Rattle.scenario_tree.specs.declared.tree.Action.{out-Action}
use Rattle.scenario_tree.specs.declared.tree.Except.{out-Except, roll-Except}
use Rattle.scenario_grammar.specs.Keyword.{keyword_of, keywords}
use Rattle.scenario_grammar.specs.Layout.{lines}
use Rattle.scenario_grammar.specs.Parsed.{reading, read_lines}
use Rattle.scenario_grammar.specs.Reading.{phrase_of, nested_at, name_at, number_at, integer_at}
use Rattle.scenario_grammar.specs.Token.{token_of}
use Rattle.machine.specs.Holds.{has_set_since, has_result, has_unit, is_free, has_room, has_item, all_finished, has_place, is_deserted, has_slot, is_taken, has_offer}
use Rattle.machine.specs.Moves.{move}
use Rattle.machine.specs.Request.{performs}
use Rattle.machine.specs.Deliveries.{deliver, interrupts}
use Rattle.machine.specs.Questions.{take_answer}
use Rattle.gv_values.specs.Arithmetic.{rounds}
use Rattle.world_rules.specs.Evaluate.{collatz, eval}

abbrev rows : List Row
rows =
    -- prints_one
    row (codes "def main|print 1|end|")
    (codes "start g0 main|print g0 1|end g0 value none|stop value none turns 0 moves 1|")
    0 (codes "") ∷
    -- two_sleepers_joined
    row (codes "def w n|print n|sleep 0|print + n 10|end|def main|a <- spawn w 1|b <- spawn w 2|join a|join b|end|")
    (codes "start g0 main|park g0 join g1|start g1 w|print g1 1|park g1 sleep until 0|start g2 w|print g2 2|park g2 sleep until 0|turn 1 nothing 0|wake g1|print g1 11|end g1 value none|wake g2|print g2 12|end g2 value none|turn 2 nothing 0|wake g0|end g0 value none|stop value none turns 3 moves 10|")
    0 (codes "") ∷
    -- kill_unstarted_with_link
    row (codes "def w|print 1|end|def after g|print value g|end|def main|a <- spawn w|k <- link a after|kill a|print ready a|sleep 0|end|")
    (codes "start g0 main|throw g1 GreenletExit|end g1 value GreenletExit|print g0 true|park g0 sleep until 0|link 1 g1 g2|start g2 after|print g2 GreenletExit|end g2 value none|wake g0|end g0 value none|stop value none turns 1 moves 6|")
    0 (codes "") ∷
    -- target_goes_on
    row (codes "def w|try|sleep 100|except GreenletExit|sleep 50|print 7|end|end|def main|a <- spawn w|sleep 0|kill a within 10|print ready a|join a|end|")
    (codes "start g0 main|park g0 sleep until 0|start g1 w|park g1 sleep until 100|wake g0|park g0 kill g1 until 10|turn 1 nothing 0|throw g1 GreenletExit|park g1 sleep until 50|block 10|turn 2 elapsed 10|late g0|print g0 false|park g0 join g1|block 50|turn 3 elapsed 50|wake g1|print g1 7|end g1 value none|turn 4 nothing 50|wake g0|end g0 value none|stop value none turns 5 moves 9|")
    0 (codes "") ∷
    -- set_then_clear
    row (codes "event e|def w n|wait e|print n|end|def main|a <- spawn w 1|b <- spawn w 2|sleep 0|set e|clear e|x <- wait e within 5|print x|end|")
    (codes "start g0 main|park g0 sleep until 0|start g1 w|park g1 wait e|start g2 w|park g2 wait e|wake g0|park g0 wait e until 5|turn 1 nothing 0|wake g1|print g1 1|end g1 value none|wake g2|print g2 2|end g2 value none|block 5|turn 2 elapsed 5|late g0|print g0 false|end g0 value none|stop value none turns 3 moves 11|")
    0 (codes "") ∷
    -- granted_waiter_killed
    row (codes "sem s 0|def w n|acquire s|print n|end|def main|a <- spawn w 1|b <- spawn w 2|sleep 0|kill a now|release s|join b|print counter s|end|")
    (codes "start g0 main|park g0 sleep until 0|start g1 w|park g1 acquire s|start g2 w|park g2 acquire s|wake g0|park g0 join g2|turn 1 nothing 0|throw g1 GreenletExit|end g1 value GreenletExit|turn 2 nothing 0|wake g2|print g2 2|end g2 value none|turn 3 nothing 0|wake g0|print g0 0|end g0 value none|stop value none turns 4 moves 10|")
    0 (codes "") ∷
    -- deadline_and_unit
    row (codes "sem s 0|def r|sleep 10|release s|end|def w|x <- acquire s within 10|print x|end|def main|b <- spawn r|a <- spawn w|join a|print counter s|end|")
    (codes "start g0 main|park g0 join g2|start g1 r|park g1 sleep until 10|start g2 w|park g2 acquire s until 10|block 10|turn 1 elapsed 10|wake g1|end g1 value none|late g2|print g2 false|end g2 value none|turn 2 nothing 10|wake g0|print g0 1|end g0 value none|stop value none turns 3 moves 8|")
    0 (codes "") ∷
    -- nested_timeouts
    row (codes "def main|try|timeout 5|timeout 20 silent|sleep 100|end|print 1|end|except Timeout t|print t|end|end|")
    (codes "start g0 main|park g0 sleep until 100|block 5|turn 1 elapsed 5|throw g0 Timeout(1)|print g0 Timeout(1)|end g0 value none|stop value none turns 2 moves 5|")
    0 (codes "") ∷
    -- middle_putter_killed
    row (codes "queue q fifo 1|def p n|qput q n|end|def main|a <- spawn p 1|b <- spawn p 2|c <- spawn p 3|sleep 0|kill b now|x <- qget q|print x|y <- qget q|print y|end|")
    (codes "start g0 main|park g0 sleep until 0|start g1 p|end g1 value none|start g2 p|park g2 qput q|start g3 p|park g3 qput q|wake g0|print g0 1|park g0 qget q|turn 1 nothing 0|throw g2 GreenletExit|end g2 value GreenletExit|turn 2 nothing 0|wake g3|end g3 value none|turn 3 nothing 0|wake g0|print g0 3|end g0 value none|stop value none turns 4 moves 12|")
    0 (codes "") ∷
    -- peeker_loses_item
    row (codes "queue q fifo none|def k|x <- qpeek q|print x|end|def main|a <- spawn k|sleep 0|qput q 5|y <- qget q now|print y|sleep 0|qput q 6|join a|end|")
    (codes "start g0 main|park g0 sleep until 0|start g1 k|park g1 qpeek q|wake g0|print g0 5|park g0 sleep until 0|turn 1 nothing 0|wake g0|park g0 join g1|turn 2 nothing 0|wake g1|print g1 6|end g1 value none|turn 3 nothing 0|wake g0|end g0 value none|stop value none turns 4 moves 10|")
    0 (codes "") ∷
    -- job_of_a_killed_waiter
    row (codes "native n 2|def slow|j <- nspawn n sum 5 takes 30|x <- get j|print x|end|def quick|j <- nspawn n fail 3 takes 10|x <- get j|print x|end|def main|a <- spawn slow|b <- spawn quick|sleep 5|kill b|k <- nspawn n echo 9|x <- get k|print x|join a|end|")
    (codes "start g0 main|park g0 sleep until 5|start g1 slow|job j1 g1 sum 5|park g1 get j1|start g2 quick|job j2 g2 fail 3|park g2 get j2|block 5|turn 1 elapsed 5|wake g0|park g0 kill g2|turn 2 nothing 5|throw g2 GreenletExit|end g2 value GreenletExit|turn 3 nothing 5|wake g0|park g0 nspawn n|block jobs|turn 4 done j2 10 fault Error(3)|wake g0|job j3 g0 echo 9|park g0 get j3|block jobs|turn 5 done j3 10 value 9|wake g0|print g0 9|park g0 join g1|block jobs|turn 6 done j1 30 value 15|wake g1|print g1 15|end g1 value none|turn 7 nothing 30|wake g0|end g0 value none|stop value none turns 8 moves 13|")
    0 (codes "") ∷
    -- raw_pair
    row (codes "rawdef inner v|print v|raise Error 5|end|rawdef outer v|b <- raw inner|x <- switch b + v 1|return x|end|def main|a <- raw outer|try|x <- switch a 1|except Error e|print e|end|y <- switch a 9|print y|end|")
    (codes "start g0 main|start g1 outer|start g2 inner|print g2 2|end g2 fault Error(5)|into g1 fault Error(5)|end g1 fault Error(5)|into g0 fault Error(5)|print g0 Error(5)|into g0 value 9|print g0 9|end g0 value none|stop value none turns 0 moves 10|")
    0 (codes "") ∷
    -- worker_pool
    row (codes "queue q join 4|pool p 3|def worker|while true|n <- qget q|try|sleep 10|print n|finally|qdone q|end|end|end|def main|a <- gspawn p worker|b <- gspawn p worker|c <- gspawn p worker|let i 1|while <= i 4|qput q i|let i + i 1|end|timeout 100|qjoin q|end|gkill p|print unfinished q|end|")
    (codes "start g0 main|park g0 qjoin q|start g1 worker|park g1 sleep until 10|start g2 worker|park g2 sleep until 10|start g3 worker|park g3 sleep until 10|block 10|turn 1 elapsed 10|wake g1|print g1 1|park g1 sleep until 20|wake g2|print g2 2|park g2 qget q|wake g3|print g3 3|park g3 qget q|block 20|turn 2 elapsed 20|wake g1|print g1 4|park g1 qget q|turn 3 nothing 20|wake g0|park g0 gkill p|turn 4 nothing 20|throw g1 GreenletExit|end g1 value GreenletExit|throw g2 GreenletExit|end g2 value GreenletExit|throw g3 GreenletExit|end g3 value GreenletExit|turn 5 nothing 20|wake g0|print g0 0|end g0 value none|stop value none turns 6 moves 51|")
    0 (codes "") ∷
    -- newcomer_waits
    row (codes "sem s 0|def w|acquire s|end|def main|a <- spawn w|sleep 0|release s|x <- acquire s now|print x|join a|end|")
    (codes "start g0 main|park g0 sleep until 0|start g1 w|park g1 acquire s|wake g0|print g0 false|park g0 join g1|turn 1 nothing 0|wake g1|end g1 value none|turn 2 nothing 0|wake g0|end g0 value none|stop value none turns 3 moves 7|")
    0 (codes "") ∷
    -- links_after_end
    row (codes "def w|return 4|end|def f g|print value g|end|def main|a <- spawn w|join a|k <- link a f|l <- linkfault a f|rawlink a mark 8|sleep 0|end|")
    (codes "start g0 main|park g0 join g1|start g1 w|end g1 value 4|turn 1 nothing 0|wake g0|park g0 sleep until 0|turn 2 nothing 0|link 1 g1 g2|start g2 f|print g2 4|end g2 value none|link 3 g1 mark 8|wake g0|end g0 value none|stop value none turns 3 moves 8|")
    0 (codes "") ∷
    -- pool_map
    row (codes "pool p 1|def f x|sleep 5|return * x 2|end|def main|r <- map p f list 2 3 4|print r|end|")
    (codes "start g0 main|park g0 map p|start g1 f|park g1 sleep until 5|block 5|turn 1 elapsed 5|wake g1|end g1 value 6|turn 2 nothing 5|wake g0|park g0 map p|turn 3 nothing 5|start g2 f|park g2 sleep until 10|block 10|turn 4 elapsed 10|wake g2|end g2 value 8|turn 5 nothing 10|wake g0|print g0 [6, 8]|end g0 value none|stop value none turns 6 moves 6|")
    0 (codes "") ∷
    -- two_puts
    row (codes "result r|def w|x <- rget r|print x|end|def main|a <- spawn w|sleep 0|rset r 1|rset r 2|join a|y <- rget r now|print y|end|")
    (codes "start g0 main|park g0 sleep until 0|start g1 w|park g1 rget r|wake g0|park g0 join g1|turn 1 nothing 0|wake g1|print g1 2|end g1 value none|turn 2 nothing 0|wake g0|print g0 2|end g0 value none|stop value none turns 3 moves 9|")
    0 (codes "") ∷
    -- lock_of_the_dead
    row (codes "rlock l|def o|acquire l|end|def w|acquire l|end|def main|a <- spawn o|b <- spawn w|join b|end|")
    (codes "start g0 main|park g0 join g2|start g1 o|end g1 value none|start g2 w|park g2 acquire l|block none|throw g0 LoopExit|end g0 fault LoopExit|stop fault LoopExit turns 1 moves 5|")
    1 (codes "gvr: main ended by LoopExit: This operation would block forever|") ∷
    -- arithmetic_edges
    row (codes "def main|print / -7 2|print % -7 2|let x + 9223372036854775807 1|end|")
    (codes "start g0 main|print g0 -4|print g0 1|end g0 fault OverflowError|stop fault OverflowError turns 0 moves 3|")
    1 (codes "gvr: main ended by OverflowError|") ∷
    -- list_limit
    row (codes "def main|let l list 0|let i 0|while < i 65|let l push l i|let i + i 1|end|end|")
    (codes "start g0 main|end g0 fault ValueError|stop fault ValueError turns 0 moves 196|")
    1 (codes "gvr: main ended by ValueError|") ∷
    -- parent_cycle
    row (codes "rawdef r v|return v|end|def main|a <- raw r|b <- raw r under a|setparent a b|end|")
    (codes "start g0 main|end g0 fault ValueError|stop fault ValueError turns 0 moves 3|")
    1 (codes "gvr: main ended by ValueError|") ∷
    -- budgets, turns 3
    within 3 usual_moves 0 (codes "def w n|print n|sleep 0|print + n 10|end|def main|a <- spawn w 1|b <- spawn w 2|join a|join b|end|")
    (codes "start g0 main|park g0 join g1|start g1 w|print g1 1|park g1 sleep until 0|start g2 w|print g2 2|park g2 sleep until 0|turn 1 nothing 0|wake g1|print g1 11|end g1 value none|wake g2|print g2 12|end g2 value none|turn 2 nothing 0|wake g0|end g0 value none|stop value none turns 3 moves 10|")
    0 (codes "") ∷
    -- budgets, turns 2
    within 2 usual_moves 0 (codes "def w n|print n|sleep 0|print + n 10|end|def main|a <- spawn w 1|b <- spawn w 2|join a|join b|end|")
    (codes "start g0 main|park g0 join g1|start g1 w|print g1 1|park g1 sleep until 0|start g2 w|print g2 2|park g2 sleep until 0|turn 1 nothing 0|wake g1|print g1 11|end g1 value none|wake g2|print g2 12|end g2 value none|turn 2 nothing 0|stop no-turns turns 2 moves 9|")
    6 (codes "gvr: budget of turns spent|") ∷
    -- budgets, moves 9
    within usual_turns 9 0 (codes "def w n|print n|sleep 0|print + n 10|end|def main|a <- spawn w 1|b <- spawn w 2|join a|join b|end|")
    (codes "start g0 main|park g0 join g1|start g1 w|print g1 1|park g1 sleep until 0|start g2 w|print g2 2|park g2 sleep until 0|turn 1 nothing 0|wake g1|print g1 11|end g1 value none|wake g2|print g2 12|end g2 value none|turn 2 nothing 0|wake g0|stop no-moves turns 3 moves 9|")
    6 (codes "gvr: budget of moves spent|") ∷
    -- listed_answers
    answered usual_turns usual_moves (Answer.Done 2 (JobOutcome.Int (pos 4)) 7 ∷ Answer.Done 1 (JobOutcome.Int (pos 6)) 9 ∷ []) (codes "native n 2|def main|a <- nspawn n sum 3|b <- nspawn n echo 4|x <- get a|print x|end|")
    (codes "start g0 main|job j1 g0 sum 3|job j2 g0 echo 4|park g0 get j1|block jobs|turn 1 done j2 7 value 4|block jobs|turn 2 done j1 9 value 6|wake g0|print g0 6|end g0 value none|stop value none turns 3 moves 4|")
    0 (codes "") ∷
    -- two_sleepers_first_form
    row (codes "def w n|print n|sleep 0|print n|end|def main|a <- spawn w 1|b <- spawn w 2|join a|join b|end|")
    (codes "start g0 main|park g0 join g1|start g1 w|print g1 1|park g1 sleep until 0|start g2 w|print g2 2|park g2 sleep until 0|turn 1 nothing 0|wake g1|print g1 1|end g1 value none|wake g2|print g2 2|end g2 value none|turn 2 nothing 0|wake g0|end g0 value none|stop value none turns 3 moves 10|")
    0 (codes "") ∷
    -- life_expressions
    row (codes "def w n|return n|end|def f g|print 9|end|def main|a <- spawnlater 20 w 1|b <- spawn w 2|k <- link b f|unlink k|unlink k|r <- joinall list 2 a b count 1|print r|x <- get b now|print x|try|y <- get a now|except Timeout t|print t|end|end|")
    (codes "start g0 main|park g0 joinall|start g2 w|end g2 value 2|turn 1 nothing 0|wake g0|print g0 [g2]|print g0 2|print g0 Timeout(1)|end g0 value none|stop value none turns 2 moves 13|")
    0 (codes "") ∷
    -- left_timeout
    row (codes "def main|timeout 5|sleep 1|end|sleep 10|print 1|end|")
    (codes "start g0 main|park g0 sleep until 1|block 1|turn 1 elapsed 1|wake g0|park g0 sleep until 11|block 11|turn 2 elapsed 11|wake g0|print g0 1|end g0 value none|stop value none turns 3 moves 4|")
    0 (codes "") ∷
    -- prio_and_lifo
    row (codes "queue p prio 2|queue l lifo none|def main|qput p 5|qput p -1|try|qput p 0 now|except Full|print qsize p|end|x <- qget p|print x|qput l 1|qput l 2|y <- qget l|print y|end|")
    (codes "start g0 main|print g0 2|print g0 -1|print g0 2|end g0 value none|stop value none turns 0 moves 11|")
    0 (codes "") ∷
    -- empty_map
    row (codes "pool p 2|def main|r <- map p main0 list 0|print r|gjoin p|print members p|end|def main0 x|return x|end|")
    (codes "start g0 main|print g0 []|print g0 0|end g0 value none|stop value none turns 0 moves 4|")
    0 (codes "") ∷
    -- throw_unstarted_raw
    row (codes "rawdef r v|print v|end|def main|a <- raw r|x <- throw a|print x|end|")
    (codes "start g0 main|end g1 value GreenletExit|into g0 value GreenletExit|print g0 GreenletExit|end g0 value none|stop value none turns 0 moves 3|")
    0 (codes "") ∷
    -- finally_return
    row (codes "def f|try|return 1|finally|return 2|end|end|def main|a <- spawn f|x <- get a|print x|end|")
    (codes "start g0 main|park g0 get g1|start g1 f|end g1 value 2|turn 1 nothing 0|wake g0|print g0 2|end g0 value none|stop value none turns 2 moves 6|")
    0 (codes "") ∷
    -- kill_flood
    row (codes "def w|try|sleep 100|finally|print 1|end|end|def main|a <- spawn w|sleep 0|kill a now|kill a now|kill a now|sleep 0|print ready a|end|")
    (codes "start g0 main|park g0 sleep until 0|start g1 w|park g1 sleep until 100|wake g0|park g0 sleep until 0|turn 1 nothing 0|throw g1 GreenletExit|print g1 1|end g1 value GreenletExit|wake g0|print g0 true|end g0 value none|stop value none turns 2 moves 10|")
    0 (codes "") ∷
    -- shut_queue
    row (codes "profile 2|queue q join 2|def p n|try|qput q n|except ShutDown|print 0|end|end|def main|qput q 1|qput q 2|a <- spawn p 3|sleep 0|qshut q|x <- qget q|print x|y <- qget q|print y|try|z <- qget q|except ShutDown e|print e|end|join a|print unfinished q|end|")
    (codes "start g0 main|park g0 sleep until 0|start g1 p|park g1 qput q|wake g0|print g0 1|print g0 2|print g0 ShutDown|park g0 join g1|turn 1 nothing 0|wake g1|print g1 0|end g1 value none|turn 2 nothing 0|wake g0|print g0 2|end g0 value none|stop value none turns 3 moves 17|")
    0 (codes "") ∷
    -- channel_kill
    row (codes "profile 2|channel c|def p n|cput c n|print n|end|def main|a <- spawn p 1|b <- spawn p 2|sleep 0|kill a now|x <- cget c|print x|y <- cget c|print y|join b|end|")
    (codes "start g0 main|park g0 sleep until 0|start g1 p|park g1 cput c|start g2 p|park g2 cput c|wake g0|print g0 1|print g0 2|park g0 join g2|turn 1 nothing 0|throw g1 GreenletExit|end g1 value GreenletExit|wake g2|print g2 2|end g2 value none|turn 2 nothing 0|wake g0|end g0 value none|stop value none turns 3 moves 12|")
    0 (codes "") ∷
    -- shut_immediate
    row (codes "profile 2|queue q join none|def main|qput q 1|qput q 2|qdone q|qshut q immediate|print unfinished q|try|qput q 3|except ShutDown e|print e|end|end|")
    (codes "start g0 main|print g0 0|print g0 ShutDown|end g0 value none|stop value none turns 0 moves 8|")
    0 (codes "") ∷
    -- join_self
    row (codes "def main|join self|end|")
    (codes "start g0 main|park g0 join g0|block none|throw g0 LoopExit|end g0 fault LoopExit|stop fault LoopExit turns 1 moves 1|")
    1 (codes "gvr: main ended by LoopExit: This operation would block forever|") ∷
    -- bounded_release
    row (codes "bsem s 1|def main|release s|end|")
    (codes "start g0 main|end g0 fault ValueError|stop fault ValueError turns 0 moves 1|")
    1 (codes "gvr: main ended by ValueError|") ∷
    -- ticking_clock
    within usual_turns usual_moves 5 (codes "def w n|print n|sleep 0|print + n 10|end|def main|a <- spawn w 1|b <- spawn w 2|join a|join b|end|")
    (codes "start g0 main|park g0 join g1|start g1 w|print g1 1|park g1 sleep until 0|start g2 w|print g2 2|park g2 sleep until 0|turn 1 nothing 5|wake g1|print g1 11|end g1 value none|wake g2|print g2 12|end g2 value none|turn 2 nothing 10|wake g0|end g0 value none|stop value none turns 3 moves 10|")
    0 (codes "") ∷
    -- no_threads
    row (codes "native n 2|def main|a <- nspawn n sum 3|b <- nspawn n echo 4|x <- get a|print x|end|")
    (codes "start g0 main|job j1 g0 sum 3|job j2 g0 echo 4|park g0 get j1|block jobs|turn 1 done j1 0 value 6|wake g0|print g0 6|end g0 value none|stop value none turns 2 moves 4|")
    0 (codes "") ∷
    -- options_in_any_order
    within 3 10 0 (codes "def w n|print n|sleep 0|print + n 10|end|def main|a <- spawn w 1|b <- spawn w 2|join a|join b|end|")
    (codes "start g0 main|park g0 join g1|start g1 w|print g1 1|park g1 sleep until 0|start g2 w|print g2 2|park g2 sleep until 0|turn 1 nothing 0|wake g1|print g1 11|end g1 value none|wake g2|print g2 12|end g2 value none|turn 2 nothing 0|wake g0|end g0 value none|stop value none turns 3 moves 10|")
    0 (codes "") ∷
    -- unit_before_deadline
    within usual_turns usual_moves 5 (codes "sem s 0|def w|x <- acquire s within 10|print x|end|def main|a <- spawn w|sleep 9|release s|join a|end|")
    (codes "start g0 main|park g0 sleep until 9|start g1 w|park g1 acquire s until 10|block 9|turn 1 elapsed 9|wake g0|park g0 join g1|turn 2 nothing 14|wake g1|print g1 true|end g1 value none|turn 3 nothing 19|wake g0|end g0 value none|stop value none turns 4 moves 6|")
    0 (codes "") ∷
    -- later_words_are_names
    row (codes "profile 3|def cancel gadd|print gadd|end|def main|gdrop <- spawn cancel 5|join gdrop|end|")
    (codes "start g0 main|park g0 join g1|start g1 cancel|print g1 5|end g1 value none|turn 1 nothing 0|wake g0|end g0 value none|stop value none turns 2 moves 3|")
    0 (codes "") ∷
    -- longest_sleep
    row (codes "profile 3|def main|sleep 1000000000|end|")
    (codes "start g0 main|park g0 sleep until 1000000000|block 1000000000|turn 1 elapsed 1000000000|wake g0|end g0 value none|stop value none turns 2 moves 1|")
    0 (codes "") ∷
    []

pub come_to : map comes_to rows ≡ map told rows
unfolding reading read_lines lines token_of keyword_of keywords phrase_of nested_at name_at number_at integer_at shape-the_row-Expression-0 hidden-the_row-Expression-0 shown-the_row-Expression-0 shape-the_row-Expression-1 hidden-the_row-Expression-1 shown-the_row-Expression-1 shown-the_row-Statement-0 shown-the_row-Except-1 out-Action out-Except roll-Except has_set_since has_result has_unit is_free has_room has_item all_finished has_place is_deserted has_slot is_taken has_offer move performs deliver interrupts take_answer rounds eval collatz hidden out shown roll
come_to = refl

pub are_lawful : list_all is_lawful rows ≡ true
unfolding reading read_lines lines token_of keyword_of keywords phrase_of nested_at name_at number_at integer_at shape-the_row-Expression-0 hidden-the_row-Expression-0 shown-the_row-Expression-0 shape-the_row-Expression-1 hidden-the_row-Expression-1 shown-the_row-Expression-1 shown-the_row-Statement-0 shown-the_row-Except-1 out-Action out-Except roll-Except has_set_since has_result has_unit is_free has_room has_item all_finished has_place is_deserted has_slot is_taken has_offer move performs deliver interrupts take_answer rounds eval collatz hidden out shown roll
are_lawful = refl
