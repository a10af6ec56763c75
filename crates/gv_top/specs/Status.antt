-- How a call ends.
use Rattle.std.specs.Prelude.{ℕ, List, [], codes}
use Rattle.trace_text.specs.declared.line.StopCause.{StopCause}
use Rattle.machine.specs.Status.{status, err_line}
use Rattle.hub_engine.specs.declared.run.EngineEnd.{EngineEnd}
use Rattle.scenario_lang.specs.declared.text.ParseRefusal.{ParseRefusal}
use Rattle.scenario_lang.specs.declared.text.ParseRefusal.TheVariants as parse
use Rattle.trace_check.specs.declared.verifying.Unverified.{Unverified}
use Rattle.wsgi_connection.specs.declared.connection.ConnectionEnd.{ConnectionEnd}
use Rattle.serve_command.specs.declared.serving.Served.{Served}
use Rattle.gv_top.specs.declared.status.Conclusion.{Conclusion}
use Rattle.gv_top.specs.declared.status.Failure.{Failure}
use Rattle.gv_top.specs.declared.status.Verdict.{Verdict}
use Rattle.gv_top.specs.Answers.{line, usage, refused_answer, read_fault_line, write_fault_line, memory_line, network_fault_line}
use Rattle.gv_top.specs.Verifying.{unverified}

-- the status and the line on err of each way in which a call ends
abbrev pub verdict_ending : Verdict → ℕ × List ℕ
verdict_ending (Verdict.Did Conclusion.Finished) = (0, [])
verdict_ending (Verdict.Did Conclusion.Usage) = (2, usage.err)
verdict_ending (Verdict.Did (Conclusion.MainFault f)) = (status (StopCause.Fault f), err_line (StopCause.Fault f))
verdict_ending (Verdict.Did Conclusion.NoTurns) = (status StopCause.NoTurns, err_line StopCause.NoTurns)
verdict_ending (Verdict.Did Conclusion.NoMoves) = (status StopCause.NoMoves, err_line StopCause.NoMoves)
verdict_ending (Verdict.Did Conclusion.NoGreenlets) = (status StopCause.NoGreenlets, err_line StopCause.NoGreenlets)
verdict_ending (Verdict.Did Conclusion.NoLinks) = (status StopCause.NoLinks, err_line StopCause.NoLinks)
verdict_ending (Verdict.Did Conclusion.NoKills) = (status StopCause.NoKills, err_line StopCause.NoKills)
verdict_ending (Verdict.Did Conclusion.TooLong) = (8, line (codes "limit of the connection"))
verdict_ending (Verdict.Did Conclusion.NoJobs) = (8, line (codes "limit of jobs"))
verdict_ending (Verdict.Did (Conclusion.Refused place)) = (3, (refused_answer place).err)
verdict_ending (Verdict.Did (Conclusion.Overlong number)) = (3, (unverified (Unverified.Overlong number)).err)
verdict_ending (Verdict.Did (Conclusion.Unmarked number)) = (3, (unverified (Unverified.Unmarked number)).err)
verdict_ending (Verdict.Did (Conclusion.Wrong number cause)) = (9, (unverified (Unverified.Wrong number cause)).err)
verdict_ending (Verdict.Did (Conclusion.Lawless number law)) = (9, (unverified (Unverified.Lawless number law)).err)
verdict_ending (Verdict.Broke Failure.Read) = (4, read_fault_line)
verdict_ending (Verdict.Broke Failure.Write) = (5, write_fault_line)
verdict_ending (Verdict.Broke Failure.Net) = (10, network_fault_line)
verdict_ending (Verdict.Broke Failure.Memory) = (7, memory_line)

abbrev pub verdict_status : Verdict → ℕ
verdict_status v = (verdict_ending v).0

abbrev pub verdict_line : Verdict → List ℕ
verdict_line v = (verdict_ending v).1

-- the verdict on a run that came to this end
abbrev pub verdict_of_run : EngineEnd → Verdict
verdict_of_run EngineEnd.MainValue = Verdict.Did Conclusion.Finished
verdict_of_run (EngineEnd.MainFault f) = Verdict.Did (Conclusion.MainFault f)
verdict_of_run EngineEnd.NoTurns = Verdict.Did Conclusion.NoTurns
verdict_of_run EngineEnd.NoMoves = Verdict.Did Conclusion.NoMoves
verdict_of_run EngineEnd.NoGreenlets = Verdict.Did Conclusion.NoGreenlets
verdict_of_run EngineEnd.NoLinks = Verdict.Did Conclusion.NoLinks
verdict_of_run EngineEnd.NoKills = Verdict.Did Conclusion.NoKills
verdict_of_run EngineEnd.WriteFault = Verdict.Broke Failure.Write
verdict_of_run EngineEnd.Memory = Verdict.Broke Failure.Memory

-- on a connection
abbrev pub verdict_of_connection : ConnectionEnd → Verdict
verdict_of_connection ConnectionEnd.Closed = Verdict.Did Conclusion.Finished
verdict_of_connection ConnectionEnd.TooLong = Verdict.Did Conclusion.TooLong
verdict_of_connection ConnectionEnd.ReadFault = Verdict.Broke Failure.Read
verdict_of_connection ConnectionEnd.WriteFault = Verdict.Broke Failure.Write
verdict_of_connection ConnectionEnd.Memory = Verdict.Broke Failure.Memory

-- on a server
abbrev pub verdict_of_server : Served → Verdict
verdict_of_server Served.Finished = Verdict.Did Conclusion.Finished
verdict_of_server Served.NoJobs = Verdict.Did Conclusion.NoJobs
verdict_of_server Served.Listener = Verdict.Broke Failure.Net
verdict_of_server Served.WriteFault = Verdict.Broke Failure.Write
verdict_of_server Served.Memory = Verdict.Broke Failure.Memory

-- on a text that no scenario was read of
abbrev pub verdict_of_text : ParseRefusal → Verdict
verdict_of_text (parse.Refused place) = Verdict.Did (Conclusion.Refused place)
verdict_of_text parse.Memory = Verdict.Broke Failure.Memory

-- on an input that was not verified
abbrev pub verdict_of_check : Unverified → Verdict
verdict_of_check (Unverified.Overlong number) = Verdict.Did (Conclusion.Overlong number)
verdict_of_check (Unverified.Unmarked number) = Verdict.Did (Conclusion.Unmarked number)
verdict_of_check (Unverified.Refused place) = Verdict.Did (Conclusion.Refused place)
verdict_of_check (Unverified.Wrong number cause) = Verdict.Did (Conclusion.Wrong number cause)
verdict_of_check (Unverified.Lawless number law) = Verdict.Did (Conclusion.Lawless number law)
verdict_of_check Unverified.Memory = Verdict.Broke Failure.Memory
