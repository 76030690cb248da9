-- Where a run ends for want of a thread, one was not started.
use Rattle.std.proofs.Common.{◌≡◌, ◌≢◌, refl, List}
use Rattle.tsc_trace_format.specs.declared.trace.Call.{Call}
use Rattle.tsc_shared.specs.Seats.{SharedView, SeatView}
use Rattle.tsc_shared.specs.declared.answers.OpenFault.TheVariants as open_fault
use Rattle.tsc_run.specs.Ending.{stop_of_run}
use Rattle.tsc_run.specs.Runs.{StopsLists}
use Rattle.tsc_run.specs.declared.fault.RunFault.{RunFault}
use Rattle.tsc_run.specs.declared.fault.RunFault.TheVariants as fault
use Rattle.tsc_run.specs.declared.stream_runs.RunStop.TheVariants as stop

-- No run of a list ends so.
pub is_started : (why : RunFault) (cache : SharedView) (lists : List (List Call))
    (seats : List SeatView) → StopsLists why cache lists seats → why ≢ fault.NoThread
is_started fault.NoThread cache lists seats stopped is = stopped
is_started fault.HistoryFull cache lists seats stopped is = cc
is_started fault.NoMemory cache lists seats stopped is = cc
is_started (fault.Open why) cache lists seats stopped is = stopped
is_started fault.Gone cache lists seats stopped is = stopped

-- A run is told to stop so only where that was its fault.
pub only_unstarted : (why : RunFault) → stop_of_run why ≡ stop.NoThread → why ≡ fault.NoThread
only_unstarted fault.NoThread is = refl
only_unstarted fault.HistoryFull is = absurd cc
only_unstarted fault.NoMemory is = absurd cc
only_unstarted fault.Gone is = absurd cc
only_unstarted (fault.Open open_fault.Seats) is = absurd cc
only_unstarted (fault.Open open_fault.NoMemory) is = absurd cc
only_unstarted (fault.Open open_fault.NoPlace) is = absurd cc
