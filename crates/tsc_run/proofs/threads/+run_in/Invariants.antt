-- Proves the loop invariants of `run_in`.
use Rattle.std.proofs.Common.{length}
use Rattle.tsc_run.proofs.threads.+run_in.Given as goal

-- there is one list less each time
abbrev pub decreases-run_in : goal.decreases-run_in
decreases-run_in g l = length l.lists.now
