-- Proves the contract of `BoundedWaitPolicy::acquire`. Acquires the writer lock, once it is free.
use Rattle.std.proofs.Common.{rules}
use Rattle.tsc_left_right.proofs.waiting.BoundedWaitPolicy.acquire.Goals as goal

pub returns-clause-no_try : goal.returns-clause-no_try
returns-clause-no_try g c = search rules
