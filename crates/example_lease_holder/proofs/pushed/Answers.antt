-- Proves the contract of `pushed`. The line that tells of a write that was pushed to a later time.
use Rattle.std.proofs.Common.{sym}
use Rattle.example_lease_holder.proofs.pushed.Goals as goal

pub returns : goal.returns
returns c = rw (sym c.at.ensures) c.format.ensures.ok
