-- Proves the contract of `pushed`. The line that tells of a write that is pushed to a later time.
use Rattle.std.proofs.Common.{sym}
use Rattle.example_hand_over.proofs.pushed.Goals as goal

pub returns : goal.returns
returns c = rw (sym c.at.ensures) c.format.ensures.ok
