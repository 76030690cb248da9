-- Proves the contract of `range_read_line`. The line that tells of a read from one key up to
-- another.
use Rattle.std.proofs.Common.{sym}
use Rattle.example_hand_over.proofs.range_read_line.Goals as goal

pub returns : goal.returns
returns c = rw (sym c.at.ensures) c.format.ensures.ok
