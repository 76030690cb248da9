-- Proves the contract of `key_read_line`. The line that tells of a read of one key.
use Rattle.std.proofs.Common.{sym}
use Rattle.example_hand_over.proofs.key_read_line.Goals as goal

pub returns : goal.returns
returns c = rw (sym c.at.ensures) c.format.ensures.ok
