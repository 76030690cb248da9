-- Proves the contract of `reads_own_writes`. What a client was told is what its transaction reads at its turn.
use Rattle.mvcc_shared.proofs.Lawful.{reads_own_writes}
use Rattle.mvcc_shared.proofs.laws.reads_own_writes.Goals as goal

pub returns : goal.returns
returns c = reads_own_writes
