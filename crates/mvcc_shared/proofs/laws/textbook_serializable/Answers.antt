-- Proves the contract of `textbook_serializable`. It follows from what `mvcc_range` promises.
use Rattle.mvcc_shared.proofs.Scanning.{textbook_serializable}
use Rattle.mvcc_shared.proofs.laws.textbook_serializable.Goals as goal

pub returns : goal.returns
returns c = textbook_serializable c.serializable.ensures
