-- What the log of the bank says.
use Rattle.mvcc_versions.specs.Versions.{latest}
use Rattle.mvcc_range.specs.Serial.{Transaction, empty}
use Rattle.mvcc_shared.specs.declared.answers.Closed.{Closed}
use Rattle.mvcc_shared.specs.Textbook.{Runs, IsInTimeOrder, IsReordered}
use Rattle.std.specs.Prelude.{List}

-- There is an order of just the transactions of the log, by their times. Run in that order on a
-- store of one version, which is empty at first, each scan answers as it did, and the store ends
-- with what the range has.
pub record CanBeReplayed (closed : Closed) : Type 0 where
  pub order : List Transaction
  pub same : IsReordered order closed.log.items
  pub in_time : IsInTimeOrder order
  pub runs : Runs empty order (latest closed.range.chains)
