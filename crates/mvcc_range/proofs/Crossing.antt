-- A range and a transaction can go to another thread.
use denote.Param.Send.{IsSend, sendable}
use denote.Param.SendFields.{declared_send, as_row_send}
use Rattle.std.proofs.Crossing.{crosses}
use Rattle.tsc_time.specs.contracts.timestamp.Timestamp.{the_row as timestamp}
use Rattle.tsc_cache.proofs.Crossing.{cache_sends, span_sends}
use Rattle.mvcc_versions.proofs.Crossing.{version_map_sends, read_sends, write_sends}
use Rattle.mvcc_range.specs.contracts.range.Range.{the_row as range}
use Rattle.mvcc_range.specs.contracts.transaction.Transaction.{the_row as transaction}

timestamp_sends : IsSend timestamp
timestamp_sends = search (sendable, crosses) depth 20

pub range_sends : IsSend range
range_sends = search (
  sendable,
  crosses,
  declared_send,
  as_row_send,
  timestamp_sends,
  cache_sends,
  span_sends,
  version_map_sends,
) depth 20

pub transaction_sends : IsSend transaction
transaction_sends = search (
  sendable,
  crosses,
  declared_send,
  as_row_send,
  timestamp_sends,
  read_sends,
  write_sends,
) depth 20
