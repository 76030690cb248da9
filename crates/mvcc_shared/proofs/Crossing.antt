-- Clients, dealers and fronts can go to another thread, and the range can be reached from several.
use denote.Param.Send.{IsSend, IsSync, sendable}
use denote.Param.SendFields.{declared_send, declared_sync, variants_send, as_row_send, as_row_sync}
use Rattle.std.proofs.Crossing.{crosses}
use Rattle.atomic_table.proofs.Sent.{seat_keyless}
use Rattle.tsc_cache.proofs.Crossing.{config_sends, config_syncs}
use Rattle.tsc_left_right.proofs.Crossing.{table_sends, table_syncs}
use Rattle.tsc_time.specs.contracts.timestamp.Timestamp.{the_row as timestamp}
use Rattle.mvcc_range.proofs.Crossing.{range_sends, transaction_sends}
use Rattle.mvcc_shared.specs.contracts.served.PendingCall.{the_row as pending}
use Rattle.mvcc_shared.specs.contracts.served.Served.{the_row as served}
use Rattle.mvcc_shared.specs.contracts.table.Setup.{the_row as setup}
use Rattle.mvcc_shared.specs.contracts.client.Client.{the_row as client}
use Rattle.mvcc_shared.specs.contracts.client.Front.{the_row as front}
use Rattle.mvcc_shared.specs.contracts.client.Dealer.{the_row as dealer}
use Rattle.mvcc_shared.specs.contracts.shared_range.SharedRange.{the_row as shared_range}

timestamp_sends : IsSend timestamp
timestamp_sends = search (sendable, crosses) depth 20

pending_sends : IsSend pending
pending_sends = search (
  sendable,
  crosses,
  variants_send,
  as_row_send,
  timestamp_sends,
  config_sends,
) depth 20

served_sends : IsSend served
served_sends = search (
  sendable,
  crosses,
  declared_send,
  as_row_send,
  range_sends,
  transaction_sends,
  pending_sends,
) depth 20

setup_sends : IsSend setup
setup_sends = search (sendable, crosses, config_sends) depth 20

setup_syncs : IsSync setup
setup_syncs = search (sendable, crosses, config_syncs) depth 20

pub client_sends : IsSend client
client_sends = search (sendable, crosses, seat_keyless, served_sends) depth 20

pub front_sends : IsSend front
front_sends = search (sendable, crosses, seat_keyless, served_sends) depth 20

pub dealer_sends : IsSend dealer
dealer_sends = search (sendable, crosses, seat_keyless, served_sends) depth 20

pub shared_range_sends : IsSend shared_range
shared_range_sends = search (
  sendable,
  declared_send,
  as_row_send,
  table_sends,
  served_sends,
  setup_sends,
  crosses,
) depth 20

pub shared_range_syncs : IsSync shared_range
shared_range_syncs = search (
  sendable,
  declared_sync,
  as_row_sync,
  table_syncs,
  served_sends,
  setup_syncs,
  crosses,
) depth 20
