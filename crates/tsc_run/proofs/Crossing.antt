-- What goes to the thread of a list, and what comes back, can cross.
use denote.Param.Send.{IsSend, IsSync, sendable}
use denote.Param.SendFields.{declared_send, as_row_send}
use Rattle.std.proofs.Crossing.{crosses}
use Rattle.tsc_time.specs.contracts.timestamp.Timestamp.{the_row as timestamp}
use Rattle.tsc_time.specs.contracts.value.Value.{the_row as value}
use Rattle.tsc_cache.proofs.Crossing.{span_syncs}
use Rattle.tsc_trace_format.specs.contracts.trace.Call.{the_row as call}
use Rattle.tsc_trace.specs.contracts.log.CallAnswer.{the_row as said}
use Rattle.tsc_trace.specs.contracts.log.Line.{the_row as line}
use Rattle.tsc_shared.proofs.Crossing.{seat_sends}
use Rattle.tsc_run.specs.contracts.fault.RunFault.{the_row as fault}
use Rattle.tsc_run.specs.contracts.list.ListRun.{the_row as list_run}

timestamp_sends : IsSend timestamp
timestamp_sends = search (sendable, crosses) depth 20

timestamp_syncs : IsSync timestamp
timestamp_syncs = search (sendable, crosses) depth 20

value_sends : IsSend value
value_sends = search (sendable, crosses, timestamp_sends) depth 20

value_syncs : IsSync value
value_syncs = search (sendable, crosses, timestamp_syncs) depth 20

pub call_syncs : IsSync call
call_syncs = search (sendable, crosses, span_syncs, value_syncs, timestamp_syncs) depth 20

said_sends : IsSend said
said_sends = search (sendable, value_sends, timestamp_sends) depth 20

line_sends : IsSend line
line_sends = search (sendable, declared_send, as_row_send, said_sends) depth 20

fault_sends : IsSend fault
fault_sends = search sendable depth 20

pub list_run_sends : IsSend list_run
list_run_sends = search (
  sendable,
  crosses,
  declared_send,
  as_row_send,
  seat_sends,
  line_sends,
  fault_sends,
) depth 20
