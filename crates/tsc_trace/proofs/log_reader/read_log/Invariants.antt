-- What is gone from the rest is the text of the lines so far.
use Rattle.std.proofs.Common.{◌≡◌, ◌++◌, ◌≤◌, length, All}
use Rattle.tsc_trace.specs.LogText.{log_text}
use Rattle.tsc_trace.specs.LogReading.{IsWritable}
use Rattle.tsc_trace.proofs.log_reader.read_log.Given as goal

abbrev pub invariant-loop-rest : goal.invariant-loop-rest
invariant-loop-rest l = record {
  text : l.bytes ≡ log_text l.reader.lines.items ++ l.rest;
  writable : All IsWritable l.reader.lines.items;
  counted : l.number ≡ length l.reader.lines.items;
  within : l.number ≤ 65536;
}

abbrev pub decreases-loop-rest : goal.decreases-loop-rest
decreases-loop-rest l = length l.rest
