-- Proves the loop invariants of `log_text`. The text of a log.
use Rattle.std.proofs.Common.{◌≡◌, ◌++◌, drop, All}
use Rattle.tsc_trace.specs.LogText.{log_text}
use Rattle.tsc_trace.specs.LogReading.{IsWritable}
use Rattle.tsc_trace.proofs.log.log_text.Given as goal

-- the text so far and that of the lines that are left are the text of all, and all lines are
-- writable where those are
abbrev pub invariant-loop-line : goal.invariant-loop-line
invariant-loop-line l = record {
  text : l.text.items ++ log_text (drop l.line-index l.line-items) ≡ log_text l.line-items;
  writable : All IsWritable (drop l.line-index l.line-items) → All IsWritable l.line-items;
}
