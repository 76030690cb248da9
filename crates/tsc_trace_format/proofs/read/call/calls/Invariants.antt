-- Proves the loop invariants of `calls`. The calls of a list, of which the first has this number.
use Rattle.std.proofs.Common.{◌≡◌, ◌+◌, map, drop}
use Rattle.serde_json.specs.View.{view}
use Rattle.tsc_trace_format.specs.TraceText.{calls_of}
use Rattle.tsc_trace_format.proofs.Calls.{with_front}
use Rattle.tsc_trace_format.proofs.read.call.calls.Given as goal

-- what is read and what the rest is read as are what the whole list is read as
abbrev pub invariant-loop-value : goal.invariant-loop-value
invariant-loop-value l =
    record {
      counted : l.number ≡ l.fn.first + l.value-index;
      left : with_front l.calls.items
          (calls_of l.config l.number (map view (drop l.value-index l.values))) ≡ calls_of l.config
          l.fn.first (map view l.values);
    }
