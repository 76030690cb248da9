-- Proves the loop invariants of `lists_among`. Lists of which each has to be one.
use Rattle.std.proofs.Common.{◌≡◌, map, drop}
use Rattle.serde_json.specs.View.{view}
use Rattle.tsc_trace_format.specs.Rows.{rows_view}
use Rattle.tsc_trace_format.specs.TraceText.{lists_in}
use Rattle.tsc_trace_format.proofs.Calls.{with_front}
use Rattle.tsc_trace_format.proofs.read.head.lists_among.Given as goal

-- what is read and what the rest is read as are what the whole list is read as
abbrev pub invariant-loop-value : goal.invariant-loop-value
invariant-loop-value l = with_front (rows_view l.lists.items)
    (lists_in (map view (drop l.value-index l.values))) ≡ lists_in (map view l.values)
