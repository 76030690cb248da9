-- Proves the loop invariants of `marks_among`. The marks that these values are.
use Rattle.std.proofs.Common.{map, drop}
use Rattle.serde_json.specs.View.{view}
use Rattle.tsc_trace_format.specs.TraceText.{marks_in}
use Rattle.tsc_trace_format.proofs.MarksReading.{ReadsOn}
use Rattle.tsc_trace_format.proofs.read.batch.marks_among.Given as goal

-- what is read is what goes before the rest in the whole list
abbrev pub invariant-loop-value : goal.invariant-loop-value
invariant-loop-value l = ReadsOn l.marks (marks_in (map view (drop l.value-index l.values)))
    (marks_in (map view l.values))
