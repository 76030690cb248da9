-- The code's cuts as places between keys.
use Rattle.std.specs.Prelude.{Option, Some, None}
use Rattle.tsc_span.specs.Span.{Cut, before, after, last, SpanView, nothing, between}
use Rattle.tsc_span.specs.declared.cut.Cut as code
use Rattle.tsc_span.specs.declared.cut.Cut.TheVariants as cut

-- the place that the code's cut is
abbrev pub cut_of : code.Cut → Cut
cut_of (cut.Before key) = before key.now
cut_of (cut.After key) = after key.now
cut_of cut.Last = last

-- the span between two of the code's cuts
abbrev pub span_of_cuts : Option (code.Cut × code.Cut) → SpanView
span_of_cuts None = nothing
span_of_cuts (Some cuts) = between (cut_of cuts.0) (cut_of cuts.1)
