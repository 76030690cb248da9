-- The span that the bytes of a lookup name.
use Rattle.std.specs.Prelude.{Bool, Option, Some, None}
use Rattle.tsc_span.specs.Span.{KeyBytes, SpanView, range_for_lookup, onward}

-- From a start to an end, as a lookup takes a range. Without an end all keys from the start on.
abbrev pub span_for_lookup : KeyBytes → Option KeyBytes → Bool → Bool → SpanView
span_for_lookup start None from_excluded to_excluded = onward start from_excluded
span_for_lookup start (Some end) from_excluded to_excluded =
    range_for_lookup start end from_excluded to_excluded
