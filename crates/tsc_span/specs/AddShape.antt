-- How the code keeps a span over keys that lie elsewhere, for Adds.
use Rattle.std.specs.Prelude.{◌≡◌, true}
use Rattle.std.specs.Ordering.{is_lt}
use Rattle.tsc_span.specs.Span.{SpanView, nothing, between, point, onward, key_cmp, start_cut, end_cut}
use Rattle.tsc_span.specs.declared.add_span.AddShape.{AddShape}
use Rattle.tsc_span.specs.declared.add_span.AddShape.TheVariants as shape

-- the span that it stands for
abbrev pub span_of : AddShape → SpanView
span_of shape.Nothing = nothing
span_of (shape.Point key) = point key
span_of (shape.Range from to ends) =
    between (start_cut from ends.exclude_from) (end_cut to ends.exclude_to)
span_of (shape.Onward from excluded) = onward from excluded

-- a range has two different keys, the smaller one first
abbrev pub IsShape : AddShape → Type 0
IsShape shape.Nothing = Unit {0}
IsShape (shape.Point key) = Unit {0}
IsShape (shape.Range from to ends) = is_lt (key_cmp from to) ≡ true
IsShape (shape.Onward from excluded) = Unit {0}
