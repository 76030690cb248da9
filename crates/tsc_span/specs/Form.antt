-- How the code keeps a span over keys that lie elsewhere.
use Rattle.std.specs.Prelude.{◌≡◌, true}
use Rattle.tsc_span.specs.Span.{SpanView, nothing, between, point, is_below}
use Rattle.tsc_span.specs.Cuts.{cut_of}
use Rattle.tsc_span.specs.declared.span_ref.Form.{Form}
use Rattle.tsc_span.specs.declared.span_ref.Form.TheVariants as form

-- the span that it stands for
abbrev pub span_of : Form → SpanView
span_of form.Nothing = nothing
span_of (form.Point key) = point key.now
span_of (form.Between from to) = between (cut_of from) (cut_of to)

-- the lower cut lies below the upper one
abbrev pub IsForm : Form → Type 0
IsForm form.Nothing = Unit {0}
IsForm (form.Point key) = Unit {0}
IsForm (form.Between from to) = is_below (cut_of from) (cut_of to) ≡ true
