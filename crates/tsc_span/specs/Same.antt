-- When two cuts, or two spans, are equal.
use Rattle.std.specs.Prelude.{Bool, true, false, ◌&&◌}
use Rattle.std.specs.Str.{bytes_eq}
use Rattle.tsc_span.specs.Span.{Cut, before, after, last, SpanView, nothing, between}

-- whether two cuts are one place
abbrev pub is_same_cut : Cut → Cut → Bool
is_same_cut (before k) (before m) = bytes_eq k m
is_same_cut (before k) (after m) = false
is_same_cut (before k) last = false
is_same_cut (after k) (before m) = false
is_same_cut (after k) (after m) = bytes_eq k m
is_same_cut (after k) last = false
is_same_cut last (before m) = false
is_same_cut last (after m) = false
is_same_cut last last = true

-- whether two spans have equal starts and equal stops, or both are empty
abbrev pub is_same_span : SpanView → SpanView → Bool
is_same_span nothing nothing = true
is_same_span nothing (between first end) = false
is_same_span (between from to) nothing = false
is_same_span (between from to) (between first end) = is_same_cut from first && is_same_cut to end
