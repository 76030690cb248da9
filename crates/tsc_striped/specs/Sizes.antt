-- Which marks fit any page that has room for a span. (For private contracts.)
use Rattle.std.specs.Prelude.{List, [], ◌∷◌, nat_le, Bool, true, ◌&&◌}
use Rattle.tsc_span.specs.Span.{span_cost}
use Rattle.tsc_page_model.specs.Page.{Mark}
use Rattle.tsc_striped.specs.Limits.{least_page_max}

-- whether each of some marks fits a page that has room for any span
abbrev pub are_small : List Mark → Bool
are_small [] = true
are_small (m ∷ ms) = nat_le (span_cost m.span) least_page_max && are_small ms
