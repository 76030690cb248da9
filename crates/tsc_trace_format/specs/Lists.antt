-- Which lists of calls a trace may have.
use Rattle.std.specs.Prelude.{List, length, ◌&&◌, nat_le, Bool}
use Rattle.std.specs.List.{sum_by}
use Rattle.tsc_trace_format.specs.Limits.{most_lists, most_calls}

-- whether a trace may have these lists of calls
abbrev pub fits_trace : {C : Type 0} → List (List C) → Bool
fits_trace lists = nat_le 1 (length lists) && nat_le (length lists) most_lists &&
    nat_le (sum_by length lists) most_calls
