-- The end keys on the pages of a cache.
use Rattle.std.specs.Prelude.{List, Option, Some, None, if◌then◌else◌}
use Rattle.std.specs.List.{flat_map}
use Rattle.std.specs.Ordering.{is_lt}
use Rattle.tsc_span.specs.Span.{KeyBytes, key_cmp}
use Rattle.tsc_page_model.specs.Page.{PageMarks, marked_keys}
use Rattle.tsc_page_model.specs.PageView.{PageView}

-- the end keys of some pages, each as often as it comes
abbrev pub keys_on : List PageMarks → List KeyBytes
keys_on pages = flat_map (λ p. marked_keys p.marks) pages

-- the end keys on all pages, as they can be seen
abbrev pub keys_seen : List PageView → List KeyBytes
keys_seen pages = flat_map (λ p. p.keys) pages

-- the lesser of two keys, or the only key where one is missing
abbrev pub lesser : Option KeyBytes → Option KeyBytes → Option KeyBytes
lesser None second = second
lesser (Some k) None = Some k
lesser (Some k) (Some m) = if is_lt (key_cmp m k) then Some m else Some k
