-- The rows of a span in a list of chains, one key after another.
use Rattle.std.specs.Prelude.{List, [], ◌∷◌, ◌++◌, Bool, true, Some, None, if◌then◌else◌}
use Rattle.tsc_span.specs.Span.{SpanView, nothing, between, after, is_below, covers}
use Rattle.timestamp_cache.specs.Words.{Time, KeyBytes}
use Rattle.mvcc_versions.specs.Versions.{Content, Version, Row, content_as_of}

-- the row of a key, where it has something
abbrev pub row_for : KeyBytes → Content → List Row
row_for k None = []
row_for k (Some b) = (record { key = k; value = b }) ∷ []

-- the row of a key as of a time, where it lies in a span
abbrev pub row_in : SpanView → Time → KeyBytes × List Version → List Row
row_in span at e = if covers span e.0 then row_for e.0 (content_as_of at e.1) else []

-- the rows of some keys
abbrev pub rows_in : SpanView → Time → List (KeyBytes × List Version) → List Row
rows_in span at [] = []
rows_in span at (e ∷ es) = row_in span at e ++ rows_in span at es

-- whether a span stops before a key
abbrev pub stops_before : SpanView → KeyBytes → Bool
stops_before nothing k = true
stops_before (between from to) k = is_below to (after k)
