-- How a transaction's own writes are put over the rows of a span, one write after another.
use Rattle.std.specs.Prelude.{ℕ, suc, List, [], ◌∷◌, ◌++◌, Bool, false, if◌then◌else◌}
use Rattle.std.specs.Ordering.{is_lt}
use Rattle.std.specs.Str.{bytes_eq}
use Rattle.tsc_span.specs.Span.{SpanView, covers, key_cmp}
use Rattle.timestamp_cache.specs.Words.{KeyBytes}
use Rattle.mvcc_versions.specs.Versions.{Content, Row, Write}
use Rattle.mvcc_versions.specs.RowsIn.{row_for}

-- how many rows, from the first one on, have a lower key
abbrev pub place_of : List Row → KeyBytes → ℕ
place_of [] k = 0
place_of (r ∷ rs) k = if is_lt (key_cmp r.key k) then suc (place_of rs k) else 0

-- whether a key has a row, where rows are in order
abbrev pub has_row : List Row → KeyBytes → Bool
has_row [] k = false
has_row (r ∷ rs) k = if is_lt (key_cmp r.key k) then has_row rs k else bytes_eq r.key k

-- the rows with what a key has in place of what they said of it
abbrev pub put_row : List Row → KeyBytes → Content → List Row
put_row [] k c = row_for k c
put_row (r ∷ rs) k c = if is_lt (key_cmp r.key k) then r ∷ put_row rs k c
    else if bytes_eq r.key k then row_for k c ++ rs else row_for k c ++ r ∷ rs

-- rows with a write put over them, where its key lies in the span
abbrev pub put_write : SpanView → List Row → Write → List Row
put_write span rs w = if covers span w.key then put_row rs w.key w.content else rs

-- rows with several writes put over them, one after another
abbrev pub put_writes : SpanView → List Row → List Write → List Row
put_writes span rs [] = rs
put_writes span rs (w ∷ ws) = put_writes span (put_write span rs w) ws
