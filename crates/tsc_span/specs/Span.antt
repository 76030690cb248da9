-- Keys and spans of keys: the bounds of pkg/kv/kvserver/tscache in CockroachDB, with its two flags
-- `excludeFrom` and `excludeTo`.
use Rattle.std.specs.Prelude.{ℕ, ◌+◌, List, [], ◌∷◌, length, nat_le, Bool, true, false, ◌&&◌, not, Option, Some, None, unwrap_or, if◌then◌else◌}
use Rattle.std.specs.List.{sum_by}
use Rattle.std.specs.declared.cmp.Ordering.{Ordering}
use Rattle.std.specs.declared.cmp.Ordering.TheVariants.{Less, Equal, Greater}
use Rattle.std.specs.Ordering.{nat_cmp, is_lt, ordering_then}
use Rattle.std.specs.Cmp.Lexicographic.{slice_cmp}
use Rattle.std.specs.Str.{bytes_eq}
pub use Rattle.tsc_span.specs.Limits.{longest_key}

-- a key is a text of bytes
abbrev pub KeyBytes : Type 0
KeyBytes = List ℕ

-- whether bytes are few enough for a key
abbrev pub fits_key : KeyBytes → Bool
fits_key k = nat_le (length k) longest_key

-- the order of keys: byte by byte, a key after each shorter beginning
abbrev pub key_cmp : KeyBytes → KeyBytes → Ordering
key_cmp k m = slice_cmp nat_cmp k m

-- A place between keys: right before or right after a key, or above all keys.
pub data Cut : Type 0 where
  before : KeyBytes → Cut
  after : KeyBytes → Cut
  last : Cut

-- The order of cuts: by their keys, and the place before a key stands below the place after it. The
-- last cut stands above all others.
abbrev pub cut_cmp : Cut → Cut → Ordering
cut_cmp (before k) (before m) = key_cmp k m
cut_cmp (before k) (after m) = ordering_then (key_cmp k m) Less
cut_cmp (before k) last = Less
cut_cmp (after k) (before m) = ordering_then (key_cmp k m) Greater
cut_cmp (after k) (after m) = key_cmp k m
cut_cmp (after k) last = Less
cut_cmp last (before m) = Greater
cut_cmp last (after m) = Greater
cut_cmp last last = Equal

-- whether the first of two places lies below the other
abbrev pub is_below : Cut → Cut → Bool
is_below a b = is_lt (cut_cmp a b)

-- the upper one of two places
abbrev pub greater_cut : Cut → Cut → Cut
greater_cut a b = if is_below a b then b else a

-- the lower one of two places
abbrev pub smaller_cut : Cut → Cut → Cut
smaller_cut a b = if is_below a b then a else b

-- A span lies between two cuts, unless it is empty.
pub data SpanView : Type 0 where
  nothing : SpanView
  between : Cut → Cut → SpanView

-- the single key
abbrev pub point : KeyBytes → SpanView
point k = between (before k) (after k)

-- where a span begins at a key: an excluded one is left below it
abbrev pub start_cut : KeyBytes → Bool → Cut
start_cut k excluded = if excluded then after k else before k

-- where a span stops at a key: an excluded one is left above it
abbrev pub end_cut : KeyBytes → Bool → Cut
end_cut k excluded = if excluded then before k else after k

-- from a key on, without an end
abbrev pub onward : KeyBytes → Bool → SpanView
onward k excluded = between (start_cut k excluded) last

-- all keys: from the empty one on
abbrev pub all_keys : SpanView
all_keys = onward [] false

-- whether the first of two ends is the greater
abbrev pub is_inverted : KeyBytes → KeyBytes → Bool
is_inverted from to = is_lt (key_cmp to from)

-- From one key to another that is not smaller. Equal keys are the empty span where both are
-- excluded, and else the single key.
abbrev pub from_to : KeyBytes → KeyBytes → Bool → Bool → SpanView
from_to from to from_excluded to_excluded =
    if bytes_eq from to
    then (if from_excluded && to_excluded then nothing else point from)
    else between (start_cut from from_excluded) (end_cut to to_excluded)

-- a range of keys, unless it is inverted
abbrev pub range : KeyBytes → KeyBytes → Bool → Bool → Option SpanView
range from to from_excluded to_excluded =
    if is_inverted from to then None else Some (from_to from to from_excluded to_excluded)

-- in a lookup an inverted range is the empty span
abbrev pub range_for_lookup : KeyBytes → KeyBytes → Bool → Bool → SpanView
range_for_lookup from to from_excluded to_excluded =
    unwrap_or (range from to from_excluded to_excluded) nothing

-- the span of a start and an end as the cache's callers name them: an empty end means the start
-- alone, and any other end is excluded
abbrev pub start_to_end : KeyBytes → KeyBytes → Option SpanView
start_to_end start [] = Some (point start)
start_to_end start (b ∷ bs) = range start (b ∷ bs) false true

-- whether a span is the empty one
abbrev pub is_empty_span : SpanView → Bool
is_empty_span nothing = true
is_empty_span (between from to) = false

-- A key lies in a span where the places right before it and right after it do.
abbrev pub covers : SpanView → KeyBytes → Bool
covers nothing k = false
covers (between from to) k = not (is_below (before k) from) && not (is_below to (after k))

-- Two spans overlap where both begin before either stops. There may be no key in what they share,
-- and the empty span overlaps nothing.
abbrev pub overlaps : SpanView → SpanView → Bool
overlaps nothing t = false
overlaps (between from to) nothing = false
overlaps (between from to) (between first end) =
    is_below (greater_cut from first) (smaller_cut to end)

-- the key of a cut; the last cut has none
abbrev pub key_of_cut : Cut → Option KeyBytes
key_of_cut (before k) = Some k
key_of_cut (after k) = Some k
key_of_cut last = None

-- two keys without the repeat, where there are two
abbrev pub different_keys : Option KeyBytes → Option KeyBytes → List KeyBytes
different_keys None None = []
different_keys None (Some m) = m ∷ []
different_keys (Some k) None = k ∷ []
different_keys (Some k) (Some m) = if bytes_eq k m then k ∷ [] else k ∷ m ∷ []

-- the different keys of a span's cuts, for which it needs nodes on a page
abbrev pub end_keys : SpanView → List KeyBytes
end_keys nothing = []
end_keys (between from to) = different_keys (key_of_cut from) (key_of_cut to)

-- what a key costs on a page: as many bytes as it has, and 32 more
abbrev pub key_cost : KeyBytes → ℕ
key_cost k = length k + 32

-- what keys cost together
abbrev pub cost_of : List KeyBytes → ℕ
cost_of ks = sum_by key_cost ks

-- what a span costs on a page that has none of its keys; the empty span costs nothing
abbrev pub span_cost : SpanView → ℕ
span_cost s = cost_of (end_keys s)
