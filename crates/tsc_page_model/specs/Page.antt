-- A page of the cache as the plain list of what was added to it (`intervalSkl` pages of
-- CockroachDB's pkg/kv/kvserver/tscache).
use Rattle.std.specs.Prelude.{ℕ, ◌+◌, List, [], ◌∷◌, ◌++◌, map, filter, nat_le, Bool, if◌then◌else◌}
use Rattle.std.specs.List.{flat_map, list_any}
use Rattle.std.specs.Str.{bytes_eq}
use Rattle.tsc_time.specs.Time.{Time}
use Rattle.tsc_time.specs.ValueView.{ValueView}
use Rattle.tsc_time.specs.Joint.{latest}
use Rattle.tsc_span.specs.Span.{KeyBytes, SpanView, overlaps, end_keys, key_cost}

-- a span with the value that was added to it
pub record Mark : Type 0 where
  pub span : SpanView
  pub value : ValueView

-- a size in bytes, a base time, and the marks in the order in which they were added
pub record PageMarks : Type 0 where
  pub size : ℕ
  pub base : Time
  pub marks : List Mark

-- a page without marks
abbrev pub empty_page : ℕ → Time → PageMarks
empty_page size base = record { size = size; base = base; marks = [] }

-- the page with one more mark
abbrev pub with_mark : PageMarks → Mark → PageMarks
with_mark p m = record { size = p.size; base = p.base; marks = p.marks ++ m ∷ [] }

-- the latest time on a page: its base, or the time of a mark
abbrev pub top : PageMarks → Time
top p = latest p.base (map (λ m. m.value) p.marks)

-- the values of the marks that overlap a span
abbrev pub values_on : SpanView → List Mark → List ValueView
values_on span marks = map (λ m. m.value) (filter (λ m. overlaps m.span span) marks)

-- the end keys of the marks, each as often as it comes
abbrev pub marked_keys : List Mark → List KeyBytes
marked_keys marks = flat_map (λ m. end_keys m.span) marks

-- what the different keys of a list weigh together
abbrev pub weigh_distinct : (KeyBytes → ℕ) → List KeyBytes → ℕ
weigh_distinct weight [] = 0
weigh_distinct weight (k ∷ ks) = if list_any (bytes_eq k) ks then weigh_distinct weight ks else
    weight k + weigh_distinct weight ks

-- how many different keys a list has
abbrev pub count_distinct : List KeyBytes → ℕ
count_distinct ks = weigh_distinct (λ k. 1) ks

-- what the different keys of a list cost together, in bytes
abbrev pub cost_distinct : List KeyBytes → ℕ
cost_distinct ks = weigh_distinct key_cost ks

-- whether the end keys of the marks and of one more span cost no more than the page's size, each of
-- them once
abbrev pub has_room : PageMarks → SpanView → Bool
has_room p span = nat_le (cost_distinct (marked_keys p.marks ++ end_keys span)) p.size
