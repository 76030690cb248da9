-- How a summary is made: stretch by stretch of a span, each up to the next end key of a mark.
use Rattle.std.specs.Prelude.{◌≡◌, ◌⊎◌, ℕ, List, [], ◌∷◌, ◌++◌, length, nat_lt, Bool, true, false, Option, Some, None, if◌then◌else◌}
use Rattle.tsc_time.specs.Time.{is_before}
use Rattle.tsc_time.specs.ValueView.{ValueView}
use Rattle.tsc_span.specs.Span.{KeyBytes, Cut, before, after, last, is_below, SpanView}
use Rattle.tsc_page_model.specs.PageView.{is_in}
use Rattle.timestamp_cache.specs.HandOver.{Summary}

-- whether a cut is the place after a key
abbrev pub is_after : Cut → Bool
is_after (before k) = false
is_after (after k) = true
is_after last = false

-- where a stretch from a cut on stops, with the least key above it: before the key, or after it
-- where the cut is right before it
abbrev pub stretch_end : Cut → Option KeyBytes → Cut
stretch_end at None = last
stretch_end at (Some k) = if is_below at (before k) then before k else after k

-- a cut doesn't lie between two others
abbrev pub IsBeside : Cut → Cut → Cut → Type 0
IsBeside at end c = is_below at c ≡ true → is_below c end ≡ false

-- A stretch from one cut up to another, which is no higher than a third: neither side of any of
-- some keys lies between the two, and it goes up to the third or to a side of one of the keys.
pub record IsStretch (keys : List KeyBytes) (at to end : Cut) : Type 0 where
  pub rises : is_below at end ≡ true
  pub stops : is_below to end ≡ false
  pub whole : (k : KeyBytes) → is_in k keys ≡ true → IsBeside at end (before k) ×
      IsBeside at end (after k)
  pub goes_on : (end ≡ to) ⊎ ((k : KeyBytes) × (is_in k keys ≡ true) ×
      ((end ≡ before k) ⊎ (end ≡ after k)))

-- A summary with one stretch more. Where the stretch's value is not above the floor, nothing
-- changes. Else it has one mark more where there is room, or its floor is raised to the value's
-- time.
abbrev pub reported_more : ℕ → Summary → SpanView → ValueView → Summary
reported_more most reported span v =
    if is_before reported.floor v.time
    then (if nat_lt (length reported.marks) most
    then record {
      span = reported.span;
      floor = reported.floor;
      marks = reported.marks ++ record { span = span; value = v } ∷ [];
    }
    else record { span = reported.span; floor = v.time; marks = reported.marks })
    else reported
