-- Summaries of several stripes, told as one.
use Rattle.std.specs.Prelude.{◌^◌, ◌-◌, List, [], ◌∷◌, ◌++◌, if◌then◌else◌}
use Rattle.tsc_time.specs.Time.{Time, is_before}
use Rattle.tsc_time.specs.ValueView.{unowned}
use Rattle.tsc_span.specs.Span.{SpanView}
use Rattle.tsc_page_model.specs.Page.{Mark}
use Rattle.std.specs.List.{Contains}
use Rattle.tsc_time.specs.Joint.{IsAtMost}
use Rattle.timestamp_cache.specs.HandOver.{Summary, IsWithin, summary_answer}

-- the earlier one of two times
abbrev pub earlier : Time → Time → Time
earlier one other = if is_before other one then other else one

-- the earliest floor of some summaries, if that is before a time
abbrev pub least_floor : Time → List Summary → Time
least_floor least [] = least
least_floor least (one ∷ others) = least_floor (earlier least one.floor) others

-- A summary whose floor is later than that of all is told by a mark of its span at its own.
abbrev pub floor_mark : Time → Summary → List Mark
floor_mark least one = if is_before least one.floor
    then record { span = one.span; value = unowned one.floor } ∷ [] else []

-- the marks of some summaries, one after another, over the floor of all
abbrev pub marks_over : Time → List Summary → List Mark
marks_over least [] = []
marks_over least (one ∷ others) = floor_mark least one ++ (one.marks ++ marks_over least others)

-- the last time that there is
abbrev pub last_time : Time
last_time = record { wall = 2 ^ 63 - 1; logical = 2 ^ 31 - 1 }

-- Some summaries as one: a summary of the whole span at the earliest floor.
abbrev pub merged : SpanView → List Summary → Summary
merged span parts = let floor = least_floor last_time parts in
    record { span = span; floor = floor; marks = marks_over floor parts }

-- A summary tells no less than each of some summaries: of any part of the span of one, whatever
-- span around that part is asked for.
abbrev pub ReportsNoLess : Summary → List Summary → Type 0
ReportsNoLess reported parts = (one : Summary) (part inner : SpanView) → Contains parts one
    → IsWithin part one.span → IsWithin part inner
    → IsAtMost (summary_answer one part) (summary_answer reported inner)
