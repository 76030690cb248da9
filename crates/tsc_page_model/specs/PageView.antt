-- What can be seen of a page, and which list of marks it stands for.
use Rattle.std.specs.Prelude.{◌≡◌, ℕ, ◌≤◌, List, [], ◌∷◌, ◌++◌, nat_le, Bool, false, not, ◌||◌, Option, Some, None, if◌then◌else◌}
use Rattle.std.specs.List.{list_any}
use Rattle.std.specs.Str.{bytes_eq}
use Rattle.tsc_time.specs.Time.{Time, zero_time, is_before}
use Rattle.tsc_time.specs.ValueView.{ValueView}
use Rattle.tsc_time.specs.Joint.{joint, joint_above}
use Rattle.tsc_span.specs.Span.{KeyBytes, SpanView, end_keys, overlaps}
use Rattle.tsc_page_model.specs.Page.{Mark, PageMarks, with_mark, top, values_on, marked_keys, cost_distinct}

-- How many bytes a page may have, its top, its end keys, spans with values that tell its answers,
-- and how many nodes each of its leaves has.
pub record PageView : Type 0 where
  pub size : ℕ
  pub top : Time
  pub keys : List KeyBytes
  pub spans : List Mark
  pub leaves : List ℕ

-- each leaf has 1 to 64 nodes
abbrev pub AreLeafSizes : List ℕ → Type 0
AreLeafSizes [] = Unit {0}
AreLeafSizes (n ∷ ns) = (1 ≤ n) × (n ≤ 64) × AreLeafSizes ns

-- what a page answers to a span: the joint value of the page's spans that overlap it, above time
-- zero
abbrev pub answer : PageView → SpanView → ValueView
answer v span = joint_above zero_time (values_on span v.spans)

-- no answer is later than the top
abbrev pub NoAnswerAboveTop : PageView → Type 0
NoAnswerAboveTop v = (span : SpanView) → is_before v.top (answer v span).time ≡ false

-- whether a key is in a list
abbrev pub is_in : KeyBytes → List KeyBytes → Bool
is_in k ks = list_any (bytes_eq k) ks

-- A page stands for a size, a base and a list of marks where whoever asks finds no difference:
-- neither in the size, nor in the top, nor in which keys are end keys, nor in what any span is
-- answered.
pub record Represents (v : PageView) (p : PageMarks) : Type 0 where
  pub size : v.size ≡ p.size
  pub top : v.top ≡ top p
  pub keys : (k : KeyBytes) → is_in k v.keys ≡ is_in k (marked_keys p.marks)
  pub answers : (span : SpanView) → answer v span ≡ joint_above zero_time (values_on span p.marks)

-- Whatever list of marks a page stood for, it stands for that list with one more mark then.
abbrev pub StandsWith : PageView → PageView → Mark → Type 0
StandsWith old new m = (p : PageMarks) → Represents old p → Represents new (with_mark p m)

-- the end keys are those that there were, and those of a span
abbrev pub HasKeysWith : PageView → PageView → SpanView → Type 0
HasKeysWith old new span = (k : KeyBytes) →
    is_in k new.keys ≡ (is_in k old.keys || is_in k (end_keys span))

-- What overlaps a span is answered what it was with one more value, and all else what it was.
abbrev pub AnswersWith : PageView → PageView → SpanView → ValueView → Type 0
AnswersWith old new span value = (s : SpanView) →
    answer new s ≡ (if overlaps span s then joint (answer old s) (value ∷ []) else answer old s)

-- what the end keys of a page cost together, each of them once
abbrev pub bytes_of : PageView → ℕ
bytes_of v = cost_distinct v.keys

-- whether the end keys of a page and of one more span cost no more than its size, each of them once
abbrev pub has_room_for : PageView → SpanView → Bool
has_room_for v span = nat_le (cost_distinct (v.keys ++ end_keys span)) v.size

-- what can be seen of a page that keeps the list itself, without leaves
abbrev pub view_of : PageMarks → PageView
view_of p = record {
  size = p.size;
  top = top p;
  keys = marked_keys p.marks;
  spans = p.marks;
  leaves = [];
}

-- what a key weighs, where this is one and not in a list
abbrev pub new_weight : (KeyBytes → ℕ) → List KeyBytes → Option KeyBytes → ℕ
new_weight weight ks None = 0
new_weight weight ks (Some k) = if is_in k ks then 0 else weight k

-- whether this is a key, and not in a list
abbrev pub is_new_among : List KeyBytes → Option KeyBytes → Bool
is_new_among ks None = false
is_new_among ks (Some k) = not (is_in k ks)
