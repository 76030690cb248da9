-- How many pages a lookup looks into.
use Rattle.std.specs.Prelude.{◌≡◌, ℕ, List, ◌∷◌, ◌++◌, length, true, false}
use Rattle.std.specs.List.{flat_map}
use Rattle.tsc_time.specs.Time.{Time, zero_time, is_before}
use Rattle.tsc_time.specs.Joint.{latest}
use Rattle.tsc_span.specs.Span.{SpanView}
use Rattle.tsc_page_model.specs.Page.{PageMarks, top, values_on}

-- the latest time of the marks on some pages that overlap a span, or time zero where there are none
abbrev pub latest_on : SpanView → List PageMarks → Time
latest_on span pages = latest zero_time (flat_map (λ p. values_on span p.marks) pages)

-- How many pages are looked into, from the newest on: those before the first page whose top is
-- below the latest time in the pages before it, or all where there is no such page.
pub record LooksInto {P : Type 0} (top_of : P → Time) (latest_in : List P → Time) (pages : List P)
    (count : ℕ) : Type 0 where
  pub into : List P
  pub past : List P
  pub parts : pages ≡ into ++ past
  pub looked : count ≡ length into
  pub goes_on : (newer : List P) (page : P) (others : List P) → into ≡ newer ++ page ∷ others →
      is_before (top_of page) (latest_in newer) ≡ false
  pub stops : (page : P) (others : List P) → past ≡ page ∷ others →
      is_before (top_of page) (latest_in into) ≡ true

-- how many pages of a state a lookup looks into
abbrev pub LooksIntoPages : SpanView → List PageMarks → ℕ → Type 0
LooksIntoPages span pages count = LooksInto top (latest_on span) pages count
