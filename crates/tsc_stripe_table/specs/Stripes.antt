-- Which keys a stripe has, and what of a history lies there.
use Rattle.std.specs.Prelude.{ℕ, zero, suc, ◌≡◌, List, [], ◌∷◌, length, Option, Some, None}
use Rattle.std.specs.Prelude.{if◌then◌else◌, slice_get}
use Rattle.std.specs.List.{flat_map}
use Rattle.tsc_span.specs.Span.{KeyBytes, Cut, before, last, is_below, greater_cut, smaller_cut}
use Rattle.tsc_span.specs.Span.{SpanView, nothing, between}
use Rattle.tsc_page_model.specs.Page.{Mark}
use Rattle.tsc_cache.specs.ConfigView.{ConfigView}
use Rattle.tsc_cache.specs.State.{CacheState}
use Rattle.tsc_cache.specs.CacheView.{CacheView, RepresentsState}
use Rattle.tsc_cache.specs.declared.history.Entry.{Entry}
use Rattle.tsc_cache.specs.History.{History, state_of}

-- how each stripe is set up, how many seats there are, and where the stripes begin after the first
pub record Terms : Type 0 where
  pub config : ConfigView
  pub seats : ℕ
  pub bounds : List KeyBytes

-- how many stripes there are
abbrev pub stripe_count : List KeyBytes → ℕ
stripe_count bounds = suc (length bounds)

-- the place before a bound; where there is none, the place above all keys
abbrev pub at_bound : Option KeyBytes → Cut
at_bound None = last
at_bound (Some k) = before k

-- where a stripe starts: the first one before all keys, and one that there is not above them
abbrev pub stripe_start : List KeyBytes → ℕ → Cut
stripe_start bounds zero = before []
stripe_start bounds (suc i) = at_bound (slice_get bounds i)

-- where a stripe stops: the last one above all keys
abbrev pub stripe_end : List KeyBytes → ℕ → Cut
stripe_end bounds i = at_bound (slice_get bounds i)

-- what lies of a span between two cuts
abbrev pub piece_between : Cut → Cut → SpanView → SpanView
piece_between start end nothing = nothing
piece_between start end (between from to) =
    if is_below (greater_cut from start) (smaller_cut to end)
    then between (greater_cut from start) (smaller_cut to end) else nothing

-- what lies of a span in a stripe
abbrev pub piece_of : List KeyBytes → ℕ → SpanView → SpanView
piece_of bounds i span = piece_between (stripe_start bounds i) (stripe_end bounds i) span

-- a mark on a span, unless that is the empty one
abbrev pub mark_on : SpanView → Mark → List Mark
mark_on nothing m = []
mark_on (between from to) m = record { span = between from to; value = m.value } ∷ []

-- what lies of marks in a stripe, each cut to it, and without those of which nothing lies there
abbrev pub marks_in : List KeyBytes → ℕ → List Mark → List Mark
marks_in bounds i ms = flat_map (λ m. mark_on (piece_of bounds i m.span) m) ms

-- an entry with these marks, unless there are none
abbrev pub entry_with : Entry → List Mark → History
entry_with e [] = []
entry_with e (m ∷ ms) = record e { marks = m ∷ ms } ∷ []

-- what lies of an entry in a stripe
unfoldable pub entry_in : List KeyBytes → ℕ → Entry → History
entry_in bounds i e = entry_with e (marks_in bounds i e.marks)

-- The part of a history on a stripe: each entry with its marks cut to the stripe, and without those
-- that then have none.
abbrev pub part_of : List KeyBytes → ℕ → History → History
part_of bounds i h = flat_map (entry_in bounds i) h

-- the state that a history leaves on a stripe
abbrev pub state_on : Terms → ℕ → History → CacheState
state_on terms i h = state_of terms.config (part_of terms.bounds i h)

-- a cache stands for the state that a history leaves on a stripe
abbrev pub IsStateOn : Terms → ℕ → History → CacheView → Type 0
IsStateOn terms i h cache = RepresentsState cache terms.config (state_on terms i h)
