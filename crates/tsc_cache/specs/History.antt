-- Histories of Adds, and the state that one leaves.
use Rattle.std.specs.Prelude.{◌≡◌, ℕ, ◌<◌, List, [], ◌∷◌, ◌++◌, All, true, count_by, ◌==◌}
use Rattle.std.specs.List.{flat_map}
use Rattle.tsc_time.specs.Time.{Time, is_in_range}
use Rattle.tsc_time.specs.ValueView.{ValueView, IsMadeValue}
use Rattle.tsc_span.specs.Span.{SpanView}
use Rattle.tsc_span.specs.MadeSpan.{IsMadeSpan}
use Rattle.tsc_page_model.specs.Page.{Mark, values_on}
use Rattle.tsc_cache.specs.ConfigView.{ConfigView, fits}
use Rattle.tsc_cache.specs.State.{CacheState, opening, step_all}
pub use Rattle.tsc_cache.specs.declared.history.Entry.{Entry}

-- the entry of an Add of one mark
abbrev pub entry_of_mark : ℕ → ℕ → Mark → Time → Entry
entry_of_mark seat number m now = record { seat = seat; number = number; marks = m ∷ []; now = now }

-- Adds in their order, the first of them first
abbrev pub History : Type 0
History = List Entry

-- how many entries a seat has
abbrev pub own_count : ℕ → History → ℕ
own_count seat h = count_by (λ e. e.seat == seat) h

-- the state that entries make of a state, one after another
abbrev pub state_from : ConfigView → CacheState → History → CacheState
state_from config s [] = s
state_from config s (e ∷ h) = state_from config (step_all config s e.marks e.now).state h

-- the state that a history leaves
abbrev pub state_of : ConfigView → History → CacheState
state_of config h = state_from config (opening config) h

-- the marks of entries, those of the first one first
abbrev pub marks_of : History → List Mark
marks_of h = flat_map (λ e. e.marks) h

-- the values of a history's marks that overlap a span
abbrev pub marks_on : SpanView → History → List ValueView
marks_on span h = values_on span (marks_of h)

-- a history begins with another where that one is a first part of it
abbrev pub BeginsWith : History → History → Type 0
BeginsWith h start = (rest : History) × (h ≡ start ++ rest)

-- A mark that a caller can make: its span and its value are such as the constructors give, and the
-- span fits a page.
pub record IsMadeMark (config : ConfigView) (m : Mark) : Type 0 where
  pub span : IsMadeSpan m.span
  pub value : IsMadeValue m.value
  pub fits : fits config m.span ≡ true

-- An entry that a caller can make: each of its marks is one that can be made, and its moment is in
-- range.
pub record IsMadeEntry (config : ConfigView) (e : Entry) : Type 0 where
  pub marks : All (λ m. IsMadeMark config m) e.marks
  pub moment : is_in_range e.now ≡ true

-- The entry of this mark can be made, whatever its seat and its number.
abbrev pub CanBeAdded : ConfigView → Mark → Time → Type 0
CanBeAdded config m now = (seat number : ℕ) →
    IsMadeEntry config (entry_of_mark seat number m now)

-- The entry of these marks can be made, whatever its seat and its number.
abbrev pub CanAllBeAdded : ConfigView → List Mark → Time → Type 0
CanAllBeAdded config ms now = (seat number : ℕ) →
    IsMadeEntry config (record { seat = seat; number = number; marks = ms; now = now })

-- The next entry of a seat after a history. Its seat is below the number of seats, and its number
-- is how many entries of that seat stand before it. A caller can make the entry.
pub record IsNext (config : ConfigView) (seats : ℕ) (h : History) (e : Entry) : Type 0 where
  pub seat : e.seat < seats
  pub number : e.number ≡ own_count e.seat h
  pub made : IsMadeEntry config e

-- A history is legal under some settings for a number of seats where each of its entries is the
-- next one after those before it.
abbrev pub IsLegal : ConfigView → ℕ → History → Type 0
IsLegal config seats h = (before : History) (e : Entry) → BeginsWith h (before ++ e ∷ []) →
    IsNext config seats before e
