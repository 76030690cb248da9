-- What the examples share: their settings, two transactions, and short words for times, values,
-- spans and histories.
use Rattle.std.specs.Prelude.{ℕ, suc, List, [], ◌∷◌, map, Bool, true, false, Some}
use Rattle.tsc_time.specs.Time.{Time}
use Rattle.tsc_time.specs.ValueView.{Owner, ValueView}
use Rattle.tsc_span.specs.Span.{KeyBytes, SpanView, from_to, point}
use Rattle.tsc_page_model.specs.Page.{Mark, PageMarks}
use Rattle.tsc_cache.specs.declared.added.Added.{Added}
use Rattle.tsc_cache.specs.ConfigView.{ConfigView}
use Rattle.tsc_cache.specs.State.{CacheState, step_all, opening}
use Rattle.tsc_cache.specs.History.{History, entry_of_mark, state_of}

-- ---- times and values

abbrev pub at : ℕ → ℕ → Time
at wall logical = record { wall = wall; logical = logical }

-- 11111111-1111-4111-8111-111111111111
abbrev pub first : Owner
first = 17 ∷ 17 ∷ 17 ∷ 17 ∷ 17 ∷ 17 ∷ 65 ∷ 17 ∷ 129 ∷ 17 ∷ 17 ∷ 17 ∷ 17 ∷ 17 ∷ 17 ∷ 17 ∷ []

-- 22222222-2222-4222-8222-222222222222
abbrev pub second : Owner
second = 34 ∷ 34 ∷ 34 ∷ 34 ∷ 34 ∷ 34 ∷ 66 ∷ 34 ∷ 130 ∷ 34 ∷ 34 ∷ 34 ∷ 34 ∷ 34 ∷ 34 ∷ 34 ∷ []

-- a time that a transaction owns
abbrev pub of_first : Time → ValueView
of_first t = record { time = t; owner = Some first }

abbrev pub of_second : Time → ValueView
of_second t = record { time = t; owner = Some second }

-- ---- settings

-- pages of four keys of one byte, of which two are kept at the least
abbrev pub usual : ConfigView
usual = record {
  page_first = 132;
  page_max = 132;
  min_pages = 2;
  retention = 10;
  low_water = at 5 0;
}

-- pages of two keys of one byte, of which one is kept at the least
abbrev pub tight : ConfigView
tight = record { page_first = 66; page_max = 66; min_pages = 1; retention = 10; low_water = at 5 0 }

-- the time of most Adds, and the moment at which they are made
abbrev pub twenty : Time
twenty = at 20 0

-- ---- spans

-- `[k,m)`, `(k,m)` and `[k,m]`
abbrev pub without_end : KeyBytes → KeyBytes → SpanView
without_end k m = from_to k m false true

abbrev pub without_ends : KeyBytes → KeyBytes → SpanView
without_ends k m = from_to k m true true

abbrev pub with_ends : KeyBytes → KeyBytes → SpanView
with_ends k m = from_to k m false false

-- ---- pages

abbrev pub mark : SpanView → ValueView → Mark
mark span value = record { span = span; value = value }

-- marks of one value at single keys of one byte
abbrev pub marks_at : List ℕ → ValueView → List Mark
marks_at letters value = map (λ b. mark (point (b ∷ [])) value) letters

-- a page of four such keys
abbrev pub page : Time → List Mark → PageMarks
page base marks = record { size = 132; base = base; marks = marks }

-- and one of two
abbrev pub small_page : Time → List Mark → PageMarks
small_page base marks = record { size = 66; base = base; marks = marks }

-- ---- histories

-- an Add of an example: what is added, at which moment
abbrev pub Addition : Type 0
Addition = Mark × Time

abbrev pub add : SpanView → ValueView → Time → Addition
add span value now = (mark span value, now)

-- Adds of one value at single keys of one byte
abbrev pub add_points : List ℕ → ValueView → Time → List Addition
add_points letters value now = map (λ m. (m, now)) (marks_at letters value)

-- as Adds of one seat, numbered from a number on
abbrev pub numbered : ℕ → List Addition → History
numbered n [] = []
numbered n (x ∷ xs) = entry_of_mark 0 n x.0 x.1 ∷ numbered (suc n) xs

abbrev pub history : List Addition → History
history adds = numbered 0 adds

-- the state that Adds leave of a new cache
abbrev pub state_after : ConfigView → List Addition → CacheState
state_after config adds = state_of config (history adds)

-- what the entries of a history answer, one after another
abbrev pub answers_from : ConfigView → CacheState → History → List Added
answers_from config s [] = []
answers_from config s (e ∷ h) =
    (step_all config s e.marks e.now).added ∷
    answers_from config (step_all config s e.marks e.now).state h

-- what Adds to a new cache answer
abbrev pub answers : ConfigView → List Addition → List Added
answers config adds = answers_from config (opening config) (history adds)

-- an answer: whether the Add was kept, whether the pages rotated, and how many of them were dropped
abbrev pub added : Bool → Bool → ℕ → Added
added kept rotated evicted = record { kept = kept; rotated = rotated; evicted = evicted }
