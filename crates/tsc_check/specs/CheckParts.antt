-- What the parts of a check keep: which line is the next to test, and where the lines stand in the
-- order of the Adds.
use Rattle.std.specs.Prelude.{◌≡◌, ◌⊎◌, ℕ, zero, suc, ◌==◌, ◌<◌, ◌≤◌, ◌&&◌, not, nat_lt, List, [], ◌∷◌, length, take, get_or, slice_get, Bool, true, false, Option, Some, None, if◌then◌else◌}
use Rattle.tsc_trace.specs.declared.log.Line.{Line}
use Rattle.tsc_trace.specs.declared.log.CallAnswer.{CallAnswer}
use Rattle.tsc_trace.specs.CallAnswers.{front_of}
use Rattle.tsc_cache.specs.State.{CacheState}
use Rattle.tsc_cache.specs.History.{state_of}
use Rattle.tsc_cache.specs.CacheView.{CacheView, RepresentsState}
use Rattle.tsc_trace_format.specs.declared.trace.Call.{Call}
use Rattle.tsc_trace_format.specs.Traces.{Trace}
use Rattle.tsc_check.specs.Verdict.{PlacedCall, calls_of, is_line_of, is_add, is_add_at, adds_in, reaches_above, is_wrong_place, least, first_adds}
use Rattle.tsc_check.specs.declared.order.Order.{Order}

-- the first line that is not that of its call, where the first of these has this number
abbrev pub first_other : ℕ → List PlacedCall → List Line → Option ℕ
first_other i [] [] = None
first_other i [] (line ∷ lines) = Some i
first_other i (c ∷ calls) [] = Some i
first_other i (c ∷ calls) (line ∷ lines) =
    if is_line_of c line then first_other (suc i) calls lines else Some i

-- the greatest number below a bound at which a test gives true
abbrev pub last_below : (ℕ → Bool) → ℕ → Option ℕ
last_below test zero = None
last_below test (suc n) = if test n then Some n else last_below test n

abbrev pub holds_at : (Line → Bool) → Option Line → Bool
holds_at test None = false
holds_at test (Some line) = test line

-- whether an answer is that of a lookup with this front
abbrev pub is_lookup_at : ℕ → CallAnswer → Bool
is_lookup_at f s = not (is_add s) && (front_of s == f)

-- whether a line, by its number, is that of an Add at this place, or of a lookup with this front
abbrev pub adds_there : List Line → ℕ → ℕ → Bool
adds_there lines p j = holds_at (λ line. is_add_at p line.said) (slice_get lines j)

abbrev pub looks_up_there : List Line → ℕ → ℕ → Bool
looks_up_there lines f j = holds_at (λ line. is_lookup_at f line.said) (slice_get lines j)

-- Each line is of one of the lists, of which there are `lists`.
abbrev pub AreOfLists : ℕ → List Line → Type 0
AreOfLists lists lines = (j : ℕ) (line : Line) → slice_get lines j ≡ Some line → line.thread < lists

-- The first i lines are in these slots. There is a slot for each place and front up to the number
-- of Adds, and a number for each list.
pub record ArePlaced (adds lookups earlier : List (Option ℕ)) (reached : List ℕ) (lines : List Line)
    (i : ℕ) : Type 0 where
  pub add_slots : length adds ≡ suc (adds_in lines)
  pub lookup_slots : length lookups ≡ suc (adds_in lines)
  pub count : length earlier ≡ i
  pub of_lists : AreOfLists (length reached) lines
  pub adds_at : (p : ℕ) (d : Option ℕ) → p ≤ adds_in lines →
      get_or adds p d ≡ last_below (adds_there lines p) i
  pub lookups_at : (f : ℕ) (d : Option ℕ) → f ≤ adds_in lines →
      get_or lookups f d ≡ last_below (looks_up_there lines f) i
  pub earlier_at : (j : ℕ) (line : Line) (d : Option ℕ) → j < i → slice_get lines j ≡ Some line →
      get_or earlier j d ≡ last_below (looks_up_there lines (front_of line.said)) j
  pub reached_at : (t n d : ℕ) → t < length reached →
      reaches_above t n (take i lines) ≡ nat_lt n (get_or reached t d)

abbrev pub HasPlaced : Order → List Line → ℕ → Type 0
HasPlaced o lines i = ArePlaced o.adds.items o.lookups.items o.earlier.items o.reached.items lines i

-- The lines fail neither of the first two tests.
pub record AreInOrder (trace : Trace) (lines : List Line) : Type 0 where
  pub calls : first_other 0 (calls_of trace) lines ≡ None
  pub places : least (is_wrong_place lines) (length lines) ≡ None

-- the call with an index in the list with a number
abbrev pub call_in : Option (List Call) → ℕ → Option Call
call_in None index = None
call_in (Some calls) index = slice_get calls index

-- the state after the first `front` Adds
abbrev pub state_at : Trace → List Line → ℕ → CacheState
state_at trace lines front = state_of trace.config (first_adds (calls_of trace) lines front)

-- A cache has made the first `front` Adds of a log.
abbrev pub HasAdded : CacheView → Trace → List Line → ℕ → Type 0
HasAdded cache trace lines front = RepresentsState cache trace.config (state_at trace lines front)

-- whether the place or the front of a line, by its number, is below a bound
abbrev pub is_before_front : List Line → ℕ → ℕ → Bool
is_before_front lines f j = holds_at (λ line. nat_lt (front_of line.said) f) (slice_get lines j)

-- A number becomes lower where a test gives true, and is at most each number that was seen at which
-- it does.
pub record Lowers (test seen : ℕ → Bool) (old new : ℕ) : Type 0 where
  pub less : new ≤ old
  pub found : (new ≡ old) ⊎ (test new ≡ true)
  pub lowest : (j : ℕ) → seen j ≡ true → test j ≡ true → new ≤ j

-- A number becomes lower, or stays, by one line: it is at most the number of the line where the
-- test gives true at that.
pub record LowersAt (test : ℕ → Bool) (i old new : ℕ) : Type 0 where
  pub less : new ≤ old
  pub found : (new ≡ old) ⊎ ((new ≡ i) × (test i ≡ true))
  pub lowest : test i ≡ true → new ≤ i
