-- The verdict on a log: three tests, and the least line that fails the first of them that a line
-- fails.
use Rattle.std.specs.Prelude.{ℕ, zero, suc, max, ◌==◌, ◌&&◌, ◌||◌, not, nat_lt, List, [], ◌∷◌, ◌++◌, length, take, count_by, slice_get, Bool, true, false, Option, Some, None, is_some, if◌then◌else◌}
use Rattle.std.specs.List.{list_any}
use Rattle.tsc_time.specs.Time.{is_same_time}
use Rattle.tsc_time.specs.ValueView.{ValueView, is_same_owner}
use Rattle.tsc_cache.specs.History.{History}
use Rattle.tsc_cache.specs.declared.added.Added.{Added}
use Rattle.tsc_trace_format.specs.Calls.{kind_of, is_same_kind}
use Rattle.tsc_trace_format.specs.declared.trace.Call.{Call}
use Rattle.tsc_trace_format.specs.Traces.{Trace}
use Rattle.tsc_trace.specs.CallAnswers.{kind_of_answer, outcome_of, front_of}
use Rattle.tsc_trace.specs.Log.{said_after, after_call}
use Rattle.tsc_trace.specs.declared.log.Line.{Line}
use Rattle.tsc_trace.specs.declared.log.CallAnswer.{CallAnswer}
use Rattle.tsc_trace.specs.declared.log.CallAnswer.TheVariants as said
use Rattle.tsc_check.specs.declared.verdict.Verdict.{Verdict}
use Rattle.tsc_check.specs.declared.verdict.Verdict.TheVariants.{Right, WrongCall, WrongPlace, WrongAnswer}

-- ---- the calls of a trace in list order

-- a call, with the number of its list and its index there
pub record PlacedCall : Type 0 where
  pub thread : ℕ
  pub index : ℕ
  pub call : Call

-- the calls of one list, from an index on
abbrev pub calls_of_list : ℕ → ℕ → List Call → List PlacedCall
calls_of_list thread index [] = []
calls_of_list thread index (call ∷ calls) = record { thread = thread; index = index; call = call } ∷
    calls_of_list thread (suc index) calls

-- the calls of lists, from the list with this number on
abbrev pub calls_of_lists : ℕ → List (List Call) → List PlacedCall
calls_of_lists thread [] = []
calls_of_lists thread (calls ∷ lists) =
    calls_of_list thread 0 calls ++ calls_of_lists (suc thread) lists

abbrev pub calls_of : Trace → List PlacedCall
calls_of trace = calls_of_lists 0 trace.threads

-- ---- the first test: each line is that of its call

-- whether an answer is of the kind of a call
abbrev pub is_of_kind : Call → CallAnswer → Bool
is_of_kind call s = is_same_kind (kind_of call) (kind_of_answer s)

-- whether a line has the list, the index and the kind of a call
abbrev pub is_line_of : PlacedCall → Line → Bool
is_line_of c line = (line.thread == c.thread) && (line.index == c.index) &&
    is_of_kind c.call line.said

-- whether just one of the two is there, or both are and the line is not that of the call
abbrev pub is_wrong_pair : Option PlacedCall → Option Line → Bool
is_wrong_pair None None = false
is_wrong_pair None (Some line) = true
is_wrong_pair (Some c) None = true
is_wrong_pair (Some c) (Some line) = not (is_line_of c line)

-- whether the line with this number, from 0, fails the first test
abbrev pub is_wrong_call : List PlacedCall → List Line → ℕ → Bool
is_wrong_call calls lines i = is_wrong_pair (slice_get calls i) (slice_get lines i)

-- ---- the second test: places and fronts

-- whether an answer is that of an Add
abbrev pub is_add : CallAnswer → Bool
is_add s = is_some (outcome_of s)

-- whether it is that of an Add at this place
abbrev pub is_add_at : ℕ → CallAnswer → Bool
is_add_at p s = is_add s && (front_of s == p)

-- how many Adds a caller knows of who has had an answer: those before, and its own
abbrev pub reach : CallAnswer → ℕ
reach s = if is_add s then suc (front_of s) else front_of s

-- how many Adds there are in lines
abbrev pub adds_in : List Line → ℕ
adds_in lines = count_by (λ line. is_add line.said) lines

-- whether one of the lines is that of an Add at this place
abbrev pub has_add_at : ℕ → List Line → Bool
has_add_at p lines = list_any (λ line. is_add_at p line.said) lines

-- whether one of the lines of a list reaches above a count
abbrev pub reaches_above : ℕ → ℕ → List Line → Bool
reaches_above thread n lines = list_any
    (λ line. (line.thread == thread) && nat_lt n (reach line.said)) lines

-- Whether the place or the front of an answer is wrong, after these lines, where there are n Adds
-- in all: it reaches more than all, or its place is taken, or its list knew of more before.
abbrev pub is_misplaced : ℕ → List Line → ℕ → CallAnswer → Bool
is_misplaced n earlier thread s = nat_lt n (reach s) ||
    (is_add s && has_add_at (front_of s) earlier) || reaches_above thread (front_of s) earlier

abbrev pub is_misplaced_line : ℕ → List Line → Option Line → Bool
is_misplaced_line n earlier None = false
is_misplaced_line n earlier (Some line) = is_misplaced n earlier line.thread line.said

-- whether the line with this number, from 0, fails the second test
abbrev pub is_wrong_place : List Line → ℕ → Bool
is_wrong_place lines i = is_misplaced_line (adds_in lines) (take i lines) (slice_get lines i)

-- ---- the third test: answers

-- a history, and behind it the Adds whose lines have this place
abbrev pub with_adds_at : ℕ → List PlacedCall → List Line → History → History
with_adds_at p [] lines h = h
with_adds_at p (c ∷ calls) [] h = h
with_adds_at p (c ∷ calls) (line ∷ lines) h =
    with_adds_at p calls lines (if is_add_at p line.said then after_call c.thread h c.call else h)

-- the Adds whose places are below a number, in the order of their places
abbrev pub first_adds : List PlacedCall → List Line → ℕ → History
first_adds calls lines zero = []
first_adds calls lines (suc p) = with_adds_at p calls lines (first_adds calls lines p)

abbrev pub is_same_bit : Bool → Bool → Bool
is_same_bit a b = if a then b else not b

abbrev pub is_same_added : Added → Added → Bool
is_same_added a b = is_same_bit a.kept b.kept && is_same_bit a.rotated b.rotated &&
    (a.evicted == b.evicted)

abbrev pub is_same_value : ValueView → ValueView → Bool
is_same_value a b = is_same_time a.time b.time && is_same_owner a.owner b.owner

-- whether two answers are equal but for their places and fronts
abbrev pub is_same_answer : CallAnswer → CallAnswer → Bool
is_same_answer (said.Add p a) (said.Add q b) = is_same_added a b
is_same_answer (said.Batch p a) (said.Batch q b) = is_same_added a b
is_same_answer (said.Get f v) (said.Get g w) = is_same_value v w
is_same_answer (said.Low f t) (said.Low g u) = is_same_time t u
is_same_answer a b = false

-- whether a line doesn't say what its call answers after as many of the Adds as its place or its
-- front tells
abbrev pub is_untrue_pair : Trace → List Line → Option PlacedCall → Option Line → Bool
is_untrue_pair trace lines None line = false
is_untrue_pair trace lines (Some c) None = false
is_untrue_pair trace lines (Some c) (Some line) =
    not (is_same_answer line.said (said_after trace.config
    (first_adds (calls_of trace) lines (front_of line.said)) c.call))

-- whether the line with this number, from 0, fails the third test
abbrev pub is_wrong_answer : Trace → List Line → ℕ → Bool
is_wrong_answer trace lines i = is_untrue_pair trace lines (slice_get (calls_of trace) i)
    (slice_get lines i)

-- ---- the verdict

abbrev pub or_this : (ℕ → Bool) → ℕ → Option ℕ → Option ℕ
or_this test n None = if test n then Some n else None
or_this test n (Some i) = Some i

-- the least number below a bound at which a test gives true
abbrev pub least : (ℕ → Bool) → ℕ → Option ℕ
least test zero = None
least test (suc n) = or_this test n (least test n)

-- a line named by its number from 1, or else what follows
abbrev pub named_or : (ℕ → Verdict) → Option ℕ → Verdict → Verdict
named_or wrong None verdict = verdict
named_or wrong (Some i) verdict = wrong (suc i)

-- the verdict on the lines of a log
abbrev pub verdict_of : Trace → List Line → Verdict
verdict_of trace lines =
    named_or WrongCall (least (is_wrong_call (calls_of trace) lines)
    (max (length (calls_of trace)) (length lines)))
    (named_or WrongPlace (least (is_wrong_place lines) (length lines))
    (named_or WrongAnswer (least (is_wrong_answer trace lines) (length lines)) Right))
