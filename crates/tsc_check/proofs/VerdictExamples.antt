-- Verdicts on small logs: two Adds in two lists and a lookup in a third, a list that looks up after
-- its own Add, and a batch.
use Rattle.std.specs.Prelude.{◌≡◌, ℕ, List, [], ◌∷◌, true, false, codes, refl}
use Rattle.tsc_time.specs.ValueView.{unowned}
use Rattle.tsc_span.specs.Span.{point}
use Rattle.tsc_cache.proofs.ExampleConfig.{at, of_first, of_second, usual, twenty, added}
use Rattle.tsc_trace_format.specs.declared.trace.Call.TheVariants.{Add, Batch, Get}
use Rattle.tsc_trace_format.specs.Traces.{Trace}
use Rattle.tsc_trace.specs.declared.log.Line.{Line}
use Rattle.tsc_trace.specs.declared.log.CallAnswer.{CallAnswer}
use Rattle.tsc_trace.specs.declared.log.CallAnswer.TheVariants as said
use Rattle.tsc_check.specs.Verdict.{verdict_of}
use Rattle.tsc_check.specs.declared.verdict.Verdict.TheVariants.{Right, WrongCall, WrongPlace, WrongAnswer}

abbrev pub line : ℕ → ℕ → CallAnswer → Line
line thread index answer = record { thread = thread; index = index; said = answer }

-- ---- three lists

abbrev pub three_lists : Trace
three_lists = record {
  config = usual;
  threads = (Add (point (codes "a")) (of_first twenty) twenty ∷ [])
      ∷ (Add (point (codes "a")) (of_second (at 30 0)) twenty ∷ [])
      ∷ (Get (point (codes "a")) ∷ [])
      ∷ [];
}

-- a log whose lookup found the Add of the first list, with these places and this front
abbrev pub log_with : ℕ → ℕ → ℕ → List Line
log_with first second front =
    line 0 0 (said.Add first (added true false 0))
    ∷ line 1 0 (said.Add second (added true false 0))
    ∷ line 2 0 (said.Get front (of_first twenty))
    ∷ []

pub a_lookup_may_miss_an_add_of_another_list : verdict_of three_lists (log_with 0 1 1) ≡ Right
a_lookup_may_miss_an_add_of_another_list = refl

pub after_the_other_add_alone_the_answer_is_another : verdict_of three_lists (log_with 1 0 1) ≡
    WrongAnswer 3
after_the_other_add_alone_the_answer_is_another = refl

pub no_two_adds_have_one_place : verdict_of three_lists (log_with 0 0 1) ≡ WrongPlace 2
no_two_adds_have_one_place = refl

pub a_front_is_no_more_than_all_adds : verdict_of three_lists (log_with 0 1 3) ≡ WrongPlace 3
a_front_is_no_more_than_all_adds = refl

pub a_place_is_below_the_number_of_adds : verdict_of three_lists (log_with 0 2 1) ≡ WrongPlace 2
a_place_is_below_the_number_of_adds = refl

pub each_call_has_a_line :
    verdict_of three_lists (line 0 0 (said.Add 0 (added true false 0)) ∷
    line 1 0 (said.Add 1 (added true false 0)) ∷ [])
    ≡ WrongCall 3
each_call_has_a_line = refl

pub each_line_has_a_call :
    verdict_of (record { config = usual; threads = [] ∷ [] }) (line 0 0 (said.Low 0 (at 5 0)) ∷ [])
    ≡ WrongCall 1
each_line_has_a_call = refl

pub no_lines_of_no_calls : verdict_of (record { config = usual; threads = [] ∷ [] }) [] ≡ Right
no_lines_of_no_calls = refl

-- two Adds that are right, and the third line
abbrev pub third_line : Line → List Line
third_line third = line 0 0 (said.Add 0 (added true false 0)) ∷
    line 1 0 (said.Add 1 (added true false 0)) ∷ third ∷ []

pub an_add_that_was_kept_says_so :
    verdict_of three_lists (line 0 0 (said.Add 0 (added false false 0)) ∷
    line 1 0 (said.Add 1 (added true false 0)) ∷ line 2 0 (said.Get 1 (of_first twenty)) ∷ [])
    ≡ WrongAnswer 1
an_add_that_was_kept_says_so = refl

pub after_both_adds_the_answer_is_another : verdict_of three_lists (log_with 0 1 2) ≡ WrongAnswer 3
after_both_adds_the_answer_is_another = refl

pub an_owner_is_not_dropped : verdict_of three_lists
    (third_line (line 2 0 (said.Get 1 (unowned twenty)))) ≡ WrongAnswer 3
an_owner_is_not_dropped = refl

pub a_lookup_may_come_before_all_adds : verdict_of three_lists
    (third_line (line 2 0 (said.Get 0 (unowned (at 5 0))))) ≡ Right
a_lookup_may_come_before_all_adds = refl

pub a_line_is_of_the_kind_of_its_call : verdict_of three_lists
    (third_line (line 2 0 (said.Low 1 (at 5 0)))) ≡ WrongCall 3
a_line_is_of_the_kind_of_its_call = refl

pub there_is_no_fourth_call :
    verdict_of three_lists (line 0 0 (said.Add 0 (added true false 0)) ∷
    line 1 0 (said.Add 1 (added true false 0)) ∷ line 2 0 (said.Get 1 (of_first twenty)) ∷
    line 2 1 (said.Low 2 (at 5 0)) ∷ [])
    ≡ WrongCall 4
there_is_no_fourth_call = refl

pub lines_come_list_by_list :
    verdict_of three_lists (line 1 0 (said.Add 1 (added true false 0)) ∷
    line 0 0 (said.Add 0 (added true false 0)) ∷ line 2 0 (said.Get 1 (of_first twenty)) ∷ [])
    ≡ WrongCall 1
lines_come_list_by_list = refl

-- ---- one list

abbrev pub one_list : Trace
one_list = record {
  config = usual;
  threads = (Add (point (codes "a")) (of_first twenty) twenty ∷ Get (point (codes "a")) ∷ []) ∷ [];
}

pub a_list_has_seen_its_own_add :
    verdict_of one_list (line 0 0 (said.Add 0 (added true false 0)) ∷
    line 0 1 (said.Get 0 (unowned (at 5 0))) ∷ [])
    ≡ WrongPlace 2
a_list_has_seen_its_own_add = refl

pub a_list_finds_its_own_add :
    verdict_of one_list (line 0 0 (said.Add 0 (added true false 0)) ∷
    line 0 1 (said.Get 1 (of_first twenty)) ∷ [])
    ≡ Right
a_list_finds_its_own_add = refl

-- ---- a batch

-- a batch of two points, and a lookup of the first in another list
abbrev pub batch_and_get : Trace
batch_and_get = record {
  config = usual;
  threads = (Batch (record { span = point (codes "a"); value = of_first twenty } ∷
      record { span = point (codes "a"); value = of_second (at 30 0) } ∷ []) twenty ∷ [])
      ∷ (Get (point (codes "a")) ∷ [])
      ∷ [];
}

pub a_batch_is_seen_whole :
    verdict_of batch_and_get (line 0 0 (said.Batch 0 (added true false 0)) ∷
    line 1 0 (said.Get 1 (of_second (at 30 0))) ∷ [])
    ≡ Right
a_batch_is_seen_whole = refl

pub no_part_of_a_batch_is_seen :
    verdict_of batch_and_get (line 0 0 (said.Batch 0 (added true false 0)) ∷
    line 1 0 (said.Get 1 (of_first twenty)) ∷ [])
    ≡ WrongAnswer 2
no_part_of_a_batch_is_seen = refl

pub a_batch_is_no_add :
    verdict_of batch_and_get (line 0 0 (said.Add 0 (added true false 0)) ∷
    line 1 0 (said.Get 1 (of_second (at 30 0))) ∷ [])
    ≡ WrongCall 1
a_batch_is_no_add = refl
