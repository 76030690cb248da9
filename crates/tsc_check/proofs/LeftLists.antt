-- The first other line, list by list.
use Rattle.std.proofs.Common.{◌≡◌, ◌∙◌, sym, ap, refl, ℕ, suc, ◌+◌, ◌<◌, ◌≤◌, List, [], ◌∷◌, ◌++◌, length, drop, drop-cons, drop_of_length-le, length-append, max, Option, Some, None, add-one, true, arith}
use Rattle.std.specs.Prelude.{slice_get}
use Rattle.std.specs.List.{sum_by}
use Rattle.std.proofs.lemmas.List.Sums.{sum_by-cons}
use Rattle.std.proofs.lemmas.Option.{slice_get_within, get_or_from_slice_get}
use Rattle.tsc_trace_format.specs.Limits.{most_calls}
use Rattle.tsc_trace_format.specs.Lists.{fits_trace}
use Rattle.tsc_trace_format.proofs.Totals.{total_calls}
use Rattle.tsc_trace_format.specs.declared.trace.Call.{Call}
use Rattle.tsc_trace.proofs.ListSteps.{left_from}
use Rattle.tsc_trace.specs.declared.log.Line.{Line}
use Rattle.tsc_check.specs.Verdict.{calls_of_list, calls_of_lists}
use Rattle.tsc_check.specs.CheckParts.{first_other}
use Rattle.tsc_check.proofs.FirstOther.{as_many, first_below}

-- with the next list
pub next_list : (lists : List (List Call)) (thread from : ℕ) (calls : List Call) (lines : List Line)
    (whole : Option ℕ) → slice_get lists thread ≡ Some calls →
    whole ≡ first_other from (calls_of_lists thread (drop thread lists)) (drop from lines)
    → whole ≡ first_other from (calls_of_list thread 0 calls ++
    calls_of_lists (thread + 1) (drop (thread + 1) lists)) (drop from lines)
next_list lists thread from calls lines whole at reported =
    reported ∙ ap (λ ls. first_other from (calls_of_lists thread ls) (drop from lines))
    (left_from lists thread calls at)
    ∙ ap (λ n. first_other from (calls_of_list thread 0 calls ++
    calls_of_lists n (drop (thread + 1) lists)) (drop from lines)) (sym (add-one thread))

-- where no list is left
pub no_list_left : (lists : List (List Call)) (thread from : ℕ) (lines : List Line)
    (whole : Option ℕ) → length lists ≤ thread →
    whole ≡ first_other from (calls_of_lists thread (drop thread lists)) (drop from lines) →
    whole ≡ first_other from [] (drop from lines)
no_list_left lists thread from lines whole end reported =
    reported ∙ ap (λ ls. first_other from (calls_of_lists thread ls) (drop from lines))
    (drop_of_length-le lists end)

pub some_line_left : (lines : List Line) (from : ℕ) (whole : Option ℕ) → from < length lines →
    whole ≡ first_other from [] (drop from lines) → Some from ≡ whole
some_line_left [] from whole more reported = absurd (omega (arith, more))
some_line_left (l ∷ lines) from whole more reported =
    sym (reported ∙ ap (first_other from []) (drop-cons (l ∷ lines) from l more))

pub no_line_left : (lines : List Line) (from : ℕ) (whole : Option ℕ) → length lines ≤ from →
    whole ≡ first_other from [] (drop from lines) → whole ≡ None
no_line_left lines from whole end reported =
    reported ∙ ap (first_other from []) (drop_of_length-le lines end)

calls_in_list : (thread index : ℕ) (calls : List Call) →
    length (calls_of_list thread index calls) ≡ length calls
calls_in_list thread index [] = refl
calls_in_list thread index (call ∷ calls) = ap suc (calls_in_list thread (suc index) calls)

calls_in_lists : (thread : ℕ) (lists : List (List Call)) →
    length (calls_of_lists thread lists) ≡ sum_by length lists
calls_in_lists thread [] = refl
calls_in_lists thread (calls ∷ lists) =
    omega (
      arith,
      length-append (calls_of_list thread 0 calls) (calls_of_lists (suc thread) lists),
      calls_in_list thread 0 calls,
      calls_in_lists (suc thread) lists,
      sum_by-cons length calls lists,
    )

-- where there is none, there are no more lines than a trace has calls
pub few_lines : (lists : List (List Call)) (lines : List Line) → fits_trace lists ≡ true →
    first_other 0 (calls_of_lists 0 lists) lines ≡ None → length lines ≤ most_calls
few_lines lists lines fits none =
    omega (
      arith,
      as_many (calls_of_lists 0 lists) lines none,
      calls_in_lists 0 lists,
      total_calls lists fits,
    )

pub few_before : (lists : List (List Call)) (lines : List Line) (i : ℕ) → fits_trace lists ≡ true →
    Some i ≡ first_other 0 (calls_of_lists 0 lists) lines → i < max most_calls (length lines)
few_before lists lines i fits e = omega (
  arith,
  first_below (calls_of_lists 0 lists) lines i e,
  calls_in_lists 0 lists,
  total_calls lists fits,
)
