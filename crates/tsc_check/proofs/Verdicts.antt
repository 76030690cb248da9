-- The verdict, by the first test that a line fails.
use Rattle.std.proofs.Common.{◌≡◌, ◌∙◌, sym, ap, refl, ℕ, zero, suc, Bool, true, false, ◌+◌, ◌^◌, max, ◌<◌, ◌≤◌, List, length, Option, Some, None, add-one, arith}
use Rattle.std.specs.Prelude.{slice_get, if◌then◌else◌, IfSome}
use Rattle.tsc_trace_format.specs.Limits.{most_calls}
use Rattle.std.proofs.lemmas.Option.{slice_get_within}
use Rattle.tsc_trace_format.specs.declared.trace.Call.{Call}
use Rattle.tsc_trace_format.specs.Traces.{Trace}
use Rattle.tsc_trace.specs.declared.log.Line.{Line}
use Rattle.tsc_check.specs.declared.verdict.Verdict.TheVariants.{Right, WrongCall, WrongPlace, WrongAnswer}
use Rattle.tsc_check.specs.Verdict.{calls_of, is_wrong_call, is_wrong_place, is_wrong_answer, or_this, least, named_or, verdict_of}
use Rattle.tsc_check.specs.CheckParts.{first_other, call_in}
use Rattle.tsc_check.proofs.FirstOther.{first_is_least}
use Rattle.tsc_check.proofs.Sweeping.{has_call}

least_call : (trace : Trace) (lines : List Line) (o : Option ℕ) →
    o ≡ first_other 0 (calls_of trace) lines →
    least (is_wrong_call (calls_of trace) lines) (max (length (calls_of trace)) (length lines)) ≡ o
least_call trace lines o e = sym (first_is_least (calls_of trace) lines) ∙ sym e

pub wrong_call : (trace : Trace) (lines : List Line) (i : ℕ) →
    Some i ≡ first_other 0 (calls_of trace) lines → WrongCall (i + 1) ≡ verdict_of trace lines
wrong_call trace lines i e = ap WrongCall (add-one i) ∙
    sym (rw (least_call trace lines (Some i) e) refl)

pub wrong_place : (trace : Trace) (lines : List Line) (i : ℕ) →
    None ≡ first_other 0 (calls_of trace) lines →
    Some i ≡ least (is_wrong_place lines) (length lines) →
    WrongPlace (i + 1) ≡ verdict_of trace lines
wrong_place trace lines i e f = ap WrongPlace (add-one i) ∙
    sym (rw (least_call trace lines None e, sym f) refl)

pub by_answers : (trace : Trace) (lines : List Line) (o : Option ℕ) →
    None ≡ first_other 0 (calls_of trace) lines →
    None ≡ least (is_wrong_place lines) (length lines) →
    o ≡ least (is_wrong_answer trace lines) (length lines) →
    named_or WrongAnswer o Right ≡ verdict_of trace lines
by_answers trace lines o e f g = ap (λ w. named_or WrongAnswer w Right) g ∙
    sym (rw (least_call trace lines None e, sym f) refl)

-- ---- what is left of a result

pub none_is : (o : Option ℕ) → ((x : ℕ) → o ≡ Some x → ⊥) → o ≡ None
none_is None f = refl
none_is (Some x) f = absurd (f x refl)

pub least_below : (test : ℕ → Bool) (n i : ℕ) → least test n ≡ Some i → i < n
least_below test zero i e = absurd (none_some e)
  where
    none_some : None ≡ Some i → ⊥
    none_some f = cc
least_below test (suc n) i e = by_least (least test n) (λ f. least_below test n i f) e
  where
    some_some : (j : ℕ) → Some j ≡ Some i → j ≡ i
    some_some j f = cc

    by_test : (b : Bool) → (if b then Some n else None) ≡ Some i → i < suc n
    by_test true f = omega (arith, some_some n f)
    by_test false f = absurd (none f)
      where
        none : None ≡ Some i → ⊥
        none g = cc

    by_least : (o : Option ℕ) → (o ≡ Some i → i < n) → or_this test n o ≡ Some i → i < suc n
    by_least None f g = by_test (test n) g
    by_least (Some j) f g = omega (arith, f g)

-- the number of a line, from 1, fits
pub few_answers : (trace : Trace) (lines : List Line) (o : Option ℕ) → length lines ≤ most_calls →
    o ≡ least (is_wrong_answer trace lines) (length lines) → IfSome o (λ i. i + 1 < 2 ^ 64)
few_answers trace lines None few e = tt
few_answers trace lines (Some i) few e =
    omega (arith, few, least_below (is_wrong_answer trace lines) (length lines) i (sym e))

-- the lists that lines name are there
pub in_lists_bound : (trace : Trace) (lines : List Line) →
    first_other 0 (calls_of trace) lines ≡ None → (j : ℕ) (line : Line) →
    slice_get lines j ≡ Some line → line.thread < length trace.threads
in_lists_bound trace lines none j line at =
    let c = has_call trace lines none j line at in
    by_list (slice_get trace.threads line.thread) refl c.there
  where
    by_list : (o : Option (List Call)) → slice_get trace.threads line.thread ≡ o →
        call_in o line.index ≡ Some (has_call trace lines none j line at).call.call →
        line.thread < length trace.threads
    by_list None e f = absurd (no (has_call trace lines none j line at).call.call f)
      where
        no : (c : Call) → None ≡ Some c → ⊥
        no c g = cc
    by_list (Some calls) e f = slice_get_within trace.threads line.thread calls e
