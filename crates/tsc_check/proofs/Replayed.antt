-- The log of a replay is that of a run.
use Rattle.std.proofs.Common.{cond, ◌≡◌, ◌∙◌, inl, inr, sym, ap, refl, ℕ, suc, ◌+◌, ◌≤◌, List, [], ◌∷◌, length, arith}
use Rattle.std.proofs.lemmas.List.Sums.{sum_by-cons}
use Rattle.tsc_cache.specs.ConfigView.{ConfigView}
use Rattle.tsc_cache.specs.History.{History, BeginsWith}
use Rattle.tsc_cache.proofs.Beginnings.{begins_itself, begins_on}
use Rattle.tsc_trace_format.specs.Calls.{addition_of, adds}
use Rattle.tsc_trace_format.specs.declared.trace.Call.{Call}
use Rattle.tsc_trace_format.specs.Traces.{Trace}
use Rattle.tsc_trace.specs.Log.{said_after, after_call, after_calls, lines_of_list, lines_of_lists, log_of}
use Rattle.tsc_check.specs.declared.verdict.Verdict.TheVariants.{Right}
use Rattle.tsc_check.specs.Verdict.{is_add, reach, verdict_of}
use Rattle.tsc_check.specs.TrueLog.{adds_of_list, adds_of_lists, AreTrueLines, AreTrueLists, IsRunOf}
use Rattle.tsc_trace.proofs.Additions.{addition_begins, addition_length}
use Rattle.tsc_check.proofs.Places.{tested}
use Rattle.tsc_check.proofs.Slots.{reach_of_add, reach_of_lookup}
use Rattle.tsc_check.proofs.TrueRuns.{front_said, adds_said}
use Rattle.tsc_check.proofs.TrueVerdict.{run_is_right}

-- the history after lists, from the list with this number on
abbrev pub after_lists : ℕ → History → List (List Call) → History
after_lists thread g [] = g
after_lists thread g (calls ∷ lists) = after_lists (suc thread) (after_calls thread g calls) lists

calls_begin : (thread : ℕ) (g : History) (calls : List Call) →
    BeginsWith (after_calls thread g calls) g
calls_begin thread g [] = begins_itself g
calls_begin thread g (call ∷ calls) =
    begins_on (after_calls thread g (call ∷ calls)) (after_call thread g call) g
    (calls_begin thread (after_call thread g call) calls)
    (addition_begins thread g (addition_of call))

lists_begin : (thread : ℕ) (g : History) (lists : List (List Call)) →
    BeginsWith (after_lists thread g lists) g
lists_begin thread g [] = begins_itself g
lists_begin thread g (calls ∷ lists) =
    begins_on (after_lists thread g (calls ∷ lists)) (after_calls thread g calls) g
    (lists_begin (suc thread) (after_calls thread g calls) lists) (calls_begin thread g calls)

reach_within : (config : ConfigView) (thread : ℕ) (g : History) (call : Call) →
    reach (said_after config g call) ≤ length (after_call thread g call)
reach_within config thread g call =
    let s = said_after config g call in
    let longer : length (after_call thread g call) ≡ length g + cond (is_add s) 1 0 =
    addition_length thread g (addition_of call) ∙
    ap {B = ℕ} (λ b. length g + cond b 1 0) (sym (adds_said config g call)) in
    elim (tested (is_add s)) [
      | inl e ↦ omega (
        arith,
        reach_of_add s e,
        front_said config g call,
        longer,
        ap {B = ℕ} (λ b. cond b 1 0) e,
      )
      | inr e ↦ omega (
        arith,
        reach_of_lookup s e,
        front_said config g call,
        longer,
        ap {B = ℕ} (λ b. cond b 1 0) e,
      )
    ]

list_is_true : (config : ConfigView) (h : History) (thread index reached : ℕ) (g : History)
    (calls : List Call) → BeginsWith h (after_calls thread g calls) → reached ≤ length g →
    AreTrueLines config h thread index reached calls (lines_of_list config thread index g calls)
list_is_true config h thread index reached g [] b r = tt
list_is_true config h thread index reached g (call ∷ calls) b r = (
  record {
    before = g;
    reported = refl;
    part = begins_on h (after_calls thread (after_call thread g call) calls)
        (after_call thread g call) b (calls_begin thread (after_call thread g call) calls);
    later = r;
  },
  list_is_true config h thread (suc index) (reach (said_after config g call))
      (after_call thread g call) calls b (reach_within config thread g call),
)

lists_are_true : (config : ConfigView) (h : History) (thread : ℕ) (g : History)
    (lists : List (List Call)) → BeginsWith h (after_lists thread g lists) →
    AreTrueLists config h thread lists (lines_of_lists config thread g lists)
lists_are_true config h thread g [] b = refl
lists_are_true config h thread g (calls ∷ lists) b = (
  lines_of_list config thread 0 g calls,
  lines_of_lists config (suc thread) (after_calls thread g calls) lists,
  refl,
  list_is_true config h thread 0 0 g calls
      (begins_on h (after_lists (suc thread) (after_calls thread g calls) lists)
      (after_calls thread g calls) b (lists_begin (suc thread) (after_calls thread g calls) lists))
      (omega arith),
  lists_are_true config h (suc thread) (after_calls thread g calls) lists b,
)

calls_length : (thread : ℕ) (g : History) (calls : List Call) →
    length (after_calls thread g calls) ≡ length g + adds_of_list calls
calls_length thread g [] = omega arith
calls_length thread g (call ∷ calls) =
    omega (
      arith,
      calls_length thread (after_call thread g call) calls,
      addition_length thread g (addition_of call),
      sum_by-cons (λ c. cond (adds c) 1 0) call calls,
    )

lists_length : (thread : ℕ) (g : History) (lists : List (List Call)) →
    length (after_lists thread g lists) ≡ length g + adds_of_lists lists
lists_length thread g [] = omega arith
lists_length thread g (calls ∷ lists) =
    omega (
      arith,
      lists_length (suc thread) (after_calls thread g calls) lists,
      calls_length thread g calls,
    )

pub replay_is_run : (trace : Trace) → IsRunOf trace (log_of trace) (after_lists 0 [] trace.threads)
replay_is_run trace = record {
  size = omega (arith, lists_length 0 [] trace.threads);
  lines_are_true = lists_are_true trace.config (after_lists 0 [] trace.threads) 0 [] trace.threads
      (begins_itself (after_lists 0 [] trace.threads));
}

pub replays_are_right : (trace : Trace) → verdict_of trace (log_of trace) ≡ Right
replays_are_right trace = run_is_right trace (log_of trace) (after_lists 0 [] trace.threads)
    (replay_is_run trace)
