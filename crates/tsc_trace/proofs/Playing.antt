-- A replay that goes on from where it stands gives the lines that are made anew from the opening
-- state.
use Rattle.std.proofs.Common.{◌≡◌, ◌∙◌, refl, ap, ℕ, suc, List, [], ◌∷◌, ◌++◌, length, length-append, Option, Some, None, arith}
use Rattle.tsc_cache.specs.ConfigView.{ConfigView}
use Rattle.tsc_cache.specs.State.{step_all}
use Rattle.tsc_cache.specs.declared.history.Entry.{Entry}
use Rattle.tsc_cache.specs.History.{History, state_of}
use Rattle.tsc_cache.proofs.Histories.{state_of-push}
use Rattle.tsc_trace_format.specs.Calls.{Addition, addition_of}
use Rattle.tsc_trace_format.specs.declared.trace.Call.{Call}
use Rattle.tsc_trace.specs.Log.{said_after, entry_after, with_addition, after_call, after_calls, lines_of_list, lines_of_lists}
use Rattle.tsc_trace.specs.Play.{Standing, with_made, next, next_all, played, played_lists}

-- where a replay stands after a history
abbrev pub standing_after : ConfigView → History → Standing
standing_after config h = record { state = state_of config h; adds = length h }

-- one more entry
standing_after-append : (config : ConfigView) (h : History) (e : Entry) →
    standing_after config (h ++ e ∷ []) ≡
    record {
      state = (step_all config (state_of config h) e.marks e.now).state;
      adds = suc (length h);
    }
standing_after-append config h e =
    let adds : length (h ++ e ∷ []) ≡ suc (length h) = omega (arith, length-append h (e ∷ [])) in
    let state = state_of-push config h e in
    λ i. record { state = state i; adds = adds i }

-- where the replay stands with what may be added
addition_anew : (config : ConfigView) (thread : ℕ) (h : History) (o : Option Addition) →
    standing_after config (with_addition thread h o) ≡ with_made config
    (standing_after config h) o
addition_anew config thread h None = refl
addition_anew config thread h (Some a) = standing_after-append config h (entry_after thread h a)

-- after a call
pub standing_anew : (config : ConfigView) (thread : ℕ) (h : History) (call : Call) →
    standing_after config (after_call thread h call) ≡
    next config (standing_after config h) call
standing_anew config thread h call = addition_anew config thread h (addition_of call)

-- after some calls
pub standing_anew_all : (config : ConfigView) (thread : ℕ) (h : History) (calls : List Call) →
    standing_after config (after_calls thread h calls) ≡ next_all config
    (standing_after config h) calls
standing_anew_all config thread h [] = refl
standing_anew_all config thread h (call ∷ calls) =
    standing_anew_all config thread (after_call thread h call) calls ∙
    ap (λ at. next_all config at calls) (standing_anew config thread h call)

-- the lines of a list
pub lines_anew : (config : ConfigView) (thread index : ℕ) (h : History) (calls : List Call) →
    lines_of_list config thread index h calls ≡ played config thread index
    (standing_after config h) calls
lines_anew config thread index h [] = refl
lines_anew config thread index h (call ∷ calls) =
    let others = lines_anew config thread (suc index) (after_call thread h call) calls ∙
    ap (λ at. played config thread (suc index) at calls)
    (standing_anew config thread h call) in
    λ i. record { thread = thread; index = index; said = said_after config h call } ∷ others i

-- the lines of lists
pub lists_anew : (config : ConfigView) (thread : ℕ) (h : History) (lists : List (List Call)) →
    lines_of_lists config thread h lists ≡ played_lists config thread
    (standing_after config h) lists
lists_anew config thread h [] = refl
lists_anew config thread h (calls ∷ lists) =
    let first = lines_anew config thread 0 h calls in
    let others = lists_anew config (suc thread) (after_calls thread h calls) lists ∙
    ap (λ at. played_lists config (suc thread) at lists)
    (standing_anew_all config thread h calls) in
    λ i. first i ++ others i
