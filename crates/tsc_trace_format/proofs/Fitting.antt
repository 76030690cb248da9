-- The calls of a trace that was read fit the pages of its configuration.
use Rattle.std.proofs.Common.{◌≡◌, refl, subst, ℕ, suc, ◌+◌, Bool, true, false, List, [], ◌∷◌, length, Some, Result, Ok, Err}
use Rattle.std.specs.Prelude.{slice_get}
use Rattle.std.proofs.lemmas.List.Elements.{All-nil, All-cons}
use Rattle.std.proofs.lemmas.Option.{slice_get_within, get_or_from_slice_get}
use Rattle.serde_json.specs.Data.{Data}
use Rattle.tsc_cache.specs.ConfigView.{ConfigView}
use Rattle.tsc_trace_format.specs.declared.trace.Call.{Call}
use Rattle.tsc_trace_format.specs.declared.read.part.PartFault.TheVariants.{TooLarge}
use Rattle.tsc_trace_format.specs.Calls.{call_fits}
use Rattle.tsc_trace_format.specs.Traces.{EachFits, AllFit}
use Rattle.tsc_trace_format.specs.TraceParts.{Part, ◌>>=◌, where_holds, at_call}
use Rattle.tsc_trace_format.specs.TraceText.{call_of, fitting_call, calls_of, threads_of}
use Rattle.tsc_trace_format.proofs.Calls.{one_and_rest}

-- what is told of one call that holds
one_holds : (config : ConfigView) (first : ℕ) (read : Part Call) (call : Call) →
    at_call first (read >>= λ c. where_holds TooLarge (call_fits config c) c) ≡ Ok call →
    call_fits config call ≡ true
one_holds config first (Err fault) call h = absurd cc
one_holds config first (Ok c) call h = by (call_fits config c) refl h
  where
    by : (b : Bool) → call_fits config c ≡ b →
        at_call first (where_holds TooLarge b c) ≡ Ok call → call_fits config call ≡ true
    by true is h = let e : c ≡ call = cc in rw (← e) is
    by false is h = absurd cc

call_holds : (config : ConfigView) (first : ℕ) (d : Data) (call : Call) →
    at_call first (fitting_call config d) ≡ Ok call → call_fits config call ≡ true
unfolding fitting_call
call_holds config first d call h = one_holds config first (call_of d) call h

-- one that holds, and the rest that does
both_hold : {A F : Type 0} (P : A → Type 0) (Q : List A → Type 0) (one : Result A F)
    (rest : Result (List A) F) (xs : List A) → one_and_rest one rest ≡ Ok xs
    → ((x : A) → one ≡ Ok x → P x) → ((ys : List A) → rest ≡ Ok ys → Q ys) →
    ((x : A) (ys : List A) → P x → Q ys → Q (x ∷ ys)) → Q xs
both_hold P Q (Ok x) (Ok ys) xs h one rest join = let e : x ∷ ys ≡ xs =
    cc in rw (← e) (join x ys (one x refl) (rest ys refl))
both_hold P Q (Ok x) (Err fault) xs h one rest join = absurd cc
both_hold P Q (Err fault) rest xs h one others join = absurd cc

calls_hold : (config : ConfigView) (first : ℕ) (ds : List Data) (calls : List Call) →
    calls_of config first ds ≡ Ok calls → EachFits config calls
unfolding calls_of
calls_hold config first [] calls h = let e : [] ≡ calls =
    cc in rw (← e) (All-nil (λ call. call_fits config call ≡ true))
calls_hold config first (d ∷ ds) calls h =
    both_hold (λ call. call_fits config call ≡ true) (EachFits config)
    (at_call first (fitting_call config d)) (calls_of config (suc first) ds) calls h
    (call_holds config first d) (calls_hold config (suc first) ds)
    (λ call others one rest. All-cons (λ call. call_fits config call ≡ true) call others
    one rest)

-- all calls that were read fit
pub threads_hold : (config : ConfigView) (first : ℕ) (lists : List (List Data))
    (threads : List (List Call)) → threads_of config first lists ≡ Ok threads →
    AllFit config threads
unfolding threads_of
threads_hold config first [] threads h = let e : [] ≡ threads =
    cc in rw (← e) (All-nil (λ calls. EachFits config calls))
threads_hold config first (ds ∷ lists) threads h =
    both_hold (EachFits config) (AllFit config) (calls_of config first ds)
    (threads_of config (first + length ds) lists) threads h
    (calls_hold config first ds) (threads_hold config (first + length ds) lists)
    (λ calls others one rest. All-cons (λ calls. EachFits config calls) calls others one rest)

-- ---- lists and calls by their numbers

-- so does each list
pub list_fits : (config : ConfigView) (lists : List (List Call)) (i : ℕ) (calls : List Call) →
    slice_get lists i ≡ Some calls → AllFit config lists → EachFits config calls
list_fits config lists i calls at fit =
    subst (EachFits config) (get_or_from_slice_get lists i calls calls at)
    (fit i calls (slice_get_within lists i calls at))

-- and each call in it
pub call_in_fits : (config : ConfigView) (calls : List Call) (i : ℕ) (call : Call) →
    slice_get calls i ≡ Some call → EachFits config calls → call_fits config call ≡ true
call_in_fits config calls i call at fit =
    subst (λ c. call_fits config c ≡ true) (get_or_from_slice_get calls i call call at)
    (fit i call (slice_get_within calls i call at))
