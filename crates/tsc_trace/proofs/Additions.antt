-- What an addition makes of a history.
use Rattle.std.proofs.Common.{cond, ◌≡◌, refl, ℕ, ◌+◌, [], ◌∷◌, length, is_some, false, true≢false, Option, Some, None, length-append, arith}
use Rattle.tsc_cache.specs.History.{History, BeginsWith}
use Rattle.tsc_cache.proofs.Beginnings.{begins_itself, begins_on}
use Rattle.tsc_trace_format.specs.Calls.{Addition}
use Rattle.tsc_trace.specs.Log.{entry_after, with_addition}

-- it goes on from there
pub addition_begins : (thread : ℕ) (h : History) (o : Option Addition) →
    BeginsWith (with_addition thread h o) h
addition_begins thread h None = begins_itself h
addition_begins thread h (Some a) = (entry_after thread h a ∷ [], refl)

-- what goes on from there goes on from what was before
pub begins_before : (whole h : History) (thread : ℕ) (o : Option Addition) →
    BeginsWith whole (with_addition thread h o) → BeginsWith whole h
begins_before whole h thread o part =
    begins_on whole (with_addition thread h o) h part (addition_begins thread h o)

-- by one entry, where there is an addition
pub addition_length : (thread : ℕ) (h : History) (o : Option Addition) →
    length (with_addition thread h o) ≡ length h + cond (is_some o) 1 0
addition_length thread h None = omega arith
addition_length thread h (Some a) = length-append h (entry_after thread h a ∷ [])

-- and else it stays
pub no_addition : (thread : ℕ) (h : History) (o : Option Addition) → is_some o ≡ false →
    with_addition thread h o ≡ h
no_addition thread h None none = refl
no_addition thread h (Some a) none = absurd (true≢false none)
