-- Why an Add was refused whose arguments are right.
use Rattle.std.proofs.Common.{◌≡◌, ◌∙◌, refl, sym, ap, inl, inr, Bool, true, false, true≢false}
use Rattle.std.specs.Prelude.{Ok, Err, Result, ◌↔◌, ◌⊎◌}
use Rattle.tsc_cache.specs.declared.fault.CacheFault.{CacheFault}
use Rattle.tsc_cache.specs.declared.fault.CacheFault.TheVariants as cache_fault
use Rattle.tsc_cache.specs.declared.added.Added.{Added}
use Rattle.tsc_shared.specs.Seats.{SeatView}
use Rattle.tsc_shared.specs.Answers.{TryRefusedFor}
use Rattle.tsc_shared.specs.declared.answers.Receipt.{Receipt}
use Rattle.tsc_shared.specs.declared.answers.AddFault.TheVariants.{HistoryFull, NoMemory, TooLarge}
use Rattle.tsc_shared.specs.declared.answers.TryAddFault.{TryAddFault}
use Rattle.tsc_shared.specs.declared.answers.TryAddFault.TheVariants.{DeskBusy, SeatInside, Refused}
use Rattle.tsc_ffi_store.specs.declared.refusal.Refusal.{Refusal}
use Rattle.tsc_ffi_store.specs.declared.refusal.Refusal.TheVariants as refusal
use Rattle.tsc_ffi_store.specs.SeatCalls.{IsCodeOf, RefusesTried}

-- an Add is too large just where its marks don't fit a page
abbrev pub IsTooLargeFor : Bool → Result Receipt TryAddFault → Type 0
IsTooLargeFor fit tried = (tried ≡ Err (Refused TooLarge)) ↔ (fit ≡ false)

-- whether an Add was refused for its size
abbrev is_too_large : Result Receipt TryAddFault → Bool
is_too_large (Err (Refused TooLarge)) = true
is_too_large other = false

-- what was refused for another reason fits
fits_else : (fit : Bool) (fault : TryAddFault) → IsTooLargeFor fit (Err fault) →
    is_too_large (Err fault) ≡ false → fit ≡ true
fits_else true fault t other = refl
fits_else false fault t other = absurd (true≢false (sym (ap is_too_large (t.1 refl)) ∙ other))

-- what was accepted fits
pub accepted_fits : (fit : Bool) (receipt : Receipt) → IsTooLargeFor fit (Ok receipt) → fit ≡ true
accepted_fits true receipt t = refl
accepted_fits false receipt t = absurd (true≢false (sym (ap is_too_large (t.1 refl))))

-- Why it was refused, where X says that the marks do not fit, and Y that they do.
pub why_refused : {X Y : Type 0} (why : Refusal) (old new : SeatView) (fit : Bool)
    (fault : TryAddFault) → IsCodeOf fault why → TryRefusedFor old new fault →
    IsTooLargeFor fit (Err fault)
    → (fit ≡ false → why ≡ refusal.TooLarge → new ≡ old → X)
    → (fit ≡ true → RefusesTried why old new → Y) → X ⊎ Y
why_refused why old new fit DeskBusy code reported t too_large tried =
    inr (tried (fits_else fit DeskBusy t refl) (inl (code, inl reported)))
why_refused why old new fit SeatInside code reported t too_large tried =
    inr (tried (fits_else fit SeatInside t refl) (inl (code, inr reported)))
why_refused why old new fit (Refused (HistoryFull front)) code reported t too_large tried =
    inr (tried (fits_else fit (Refused (HistoryFull front)) t refl)
    (inr (inl (code, reported.limit))))
why_refused why old new fit (Refused NoMemory) code reported t too_large tried =
    inr (tried (fits_else fit (Refused NoMemory) t refl) (inr (inr (code, reported))))
why_refused why old new fit (Refused TooLarge) code reported t too_large tried =
    inl (too_large (t.0 refl) code reported)

-- whether a cache refused an Add for its size
abbrev is_large : Result Added CacheFault → Bool
is_large (Err cache_fault.TooLarge) = true
is_large other = false

-- what a cache of one's own refused for another reason fits
fits_memory : (fit : Bool) (did : Result Added CacheFault) → is_large did ≡ false
    → ((did ≡ Err cache_fault.TooLarge) ↔ (fit ≡ false)) → fit ≡ true
fits_memory true did other t = refl
fits_memory false did other t = absurd (true≢false (sym (ap is_large (t.1 refl)) ∙ other))

-- what a cache of one's own accepted fits
pub added_fits : (fit : Bool) (added : Added)
    → (◌≡◌ {A = Result Added CacheFault} (Ok added) (Err cache_fault.TooLarge) ↔ (fit ≡ false))
    → fit ≡ true
added_fits fit added t = fits_memory fit (Ok added) refl t

-- Why a cache of one's own refused an Add, where X says that the marks do not fit, and Y that they
-- do.
pub why_refused_in : {X Y : Type 0} (why : Refusal) (fit : Bool) (fault : CacheFault)
    → (◌≡◌ {A = Result Added CacheFault} (Err fault) (Err cache_fault.TooLarge) ↔ (fit ≡ false))
    → (fault ≡ cache_fault.TooLarge → why ≡ refusal.TooLarge)
    → (fault ≡ cache_fault.NoMemory → why ≡ refusal.NoMemory)
    → (fit ≡ false → why ≡ refusal.TooLarge → X) → (fit ≡ true → why ≡ refusal.NoMemory → Y)
    → X ⊎ Y
why_refused_in why fit cache_fault.TooLarge t large memory x y = inl (x (t.0 refl) (large refl))
why_refused_in why fit cache_fault.NoMemory t large memory x y =
    inr (y (fits_memory fit (Err cache_fault.NoMemory) refl t) (memory refl))
