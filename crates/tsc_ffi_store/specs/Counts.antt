-- What was asked by one handle, as it is counted.
use Rattle.std.specs.Prelude.{◌≡◌, ◌+◌, ℕ, Result, Ok, Err}
use Rattle.tsc_cache.specs.CacheView.{CacheView}
use Rattle.tsc_cache.specs.Counts.{up_to_end}
use Rattle.tsc_ffi_store.specs.declared.seats.kinds.AnySeat.{AnySeat}
use Rattle.tsc_ffi_store.specs.declared.counts.Counts.{Counts}
use Rattle.tsc_ffi_store.specs.declared.counts.CountedCache.{CountedCache}
use Rattle.tsc_ffi_store.specs.declared.counts.CountedSeat.{CountedSeat}
use Rattle.tsc_ffi_store.specs.declared.refusal.Refusal.{Refusal}

-- nothing was asked
abbrev pub no_counts : Counts
no_counts = record { adds = 0; refusals = 0; lookups = 0; evicted = 0 }

-- An Add was accepted, which dropped so many pages.
abbrev pub one_added : Counts → ℕ → Counts
one_added counts dropped = record counts {
  adds = up_to_end (counts.adds + 1);
  evicted = up_to_end (counts.evicted + dropped);
}

-- an Add was refused
abbrev pub one_refused : Counts → Counts
one_refused counts = record counts { refusals = up_to_end (counts.refusals + 1) }

-- a lookup, or a question for a write, was answered
abbrev pub one_answered : Counts → Counts
one_answered counts = record counts { lookups = up_to_end (counts.lookups + 1) }

-- the counts after an Add, accepted or refused
abbrev pub add_counted : {A : Type 0} → Counts → Result A Refusal → ℕ → Counts
add_counted counts (Ok done) dropped = one_added counts dropped
add_counted counts (Err why) dropped = one_refused counts

-- the counts after a lookup: a refused one is none
abbrev pub lookup_counted : {A : Type 0} → Counts → Result A Refusal → Counts
lookup_counted counts (Ok done) = one_answered counts
lookup_counted counts (Err why) = counts

-- An Add to a cache is counted, with the pages that it dropped.
pub record CountsAdd {A : Type 0} (Works : CacheView → CacheView → Result A Refusal → Type 0)
    (dropped : ℕ) (old new : CountedCache) (did : Result A Refusal) : Type 0 where
  pub works : Works old.cache new.cache did
  pub counted : new.counts ≡ add_counted old.counts did dropped

-- A lookup in a cache is counted, and leaves the cache as it was.
pub record CountsLookup {A : Type 0} (Reads : CacheView → Result A Refusal → Type 0)
    (old new : CountedCache) (did : Result A Refusal) : Type 0 where
  pub reads : Reads old.cache did
  pub same : new.cache ≡ old.cache
  pub counted : new.counts ≡ lookup_counted old.counts did

-- A seat stays that of its cache.
pub record StaysWith (old new : CountedSeat) : Type 0 where
  pub returns : new.seat.returns ≡ old.seat.returns
  pub opened : new.opened_at ≡ old.opened_at

-- An Add at a seat is counted there, with the pages that it dropped.
pub record CountsSeatAdd {A : Type 0} (Works : AnySeat → AnySeat → Result A Refusal → Type 0)
    (dropped : ℕ) (old new : CountedSeat) (did : Result A Refusal) : Type 0 where
  pub works : Works old.seat.seat new.seat.seat did
  pub stays : StaysWith old new
  pub counted : new.counts ≡ add_counted old.counts did dropped

-- A lookup at a seat is counted there.
pub record CountsSeatLookup {A : Type 0} (Works : AnySeat → AnySeat → Result A Refusal → Type 0)
    (old new : CountedSeat) (did : Result A Refusal) : Type 0 where
  pub works : Works old.seat.seat new.seat.seat did
  pub stays : StaysWith old new
  pub counted : new.counts ≡ lookup_counted old.counts did

-- A call at a seat is not counted.
pub record CountsNothing {A : Type 0} (Works : AnySeat → AnySeat → Result A Refusal → Type 0)
    (old new : CountedSeat) (did : Result A Refusal) : Type 0 where
  pub works : Works old.seat.seat new.seat.seat did
  pub stays : StaysWith old new
  pub same : new.counts ≡ old.counts
