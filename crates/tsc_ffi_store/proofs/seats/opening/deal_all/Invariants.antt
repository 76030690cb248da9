-- So many seats were dealt, and with those that are left they are all.
use Rattle.std.proofs.Common.{◌≡◌, ◌++◌, ◌-◌, ◌≤◌}
use Rattle.tsc_ffi_store.specs.declared.seats.kinds.AnyCache.TheVariants.{Striped}
use Rattle.tsc_ffi_store.specs.Kinds.{new_any_seats}
use Rattle.tsc_ffi_store.proofs.seats.opening.deal_all.Given as goal

abbrev pub invariant-loop : goal.invariant-loop
invariant-loop l =
    (l.dealer.cache ≡ l.fn.cache) × (l.dealer.dealt ≡ l.counter) × (l.counter ≤ l.seats) ×
    (l.all.items ++ new_any_seats (Striped l.fn.cache) l.counter (l.seats - l.counter) ≡
    new_any_seats (Striped l.fn.cache) 0 l.seats)
