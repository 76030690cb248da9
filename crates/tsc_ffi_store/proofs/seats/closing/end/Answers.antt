-- All seats are of the kind of the cache.
use Rattle.std.proofs.Common.{◌≡◌, subst, sym, All, rules}
use Rattle.tsc_striped.specs.Seats.{DealerView}
use Rattle.tsc_striped.specs.Answers.{Retires}
use Rattle.tsc_ffi_store.specs.declared.seats.kinds.AnyCache.{AnyCache}
use Rattle.tsc_ffi_store.specs.declared.seats.kinds.AnyCache.TheVariants as kind
use Rattle.tsc_ffi_store.specs.declared.seats.kinds.AnySeat.{AnySeat}
use Rattle.tsc_ffi_store.specs.declared.seats.ending.Ending.{Ending}
use Rattle.tsc_ffi_store.specs.declared.seats.ending.Ending.TheVariants as ending
use Rattle.tsc_ffi_store.specs.Kinds.{cache_of}
use Rattle.tsc_ffi_store.specs.Endings.{CanEnd, EndsWithSeats}
use Rattle.tsc_ffi_store.proofs.SeatsOfKind.{all_shared, all_striped, shared_caches, striped_caches}
use Rattle.tsc_ffi_store.proofs.seats.closing.end.Goals as goal

pub shared_seats-requires-clause-shared : goal.shared_seats-requires-clause-shared
shared_seats-requires-clause-shared c =
    let is : c.args.cache.now ≡ kind.Shared c.in-Shared.cache = search rules in
    all_shared c.in-Shared.cache c.args.seats.items
    (subst (λ (k : AnyCache). All (λ (s : AnySeat). cache_of s ≡ k) c.args.seats.items) is
    c.requires.seats)

pub retire-requires : goal.retire-requires
retire-requires c =
    let is : c.args.cache.now ≡ kind.Shared c.in-Shared.cache = search rules in
    record {
      seats = shared_caches c.in-Shared.cache c.args.seats.items c.shared_seats.result.items
          (subst (λ (k : AnyCache). All (λ (s : AnySeat). cache_of s ≡ k) c.args.seats.items) is
          c.requires.seats) c.shared_seats.ensures;
    }

pub striped_seats-seats-requires-clause-striped : goal.striped_seats-seats-requires-clause-striped
striped_seats-seats-requires-clause-striped c =
    let is : c.args.cache.now ≡ kind.Striped c.in-Striped.cache = search rules in
    all_striped c.in-Striped.cache c.args.seats.items
    (subst (λ (k : AnyCache). All (λ (s : AnySeat). cache_of s ≡ k) c.args.seats.items) is
    c.requires.seats)

pub retire-requires-in-Striped-clause-seats : goal.retire-requires-in-Striped-clause-seats
retire-requires-in-Striped-clause-seats c =
    let is : c.args.cache.now ≡ kind.Striped c.in-Striped.cache = search rules in
    striped_caches c.in-Striped.cache c.args.seats.items c.striped_seats-seats.result.items
    (subst (λ (k : AnyCache). All (λ (s : AnySeat). cache_of s ≡ k) c.args.seats.items) is
    c.requires.seats) c.striped_seats-seats.ensures
