-- All seats are there.
use Rattle.std.proofs.Common.{◌≡◌, ◌∙◌, sym, ap, List, map, rules}
use Rattle.std.specs.Arc.{arc_value}
use Rattle.tsc_shared.specs.Seats.{SeatView}
use Rattle.tsc_ffi_store.specs.declared.seats.kinds.AnyCache.{AnyCache}
use Rattle.tsc_ffi_store.specs.declared.seats.kinds.AnyCache.TheVariants as kind
use Rattle.tsc_ffi_store.specs.declared.seats.kinds.AnySeat.TheVariants.{Shared}
use Rattle.tsc_ffi_store.specs.Kinds.{new_any_seats}
use Rattle.tsc_ffi_store.proofs.SeatsDealt.{new_shared}
use Rattle.tsc_ffi_store.proofs.seats.owner.Owner.open.Goals as goal

pub seat_all-requires-clause-all : goal.seat_all-requires-clause-all
seat_all-requires-clause-all c =
    let is : (arc_value c.in_ok-shared.shared).cache ≡ kind.Shared c.in_ok-cache.cache =
    search rules in
    c.in_ok-all.ensures
    ∙ ap (λ (xs : List SeatView). map Shared xs) c.in_ok-cache.ensures.opened.in_order
    ∙ new_shared c.in_ok-cache.cache 0 c.args.seats
    ∙ ap (λ (k : AnyCache). new_any_seats k 0 c.args.seats) (sym is)
