-- Each seat is one of a cache in stripes.
use Rattle.std.proofs.Common.{◌≡◌, ◌∙◌, ◌++◌, ◌∷◌, sym, ap, List, map, rules}
use Rattle.std.specs.Vec.Iter.{into_iter_items}
use Rattle.tsc_ffi_store.specs.declared.seats.kinds.AnySeat.{AnySeat}
use Rattle.tsc_ffi_store.specs.declared.seats.kinds.AnySeat.TheVariants.{Striped}
use Rattle.tsc_ffi_store.proofs.SeatsOfKind.{next_striped}
use Rattle.tsc_ffi_store.proofs.seats.closing.striped_seats.Goals as goal

pub unreachable-requires : goal.unreachable-requires
unreachable-requires c =
    let left : into_iter_items c.loop-seat.seat-iterator ≡ c.in-Some.seat ∷
    into_iter_items c.next.new.self = search rules in
    let is = next_striped c.loop-seat.room.items c.requires.striped.0 c.in-Some.seat
    (into_iter_items c.next.new.self)
    (ap (λ (xs : List AnySeat). map Striped c.loop-seat.room.items ++ xs) (sym left)
    ∙ c.loop-seat.invariant.2 ∙ c.requires.striped.1.are) in
    c.in_default.not-Striped is.seat is.is
