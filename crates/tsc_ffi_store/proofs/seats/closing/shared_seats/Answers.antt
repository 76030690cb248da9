-- Each seat is one of a shared cache.
use Rattle.std.proofs.Common.{◌≡◌, ◌∙◌, ◌++◌, ◌∷◌, sym, ap, List, map, rules}
use Rattle.std.specs.Vec.Iter.{into_iter_items}
use Rattle.tsc_ffi_store.specs.declared.seats.kinds.AnySeat.{AnySeat}
use Rattle.tsc_ffi_store.specs.declared.seats.kinds.AnySeat.TheVariants.{Shared}
use Rattle.tsc_ffi_store.proofs.SeatsOfKind.{next_shared}
use Rattle.tsc_ffi_store.proofs.seats.closing.shared_seats.Goals as goal

pub unreachable-requires : goal.unreachable-requires
unreachable-requires c =
    let left : into_iter_items c.loop-seat.seat-iterator ≡ c.in-Some.seat ∷
    into_iter_items c.next.new.self = search rules in
    let is = next_shared c.loop-seat.room.items c.requires.shared.0 c.in-Some.seat
    (into_iter_items c.next.new.self)
    (ap (λ (xs : List AnySeat). map Shared c.loop-seat.room.items ++ xs) (sym left)
    ∙ c.loop-seat.invariant.2 ∙ c.requires.shared.1.are) in
    c.in_default.not-Shared is.seat is.is
