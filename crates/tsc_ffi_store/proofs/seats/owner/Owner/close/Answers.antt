-- What the keeper's token saw, the owner did.
use Rattle.std.proofs.Common.{subst, rules}
use Rattle.std.specs.Arc.{arc_value}
use Rattle.tsc_ffi_store.specs.Owners.{OwnerView, MissesSeat}
use Rattle.tsc_ffi_store.specs.Seating.{SharedHandleView}
use Rattle.tsc_ffi_store.proofs.Learning.{owner_of, owner_misses}
use Rattle.tsc_ffi_store.proofs.seats.owner.Owner.close.Goals as goal

pub returns-then-not-are_all_returned-clause-still_out :
    goal.returns-then-not-are_all_returned-clause-still_out
returns-then-not-are_all_returned-clause-still_out c =
    let shared : SharedHandleView = arc_value c.self.inside.shared in
    subst (λ (o : OwnerView). MissesSeat o
    (owner_of shared.cache shared.table c.are_all_returned.new.keeper.me)) c.self.view_is
    (owner_misses shared.cache _ shared.table _ c.are_all_returned.new.keeper.table_id
    c.self.inside.keeper.me c.are_all_returned.new.keeper.me c.self.inside.seats
    c.are_all_returned.new.returned c.self.invariant.0.all c.are_all_returned.ensures.known
    (c.are_all_returned.ensures.missed (search rules)))
