-- Proves the contract of `ReadCache::open_copies`. The seats are those of the new cache.
use Rattle.example_lease_holder.proofs.Seats.{each_is_of}
use Rattle.example_lease_holder.proofs.reads.ReadCache.open_copies.Goals as goal

pub seats_of_copies-requires : goal.seats_of_copies-requires
seats_of_copies-requires c = each_is_of _ _ _ _ _ c.in_ok-cache.ensures.opened
