-- A write is clear of a read just where the read is at most what the write would be, had it been a
-- read of that time and transaction, in the ratchet order.
use Rattle.timestamp_cache.proofs.Pushing.{clear_is_at_most}
use Rattle.timestamp_cache.proofs.laws.clear_is_at_most.Goals as goal

pub returns : goal.returns
returns c = clear_is_at_most
