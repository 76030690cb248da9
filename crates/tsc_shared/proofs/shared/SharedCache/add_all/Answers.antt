-- Proves the contract of `SharedCache::add_all`. Adds several marks at the moment `now`, as one Add
-- and one entry of the history, as `Cache::add_all` does.
use Rattle.tsc_shared.proofs.GivenUp.{waited_answers}
use Rattle.tsc_shared.proofs.shared.SharedCache.add_all.Goals as goal

pub returns : goal.returns
returns g c = waited_answers _ _ _ _ _ _ _ _ c.waited.ensures c.add_ref.ensures.answers
