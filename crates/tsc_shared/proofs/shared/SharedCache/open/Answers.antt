-- Proves the contract of `SharedCache::open`. A cache to which nothing was added, and its seats,
-- numbered from 0 in their order.
use Rattle.std.proofs.Common.{rules}
use Rattle.tsc_shared.proofs.shared.SharedCache.open.Goals as goal

pub returns-in_err-replicas-clause-refused : goal.returns-in_err-replicas-clause-refused
returns-in_err-replicas-clause-refused c = search rules

pub returns-in_err-seats-clause-refused : goal.returns-in_err-seats-clause-refused
returns-in_err-seats-clause-refused c = search rules

pub returns-clause-opened : goal.returns-clause-opened
returns-clause-opened c = search rules
