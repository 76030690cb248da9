-- Proves the contract of `collect`. Drops the versions of each key that are of no use from a time
-- on, and the keys that have none left.
use Rattle.std.proofs.Common.{rules}
use Rattle.mvcc_versions.proofs.Dropping.{retained}
use Rattle.mvcc_versions.proofs.chains.collect.Goals as goal

pub returns : goal.returns
returns c = λ k. retained _ c.args.from _ (λ q vs b w g t. search rules) c.args.chains.now.entries
    c.retain.new.self.entries c.retain.ensures.was_ordered c.retain.ensures.filtered k
