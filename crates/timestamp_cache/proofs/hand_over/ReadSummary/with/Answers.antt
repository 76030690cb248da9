-- Proves the contract of `ReadSummary::with`. Tells of one stretch more.
use Rattle.std.proofs.Common.{rules}
use Rattle.timestamp_cache.proofs.hand_over.ReadSummary.with.Goals as goal

pub returns : goal.returns
returns c = search rules
