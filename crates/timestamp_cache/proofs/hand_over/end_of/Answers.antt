-- Proves the contract of `end_of`. Where the stretch from a cut on stops by the least key above it.
use Rattle.std.proofs.Common.{rules}
use Rattle.timestamp_cache.proofs.hand_over.end_of.Goals as goal

pub returns-in-None : goal.returns-in-None
returns-in-None c = search rules
