-- Proves the contract of `is_digest`. Whether bytes are the digest of others.
use Rattle.std.proofs.Common.{rules}
use Rattle.timestamp_cache.proofs.summary_reading.is_digest.Goals as goal

pub returns : goal.returns
returns c = search rules
