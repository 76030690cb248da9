-- Proves the contract of `summary`. Summarizes what a cache answers on a span, in at most `most`
-- marks.
use Rattle.std.proofs.Common.{rules}
use Rattle.timestamp_cache.proofs.hand_over.summary.Goals as goal

pub over-requires-clause-floor : goal.over-requires-clause-floor
over-requires-clause-floor c = search rules
