-- Proves the contract of `ends_of`. Which of the keys of two cuts lie outside of what is between
-- them.
use Rattle.std.proofs.Common.{rules}
use Rattle.timestamp_cache.proofs.hand_over.ends_of.Goals as goal

pub returns-clause-to : goal.returns-clause-to
returns-clause-to c = search rules
