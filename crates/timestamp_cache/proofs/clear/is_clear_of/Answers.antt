-- Proves the contract of `is_clear_of`. Whether a write of a transaction at the time `at` is clear
-- of a read, or of what a lookup answers.
use Rattle.std.proofs.Common.{rules}
use Rattle.timestamp_cache.proofs.clear.is_clear_of.Goals as goal

pub returns-then-lt : goal.returns-then-lt
returns-then-lt c = search rules

pub returns-then-eq : goal.returns-then-eq
returns-then-eq c = search rules

pub returns-else-eq : goal.returns-else-eq
returns-else-eq c = search rules
