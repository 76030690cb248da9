-- The bytes are those that the key was made of.
use Rattle.std.proofs.Common.{rules}
use Rattle.tsc_span.proofs.key.Key.bytes.Goals as goal

pub returns-clause-value : goal.returns-clause-value
returns-clause-value c = search rules
