-- A new list has no bytes.
use Rattle.std.proofs.Common.{rules}
use Rattle.tsc_span.proofs.key.Key.empty.Goals as goal

pub returns : goal.returns
returns c = search rules
