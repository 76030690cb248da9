-- A point holds its key.
use Rattle.std.proofs.Common.{rules}
use Rattle.tsc_span.proofs.add_span.AddSpan.point.Goals as goal

pub returns : goal.returns
returns c = search rules
