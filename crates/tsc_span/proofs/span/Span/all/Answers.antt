-- It starts at the empty key.
use Rattle.std.proofs.Common.{rules}
use Rattle.tsc_span.proofs.span.Span.all.Goals as goal

pub returns : goal.returns
returns c = search rules
