-- A copy has the shape of the span.
use Rattle.std.proofs.Common.{rules}
use Rattle.tsc_span.proofs.span.Span.try_copy.Goals as goal

pub returns-clause-value : goal.returns-clause-value
returns-clause-value c = search rules
