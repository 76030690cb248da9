-- Without an end key the span is a point.
use Rattle.std.proofs.Common.{rules}
use Rattle.tsc_span.proofs.span.Span.of.Goals as goal

pub returns-then-is_empty-clause-value : goal.returns-then-is_empty-clause-value
returns-then-is_empty-clause-value c = search rules
