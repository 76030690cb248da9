-- What is not inverted is looked up as it is.
use Rattle.std.proofs.Common.{rules}
use Rattle.tsc_span.proofs.span.Span.for_lookup.Goals as goal

pub returns-in-Ok : goal.returns-in-Ok
returns-in-Ok c = search rules
