-- A key is covered where both of its cuts lie within.
use Rattle.std.proofs.Common.{rules}
use Rattle.tsc_span.proofs.span.Span.covers.Goals as goal

pub returns-then-not-is_below : goal.returns-then-not-is_below
returns-then-not-is_below c = search rules
