-- Two spans overlap where the greater start lies below the lesser stop.
use Rattle.std.proofs.Common.{rules}
use Rattle.tsc_span.proofs.span.Span.overlaps.Goals as goal

pub returns-after-is_below-2 : goal.returns-after-is_below-2
returns-after-is_below-2 c = search rules
