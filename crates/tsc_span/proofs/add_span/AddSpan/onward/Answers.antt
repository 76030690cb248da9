-- The flag tells whether the first key is left out.
use Rattle.std.proofs.Common.{rules}
use Rattle.tsc_span.proofs.add_span.AddSpan.onward.Goals as goal

pub returns : goal.returns
returns c = search rules
