-- There are few enough lists, and few enough calls in them.
use Rattle.std.proofs.Common.{arith}
use Rattle.std.proofs.lemmas.Grind.{common_steps}
use Rattle.tsc_trace_format.proofs.trace.fits.Goals as goal

pub returns-then-lists-le-MOST_LISTS : goal.returns-then-lists-le-MOST_LISTS
returns-then-lists-le-MOST_LISTS c = grind (arith, common_steps)
