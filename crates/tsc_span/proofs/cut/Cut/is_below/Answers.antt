-- A cut before a key lies below the one after it.
use Rattle.std.proofs.Common.{rules}
use Rattle.tsc_span.proofs.cut.Cut.is_below.Goals as goal

pub returns-in-Before-After : goal.returns-in-Before-After
returns-in-Before-After c = search rules
