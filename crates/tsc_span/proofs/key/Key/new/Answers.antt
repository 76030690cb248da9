-- A key is refused where it is too long, and only there.
use Rattle.std.proofs.Common.{rules}
use Rattle.tsc_span.proofs.key.Key.new.Goals as goal

pub returns-clause-refused : goal.returns-clause-refused
returns-clause-refused c = search rules
