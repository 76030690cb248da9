-- Without new keys no memory is asked for.
use Rattle.std.proofs.Common.{rules}
use Rattle.tsc_page_nodes.proofs.nodes.changes.reserve.Goals as goal

pub returns-then-new-eq0-clause-memory : goal.returns-then-new-eq0-clause-memory
returns-then-new-eq0-clause-memory c = search rules
