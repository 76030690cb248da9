-- Nothing is told where the one inside is asked.
use Rattle.std.proofs.Common.{rules}
use Rattle.tsc_stream.proofs.limited.Limited.read_unasked.Goals as goal

pub returns-in-Open : goal.returns-in-Open
returns-in-Open g c = search rules

pub returns-in-Open-2-clause-none : goal.returns-in-Open-2-clause-none
returns-in-Open-2-clause-none g c = search rules
