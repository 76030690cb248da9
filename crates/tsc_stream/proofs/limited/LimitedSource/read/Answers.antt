-- A reader that failed is not read again.
use Rattle.std.proofs.Common.{rules}
use Rattle.tsc_stream.proofs.limited.LimitedSource.read.Goals as goal

pub returns : goal.returns
returns g c = search rules
