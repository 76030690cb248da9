-- All turns are left at first.
use Rattle.std.proofs.Common.{rules}
use Rattle.tsc_stream.proofs.limited.Limited.new.Goals as goal

pub returns-clause-reader : goal.returns-clause-reader
returns-clause-reader g c = search rules
