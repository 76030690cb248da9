-- A reader of which no read meets any trouble, as bytes in memory, is not told as failed, unless it
-- had failed before or may be called no more often than an input may have bytes.
use Rattle.tsc_stream.proofs.Reliable.{reliable_reads_do_not_fail}
use Rattle.tsc_stream.proofs.laws.reliable_reads_do_not_fail.Goals as goal

pub returns : goal.returns
returns c = reliable_reads_do_not_fail
