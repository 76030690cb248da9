-- What was filled is what was read, and no read has failed or told the end so far.
use Rattle.tsc_stream.proofs.ReadSoFar.{HasFilled}
use Rattle.tsc_stream.proofs.input.read_input.Given as goal

abbrev pub invariant-loop-input : goal.invariant-loop-input
invariant-loop-input g l = HasFilled (g.R.Source.known l.initial.reader) (g.R.Source.known l.reader)
    l.input.items l.filled

abbrev pub decreases-loop-input : goal.decreases-loop-input
decreases-loop-input g l = (g.R.Source.known l.reader).turns
