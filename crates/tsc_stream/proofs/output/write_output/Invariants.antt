-- What is gone from the rest was written, and no write has failed so far.
use Rattle.tsc_stream.proofs.WrittenSoFar.{IsWriting}
use Rattle.tsc_stream.proofs.output.write_output.Given as goal

abbrev pub invariant-loop-rest : goal.invariant-loop-rest
invariant-loop-rest g l = IsWriting (g.W.Sink.known l.initial.writer) (g.W.Sink.known l.writer)
    l.text l.rest

abbrev pub decreases-loop-rest : goal.decreases-loop-rest
decreases-loop-rest g l = (g.W.Sink.known l.writer).turns
