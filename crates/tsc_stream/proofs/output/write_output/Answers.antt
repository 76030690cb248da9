-- Proves the contract of `write_output`. Writes all of a text.
use Rattle.std.proofs.Common.{arith, rules}
use Rattle.tsc_stream.proofs.WrittenSoFar.{IsWriting-more, CouldNotWrite-kept, is_able}
use Rattle.tsc_stream.proofs.output.write_output.Goals as goal

pub loop-rest-preserved-in-Ok : goal.loop-rest-preserved-in-Ok
loop-rest-preserved-in-Ok g c =
    let able = is_able (g.W.Sink.known c.loop-rest.writer) _ c.in-Ok.ensures.failed in
    IsWriting-more _ _ _ _ _ _ _ c.loop-rest.invariant c.in-Ok.ensures.bytes (omega arith)
    (search rules) able c.in-Ok.ensures.after c.in-Ok.ensures.bound.0 c.in-Ok.ensures.bound.1

pub returns-in-Err-Failed-clause-err : goal.returns-in-Err-Failed-clause-err
returns-in-Err-Failed-clause-err g c =
    let reported = c.in-Err-Failed.ensures in
    CouldNotWrite-kept _ _ (g.W.Sink.known c.write.new.self) _ _ _ (search rules)
    c.loop-rest.invariant (search rules) reported.bytes (search rules) reported.after reported.why
