-- Proves the contract of `write_both`. Writes two texts, one behind the other.
use Rattle.std.proofs.Common.{rules}
use Rattle.std.proofs.lemmas.Result.{on_err_weaker, on_ok_weaker}
use Rattle.tsc_stream.specs.Stream.{HasWritten}
use Rattle.tsc_stream.proofs.WrittenSoFar.{CouldNotWrite-behind, HasWritten-then}
use Rattle.tsc_stream.proofs.output.write_both.Goals as goal

pub returns-clause-err : goal.returns-clause-err
returns-clause-err g c =
    let known = g.W.Sink.known in
    let old = known c.args.writer.now in
    let mid = known c.write_output.new.writer in
    let new = known c.write_output-2.new.writer in
    let first : HasWritten old mid c.args.first.now = search rules in
    on_err_weaker c.write_output-2.result
    (CouldNotWrite-behind old mid new c.args.first.now c.args.second.now first)
    c.write_output-2.ensures.err

pub returns-clause-ok : goal.returns-clause-ok
returns-clause-ok g c =
    let known = g.W.Sink.known in
    let old = known c.args.writer.now in
    let mid = known c.write_output.new.writer in
    let new = known c.write_output-2.new.writer in
    let first : HasWritten old mid c.args.first.now = search rules in
    on_ok_weaker c.write_output-2.result
    (HasWritten-then old mid new c.args.first.now c.args.second.now first)
    c.write_output-2.ensures.ok
