-- Proves the contract of `write_stop`. Writes the line that tells why a run ended.
use Rattle.std.proofs.Common.{[], ◌∷◌, rules}
use Rattle.std.proofs.lemmas.Result.{on_err_weaker}
use Rattle.tsc_trace.specs.LogText.{line_feed}
use Rattle.tsc_run.specs.Ending.{stop_text}
use Rattle.tsc_stream.specs.Stream.{HasWritten}
use Rattle.tsc_stream.proofs.WrittenSoFar.{CouldNotWrite-behind}
use Rattle.tsc_commands.proofs.run.write_stop.Goals as goal

pub returns-clause-err : goal.returns-clause-err
returns-clause-err g c =
    let known = g.E.Sink.known in
    let old = known c.args.errors.now in
    let mid = known c.report.new.writer in
    let new = known c.write_output.new.writer in
    let text = stop_text c.args.stop in
    let first : HasWritten old mid text = search rules in
    on_err_weaker c.write_output.result
    (CouldNotWrite-behind old mid new text (line_feed ∷ []) first) c.write_output.ensures.err
