-- Proves the contract of `Verdict::write_line`. Writes the text of the verdict and a line feed.
use Rattle.std.proofs.Common.{[], ◌∷◌, rules}
use Rattle.std.proofs.lemmas.Result.{on_err_weaker}
use Rattle.tsc_trace.specs.LogText.{line_feed}
use Rattle.tsc_stream.specs.Stream.{HasWritten}
use Rattle.tsc_stream.proofs.WrittenSoFar.{CouldNotWrite-behind}
use Rattle.tsc_check.specs.Checking.{verdict_text}
use Rattle.tsc_check.proofs.verdict.Verdict.write_line.Goals as goal

pub returns-clause-err : goal.returns-clause-err
returns-clause-err g c =
    let known = g.W.Sink.known in
    let old = known c.args.writer.now in
    let mid = known c.write_both.new.writer in
    let new = known c.write_output.new.writer in
    let text = verdict_text c.args.self in
    let first : HasWritten old mid text = search rules in
    on_err_weaker c.write_output.result
    (CouldNotWrite-behind old mid new text (line_feed ∷ []) first) c.write_output.ensures.err
