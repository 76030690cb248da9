-- Proves the contract of `ends`. Which ends a text of two brackets excludes.
use Rattle.serde_json.specs.Data.{string}
use Rattle.tsc_trace_format.specs.TraceText.{ends_of, ends_in}
use Rattle.tsc_trace_fast.proofs.Values.{got_as, ends_is, of_result}
use Rattle.tsc_trace_fast.proofs.quick.span.ends.Goals as goal

pub returns : goal.returns
returns c =
    let brackets = c.in_ok-brackets.brackets.now in
    got_as 0 ends_of c.args.reader.now c.text.new.reader (string brackets) c.ends.result
    (ends_in brackets) c.in_ok-brackets.ensures (ends_is brackets)
    (of_result c.ends.result (ends_in brackets) c.ends.ensures)
