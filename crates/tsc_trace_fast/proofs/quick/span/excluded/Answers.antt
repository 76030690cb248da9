-- Proves the contract of `excluded`. Whether a text of one bracket excludes the start.
use Rattle.serde_json.specs.Data.{string}
use Rattle.tsc_trace_format.specs.TraceText.{excluded_of, excluded_in}
use Rattle.tsc_trace_fast.proofs.Values.{got_as, excluded_is, of_result}
use Rattle.tsc_trace_fast.proofs.quick.span.excluded.Goals as goal

pub returns : goal.returns
returns c =
    let bracket = c.in_ok-bracket.bracket.now in
    got_as 0 excluded_of c.args.reader.now c.text.new.reader (string bracket) c.excluded.result
    (excluded_in bracket) c.in_ok-bracket.ensures (excluded_is bracket)
    (of_result c.excluded.result (excluded_in bracket) c.excluded.ensures)
