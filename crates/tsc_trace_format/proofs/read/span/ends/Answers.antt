-- Proves the contract of `ends`. Which ends a text of two brackets excludes.
use Rattle.serde_json.specs.View.{view}
use Rattle.tsc_trace_format.proofs.EndTexts.{ends_read}
use Rattle.tsc_trace_format.proofs.read.span.ends.Goals as goal

pub returns : goal.returns
returns c = ends_read (view c.args.value.now) c.in_ok-text.field-0.now c.ends.result c.ok_or.result
    c.in_ok-text.ensures c.ends.ensures c.ok_or.ensures.value
