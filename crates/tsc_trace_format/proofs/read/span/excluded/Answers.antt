-- Proves the contract of `excluded`. Whether a text of one bracket excludes the start.
use Rattle.serde_json.specs.View.{view}
use Rattle.tsc_trace_format.proofs.EndTexts.{excluded_read}
use Rattle.tsc_trace_format.proofs.read.span.excluded.Goals as goal

pub returns : goal.returns
returns c = excluded_read (view c.args.value.now) c.in_ok-text.field-0.now c.excluded.result
    c.ok_or.result c.in_ok-text.ensures c.excluded.ensures c.ok_or.ensures.value
