-- Proves the contract of `array`. The items of an array.
use Rattle.std.proofs.Common.{sym}
use Rattle.serde_json.specs.View.{view}
use Rattle.tsc_trace_format.proofs.Items.{array_is}
use Rattle.tsc_trace_format.proofs.read.json.array.Goals as goal

pub returns-in-Some : goal.returns-in-Some
returns-in-Some c = rw c.as_slice.ensures.value
    (array_is (view c.args.value.now) _ (sym c.in-Some.ensures))
