-- The order of members, of any object at any depth, makes no difference to what a trace is read as,
-- or why it is refused.
use Rattle.tsc_trace_format.proofs.AnyOrder.{in_any_order}
use Rattle.tsc_trace_format.proofs.laws.reads_in_any_order.Goals as goal

pub returns : goal.returns
returns c = in_any_order
