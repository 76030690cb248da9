-- Proves the contract of `Lists::list`. A list by its number.
use Rattle.std.specs.Prelude.{slice_get}
use Rattle.std.proofs.Common.{sym, ap, ◌∙◌, arith}
use Rattle.tsc_trace_format.proofs.Totals.{calls_within, past_lists}
use Rattle.tsc_trace_format.proofs.trace.Lists.list.Goals as goal

pub returns-then-i-len-clause-few : goal.returns-then-i-len-clause-few
returns-then-i-len-clause-few c =
    rw c.as_slice.ensures.value (calls_within c.self.inside.lists.items c.args.i c.index.result.now
    c.self.invariant (omega arith) c.index.ensures)

pub returns-else-i-len-clause-value : goal.returns-else-i-len-clause-value
returns-else-i-len-clause-value c =
    sym (ap (λ ls. slice_get ls c.args.i) (sym c.self.view_is) ∙
    past_lists c.self.inside.lists.items c.args.i (omega arith))
