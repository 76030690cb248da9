-- Raised nodes stay in order.
use Rattle.std.proofs.Common.{◌∙◌, ap}
use Rattle.tsc_span.specs.Span.{between}
use Rattle.tsc_page_nodes.proofs.PairedOrder.{raised_pair}
use Rattle.tsc_page_nodes.proofs.nodes.Nodes.raise_hinted.Goals as goal

pub invariant_of-self : goal.invariant_of-self
invariant_of-self c = raised_pair _ c.as_slice.result.now _ _
    (between c.args.from.now c.args.to.now) c.args.value
    (c.as_slice.ensures.value ∙ ap (λ v. v.items) c.deref.ensures) c.raise_values.ensures.same
    c.raise_values.ensures.raised c.self.invariant
