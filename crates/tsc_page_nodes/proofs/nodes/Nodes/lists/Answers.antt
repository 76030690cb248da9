-- The nodes to be read are the nodes.
use Rattle.std.proofs.Common.{◌∙◌, ap}
use Rattle.std.specs.Arc.{arc_value}
use Rattle.tsc_page_nodes.proofs.PairedOrder.{paired_as}
use Rattle.tsc_page_nodes.proofs.nodes.Nodes.lists.Goals as goal

pub invariant_of-result : goal.invariant_of-result
invariant_of-result c = paired_as _ (arc_value c.self.inside.keys).items _
    c.self.inside.values.items (c.as_slice.ensures.value ∙ ap (λ v. v.items) c.deref.ensures)
    c.as_slice-2.ensures.value c.self.invariant
