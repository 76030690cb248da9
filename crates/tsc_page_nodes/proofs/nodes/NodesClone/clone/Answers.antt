-- The keys are shared, and the values copied.
use Rattle.std.proofs.Common.{rules}
use Rattle.std.specs.Arc.{arc_value}
use Rattle.tsc_page_nodes.proofs.PairedOrder.{paired_as}
use Rattle.tsc_page_nodes.proofs.nodes.NodesClone.clone.Goals as goal

pub returns : goal.returns
returns c = search rules

pub invariant_of-result : goal.invariant_of-result
invariant_of-result c = paired_as _ (arc_value c.self.inside.keys).items _
    c.self.inside.values.items (search rules) (search rules) c.self.invariant
