-- A single node is in order.
use Rattle.std.proofs.Common.{rules}
use Rattle.tsc_page_nodes.proofs.PairedOrder.{paired_single}
use Rattle.tsc_page_nodes.proofs.nodes.Nodes.of_key.Goals as goal

pub invariant_of-result : goal.invariant_of-result
invariant_of-result c = paired_single _ _ (search rules) (search rules)
