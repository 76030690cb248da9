-- Each of the two keys costs what it does.
use Rattle.std.proofs.Common.{arith}
use Rattle.tsc_page_nodes.proofs.nodes.new_keys.NewKeys.grown.Goals as goal

pub returns-clause-bytes : goal.returns-clause-bytes
returns-clause-bytes c = omega (arith, c.found_cost.ensures.value, c.found_cost-2.ensures.value)
