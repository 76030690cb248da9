-- Each of the two keys counts for one.
use Rattle.std.proofs.Common.{rules}
use Rattle.tsc_page_nodes.proofs.nodes.new_keys.NewKeys.len.Goals as goal

pub returns : goal.returns
returns c = search rules
