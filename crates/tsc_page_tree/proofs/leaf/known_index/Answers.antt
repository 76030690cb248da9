-- A key that is found has a node.
use Rattle.std.proofs.Common.{sym, subst, List}
use Rattle.std.specs.Prelude.{option_map}
use Rattle.tsc_page_nodes.specs.Nodes.{Node, IsFoundAt}
use Rattle.tsc_page_nodes.proofs.Searches.{known_at}
use Rattle.tsc_page_tree.specs.Across.{HasKey}
use Rattle.tsc_page_tree.proofs.leaf.known_index.Goals as goal

pub returns-in-Ok : goal.returns-in-Ok
returns-in-Ok c =
    let nodes : List Node = c.args.nodes.now in
    let k = c.in-Some.key.now in
    subst (λ o. HasKey (option_map (λ k. k.now) o) nodes) (sym c.in-Some.is)
    (known_at nodes k c.in-Ok.index (subst (IsFoundAt nodes k) c.in-Ok.is c.find.ensures))
