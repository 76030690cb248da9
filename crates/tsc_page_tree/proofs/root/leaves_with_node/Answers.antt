-- The first node makes a leaf.
use Rattle.std.proofs.Common.{◌≡◌, sym, subst, List, [], ◌∷◌, map, arith}
use Rattle.std.proofs.lemmas.List.{nil_from_length}
use Rattle.tsc_time.specs.Time.{zero_time}
use Rattle.tsc_time.specs.ValueView.{unowned}
use Rattle.tsc_page_nodes.specs.Nodes.{Node, node_in_gap}
use Rattle.tsc_page_tree.specs.Leaves.{nodes_of, HasNode}
use Rattle.tsc_page_tree.specs.Trees.{leaf_nodes}
use Rattle.tsc_page_tree.specs.declared.leaf.Leaf.{Leaf}
use Rattle.tsc_page_tree.proofs.LeafKeys.{has_first}
use Rattle.tsc_page_tree.proofs.root.leaves_with_node.Goals as goal

pub returns-in_ok-first_leaf-clause-made : goal.returns-in_ok-first_leaf-clause-made
returns-in_ok-first_leaf-clause-made c =
    let none : c.args.leaves.items ≡ [] =
    nil_from_length c.args.leaves.items
    (omega (arith, c.if-len-eq0.true, c.len.ensures, c.args.leaves.ok.0)) in
    subst (λ (ns : List Node). HasNode (nodes_of (map leaf_nodes c.args.leaves.items)) ns
    c.args.key.now) (sym c.in_ok-first_leaf.ensures.nodes)
    (subst (λ (ps : List Leaf). HasNode (nodes_of (map leaf_nodes ps))
    (node_in_gap c.args.key.now (unowned zero_time) ∷ []) c.args.key.now) (sym none)
    (has_first c.args.key.now))
