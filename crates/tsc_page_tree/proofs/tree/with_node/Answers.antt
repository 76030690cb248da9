-- A key that has no node gets one.
use Rattle.std.proofs.Common.{◌∙◌, sym, subst}
use Rattle.std.specs.Prelude.{option_map}
use Rattle.std.specs.Option.{option_to_list}
use Rattle.tsc_page_nodes.specs.Nodes.{IsSplitAt}
use Rattle.tsc_page_tree.specs.Roots.{root_nodes}
use Rattle.tsc_page_tree.proofs.Costs.{grown_by_node}
use Rattle.tsc_page_tree.proofs.LeafKeys.{has_node_splits}
use Rattle.tsc_page_tree.proofs.tree.with_node.Goals as goal

pub returns-in_ok-with_node-in-Some-clause-split :
    goal.returns-in_ok-with_node-in-Some-clause-split
returns-in_ok-with_node-in-Some-clause-split c =
    let old = root_nodes c.args.root in
    let new = root_nodes c.in_ok-with_node-in-Some.field-0 in
    subst (λ o. IsSplitAt old new (option_to_list (option_map (λ k. k.now) o))) (sym c.in-Some.is)
    (has_node_splits old new c.in-Some.key.now c.requires.root.sorted
    c.in_ok-with_node-in-Some.ensures.made)

pub returns-in_ok-with_node-in-Some-clause-grown :
    goal.returns-in_ok-with_node-in-Some-clause-grown
returns-in_ok-with_node-in-Some-clause-grown c =
    let old = root_nodes c.args.root in
    let new = root_nodes c.in_ok-with_node-in-Some.field-0 in
    grown_by_node old new c.in-Some.key.now c.cost.result c.in_ok-with_node-in-Some.ensures.made
    (sym c.is_new.ensures ∙ c.if-is_new.true) c.cost.ensures.value
