-- Where there is room for both keys, there is for the new ones.
use Rattle.std.proofs.Common.{◌≡◌, ◌+◌, ℕ, nat_le, ap, subst, true, arith}
use Rattle.std.specs.Prelude.{Option, option_map}
use Rattle.tsc_span.specs.Span.{KeyBytes, key_cost}
use Rattle.tsc_page_model.specs.PageView.{new_weight}
use Rattle.tsc_page_nodes.specs.Nodes.{node_keys}
use Rattle.tsc_page_tree.specs.Roots.{TreeView, IsKnown, root_nodes}
use Rattle.tsc_page_tree.proofs.Costs.{fits_anyway}
use Rattle.tsc_page_tree.proofs.TreeLists.{known_tree}
use Rattle.tsc_page_tree.proofs.tree.Tree.has_room.Goals as goal

pub returns-then-self-cost-clause-value : goal.returns-then-self-cost-clause-value
returns-then-self-cost-clause-value c =
    let o : Option KeyBytes = option_map (λ k. k.now) c.args.first in
    let q : Option KeyBytes = option_map (λ k. k.now) c.args.second in
    subst (λ (t : TreeView). true ≡
    nat_le (t.bytes + new_weight key_cost (node_keys t.nodes) o + new_weight key_cost
    (node_keys t.nodes) q) c.args.most) c.self.view_is
    (fits_anyway (node_keys (root_nodes c.self.inside.root)) o q c.self.inside.bytes c.args.most
    c.cost.result c.cost-2.result c.cost.ensures.value c.cost-2.ensures.value
    c.if-self-cost.true)

pub returns-clause-value : goal.returns-clause-value
returns-clause-value c = ap (λ (n : ℕ). nat_le n c.args.most)
    (omega (
      arith,
      c.new_cost.ensures.value,
      c.new_cost-2.ensures.value,
      ap (λ (t : TreeView). t.bytes) c.self.view_is,
    ))

pub returns-then-self-cost-clause-known : goal.returns-then-self-cost-clause-known
returns-then-self-cost-clause-known c =
    subst IsKnown c.self.view_is (known_tree c.self.inside.root c.self.inside.count
    c.self.inside.bytes c.self.invariant)

pub returns-clause-known : goal.returns-clause-known
returns-clause-known c = subst IsKnown c.self.view_is
    (known_tree c.self.inside.root c.self.inside.count c.self.inside.bytes c.self.invariant)
