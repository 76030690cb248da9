-- The key falls in one subtree, to which the Add is handed.
use Rattle.std.proofs.Common.{◌∙◌, ◌<◌, ap, subst, ℕ, List, map, length, arith}
use Rattle.tsc_span.specs.Span.{Cut, before}
use Rattle.tsc_page_nodes.specs.Nodes.{Node}
use Rattle.tsc_page_tree.specs.Leaves.{IsLeafAt}
use Rattle.tsc_page_tree.proofs.LeafLists.{all_some, is_subtree}
use Rattle.tsc_page_tree.proofs.KeyAdds.{key_in_subtree}
use Rattle.tsc_page_tree.proofs.subtrees.add_key.Goals as goal

pub add_key-requires : goal.add_key-requires
add_key-requires g c =
    record {
      subtree = is_subtree g.P.Subtree.nodes g.P.Subtree.IsWhole c.args.subtrees.now
          c.subtree_at-index.result c.index-subtrees-index.result
          (omega (arith, c.if-index-subtrees.false)) c.requires.subtrees;
    }

pub returns-clause-reported : goal.returns-clause-reported
returns-clause-reported g c =
    let read = g.P.Subtree.nodes in
    let items = c.args.subtrees.now in
    let ls : List (List Node) = map read items in
    let p : ℕ = c.subtree_at-index.result in
    let here : p < length items = omega (arith, c.if-index-subtrees.false) in
    let at = subst (λ (x : Cut). IsLeafAt ls x p) (c.at.ensures ∙ ap before c.search.ensures)
    c.subtree_at-index.ensures in
    key_in_subtree read items p c.index-subtrees-index.result c.add_key.new.self c.args.add.now
    (all_some read g.P.Subtree.IsWhole items g.met.P.Subtree.some c.requires.subtrees.whole)
    c.requires.subtrees.sorted here at g.P.Subtree.sizes c.add_key.result c.args.room
    c.add_key.ensures.reported
