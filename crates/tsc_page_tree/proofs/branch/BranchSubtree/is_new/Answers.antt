-- The subtrees are asked, whatever the lazy value is.
use Rattle.std.proofs.Common.{◌∙◌, ap, sym, subst, map, List}
use Rattle.std.specs.Prelude.{not}
use Rattle.std.specs.Arc.{arc_value}
use Rattle.tsc_page_model.specs.PageView.{is_in}
use Rattle.tsc_page_nodes.specs.Nodes.{node_keys}
use Rattle.tsc_page_tree.specs.Leaves.{nodes_of, AreSubtrees}
use Rattle.tsc_page_tree.proofs.Lazy.{lazy-is_in}
use Rattle.tsc_page_tree.proofs.Wholes.{branch_subtrees}
use Rattle.tsc_page_tree.proofs.branch.BranchSubtree.is_new.Goals as goal

pub is_new-requires : goal.is_new-requires
is_new-requires g c =
    let is = c.deref-2.ensures.value ∙ ap (λ v. v.items) c.deref.ensures in
    record {
      subtrees = subst (AreSubtrees g.P.Subtree.nodes g.P.Subtree.IsWhole) (sym is)
          (branch_subtrees g.P.Subtree.nodes g.P.Subtree.sizes g.P.Subtree.IsWhole
          c.args.self.now.aggregate
          (arc_value c.args.self.now.subtrees).items c.requires.subtree.whole
          c.requires.subtree.sorted);
    }

pub returns : goal.returns
returns g c =
    let read = g.P.Subtree.nodes in
    let is = c.deref-2.ensures.value ∙ ap (λ v. v.items) c.deref.ensures in
    let k = c.args.key.now in
    c.is_new.ensures ∙ ap (λ (xs : List g.row.P.Denot). not
    (is_in k (node_keys (nodes_of (map read xs))))) is
    ∙ ap not (sym (lazy-is_in c.args.self.now.aggregate.lazy k
    (nodes_of (map read (arc_value c.args.self.now.subtrees).items))))
