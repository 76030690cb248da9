-- The subtrees are asked, whatever the lazy value is.
use Rattle.std.proofs.Common.{◌∙◌, sym, ap, subst, List, map}
use Rattle.std.specs.Arc.{arc_value}
use Rattle.tsc_span.specs.Span.{Cut}
use Rattle.tsc_page_nodes.specs.Nodes.{node_keys}
use Rattle.tsc_page_model.specs.KeysAbove.{first_above}
use Rattle.tsc_page_tree.specs.Leaves.{nodes_of, AreSubtrees}
use Rattle.tsc_page_tree.proofs.Lazy.{lazy-keys}
use Rattle.tsc_page_tree.proofs.Wholes.{branch_subtrees}
use Rattle.tsc_page_tree.proofs.branch.BranchSubtree.key_above.Goals as goal

pub key_above-requires : goal.key_above-requires
key_above-requires g c =
    let is = c.deref-2.ensures.value ∙ ap (λ v. v.items) c.deref.ensures in
    record {
      subtrees = subst (AreSubtrees g.P.Subtree.nodes g.P.Subtree.IsWhole) (sym is)
          (branch_subtrees g.P.Subtree.nodes g.P.Subtree.sizes g.P.Subtree.IsWhole
          c.args.self.now.aggregate
          (arc_value c.args.self.now.subtrees).items c.requires.subtree.whole
          c.requires.subtree.sorted);
    }

pub returns : goal.returns
returns g c =
    let read = g.P.Subtree.nodes in
    let is = c.deref-2.ensures.value ∙ ap (λ v. v.items) c.deref.ensures in
    let cut : Cut = c.args.cut.now in
    c.key_above.ensures ∙ ap (λ (xs : List g.row.P.Denot). first_above cut
    (node_keys (nodes_of (map read xs)))) is
    ∙ ap (first_above cut) (sym (lazy-keys c.args.self.now.aggregate.lazy
    (nodes_of (map read (arc_value c.args.self.now.subtrees).items))))
