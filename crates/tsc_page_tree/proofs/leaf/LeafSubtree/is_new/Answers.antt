-- A key is new where it is not found.
use Rattle.std.proofs.Common.{◌∙◌, ap, sym, subst, List}
use Rattle.std.specs.Prelude.{not}
use Rattle.std.specs.Arc.{arc_value}
use Rattle.tsc_page_model.specs.PageView.{is_in}
use Rattle.tsc_page_nodes.specs.Nodes.{Node, IsSorted, node_keys}
use Rattle.tsc_page_nodes.proofs.Searches.{found_reported}
use Rattle.tsc_page_tree.proofs.Lazy.{sorted_without, lazy-is_in}
use Rattle.tsc_page_tree.proofs.leaf.LeafSubtree.is_new.Goals as goal

pub returns : goal.returns
returns c =
    let ns : List Node = arc_value c.args.self.now.nodes in
    let k = c.args.key.now in
    c.is_err.ensures.value ∙ found_reported k c.deref.result.now c.find.result
    (subst IsSorted (sym c.deref.ensures)
    (sorted_without c.args.self.now.aggregate.lazy ns c.requires.subtree.sorted)) c.find.ensures
    ∙ ap (λ (ms : List Node). not (is_in k (node_keys ms))) c.deref.ensures ∙
    ap not (sym (lazy-is_in c.args.self.now.aggregate.lazy k ns))
