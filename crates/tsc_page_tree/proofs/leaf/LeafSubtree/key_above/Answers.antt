-- The nodes are asked, whatever the lazy value is.
use Rattle.std.proofs.Common.{◌∙◌, sym, ap, List}
use Rattle.std.specs.Arc.{arc_value}
use Rattle.tsc_span.specs.Span.{Cut}
use Rattle.tsc_page_nodes.specs.Nodes.{Node, node_keys}
use Rattle.tsc_page_model.specs.KeysAbove.{first_above}
use Rattle.tsc_page_tree.proofs.Lazy.{lazy-keys}
use Rattle.tsc_page_tree.proofs.leaf.LeafSubtree.key_above.Goals as goal

pub returns : goal.returns
returns c =
    let ns : List Node = arc_value c.args.self.now.nodes in
    let cut : Cut = c.args.cut.now in
    c.key_above.ensures ∙ ap (λ (ms : List Node). first_above cut (node_keys ms)) c.deref.ensures ∙
    ap (first_above cut) (sym (lazy-keys c.args.self.now.aggregate.lazy ns))
