-- Where the prefixes tie, the nodes are asked.
use Rattle.std.proofs.Common.{◌∙◌, ap, sym, List}
use Rattle.std.specs.Arc.{arc_value}
use Rattle.tsc_span.specs.Span.{Cut, is_below}
use Rattle.tsc_page_nodes.specs.Nodes.{Node}
use Rattle.tsc_page_tree.specs.Leaves.{start_of}
use Rattle.tsc_page_tree.proofs.Lazy.{lazy-start}
use Rattle.tsc_page_tree.proofs.Reported.{reported_start}
use Rattle.tsc_page_tree.proofs.leaf.LeafSubtree.starts_below.Goals as goal

pub returns-in-Some : goal.returns-in-Some
returns-in-Some c =
    let s = c.args.self.now.aggregate in
    c.in-Some.ensures.1 _ (reported_start s.start s.joint s.lazy (arc_value c.args.self.now.nodes)
    c.requires.whole.reported)

pub returns-in-None : goal.returns-in-None
returns-in-None c =
    let cut : Cut = c.args.cut.now in
    c.starts_below.ensures ∙ ap (λ (ns : List Node). is_below (start_of ns) cut) c.deref.ensures ∙
    ap (λ (x : Cut). is_below x cut)
    (sym (lazy-start c.args.self.now.aggregate.lazy (arc_value c.args.self.now.nodes)))
