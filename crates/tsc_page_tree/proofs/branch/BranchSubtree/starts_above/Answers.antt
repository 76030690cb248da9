-- Where the prefixes tie, the subtrees are asked.
use Rattle.std.proofs.Common.{◌∙◌, ap, sym, map, List}
use Rattle.std.specs.Arc.{arc_value}
use Rattle.tsc_span.specs.Span.{Cut, is_below}
use Rattle.tsc_page_tree.specs.Leaves.{nodes_of, start_of}
use Rattle.tsc_page_tree.proofs.Lazy.{lazy-start}
use Rattle.tsc_page_tree.proofs.Reported.{reported_start}
use Rattle.tsc_page_tree.proofs.branch.BranchSubtree.starts_above.Goals as goal

pub returns-in-Some : goal.returns-in-Some
returns-in-Some g c =
    let s = c.args.self.now.aggregate in
    c.in-Some.ensures.1 _ (reported_start s.start s.joint s.lazy
    (nodes_of (map g.P.Subtree.nodes (arc_value c.args.self.now.subtrees).items))
    c.requires.whole.reported)

pub returns-in-None : goal.returns-in-None
returns-in-None g c =
    let read = g.P.Subtree.nodes in
    let cut : Cut = c.args.cut.now in
    c.first_starts_above.ensures ∙
    ap (λ (xs : List g.row.P.Denot). is_below cut (start_of (nodes_of (map read xs))))
    (c.deref-in-None.ensures.value ∙ ap (λ v. v.items) c.deref.ensures)
    ∙ ap (λ (x : Cut). is_below cut x)
    (sym (lazy-start c.args.self.now.aggregate.lazy
    (nodes_of (map read (arc_value c.args.self.now.subtrees).items))))
