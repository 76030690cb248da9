-- The subtree before the first one that begins above the cut, or the last one.
use Rattle.std.proofs.Common.{◌∙◌, sym, ap}
use Rattle.tsc_span.specs.Span.{is_below}
use Rattle.tsc_page_tree.specs.Leaves.{start_of}
use Rattle.tsc_page_tree.proofs.SubtreeLoops.{falls_before_next}
use Rattle.tsc_page_tree.proofs.subtrees.indices.search.Goals as goal

pub returns-then-starts_above : goal.returns-then-starts_above
returns-then-starts_above g c =
    let reports = ap (λ (x : g.row.P.Denot). is_below c.args.cut.now
    (start_of (g.P.Subtree.nodes x)))
    (sym c.index-subtrees-next.is) ∙ sym c.starts_above.ensures ∙ c.if-starts_above.true in
    falls_before_next g.P.Subtree.nodes c.args.subtrees.now c.args.cut.now c.loop-next.next
    c.index-subtrees-next.result c.loop-next.invariant.0 c.loop-next-test.true reports
    c.loop-next.invariant.1
